-- The faults of a function and of a file, from those that were added.

use Rattle.std.proofs.Common.{◌≡◌, ℕ, zero, suc, ◌+◌, ◌<◌, ◌≤◌, ◌⊎◌, ◌↔◌, inl, inr, List, [], ◌∷◌, ◌++◌, Option, Some, None, false, take, get_or, length, refl, sym, ap, ◌∙◌, subst, arith, append-nil}
use Rattle.std.specs.Prelude.{MatchOption}
use Rattle.std.specs.List.{Contains, All, flat_map}
use Rattle.std.proofs.lemmas.Grind.{flat_map-append}
use Rattle.std.proofs.lemmas.List.{take_more}
use Rattle.std.proofs.lemmas.List.Elements.{All-contains, Contains-append_left, Contains-append_right, Contains-append_cases}
use Rattle.c_lexer.specs.declared.token.Kind.{Kind}
use Rattle.c_tree.specs.declared.tree.Block.{Block}
use Rattle.c_tree.specs.declared.tree.Core.TheVariants as v_core
use Rattle.c_tree.specs.declared.tree.Declarator.{Declarator, out-Declarator}
use Rattle.c_tree.specs.declared.tree.Item.{Item}
use Rattle.c_tree.specs.declared.tree.Item.TheVariants as v_item
use Rattle.c_tree.specs.declared.tree.Specs.{Specs}
use Rattle.c_tree.specs.declared.tree.Unit.{Unit}
use Rattle.c_tree.specs.Jumps as rules
use Rattle.c_tree.specs.Jumps.{Blamed, Blames, Jumps, IsFaultOf, IsFileFault, block_jumps, bodies_in, functions_in, SecondLabel, MissingLabel, Redefined, blame}
use Rattle.c_tree.specs.Lexemes.{Lexeme, kind_at, spelling_at}
use Rattle.c_tree.specs.TreeEvents.{tree_steps}
use Rattle.c_tree.proofs.Folds.{declarator_folds, core_name_folds, core_group_folds, core_empty_folds}
use Rattle.c_jumps.specs.declared.fault.Blamed as code
use Rattle.c_jumps.specs.Faults.{IsFaultless, IsFirstFault, blamed_by}
use Rattle.c_jumps.specs.declared.around.Around.{Around}
use Rattle.c_jumps.specs.Walk.{FoundJumps, with_part}
use Rattle.c_jumps.specs.Names.{Adds, AreNamesOf, IsSecondName, IsMissingName, IsFaultIn, declarator_name, core_name}
use Rattle.c_jumps.proofs.Adding.{adds_both, adds_list, adds_same}

-- ---- The name of a declarator

module _ (kind_of : ℕ → Option Kind) (bytes_of : ℕ → List ℕ) where
  pub name_in_declarator : (declarator : Declarator) →
      declarator_name kind_of bytes_of declarator ≡ core_name kind_of bytes_of (out-Declarator declarator).core
  unfolding declarator_name core_name
  name_in_declarator declarator = ap (λ met. met.name) (declarator_folds (tree_steps kind_of bytes_of) declarator)

  pub name_in_name : (token : ℕ) → core_name kind_of bytes_of (v_core.Name token) ≡ Some token
  unfolding core_name
  name_in_name token = ap (λ met. met.name) (core_name_folds (tree_steps kind_of bytes_of) token)

  pub name_in_group : (declarator : Declarator) (marks : List ℕ) →
      core_name kind_of bytes_of (v_core.Group declarator marks) ≡ declarator_name kind_of bytes_of declarator
  unfolding declarator_name core_name
  name_in_group declarator marks = ap (λ met. met.name) (core_group_folds (tree_steps kind_of bytes_of) declarator marks)

  pub name_in_nothing : core_name kind_of bytes_of v_core.Empty ≡ None
  unfolding core_name
  name_in_nothing = ap (λ met. met.name) (core_empty_folds (tree_steps kind_of bytes_of))

pub ruleset name_laws = (name_in_declarator, name_in_name, name_in_group, name_in_nothing)

-- The name of the function that an item defines.
pub name_of_function : (kind_of : ℕ → Option Kind) (bytes_of : ℕ → List ℕ) (item : Item) (specs : Specs) (declarator : Declarator) (body : Block) (name : Option ℕ) →
    item ≡ v_item.Define specs declarator body → name ≡ declarator_name kind_of bytes_of declarator →
    rules.name_list kind_of bytes_of name ≡ functions_in kind_of bytes_of item
unfolding declarator_name
name_of_function kind_of bytes_of item specs declarator body name is named =
    ap (rules.name_list kind_of bytes_of) named ∙ sym (ap (functions_in kind_of bytes_of) is)

pub item_more : {A : Type 0} (f : Item → List A) (items : List Item) (i : ℕ) (item : Item) → i < length items → item ≡ get_or items i item →
    flat_map f (take (i + 1) items) ≡ flat_map f (take i items) ++ f item
item_more f items i item inside is =
    ap (flat_map f) (take_more items i item inside) ∙
    (flat_map-append f (take i items) (get_or items i item ∷ []) ∙
    ap (λ rest. flat_map f (take i items) ++ rest) (append-nil (f (get_or items i item)) ∙ ap f (sym is)))

-- ---- Functions

abbrev nothing_yet : Blames → FoundJumps
nothing_yet faults = record { faults = faults; defaults = []; labels = []; gotos = [] }

abbrev outside : Around
outside = record { in_loop = false; in_switch = false }

-- What a walk over the body of a function leaves.
pub walk_leaves : (faults : Blames) (jumps : Jumps) (begin end : FoundJumps) (around : Around) → end ≡ with_part begin jumps around →
    begin ≡ nothing_yet faults → around ≡ outside →
    (end.faults ≡ faults ++ jumps.strays false false) × (end.labels ≡ jumps.labels) × (end.gotos ≡ jumps.gotos)
unfolding with_part
walk_leaves faults jumps begin end around is begins stands =
    let e : end ≡ with_part (nothing_yet faults) jumps outside =
    is ∙ (ap (λ (found : FoundJumps). with_part found jumps around) begins ∙ ap (λ (a : Around). with_part (nothing_yet faults) jumps a) stands) in
    (ap (λ (found : FoundJumps). found.faults) e, ap (λ (found : FoundJumps). found.labels) e, ap (λ (found : FoundJumps). found.gotos) e)

module _ (bytes_of : ℕ → List ℕ) where
  module _ (body : Block) where
    abbrev IsFound : List (List ℕ) → Blamed → Type 0
    IsFound names b =
        (Contains ((block_jumps body).strays false false) b ⊎ IsSecondName bytes_of SecondLabel (block_jumps body).labels b)
        ⊎ IsMissingName bytes_of MissingLabel (block_jumps body).gotos names b

    is_found : (names : List (List ℕ)) → AreNamesOf bytes_of (block_jumps body).labels names → (b : Blamed) → IsFaultOf bytes_of body b → IsFound names b
    is_found names are b (rules.IsFaultOf.stray blamed stands) = inl (inl stands)
    is_found names are b (rules.IsFaultOf.second_label token second) = inl (inr (record { second = second; is = refl }))
    is_found names are b (rules.IsFaultOf.missing_label token stands missing) =
        inr (record { stands = stands; missing = λ h. missing ((are (bytes_of token)).0 h); is = refl })

    is_fault : (names : List (List ℕ)) → AreNamesOf bytes_of (block_jumps body).labels names → (b : Blamed) → IsFound names b → IsFaultOf bytes_of body b
    is_fault names are b (inl (inl stands)) = rules.IsFaultOf.stray b stands
    is_fault names are b (inl (inr h)) = subst (IsFaultOf bytes_of body) (sym h.is) (rules.IsFaultOf.second_label b.token h.second)
    is_fault names are b (inr h) =
        subst (IsFaultOf bytes_of body) (sym h.is)
        (rules.IsFaultOf.missing_label b.token h.stands (λ s. h.missing ((are (bytes_of b.token)).1 s)))

    -- The strays, then the second labels, and then what `goto` lacks.
    faults_in_order : (old with_seconds new : Blames) (names : List (List ℕ)) → AreNamesOf bytes_of (block_jumps body).labels names →
        Adds (IsSecondName bytes_of SecondLabel (block_jumps body).labels) (old ++ (block_jumps body).strays false false) with_seconds →
        Adds (IsMissingName bytes_of MissingLabel (block_jumps body).gotos names) with_seconds new →
        Adds (IsFaultOf bytes_of body) old new
    faults_in_order old with_seconds new names are seconds missing =
        let strays = (block_jumps body).strays false false in
        let first = adds_list old strays in
        let both : Adds (λ b. Contains strays b ⊎ IsSecondName bytes_of SecondLabel (block_jumps body).labels b) old with_seconds =
        adds_both (Contains strays) (IsSecondName bytes_of SecondLabel (block_jumps body).labels) (λ b. Contains strays b ⊎ IsSecondName bytes_of SecondLabel (block_jumps body).labels b)
        old (old ++ strays) with_seconds first seconds (λ b. (λ h. h, λ h. h)) in
        adds_both (λ b. Contains strays b ⊎ IsSecondName bytes_of SecondLabel (block_jumps body).labels b)
        (IsMissingName bytes_of MissingLabel (block_jumps body).gotos names) (IsFaultOf bytes_of body)
        old with_seconds new both missing (λ b. (is_found names are b, is_fault names are b))

    pub faults_of_function : (old strayed with_seconds new : Blames) (labels gotos : List ℕ) (names : List (List ℕ)) →
        strayed ≡ old ++ (block_jumps body).strays false false → labels ≡ (block_jumps body).labels → gotos ≡ (block_jumps body).gotos →
        AreNamesOf bytes_of labels names → Adds (IsSecondName bytes_of SecondLabel labels) strayed with_seconds →
        Adds (IsMissingName bytes_of MissingLabel gotos names) with_seconds new → Adds (IsFaultOf bytes_of body) old new
    faults_of_function old strayed with_seconds new labels gotos names strays labelled jumped are seconds missing =
        faults_in_order old with_seconds new names
        (subst (λ (list : List ℕ). AreNamesOf bytes_of list names) labelled are)
        (subst (λ (list : List ℕ). Adds (IsSecondName bytes_of SecondLabel list) (old ++ (block_jumps body).strays false false) with_seconds) labelled
        (subst (λ (blames : Blames). Adds (IsSecondName bytes_of SecondLabel labels) blames with_seconds) strays seconds))
        (subst (λ (list : List ℕ). Adds (IsMissingName bytes_of MissingLabel list names) with_seconds new) jumped missing)

  -- ---- Items

  faults_append : (bodies more : List Block) (b : Blamed) →
      IsFaultIn bytes_of (bodies ++ more) b ↔ (IsFaultIn bytes_of bodies b ⊎ IsFaultIn bytes_of more b)
  faults_append bodies more b = (
    λ h. elim (Contains-append_cases bodies more h.body h.stands) [
      | inl s ↦ inl (record { body = h.body; stands = s; fault = h.fault })
      | inr s ↦ inr (record { body = h.body; stands = s; fault = h.fault })
    ],
    λ h. elim h [
      | inl f ↦ record { body = f.body; stands = Contains-append_left bodies more f.body f.stands; fault = f.fault }
      | inr f ↦ record { body = f.body; stands = Contains-append_right bodies more f.body f.stands; fault = f.fault }
    ],
  )

  alone : (body other : Block) → Contains (body ∷ []) other → body ≡ other
  alone body other h =
      elim (Contains-append_cases [] (body ∷ []) other h) [
        | inl none ↦ absurd (omega (arith, none.1))
        | inr one ↦ only one
      ]
    where
      only : Contains (body ∷ []) other → body ≡ other
      only (zero, within, is) = is
      only (suc k, within, is) = absurd (omega (arith, within))

  pub faults_of_one : (body : Block) (old new : Blames) → Adds (IsFaultOf bytes_of body) old new → Adds (IsFaultIn bytes_of (body ∷ [])) old new
  faults_of_one body old new adds =
      adds_same (IsFaultOf bytes_of body) (IsFaultIn bytes_of (body ∷ [])) old new adds
      (λ b. (
        λ h. subst (λ v. IsFaultOf bytes_of v b) (sym (alone body h.body h.stands)) h.fault,
        λ f. record { body = body; stands = (0, omega arith, refl); fault = f },
      ))

  pub faults_of_none : (b : Blamed) → ¬ IsFaultIn bytes_of [] b
  faults_of_none b h = absurd (omega (arith, h.stands.1))

  pub faults_more : (items : List Item) (i : ℕ) (item : Item) (old between new : Blames) → i < length items → item ≡ get_or items i item →
      Adds (IsFaultIn bytes_of (flat_map bodies_in (take i items))) old between →
      Adds (IsFaultIn bytes_of (bodies_in item)) between new →
      Adds (IsFaultIn bytes_of (flat_map bodies_in (take (i + 1) items))) old new
  faults_more items i item old between new inside is first second =
      subst (λ bodies. Adds (IsFaultIn bytes_of bodies) old new) (sym (item_more bodies_in items i item inside is))
      (adds_both (IsFaultIn bytes_of (flat_map bodies_in (take i items))) (IsFaultIn bytes_of (bodies_in item))
      (IsFaultIn bytes_of (flat_map bodies_in (take i items) ++ bodies_in item)) old between new first second
      (faults_append (flat_map bodies_in (take i items)) (bodies_in item)))

-- ---- Files

module _ (kind_of : ℕ → Option Kind) (bytes_of : ℕ → List ℕ) (unit : Unit) where
  abbrev IsSeen : Blamed → Type 0
  IsSeen b =
      IsFaultIn bytes_of (flat_map bodies_in unit.items) b
      ⊎ IsSecondName bytes_of Redefined (flat_map (functions_in kind_of bytes_of) unit.items) b

  is_seen : (b : Blamed) → IsFileFault kind_of bytes_of unit b → IsSeen b
  is_seen b (rules.IsFileFault.of_function body blamed stands fault) = inl (record { body = body; stands = stands; fault = fault })
  is_seen b (rules.IsFileFault.redefined token second) = inr (record { second = second; is = refl })

  is_file_fault : (b : Blamed) → IsSeen b → IsFileFault kind_of bytes_of unit b
  is_file_fault b (inl h) = rules.IsFileFault.of_function h.body b h.stands h.fault
  is_file_fault b (inr h) = subst (IsFileFault kind_of bytes_of unit) (sym h.is) (rules.IsFileFault.redefined b.token h.second)

  pub first_of_file : (between found : Blames) →
      Adds (IsFaultIn bytes_of (flat_map bodies_in unit.items)) [] between →
      Adds (IsSecondName bytes_of Redefined (flat_map (functions_in kind_of bytes_of) unit.items)) between found →
      (r : Option code.Blamed) →
      MatchOption r (found ≡ []) (λ least. Contains found (blamed_by least) × All (λ (other : Blamed). least.token ≤ other.token) found) →
      MatchOption r (IsFaultless kind_of bytes_of unit) (λ least. IsFirstFault kind_of bytes_of unit (blamed_by least))
  first_of_file between found first second r least = of_result r least
    where
      all : Adds (IsFileFault kind_of bytes_of unit) [] found
      all =
          adds_both (IsFaultIn bytes_of (flat_map bodies_in unit.items))
          (IsSecondName bytes_of Redefined (flat_map (functions_in kind_of bytes_of) unit.items))
          (IsFileFault kind_of bytes_of unit) [] between found first second (λ b. (is_seen b, is_file_fault b))

      none : (b : Blamed) → ¬ Contains [] b
      none b h = absurd (omega (arith, h.1))

      of_result : (r : Option code.Blamed) →
          MatchOption r (found ≡ []) (λ least. Contains found (blamed_by least) × All (λ (other : Blamed). least.token ≤ other.token) found) →
          MatchOption r (IsFaultless kind_of bytes_of unit) (λ least. IsFirstFault kind_of bytes_of unit (blamed_by least))
      of_result None e = λ b fault. none b (subst (λ list. Contains list b) e ((all b).1 (inr fault)))
      of_result (Some least) h = record {
        fault = elim ((all (blamed_by least)).0 h.0) [ inl n ↦ absurd (none (blamed_by least) n) | inr f ↦ f ];
        least = λ other fault. All-contains (λ (o : Blamed). least.token ≤ o.token) found other h.1 ((all other).1 (inr fault));
      }

-- The first fault of a file of these lexemes, where the walk was over all of its items.
pub first_of_lexemes : (lexemes kept : List Lexeme) (unit : Unit) (taken : List Item) (functions : List ℕ) (between found : Blames) →
    kept ≡ lexemes → taken ≡ unit.items →
    Adds (IsFaultIn (spelling_at kept) (flat_map bodies_in taken)) [] between →
    functions ≡ flat_map (functions_in (kind_at lexemes) (spelling_at lexemes)) taken →
    Adds (IsSecondName (spelling_at kept) Redefined functions) between found →
    (r : Option code.Blamed) →
    MatchOption r (found ≡ []) (λ least. Contains found (blamed_by least) × All (λ (other : Blamed). least.token ≤ other.token) found) →
    MatchOption r (IsFaultless (kind_at lexemes) (spelling_at lexemes) unit) (λ least. IsFirstFault (kind_at lexemes) (spelling_at lexemes) unit (blamed_by least))
first_of_lexemes lexemes kept unit taken functions between found same all first named second r least =
    first_of_file (kind_at lexemes) (spelling_at lexemes) unit between found
    (subst (λ (items : List Item). Adds (IsFaultIn (spelling_at lexemes) (flat_map bodies_in items)) [] between) all
    (subst (λ (list : List Lexeme). Adds (IsFaultIn (spelling_at list) (flat_map bodies_in taken)) [] between) same first))
    (subst (λ (tokens : List ℕ). Adds (IsSecondName (spelling_at lexemes) Redefined tokens) between found)
    (named ∙ ap (flat_map (functions_in (kind_at lexemes) (spelling_at lexemes))) all)
    (subst (λ (list : List Lexeme). Adds (IsSecondName (spelling_at list) Redefined functions) between found) same second))
    r least
