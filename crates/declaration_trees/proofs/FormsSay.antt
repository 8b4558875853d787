-- What the forms of declarations say, by their fields, before the rest.

use Rattle.std.proofs.Common.{◌≡◌, ℕ, false, List, [], ◌∷◌, ◌++◌, Option, Some, None, map, refl, ap, ◌∙◌, append_assoc}
use Rattle.std.specs.List.{flat_map}
use Rattle.std.specs.Option.{option_map}
use Rattle.c_lexer.specs.declared.token.Kind.{Kind}
use Rattle.c_lexer.specs.declared.keyword.TheConstants.{KEY_ALIGNAS, KEY_ATOMIC, KEY_ENUM}
use Rattle.c_lexer.specs.declared.mark.TheConstants.{MARK_LEFT_PAREN, MARK_RIGHT_PAREN}
use Rattle.c_lexer.specs.declared.mark.TheConstants.{MARK_LEFT_BRACE, MARK_RIGHT_BRACE}
use Rattle.c_lexer.specs.declared.mark.TheConstants.{MARK_EQUAL, MARK_COMMA}
use Rattle.c_scopes.specs.Events.{Event, Declares}
use Rattle.c_tree.specs.declared.symbol.Want.TheVariants as want
use Rattle.c_tree.specs.declared.symbol.Slot.TheVariants as slot
use Rattle.c_tree.specs.declared.tree.TypeName.{TypeName}
use Rattle.c_tree.specs.declared.tree.Spec.{Spec}
use Rattle.c_tree.specs.declared.tree.Spec.TheVariants as spec
use Rattle.c_tree.specs.declared.tree.Enumerator.{Enumerator, roll-Enumerator, out-roll-Enumerator}
use Rattle.c_tree.specs.declared.tree.Declaration.{Declaration}
use Rattle.c_tree.specs.declared.tree.Expr.{Expr}
use Rattle.c_tree.specs.declared.tree.Assign.{Assign}
use Rattle.c_tree.specs.Forms.{sole}
use Rattle.c_tree.specs.Folds.{spec_fold, declaration_fold, enumerator_fold, expr_fold}
use Rattle.c_tree.specs.Spell.{Symbols, joined, others, wanted_if, brace_end, spec_spelling, declaration_spelling, enumerator_spelling, enumerator_level, expr_spelling, type_name_spelling}
use Rattle.c_tree.specs.TreeEvents.{Met, all_met, some_met}
use Rattle.c_tree.proofs.Folds as fold
use Rattle.c_tree.proofs.Spellings as spell
use Rattle.expression_trees.specs.Saying.{Said, ◌and◌, token}
use Rattle.expression_trees.specs.Trees.{steps_of, of_expr, of_assign, of_type_name, of_spec}
use Rattle.expression_trees.proofs.FormsSay.{same_said, said_of, each, pairs, values, commas, brace_ends, each_is, expr_before}
use Rattle.declaration_trees.specs.Trees.{of_specs, of_enumerator, of_member}
use Rattle.declaration_trees.proofs.Standing.{meets}

-- A tag, where there is one, and then the rest.
abbrev pub tagged : Option ℕ → Said → Said
tagged None k = k
tagged (Some n) k = token n want.Word k

module _ {A : Type 0} (symbols : A → Symbols) (met : A → Met) (events : Met → List Event) where
  flat_is : (xs : List A) (s : Symbols) (e : List Event) →
      said_of (joined (map symbols xs) ++ s) (flat_map events (map met xs) ++ e) ≡ each (λ a. said_of (symbols a) (events (met a))) xs (said_of s e)
  flat_is [] s e = refl
  flat_is (x ∷ xs) s e =
      same_said (append_assoc (symbols x) (joined (map symbols xs)) s) (append_assoc (events (met x)) (flat_map events (map met xs)) e) ∙
      ap (λ (z : Said). record { symbols = symbols x ++ z.symbols; events = events (met x) ++ z.events }) (flat_is xs s e)

module _ {A : Type 0} (symbols : A → Symbols) (met : A → Met) where
  abbrev by_parts : A → Said
  by_parts a = record { symbols = symbols a; events = (met a).events }

  pub pairs_are : (ends : List ℕ → Symbols) (ps : List (ℕ × A)) (rs : List ℕ) (s : Symbols) (e : List Event) →
      said_of (others ends (map symbols (values ps)) (commas ps ++ rs) ++ s) (all_met (map met (values ps)) ++ e) ≡
      pairs by_parts ps (said_of (ends rs ++ s) e)
  pairs_are ends [] rs s e = refl
  pairs_are ends (p ∷ ps) rs s e =
      same_said (ap (λ (z : Symbols). record { token = p.0; want = want.Mark MARK_COMMA } ∷ z) (append_assoc (symbols p.1) (others ends (map symbols (values ps)) (commas ps ++ rs)) s))
      (append_assoc (met p.1).events (all_met (map met (values ps))) e) ∙
      ap (λ (z : Said). token p.0 (want.Mark MARK_COMMA) (by_parts p.1 and z)) (pairs_are ends ps rs s e)

module _ (kind_of : ℕ → Option Kind) (bytes_of : ℕ → List ℕ) where
  pub sole_before : (a : Assign) (k : Said) → of_expr kind_of bytes_of (sole a) and k ≡ of_assign kind_of bytes_of a and k
  sole_before a k = expr_before kind_of bytes_of a [] k

  -- ---- Specifiers (6.7.1 to 6.7.5)

  pub storage_before : (n : ℕ) (k : Said) → of_spec kind_of bytes_of (spec.Storage n) and k ≡ token n (want.Among slot.Storage) k
  storage_before n k = same_said (ap (λ (z : Symbols). z ++ k.symbols) (spell.spec_storage_spelling_lem n))
      (ap (λ (z : Met). z.events ++ k.events) (fold.spec_storage_folds (steps_of kind_of bytes_of) n))

  pub function_before : (n : ℕ) (k : Said) → of_spec kind_of bytes_of (spec.Function n) and k ≡ token n (want.Among slot.Function) k
  function_before n k = same_said (ap (λ (z : Symbols). z ++ k.symbols) (spell.spec_function_spelling_lem n))
      (ap (λ (z : Met). z.events ++ k.events) (fold.spec_function_folds (steps_of kind_of bytes_of) n))

  pub qualifier_before : (n : ℕ) (k : Said) → of_spec kind_of bytes_of (spec.Qualifier n) and k ≡ token n (want.Among slot.Qualifier) k
  qualifier_before n k = same_said (ap (λ (z : Symbols). z ++ k.symbols) (spell.spec_qualifier_spelling_lem n))
      (ap (λ (z : Met). z.events ++ k.events) (fold.spec_qualifier_folds (steps_of kind_of bytes_of) n))

  pub atomic_before : (t : TypeName) (a l r : ℕ) (k : Said) → of_spec kind_of bytes_of (spec.Atomic t (a ∷ l ∷ r ∷ [])) and k ≡
      token a (want.Key KEY_ATOMIC) (token l (want.Mark MARK_LEFT_PAREN) (of_type_name kind_of bytes_of t and token r (want.Mark MARK_RIGHT_PAREN) k))
  atomic_before t a l r k = same_said
      (ap (λ (z : Symbols). z ++ k.symbols) (spell.spec_atomic_spelling_lem t (a ∷ l ∷ r ∷ [])) ∙
      ap (λ (z : Symbols). record { token = a; want = want.Key KEY_ATOMIC } ∷ (record { token = l; want = want.Mark MARK_LEFT_PAREN } ∷ z)) (append_assoc (type_name_spelling t) _ k.symbols))
      (ap (λ (z : Met). z.events ++ k.events) (fold.spec_atomic_folds (steps_of kind_of bytes_of) t (a ∷ l ∷ r ∷ [])))

  pub align_type_before : (t : TypeName) (a l r : ℕ) (k : Said) → of_spec kind_of bytes_of (spec.AlignType t (a ∷ l ∷ r ∷ [])) and k ≡
      token a (want.Key KEY_ALIGNAS) (token l (want.Mark MARK_LEFT_PAREN) (of_type_name kind_of bytes_of t and token r (want.Mark MARK_RIGHT_PAREN) k))
  align_type_before t a l r k = same_said
      (ap (λ (z : Symbols). z ++ k.symbols) (spell.spec_align_type_spelling_lem t (a ∷ l ∷ r ∷ [])) ∙
      ap (λ (z : Symbols). record { token = a; want = want.Key KEY_ALIGNAS } ∷ (record { token = l; want = want.Mark MARK_LEFT_PAREN } ∷ z)) (append_assoc (type_name_spelling t) _ k.symbols))
      (ap (λ (z : Met). z.events ++ k.events) (fold.spec_align_type_folds (steps_of kind_of bytes_of) t (a ∷ l ∷ r ∷ [])))

  pub align_expr_before : (x : Expr) (a l r : ℕ) (k : Said) → of_spec kind_of bytes_of (spec.AlignExpr x (a ∷ l ∷ r ∷ [])) and k ≡
      token a (want.Key KEY_ALIGNAS) (token l (want.Mark MARK_LEFT_PAREN) (of_expr kind_of bytes_of x and token r (want.Mark MARK_RIGHT_PAREN) k))
  align_expr_before x a l r k = same_said
      (ap (λ (z : Symbols). z ++ k.symbols) (spell.spec_align_expr_spelling_lem x (a ∷ l ∷ r ∷ [])) ∙
      ap (λ (z : Symbols). record { token = a; want = want.Key KEY_ALIGNAS } ∷ (record { token = l; want = want.Mark MARK_LEFT_PAREN } ∷ z)) (append_assoc (expr_spelling x) _ k.symbols))
      (ap (λ (z : Met). z.events ++ k.events) (fold.spec_align_expr_folds (steps_of kind_of bytes_of) x (a ∷ l ∷ r ∷ [])))

  -- ---- Structures and unions (6.7.2.1)

  pub record_tag_before : (key tag : ℕ) (k : Said) → of_spec kind_of bytes_of (spec.Record key (Some tag) None []) and k ≡ token key (want.Among slot.RecordKey) (token tag want.Word k)
  record_tag_before key tag k = same_said (ap (λ (z : Symbols). z ++ k.symbols) (spell.spec_record_spelling_lem key (Some tag) None []))
      (ap (λ (z : Met). z.events ++ k.events) (fold.spec_record_folds (steps_of kind_of bytes_of) key (Some tag) None []))

  tag_is : (tag : Option ℕ) (s : Symbols) (e : List Event) → said_of (wanted_if tag want.Word ++ s) e ≡ tagged tag (said_of s e)
  tag_is None s e = refl
  tag_is (Some n) s e = refl

  pub record_body_before : (key : ℕ) (tag : Option ℕ) (l r : ℕ) (ms : List Declaration) (k : Said) → of_spec kind_of bytes_of (spec.Record key tag (Some ms) (l ∷ r ∷ [])) and k ≡
      token key (want.Among slot.RecordKey) (tagged tag (token l (want.Mark MARK_LEFT_BRACE) (each (of_member kind_of bytes_of) ms (token r (want.Mark MARK_RIGHT_BRACE) k))))
  record_body_before key tag l r ms k =
      let S = steps_of kind_of bytes_of in
      let inside = each (of_member kind_of bytes_of) ms (token r (want.Mark MARK_RIGHT_BRACE) k) in
      same_said
      (ap (λ (z : Symbols). z ++ k.symbols) (spell.spec_record_spelling_lem key tag (Some ms) (l ∷ r ∷ [])) ∙
      ap (λ (z : Symbols). record { token = key; want = want.Among slot.RecordKey } ∷ z) (append_assoc (wanted_if tag want.Word) _ k.symbols ∙
      ap (λ (z : Symbols). wanted_if tag want.Word ++ (record { token = l; want = want.Mark MARK_LEFT_BRACE } ∷ z)) (append_assoc (joined (map declaration_spelling ms)) _ k.symbols)))
      (ap (λ (z : Met). z.events ++ k.events) (fold.spec_record_folds S key tag (Some ms) (l ∷ r ∷ []))) ∙
      ap (λ (z : Said). token key (want.Among slot.RecordKey) z)
      (tag_is tag _ _ ∙ ap (tagged tag) (ap (λ (z : Said). token l (want.Mark MARK_LEFT_BRACE) z)
      (flat_is declaration_spelling (declaration_fold S) (λ (m : Met). m.as_member) ms (record { token = r; want = want.Mark MARK_RIGHT_BRACE } ∷ k.symbols) k.events)))

  -- ---- Enumerations (6.7.2.2)

  pub enumeration_tag_before : (key tag : ℕ) (k : Said) → of_spec kind_of bytes_of (spec.Enumeration key (Some tag) None []) and k ≡ token key (want.Key KEY_ENUM) (token tag want.Word k)
  enumeration_tag_before key tag k = same_said (ap (λ (z : Symbols). z ++ k.symbols) (spell.spec_enumeration_spelling_lem key (Some tag) None []))
      (ap (λ (z : Met). z.events ++ k.events) (fold.spec_enumeration_folds (steps_of kind_of bytes_of) key (Some tag) None []))

  pub enumeration_body_before : (key : ℕ) (tag : Option ℕ) (l : ℕ) (x : Enumerator) (ps : List (ℕ × Enumerator)) (rs : List ℕ) (k : Said) →
      of_spec kind_of bytes_of (spec.Enumeration key tag (Some (x ∷ values ps)) (l ∷ (commas ps ++ rs))) and k ≡
      token key (want.Key KEY_ENUM) (tagged tag (token l (want.Mark MARK_LEFT_BRACE) (of_enumerator kind_of bytes_of x and pairs (of_enumerator kind_of bytes_of) ps (brace_ends rs k))))
  enumeration_body_before key tag l x ps rs k =
      let S = steps_of kind_of bytes_of in
      same_said
      (ap (λ (z : Symbols). z ++ k.symbols) (spell.spec_enumeration_spelling_lem key tag (Some (x ∷ values ps)) (l ∷ (commas ps ++ rs))) ∙
      ap (λ (z : Symbols). record { token = key; want = want.Key KEY_ENUM } ∷ z) (append_assoc (wanted_if tag want.Word) _ k.symbols ∙
      ap (λ (z : Symbols). wanted_if tag want.Word ++ (record { token = l; want = want.Mark MARK_LEFT_BRACE } ∷ z)) (append_assoc (enumerator_spelling x) _ k.symbols)))
      (ap (λ (z : Met). z.events ++ k.events) (fold.spec_enumeration_folds S key tag (Some (x ∷ values ps)) (l ∷ (commas ps ++ rs))) ∙ append_assoc (enumerator_fold S x).events _ k.events) ∙
      ap (λ (z : Said). token key (want.Key KEY_ENUM) z)
      (tag_is tag _ _ ∙ ap (tagged tag) (ap (λ (z : Said). token l (want.Mark MARK_LEFT_BRACE) (of_enumerator kind_of bytes_of x and z))
      (pairs_are enumerator_spelling (enumerator_fold S) brace_end ps rs k.symbols k.events)))

  pub enumerator_before : (n : ℕ) (k : Said) → of_enumerator kind_of bytes_of (roll-Enumerator (record { name = n; value = None; marks = [] })) and k ≡ token n want.Word (meets (Declares (bytes_of n) false) k)
  enumerator_before n k =
      let S = steps_of kind_of bytes_of in
      let x : Enumerator = roll-Enumerator (record { name = n; value = None; marks = [] }) in
      let out = out-roll-Enumerator (record { name = n; value = None; marks = [] }) in
      same_said
      (ap (λ (z : Symbols). z ++ k.symbols) (spell.enumerator_spelling_lem x) ∙
      ap (λ (y : _). enumerator_level (record { name = y.name; value = option_map expr_spelling y.value; marks = y.marks }) ++ k.symbols) out)
      (ap (λ (z : Met). z.events ++ k.events) (fold.enumerator_folds S x) ∙
      ap (λ (y : _). (some_met (option_map (expr_fold S) y.value) ++ Declares (bytes_of y.name) false ∷ []) ++ k.events) out)

  pub valued_before : (n q : ℕ) (v : Expr) (k : Said) → of_enumerator kind_of bytes_of (roll-Enumerator (record { name = n; value = Some v; marks = q ∷ [] })) and k ≡
      token n want.Word (token q (want.Mark MARK_EQUAL) (of_expr kind_of bytes_of v and meets (Declares (bytes_of n) false) k))
  valued_before n q v k =
      let S = steps_of kind_of bytes_of in
      let x : Enumerator = roll-Enumerator (record { name = n; value = Some v; marks = q ∷ [] }) in
      let out = out-roll-Enumerator (record { name = n; value = Some v; marks = q ∷ [] }) in
      same_said
      (ap (λ (z : Symbols). z ++ k.symbols) (spell.enumerator_spelling_lem x) ∙
      ap (λ (y : _). enumerator_level (record { name = y.name; value = option_map expr_spelling y.value; marks = y.marks }) ++ k.symbols) out)
      (ap (λ (z : Met). z.events ++ k.events) (fold.enumerator_folds S x) ∙
      (ap (λ (y : _). (some_met (option_map (expr_fold S) y.value) ++ Declares (bytes_of y.name) false ∷ []) ++ k.events) out ∙
      append_assoc (expr_fold S v).events _ k.events))

  -- ---- Lists of specifiers (6.7)

  pub specs_before : (ws : List Spec) (k : Said) → of_specs kind_of bytes_of (record { words = ws }) and k ≡ each (of_spec kind_of bytes_of) ws k
  specs_before ws k =
      let S = steps_of kind_of bytes_of in
      same_said (ap (λ (z : Symbols). z ++ k.symbols) (spell.specs_spelling_lem (record { words = ws })))
      (ap (λ (z : Met). z.events ++ k.events) (fold.specs_folds S (record { words = ws }))) ∙
      each_is spec_spelling (spec_fold S) ws k.symbols k.events
