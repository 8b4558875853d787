-- Expressions with the simplest contents, both ways: type names of a typedef name or of keywords,
-- and stars; items that are values.

use Rattle.std.proofs.Common.{◌≡◌, ◌≢◌, ◌⊎◌, inl, inr, ℕ, zero, suc, Bool, true, false, List, [], ◌∷◌, ◌++◌, Option, Some, None, map, refl, sym, ap, ◌∙◌, subst, append_assoc, append-nil}
use Rattle.c_lexer.specs.declared.token.Kind.{Kind}
use Rattle.c_lexer.specs.declared.mark.TheConstants.{MARK_STAR}
use Rattle.c_scopes.specs.Events.{Event}
use Rattle.c_tree.specs.declared.symbol.Want.TheVariants as want
use Rattle.c_tree.specs.declared.symbol.Slot.TheVariants as slot
use Rattle.c_tree.specs.declared.tree.TypeName.{TypeName, roll-TypeName, out-TypeName, out-roll-TypeName}
use Rattle.c_tree.specs.declared.tree.Specs.{Specs}
use Rattle.c_tree.specs.declared.tree.Spec.{Spec}
use Rattle.c_tree.specs.declared.tree.Spec.TheVariants as spec
use Rattle.c_tree.specs.declared.tree.Declarator.{Declarator, roll-Declarator, out-Declarator, out-roll-Declarator}
use Rattle.c_tree.specs.declared.tree.Core.TheVariants as core
use Rattle.c_tree.specs.declared.tree.Pointer.{Pointer}
use Rattle.c_tree.specs.declared.tree.InitItem.{InitItem}
use Rattle.c_tree.specs.declared.tree.Init.TheVariants as init
use Rattle.c_tree.specs.declared.tree.Expr.{Expr, out-roll-Expr}
use Rattle.c_tree.specs.declared.tree.Assign.{Assign}
use Rattle.c_tree.specs.Forms.{sole}
use Rattle.c_tree.specs.Folds.{assign_fold, expr_fold, type_name_fold, specs_fold, spec_fold, declarator_fold, core_fold, suffix_fold, init_item_fold, init_fold}
use Rattle.std.specs.Option.{option_map}
use Rattle.c_tree.specs.Spell.{Symbols, suffix_spelling, expr_level, assign_spelling, expr_spelling, type_name_spelling, specs_spelling, spec_spelling, declarator_spelling, core_spelling, pointer_spelling, init_item_spelling, init_spelling, joined, type_name_level, declarator_level}
use Rattle.c_tree.specs.TreeEvents.{Met, all_met, some_met}
use Rattle.c_tree.proofs.Folds as fold
use Rattle.c_tree.proofs.Spellings as spell
use Rattle.c_tree.specs.Shape.{Inner as Contents}
use Rattle.c_tree.specs.Expressions.{IsAssign, IsExpr}
use Rattle.reading.specs.Rules.{pure, many}
use Rattle.reading.specs.Nesting.{nested}
use Rattle.c_syntax.specs.Scoping.{Part}
use Rattle.c_syntax.specs.Forms.{pointer, pointing, type_name_of, value_item}
use Rattle.c_syntax.specs.Inner.{Inner}
use Rattle.c_syntax.specs.TypeNameRules as lang
use Rattle.c_syntax.specs.SimplestRules.{item, simplest, assign, assign_body, expr}
use Rattle.c_syntax.specs.ExpressionRules.{whole, inner_expr}
use Rattle.expression_trees.specs.Saying.{Said, ◌and◌, token, uses, AreTrees, AreWords}
use Rattle.expression_trees.specs.Trees.{steps_of, of_assign, of_expr, of_type_name, of_spec, of_pointer, of_item}
use Rattle.expression_trees.specs.Simplest.{IsSimplestTypeName, IsSimplestItem, simplest_of, IsSimplestAssign}
use Rattle.expression_trees.proofs.FormsSay as law
use Rattle.expression_trees.proofs.FormsSay.{each, said_of, same_said, each_is}
use Rattle.expression_trees.proofs.Lists.{Every}
use Rattle.expression_trees.proofs.Front.{Open, Adds, adds_pure, adds_then, adds_or, adds_token, adds_part, adds_same, adds_many, adds_to}
use Rattle.expression_trees.proofs.Back.{Back, Spins, back_pure, back_then, back_token, back_left, back_right, back_same, back_loop, spins_same, many_stop, many_step}
use Rattle.expression_trees.proofs.Tokens.{says_mark, says_basic, says_typedef, hears_mark, hears_basic, hears_typedef}
use Rattle.expression_trees.proofs.FrontRules.{Made, InnerAdds, adds_whole, adds_expr}
use Rattle.expression_trees.proofs.BackRules.{InnerBack, whole_back, expr_back}
use Rattle.expression_trees.proofs.Meaning.{adds_of_trees, trees_of_adds, back_of_words, words_of_back, knot_trees, knot_words}

module _ (kind_of : ℕ → Option Kind) (bytes_of : ℕ → List ℕ) where
  -- ---- What type names of words and stars say, and items that are values

  pub pointer_before : (n : ℕ) (k : Said) → of_pointer kind_of bytes_of (pointer n) and k ≡ token n (want.Mark MARK_STAR) k
  pointer_before n k = same_said (ap (λ (z : Symbols). z ++ k.symbols) (spell.pointer_spelling_lem (pointer n))) refl

  no_events : (ps : List Pointer) (s : Symbols) (e : List Event) → each (of_pointer kind_of bytes_of) ps (said_of s e) ≡ said_of (joined (map pointer_spelling ps) ++ s) e
  no_events [] s e = refl
  no_events (p ∷ ps) s e = ap (λ (z : Said). of_pointer kind_of bytes_of p and z) (no_events ps s e) ∙ same_said (sym (append_assoc (pointer_spelling p) (joined (map pointer_spelling ps)) s)) refl

  pointing_symbols : (ps : List Pointer) → declarator_spelling (pointing ps) ≡ joined (map pointer_spelling ps)
  pointing_symbols ps = spell.declarator_spelling_lem (pointing ps) ∙
      (ap (λ (y : _). declarator_level (record { pointers = y.pointers; core = core_spelling y.core; suffixes = map suffix_spelling y.suffixes; width = option_map expr_spelling y.width; marks = y.marks }))
      (out-roll-Declarator (record { pointers = ps; core = core.Empty; suffixes = []; width = None; marks = [] })) ∙
      (ap (λ (z : Symbols). joined (map pointer_spelling ps) ++ (z ++ [])) spell.core_empty_spelling_lem ∙ append-nil (joined (map pointer_spelling ps))))

  pointing_events : (ps : List Pointer) → (declarator_fold (steps_of kind_of bytes_of) (pointing ps)).events ≡ []
  pointing_events ps =
      let S = steps_of kind_of bytes_of in
      ap (λ (z : Met). z.events) (fold.declarator_folds S (pointing ps)) ∙
      (ap (λ (y : _). (core_fold S y.core).events ++ (all_met (map (suffix_fold S) y.suffixes) ++ some_met (option_map (expr_fold S) y.width)))
      (out-roll-Declarator (record { pointers = ps; core = core.Empty; suffixes = []; width = None; marks = [] })) ∙
      ap (λ (z : Met). z.events ++ []) (fold.core_empty_folds S))

  pub type_before : (words : List Spec) (ps : List Pointer) (k : Said) → of_type_name kind_of bytes_of (type_name_of words ps) and k ≡ each (of_spec kind_of bytes_of) words (each (of_pointer kind_of bytes_of) ps k)
  type_before words ps k =
      let S = steps_of kind_of bytes_of in
      let out = out-roll-TypeName (record { specs = record { words = words }; declarator = pointing ps }) in
      let s : Specs = record { words = words } in
      same_said
      (ap (λ (z : Symbols). z ++ k.symbols) (spell.type_name_spelling_lem (type_name_of words ps)) ∙
      (ap (λ (y : _). (specs_spelling y.specs ++ declarator_spelling y.declarator) ++ k.symbols) out ∙
      (ap (λ (z : Symbols). (z ++ declarator_spelling (pointing ps)) ++ k.symbols) (spell.specs_spelling_lem s) ∙
      (ap (λ (z : Symbols). (joined (map spec_spelling words) ++ z) ++ k.symbols) (pointing_symbols ps) ∙ append_assoc (joined (map spec_spelling words)) (joined (map pointer_spelling ps)) k.symbols))))
      (ap (λ (z : Met). z.events ++ k.events) (fold.type_name_folds S (type_name_of words ps)) ∙
      (ap (λ (y : _). ((specs_fold S y.specs).events ++ (declarator_fold S y.declarator).events) ++ k.events) out ∙
      (ap (λ (z : Met). (z.events ++ (declarator_fold S (pointing ps)).events) ++ k.events) (fold.specs_folds S s) ∙
      (ap (λ (z : List Event). (all_met (map (spec_fold S) words) ++ z) ++ k.events) (pointing_events ps) ∙ ap (λ (z : List Event). z ++ k.events) (append-nil (all_met (map (spec_fold S) words))))))) ∙
      (each_is spec_spelling (spec_fold S) words (joined (map pointer_spelling ps) ++ k.symbols) k.events ∙
      ap (each (of_spec kind_of bytes_of) words) (sym (no_events ps k.symbols k.events)))

  pub item_is : (a : Assign) → of_item kind_of bytes_of (value_item a) ≡ of_assign kind_of bytes_of a
  item_is a =
      let S = steps_of kind_of bytes_of in
      same_said
      (spell.init_item_spelling_lem (value_item a) ∙ (spell.init_value_spelling_lem (sole a) ∙
      (spell.expr_spelling_lem (sole a) ∙ (ap (λ (y : _). expr_level (record { parts = map assign_spelling y.parts; marks = y.marks })) (out-roll-Expr (record { parts = a ∷ []; marks = [] })) ∙ append-nil (assign_spelling a)))))
      (ap (λ (z : Met). z.events) (fold.init_item_folds S (value_item a)) ∙ (ap (λ (z : Met). z.events) (fold.init_value_folds S (sole a)) ∙
      (ap (λ (z : Met). z.events) (fold.expr_folds S (sole a)) ∙ (ap (λ (y : _). all_met (map (assign_fold S) y.parts)) (out-roll-Expr (record { parts = a ∷ []; marks = [] })) ∙ append-nil (assign_fold S a).events))))

  -- ---- From rules to trees

  abbrev StarsAre : List Pointer → Open → Type 0
  StarsAre ps f = ((stars : List ℕ) × (ps ≡ map pointer stars)) × ((k : Said) → f k ≡ each (of_pointer kind_of bytes_of) ps k)

  map_snoc : {A B : Type 0} (f : A → B) (xs : List A) (y : A) → map f xs ++ f y ∷ [] ≡ map f (xs ++ y ∷ [])
  map_snoc f [] y = refl
  map_snoc f (x ∷ xs) y = ap (λ (z : List _). f x ∷ z) (map_snoc f xs y)

  adds_stars : (d level : ℕ) → Adds kind_of bytes_of (lang.stars d level) (λ k. k) StarsAre
  unfolding lang.stars lang.one_more_star
  adds_stars d level = adds_many kind_of bytes_of d {good = StarsAre}
      (λ ps f r. adds_token kind_of bytes_of (says_mark kind_of bytes_of MARK_STAR) (λ n i. adds_pure kind_of bytes_of (ps ++ pointer n ∷ []) (
        (r.0.0 ++ n ∷ [], ap (λ (z : List Pointer). z ++ pointer n ∷ []) r.0.1 ∙ map_snoc pointer r.0.0 n),
        λ k. r.1 (token n (want.Mark MARK_STAR) k) ∙ (ap (each (of_pointer kind_of bytes_of) ps) (sym (pointer_before n k)) ∙ sym (law.each_snoc (of_pointer kind_of bytes_of) ps (pointer n) k)),
      )))
      [] (([], refl), λ k. refl)

  abbrev basic : ℕ → Spec
  basic n = spec.Basic n

  -- Keywords, of which the first was read.
  abbrev BasicAre : List Spec → Open → Type 0
  BasicAre words f = ((first : ℕ) × (more : List ℕ) × (words ≡ map basic (first ∷ more))) × ((k : Said) → f k ≡ each (of_spec kind_of bytes_of) words k)

  adds_basic : (d level : ℕ) → Adds kind_of bytes_of (lang.basic d level) (λ k. k) BasicAre
  unfolding lang.basic lang.more_words lang.one_more_word
  adds_basic d level = adds_token kind_of bytes_of (says_basic kind_of bytes_of) (λ m h. adds_many kind_of bytes_of d {good = BasicAre}
      (λ ws f r. adds_token kind_of bytes_of (says_basic kind_of bytes_of) (λ n i. adds_pure kind_of bytes_of (ws ++ spec.Basic n ∷ []) (
        (r.0.0, r.0.1 ++ n ∷ [], ap (λ (z : List Spec). z ++ spec.Basic n ∷ []) r.0.2 ∙ map_snoc basic (r.0.0 ∷ r.0.1) n),
        λ k. r.1 (token n (want.Among slot.Basic) k) ∙ (ap (each (of_spec kind_of bytes_of) ws) (sym (law.spec_basic_before kind_of bytes_of n k)) ∙ sym (law.each_snoc (of_spec kind_of bytes_of) ws (spec.Basic n) k)),
      )))
      (spec.Basic m ∷ []) ((m, [], refl), λ k. sym (law.spec_basic_before kind_of bytes_of m k)))

  abbrev NamedIs : List Spec → Open → Type 0
  NamedIs words f = ((name : ℕ) × (words ≡ spec.Named name ∷ [])) × ((k : Said) → f k ≡ each (of_spec kind_of bytes_of) words k)

  adds_named : (d level : ℕ) → Adds kind_of bytes_of (lang.named d level) (λ k. k) NamedIs
  unfolding lang.named
  adds_named d level = adds_token kind_of bytes_of (says_typedef kind_of bytes_of) (λ n i. adds_pure kind_of bytes_of (spec.Named n ∷ []) ((n, refl), λ k. sym (law.spec_named_before kind_of bytes_of n k)))

  abbrev WordsAre : List Spec → Open → Type 0
  WordsAre words f = (((name : ℕ) × (words ≡ spec.Named name ∷ [])) ⊎ ((first : ℕ) × (more : List ℕ) × (words ≡ map basic (first ∷ more)))) × ((k : Said) → f k ≡ each (of_spec kind_of bytes_of) words k)

  adds_words : (d level : ℕ) → Adds kind_of bytes_of (lang.words d level) (λ k. k) WordsAre
  unfolding lang.words
  adds_words d level = adds_or kind_of bytes_of (adds_to kind_of bytes_of {fine = NamedIs} (λ a f r. (inl r.0, r.1)) (adds_named d level)) (adds_to kind_of bytes_of {fine = BasicAre} (λ a f r. (inr r.0, r.1)) (adds_basic d level))

  simple : (words : List Spec) (ps : List Pointer) (stars : List ℕ) → ps ≡ map pointer stars → ((name : ℕ) × (words ≡ spec.Named name ∷ [])) ⊎ ((first : ℕ) × (more : List ℕ) × (words ≡ map basic (first ∷ more))) →
      IsSimplestTypeName (type_name_of words ps)
  simple words ps stars e (inl (name, h)) = inl (name, stars, ap (λ z. type_name_of z ps) h ∙ ap (type_name_of (spec.Named name ∷ [])) e)
  simple words ps stars e (inr (first, more, h)) = inr (first, more, stars, ap (λ z. type_name_of z ps) h ∙ ap (type_name_of (map basic (first ∷ more))) e)

  adds_type_name : (d level : ℕ) → Adds kind_of bytes_of (lang.type_name d level) (λ k. k) (Made kind_of bytes_of (of_type_name kind_of bytes_of) IsSimplestTypeName)
  unfolding lang.type_name
  adds_type_name d level = adds_then kind_of bytes_of (adds_words d level) (λ ws f r. adds_part kind_of bytes_of (adds_stars d level) (λ ps g q. adds_pure kind_of bytes_of (type_name_of ws ps)
      (simple ws ps q.0.0 q.0.1 r.0, λ k. type_before ws ps k ∙ (ap (each (of_spec kind_of bytes_of) ws) (sym (q.1 k)) ∙ sym (r.1 (g k))))))

  adds_item : (X : Part Assign) (good : Assign → Type 0) → Adds kind_of bytes_of X (λ k. k) (Made kind_of bytes_of (of_assign kind_of bytes_of) good) →
      Adds kind_of bytes_of (item X) (λ k. k) (Made kind_of bytes_of (of_item kind_of bytes_of) (IsSimplestItem good))
  unfolding item
  adds_item X good p = adds_then kind_of bytes_of p (λ a f m. adds_pure kind_of bytes_of (value_item a) ((a, m.0, refl), λ k. ap (λ (z : Said). z and k) (item_is a) ∙ m.1 k))

  pub front_step : (turns level : ℕ) (X : Part Assign) (good : Assign → Type 0) → AreTrees kind_of bytes_of X good (of_assign kind_of bytes_of) →
      AreTrees kind_of bytes_of (whole turns level (simplest turns level X)) (IsAssign kind_of (simplest_of good)) (of_assign kind_of bytes_of)
  front_step turns level X good h =
      let a = adds_of_trees kind_of bytes_of X good (of_assign kind_of bytes_of) h in
      trees_of_adds kind_of bytes_of (of_assign kind_of bytes_of) (adds_whole kind_of bytes_of (simplest_of good) turns level (simplest turns level X)
      (record { assign = a; type_name = adds_type_name turns (suc level); item = adds_item X good a }))

  -- ---- And back

  stars_back : (d level : ℕ) (done : List Pointer) (ns : List ℕ) → Spins kind_of bytes_of (λ m e. many m (lang.one_more_star e level) done) (done ++ map pointer ns) (each (of_pointer kind_of bytes_of) (map pointer ns))
  unfolding lang.one_more_star
  stars_back d level done [] = spins_same kind_of bytes_of (sym (append-nil done)) (λ k. refl) (many_stop kind_of bytes_of (λ e. lang.one_more_star e level) done)
  stars_back d level done (n ∷ ns) = spins_same kind_of bytes_of (append_assoc done (pointer n ∷ []) (map pointer ns)) (λ k. pointer_before n (each (of_pointer kind_of bytes_of) (map pointer ns) k))
      (many_step kind_of bytes_of (λ e. lang.one_more_star e level) (back_token kind_of bytes_of (hears_mark kind_of bytes_of MARK_STAR n) (back_pure kind_of bytes_of (done ++ pointer n ∷ []))) (stars_back d level (done ++ pointer n ∷ []) ns))

  all_stars_back : (level : ℕ) (ns : List ℕ) → Back kind_of bytes_of (λ d. lang.stars d level) (map pointer ns) (each (of_pointer kind_of bytes_of) (map pointer ns))
  unfolding lang.stars
  all_stars_back level ns = back_loop kind_of bytes_of (stars_back 0 level [] ns)

  more_words_back : (level : ℕ) (done : List Spec) (ns : List ℕ) → Spins kind_of bytes_of (λ m e. many m (lang.one_more_word e level) done) (done ++ map basic ns) (each (of_spec kind_of bytes_of) (map basic ns))
  unfolding lang.one_more_word
  more_words_back level done [] = spins_same kind_of bytes_of (sym (append-nil done)) (λ k. refl) (many_stop kind_of bytes_of (λ e. lang.one_more_word e level) done)
  more_words_back level done (n ∷ ns) = spins_same kind_of bytes_of (append_assoc done (basic n ∷ []) (map basic ns)) (λ k. law.spec_basic_before kind_of bytes_of n (each (of_spec kind_of bytes_of) (map basic ns) k))
      (many_step kind_of bytes_of (λ e. lang.one_more_word e level) (back_token kind_of bytes_of (hears_basic kind_of bytes_of n) (back_pure kind_of bytes_of (done ++ basic n ∷ []))) (more_words_back level (done ++ basic n ∷ []) ns))

  basic_back : (level first : ℕ) (more : List ℕ) → Back kind_of bytes_of (λ d. lang.words d level) (map basic (first ∷ more)) (each (of_spec kind_of bytes_of) (map basic (first ∷ more)))
  unfolding lang.words lang.basic lang.more_words
  basic_back level first more = back_right kind_of bytes_of (back_same kind_of bytes_of refl (λ k. law.spec_basic_before kind_of bytes_of first (each (of_spec kind_of bytes_of) (map basic more) k))
      (back_token kind_of bytes_of (hears_basic kind_of bytes_of first) (back_loop kind_of bytes_of (more_words_back level (spec.Basic first ∷ []) more))))

  named_back : (level name : ℕ) → Back kind_of bytes_of (λ d. lang.words d level) (spec.Named name ∷ []) (each (of_spec kind_of bytes_of) (spec.Named name ∷ []))
  unfolding lang.words lang.named
  named_back level name = back_left kind_of bytes_of (back_same kind_of bytes_of refl (λ k. law.spec_named_before kind_of bytes_of name k)
      (back_token kind_of bytes_of (hears_typedef kind_of bytes_of name) (back_pure kind_of bytes_of (spec.Named name ∷ []))))

  abbrev Types : ℕ → TypeName → Type 0
  Types level t = Back kind_of bytes_of (λ d. lang.type_name d level) t (λ k. of_type_name kind_of bytes_of t and k)

  type_by : (level : ℕ) (words : List Spec) (stars : List ℕ) → Back kind_of bytes_of (λ d. lang.words d level) words (each (of_spec kind_of bytes_of) words) → Types level (type_name_of words (map pointer stars))
  unfolding lang.type_name
  type_by level words stars p = back_same kind_of bytes_of refl (type_before words (map pointer stars)) (back_then kind_of bytes_of p (back_then kind_of bytes_of (all_stars_back level stars) (back_pure kind_of bytes_of (type_name_of words (map pointer stars)))))

  type_back : (level : ℕ) (t : TypeName) → IsSimplestTypeName t → Types level t
  type_back level t (inl (name, stars, e)) = subst (Types level) (sym e) (type_by level (spec.Named name ∷ []) stars (named_back level name))
  type_back level t (inr (first, more, stars, e)) = subst (Types level) (sym e) (type_by level (map basic (first ∷ more)) stars (basic_back level first more))

  item_back : (X : ℕ → Part Assign) (good : Assign → Type 0) → ((a : Assign) → good a → Back kind_of bytes_of X a (λ k. of_assign kind_of bytes_of a and k)) →
      (i : InitItem) → IsSimplestItem good i → Back kind_of bytes_of (λ d. item (X d)) i (λ k. of_item kind_of bytes_of i and k)
  unfolding item
  item_back X good p i (a, g, e) = subst (λ z. Back kind_of bytes_of (λ d. item (X d)) z (λ k. of_item kind_of bytes_of z and k)) (sym e)
      (back_same kind_of bytes_of refl (λ k. ap (λ (z : Said). z and k) (item_is a)) (back_then kind_of bytes_of (p a g) (back_pure kind_of bytes_of (value_item a))))

  pub back_step : (level : ℕ) (X : ℕ → Part Assign) (good : Assign → Type 0) → AreWords kind_of bytes_of X good (of_assign kind_of bytes_of) →
      AreWords kind_of bytes_of (λ d. whole d level (simplest d level (X d))) (IsAssign kind_of (simplest_of good)) (of_assign kind_of bytes_of)
  back_step level X good h =
      let b = back_of_words kind_of bytes_of X good (of_assign kind_of bytes_of) h in
      words_of_back kind_of bytes_of (of_assign kind_of bytes_of) (whole_back kind_of bytes_of (simplest_of good) level (λ d. simplest d level (X d))
      (record { assign = b; type_name = type_back (suc level); item = item_back X good b }))

  -- ---- The knot

  assign_trees : (turns level : ℕ) (n : Prim.Unit {0}) → AreTrees kind_of bytes_of (nested assign_body turns level n) (IsSimplestAssign kind_of turns) (of_assign kind_of bytes_of)
  unfolding IsSimplestAssign
  assign_trees = knot_trees kind_of bytes_of assign_body (λ n. IsSimplestAssign kind_of) (λ n. of_assign kind_of bytes_of)
      (λ turns level inner h n. front_step turns level (inner n) (IsSimplestAssign kind_of turns) (h n))

  assign_words : (depth level : ℕ) (n : Prim.Unit {0}) → AreWords kind_of bytes_of (λ d. nested assign_body d level n) (IsSimplestAssign kind_of depth) (of_assign kind_of bytes_of)
  unfolding IsSimplestAssign
  assign_words = knot_words kind_of bytes_of assign_body (λ n. IsSimplestAssign kind_of) (λ n. of_assign kind_of bytes_of)
      (λ n a g. g)
      (λ depth level inner h n. back_step level (λ d. inner d n) (IsSimplestAssign kind_of depth) (h n))

  pub expr_trees : (turns level : ℕ) → AreTrees kind_of bytes_of (expr turns level) (IsExpr kind_of (simplest_of (IsSimplestAssign kind_of turns))) (of_expr kind_of bytes_of)
  unfolding expr assign
  expr_trees turns level = trees_of_adds kind_of bytes_of (of_expr kind_of bytes_of) (adds_expr kind_of bytes_of (simplest_of (IsSimplestAssign kind_of turns)) turns level (nested assign_body turns level tt)
      (adds_of_trees kind_of bytes_of (nested assign_body turns level tt) (IsSimplestAssign kind_of turns) (of_assign kind_of bytes_of) (assign_trees turns level tt)))

  pub expr_words : (depth level : ℕ) → AreWords kind_of bytes_of (λ d. expr d level) (IsExpr kind_of (simplest_of (IsSimplestAssign kind_of depth))) (of_expr kind_of bytes_of)
  unfolding expr assign
  expr_words depth level = words_of_back kind_of bytes_of (of_expr kind_of bytes_of) (expr_back kind_of bytes_of (simplest_of (IsSimplestAssign kind_of depth)) level (λ d. nested assign_body d level tt)
      (back_of_words kind_of bytes_of (λ d. nested assign_body d level tt) (IsSimplestAssign kind_of depth) (of_assign kind_of bytes_of) (assign_words depth level tt)))
