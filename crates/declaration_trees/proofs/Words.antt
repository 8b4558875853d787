-- What the tokens of declarations are said to be; lists of words.

use Rattle.std.proofs.Common.{◌≡◌, ◌⊎◌, inl, inr, ℕ, suc, ◌==◌, ◌||◌, Bool, true, false, List, [], ◌∷◌, ◌++◌, Option, Some, map, refl, sym, ap, ◌∙◌, subst, arith, eq-eqb}
use Rattle.std.specs.List.{Contains, Any, list_any}
use Rattle.c_lexer.specs.declared.token.Kind.{Kind}
use Rattle.c_lexer.specs.declared.token.Kind.TheVariants as k
use Rattle.c_lexer.specs.declared.keyword.TheConstants.{KEY_ATOMIC, KEY_CONST, KEY_RESTRICT, KEY_VOLATILE}
use Rattle.c_lexer.specs.declared.keyword.TheConstants.{KEY_EXTERN, KEY_STATIC, KEY_THREAD_LOCAL, KEY_AUTO}
use Rattle.c_lexer.specs.declared.keyword.TheConstants.{KEY_REGISTER, KEY_TYPEDEF, KEY_STRUCT, KEY_UNION}
use Rattle.c_scopes.specs.Scopes.{OpenScopes}
use Rattle.c_tree.specs.declared.symbol.Want.{Want}
use Rattle.c_tree.specs.declared.symbol.Want.TheVariants as want
use Rattle.c_tree.specs.declared.symbol.Slot.TheVariants as slot
use Rattle.c_tree.specs.Fits.{Fits, function_specifiers, qualifiers}
use Rattle.c_tree.specs.Spell.{Symbols}
use Rattle.reading.specs.Terminals.{has}
use Rattle.reading.proofs.Sets.{never}
use Rattle.c_reading.specs.Kept.{KeptToken}
use Rattle.c_reading.specs.Cursors.{terminal_in}
use Rattle.c_reading.specs.Terminals.{key, terminal_where}
use Rattle.c_syntax.specs.Scoping.{is_typedef_name}
use Rattle.c_syntax.specs.Sets.{a_plain_qualifier, a_record}
use Rattle.c_specifiers.specs.DeclarationSets.{a_storage_class, a_function_specifier}
use Rattle.expression_trees.specs.Saying.{Said, token, FitTokens, AreMet, AreSaid}
use Rattle.expression_trees.proofs.Front.{Says, IsOf}
use Rattle.expression_trees.proofs.FormsSay.{each}
use Rattle.expression_trees.proofs.Tokens.{keys_among, contains_later, contains_cases, contains_none, one_of}

-- ---- Some of a list

abbrev pub SomeOf : {A : Type 0} → (A → Type 0) → List A → Type 0
SomeOf P [] = ⊥
SomeOf P (x ∷ xs) = P x ⊎ SomeOf P xs

pub some_last : {A : Type 0} (P : A → Type 0) (xs : List A) (x : A) → P x → SomeOf P (xs ++ x ∷ [])
some_last P [] x p = inl p
some_last P (y ∷ xs) x p = inr (some_last P xs x p)

pub some_before : {A : Type 0} (P : A → Type 0) (xs : List A) (x : A) → SomeOf P xs → SomeOf P (xs ++ x ∷ [])
some_before P [] x h = absurd h
some_before P (y ∷ xs) x (inl p) = inl p
some_before P (y ∷ xs) x (inr h) = inr (some_before P xs x h)

pub any_of : {A : Type 0} (P : A → Type 0) (xs : List A) → SomeOf P xs → Any P xs
any_of P [] h = absurd h
any_of P (x ∷ xs) (inl p) = (0, x, omega arith, refl, p)
any_of P (x ∷ xs) (inr h) = let r = any_of P xs h in (suc r.0, r.1, omega (arith, r.2), r.3, r.4)

or_false : (b : Bool) → (b || false) ≡ b
or_false true = refl
or_false false = refl

or_assoc : (a b c : Bool) → ((a || b) || c) ≡ (a || (b || c))
or_assoc true b c = refl
or_assoc false b c = refl

pub list_any_snoc : {A B : Type 0} (p : B → Bool) (g : A → B) (xs : List A) (x : A) → list_any p (map g (xs ++ x ∷ [])) ≡ (list_any p (map g xs) || p (g x))
list_any_snoc p g [] x = or_false (p (g x))
list_any_snoc p g (y ∷ xs) x = ap (λ (z : Bool). p (g y) || z) (list_any_snoc p g xs x) ∙ sym (or_assoc (p (g y)) (list_any p (map g xs)) (p (g x)))

pub not_nil : {A : Type 0} (xs : List A) (x : A) → xs ++ x ∷ [] ≡ [] → ⊥
not_nil [] x e = cc
not_nil (y ∷ xs) x e = cc

-- ---- Keywords of sets

or_first : (a b : Bool) → (a || b) ≡ false → a ≡ false
or_first true b e = e
or_first false b e = refl

or_second : (a b : Bool) → (a || b) ≡ false → b ≡ false
or_second true b e = cc
or_second false b e = e

apart : (list : List ℕ) (x m : ℕ) → has list x ≡ false → Contains list m → (m == x) ≡ false
apart [] x m h c = absurd (contains_none m c)
apart (y ∷ list) x m h c = of (apart list x m) (contains_cases y m list c)
  where
    of : (has list x ≡ false → Contains list m → (m == x) ≡ false) → (y ≡ m) ⊎ Contains list m → (m == x) ≡ false
    of go (inl e) = subst (λ (z : ℕ). (z == x) ≡ false) e (or_first (y == x) (has list x) h)
    of go (inr d) = go (or_second (y == x) (has list x) h) d

-- What wants less.
module _ (kind_of : ℕ → Option Kind) (bytes_of : ℕ → List ℕ) where
  fit_under : (a s t : Symbols) → ((ts : List KeptToken) → FitTokens kind_of bytes_of s ts → FitTokens kind_of bytes_of t ts) → (ts : List KeptToken) →
      FitTokens kind_of bytes_of (a ++ s) ts → FitTokens kind_of bytes_of (a ++ t) ts
  fit_under [] s t h ts f = h ts f
  fit_under (x ∷ a) s t h [] f = absurd f
  fit_under (x ∷ a) s t h (y ∷ ts) f = (f.0, fit_under a s t h ts f.1)

  -- Behind each of the parts.
  pub record Looser (given wanted : Said) : Type 0 where
    pub events : given.events ≡ wanted.events
    pub fit : (ts : List KeptToken) → FitTokens kind_of bytes_of given.symbols ts → FitTokens kind_of bytes_of wanted.symbols ts

  looser_each : {A : Type 0} (f : A → Said) (xs : List A) (a b : Said) → Looser a b → Looser (each f xs a) (each f xs b)
  looser_each f [] a b l = l
  looser_each f (x ∷ xs) a b l =
      let r = looser_each f xs a b l in
      record { events = ap (λ e. (f x).events ++ e) r.events; fit = fit_under (f x).symbols (each f xs a).symbols (each f xs b).symbols r.fit }

  pub said_each : {A : Type 0} (f : A → Said) (xs : List A) (a b : Said) → Looser a b → (ts : List KeptToken) (scopes end : OpenScopes) →
      AreSaid kind_of bytes_of (each f xs a) ts scopes end → AreSaid kind_of bytes_of (each f xs b) ts scopes end
  said_each f xs a b l ts scopes end h =
      let r = looser_each f xs a b l in (r.fit ts h.0, subst (λ e. AreMet scopes e end) r.events h.1)

  fit_atomic : (n : ℕ) (s : Symbols) (ts : List KeptToken) → FitTokens kind_of bytes_of (record { token = n; want = want.Key KEY_ATOMIC } ∷ s) ts →
      FitTokens kind_of bytes_of (record { token = n; want = want.Among slot.Qualifier } ∷ s) ts
  fit_atomic n s [] f = absurd f
  fit_atomic n s (t ∷ ts) f = ((f.0.0, (KEY_ATOMIC, (3, omega arith, refl), f.0.1), f.0.2), f.1)

  pub atomic_looser : (n : ℕ) (k : Said) → Looser (token n (want.Key KEY_ATOMIC) k) (token n (want.Among slot.Qualifier) k)
  atomic_looser n k = record { events = refl; fit = fit_atomic n k.symbols }

  -- ---- What tokens are said to be

  pub says_kind : (set : List ℕ) (wanted : Want) → ((t : List ℕ → Bool) (kind : Kind) (bytes : List ℕ) → has set (terminal_where t kind bytes) ≡ true → Fits wanted kind) →
      Says kind_of bytes_of set (λ n. token n wanted)
  unfolding terminal_in
  says_kind set wanted h = record { says = λ scopes end t rest v e known f. (((refl, h (is_typedef_name scopes) t.lexeme.kind t.lexeme.spelling e, known), f.0), f.1) }

  storage_is : (t : List ℕ → Bool) (kind : Kind) (bytes : List ℕ) → has a_storage_class (terminal_where t kind bytes) ≡ true → Fits (want.Among slot.Storage) kind
  storage_is t kind bytes e = let h = keys_among (KEY_EXTERN ∷ KEY_STATIC ∷ KEY_THREAD_LOCAL ∷ KEY_AUTO ∷ KEY_REGISTER ∷ []) t kind bytes e in
      (h.0, contains_later KEY_TYPEDEF h.0 (KEY_EXTERN ∷ KEY_STATIC ∷ KEY_THREAD_LOCAL ∷ KEY_AUTO ∷ KEY_REGISTER ∷ []) h.1, h.2)

  pub says_storage : Says kind_of bytes_of a_storage_class (λ n. token n (want.Among slot.Storage))
  says_storage = says_kind a_storage_class (want.Among slot.Storage) storage_is

  one_key_is : (m : ℕ) (t : List ℕ → Bool) (kind : Kind) (bytes : List ℕ) → has (key m ∷ []) (terminal_where t kind bytes) ≡ true → kind ≡ k.Key m
  one_key_is m t kind bytes e = let h = keys_among (m ∷ []) t kind bytes e in h.2 ∙ ap (λ n. k.Key n) (one_of m h.0 h.1)

  pub says_register : Says kind_of bytes_of (key KEY_REGISTER ∷ []) (λ n. token n (want.Among slot.Storage))
  says_register = says_kind (key KEY_REGISTER ∷ []) (want.Among slot.Storage) (λ t kind bytes e. (KEY_REGISTER, (5, omega arith, refl), one_key_is KEY_REGISTER t kind bytes e))

  pub says_typedef_key : Says kind_of bytes_of (key KEY_TYPEDEF ∷ []) (λ n. token n (want.Among slot.Storage))
  says_typedef_key = says_kind (key KEY_TYPEDEF ∷ []) (want.Among slot.Storage) (λ t kind bytes e. (KEY_TYPEDEF, (0, omega arith, refl), one_key_is KEY_TYPEDEF t kind bytes e))

  pub says_function : Says kind_of bytes_of a_function_specifier (λ n. token n (want.Among slot.Function))
  says_function = says_kind a_function_specifier (want.Among slot.Function) (keys_among function_specifiers)

  plain_is : (t : List ℕ → Bool) (kind : Kind) (bytes : List ℕ) → has a_plain_qualifier (terminal_where t kind bytes) ≡ true → Fits (want.Among slot.Qualifier) kind
  plain_is t kind bytes e = let h = keys_among (KEY_CONST ∷ KEY_RESTRICT ∷ KEY_VOLATILE ∷ []) t kind bytes e in
      (h.0, of h.0 (contains_cases KEY_CONST h.0 (KEY_RESTRICT ∷ KEY_VOLATILE ∷ []) h.1), h.2)
    where
      last : (n : ℕ) → (KEY_RESTRICT ≡ n) ⊎ Contains (KEY_VOLATILE ∷ []) n → Contains qualifiers n
      last n (inl e) = subst (Contains qualifiers) e (1, omega arith, refl)
      last n (inr c) = subst (Contains qualifiers) (sym (one_of KEY_VOLATILE n c)) (2, omega arith, refl)

      of : (n : ℕ) → (KEY_CONST ≡ n) ⊎ Contains (KEY_RESTRICT ∷ KEY_VOLATILE ∷ []) n → Contains qualifiers n
      of n (inl e) = subst (Contains qualifiers) e (0, omega arith, refl)
      of n (inr c) = last n (contains_cases KEY_RESTRICT n (KEY_VOLATILE ∷ []) c)

  pub says_plain : Says kind_of bytes_of a_plain_qualifier (λ n. token n (want.Among slot.Qualifier))
  says_plain = says_kind a_plain_qualifier (want.Among slot.Qualifier) plain_is

  pub says_record : Says kind_of bytes_of a_record (λ n. token n (want.Among slot.RecordKey))
  says_record = says_kind a_record (want.Among slot.RecordKey) (keys_among (KEY_STRUCT ∷ KEY_UNION ∷ []))

  -- ---- What is seen of keywords

  pub seen_key : (m n : ℕ) → IsOf kind_of bytes_of (key m ∷ []) n → kind_of n ≡ Some (k.Key m)
  seen_key m n i = i.is ∙ ap (λ (z : Kind). Some z) (one_key_is m (is_typedef_name i.scopes) i.kind i.spelling i.fits)

  among_seen : (list : List ℕ) (n : ℕ) → IsOf kind_of bytes_of (map key list) n → (m : ℕ) × Contains list m × (kind_of n ≡ Some (k.Key m))
  among_seen list n i = let h = keys_among list (is_typedef_name i.scopes) i.kind i.spelling i.fits in (h.0, h.1, i.is ∙ ap (λ (z : Kind). Some z) h.2)

  pub other_key : (list : List ℕ) (n x : ℕ) → has list x ≡ false → IsOf kind_of bytes_of (map key list) n → (m : ℕ) × ((m == x) ≡ false) × (kind_of n ≡ Some (k.Key m))
  other_key list n x h i = let s = among_seen list n i in (s.0, apart list x s.0 h s.1, s.2)

  pub no_key : (m n x : ℕ) → (m == x) ≡ false → kind_of n ≡ Some (k.Key m) → kind_of n ≡ Some (k.Key x) → ⊥
  no_key m n x h e f =
      let g : Some (k.Key m) ≡ Some (k.Key x) = sym e ∙ f in
      let same : m ≡ x = cc in
      never (sym h ∙ eq-eqb m x same)
