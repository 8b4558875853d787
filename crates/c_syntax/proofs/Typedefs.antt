-- Which names are typedef names is decided by going through the declarations.

use Rattle.std.proofs.Common.{◌≡◌, ◌≢◌, ℕ, zero, suc, ◌<◌, Bool, true, false, ◌==◌, ◌&&◌, if◌then◌else◌, IsTrue, ◌↔◌, List, [], ◌∷◌, ◌++◌, refl, sym, ap, ◌∙◌, subst, arith, eqb-true, eq-eqb}
use Rattle.std.specs.Prelude.{All}
use Rattle.std.proofs.lemmas.List.Elements.{All-cons, All-nil}
use Rattle.c_scopes.specs.Scopes.{Declared, OpenScopes, IsFirstOf, IsTypedefName, declarations_in}
use Rattle.c_syntax.specs.Scoping.{same_bytes, first_is_typedef, is_typedef_name}

both_true : (a b : Bool) → (a && b) ≡ true → (a ≡ true) × (b ≡ true)
both_true true b e = (refl, e)
both_true false b e = absurd (let f : false ≡ true = e in cc)

same_names : (name other : List ℕ) → same_bytes name other ≡ true → name ≡ other
same_names [] [] e = refl
same_names [] (b ∷ other) e = absurd (let f : false ≡ true = e in cc)
same_names (a ∷ name) [] e = absurd (let f : false ≡ true = e in cc)
same_names (a ∷ name) (b ∷ other) e =
    let both = both_true (a == b) (same_bytes name other) e in
    let first = eqb-true a b both.0 in let rest = same_names name other both.1 in cc

same_itself : (name : List ℕ) → same_bytes name name ≡ true
same_itself [] = refl
same_itself (a ∷ name) = rw (eq-eqb a a refl, same_itself name) refl

apart_names : (name other : List ℕ) → name ≢ other → (b : Bool) → same_bytes name other ≡ b → same_bytes name other ≡ false
apart_names name other apart true e = absurd (apart (same_names name other e))
apart_names name other apart false e = e

not_same : (name other : List ℕ) → same_bytes name other ≡ false → name ≢ other
not_same name other e same = absurd (let f : true ≡ false = sym (same_itself name) ∙ ap (same_bytes name) same ∙ e in cc)

-- ---- From the decision to the first declaration

found_at : (d : Declared) (ds : List Declared) (name : List ℕ) → (first_is_typedef ds name ≡ true → IsFirstOf ds name true) → (b : Bool) → same_bytes d.name name ≡ b →
    (if b then d.typedef else first_is_typedef ds name) ≡ true → IsFirstOf (d ∷ ds) name true
found_at d ds name later true e h =
    let same = same_names d.name name e in record {
      later = [];
      earlier = ds;
      stands = ap (λ (x : Declared). x ∷ ds) (let f : d ≡ record { name = name; typedef = true } =
          ap (λ (n : List ℕ). let x : Declared = record { name = n; typedef = d.typedef } in x) same ∙ ap (λ (t : Bool). let x : Declared = record { name = name; typedef = t } in x) h in f);
      first = All-nil (λ (x : Declared). x.name ≢ name);
    }
found_at d ds name later false e h =
    let rest = later h in record {
      later = d ∷ rest.later;
      earlier = rest.earlier;
      stands = ap (λ (xs : List Declared). d ∷ xs) rest.stands;
      first = All-cons (λ (x : Declared). x.name ≢ name) d rest.later (not_same d.name name e) rest.first;
    }

found : (ds : List Declared) (name : List ℕ) → first_is_typedef ds name ≡ true → IsFirstOf ds name true
found [] name h = absurd (let f : false ≡ true = h in cc)
found (d ∷ ds) name h = found_at d ds name (found ds name) (same_bytes d.name name) refl h

-- ---- And back

first_later : (d : Declared) (later : List Declared) (name : List ℕ) → All (λ (x : Declared). x.name ≢ name) (d ∷ later) → All (λ (x : Declared). x.name ≢ name) later
first_later d later name all = λ k x within. all (suc k) x (omega arith)

decided : (later earlier : List Declared) (name : List ℕ) → All (λ (x : Declared). x.name ≢ name) later →
    first_is_typedef (later ++ record { name = name; typedef = true } ∷ earlier) name ≡ true
decided [] earlier name all = rw (same_itself name) refl
decided (d ∷ later) earlier name all =
    let apart = apart_names d.name name (all 0 d (omega arith)) (same_bytes d.name name) refl in
    rw apart (decided later earlier name (first_later d later name all))

-- The function says what the relation says.
pub is_typedef_name_says : (open_scopes : OpenScopes) (name : List ℕ) → IsTrue (is_typedef_name open_scopes name) ↔ IsTypedefName open_scopes name
unfolding is_typedef_name
is_typedef_name_says open_scopes name = (
  λ h. found (declarations_in open_scopes) name h,
  λ h. subst (λ ds. first_is_typedef ds name ≡ true) (sym h.stands) (decided h.later h.earlier name h.first),
)
