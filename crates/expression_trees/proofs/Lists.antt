-- Lists with commas, and lists of marks by their count.

use Rattle.std.proofs.Common.{◌≡◌, ℕ, zero, suc, ◌+◌, List, [], ◌∷◌, ◌++◌, length, refl, sym, ap, ◌∙◌, subst, arith, append_assoc, append-nil}
use Rattle.std.specs.Prelude.{All}
use Rattle.std.proofs.lemmas.List.Elements.{All-nil, All-cons, All-head, All-tail}
use Rattle.c_tree.specs.Shape.{HasMarks}
use Rattle.expression_trees.proofs.FormsSay.{values, commas}

abbrev pub Every : {A : Type 0} → (A → Type 0) → List A → Type 0
Every P [] = Prim.Unit {0}
Every P (a ∷ more) = P a × Every P more

pub every_of : {A : Type 0} (P : A → Type 0) (xs : List A) → All P xs → Every P xs
every_of P [] h = tt
every_of P (x ∷ xs) h = (All-head P x xs h, every_of P xs (All-tail P x xs h))

pub all_of : {A : Type 0} (P : A → Type 0) (xs : List A) → Every P xs → All P xs
all_of P [] h = All-nil P
all_of P (x ∷ xs) h = All-cons P x xs h.0 (all_of P xs h.1)

pub every_snoc : {A : Type 0} (P : A → Type 0) (xs : List A) (x : A) → Every P xs → P x → Every P (xs ++ x ∷ [])
every_snoc P [] x g h = (h, tt)
every_snoc P (y ∷ xs) x g h = (g.0, every_snoc P xs x g.1 h)

-- ---- Marks by their count

pub by_none : (Q : List ℕ → Type 0) → Q [] → (ms : List ℕ) → length ms ≡ 0 → Q ms
by_none Q q [] e = q
by_none Q q (m ∷ ms) e = absurd (omega arith)

pub by_one : (Q : List ℕ → Type 0) → ((m : ℕ) → Q (m ∷ [])) → (ms : List ℕ) → length ms ≡ 1 → Q ms
by_one Q q [] e = absurd (omega arith)
by_one Q q (m ∷ []) e = q m
by_one Q q (m ∷ n ∷ ms) e = absurd (omega arith)

pub by_two : (Q : List ℕ → Type 0) → ((l r : ℕ) → Q (l ∷ r ∷ [])) → (ms : List ℕ) → length ms ≡ 2 → Q ms
by_two Q q [] e = absurd (omega arith)
by_two Q q (l ∷ []) e = absurd (omega arith)
by_two Q q (l ∷ r ∷ []) e = q l r
by_two Q q (l ∷ r ∷ m ∷ ms) e = absurd (omega arith)

-- ---- Each part with its comma

pub length_commas : {A : Type 0} (ps : List (ℕ × A)) → length (commas ps) ≡ length (values ps)
length_commas [] = refl
length_commas (p ∷ ps) = ap (λ n. suc n) (length_commas ps)

pub length_marks : {A : Type 0} (ps : List (ℕ × A)) (rs : List ℕ) → length (commas ps ++ rs) ≡ length (values ps) + length rs
length_marks [] rs = omega arith
length_marks (p ∷ ps) rs = omega (arith, length_marks ps rs)

pub by_pairs : {A : Type 0} (P : A → Type 0) (n : ℕ) (Q : List A → List ℕ → Type 0) →
    ((ps : List (ℕ × A)) (rs : List ℕ) → length rs ≡ n → Every P (values ps) → Q (values ps) (commas ps ++ rs)) →
    (parts : List A) (marks : List ℕ) → length marks ≡ length parts + n → Every P parts → Q parts marks
by_pairs P n Q q [] marks e g = q [] marks (omega arith) tt
by_pairs P n Q q (a ∷ parts) [] e g = absurd (omega arith)
by_pairs P n Q q (a ∷ parts) (m ∷ marks) e g =
    by_pairs P n (λ more ms. Q (a ∷ more) (m ∷ ms)) (λ ps rs h i. q ((m, a) ∷ ps) rs h (g.0, i)) parts marks (omega arith) g.1
