-- Parts that follow each other.

use Rattle.std.proofs.Common.{◌≡◌, ◌<◌, ◌≤◌, List, [], ◌∷◌, ◌++◌, length, refl, sym, ap, ◌∙◌, subst, arith, append-nil}
use Rattle.first_grammar.specs.Rest.{Rest}
use Rattle.first_grammar.specs.Grammar.{Runs}

-- What stands at a place is one part, and it ends at one place.
abbrev pub Unique : {A : Type 0} → (A → Rest → Rest → Type 0) → Type 0
Unique {A} S = (x y : A) (before a b : Rest) → S x before a → S y before b → (x ≡ y) × (a ≡ b)

-- No such part stands there.
abbrev pub Stops : {A : Type 0} → (A → Rest → Rest → Type 0) → Rest → Type 0
Stops {A} S at = (x : A) (end : Rest) → S x at end → ⊥

-- Each such part takes a token.
abbrev pub Shrinks : {A : Type 0} → (A → Rest → Rest → Type 0) → Type 0
Shrinks {A} S = (x : A) (before after : Rest) → S x before after → length after < length before

-- Where some parts are read, any run to a stop goes on from there.
pub runs_past : {A : Type 0} (S : A → Rest → Rest → Type 0) → Unique S →
    (xs ys : List A) (before m e : Rest) → Runs S xs before m → Runs S ys before e → Stops S e →
    (zs : List A) × Runs S zs m e × (ys ≡ xs ++ zs)
runs_past S u [] ys before m e h g stop = (ys, subst (λ r. Runs S ys r e) h g, refl)
runs_past S u (x ∷ xs) [] before m e h g stop =
    absurd (stop x h.0 (subst (λ r. S x r h.0) g h.1))
runs_past S u (x ∷ xs) (y ∷ ys) before m e h g stop =
    let same = u x y before h.0 g.0 h.1 g.1 in
    let past = runs_past S u xs ys h.0 m e h.2
    (subst (λ r. Runs S ys r e) (sym same.1) g.2) stop in
    (past.0, past.1, ap (λ v. v ∷ ys) (sym same.0) ∙ ap (λ vs. x ∷ vs) past.2)

pub runs_one : {A : Type 0} (S : A → Rest → Rest → Type 0) → Unique S →
    (xs ys : List A) (before m e : Rest) → Runs S xs before m → Runs S ys before e →
    Stops S m → Stops S e → (xs ≡ ys) × (m ≡ e)
runs_one {A} S u xs ys before m e h g stop_m stop_e =
    let past = runs_past S u xs ys before m e h g stop_e in
    let none : (zs : List A) → Runs S zs m e → ys ≡ xs ++ zs → (xs ≡ ys) × (m ≡ e) =
    λ zs. elim zs as (λ zs. Runs S zs m e → ys ≡ xs ++ zs → (xs ≡ ys) × (m ≡ e)) [
      | [] ↦ λ r q. (sym (q ∙ append-nil xs), r)
      | z ∷ zs ↦ λ r q. absurd (stop_m z r.0 r.1)
    ] in
    none past.0 past.1 past.2

pub runs_push : {A : Type 0} (S : A → Rest → Rest → Type 0) (xs : List A) (x : A)
    (a b c : Rest) → Runs S xs a b → S x b c → Runs S (xs ++ x ∷ []) a c
runs_push S [] x a b c h g = (c, subst (λ r. S x r c) (sym h) g, refl)
runs_push S (y ∷ xs) x a b c h g = (h.0, h.1, runs_push S xs x h.0 b c h.2 g)

pub runs_shrink : {A : Type 0} (S : A → Rest → Rest → Type 0) → Shrinks S →
    (xs : List A) (a b : Rest) → Runs S xs a b → length b ≤ length a
runs_shrink S s [] a b h = let e = ap length h in omega arith
runs_shrink S s (x ∷ xs) a b h =
    let here = s x a h.0 h.1 in
    let later = runs_shrink S s xs h.0 b h.2 in
    omega arith
