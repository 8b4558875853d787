-- The tokens that are left from a place on.

use Rattle.std.proofs.Common.{◌≡◌, ℕ, suc, zero, ◌+◌, ◌<◌, ◌≤◌, List, [], ◌∷◌, Some, None, length, drop, get_or, refl, ap, sym, ◌∙◌, subst, arith}
use Rattle.std.specs.List.{slice_get}
use Rattle.std.proofs.lemmas.Option.{get_or_from_slice_get, slice_get_within}
use Rattle.c_lexer.specs.declared.token.Kind.{Kind}
use Rattle.c_lexer.specs.declared.token.Token.{Token}
use Rattle.c_tree.specs.Fits.{kinds_of}
use Rattle.first_grammar.specs.Rest.{Rest, IsAt, numbered}

cut_from : (tokens : List Token) (n at : ℕ) (t : Token) → at < length tokens → t ≡ get_or tokens at t →
    drop at (numbered n (kinds_of tokens)) ≡ (n + at, t.kind) ∷ drop (suc at) (numbered n (kinds_of tokens))
cut_from [] n at t h e = absurd (omega arith)
cut_from (x ∷ tokens) n zero t h e =
    let first : n ≡ n + 0 = omega arith in
    let rest = numbered (n + 1) (kinds_of tokens) in
    ap (λ (v : ℕ). (v, x.kind) ∷ rest) first ∙ ap (λ (v : Token). (n + 0, v.kind) ∷ rest) (sym e)
cut_from (x ∷ tokens) n (suc at) t h e =
    let same : (n + 1) + at ≡ n + suc at = omega arith in
    subst (λ (v : ℕ). drop at (numbered (n + 1) (kinds_of tokens)) ≡
    (v, t.kind) ∷ drop (suc at) (numbered (n + 1) (kinds_of tokens))) same
    (cut_from tokens (n + 1) at t (omega arith) e)

-- A token that is there, and the tokens after it.
pub here_is : (tokens : List Token) (at : ℕ) (t : Token) → at < length tokens → t ≡ get_or tokens at t →
    drop at (numbered 0 (kinds_of tokens)) ≡ (at, t.kind) ∷ drop (at + 1) (numbered 0 (kinds_of tokens))
here_is tokens at t h e =
    let first : 0 + at ≡ at = omega arith in
    let next : suc at ≡ at + 1 = omega arith in
    let rest : ℕ → Rest = λ n. drop n (numbered 0 (kinds_of tokens)) in
    cut_from tokens 0 at t h e ∙
    (ap (λ (v : ℕ). (v, t.kind) ∷ rest (suc at)) first ∙ ap (λ (v : ℕ). (at, t.kind) ∷ rest v) next)

-- The same, of a token that is looked up.
pub there_is : (tokens : List Token) (at : ℕ) (t : Token) → slice_get tokens at ≡ Some t →
    drop at (numbered 0 (kinds_of tokens)) ≡ (at, t.kind) ∷ drop (at + 1) (numbered 0 (kinds_of tokens))
there_is tokens at t is = here_is tokens at t (slice_get_within tokens at t is) (sym (get_or_from_slice_get tokens at t t is))

done_from : (tokens : List Token) (n at : ℕ) → length tokens ≤ at → drop at (numbered n (kinds_of tokens)) ≡ []
done_from [] n zero h = refl
done_from [] n (suc at) h = refl
done_from (x ∷ tokens) n zero h = absurd (omega arith)
done_from (x ∷ tokens) n (suc at) h = done_from tokens (n + 1) at (omega arith)

past_end : (tokens : List Token) (at : ℕ) → slice_get tokens at ≡ None → length tokens ≤ at
past_end [] at none = omega arith
past_end (x ∷ tokens) zero none = absurd (cc)
past_end (x ∷ tokens) (suc at) none = let later = past_end tokens at none in omega arith

-- At the end no token is left.
pub done_is : (tokens : List Token) (at : ℕ) → length tokens ≤ at → drop at (numbered 0 (kinds_of tokens)) ≡ []
done_is tokens at h = done_from tokens 0 at h

-- The same, where no token is found.
pub none_is : (tokens : List Token) (at : ℕ) → slice_get tokens at ≡ None → drop at (numbered 0 (kinds_of tokens)) ≡ []
none_is tokens at none = done_is tokens at (past_end tokens at none)

some_left : (tokens : List Token) (n at : ℕ) → drop at (numbered n (kinds_of tokens)) ≡ [] → length tokens ≤ at
some_left [] n at h = omega arith
some_left (x ∷ tokens) n zero h = absurd (cc)
some_left (x ∷ tokens) n (suc at) h = let later = some_left tokens (n + 1) at h in omega arith

-- Where none is left the place is the end.
pub is_end : (tokens : List Token) (at : ℕ) → drop at (numbered 0 (kinds_of tokens)) ≡ [] → length tokens ≤ at
is_end tokens at h = some_left tokens 0 at h

kind_is : (kind : Kind) (tokens : List Token) (n at : ℕ) → IsAt kind (drop at (numbered n (kinds_of tokens))) →
    (t : Token) × (at < length tokens) × (t ≡ get_or tokens at t) × (t.kind ≡ kind)
kind_is kind [] n zero h = absurd h
kind_is kind [] n (suc at) h = absurd h
kind_is kind (x ∷ tokens) n zero h = (x, omega arith, refl, h)
kind_is kind (x ∷ tokens) n (suc at) h =
    let later = kind_is kind tokens (n + 1) at h in (later.0, omega arith, later.2, later.3)

-- The next token of a kind, and the tokens after it.
pub next_is : (kind : Kind) (tokens : List Token) (at : ℕ) → IsAt kind (drop at (numbered 0 (kinds_of tokens))) →
    (at < length tokens)
    × (drop at (numbered 0 (kinds_of tokens)) ≡ (at, kind) ∷ drop (at + 1) (numbered 0 (kinds_of tokens)))
next_is kind tokens at h =
    let t = kind_is kind tokens 0 at h in
    let rest = drop (at + 1) (numbered 0 (kinds_of tokens)) in
    (t.1, here_is tokens at t.0 t.1 t.2 ∙ ap (λ (k : Kind). (at, k) ∷ rest) t.3)
