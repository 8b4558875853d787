-- A text is read in one way.
use Rattle.std.proofs.Common.{◌≡◌, ℕ, List, [], ◌∷◌, length, refl, ap, sym, subst, ◌∙◌, arith, inl, inr}
use Rattle.std.proofs.lemmas.Bool.{cases_order}
use Rattle.c_lexer.specs.Passing.{IsPassed, PassesOver, PassesAll, nothing, onward}
use Rattle.c_lexer.specs.Reading.{IsLongest, IsTokenOf, Reads, AreTokensOf, StopsAt}
use Rattle.c_lexer.specs.Lines.{line_at, column_at}
use Rattle.c_lexer.specs.declared.token.Token.{Token}
use Rattle.c_lexer.specs.declared.token.Kind.{Kind}
use Rattle.c_lexer.proofs.Comments.{passed_once}
use Rattle.c_lexer.proofs.OneKind.{one_kind}

-- what is passed over whole comes to one offset
passes_once : (bytes : List ℕ) {from p q : ℕ} → PassesOver bytes from p → PassesOver bytes from q → ((past : ℕ) → IsPassed bytes p past → ⊥) → ((past : ℕ) → IsPassed bytes q past → ⊥) → p ≡ q
passes_once bytes nothing nothing f g = refl
passes_once bytes nothing (onward b r) f g = absurd (f _ b)
passes_once bytes (onward a r) nothing f g = absurd (g _ a)
passes_once bytes {p = p} {q = q} (onward a r) (onward b s) f g =
    let same = passed_once bytes _ _ _ b a in
    passes_once bytes r (subst (λ via. PassesOver bytes via q) same s) f g

-- so does all that is passed over
all_once : (bytes : List ℕ) (from p q : ℕ) → PassesAll bytes from p → PassesAll bytes from q → p ≡ q
all_once bytes from p q a b = passes_once bytes a.passed b.passed a.no_more b.no_more

-- the longest token has one end
one_end : (bytes : List ℕ) (from p q : ℕ) (k j : Kind) → IsLongest bytes from p k → IsLongest bytes from q j → p ≡ q
one_end bytes from p q k j a b = elim (cases_order p q) [
  | inl e ↦ e
  | inr (inl l) ↦ absurd (a.longest j q l b.within b.spelled)
  | inr (inr l) ↦ absurd (b.longest k p l a.within a.spelled)
]

-- tokens with the same fields are the same
same_token : (t u : Token) → t.kind ≡ u.kind → t.start ≡ u.start → t.end ≡ u.end → t.line ≡ u.line → t.column ≡ u.column → t ≡ u
same_token t u a b c d e =
    let f : Kind → ℕ → ℕ → ℕ → ℕ → Token = λ k x y z w. record { kind = k; start = x; end = y; line = z; column = w } in
    let g : f t.kind t.start t.end t.line t.column ≡ f u.kind u.start u.end u.line u.column = cc in
    g

-- one token stands at a offset
one_token : (bytes : List ℕ) (t u : Token) → t.start ≡ u.start → IsTokenOf bytes t → IsTokenOf bytes u → t ≡ u
one_token bytes t u e a b =
    let first = rw e at a.longest in
    let ends = one_end bytes u.start t.end u.end t.kind u.kind first b.longest in
    let part = rw ends at first.spelled in
    same_token t u (one_kind bytes u.start u.end t.kind u.kind b.longest.some b.longest.within part b.longest.spelled) e ends (a.line ∙ (ap (line_at bytes) e ∙ sym b.line)) (a.column ∙ (ap (column_at bytes) e ∙ sym b.column))

-- from a offset the text is read in one way
one_reading : (bytes : List ℕ) (from : ℕ) (ts us : List Token) (p q : ℕ) → Reads bytes from ts p → Reads bytes from us q → (ts ≡ us) × (p ≡ q)
one_reading bytes from [] [] p q a b = (refl, all_once bytes from p q a.0 b.0)
one_reading bytes from [] (u ∷ us) p q a b =
    let e = all_once bytes from p u.start a.0 b.0 in
    let l = b.1.longest in
    absurd (a.1 u.kind u.end (omega (arith, l.some)) l.within (rw (← e) at l.spelled))
one_reading bytes from (t ∷ ts) [] p q a b =
    let e = all_once bytes from q t.start b.0 a.0 in
    let l = a.1.longest in
    absurd (b.1 t.kind t.end (omega (arith, l.some)) l.within (rw (← e) at l.spelled))
one_reading bytes from (t ∷ ts) (u ∷ us) p q a b =
    let e = all_once bytes from t.start u.start a.0 b.0 in
    let same = one_token bytes t u e a.1 b.1 in
    let rest = one_reading bytes u.end ts us p q (rw (ap (λ (t : Token). t.end) same) at a.2) b.2 in
    (ap (λ z. z ∷ ts) same ∙ ap (λ z. u ∷ z) rest.0, rest.1)

-- a text has one list of tokens
pub one_list : (bytes : List ℕ) (ts us : List Token) → AreTokensOf bytes ts → AreTokensOf bytes us → ts ≡ us
one_list bytes ts us a b = (one_reading bytes 0 ts us (length bytes) (length bytes) a b).0

-- a text has one stop
pub one_stop : (bytes : List ℕ) (p q : ℕ) → StopsAt bytes p → StopsAt bytes q → p ≡ q
one_stop bytes p q a b = (one_reading bytes 0 a.tokens b.tokens p q a.reads b.reads).1

-- a text that has tokens does not stop
pub never_both : (bytes : List ℕ) (ts : List Token) (p : ℕ) → AreTokensOf bytes ts → StopsAt bytes p → ⊥
never_both bytes ts p a b = let e = (one_reading bytes 0 ts b.tokens (length bytes) p a b.reads).1 in let l = b.before_end in omega arith
