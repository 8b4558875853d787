-- What is dropped ends at one position, and tokens are stripped in one way.
use Rattle.std.proofs.Common.{◌≡◌, ℕ, ◌+◌, List, ◌∷◌, Option, Some, None, refl, ap, sym, subst, arith}
use Rattle.c_lexer.specs.declared.token.Kind.{Kind}
use Rattle.c_lexer.specs.declared.token.Kind.TheVariants.{Key, Mark}
use Rattle.c_lexer.specs.declared.token.Token.{Token}
use Rattle.line_marks.specs.Balance.{IsGroup, kind_at}
use Rattle.line_marks.specs.Kept.{AreKept, AreParens, IsAbsent, IsBadAttribute, IsDropped, IsKept, StopsStripping, Strips, MayEndDeclarator}
use Rattle.line_marks.specs.Kept as kept
use Rattle.line_marks.proofs.Groups.{group_once, kind_once}

absent_is : (k j : Kind) → k ≡ j → IsAbsent j → IsAbsent k
absent_is k j e h = subst IsAbsent (sym e) h

-- An absent token is none of the others.
pub absent_at : (tokens : List Token) (at : ℕ) (k j : Kind) → kind_at tokens at ≡ Some k → kind_at tokens at ≡ Some j → IsAbsent j → IsAbsent k
absent_at tokens at k j a b h = absent_is k j (kind_once tokens at k j a b) h

-- Parentheses end at one position.
parens_once : (tokens : List Token) (from p q : ℕ) → AreParens tokens from p → AreParens tokens from q → p ≡ q
parens_once tokens from p q (kept.AreParens.absent k is gone rest) (kept.AreParens.absent j is2 gone2 rest2) = parens_once tokens (from + 1) p q rest rest2
parens_once tokens from p q (kept.AreParens.absent k is gone rest) (kept.AreParens.parens is2 g) = absurd (absent_at tokens from (Mark 2) k is2 is gone)
parens_once tokens from p q (kept.AreParens.parens is g) (kept.AreParens.absent j is2 gone2 rest2) = absurd (absent_at tokens from (Mark 2) j is is2 gone2)
parens_once tokens from p q (kept.AreParens.parens is g) (kept.AreParens.parens is2 g2) = group_once tokens from p q g g2

-- `__attribute__` and `__asm__` are not absent, and differ.
not_attribute : (tokens : List Token) (at : ℕ) (k : Kind) → kind_at tokens at ≡ Some k → kind_at tokens at ≡ Some (Key 57) → IsAbsent k → ⊥
not_attribute tokens at k a b gone = let h = absent_at tokens at (Key 57) k b a gone in omega (arith, h)

not_asm : (tokens : List Token) (at : ℕ) (k : Kind) → kind_at tokens at ≡ Some k → kind_at tokens at ≡ Some (Key 59) → IsAbsent k → ⊥
not_asm tokens at k a b gone = let h = absent_at tokens at (Key 59) k b a gone in omega (arith, h)

asm_attribute : (tokens : List Token) (at : ℕ) → kind_at tokens at ≡ Some (Key 59) → kind_at tokens at ≡ Some (Key 57) → ⊥
asm_attribute tokens at a b = let f : ℕ = 59 in let g : ℕ = 57 in let e : f ≡ g = cc in omega (arith, e)

-- What is dropped ends at one position.
dropped_once : (tokens : List Token) (before : Option Kind) (at p q : ℕ) → IsDropped tokens before at p → IsDropped tokens before at q → p ≡ q
dropped_once tokens before at p q (kept.IsDropped.absent k is gone) (kept.IsDropped.absent j is2 gone2) = refl
dropped_once tokens before at p q (kept.IsDropped.absent k is gone) (kept.IsDropped.attribute is2 round) = absurd (not_attribute tokens at k is is2 gone)
dropped_once tokens before at p q (kept.IsDropped.absent k is gone) (kept.IsDropped.symbol is2 ends round) = absurd (not_asm tokens at k is is2 gone)
dropped_once tokens before at p q (kept.IsDropped.attribute is round) (kept.IsDropped.absent j is2 gone2) = absurd (not_attribute tokens at j is2 is gone2)
dropped_once tokens before at p q (kept.IsDropped.attribute is round) (kept.IsDropped.attribute is2 round2) = parens_once tokens (at + 1) p q round round2
dropped_once tokens before at p q (kept.IsDropped.attribute is round) (kept.IsDropped.symbol is2 ends round2) = absurd (asm_attribute tokens at is2 is)
dropped_once tokens before at p q (kept.IsDropped.symbol is ends round) (kept.IsDropped.absent j is2 gone2) = absurd (not_asm tokens at j is2 is gone2)
dropped_once tokens before at p q (kept.IsDropped.symbol is ends round) (kept.IsDropped.attribute is2 round2) = absurd (asm_attribute tokens at is is2)
dropped_once tokens before at p q (kept.IsDropped.symbol is ends round) (kept.IsDropped.symbol is2 ends2 round2) = parens_once tokens (at + 1) p q round round2

-- A bad attribute is not dropped.
bad_stays : (tokens : List Token) (before : Option Kind) (at to : ℕ) → IsBadAttribute tokens at → IsDropped tokens before at to → ⊥
bad_stays tokens before at to bad (kept.IsDropped.absent k is gone) = not_attribute tokens at k is bad.word gone
bad_stays tokens before at to bad (kept.IsDropped.attribute is round) = bad.alone to round
bad_stays tokens before at to bad (kept.IsDropped.symbol is ends round) = asm_attribute tokens at is bad.word

-- What is dropped begins with a token.
dropped_some : (tokens : List Token) (before : Option Kind) (at to : ℕ) → kind_at tokens at ≡ None → IsDropped tokens before at to → ⊥
dropped_some tokens before at to e (kept.IsDropped.absent k is gone) = cc
dropped_some tokens before at to e (kept.IsDropped.attribute is round) = cc
dropped_some tokens before at to e (kept.IsDropped.symbol is ends round) = cc

-- Tokens are stripped in one way.
strips_once : (tokens : List Token) (before : Option Kind) (at : ℕ) (xs ys : List ℕ) (p q : ℕ) → Strips tokens before at xs p → Strips tokens before at ys q → (xs ≡ ys) × (p ≡ q)
strips_once tokens before at xs ys p q (kept.Strips.ends e) (kept.Strips.ends f) = (refl, refl)
strips_once tokens before at xs ys p q (kept.Strips.ends e) (kept.Strips.stops bad) = let word = bad.word in absurd (cc)
strips_once tokens before at xs ys p q (kept.Strips.ends e) (kept.Strips.drops to d rest) = absurd (dropped_some tokens before at to e d)
strips_once tokens before at xs ys p q (kept.Strips.ends e) (kept.Strips.keeps k is rest) = let token = is.token in absurd (cc)
strips_once tokens before at xs ys p q (kept.Strips.stops bad) (kept.Strips.ends e) = let word = bad.word in absurd (cc)
strips_once tokens before at xs ys p q (kept.Strips.stops bad) (kept.Strips.stops bad2) = (refl, refl)
strips_once tokens before at xs ys p q (kept.Strips.stops bad) (kept.Strips.drops to d rest) = absurd (bad_stays tokens before at to bad d)
strips_once tokens before at xs ys p q (kept.Strips.stops bad) (kept.Strips.keeps k is rest) = absurd (is.good bad)
strips_once tokens before at xs ys p q (kept.Strips.drops to d rest) (kept.Strips.ends e) = absurd (dropped_some tokens before at to e d)
strips_once tokens before at xs ys p q (kept.Strips.drops to d rest) (kept.Strips.stops bad) = absurd (bad_stays tokens before at to bad d)
strips_once tokens before at xs ys p q (kept.Strips.drops to d rest) (kept.Strips.drops to2 d2 rest2) =
    let same = dropped_once tokens before at to to2 d d2 in
    strips_once tokens before to xs ys p q rest (subst (λ n. Strips tokens before n ys q) (sym same) rest2)
strips_once tokens before at xs ys p q (kept.Strips.drops to d rest) (kept.Strips.keeps k is rest2) = absurd (is.stays to d)
strips_once tokens before at xs ys p q (kept.Strips.keeps k is rest) (kept.Strips.ends e) = let token = is.token in absurd (cc)
strips_once tokens before at xs ys p q (kept.Strips.keeps k is rest) (kept.Strips.stops bad) = absurd (is.good bad)
strips_once tokens before at xs ys p q (kept.Strips.keeps k is rest) (kept.Strips.drops to d rest2) = absurd (is.stays to d)
strips_once tokens before at xs ys p q (kept.Strips.keeps {kept = us} k is rest) (kept.Strips.keeps {kept = vs} j is2 rest2) =
    let same = kind_once tokens at k j is.token is2.token in
    let later = strips_once tokens (Some k) (at + 1) us vs p q rest (subst (λ x. Strips tokens (Some x) (at + 1) vs q) (sym same) rest2) in
    (ap (λ zs. at ∷ zs) later.0, later.1)

-- Tokens have one list that is kept.
pub kept_once : (tokens : List Token) (xs ys : List ℕ) → AreKept tokens xs → AreKept tokens ys → xs ≡ ys
kept_once tokens xs ys a b = (strips_once tokens None 0 xs ys a.stop b.stop a.strips b.strips).0

-- Tokens are refused for one attribute.
pub stop_once : (tokens : List Token) (p q : ℕ) → StopsStripping tokens p → StopsStripping tokens q → p ≡ q
stop_once tokens p q a b = (strips_once tokens None 0 a.kept b.kept p q a.strips b.strips).1

-- Tokens that have a list that is kept are not refused.
pub not_both : (tokens : List Token) (xs : List ℕ) (p : ℕ) → AreKept tokens xs → StopsStripping tokens p → ⊥
not_both tokens xs p a b =
    let same = (strips_once tokens None 0 xs b.kept a.stop p a.strips b.strips).1 in
    let end = subst (λ n. kind_at tokens n ≡ None) same a.end in
    let word = b.bad.word in
    cc

-- Parentheses where a `(` stands are its group.
pub parens_here : (tokens : List Token) (from to : ℕ) → kind_at tokens from ≡ Some (Mark 2) → AreParens tokens from to → IsGroup tokens from to
parens_here tokens from to is (kept.AreParens.absent k is2 gone rest) = absurd (absent_at tokens from (Mark 2) k is is2 gone)
parens_here tokens from to is (kept.AreParens.parens is2 g) = g

-- Parentheses behind an absent token.
pub parens_later : (tokens : List Token) (from to : ℕ) (k : Kind) → kind_at tokens from ≡ Some k → IsAbsent k → AreParens tokens from to → AreParens tokens (from + 1) to
parens_later tokens from to k is gone (kept.AreParens.absent j is2 gone2 rest) = rest
parens_later tokens from to k is gone (kept.AreParens.parens is2 g) = absurd (absent_at tokens from (Mark 2) k is2 is gone)
