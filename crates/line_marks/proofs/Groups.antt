-- Balanced text ends at one position.
use Rattle.std.proofs.Common.{◌≡◌, ℕ, zero, suc, ◌+◌, ◌<◌, ◌≤◌, List, [], ◌∷◌, length, Some, None, refl, ap, sym, subst, ◌∙◌, arith}
use Rattle.c_lexer.specs.declared.token.Kind.{Kind}
use Rattle.c_lexer.specs.declared.token.Kind.TheVariants.{Mark}
use Rattle.c_lexer.specs.declared.token.Token.{Token}
use Rattle.line_marks.specs.Balance.{AreBalanced, Closes, IsBracket, IsGroup, kind_at}
use Rattle.line_marks.specs.Balance.AreBalanced.{none, plain, group}
use Rattle.line_marks.specs.Stripping.{EndsBalance, IsBalancedTo, MayDropGroup}
use Rattle.std.specs.List.{All}
use Rattle.std.proofs.lemmas.List.Elements.{All-head, All-tail}

-- A kind that brackets have, as a fact of the token.
bracket_is : (k j : Kind) → k ≡ j → IsBracket j → IsBracket k
bracket_is k j e h = subst IsBracket (sym e) h

-- One kind stands at a position.
pub kind_once : (tokens : List Token) (at : ℕ) (k j : Kind) → kind_at tokens at ≡ Some k → kind_at tokens at ≡ Some j → k ≡ j
kind_once tokens at k j a b = cc

mark_once : (tokens : List Token) (at m n : ℕ) → kind_at tokens at ≡ Some (Mark m) → kind_at tokens at ≡ Some (Mark n) → m ≡ n
mark_once tokens at m n a b = cc

-- No mark opens and closes.
apart : (o c p : ℕ) → Closes o c → Closes c p → ⊥
apart o c p h g = grind arith

-- Each bracket is closed by one.
closer_once : (o c d : ℕ) → Closes o c → Closes o d → c ≡ d
closer_once o c d h g = grind arith

opener_low : (o c : ℕ) → Closes o c → o ≤ 5
opener_low o c h = grind arith

closer_low : (o c : ℕ) → Closes o c → c ≤ 5
closer_low o c h = grind arith

-- No balanced text goes on from a closing bracket.
closing_ends : (tokens : List Token) (at o c : ℕ) → kind_at tokens at ≡ Some (Mark c) → Closes o c → EndsBalance tokens at
closing_ends tokens at o c is pair = record {
  bracket = λ k e. bracket_is k (Mark c) (kind_once tokens at k (Mark c) e is) (closer_low o c pair);
  no_group = λ to g. apart o c g.closing pair (subst (λ m. Closes m g.closing) (mark_once tokens at g.opening c g.opens is) g.pair);
}

-- The longest balanced text from a position on has one end.
balanced_once : (tokens : List Token) (at p q : ℕ) → AreBalanced tokens at p → EndsBalance tokens p → AreBalanced tokens at q → EndsBalance tokens q → p ≡ q
balanced_once tokens at p q none f none g = refl
balanced_once tokens at p q none f (plain k is bare rest) g = absurd (bare (f.bracket k is))
balanced_once tokens at p q none f (group o c end opens inside closes pair rest) g =
    absurd (f.no_group (end + 1) (record { opening = o; closing = c; end = end; opens = opens; inside = inside; closes = closes; pair = pair; past = refl }))
balanced_once tokens at p q (plain k is bare rest) f none g = absurd (bare (g.bracket k is))
balanced_once tokens at p q (plain k is bare rest) f (plain j is2 bare2 rest2) g = balanced_once tokens (at + 1) p q rest f rest2 g
balanced_once tokens at p q (plain k is bare rest) f (group o c end opens inside closes pair rest2) g =
    absurd (bare (bracket_is k (Mark o) (kind_once tokens at k (Mark o) is opens) (opener_low o c pair)))
balanced_once tokens at p q (group o c end opens inside closes pair rest) f none g =
    absurd (g.no_group (end + 1) (record { opening = o; closing = c; end = end; opens = opens; inside = inside; closes = closes; pair = pair; past = refl }))
balanced_once tokens at p q (group o c end opens inside closes pair rest) f (plain k is bare rest2) g =
    absurd (bare (bracket_is k (Mark o) (kind_once tokens at k (Mark o) is opens) (opener_low o c pair)))
balanced_once tokens at p q (group o c end opens inside closes pair rest) f (group o2 c2 end2 opens2 inside2 closes2 pair2 rest2) g =
    let same = balanced_once tokens (at + 1) end end2 inside (closing_ends tokens end o c closes pair) inside2 (closing_ends tokens end2 o2 c2 closes2 pair2) in
    balanced_once tokens (end + 1) p q rest f (subst (λ n. AreBalanced tokens (n + 1) q) (sym same) rest2) g

-- A group has one end.
pub group_once : (tokens : List Token) (at p q : ℕ) → IsGroup tokens at p → IsGroup tokens at q → p ≡ q
group_once tokens at p q a b =
    let same = balanced_once tokens (at + 1) a.end b.end a.inside (closing_ends tokens a.end a.opening a.closing a.closes a.pair)
    b.inside (closing_ends tokens b.end b.opening b.closing b.closes b.pair) in
    a.past ∙ (ap (λ n. n + 1) same ∙ sym b.past)

-- A group ends where the longest balanced text behind its bracket does.
group_ends : (tokens : List Token) (at end to : ℕ) → IsBalancedTo tokens (at + 1) end → (g : IsGroup tokens at to) → g.end ≡ end
group_ends tokens at end to h g =
    balanced_once tokens (at + 1) g.end end g.inside (closing_ends tokens g.end g.opening g.closing g.closes g.pair) h.balanced h.ends

-- A token that stands at a position is inside the list.
pub kind_within : (tokens : List Token) (at : ℕ) (k : Kind) → kind_at tokens at ≡ Some k → at < length tokens
unfolding kind_at
kind_within [] at k e = absurd (cc)
kind_within (x ∷ tokens) zero k e = omega arith
kind_within (x ∷ tokens) (suc at) k e = let h = kind_within tokens at k e in omega arith

-- A token stands at each position inside the list.
pub kind_here : (tokens : List Token) (at : ℕ) → at < length tokens → (k : Kind) × (kind_at tokens at ≡ Some k)
unfolding kind_at
kind_here [] at h = absurd (omega arith)
kind_here (x ∷ tokens) zero h = (x.kind, refl)
kind_here (x ∷ tokens) (suc at) h = kind_here tokens at (omega arith)

-- Balanced text that a plain token goes before.
pub balanced_plain : (tokens : List Token) (at to : ℕ) (k : Kind) → kind_at tokens at ≡ Some k → (IsBracket k → ⊥) → IsBalancedTo tokens (at + 1) to → IsBalancedTo tokens at to
balanced_plain tokens at to k is bare h = record {
  low = omega arith;
  within = h.within;
  balanced = plain k is bare h.balanced;
  ends = h.ends;
}

-- Balanced text that a group goes before.
pub balanced_group : (tokens : List Token) (at end past to : ℕ) → IsBalancedTo tokens (at + 1) end → past ≡ end + 1 → IsGroup tokens at past → IsBalancedTo tokens past to → IsBalancedTo tokens at to
balanced_group tokens at end past to inner e g h =
    let low = h.low in
    let between = inner.low in
    record {
      low = omega arith;
      within = h.within;
      balanced = group g.opening g.closing g.end g.opens g.inside g.closes g.pair (subst (λ n. AreBalanced tokens n to) g.past h.balanced);
      ends = h.ends;
    }

-- No balanced text begins at a bracket that begins no group.
pub balanced_none : (tokens : List Token) (at : ℕ) (k : Kind) → kind_at tokens at ≡ Some k → IsBracket k → ((to : ℕ) → IsGroup tokens at to → ⊥) → IsBalancedTo tokens at at
balanced_none tokens at k is b bad = record {
  low = omega arith;
  within = let h = kind_within tokens at k is in omega arith;
  balanced = none;
  ends = record { bracket = λ j e. bracket_is j k (kind_once tokens at j k e is) b; no_group = bad };
}

-- Nothing stands behind the last token.
pub kind_past : (tokens : List Token) (at : ℕ) → length tokens ≤ at → kind_at tokens at ≡ None
unfolding kind_at
kind_past [] at h = refl
kind_past (x ∷ tokens) zero h = absurd (omega arith)
kind_past (x ∷ tokens) (suc at) h = kind_past tokens at (omega arith)

-- At the end of the tokens no balanced text begins.
pub balanced_end : (tokens : List Token) → IsBalancedTo tokens (length tokens) (length tokens)
balanced_end tokens =
    let end = kind_past tokens (length tokens) (omega arith) in
    record {
      low = omega arith;
      within = omega arith;
      balanced = none;
      ends = record {
        bracket = λ k e. absurd (cc);
        no_group = λ to g. let opens = g.opens in absurd (cc);
      };
    }

-- The closing bracket of a group stands where the longest balanced text behind its bracket ends.
pub group_closed : (tokens : List Token) (at end to : ℕ) → IsBalancedTo tokens (at + 1) end → (g : IsGroup tokens at to) → kind_at tokens end ≡ Some (Mark g.closing)
group_closed tokens at end to h g = subst (λ n. kind_at tokens n ≡ Some (Mark g.closing)) (group_ends tokens at end to h g) g.closes

-- Behind an opening bracket whose balanced text ends at no closing bracket of its own stands no group.
pub no_group_at : (tokens : List Token) (at end o c : ℕ) → IsBalancedTo tokens (at + 1) end → kind_at tokens at ≡ Some (Mark o) → kind_at tokens end ≡ Some (Mark c) → (Closes o c → ⊥) → (to : ℕ) → IsGroup tokens at to → ⊥
no_group_at tokens at end o c h opens closes apart to g =
    let first = mark_once tokens at g.opening o g.opens opens in
    let last = mark_once tokens end g.closing c (group_closed tokens at end to h g) closes in
    apart (subst (λ m. Closes m c) first (subst (λ m. Closes g.opening m) last g.pair))

-- No token may be dropped with a group, so none at a position.
pub not_dropped_at : (tokens : List Token) (at : ℕ) (k : Kind) → All (λ (token : Token). ¬ MayDropGroup token.kind) tokens → kind_at tokens at ≡ Some k → ¬ MayDropGroup k
unfolding kind_at
not_dropped_at [] at k all e = absurd (cc)
not_dropped_at (x ∷ tokens) zero k all e = λ may.
    let same : k ≡ x.kind = cc in
    All-head (λ (token : Token). ¬ MayDropGroup token.kind) x tokens all (subst MayDropGroup same may)
not_dropped_at (x ∷ tokens) (suc at) k all e = not_dropped_at tokens at k (All-tail (λ (token : Token). ¬ MayDropGroup token.kind) x tokens all) e
