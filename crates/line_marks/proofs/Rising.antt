-- The positions that are kept rise, and each is that of a token.
use Rattle.std.proofs.Common.{◌≡◌, ℕ, zero, suc, ◌+◌, ◌<◌, ◌≤◌, List, [], ◌∷◌, length, slice_index, Option, Some, None, subst, arith}
use Rattle.std.specs.List.Sorted.{IsStrictlyIncreasing}
use Rattle.std.proofs.lemmas.List.Elements.{All-nil, All-cons}
use Rattle.c_lexer.specs.declared.token.Kind.{Kind}
use Rattle.c_lexer.specs.declared.token.Token.{Token}
use Rattle.line_marks.specs.Balance.{AreBalanced, IsGroup}
use Rattle.line_marks.specs.Balance.AreBalanced.{none, plain, group}
use Rattle.line_marks.specs.Kept.{AreKept, AreParens, ArePositionsIn, IsDropped, Strips}
use Rattle.line_marks.specs.Kept as kept
use Rattle.line_marks.proofs.Groups.{kind_within}

-- What is balanced, and what is dropped, leads on within the tokens.
balanced_forward : (tokens : List Token) (at to : ℕ) → AreBalanced tokens at to → at ≤ to
balanced_forward tokens at to none = omega arith
balanced_forward tokens at to (plain kind is bare rest) = let later = balanced_forward tokens (at + 1) to rest in omega arith
balanced_forward tokens at to (group opening closing end opens inside closes pair rest) =
    let within = balanced_forward tokens (at + 1) end inside in
    let later = balanced_forward tokens (end + 1) to rest in
    omega arith

group_forward : (tokens : List Token) (at to : ℕ) → IsGroup tokens at to → at < to
group_forward tokens at to is =
    let inside = balanced_forward tokens (at + 1) is.end is.inside in
    let past = is.past in
    omega arith

parens_forward : (tokens : List Token) (from to : ℕ) → AreParens tokens from to → from < to
parens_forward tokens from to (kept.AreParens.absent kind is gone rest) = let later = parens_forward tokens (from + 1) to rest in omega arith
parens_forward tokens from to (kept.AreParens.parens is whole) = group_forward tokens from to whole

dropped_forward : (tokens : List Token) (before : Option Kind) (at to : ℕ) → IsDropped tokens before at to → at < to
dropped_forward tokens before at to (kept.IsDropped.absent kind is gone) = omega arith
dropped_forward tokens before at to (kept.IsDropped.attribute is round) = let later = parens_forward tokens (at + 1) to round in omega arith
dropped_forward tokens before at to (kept.IsDropped.symbol is ends round) = let later = parens_forward tokens (at + 1) to round in omega arith

inside_from : (tokens : List Token) (before : Option Kind) (at : ℕ) (positions : List ℕ) (stop : ℕ) → Strips tokens before at positions stop →
    ArePositionsIn tokens positions
inside_from tokens before at positions stop (kept.Strips.ends is) = All-nil (λ position. position < length tokens)
inside_from tokens before at positions stop (kept.Strips.stops bad) = All-nil (λ position. position < length tokens)
inside_from tokens before at positions stop (kept.Strips.drops to is rest) = inside_from tokens before to positions stop rest
inside_from tokens before at positions stop (kept.Strips.keeps {kept = more} kind is rest) =
    All-cons (λ position. position < length tokens) at more (kind_within tokens at kind is.token) (inside_from tokens (Some kind) (at + 1) more stop rest)

-- Each kept position is that of a token.
pub kept_inside : (tokens : List Token) (positions : List ℕ) → AreKept tokens positions → ArePositionsIn tokens positions
kept_inside tokens positions are = inside_from tokens None 0 positions are.stop are.strips

-- From `at` on, the position of number k is at least at + k.
ahead_from : (tokens : List Token) (before : Option Kind) (at : ℕ) (positions : List ℕ) (stop : ℕ) → Strips tokens before at positions stop →
    (k : ℕ) → k < length positions → at + k ≤ slice_index positions k
ahead_from tokens before at positions stop (kept.Strips.ends is) k within = absurd (omega arith)
ahead_from tokens before at positions stop (kept.Strips.stops bad) k within = absurd (omega arith)
ahead_from tokens before at positions stop (kept.Strips.drops to is rest) k within =
    let forward = dropped_forward tokens before at to is in
    let later = ahead_from tokens before to positions stop rest k within in
    omega arith
ahead_from tokens before at positions stop (kept.Strips.keeps {kept = more} kind is rest) zero within = omega arith
ahead_from tokens before at positions stop (kept.Strips.keeps {kept = more} kind is rest) (suc k) within =
    let later = ahead_from tokens (Some kind) (at + 1) more stop rest k (omega arith) in
    omega arith

rising_from : (tokens : List Token) (before : Option Kind) (at : ℕ) (positions : List ℕ) (stop : ℕ) → Strips tokens before at positions stop →
    (k : ℕ) → suc k < length positions → slice_index positions k < slice_index positions (suc k)
rising_from tokens before at positions stop (kept.Strips.ends is) k within = absurd (omega arith)
rising_from tokens before at positions stop (kept.Strips.stops bad) k within = absurd (omega arith)
rising_from tokens before at positions stop (kept.Strips.drops to is rest) k within = rising_from tokens before to positions stop rest k within
rising_from tokens before at positions stop (kept.Strips.keeps {kept = more} kind is rest) zero within =
    let next = ahead_from tokens (Some kind) (at + 1) more stop rest zero (omega arith) in
    omega arith
rising_from tokens before at positions stop (kept.Strips.keeps {kept = more} kind is rest) (suc k) within =
    rising_from tokens (Some kind) (at + 1) more stop rest k (omega arith)

-- The kept positions rise.
pub kept_rising : (tokens : List Token) (positions : List ℕ) → AreKept tokens positions → IsStrictlyIncreasing positions
kept_rising tokens positions are k within =
    let next : suc k ≡ k + 1 = omega arith in
    subst (λ n. slice_index positions k < slice_index positions n) next (rising_from tokens None 0 positions are.stop are.strips k (omega arith))

few_ahead : (positions : List ℕ) (count : ℕ) → ((k : ℕ) → k < length positions → k < count) → length positions ≤ count
few_ahead [] count ahead = omega arith
few_ahead (position ∷ positions) count ahead = let last = ahead (length positions) (omega arith) in omega arith

-- There are no more kept positions than tokens.
pub few_kept : (tokens : List Token) (positions : List ℕ) → AreKept tokens positions → length positions ≤ length tokens
few_kept tokens positions are =
    few_ahead positions (length tokens) (λ k within.
    let inside : slice_index positions k < length tokens = kept_inside tokens positions are k 0 within in
    let ahead = ahead_from tokens None 0 positions are.stop are.strips k within in
    omega arith)
