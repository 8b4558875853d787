-- The tokens of a text stand in it, and are no more than its bytes.
use Rattle.std.proofs.Common.{ℕ, suc, zero, ◌+◌, ◌<◌, ◌≤◌, List, [], ◌∷◌, length, get_or, arith}
use Rattle.std.specs.List.{All}
use Rattle.std.proofs.lemmas.List.Elements.{All-from_get_or}
use Rattle.c_lexer.specs.Passing.{PassesOver, nothing, onward}
use Rattle.c_lexer.specs.Reading.{AreTokensOf, IsWithin, Reads}
use Rattle.c_lexer.specs.declared.token.Token.{Token}
use Rattle.c_lexer.specs.declared.token.Kind.TheVariants.{Word}
use Rattle.c_lexer.proofs.Comments.{passed_forward}

-- what is passed over leads forwards
passes_forward : (bytes : List ℕ) {from to : ℕ} → PassesOver bytes from to → from ≤ to
passes_forward bytes (nothing {at}) = omega arith
passes_forward bytes (onward {from} {via} {to} p q) =
    let one = passed_forward bytes from via p in
    let later = passes_forward bytes q in
    omega arith

-- from a offset on no more tokens follow than bytes
few_from : (bytes : List ℕ) (from stop : ℕ) (tokens : List Token) → Reads bytes from tokens stop → from + length tokens ≤ stop
few_from bytes from stop [] h = let e = passes_forward bytes h.0.passed in omega arith
few_from bytes from stop (token ∷ tokens) h =
    let e = passes_forward bytes h.0.passed in
    let some = h.1.longest.some in
    let later = few_from bytes token.end stop tokens h.2 in
    omega arith

-- a text has no more tokens than bytes
pub few_tokens : (bytes : List ℕ) (tokens : List Token) → AreTokensOf bytes tokens → length tokens ≤ length bytes
few_tokens bytes tokens h = let e = few_from bytes 0 (length bytes) tokens h in omega arith

-- each token that follows stands in the text
within_from : (bytes : List ℕ) (from stop : ℕ) (tokens : List Token) (i : ℕ) (d : Token) → Reads bytes from tokens stop → i < length tokens → IsWithin bytes (get_or tokens i d)
within_from bytes from stop [] i d h l = absurd (omega arith)
within_from bytes from stop (token ∷ tokens) zero d h l =
    let some = h.1.longest.some in
    let within = h.1.longest.within in
    record { forward = omega arith; inside = within }
within_from bytes from stop (token ∷ tokens) (suc i) d h l = within_from bytes token.end stop tokens i d h.2 (omega arith)

-- each token of a text stands in it
pub tokens_within : (bytes : List ℕ) (tokens : List Token) → AreTokensOf bytes tokens → All (IsWithin bytes) tokens
tokens_within bytes [] h = All-from_get_or (IsWithin bytes) [] (record { kind = Word; start = 0; end = 0; line = 0; column = 0 }) (λ i l. absurd (omega arith))
tokens_within bytes (token ∷ tokens) h = All-from_get_or (IsWithin bytes) (token ∷ tokens) token (λ i l. within_from bytes 0 (length bytes) (token ∷ tokens) i token h l)
