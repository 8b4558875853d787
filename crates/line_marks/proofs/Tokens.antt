-- What holds of each token of a text.
use Rattle.std.proofs.Common.{◌≡◌, ◌==◌, ℕ, suc, zero, ◌+◌, ◌<◌, ◌≤◌, List, [], ◌∷◌, length, take, get_or, subst, arith}
use Rattle.std.proofs.lemmas.List.{length-take}
use Rattle.std.proofs.lemmas.List.Sums.{count_by-le-length}
use Rattle.c_lexer.specs.Bytes.{line_feed}
use Rattle.c_lexer.specs.Directives.{IsLineMarker}
use Rattle.c_lexer.specs.Reading.{AreTokensOf, IsTokenOf, Reads}
use Rattle.c_lexer.specs.Spelling.{Spells}
use Rattle.c_lexer.specs.declared.token.Kind.TheVariants.{Line}
use Rattle.c_lexer.specs.declared.token.Token.{Token}

token_from : (bytes : List ℕ) (from stop : ℕ) (tokens : List Token) (i : ℕ) (d : Token) → Reads bytes from tokens stop → i < length tokens → IsTokenOf bytes (get_or tokens i d)
token_from bytes from stop [] i d h l = absurd (omega arith)
token_from bytes from stop (token ∷ tokens) zero d h l = h.1
token_from bytes from stop (token ∷ tokens) (suc i) d h l = token_from bytes token.end stop tokens i d h.2 (omega arith)

-- Each of the tokens is one of the text.
pub token_is : (bytes : List ℕ) (tokens : List Token) (i : ℕ) (d : Token) → AreTokensOf bytes tokens → i < length tokens → IsTokenOf bytes (get_or tokens i d)
token_is bytes tokens i d h l = token_from bytes 0 (length bytes) tokens i d h l

-- Its line is at most one more than the bytes are.
pub line_small : (bytes : List ℕ) (t : Token) → IsTokenOf bytes t → t.line ≤ length bytes + 1
line_small bytes t h =
    let few = count_by-le-length (λ byte. byte == line_feed) (take t.start bytes) in
    let line = h.line in
    omega (arith, length-take t.start bytes)

-- A line marker's bytes are a line marker.
pub marker_is : (bytes : List ℕ) (t : Token) → IsTokenOf bytes t → t.kind ≡ Line → IsLineMarker bytes t.start t.end
marker_is bytes t h e = subst (Spells bytes t.start t.end) e h.longest.spelled
