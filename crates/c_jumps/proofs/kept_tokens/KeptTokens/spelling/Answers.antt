use Rattle.std.proofs.Common.{◌≡◌, ℕ, List, [], Option, Some, None, sym, ap, ◌∙◌}
use Rattle.std.specs.Prelude.{slice_get, unwrap_or}
use Rattle.std.specs.Option.{option_map}
use Rattle.std.proofs.lemmas.Option.{slice_get-map}
use Rattle.c_lexer.specs.declared.token.Token.{Token}
use Rattle.c_lexer.specs.Lexemes.{Lexeme}
use Rattle.c_lexer.specs.Reading.{IsWithin}
use Rattle.line_marks.specs.Kept.{items_at}
use Rattle.c_reading.specs.Kept.{lexeme_in, kept_lexemes}
use Rattle.c_reading.proofs.ItemsAt.{all_at}
use Rattle.c_tree.specs.Lexemes.{spelling_at}
use Rattle.c_jumps.proofs.kept_tokens.KeptTokens.spelling.Goals as goal

-- The bytes of the token, where there is one.
abbrev spelled_by : List ℕ → Option Token → List ℕ
spelled_by bytes token = unwrap_or (option_map (λ (lexeme : Lexeme). lexeme.spelling) (option_map (lexeme_in bytes) token)) []

spelling_is : (bytes : List ℕ) (tokens : List Token) (kept : List ℕ) (number : ℕ) (token : Option Token) → token ≡ slice_get (items_at tokens kept) number →
    spelled_by bytes token ≡ spelling_at (kept_lexemes bytes tokens kept) number
spelling_is bytes tokens kept number token is =
    ap (spelled_by bytes) is ∙
    sym (ap (λ (lexeme : Option Lexeme). unwrap_or (option_map (λ (lexeme : Lexeme). lexeme.spelling) lexeme) []) (slice_get-map (lexeme_in bytes) (items_at tokens kept) number))

pub spelled-requires : goal.spelled-requires
spelled-requires c =
    let i = c.self.inside in
    record { within = all_at (IsWithin i.bytes.now) i.tokens.now i.kept.now c.args.token c.in-Some.token c.self.invariant.1 (sym c.in-Some.ensures) }

pub returns-in-Some : goal.returns-in-Some
returns-in-Some c =
    let i = c.self.inside in
    c.spelled.ensures ∙ (spelling_is i.bytes.now i.tokens.now i.kept.now c.args.token (Some c.in-Some.token) c.in-Some.ensures ∙
    ap (λ (lexemes : List Lexeme). spelling_at lexemes c.args.token) c.self.view_is)

pub returns-in-None : goal.returns-in-None
returns-in-None c =
    let i = c.self.inside in
    spelling_is i.bytes.now i.tokens.now i.kept.now c.args.token None c.in-None.ensures ∙
    ap (λ (lexemes : List Lexeme). spelling_at lexemes c.args.token) c.self.view_is
