-- Single tokens of C are read exactly, and what a text that stops before one goes on with.

use Rattle.std.proofs.Common.{◌≡◌, ℕ, true, List, [], ◌∷◌, ap, ◌∙◌}
use Rattle.c_lexer.specs.declared.token.Kind.{Kind}
use Rattle.c_lexer.specs.declared.keyword.TheConstants.{KEY_SIZEOF, KEY_ALIGNOF, KEY_INT}
use Rattle.c_lexer.specs.declared.mark.TheConstants.{MARK_LEFT_BRACKET, MARK_RIGHT_BRACKET}
use Rattle.c_lexer.specs.declared.mark.TheConstants.{MARK_LEFT_PAREN, MARK_RIGHT_PAREN}
use Rattle.c_lexer.specs.declared.mark.TheConstants.{MARK_LEFT_BRACE, MARK_RIGHT_BRACE}
use Rattle.c_lexer.specs.declared.mark.TheConstants.{MARK_DOT, MARK_ARROW, MARK_COMMA, MARK_EQUAL}
use Rattle.c_lexer.specs.declared.mark.TheConstants.{MARK_QUESTION, MARK_COLON, MARK_STAR, MARK_PLUS_PLUS, MARK_PLUS}
use Rattle.c_scopes.specs.Scopes.{OpenScopes}
use Rattle.reading.specs.Terminals.{has}
use Rattle.reading.proofs.ReadBy.{Stage, Nullable, IsReadBy}
use Rattle.reading.proofs.ReadOne.{Sample}
use Rattle.c_reading.specs.Kept.{KeptToken}
use Rattle.c_reading.specs.Cursors.{Around}
use Rattle.c_reading.specs.Terminals.{WORD, TYPEDEF_NAME, NUMBER, TEXT, terminal, mark, key}
use Rattle.c_reading.proofs.InScope.{same_terminals}
use Rattle.c_syntax.specs.Scoping.{Part, PartReader, is_typedef_name, terminal_of}

-- The terminals of which completions are made.
abbrev pub needed : List ℕ
needed =
    WORD ∷ NUMBER ∷ TEXT ∷ key KEY_SIZEOF ∷ key KEY_ALIGNOF ∷ key KEY_INT ∷ mark MARK_LEFT_BRACKET ∷
    mark MARK_RIGHT_BRACKET ∷ mark MARK_LEFT_PAREN ∷ mark MARK_RIGHT_PAREN ∷ mark MARK_LEFT_BRACE ∷
    mark MARK_RIGHT_BRACE ∷ mark MARK_DOT ∷ mark MARK_ARROW ∷ mark MARK_COMMA ∷ mark MARK_EQUAL ∷
    mark MARK_QUESTION ∷ mark MARK_COLON ∷ mark MARK_STAR ∷ mark MARK_PLUS_PLUS ∷ mark MARK_PLUS ∷ []

-- Tokens that a text can have, of which there is one for each of these terminals.
pub record Tokens : Type 1 where
  pub IsToken : KeptToken → Type 0
  pub token : (kind : Kind) → has needed (terminal kind) ≡ true → KeptToken
  pub is : (kind : Kind) (h : has needed (terminal kind) ≡ true) → IsToken (token kind h)
  pub kind_is : (kind : Kind) (h : has needed (terminal kind) ≡ true) → (token kind h).lexeme.kind ≡ kind

module _ (tokens : Tokens) where
  -- The rule is read exactly by the reader.
  abbrev pub IsRead : Stage → Type 0 → {A : Type 0} → (ℕ → Part A) → PartReader A → Nullable → List ℕ → (A → List ℕ) → Type 0
  IsRead stage given X p null first last = IsReadBy {Around = Around} terminal_of tokens.IsToken stage given X p null first last

  -- A token of the kind, for a set that tells no names apart.
  pub sample : (set : List ℕ) (kind : Kind) → has needed (terminal kind) ≡ true → has set WORD ≡ has set TYPEDEF_NAME → has set (terminal kind) ≡ true →
      (scopes : OpenScopes) → Sample terminal_of tokens.IsToken set scopes
  sample set kind need alike fits scopes =
      let t = tokens.token kind need in record {
        token = t;
        lexeme = tokens.is kind need;
        fits = same_terminals is_typedef_name set alike scopes t ∙ (ap (λ (k : Kind). has set (terminal k)) (tokens.kind_is kind need) ∙ fits);
      }
