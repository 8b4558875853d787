-- When expressions, type names and declarations are read exactly.

use Rattle.std.specs.Prelude.{ℕ, suc, ◌+◌, ◌≤◌, List}
use Rattle.c_lexer.specs.Lexemes.{IsLexeme}
use Rattle.c_scopes.specs.Scopes.{OpenScopes}
use Rattle.reading.specs.Readers.{Input}
use Rattle.reading.specs.Exact.{HIGHEST_LEVEL, room_on, IsExact}
use Rattle.c_reading.specs.Kept.{KeptToken}
use Rattle.c_reading.specs.Cursors.{Around}
use Rattle.c_syntax.specs.Scoping.{Part, PartReader}
use Rattle.c_parts.specs.PartReaders as read
use Rattle.c_parts.specs.PartRules as rule

-- A token that a text can have.
abbrev pub IsToken : KeptToken → Type 0
IsToken token = IsLexeme token.lexeme

abbrev pub from_tokens : Around → OpenScopes → List KeptToken → Input KeptToken OpenScopes Around
from_tokens around scopes left = record { tokens = left; scope = scopes; around = around }

-- Of whatever tokens, in each scope and on each level, the reader takes what the rule says. What is
-- refused could have gone on with tokens of a text.
abbrev pub AreExact : {A : Type 0} → (ℕ → ℕ → Part A) → (ℕ → PartReader A) → Type 0
AreExact rule reader =
    (around : Around) (level : ℕ) → level ≤ HIGHEST_LEVEL + 1 → (scopes : OpenScopes) →
    (left : List KeptToken) → IsExact IsToken around (λ turns. rule turns level scopes) left
    (reader (room_on level) (from_tokens around scopes left))

abbrev pub ExpressionsAreExact : Type 0
ExpressionsAreExact = AreExact rule.expr (λ room. read.expr (suc room))

abbrev pub TypeNamesAreExact : Type 0
TypeNamesAreExact = AreExact rule.type_name (λ room. read.type_name (suc room))

abbrev pub DeclarationsAreExact : Type 0
DeclarationsAreExact = AreExact rule.declaration read.declaration
