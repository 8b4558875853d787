-- What the grammar of C tells apart of tokens (C11 6.4): their kinds, and of words those that are
-- typedef names in the scope where they stand (6.7.8). Each is a number.

use Rattle.std.specs.Prelude.{ℕ, ◌+◌, ◌*◌, Bool, true, false, List}
use Rattle.c_lexer.specs.declared.token.Kind.{Kind}
use Rattle.c_lexer.specs.declared.token.Kind.TheVariants.{Word, Key, Number, Char}
use Rattle.c_lexer.specs.declared.token.Kind.TheVariants.{Text, Mark, Line, Pragma}

-- A word that is no typedef name.
abbrev pub WORD : ℕ
WORD = 0

abbrev pub TYPEDEF_NAME : ℕ
TYPEDEF_NAME = 1

abbrev pub NUMBER : ℕ
NUMBER = 2

abbrev pub CHAR : ℕ
CHAR = 3

abbrev pub TEXT : ℕ
TEXT = 4

-- The parser keeps neither of these.
abbrev pub LINE : ℕ
LINE = 5

abbrev pub PRAGMA : ℕ
PRAGMA = 6

-- A mark has an even number, from 8 on, and a keyword an odd one.
abbrev pub mark : ℕ → ℕ
mark number = 2 * number + 8

abbrev pub key : ℕ → ℕ
key number = 2 * number + 9

-- The terminal of a token of the kind, apart from names.
abbrev pub terminal : Kind → ℕ
terminal Word = WORD
terminal (Key number) = key number
terminal Number = NUMBER
terminal Char = CHAR
terminal Text = TEXT
terminal (Mark number) = mark number
terminal Line = LINE
terminal Pragma = PRAGMA

abbrev pub word_terminal : Bool → ℕ
word_terminal true = TYPEDEF_NAME
word_terminal false = WORD

-- The terminal of a lexeme, where it is given which names are typedef names.
abbrev pub terminal_where : (List ℕ → Bool) → Kind → List ℕ → ℕ
terminal_where is_typedef Word spelling = word_terminal (is_typedef spelling)
terminal_where is_typedef (Key number) spelling = key number
terminal_where is_typedef Number spelling = NUMBER
terminal_where is_typedef Char spelling = CHAR
terminal_where is_typedef Text spelling = TEXT
terminal_where is_typedef (Mark number) spelling = mark number
terminal_where is_typedef Line spelling = LINE
terminal_where is_typedef Pragma spelling = PRAGMA
