-- Lexemes: what the grammar sees of tokens (C11 6.4).

pub use Rattle.c_lexer.specs.Lexemes.{Lexeme, IsLexeme, kinds_in, kind_at, spelling_at}
