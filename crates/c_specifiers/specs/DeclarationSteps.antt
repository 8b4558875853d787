-- Single steps in rules and readers of declarations: names, and scopes that change.

use Rattle.std.specs.Prelude.{ℕ, Bool, List, Option, Some, None}
use Rattle.c_scopes.specs.Scopes.{OpenScopes, entered, declared}
use Rattle.c_scopes.specs.Scopes.{left}
use Rattle.reading.specs.Readers as reader
use Rattle.reading.specs.Readers.{expect}
use Rattle.reading.specs.Rules as rule
use Rattle.reading.specs.Rules.{one}
use Rattle.c_syntax.specs.Scoping.{Part, PartReader, terminal_of}
use Rattle.c_specifiers.specs.Words.{NamedToken, word_of}

-- The scopes behind the declaration of a name, where there is one (C11 6.2.1p7).
abbrev pub with_name : Option NamedToken → Bool → OpenScopes → OpenScopes
with_name None typedef scopes = scopes
with_name (Some word) typedef scopes = declared scopes word.bytes typedef

-- ---- Readers

-- A word with a terminal of the set.
abbrev pub expect_word : List ℕ → ℕ → PartReader NamedToken
expect_word set room = expect terminal_of set word_of room

-- The name is declared.
abbrev pub declare : {A : Type 0} → Option NamedToken → Bool → A → PartReader A
declare name typedef value = reader.changes (with_name name typedef) value

-- A scope begins, or the innermost one ends.
abbrev pub enter : PartReader (Prim.Unit {0})
enter = reader.changes entered tt

abbrev pub leave : {A : Type 0} → A → PartReader A
leave value = reader.changes left value

-- ---- Rules

abbrev pub one_word : List ℕ → ℕ → Part NamedToken
one_word set level = one terminal_of set word_of level

abbrev pub declaring : {A : Type 0} → Option NamedToken → Bool → A → Part A
declaring name typedef value = rule.changes (with_name name typedef) value

abbrev pub entering : Part (Prim.Unit {0})
entering = rule.changes entered tt

abbrev pub leaving : {A : Type 0} → A → Part A
leaving value = rule.changes left value
