-- What is read of some statements, where an expression is a name or a number, and a declaration a type, a
-- name and a semicolon.

use Rattle.std.proofs.Common.{◌≡◌, ℕ, zero, suc, ◌-◌, Bool, true, false, List, [], ◌∷◌, ◌++◌, map, length, Ok, Err, refl}
use Rattle.c_lexer.specs.declared.token.Kind.{Kind}
use Rattle.c_lexer.specs.declared.token.Kind.TheVariants.{Word, Key, Number, Mark}
use Rattle.c_lexer.specs.declared.keyword.TheConstants.{KEY_CASE, KEY_DO, KEY_ELSE, KEY_FOR, KEY_GOTO, KEY_IF, KEY_INT, KEY_WHILE}
use Rattle.c_lexer.specs.declared.mark.TheConstants.{MARK_LEFT_PAREN, MARK_RIGHT_PAREN, MARK_LEFT_BRACE, MARK_RIGHT_BRACE}
use Rattle.c_lexer.specs.declared.mark.TheConstants.{MARK_COLON, MARK_SEMICOLON}
use Rattle.c_tree.specs.declared.tree.Assign.{Assign}
use Rattle.c_tree.specs.declared.tree.Declaration.{Declaration}
use Rattle.c_tree.specs.declared.tree.Declaration.TheVariants as declaration_
use Rattle.c_tree.specs.Forms.{sole, assigned, unconditional, name_operand}
use Rattle.c_scopes.specs.Scopes.{OpenScopes}
use Rattle.reading.specs.Readers as reader
use Rattle.reading.specs.Readers.{Outcome, and_then, expect, turn_on, offends, too_deep}
use Rattle.reading.specs.Nesting.{nested_reader}
use Rattle.c_reading.specs.Kept.{KeptToken}
use Rattle.c_reading.specs.Cursors.{Around, terminal_in}
use Rattle.c_reading.specs.Terminals.{key}
use Rattle.c_syntax.specs.Scoping.{PartReader, is_typedef_name}
use Rattle.c_syntax.specs.Sets.{a_name, any_name, a_typedef_name, a_constant}
use Rattle.c_syntax.specs.Steps.{expect_among, expect_mark}
use Rattle.c_stmt.specs.declared.forms.Ended.{Ended}
use Rattle.c_stmt.specs.Below.{BelowReaders}
use Rattle.c_stmt.specs.StatementReaders as read
use Rattle.c_stmt.specs.Statements.{read_statement}

-- ---- Expressions and declarations

abbrev operand : ℕ → PartReader Assign
operand room input = and_then (expect_among (a_name ++ a_constant) room input) (λ n. reader.pure (assigned [] (unconditional (name_operand n) [])))

abbrev declared_name : ℕ → PartReader Declaration
declared_name room input =
    and_then (expect_among (key KEY_INT ∷ a_typedef_name) room input) (λ n input. and_then (expect_among any_name room input)
    (λ m input. and_then (expect_mark MARK_SEMICOLON room input) (λ s. reader.pure (declaration_.Names (record { words = [] }) [] (n ∷ m ∷ s ∷ [])))))

abbrev simple : BelowReaders
simple = record {
  expr = λ room input. and_then (operand room input) (λ a. reader.pure (sole a));
  constant = operand;
  declaration = declared_name;
}

-- ---- Tokens

abbrev spelled : Kind → List ℕ → KeptToken
spelled kind bytes = record { number = 0; lexeme = record { kind = kind; spelling = bytes } }

abbrev k : ℕ → KeptToken
k number = spelled (Key number) []

abbrev m : ℕ → KeptToken
m number = spelled (Mark number) []

-- `T`, which is a typedef name, and `x`, which is none.
abbrev type : KeptToken
type = spelled Word (84 ∷ [])

abbrev x : KeptToken
x = spelled Word (120 ∷ [])

abbrev colon : KeptToken
colon = m MARK_COLON

abbrev semi : KeptToken
semi = m MARK_SEMICOLON

abbrev scopes : OpenScopes
scopes = record { innermost = record { name = 84 ∷ []; typedef = true } ∷ []; around = [] }

-- `if (x)`, and so many of them before other tokens.
abbrev if_x : List KeptToken → List KeptToken
if_x more = k KEY_IF ∷ m MARK_LEFT_PAREN ∷ x ∷ m MARK_RIGHT_PAREN ∷ more

-- ---- What is seen of what is read

-- How many tokens are left, and whether an `else` could go on.
data Seen : Type 0 where
  taken : ℕ → Bool → Seen
  blamed : ℕ → Seen
  deep : ℕ → Seen

abbrev seen : Outcome KeptToken OpenScopes Around Ended → Seen
seen (Ok end) = taken (length end.1.tokens) end.0.dangles
seen (Err (offends input)) = blamed (length input.tokens)
seen (Err (too_deep input)) = deep (length input.tokens)

-- There is room for three levels.
abbrev see : List KeptToken → Seen
see tokens = seen (read_statement simple 3 (record { tokens = tokens; scope = scopes; around = record { end = 0; level = 0 } }))

-- `x: ;`, `x ;`, `T: ;` and `x: T: x ;` are statements. `T ;` is none, and its `;` offends, since `T` could be a
-- label; and so does the end behind `T`, and `x` behind `x`.
labels_are_read : map see
    ((x ∷ colon ∷ semi ∷ []) ∷ (x ∷ semi ∷ []) ∷ (type ∷ colon ∷ semi ∷ []) ∷ (x ∷ colon ∷ type ∷ colon ∷ x ∷ semi ∷ []) ∷ (type ∷ semi ∷ []) ∷ (type ∷ []) ∷ (x ∷ x ∷ semi ∷ []) ∷ [])
    ≡ taken 0 false ∷ taken 0 false ∷ taken 0 false ∷ taken 0 false ∷ blamed 1 ∷ blamed 0 ∷ blamed 2 ∷ []
unfolding nested_reader reader.repeat turn_on expect terminal_in is_typedef_name read.statement read.turn read.name_turn read.other_turn read.keyed_turn read.case_turn read.default_turn read.kinded_turn read.value_turn read.value read.kinded read.empty
labels_are_read = refl

-- Behind a label no declaration stands: in `x: int x;` the `int` offends. In a block `T x;` is one, and `T: ;` a statement.
items_are_read : map see
    ((x ∷ colon ∷ k KEY_INT ∷ x ∷ semi ∷ []) ∷ (m MARK_LEFT_BRACE ∷ type ∷ x ∷ semi ∷ type ∷ colon ∷ semi ∷ k KEY_INT ∷ x ∷ semi ∷ m MARK_RIGHT_BRACE ∷ semi ∷ []) ∷
    (m MARK_LEFT_BRACE ∷ type ∷ semi ∷ m MARK_RIGHT_BRACE ∷ []) ∷ (m MARK_LEFT_BRACE ∷ m MARK_LEFT_BRACE ∷ m MARK_LEFT_BRACE ∷ m MARK_RIGHT_BRACE ∷ m MARK_RIGHT_BRACE ∷ m MARK_RIGHT_BRACE ∷ []) ∷ [])
    ≡ blamed 3 ∷ taken 1 false ∷ blamed 2 ∷ deep 4 ∷ []
unfolding nested_reader reader.repeat turn_on expect terminal_in is_typedef_name read.statement read.turn read.name_turn read.other_turn read.keyed_turn read.case_turn read.default_turn read.kinded_turn read.value_turn read.value read.kinded read.empty read.braced read.block read.all_items read.item_turn read.last_item read.next_item read.item read.statement_item read.declaration_item
items_are_read = refl

-- In `if (x) if (x) ; else ;` the inner `if` takes the `else`, and the outer could take another.
elses_are_read : map see
    (if_x (if_x (semi ∷ k KEY_ELSE ∷ semi ∷ [])) ∷ if_x (if_x (semi ∷ k KEY_ELSE ∷ semi ∷ k KEY_ELSE ∷ semi ∷ [])) ∷ if_x (semi ∷ k KEY_ELSE ∷ if_x (semi ∷ [])) ∷
    if_x (semi ∷ k KEY_ELSE ∷ if_x (semi ∷ k KEY_ELSE ∷ semi ∷ k KEY_ELSE ∷ [])) ∷ if_x (if_x (semi ∷ [])) ∷ if_x (if_x (if_x (semi ∷ []))) ∷
    if_x (semi ∷ k KEY_ELSE ∷ if_x (semi ∷ k KEY_ELSE ∷ if_x (semi ∷ k KEY_ELSE ∷ if_x (semi ∷ [])))) ∷ [])
    ≡ taken 0 true ∷ taken 0 false ∷ taken 0 true ∷ taken 1 false ∷ taken 0 true ∷ deep 4 ∷ taken 0 true ∷ []
unfolding nested_reader reader.repeat turn_on expect terminal_in is_typedef_name read.statement read.turn read.name_turn read.other_turn read.keyed_turn read.case_turn read.default_turn read.kinded_turn read.value_turn read.value read.kinded read.empty read.if_ read.all_arms read.arm_turn read.arm read.body read.unbraced read.else_part read.next_arm read.last_body read.braced_body read.braced
elses_are_read = refl
