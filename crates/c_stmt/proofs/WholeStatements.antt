-- Statements and blocks are read exactly, on each level.

use Rattle.std.proofs.Common.{◌≡◌, inl, ℕ, zero, suc, ◌+◌, ◌<◌, ◌≤◌, List, [], refl, sym, append-nil, arith}
use Rattle.c_tree.specs.declared.tree.BlockItem.TheVariants as item_
use Rattle.c_scopes.specs.Scopes.{OpenScopes}
use Rattle.reading.specs.Nesting.{nested, nested_reader}
use Rattle.reading.specs.Exact.{HIGHEST_LEVEL, room_on, IsExact}
use Rattle.reading.proofs.Words.{Some}
use Rattle.reading.proofs.ReadBy.{Stage, whole, no}
use Rattle.reading.proofs.ReadOne.{HasRoom}
use Rattle.reading.proofs.ReadTurns.{Ending, ends}
use Rattle.reading.proofs.Knot.{read_nested, read_nested_at}
use Rattle.c_reading.specs.Kept.{KeptToken}
use Rattle.c_reading.specs.Cursors.{Around}
use Rattle.c_syntax.specs.Scoping.{Part, PartReader}
use Rattle.c_stmt.specs.StatementSets.{a_left_brace, begins_statement, begins_item}
use Rattle.c_stmt.specs.Below.{Below, BelowReaders, Inside}
use Rattle.c_stmt.specs.StatementRules as lang
use Rattle.c_stmt.specs.Statements.{Name, items, statements, Value, inside_of, readers_of, rule_of, reader_of, statement, block, read_statement, read_block}
use Rattle.c_stmt.proofs.StatementReadings.{Tokens, IsRead, BelowAreRead, nothing, an_else, after_ended}
use Rattle.c_stmt.proofs.StatementsAreRead.{turn_ends, block_is_read, statement_is_read, item_is_read}

module _ (tokens : Tokens) (below : Below) (readers : BelowReaders) (rb : BelowAreRead tokens below readers) where
  abbrev first_of : Name → List ℕ
  first_of items = begins_item
  first_of statements = begins_statement

  abbrev last_of : (n : Name) → Value n → List ℕ
  last_of items item = an_else
  last_of statements ended = after_ended ended

  -- ---- A null statement is one

  abbrev deeper : ℕ → ℕ → Inside
  deeper level d = inside_of (nested (rule_of below) d (suc level))

  abbrev null : (level : ℕ) (scopes : OpenScopes) → Ending tokens.IsToken (λ d. lang.turn below d level (deeper level d) []) scopes
  null level scopes = turn_ends tokens below level (deeper level) [] scopes

  one_statement : (k level : ℕ) (scopes : OpenScopes) → (null level scopes).turns ≤ suc k →
      lang.statement below (suc k) level (deeper level (suc k)) scopes (null level scopes).word ((null level scopes).value, (null level scopes).scope')
  unfolding lang.statement
  one_statement k level scopes h =
      ends k (lang.turn below (suc k) level (deeper level (suc k))) [] scopes (null level scopes).scope' (null level scopes).word (null level scopes).value ((null level scopes).is (suc k) h)

  one_item : (k level : ℕ) (scopes : OpenScopes) → (null level scopes).turns ≤ suc k →
      lang.item below (suc k) level (deeper level (suc k)) scopes (null level scopes).word (item_.Do (null level scopes).value.stmt, (null level scopes).scope')
  unfolding lang.item lang.statement_item
  one_item k level scopes h = inl (record {
    front = (null level scopes).word;
    back = [];
    value = ((null level scopes).value, (null level scopes).scope');
    split = sym (append-nil (null level scopes).word);
    begin = one_statement k level scopes h;
    rest = record { none = refl; same = refl };
  })

  abbrev null_of : (n : Name) (level : ℕ) (scopes : OpenScopes) → Value n
  null_of items level scopes = item_.Do (null level scopes).value.stmt
  null_of statements level scopes = (null level scopes).value

  some_at : (n : Name) (more level : ℕ) (scopes : OpenScopes) → 2 + (null level scopes).turns ≤ more →
      nested (rule_of below) more level n scopes (null level scopes).word (null_of n level scopes, (null level scopes).scope')
  unfolding nested
  some_at n zero level scopes h = absurd (omega arith)
  some_at n (suc zero) level scopes h = absurd (omega arith)
  some_at items (suc (suc k)) level scopes h = one_item k level scopes (omega arith)
  some_at statements (suc (suc k)) level scopes h = one_statement k level scopes (omega arith)

  some : (n : Name) (level : ℕ) (scopes : OpenScopes) → Some tokens.IsToken (λ d. nested (rule_of below) d level n scopes)
  some n level scopes = record {
    word = (null level scopes).word;
    value = (null_of n level scopes, (null level scopes).scope');
    turns = 2 + (null level scopes).turns;
    lexemes = (null level scopes).lexemes;
    is = λ more h. some_at n more level scopes h;
  }

  -- ---- The knot

  step : (stage : Stage) (level room : ℕ) → HasRoom stage level room → (inner : ℕ → (m : Name) → Part (Value m)) (read_inner : (m : Name) → PartReader (Value m)) →
      ((m : Name) → IsRead tokens stage (0 < room) (λ d. inner d m) (read_inner m) no (first_of m) (last_of m)) →
      (n : Name) → IsRead tokens stage (Prim.Unit {0}) (λ d. rule_of below n d level (inner d)) (reader_of readers n room read_inner) no (first_of n) (last_of n)
  step stage level room fits inner read_inner ri items =
      item_is_read tokens below readers rb fits (λ d. inside_of (inner d)) (readers_of read_inner) (record { item = ri items; statement = ri statements })
  step stage level room fits inner read_inner ri statements =
      statement_is_read tokens below readers rb fits (λ d. inside_of (inner d)) (readers_of read_inner) (record { item = ri items; statement = ri statements })

  -- A statement is read exactly, on a level that is not too high or the first that is.
  pub statement_is_read_on : {given : Type 0} (level : ℕ) → level ≤ HIGHEST_LEVEL + 1 →
      IsRead tokens whole given (λ d. statement below d level) (read_statement readers (room_on level)) no begins_statement after_ended
  statement_is_read_on level h =
      read_nested (rule_of below) (reader_of readers) (λ n. no) first_of last_of some step level h statements

  -- A block is, too.
  pub block_is_read_on : {given : Type 0} (level room : ℕ) → level + room ≡ HIGHEST_LEVEL + 1 →
      IsRead tokens whole given (λ d. block below d level) (read_block readers room) no a_left_brace nothing
  block_is_read_on level room even =
      let ri = read_nested_at (rule_of below) (reader_of readers) (λ n. no) first_of last_of some step room (suc level) (omega arith) in
      block_is_read tokens below readers rb (record { is = λ s. omega arith }) (deeper level) (readers_of (nested_reader (reader_of readers) room))
      (record { item = ri items; statement = ri statements })

  pub statement_is_exact : (around : Around) (level : ℕ) → level ≤ HIGHEST_LEVEL + 1 → (scopes : OpenScopes) (left : List KeptToken) →
      IsExact tokens.IsToken around (λ d. statement below d level scopes) left
      (read_statement readers (room_on level) (record { tokens = left; scope = scopes; around = around }))
  statement_is_exact around level h scopes left = (statement_is_read_on {given = Prim.Unit {0}} level h).exact tt tt around scopes left
