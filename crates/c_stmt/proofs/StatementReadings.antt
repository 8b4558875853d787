-- Tokens of statements, what is known of their parts, and the sets of terminals that go on behind them.

use Rattle.std.proofs.Common.{◌≡◌, ℕ, Bool, true, false, not, List, [], ◌∷◌, ◌++◌, refl, sym, ap, ◌∙◌}
use Rattle.c_lexer.specs.declared.token.Kind.{Kind}
use Rattle.c_lexer.specs.declared.keyword.TheConstants.{KEY_BREAK, KEY_CASE, KEY_CONTINUE, KEY_DEFAULT, KEY_DO, KEY_ELSE, KEY_FOR}
use Rattle.c_lexer.specs.declared.keyword.TheConstants.{KEY_GOTO, KEY_IF, KEY_RETURN, KEY_SWITCH, KEY_WHILE}
use Rattle.c_lexer.specs.declared.mark.TheConstants.{MARK_LEFT_PAREN, MARK_RIGHT_PAREN, MARK_LEFT_BRACE, MARK_RIGHT_BRACE}
use Rattle.c_lexer.specs.declared.mark.TheConstants.{MARK_COLON, MARK_SEMICOLON, MARK_COMMA, MARK_QUESTION}
use Rattle.c_tree.specs.declared.tree.Expr.{Expr}
use Rattle.c_tree.specs.declared.tree.Declaration.{Declaration}
use Rattle.c_scopes.specs.Scopes.{OpenScopes, entered}
use Rattle.reading.specs.Terminals.{has}
use Rattle.reading.specs.Languages.{Leveled, tokens_of}
use Rattle.reading.specs.Readers.{begins}
use Rattle.reading.proofs.ReadBy.{Stage, Nullable, no, IsReadBy}
use Rattle.reading.proofs.ReadOne.{Sample, HasRoom}
use Rattle.reading.proofs.ReadChanging.{IsFixed}
use Rattle.c_reading.specs.Kept.{KeptToken}
use Rattle.c_reading.specs.Cursors.{Around, terminal_in}
use Rattle.c_reading.specs.Terminals.{WORD, TYPEDEF_NAME, TEXT, terminal, mark, key}
use Rattle.c_reading.proofs.InScope.{same_terminals}
use Rattle.c_syntax.specs.Scoping.{Part, PartReader, is_typedef_name, terminal_of}
use Rattle.c_syntax.specs.Sets.{a_name, a_typedef_name, a_binary, a_suffix, an_assignment}
use Rattle.c_stmt.specs.declared.forms.Ended.{Ended}
use Rattle.c_stmt.specs.StatementSets.{a_colon, begins_expr, begins_declaration, begins_statement, begins_item}
use Rattle.c_stmt.specs.Below.{Below, BelowReaders, Inside, InsideReaders}

-- ---- Tokens

-- The terminals of which completions are made.
abbrev pub needed : List ℕ
needed =
    WORD ∷ mark MARK_LEFT_PAREN ∷ mark MARK_RIGHT_PAREN ∷ mark MARK_LEFT_BRACE ∷ mark MARK_RIGHT_BRACE ∷ mark MARK_COLON ∷ mark MARK_SEMICOLON ∷
    key KEY_BREAK ∷ key KEY_CASE ∷ key KEY_CONTINUE ∷ key KEY_DEFAULT ∷ key KEY_DO ∷ key KEY_ELSE ∷ key KEY_FOR ∷ key KEY_GOTO ∷ key KEY_IF ∷
    key KEY_RETURN ∷ key KEY_SWITCH ∷ key KEY_WHILE ∷ []

-- Tokens that a text can have, of which there is one for each of these terminals.
pub record Tokens : Type 1 where
  pub IsToken : KeptToken → Type 0
  pub token : (kind : Kind) → has needed (terminal kind) ≡ true → KeptToken
  pub is : (kind : Kind) (h : has needed (terminal kind) ≡ true) → IsToken (token kind h)
  pub kind_is : (kind : Kind) (h : has needed (terminal kind) ≡ true) → (token kind h).lexeme.kind ≡ kind

module _ (tokens : Tokens) where
  -- The rule is read exactly by the reader.
  abbrev pub IsRead : Stage → Type 0 → {A : Type 0} → (ℕ → Part A) → PartReader A → Nullable → List ℕ → (A → List ℕ) → Type 0
  IsRead stage given X p null first last = IsReadBy {Around = Around} terminal_of tokens.IsToken stage given X p null first last

  -- A token of the kind, for a set that tells no names apart.
  pub sample : (set : List ℕ) (kind : Kind) → has needed (terminal kind) ≡ true → has set WORD ≡ has set TYPEDEF_NAME → has set (terminal kind) ≡ true →
      (scopes : OpenScopes) → Sample terminal_of tokens.IsToken set scopes
  sample set kind need alike fits scopes =
      let t = tokens.token kind need in record {
        token = t;
        lexeme = tokens.is kind need;
        fits = same_terminals is_typedef_name set alike scopes t ∙ (ap (λ (k : Kind). has set (terminal k)) (tokens.kind_is kind need) ∙ fits);
      }

-- A set that tells no names apart is the same in each scope.
pub fixed : (set : List ℕ) → has set WORD ≡ has set TYPEDEF_NAME → IsFixed terminal_of set
fixed set alike scope scope' t = same_terminals is_typedef_name set alike scope t ∙ sym (same_terminals is_typedef_name set alike scope' t)

-- Where a scope begins no name is declared anew.
pub same_entered : (scopes : OpenScopes) (t : KeptToken) → terminal_of (entered scopes) t ≡ terminal_of scopes t
unfolding terminal_in is_typedef_name
same_entered scopes t = refl

-- ---- What goes on behind a part

abbrev pub nothing : {A : Type 0} → A → List ℕ
nothing a = []

abbrev pub after_assign : List ℕ
after_assign = an_assignment ++ mark MARK_QUESTION ∷ a_binary ++ a_suffix ++ TEXT ∷ mark MARK_LEFT_BRACE ∷ []

abbrev pub after_expr : List ℕ
after_expr = mark MARK_COMMA ∷ after_assign

abbrev pub an_else : List ℕ
an_else = key KEY_ELSE ∷ []

-- An `else` goes on behind an `if` without one.
abbrev pub else_if : Bool → List ℕ
else_if true = an_else
else_if false = []

abbrev pub after_ended : Ended → List ℕ
after_ended ended = else_if ended.dangles

-- ---- What is known of expressions and declarations

abbrev pub IsColon : OpenScopes → KeptToken → Bool
IsColon scopes t = has a_colon (terminal_of scopes t)

-- They are read exactly on each level. No expression begins with a name and a colon, and no declaration
-- with a typedef name and a colon.
pub record BelowAreRead (tokens : Tokens) (below : Below) (readers : BelowReaders) : Type 1 where
  pub expr : (stage : Stage) (given : Type 0) {level room : ℕ} → HasRoom stage level room → IsRead tokens stage given (λ d. below.expr d level) (readers.expr room) no begins_expr (λ a. after_expr)
  pub constant : (stage : Stage) (given : Type 0) {level room : ℕ} → HasRoom stage level room →
      IsRead tokens stage given (λ d. below.constant d level) (readers.constant room) no begins_expr (λ a. after_assign)
  pub declaration : (stage : Stage) (given : Type 0) {level room : ℕ} → HasRoom stage level room →
      IsRead tokens stage given (λ d. below.declaration d level) (readers.declaration room) no begins_declaration nothing
  pub behind_name : (turns level : ℕ) (scopes : OpenScopes) (word : List (Leveled KeptToken)) (end : Expr × OpenScopes) (t : KeptToken) (vs : List KeptToken) →
      below.expr turns level scopes word end → tokens_of word ≡ t ∷ vs → has a_name (terminal_of scopes t) ≡ true → begins (IsColon scopes) vs ≡ false
  pub behind_typedef_name : (turns level : ℕ) (scopes : OpenScopes) (word : List (Leveled KeptToken)) (end : Declaration × OpenScopes) (t : KeptToken) (vs : List KeptToken) →
      below.declaration turns level scopes word end → tokens_of word ≡ t ∷ vs → has a_typedef_name (terminal_of scopes t) ≡ true →
      begins (λ u. not (IsColon scopes u)) vs ≡ true

-- What stands in braces or is a body is read exactly.
pub record InsideAreRead (tokens : Tokens) (stage : Stage) (given : Type 0) (inside : ℕ → Inside) (readers : InsideReaders) : Type 0 where
  pub item : IsRead tokens stage given (λ d. (inside d).item) readers.item no begins_item (λ a. an_else)
  pub statement : IsRead tokens stage given (λ d. (inside d).statement) readers.statement no begins_statement after_ended
