-- Words whose tokens stand one after the other in a text, and what is asked of the words of a rule:
-- whether `_Atomic` is a qualifier depends on the token behind it (C11 6.7.2.4p4).

use Rattle.std.specs.Prelude.{ℕ, suc, ◌≡◌, List, [], ◌∷◌, Option, Some}
use Rattle.c_lexer.specs.declared.token.Kind.{Kind}
use Rattle.c_lexer.specs.declared.token.Kind.TheVariants as k
use Rattle.c_lexer.specs.declared.mark.TheConstants.{MARK_LEFT_PAREN}
use Rattle.c_scopes.specs.Scopes.{OpenScopes}
use Rattle.reading.specs.Languages.{Leveled, tokens_of}
use Rattle.c_reading.specs.Kept.{KeptToken}
use Rattle.c_syntax.specs.Scoping.{Part}
use Rattle.expression_trees.specs.Saying.{Said, AreKnown, AreSaid}

-- The tokens have the numbers from the one on to the other, which is that of the token behind them.
abbrev pub Runs : ℕ → List (Leveled KeptToken) → ℕ → Type 0
Runs at [] stop = stop ≡ at
Runs at (token ∷ word) stop = (token.0.number ≡ at) × Runs (suc at) word stop

-- The token is no `(`.
abbrev pub IsNoParen : (ℕ → Option Kind) → ℕ → Type 0
IsNoParen kind_of token = ¬ (kind_of token ≡ Some (k.Mark MARK_LEFT_PAREN))

-- Each word of the rule that stands in the text is a tree of the form that says its tokens. The
-- form may depend on the token behind the word.
abbrev pub StandAsTrees : {A : Type 0} → (ℕ → Option Kind) → (ℕ → List ℕ) → Part A →
    (A → ℕ → Type 0) → (A → Said) → Type 0
StandAsTrees {A} kind_of bytes_of rule IsFormed said =
    (at stop : ℕ) (scopes end : OpenScopes) (word : List (Leveled KeptToken)) (tree : A) →
    AreKnown kind_of bytes_of word → Runs at word stop → rule scopes word (tree, end) →
    IsFormed tree stop × AreSaid kind_of bytes_of (said tree) (tokens_of word) scopes end

-- A form of which an `_Atomic` may be the last token: it is one where no `(` stands behind it.
abbrev pub before_no_paren : {A : Type 0} → (ℕ → Option Kind) → (A → Type 0) → A → ℕ → Type 0
before_no_paren kind_of IsFormed tree stop = IsNoParen kind_of stop → IsFormed tree
