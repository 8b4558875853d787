-- What a tree says of the tokens of a text: its symbols, and what it meets of names. When tokens
-- are what is said.

use Rattle.std.specs.Prelude.{ℕ, ◌≡◌, ◌≤◌, ◌++◌, Bool, List, [], ◌∷◌, Option, Some}
use Rattle.c_lexer.specs.declared.token.Kind.{Kind}
use Rattle.c_scopes.specs.Scopes.{OpenScopes}
use Rattle.c_scopes.specs.Events.{Event, Opens, Closes, Declares, Uses, after_event}
use Rattle.c_tree.specs.declared.symbol.Want.{Want}
use Rattle.c_tree.specs.Spell.{Symbols}
use Rattle.c_tree.specs.Fits.{Fits}
use Rattle.reading.specs.Languages.{Leveled, tokens_of}
use Rattle.c_reading.specs.Kept.{KeptToken}
use Rattle.c_syntax.specs.Scoping.{Part, is_typedef_name}

pub record Said : Type 0 where
  pub symbols : Symbols
  -- What is met of names, in the order of the source.
  pub events : List Event

abbrev pub nothing : Said
nothing = record { symbols = []; events = [] }

-- The one and then the other.
infixr 9 ◌and◌
abbrev pub ◌and◌ : Said → Said → Said
first and second = record {
  symbols = first.symbols ++ second.symbols;
  events = first.events ++ second.events;
}

-- A token of which this is wanted, and then the rest.
abbrev pub token : ℕ → Want → Said → Said
token number want rest = record {
  symbols = record { token = number; want = want } ∷ rest.symbols;
  events = rest.events;
}

-- A name is to be a typedef name or none, and then the rest.
abbrev pub uses : List ℕ → Bool → Said → Said
uses name typedef rest = record {
  symbols = rest.symbols;
  events = Uses name typedef ∷ rest.events;
}

-- ---- When tokens are what is said

-- A use is what it is to be in the open scopes.
abbrev pub IsRightIn : OpenScopes → Event → Type 0
IsRightIn scopes Opens = Prim.Unit {0}
IsRightIn scopes Closes = Prim.Unit {0}
IsRightIn scopes (Declares name typedef) = Prim.Unit {0}
IsRightIn scopes (Uses name typedef) = is_typedef_name scopes name ≡ typedef

-- The events lead from the one scopes to the others, and each use among them is right.
abbrev pub AreMet : OpenScopes → List Event → OpenScopes → Type 0
AreMet scopes [] end = end ≡ scopes
AreMet scopes (event ∷ events) end =
    IsRightIn scopes event × AreMet (after_event scopes event) events end

-- The kind and the bytes of each token are given by its number.
module _ (kind_of : ℕ → Option Kind) (bytes_of : ℕ → List ℕ) where
  -- The number is that of this token.
  abbrev pub IsKnown : KeptToken → Type 0
  IsKnown token = (kind_of token.number ≡ Some token.lexeme.kind) ×
      (bytes_of token.number ≡ token.lexeme.spelling)

  abbrev pub AreKnown : List (Leveled KeptToken) → Type 0
  AreKnown [] = Prim.Unit {0}
  AreKnown (token ∷ word) = IsKnown token.0 × AreKnown word

  -- The symbols have these tokens, one each in order, and each token is what is wanted.
  abbrev pub FitTokens : Symbols → List KeptToken → Type 0
  FitTokens [] [] = Prim.Unit {0}
  FitTokens [] (token ∷ tokens) = ⊥
  FitTokens (symbol ∷ symbols) [] = ⊥
  FitTokens (symbol ∷ symbols) (token ∷ tokens) =
      ((symbol.token ≡ token.number) × Fits symbol.want token.lexeme.kind × IsKnown token) ×
      FitTokens symbols tokens

  -- The tokens are what is said, and its names lead from the one scopes to the others.
  abbrev pub AreSaid : Said → List KeptToken → OpenScopes → OpenScopes → Type 0
  AreSaid said tokens scopes end = FitTokens said.symbols tokens × AreMet scopes said.events end

-- ---- What the words of a rule are

-- Each word of the rule is a tree of the form that says its tokens, from scopes to scopes.
abbrev pub AreTrees : {A : Type 0} → (ℕ → Option Kind) → (ℕ → List ℕ) → Part A → (A → Type 0) →
    (A → Said) → Type 0
AreTrees {A} kind_of bytes_of rule IsFormed said =
    (scopes end : OpenScopes) (word : List (Leveled KeptToken)) (tree : A) →
    AreKnown kind_of bytes_of word → rule scopes word (tree, end) →
    IsFormed tree × AreSaid kind_of bytes_of (said tree) (tokens_of word) scopes end

-- The tokens are a word of the rule, from so many turns on.
pub record IsWord {A : Type 0} (rule : ℕ → Part A) (tree : A) (tokens : List KeptToken)
    (scopes end : OpenScopes) : Type 0 where
  pub word : List (Leveled KeptToken)
  pub turns : ℕ
  pub is : tokens_of word ≡ tokens
  pub holds : (more : ℕ) → turns ≤ more → rule more scopes word (tree, end)

-- The tokens that a tree of the form says are a word of the rule.
abbrev pub AreWords : {A : Type 0} → (ℕ → Option Kind) → (ℕ → List ℕ) → (ℕ → Part A) →
    (A → Type 0) → (A → Said) → Type 0
AreWords {A} kind_of bytes_of rule IsFormed said =
    (tree : A) → IsFormed tree → (scopes end : OpenScopes) (tokens : List KeptToken) →
    AreSaid kind_of bytes_of (said tree) tokens scopes end → IsWord rule tree tokens scopes end
