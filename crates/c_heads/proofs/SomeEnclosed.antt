-- A name is a declarator in parentheses of the declarator of a function.

use Rattle.std.proofs.Common.{inl, inr, ℕ, zero, suc, ◌≤◌, List, [], ◌∷◌, refl, arith}
use Rattle.c_lexer.specs.declared.token.Kind.TheVariants.{Word}
use Rattle.c_scopes.specs.Scopes.{OpenScopes}
use Rattle.reading.specs.Languages.{Leveled}
use Rattle.reading.specs.Nesting.{nested}
use Rattle.reading.proofs.Words.{Some}
use Rattle.reading.proofs.ReadOne.{Sample}
use Rattle.c_reading.specs.Kept.{KeptToken}
use Rattle.c_syntax.specs.Scoping.{terminal_of}
use Rattle.c_syntax.specs.Sets.{any_name}
use Rattle.c_specifiers.specs.Words.{word_of}
use Rattle.c_specifiers.specs.Inside.{Inside}
use Rattle.c_specifiers.proofs.DeclarationReadings.{Tokens, sample}
use Rattle.c_heads.specs.declared.forms.Enclosed.{Enclosed}
use Rattle.c_heads.specs.declared.forms.Enclosed.TheVariants.{Bare}
use Rattle.c_heads.specs.HeadForms.{bare_name}
use Rattle.c_heads.specs.HeadRules as lang

module _ (tokens : Tokens) (insides : ℕ → ℕ → Inside) (level : ℕ) (scopes : OpenScopes) where
  abbrev name : Sample terminal_of tokens.IsToken any_name scopes
  name = sample tokens any_name Word refl refl refl scopes

  abbrev only : List (Leveled KeptToken)
  only = (name.token, level) ∷ []

  abbrev bare : Enclosed
  bare = Bare (bare_name (word_of name.token))

  name_is : (turns : ℕ) (inner : Inside) → lang.enclosed_name turns level inner scopes only (bare, scopes)
  unfolding lang.enclosed_name lang.enclosed_behind
  name_is turns inner = record {
    front = only;
    back = [];
    value = (word_of name.token, scopes);
    split = refl;
    begin = record { token = name.token; is = refl; fits = name.fits; value = refl };
    rest = inr (record { none = refl; same = refl });
  }

  enclosed_is : (turns : ℕ) → 1 ≤ turns → lang.enclosed_in insides turns level scopes only (bare, scopes)
  unfolding nested lang.enclosed_body lang.enclosed_declarator
  enclosed_is zero h = absurd (omega arith)
  enclosed_is (suc turns) h = inr (inl (name_is turns (insides turns level)))

  pub some_enclosed : Some tokens.IsToken (λ d. lang.enclosed_in insides d level scopes)
  some_enclosed = record { word = only; value = (bare, scopes); turns = 1; lexemes = (name.lexeme, tt); is = enclosed_is }
