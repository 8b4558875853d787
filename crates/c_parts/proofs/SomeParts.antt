-- Each part that stands in brackets has a word that needs none in its own brackets.

use Rattle.std.proofs.Common.{inl, inr, ℕ, zero, suc, ◌≤◌, false, List, [], ◌∷◌, ◌++◌, refl, arith}
use Rattle.c_lexer.specs.declared.keyword.TheConstants.{KEY_INT}
use Rattle.c_lexer.specs.declared.mark.TheConstants.{MARK_STAR, MARK_SEMICOLON}
use Rattle.c_lexer.specs.declared.token.Kind.TheVariants.{Word, Key, Mark}
use Rattle.c_tree.specs.declared.tree.Assign.{Assign}
use Rattle.c_tree.specs.declared.tree.TypeName.{TypeName}
use Rattle.c_tree.specs.declared.tree.Param.{Param}
use Rattle.c_tree.specs.declared.tree.Declaration.{Declaration}
use Rattle.c_tree.specs.declared.tree.InitItem.{InitItem}
use Rattle.c_tree.specs.declared.tree.Init.TheVariants as init
use Rattle.c_tree.specs.declared.tree.Spec.TheVariants as spec
use Rattle.c_tree.specs.Forms.{sole}
use Rattle.c_scopes.specs.Scopes.{OpenScopes}
use Rattle.reading.specs.declared.turn.Turn.TheVariants.{Done}
use Rattle.reading.specs.Languages.{Leveled}
use Rattle.reading.specs.Nesting.{nested}
use Rattle.reading.proofs.Words.{Some}
use Rattle.reading.proofs.ReadOne.{Sample}
use Rattle.reading.proofs.ReadSteps.{stops}
use Rattle.reading.proofs.ReadTurns.{ends}
use Rattle.c_reading.specs.Kept.{KeptToken}
use Rattle.c_reading.specs.Terminals.{mark}
use Rattle.c_syntax.specs.declared.forms.AssignForm.TheVariants.{Whole}
use Rattle.c_syntax.specs.Scoping.{Part, terminal_of}
use Rattle.c_syntax.specs.Sets.{any_name, a_basic_type}
use Rattle.c_specifiers.specs.Words.{word_of}
use Rattle.c_specifiers.specs.declared.forms.Place.{Place}
use Rattle.c_specifiers.specs.declared.forms.Place.TheVariants.{Parameter, Member, Nameless}
use Rattle.c_specifiers.specs.declared.forms.Naming.TheVariants as naming
use Rattle.c_specifiers.specs.declared.forms.Specified.{Specified}
use Rattle.c_declarators.specs.declared.forms.Pointing.{Pointing}
use Rattle.c_specifiers.specs.declared.forms.Named.{Named}
use Rattle.c_specifiers.specs.SpecifierForms.{no_specifiers, with_spec}
use Rattle.c_declarators.specs.DeclaratorForms.{no_pointers, with_pointer, no_qualifiers, named_of, unnamed_of}
use Rattle.c_declarators.specs.DeclaratorForms.{named_param, type_name_of}
use Rattle.c_declarations.specs.DeclarationForms.{no_declarators, declarators_to, names_of, item_of}
use Rattle.c_specifiers.specs.Inside.{Inside}
use Rattle.c_specifiers.specs.SpecifierRules as specifier
use Rattle.c_declarators.specs.DeclaratorRules as declarator
use Rattle.c_declarations.specs.InitialiserRules as initialiser
use Rattle.c_declarations.specs.DeclarationRules as declaration_
use Rattle.c_specifiers.proofs.DeclarationReadings.{Tokens, sample}
use Rattle.c_parts.specs.PartNames.{PartName, assigns, type_names, params, members, groups, items, Value, inner_of, inside_of}
use Rattle.c_parts.specs.PartRules.{body}
use Rattle.c_parts.proofs.SomeExpression.{number, only, value_of, begun_with, number_is}

module _ (tokens : Tokens) (level : ℕ) (scopes : OpenScopes) where
  abbrev int : Sample terminal_of tokens.IsToken a_basic_type scopes
  int = sample tokens a_basic_type (Key KEY_INT) refl refl refl scopes

  abbrev semicolon : Sample terminal_of tokens.IsToken (mark MARK_SEMICOLON ∷ []) scopes
  semicolon = sample tokens (mark MARK_SEMICOLON ∷ []) (Mark MARK_SEMICOLON) refl refl refl scopes

  abbrev star : Sample terminal_of tokens.IsToken (mark MARK_STAR ∷ []) scopes
  star = sample tokens (mark MARK_STAR ∷ []) (Mark MARK_STAR) refl refl refl scopes

  abbrev name : Sample terminal_of tokens.IsToken any_name scopes
  name = sample tokens any_name Word refl refl refl scopes

  abbrev ints : List (Leveled KeptToken)
  ints = (int.token, level) ∷ []

  abbrev stars : List (Leveled KeptToken)
  stars = (star.token, level) ∷ []

  abbrev int_only : Specified
  int_only = with_spec no_specifiers (spec.Basic int.token.number)

  abbrev star_only : Pointing
  star_only = with_pointer (no_pointers false) star.token.number no_qualifiers

  module _ (k : ℕ) (inside : Inside) where
    -- ---- `int`

    word_is : specifier.type_word (suc k) level inside no_specifiers scopes ints (int_only, scopes)
    unfolding specifier.type_word specifier.basic_word
    word_is = inl (record {
      front = ints;
      back = [];
      value = (int.token.number, scopes);
      split = refl;
      begin = record { token = int.token; is = refl; fits = int.fits; value = refl };
      rest = record { none = refl; same = refl };
    })

    turn_is : (place : Place) → specifier.untyped_turn (suc k) level inside place no_specifiers scopes ints (Done int_only, scopes)
    unfolding specifier.untyped_turn specifier.type_turn
    turn_is place = inr (inr (inl (record { front = ints; back = []; value = (int_only, scopes); split = refl; begin = word_is; rest = record { none = refl; same = refl } })))

    specifiers_are : (place : Place) → specifier.specifiers (suc k) level inside place scopes ints (int_only, scopes)
    unfolding specifier.specifiers specifier.up_to_type specifier.all_words
    specifiers_are place = record {
      front = ints;
      back = [];
      value = (int_only, scopes);
      split = refl;
      begin = ends k (specifier.untyped_turn (suc k) level inside place) no_specifiers scopes scopes ints int_only (turn_is place);
      rest = stops (suc k) _ (int_only, scopes);
    }

    abbrev int_type : TypeName
    int_type = type_name_of int_only (unnamed_of (no_pointers false) [])

    type_name_is : declarator.type_name (suc k) level inside scopes ints (int_type, scopes)
    unfolding declarator.type_name declarator.abstract_declarator
    type_name_is = record {
      front = ints;
      back = [];
      value = (int_only, scopes);
      split = refl;
      begin = specifiers_are Nameless;
      rest = record {
        front = [];
        back = [];
        value = (unnamed_of (no_pointers false) [], scopes);
        split = refl;
        begin = inr (record { none = refl; same = refl });
        rest = record { none = refl; same = refl };
      };
    }

    abbrev int_param : Param
    int_param = (named_param int_only (unnamed_of (no_pointers false) [])).param

    param_is : declarator.param (suc k) level inside scopes ints (int_param, scopes)
    unfolding declarator.param declarator.undeclared_param declarator.either
    param_is = record {
      front = ints;
      back = [];
      value = (named_param int_only (unnamed_of (no_pointers false) []), scopes);
      split = refl;
      begin = record {
        front = ints;
        back = [];
        value = (int_only, scopes);
        split = refl;
        begin = specifiers_are Parameter;
        rest = record {
          front = [];
          back = [];
          value = (unnamed_of (no_pointers false) [], scopes);
          split = refl;
          begin = inr (record { none = refl; same = refl });
          rest = record { none = refl; same = refl };
        };
      };
      rest = record { none = refl; same = refl };
    }

    -- ---- `int ;`

    abbrev semicolons : List (Leveled KeptToken)
    semicolons = (semicolon.token, level) ∷ []

    abbrev int_member : Declaration
    int_member = names_of int_only (declarators_to no_declarators semicolon.token.number)

    member_is : (constant : Part Assign) → declaration_.member (suc k) level inside constant scopes (ints ++ semicolons) (int_member, scopes)
    unfolding declaration_.member declaration_.members declaration_.member_declarators declaration_.no_member_declarators
    member_is constant = inr (record {
      front = ints;
      back = semicolons;
      value = (int_only, scopes);
      split = refl;
      begin = specifiers_are Member;
      rest = record {
        front = semicolons;
        back = [];
        value = (declarators_to no_declarators semicolon.token.number, scopes);
        split = refl;
        begin = inl (record {
          front = semicolons;
          back = [];
          value = (semicolon.token.number, scopes);
          split = refl;
          begin = record { token = semicolon.token; is = refl; fits = semicolon.fits; value = refl };
          rest = record { none = refl; same = refl };
        });
        rest = record { none = refl; same = refl };
      };
    })

    -- ---- A name, or `*`

    abbrev names : List (Leveled KeptToken)
    names = (name.token, level) ∷ []

    abbrev name_only : Named
    name_only = named_of (no_pointers false) (word_of name.token) []

    declarator_is : declarator.declarator (suc k) level inside false scopes names (name_only, scopes)
    unfolding declarator.declarator declarator.named_core declarator.name declarator.all_suffixes
    declarator_is = inr (inl (record {
      front = names;
      back = [];
      value = (word_of name.token, scopes);
      split = refl;
      begin = record { token = name.token; is = refl; fits = name.fits; value = refl };
      rest = record { front = []; back = []; value = ([], scopes); split = refl; begin = stops (suc k) _ ([], scopes); rest = record { none = refl; same = refl } };
    }))

    pointers_are : declarator.pointers (suc k) level scopes stars (star_only, scopes)
    unfolding declarator.pointers declarator.pointer declarator.all_pointers declarator.all_qualifiers
    pointers_are = record {
      front = stars;
      back = [];
      value = (star_only, scopes);
      split = refl;
      begin = record {
        front = stars;
        back = [];
        value = (star.token.number, scopes);
        split = refl;
        begin = record { token = star.token; is = refl; fits = star.fits; value = refl };
        rest = record {
          front = [];
          back = [];
          value = (no_qualifiers, scopes);
          split = refl;
          begin = stops (suc k) _ (no_qualifiers, scopes);
          rest = record { none = refl; same = refl };
        };
      };
      rest = stops (suc k) _ (star_only, scopes);
    }

    abstract_is : declarator.some_abstract (suc k) level inside false scopes stars (unnamed_of star_only [], scopes)
    unfolding declarator.some_abstract declarator.pointed_abstract
    abstract_is = inl (record { front = stars; back = []; value = (star_only, scopes); split = refl; begin = pointers_are; rest = inr (record { none = refl; same = refl }) })

    either_is : declarator.grouped_either (suc k) level inside scopes stars (unnamed_of star_only [], scopes)
    unfolding declarator.grouped_either declarator.pointed_either
    either_is = inl (record { front = stars; back = []; value = (star_only, scopes); split = refl; begin = pointers_are; rest = inr (record { none = refl; same = refl }) })

  -- ---- A number as an item

  abbrev number_item : InitItem
  number_item = item_of [] (init.Value (sole (value_of tokens level scopes (begun_with tokens level scopes Whole)))) []

  abbrev numbers : List (Leveled KeptToken)
  numbers = only tokens level scopes

  item_is : (k : ℕ) (inside : Inside) (value : Part Assign) → value scopes numbers (value_of tokens level scopes (begun_with tokens level scopes Whole), scopes) →
      initialiser.item (suc k) level inside value scopes numbers (number_item, scopes)
  unfolding initialiser.item initialiser.plain_item initialiser.initialiser initialiser.init_value
  item_is k inside value x = inr (record {
    front = numbers;
    back = [];
    value = (init.Value (sole (value_of tokens level scopes (begun_with tokens level scopes Whole))), scopes);
    split = refl;
    begin = inr (record {
      front = numbers;
      back = [];
      value = (value_of tokens level scopes (begun_with tokens level scopes Whole), scopes);
      split = refl;
      begin = x;
      rest = record { none = refl; same = refl };
    });
    rest = record { none = refl; same = refl };
  })

  -- ---- Each part

  abbrev word : PartName → List (Leveled KeptToken)
  word (assigns which) = numbers
  word type_names = ints
  word params = ints
  word members = ints ++ (semicolon.token, level) ∷ []
  word (groups naming.Named) = (name.token, level) ∷ []
  word (groups naming.Abstract) = stars
  word (groups naming.Either) = stars
  word items = numbers

  abbrev value : (n : PartName) → Value n
  value (assigns which) = value_of tokens level scopes (begun_with tokens level scopes which)
  value type_names = type_name_of int_only (unnamed_of (no_pointers false) [])
  value params = (named_param int_only (unnamed_of (no_pointers false) [])).param
  value members = names_of int_only (declarators_to no_declarators semicolon.token.number)
  value (groups naming.Named) = named_of (no_pointers false) (word_of name.token) []
  value (groups naming.Abstract) = unnamed_of star_only []
  value (groups naming.Either) = unnamed_of star_only []
  value items = number_item

  is_word : (n : PartName) (k : ℕ) (parts : (m : PartName) → Part (Value m)) → body n (suc k) level parts scopes (word n) (value n, scopes)
  unfolding body
  is_word (assigns which) k parts = number_is tokens level scopes k (inner_of parts) which
  is_word type_names k parts = type_name_is k (inside_of parts)
  is_word params k parts = param_is k (inside_of parts)
  is_word members k parts = member_is k (inside_of parts) _
  is_word (groups naming.Named) k parts = declarator_is k (inside_of parts)
  is_word (groups naming.Abstract) k parts = abstract_is k (inside_of parts)
  is_word (groups naming.Either) k parts = either_is k (inside_of parts)
  is_word items k parts = item_is k (inside_of parts) _ (number_is tokens level scopes k (inner_of parts) Whole)

  has_word : (n : PartName) (more : ℕ) → 2 ≤ more → nested body more level n scopes (word n) (value n, scopes)
  unfolding nested
  has_word n zero h = absurd (omega arith)
  has_word n (suc zero) h = absurd (omega arith)
  has_word n (suc (suc k)) h = is_word n k (nested body (suc k) (suc level))

  pub some_part : (n : PartName) → Some tokens.IsToken (λ d. nested body d level n scopes)
  some_part (assigns which) = record { word = word (assigns which); value = (value (assigns which), scopes); turns = 2; lexemes = ((number tokens level scopes).lexeme, tt); is = λ more h. has_word (assigns which) more h }
  some_part type_names = record { word = word type_names; value = (value type_names, scopes); turns = 2; lexemes = (int.lexeme, tt); is = λ more h. has_word type_names more h }
  some_part params = record { word = word params; value = (value params, scopes); turns = 2; lexemes = (int.lexeme, tt); is = λ more h. has_word params more h }
  some_part members = record { word = word members; value = (value members, scopes); turns = 2; lexemes = (int.lexeme, (semicolon.lexeme, tt)); is = λ more h. has_word members more h }
  some_part (groups naming.Named) = record { word = word (groups naming.Named); value = (value (groups naming.Named), scopes); turns = 2; lexemes = (name.lexeme, tt); is = λ more h. has_word (groups naming.Named) more h }
  some_part (groups naming.Abstract) = record { word = stars; value = (unnamed_of star_only [], scopes); turns = 2; lexemes = (star.lexeme, tt); is = λ more h. has_word (groups naming.Abstract) more h }
  some_part (groups naming.Either) = record { word = stars; value = (unnamed_of star_only [], scopes); turns = 2; lexemes = (star.lexeme, tt); is = λ more h. has_word (groups naming.Either) more h }
  some_part items = record { word = numbers; value = (number_item, scopes); turns = 2; lexemes = ((number tokens level scopes).lexeme, tt); is = λ more h. has_word items more h }
