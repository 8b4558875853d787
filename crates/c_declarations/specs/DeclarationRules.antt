-- Rules of declarations, of members and of static assertions (C11 6.7, 6.7.2.1, 6.7.10).

use Rattle.std.specs.Prelude.{ℕ, suc, Bool, false, List, [], ◌∷◌, ◌++◌}
use Rattle.c_lexer.specs.declared.keyword.TheConstants.{KEY_STATIC_ASSERT}
use Rattle.c_lexer.specs.declared.mark.TheConstants.{MARK_LEFT_PAREN, MARK_RIGHT_PAREN}
use Rattle.c_lexer.specs.declared.mark.TheConstants.{MARK_COMMA, MARK_COLON, MARK_SEMICOLON}
use Rattle.c_lexer.specs.declared.mark.TheConstants.{MARK_EQUAL}
use Rattle.c_tree.specs.declared.tree.Assign.{Assign}
use Rattle.c_tree.specs.declared.tree.InitDeclarator.{InitDeclarator}
use Rattle.c_tree.specs.declared.tree.Declaration.{Declaration}
use Rattle.c_tree.specs.declared.tree.Declaration.TheVariants as declaration_
use Rattle.c_tree.specs.Forms.{sole}
use Rattle.reading.specs.declared.turn.Turn.{Turn}
use Rattle.reading.specs.declared.turn.Turn.TheVariants.{Again, Done}
use Rattle.reading.specs.Rules.{◌>>=◌, ◌or◌, pure, many, repeat}
use Rattle.c_reading.specs.Terminals.{TEXT}
use Rattle.c_syntax.specs.Scoping.{Part}
use Rattle.c_syntax.specs.Steps.{one_among, one_mark, one_key}
use Rattle.c_syntax.specs.declared.forms.AssignForm.TheVariants.{Constant}
use Rattle.c_specifiers.specs.declared.forms.Place.TheVariants.{Ordinary, Member}
use Rattle.c_specifiers.specs.declared.forms.Named.{Named}
use Rattle.c_declarations.specs.declared.forms.Declarators.{Declarators}
use Rattle.c_specifiers.specs.DeclarationSteps.{declaring}
use Rattle.c_declarators.specs.DeclaratorForms.{no_pointers, unnamed_of}
use Rattle.c_declarations.specs.DeclarationForms.{with_width, undefined}
use Rattle.c_declarations.specs.DeclarationForms.{defined, no_declarators, with_declarator}
use Rattle.c_declarations.specs.DeclarationForms.{declarators_to, names_of}
use Rattle.c_specifiers.specs.Inside.{Inside}
use Rattle.c_specifiers.specs.SpecifierRules.{specifiers}
use Rattle.c_declarators.specs.DeclaratorRules.{declarator}
use Rattle.c_declarations.specs.InitialiserRules.{initialiser}

module _ (turns level : ℕ) (inner : Inside) where
  -- ---- Static assertions (6.7.10)

  unfoldable pub more_text : List ℕ → Part (List ℕ)
  more_text texts = do
    text ← one_among (TEXT ∷ []) (suc level)
    pure (texts ++ text ∷ [])

  unfoldable pub more_texts : List ℕ → Part (List ℕ)
  more_texts = many turns more_text

  -- Adjacent string literals are one (6.4.5).
  unfoldable pub texts : Part (List ℕ)
  texts = do
    text ← one_among (TEXT ∷ []) (suc level)
    more_texts (text ∷ [])

  unfoldable pub assertion : Part Declaration
  assertion = do
    key ← one_key KEY_STATIC_ASSERT level
    left ← one_mark MARK_LEFT_PAREN (suc level)
    cond ← inner.assign Constant
    comma ← one_mark MARK_COMMA (suc level)
    text ← texts
    right ← one_mark MARK_RIGHT_PAREN (suc level)
    semicolon ← one_mark MARK_SEMICOLON level
    pure (declaration_.Assert (sole cond) text
        (key ∷ left ∷ comma ∷ right ∷ semicolon ∷ []))

  -- ---- Members (6.7.2.1), with constant expressions on the level

  module _ (constant : Part Assign) where
    unfoldable pub bit_field : Named → Part InitDeclarator
    bit_field named = do
      colon ← one_mark MARK_COLON level
      width ← constant
      pure (undefined (with_width named.declarator colon width))

    unfoldable pub named_member : Bool → Part InitDeclarator
    named_member atomic = do
      named ← declarator turns level inner atomic
      bit_field named or pure (undefined named.declarator)

    -- Behind `_Atomic` or not.
    unfoldable pub member_declarator : Bool → Part InitDeclarator
    member_declarator atomic =
        bit_field (unnamed_of (no_pointers false) []) or named_member atomic

    unfoldable pub last_member_declarator : Declarators → Part (Turn Declarators Declarators)
    last_member_declarator declarators = do
      semicolon ← one_mark MARK_SEMICOLON level
      pure (Done (declarators_to declarators semicolon))

    unfoldable pub next_member_declarator : Declarators → Part (Turn Declarators Declarators)
    next_member_declarator declarators = do
      comma ← one_mark MARK_COMMA level
      next ← member_declarator false
      pure (Again (with_declarator (declarators_to declarators comma) next))

    unfoldable pub member_declarator_turn : Declarators →
        Part (Turn Declarators Declarators)
    member_declarator_turn declarators =
        next_member_declarator declarators or last_member_declarator declarators

    unfoldable pub more_member_declarators : Declarators → Part Declarators
    more_member_declarators = repeat turns member_declarator_turn

    unfoldable pub some_member_declarators : Bool → Part Declarators
    some_member_declarators atomic = do
      first ← member_declarator atomic
      more_member_declarators (with_declarator no_declarators first)

    unfoldable pub no_member_declarators : Part Declarators
    no_member_declarators = do
      semicolon ← one_mark MARK_SEMICOLON level
      pure (declarators_to no_declarators semicolon)

    unfoldable pub member_declarators : Bool → Part Declarators
    member_declarators atomic =
        no_member_declarators or some_member_declarators atomic

    unfoldable pub members : Part Declaration
    members = do
      specified ← specifiers turns level inner Member
      all ← member_declarators specified.atomic
      pure (names_of specified all)

    unfoldable pub member : Part Declaration
    member = assertion or members

  -- ---- Declarations (6.7), with assignment expressions on the level

  module _ (value : Part Assign) where
    -- The name is declared behind the declarator, before its initialiser (6.2.1p7).
    unfoldable pub declared : Bool → Bool → Part Named
    declared typedef atomic = do
      named ← declarator turns level inner atomic
      declaring named.name typedef named

    unfoldable pub initialised : Named → Part InitDeclarator
    initialised named = do
      equals ← one_mark MARK_EQUAL level
      init ← initialiser turns level inner value
      pure (defined named.declarator init equals)

    unfoldable pub init_declarator : Bool → Bool → Part InitDeclarator
    init_declarator typedef atomic = do
      named ← declared typedef atomic
      initialised named or pure (undefined named.declarator)

    unfoldable pub last_declarator : Declarators → Part (Turn Declarators Declarators)
    last_declarator declarators = do
      semicolon ← one_mark MARK_SEMICOLON level
      pure (Done (declarators_to declarators semicolon))

    unfoldable pub next_declarator : Bool → Declarators → Part (Turn Declarators Declarators)
    next_declarator typedef declarators = do
      comma ← one_mark MARK_COMMA level
      next ← init_declarator typedef false
      pure (Again (with_declarator (declarators_to declarators comma) next))

    unfoldable pub declarator_turn : Bool → Declarators →
        Part (Turn Declarators Declarators)
    declarator_turn typedef declarators =
        next_declarator typedef declarators or last_declarator declarators

    -- Behind the first.
    unfoldable pub more_declarators : Bool → Declarators → Part Declarators
    more_declarators typedef = repeat turns (declarator_turn typedef)

    unfoldable pub some_declarators : Bool → Bool → Part Declarators
    some_declarators typedef atomic = do
      first ← init_declarator typedef atomic
      more_declarators typedef (with_declarator no_declarators first)

    unfoldable pub no_more_declarators : Part Declarators
    no_more_declarators = do
      semicolon ← one_mark MARK_SEMICOLON level
      pure (declarators_to no_declarators semicolon)

    unfoldable pub declarators : Bool → Bool → Part Declarators
    declarators typedef atomic =
        no_more_declarators or some_declarators typedef atomic

    unfoldable pub names : Part Declaration
    names = do
      specified ← specifiers turns level inner Ordinary
      all ← declarators specified.typedef specified.atomic
      pure (names_of specified all)

    unfoldable pub declaration : Part Declaration
    declaration = assertion or names
