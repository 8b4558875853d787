-- Readers of declarations, of members and of static assertions (C11 6.7, 6.7.2.1, 6.7.10).

use Rattle.std.specs.Prelude.{ℕ, ◌-◌, Bool, false, List, [], ◌∷◌, ◌++◌}
use Rattle.c_lexer.specs.declared.keyword.TheConstants.{KEY_STATIC_ASSERT}
use Rattle.c_lexer.specs.declared.mark.TheConstants.{MARK_LEFT_PAREN, MARK_RIGHT_PAREN}
use Rattle.c_lexer.specs.declared.mark.TheConstants.{MARK_COMMA, MARK_COLON, MARK_SEMICOLON}
use Rattle.c_lexer.specs.declared.mark.TheConstants.{MARK_EQUAL}
use Rattle.c_tree.specs.declared.tree.Assign.{Assign}
use Rattle.c_tree.specs.declared.tree.InitDeclarator.{InitDeclarator}
use Rattle.c_tree.specs.declared.tree.Declaration.{Declaration}
use Rattle.c_tree.specs.declared.tree.Declaration.TheVariants as declaration_
use Rattle.c_tree.specs.Forms.{sole}
use Rattle.reading.specs.declared.turn.Turn.{Turn}
use Rattle.reading.specs.declared.turn.Turn.TheVariants.{Again, Done}
use Rattle.reading.specs.Readers.{◌>>=◌, pure, many, repeat}
use Rattle.c_reading.specs.Terminals.{TEXT}
use Rattle.c_syntax.specs.Scoping.{PartReader, terminal_of}
use Rattle.c_syntax.specs.Steps.{expect_among, expect_mark, expect_key, where_mark, where_key}
use Rattle.c_syntax.specs.declared.forms.AssignForm.TheVariants.{Constant}
use Rattle.c_specifiers.specs.declared.forms.Place.TheVariants.{Ordinary, Member}
use Rattle.c_specifiers.specs.declared.forms.Named.{Named}
use Rattle.c_declarations.specs.declared.forms.Declarators.{Declarators}
use Rattle.c_specifiers.specs.DeclarationSteps.{declare}
use Rattle.c_declarators.specs.DeclaratorForms.{no_pointers, unnamed_of}
use Rattle.c_declarations.specs.DeclarationForms.{with_width, undefined}
use Rattle.c_declarations.specs.DeclarationForms.{defined, no_declarators, with_declarator}
use Rattle.c_declarations.specs.DeclarationForms.{declarators_to, names_of}
use Rattle.c_specifiers.specs.Inside.{InsideReaders}
use Rattle.c_specifiers.specs.SpecifierReaders.{specifiers}
use Rattle.c_declarators.specs.DeclaratorReaders.{declarator}
use Rattle.c_declarations.specs.InitialiserReaders.{initialiser}

module _ (room : ℕ) (inner : InsideReaders) where
  -- ---- Static assertions (6.7.10)

  unfoldable pub more_text : List ℕ → PartReader (List ℕ)
  more_text texts = do
    text ← expect_among (TEXT ∷ []) (room - 1)
    pure (texts ++ text ∷ [])

  unfoldable pub more_texts : List ℕ → PartReader (List ℕ)
  more_texts = many terminal_of (TEXT ∷ []) more_text

  -- Adjacent string literals are one (6.4.5).
  unfoldable pub texts : PartReader (List ℕ)
  texts = do
    text ← expect_among (TEXT ∷ []) (room - 1)
    more_texts (text ∷ [])

  unfoldable pub assertion : PartReader Declaration
  assertion = do
    key ← expect_key KEY_STATIC_ASSERT room
    left ← expect_mark MARK_LEFT_PAREN (room - 1)
    cond ← inner.assign Constant
    comma ← expect_mark MARK_COMMA (room - 1)
    text ← texts
    right ← expect_mark MARK_RIGHT_PAREN (room - 1)
    semicolon ← expect_mark MARK_SEMICOLON room
    pure (declaration_.Assert (sole cond) text
        (key ∷ left ∷ comma ∷ right ∷ semicolon ∷ []))

  -- ---- Members (6.7.2.1), with constant expressions on the level

  module _ (constant : PartReader Assign) where
    unfoldable pub bit_field : Named → PartReader InitDeclarator
    bit_field named = do
      colon ← expect_mark MARK_COLON room
      width ← constant
      pure (undefined (with_width named.declarator colon width))

    unfoldable pub named_member : Bool → PartReader InitDeclarator
    named_member atomic = do
      named ← declarator room inner atomic
      where_mark MARK_COLON (bit_field named) (pure (undefined named.declarator))

    -- Behind `_Atomic` or not.
    unfoldable pub member_declarator : Bool → PartReader InitDeclarator
    member_declarator atomic =
        where_mark MARK_COLON (bit_field (unnamed_of (no_pointers false) []))
        (named_member atomic)

    unfoldable pub last_member_declarator : Declarators → PartReader (Turn Declarators Declarators)
    last_member_declarator declarators = do
      semicolon ← expect_mark MARK_SEMICOLON room
      pure (Done (declarators_to declarators semicolon))

    unfoldable pub next_member_declarator : Declarators → PartReader (Turn Declarators Declarators)
    next_member_declarator declarators = do
      comma ← expect_mark MARK_COMMA room
      next ← member_declarator false
      pure (Again (with_declarator (declarators_to declarators comma) next))

    unfoldable pub member_declarator_turn : Declarators →
        PartReader (Turn Declarators Declarators)
    member_declarator_turn declarators =
        where_mark MARK_COMMA (next_member_declarator declarators)
        (last_member_declarator declarators)

    unfoldable pub more_member_declarators : Declarators → PartReader Declarators
    more_member_declarators = repeat member_declarator_turn

    unfoldable pub some_member_declarators : Bool → PartReader Declarators
    some_member_declarators atomic = do
      first ← member_declarator atomic
      more_member_declarators (with_declarator no_declarators first)

    unfoldable pub no_member_declarators : PartReader Declarators
    no_member_declarators = do
      semicolon ← expect_mark MARK_SEMICOLON room
      pure (declarators_to no_declarators semicolon)

    unfoldable pub member_declarators : Bool → PartReader Declarators
    member_declarators atomic =
        where_mark MARK_SEMICOLON no_member_declarators (some_member_declarators atomic)

    unfoldable pub members : PartReader Declaration
    members = do
      specified ← specifiers room inner Member
      all ← member_declarators specified.atomic
      pure (names_of specified all)

    unfoldable pub member : PartReader Declaration
    member = where_key KEY_STATIC_ASSERT assertion members

  -- ---- Declarations (6.7), with assignment expressions on the level

  module _ (value : PartReader Assign) where
    -- The name is declared behind the declarator, before its initialiser (6.2.1p7).
    unfoldable pub declared : Bool → Bool → PartReader Named
    declared typedef atomic = do
      named ← declarator room inner atomic
      declare named.name typedef named

    unfoldable pub initialised : Named → PartReader InitDeclarator
    initialised named = do
      equals ← expect_mark MARK_EQUAL room
      init ← initialiser room inner value
      pure (defined named.declarator init equals)

    unfoldable pub init_declarator : Bool → Bool → PartReader InitDeclarator
    init_declarator typedef atomic = do
      named ← declared typedef atomic
      where_mark MARK_EQUAL (initialised named) (pure (undefined named.declarator))

    unfoldable pub last_declarator : Declarators → PartReader (Turn Declarators Declarators)
    last_declarator declarators = do
      semicolon ← expect_mark MARK_SEMICOLON room
      pure (Done (declarators_to declarators semicolon))

    unfoldable pub next_declarator : Bool → Declarators → PartReader (Turn Declarators Declarators)
    next_declarator typedef declarators = do
      comma ← expect_mark MARK_COMMA room
      next ← init_declarator typedef false
      pure (Again (with_declarator (declarators_to declarators comma) next))

    unfoldable pub declarator_turn : Bool → Declarators →
        PartReader (Turn Declarators Declarators)
    declarator_turn typedef declarators =
        where_mark MARK_COMMA (next_declarator typedef declarators) (last_declarator declarators)

    -- Behind the first.
    unfoldable pub more_declarators : Bool → Declarators → PartReader Declarators
    more_declarators typedef = repeat (declarator_turn typedef)

    unfoldable pub some_declarators : Bool → Bool → PartReader Declarators
    some_declarators typedef atomic = do
      first ← init_declarator typedef atomic
      more_declarators typedef (with_declarator no_declarators first)

    unfoldable pub no_more_declarators : PartReader Declarators
    no_more_declarators = do
      semicolon ← expect_mark MARK_SEMICOLON room
      pure (declarators_to no_declarators semicolon)

    unfoldable pub declarators : Bool → Bool → PartReader Declarators
    declarators typedef atomic =
        where_mark MARK_SEMICOLON no_more_declarators (some_declarators typedef atomic)

    unfoldable pub names : PartReader Declaration
    names = do
      specified ← specifiers room inner Ordinary
      all ← declarators specified.typedef specified.atomic
      pure (names_of specified all)

    unfoldable pub declaration : PartReader Declaration
    declaration = where_key KEY_STATIC_ASSERT assertion names
