-- The form of declarations, specifiers, declarators, type names and initialisers (C11 6.7), apart
-- from names. The kind of each token is given.

use Rattle.std.specs.Prelude.{ℕ, ◌+◌, ◌≡◌, ◌≢◌, ◌⊎◌, Bool, true, false, List, Option, [], ◌∷◌}
use Rattle.std.specs.Prelude.{Some, None, ◌++◌, length, All, Any, IsSome, IfSome}
use Rattle.std.specs.Option.{MatchOption}
use Rattle.c_lexer.specs.declared.token.Kind.{Kind}
use Rattle.c_lexer.specs.declared.token.Kind.TheVariants as k
use Rattle.c_lexer.specs.declared.keyword.TheConstants.{KEY_ATOMIC, KEY_REGISTER, KEY_STATIC}
use Rattle.c_lexer.specs.declared.keyword.TheConstants.{KEY_TYPEDEF}
use Rattle.c_lexer.specs.declared.mark.TheConstants.{MARK_LEFT_PAREN}
use Rattle.c_tree.specs.declared.tree.Expr.{Expr}
use Rattle.c_tree.specs.declared.tree.TypeName.{TypeName, out-TypeName}
use Rattle.c_tree.specs.declared.tree.Specs.{Specs}
use Rattle.c_tree.specs.declared.tree.Spec.{Spec, out-Spec}
use Rattle.c_tree.specs.declared.tree.Spec.TheVariants as spec
use Rattle.c_tree.specs.declared.tree.Enumerator.{Enumerator, out-Enumerator}
use Rattle.c_tree.specs.declared.tree.Declarator.{Declarator, out-Declarator}
use Rattle.c_tree.specs.declared.tree.Pointer.{Pointer}
use Rattle.c_tree.specs.declared.tree.Core.{out-Core}
use Rattle.c_tree.specs.declared.tree.Suffix.{out-Suffix}
use Rattle.c_tree.specs.declared.tree.Param.{Param, out-Param}
use Rattle.c_tree.specs.declared.tree.Init.{out-Init}
use Rattle.c_tree.specs.declared.tree.InitItem.{InitItem}
use Rattle.c_tree.specs.declared.tree.Designator.{out-Designator}
use Rattle.c_tree.specs.declared.tree.InitDeclarator.{InitDeclarator, out-InitDeclarator}
use Rattle.c_tree.specs.declared.tree.Declaration.{Declaration}
use Rattle.c_tree.specs.declared.tree.BaseForm.TheOpen as o
use Rattle.c_tree.specs.Folds.{OpenSpec, OpenCore, OpenSuffix, OpenInit, OpenDesignator}
use Rattle.c_tree.specs.Folds.{OpenDeclaration}
use Rattle.c_tree.specs.Shape.{Inner, HasMarks, HasBraces, HasOneFor, bracketed, ended}
use Rattle.c_tree.specs.Expressions.{IsSingle, IsConstant}

-- A type specifier (6.7.2).
abbrev pub IsTypeSpecifier : OpenSpec → Type 0
IsTypeSpecifier (o.Spec-F.Storage token) = ⊥
IsTypeSpecifier (o.Spec-F.Function token) = ⊥
IsTypeSpecifier (o.Spec-F.Qualifier token) = ⊥
IsTypeSpecifier (o.Spec-F.Basic token) = Prim.Unit {0}
IsTypeSpecifier (o.Spec-F.Named token) = Prim.Unit {0}
IsTypeSpecifier (o.Spec-F.Atomic type_name marks) = Prim.Unit {0}
IsTypeSpecifier (o.Spec-F.AlignType type_name marks) = ⊥
IsTypeSpecifier (o.Spec-F.AlignExpr expr marks) = ⊥
IsTypeSpecifier (o.Spec-F.Record key tag body marks) = Prim.Unit {0}
IsTypeSpecifier (o.Spec-F.Enumeration key tag body marks) = Prim.Unit {0}

-- Where specifiers stand.
pub data Place : Type 0 where
  -- In a declaration of a file, a block or a `for` (6.7).
  Ordinary : Place
  -- In a function definition (6.9.1).
  Definition : Place
  -- In a parameter (6.7.6.3).
  Parameter : Place
  -- In a structure or union (6.7.2.1).
  Member : Place
  -- In a type name (6.7.7).
  Nameless : Place

-- A declarator that is nothing at all (6.7.7).
pub record IsNothing (declarator : Declarator) : Type 0 where
  pub pointers : (out-Declarator declarator).pointers ≡ []
  pub core : out-Core (out-Declarator declarator).core ≡ o.Core-F.Empty
  pub suffixes : (out-Declarator declarator).suffixes ≡ []

module _ (kind_of : ℕ → Option Kind) where
  abbrev pub IsKey : ℕ → ℕ → Type 0
  IsKey key token = kind_of token ≡ Some (k.Key key)

  -- `_Atomic` with a `(` directly after it is a type specifier, and no qualifier (6.7.2.4p4).
  abbrev pub IsQualifier : ℕ → Type 0
  IsQualifier token = IsKey KEY_ATOMIC token →
      ¬ (kind_of (token + 1) ≡ Some (k.Mark MARK_LEFT_PAREN))

  -- Which specifiers may stand at the place. Ours: a definition has no `typedef`, and members may
  -- be aligned.
  abbrev pub MayStandIn : Place → OpenSpec → Type 0
  -- Of storage classes a parameter has `register` alone (6.7.6.3p2), a member and a type name none.
  MayStandIn Ordinary (o.Spec-F.Storage token) = Prim.Unit {0}
  MayStandIn Definition (o.Spec-F.Storage token) = ¬ IsKey KEY_TYPEDEF token
  MayStandIn Parameter (o.Spec-F.Storage token) = IsKey KEY_REGISTER token
  MayStandIn Member (o.Spec-F.Storage token) = ⊥
  MayStandIn Nameless (o.Spec-F.Storage token) = ⊥
  -- A member and a type name have no function specifiers (6.7.2.1, 6.7.7).
  MayStandIn Ordinary (o.Spec-F.Function token) = Prim.Unit {0}
  MayStandIn Definition (o.Spec-F.Function token) = Prim.Unit {0}
  MayStandIn Parameter (o.Spec-F.Function token) = Prim.Unit {0}
  MayStandIn Member (o.Spec-F.Function token) = ⊥
  MayStandIn Nameless (o.Spec-F.Function token) = ⊥
  -- A type name has no alignment (6.7.7).
  MayStandIn Ordinary (o.Spec-F.AlignType type_name marks) = Prim.Unit {0}
  MayStandIn Definition (o.Spec-F.AlignType type_name marks) = Prim.Unit {0}
  MayStandIn Parameter (o.Spec-F.AlignType type_name marks) = Prim.Unit {0}
  MayStandIn Member (o.Spec-F.AlignType type_name marks) = Prim.Unit {0}
  MayStandIn Nameless (o.Spec-F.AlignType type_name marks) = ⊥
  MayStandIn Ordinary (o.Spec-F.AlignExpr expr marks) = Prim.Unit {0}
  MayStandIn Definition (o.Spec-F.AlignExpr expr marks) = Prim.Unit {0}
  MayStandIn Parameter (o.Spec-F.AlignExpr expr marks) = Prim.Unit {0}
  MayStandIn Member (o.Spec-F.AlignExpr expr marks) = Prim.Unit {0}
  MayStandIn Nameless (o.Spec-F.AlignExpr expr marks) = ⊥
  -- Qualifiers and type specifiers may stand everywhere.
  MayStandIn place (o.Spec-F.Qualifier token) = Prim.Unit {0}
  MayStandIn place (o.Spec-F.Basic token) = Prim.Unit {0}
  MayStandIn place (o.Spec-F.Named token) = Prim.Unit {0}
  MayStandIn place (o.Spec-F.Atomic type_name marks) = Prim.Unit {0}
  MayStandIn place (o.Spec-F.Record key tag body marks) = Prim.Unit {0}
  MayStandIn place (o.Spec-F.Enumeration key tag body marks) = Prim.Unit {0}

  module _ (inner : Inner) where
    -- ---- Specifiers

    -- A name, and where there is `=` its value (6.7.2.2).
    pub record IsEnumerator (enumerator : Enumerator) : Type 0 where
      pub value : IfSome (out-Enumerator enumerator).value (IsConstant kind_of inner)
      pub marks : MatchOption (out-Enumerator enumerator).value
          (HasMarks 0 (out-Enumerator enumerator).marks)
          (λ value. HasMarks 1 (out-Enumerator enumerator).marks)

    -- The declarations of members in braces; at least one (6.7.2.1).
    pub record IsRecordBody (body : List Declaration) (braces : List ℕ) : Type 0 where
      pub each : All inner.IsMember body
      pub some : body ≢ []
      pub marks : HasMarks 2 braces

    -- The enumerators in braces (6.7.2.2).
    pub record IsEnumerationBody (body : List Enumerator) (braces : List ℕ) : Type 0 where
      pub each : All IsEnumerator body
      pub marks : HasBraces (length body) braces

    abbrev pub IsSpec : OpenSpec → Type 0
    IsSpec (o.Spec-F.Storage token) = Prim.Unit {0}
    IsSpec (o.Spec-F.Function token) = Prim.Unit {0}
    IsSpec (o.Spec-F.Qualifier token) = IsQualifier token
    IsSpec (o.Spec-F.Basic token) = Prim.Unit {0}
    IsSpec (o.Spec-F.Named token) = Prim.Unit {0}
    -- `_Atomic`, `(`, a type name and `)` (6.7.2.4).
    IsSpec (o.Spec-F.Atomic type_name marks) = inner.IsTypeName type_name × HasMarks 3 marks
    -- `_Alignas`, `(`, a type name or a constant expression, and `)` (6.7.5).
    IsSpec (o.Spec-F.AlignType type_name marks) = inner.IsTypeName type_name × HasMarks 3 marks
    IsSpec (o.Spec-F.AlignExpr expr marks) = IsConstant kind_of inner expr × HasMarks 3 marks
    -- A structure or union has a tag or a body (6.7.2.1).
    IsSpec (o.Spec-F.Record key tag body marks) =
        (IsSome tag ⊎ IsSome body) ×
        MatchOption body (HasMarks 0 marks) (λ members. IsRecordBody members marks)
    -- An enumeration likewise (6.7.2.2).
    IsSpec (o.Spec-F.Enumeration key tag body marks) =
        (IsSome tag ⊎ IsSome body) ×
        MatchOption body (HasMarks 0 marks) (λ enumerators. IsEnumerationBody enumerators marks)

    -- Specifiers at the place (6.7). Ours: at least one of them is a type specifier, and no type
    -- specifier stands before a typedef name; which of the others stand together is not asked.
    pub record IsSpecs (place : Place) (specs : Specs) : Type 0 where
      pub each : All (λ word. IsSpec (out-Spec word)) specs.words
      pub allowed : All (λ word. MayStandIn place (out-Spec word)) specs.words
      pub typed : Any (λ word. IsTypeSpecifier (out-Spec word)) specs.words
      pub named : (before after : List Spec) (token : ℕ) →
          specs.words ≡ before ++ spec.Named token ∷ after →
          All (λ word. ¬ IsTypeSpecifier (out-Spec word)) before

    -- ---- Declarators

    -- `*`, and then qualifiers (6.7.6.1).
    abbrev pub IsPointer : Pointer → Type 0
    IsPointer pointer = All IsQualifier pointer.qualifiers

    -- In the middle stands the name, a declarator that is not nothing in parentheses, or nothing
    -- (6.7.6, 6.7.7). Whether the declarator has a name is given.
    abbrev pub IsCore : Bool → OpenCore → Type 0
    IsCore named (o.Core-F.Core::Name token) = named ≡ true
    IsCore named (o.Core-F.Core::Group declarator marks) =
        inner.IsDeclarator named declarator × ¬ IsNothing declarator × HasMarks 2 marks
    IsCore named o.Core-F.Empty = named ≡ false

    -- No `static` among the words.
    abbrev pub AreQualifiers : List ℕ → Type 0
    AreQualifiers words = All (λ word. IsQualifier word × ¬ IsKey KEY_STATIC word) words

    -- Qualifiers, and one `static` before or after them (6.7.6.2).
    pub record AreStatic (words : List ℕ) : Type 0 where
      pub token : ℕ
      pub key : IsKey KEY_STATIC token
      pub before : List ℕ
      pub after : List ℕ
      pub stands : words ≡ before ++ token ∷ after
      pub ends : (before ≡ []) ⊎ (after ≡ [])
      pub others : AreQualifiers (before ++ after)

    -- What stands between the brackets of an array (6.7.6.2): qualifiers with or without a size;
    -- `static` and a size; `*`, which qualifiers may stand before if the declarator has a name
    -- (6.7.7).
    pub data IsBounded (named : Bool) : List ℕ → Option Expr → Option ℕ → Type 0 where
      sized : (words : List ℕ) (size : Option Expr) → AreQualifiers words →
          IfSome size (IsSingle kind_of inner) → IsBounded named words size None
      static_sized : (words : List ℕ) (size : Expr) → AreStatic words →
          IsSingle kind_of inner size → IsBounded named words (Some size) None
      starred : (words : List ℕ) (star : ℕ) → AreQualifiers words →
          (named ≡ false → words ≡ []) → IsBounded named words None (Some star)

    -- Specifiers, and a declarator with a name or without (6.7.6.3).
    pub record IsParam (param : Param) : Type 0 where
      pub specs : IsSpecs Parameter (out-Param param).specs
      pub declarator : inner.IsDeclarator true (out-Param param).declarator
          ⊎ inner.IsDeclarator false (out-Param param).declarator

    -- Parameters with a comma between two of them, and then perhaps a comma and dots; or nothing.
    -- Dots follow a parameter (6.7.6.3).
    pub record AreParams (params : List Param) (dots : Option ℕ) (parens : List ℕ) : Type 0 where
      pub each : All IsParam params
      pub follow : IsSome dots → params ≢ []
      pub marks : MatchOption dots (HasMarks (bracketed (length params)) parens)
          (λ token. HasMarks (2 + length params) parens)

    abbrev pub IsSuffix : Bool → OpenSuffix → Type 0
    IsSuffix named (o.Suffix-F.Array words size star marks) =
        IsBounded named words size star × HasMarks 2 marks
    IsSuffix named (o.Suffix-F.Params list dots marks) = AreParams list dots marks

    -- A declarator with a name, or without one, apart from a width (6.7.6, 6.7.7).
    pub record IsShaped (named : Bool) (declarator : Declarator) : Type 0 where
      pub pointers : All IsPointer (out-Declarator declarator).pointers
      pub core : IsCore named (out-Core (out-Declarator declarator).core)
      pub suffixes : All (λ suffix. IsSuffix named (out-Suffix suffix))
          (out-Declarator declarator).suffixes

    -- A declarator with a name, or without one; it has no width (6.7.6, 6.7.7).
    pub record IsDeclarator (named : Bool) (declarator : Declarator) : Type 0 where
      pub shape : IsShaped named declarator
      pub width : (out-Declarator declarator).width ≡ None
      pub marks : HasMarks 0 (out-Declarator declarator).marks

    -- A declarator of a bit-field: it has a name, or is nothing but its width (6.7.2.1).
    pub record IsBitField (declarator : Declarator) : Type 0 where
      pub shape : IsShaped true declarator ⊎ IsNothing declarator
      pub width : Expr
      pub has_width : (out-Declarator declarator).width ≡ Some width
      pub constant : IsConstant kind_of inner width
      pub marks : HasMarks 1 (out-Declarator declarator).marks

    -- Type specifiers and qualifiers, and a declarator without a name (6.7.7).
    pub record IsTypeName (type_name : TypeName) : Type 0 where
      pub specs : IsSpecs Nameless (out-TypeName type_name).specs
      pub declarator : IsDeclarator false (out-TypeName type_name).declarator

    -- ---- Initialisers

    -- An assignment expression, or items in braces (6.7.9).
    abbrev pub IsInit : OpenInit → Type 0
    IsInit (o.Init-F.Value expr) = IsSingle kind_of inner expr
    IsInit (o.Init-F.Items items marks) = All inner.IsItem items × HasBraces (length items) marks

    -- `[`, a constant expression and `]`; `.` and the name of a member (6.7.9).
    abbrev pub IsDesignator : OpenDesignator → Type 0
    IsDesignator (o.Designator-F.Designator::Index expr marks) =
        IsConstant kind_of inner expr × HasMarks 2 marks
    IsDesignator (o.Designator-F.Field token marks) = HasMarks 1 marks

    -- Designators and `=`, or nothing, and then an initialiser (6.7.9).
    pub record IsItem (item : InitItem) : Type 0 where
      pub designators : All (λ designator. IsDesignator (out-Designator designator))
          item.designators
      pub init : IsInit (out-Init item.init)
      pub marks : HasOneFor item.designators item.marks

    -- ---- Declarations

    -- A declarator with a name, and where there is `=` an initialiser (6.7).
    pub record IsInitDeclarator (declared : InitDeclarator) : Type 0 where
      pub declarator : IsDeclarator true (out-InitDeclarator declared).declarator
      pub init : IfSome (out-InitDeclarator declared).init (λ init. IsInit (out-Init init))
      pub marks : MatchOption (out-InitDeclarator declared).init
          (HasMarks 0 (out-InitDeclarator declared).marks)
          (λ init. HasMarks 1 (out-InitDeclarator declared).marks)

    -- A member's declarator, with a width or without, and no initialiser (6.7.2.1).
    pub record IsMemberDeclarator (declared : InitDeclarator) : Type 0 where
      pub declarator : IsDeclarator true (out-InitDeclarator declared).declarator
          ⊎ IsBitField (out-InitDeclarator declared).declarator
      pub init : (out-InitDeclarator declared).init ≡ None
      pub marks : HasMarks 0 (out-InitDeclarator declared).marks

    -- Specifiers, declarators with a comma between two of them, and `;`.
    pub record AreNames (place : Place) (IsOne : InitDeclarator → Type 0) (specs : Specs)
        (list : List InitDeclarator) (commas : List ℕ) : Type 0 where
      pub specifiers : IsSpecs place specs
      pub each : All IsOne list
      pub marks : HasMarks (ended (length list)) commas

    -- `_Static_assert`, `(`, a constant expression, `,`, a string literal, `)` and `;` (6.7.10).
    pub record IsAssert (cond : Expr) (text : List ℕ) (marks : List ℕ) : Type 0 where
      pub condition : IsConstant kind_of inner cond
      pub some : text ≢ []
      pub fixed : HasMarks 5 marks

    -- A declaration of a file, a block or a `for` (6.7).
    abbrev pub IsDeclaration : OpenDeclaration → Type 0
    IsDeclaration (o.Declaration-F.Names specs list marks) =
        AreNames Ordinary IsInitDeclarator specs list marks
    IsDeclaration (o.Declaration-F.Assert cond text marks) = IsAssert cond text marks

    -- A declaration of members (6.7.2.1).
    abbrev pub IsMember : OpenDeclaration → Type 0
    IsMember (o.Declaration-F.Names specs list marks) =
        AreNames Member IsMemberDeclarator specs list marks
    IsMember (o.Declaration-F.Assert cond text marks) = IsAssert cond text marks
