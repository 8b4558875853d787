-- That what the rules of specifiers read are trees (C11 6.7.1 to 6.7.5).

use Rattle.std.specs.Prelude.{ℕ, ◌≡◌, Bool, true, List, [], Option}
use Rattle.c_lexer.specs.declared.token.Kind.{Kind}
use Rattle.c_tree.specs.declared.tree.TypeName.{TypeName}
use Rattle.c_tree.specs.declared.tree.Param.{Param}
use Rattle.c_tree.specs.declared.tree.Declaration.{Declaration}
use Rattle.c_tree.specs.declared.tree.Declarator.{Declarator}
use Rattle.c_tree.specs.declared.tree.InitItem.{InitItem}
use Rattle.c_tree.specs.declared.tree.Assign.{Assign, out-Assign}
use Rattle.c_tree.specs.Folds.{specs_fold}
use Rattle.c_tree.specs.Shape.{Inner as Contents}
use Rattle.c_tree.specs.Declarations as tree
use Rattle.c_tree.specs.Declarations.{IsSpecs}
use Rattle.c_syntax.specs.declared.forms.AssignForm.{AssignForm}
use Rattle.c_syntax.specs.declared.forms.AssignForm.TheVariants.{Constant}
use Rattle.c_specifiers.specs.declared.forms.Place.{Place}
use Rattle.c_specifiers.specs.declared.forms.Place.TheVariants.{Ordinary, Definition, Parameter}
use Rattle.c_specifiers.specs.declared.forms.Place.TheVariants.{Member, Nameless}
use Rattle.c_specifiers.specs.declared.forms.Naming.{Naming}
use Rattle.c_specifiers.specs.declared.forms.Named.{Named}
use Rattle.c_specifiers.specs.declared.forms.Specified.{Specified}
use Rattle.c_specifiers.specs.SpecifierForms.{specs_of}
use Rattle.c_specifiers.specs.Inside.{Inside}
use Rattle.c_specifiers.specs.SpecifierRules.{specifiers}
use Rattle.expression_trees.specs.Trees.{steps_of, of_assign, of_type_name}
use Rattle.expression_trees.specs.ExpressionsAreTrees.{Words}
use Rattle.declaration_trees.specs.Numbering.{IsNoParen, StandAsTrees, before_no_paren}
use Rattle.declaration_trees.specs.Trees.{of_specs, of_member}

-- The place, in the words of the trees.
abbrev pub standing : Place → tree.Place
standing Ordinary = tree.Ordinary
standing Definition = tree.Definition
standing Parameter = tree.Parameter
standing Member = tree.Member
standing Nameless = tree.Nameless

-- The kind and the bytes of each token are given.
module _ (kind_of : ℕ → Option Kind) (bytes_of : ℕ → List ℕ) (inner : Contents) where
  -- A conditional expression (6.6).
  abbrev pub IsConstantAssign : Assign → ℕ → Type 0
  IsConstantAssign assign stop = inner.IsAssign assign × ((out-Assign assign).targets ≡ [])

  -- The words of what stands in the brackets of specifiers are trees of the forms.
  pub record InsideStands (rules : Inside) : Type 0 where
    pub constant : StandAsTrees kind_of bytes_of (rules.assign Constant) IsConstantAssign
        (of_assign kind_of bytes_of)
    pub type_name : StandAsTrees kind_of bytes_of (rules.type_name)
        (before_no_paren kind_of inner.IsTypeName) (of_type_name kind_of bytes_of)
    pub member : StandAsTrees kind_of bytes_of (rules.member)
        (λ declaration stop. inner.IsMember declaration) (of_member kind_of bytes_of)

  -- Specifiers at the place, where no `(` stands behind an `_Atomic` that is the last of them
  -- (6.7.2.4p4). Whether `typedef` is among them is known.
  pub record AreSpecifiers (place : Place) (specified : Specified) (stop : ℕ) : Type 0 where
    pub specs : (specified.atomic ≡ true → IsNoParen kind_of stop) →
        IsSpecs kind_of inner (standing place) (specs_of specified)
    pub typedef : specified.typedef ≡
        (specs_fold (steps_of kind_of bytes_of) (specs_of specified)).typedef

  -- Then specifiers are trees.
  abbrev pub SpecifiersStand : Place → ℕ → ℕ → Inside → Type 0
  SpecifiersStand place turns level rules =
      StandAsTrees kind_of bytes_of (specifiers turns level rules place) (AreSpecifiers place)
      (λ specified. of_specs kind_of bytes_of (specs_of specified))

-- ---- Contents that are decided

-- What is asked of what stands in brackets, by tests.
pub record Tests : Type 0 where
  pub assign : Assign → Bool
  pub type_name : TypeName → Bool
  pub item : InitItem → Bool
  pub declarator : Bool → Declarator → Bool
  pub member : Declaration → Bool

abbrev pub contents_by : Tests → Contents
contents_by tests = record {
  IsAssign = λ assign. tests.assign assign ≡ true;
  IsTypeName = λ type_name. tests.type_name type_name ≡ true;
  IsItem = λ item. tests.item item ≡ true;
  IsDeclarator = λ named declarator. tests.declarator named declarator ≡ true;
  IsMember = λ declaration. tests.member declaration ≡ true;
}

-- The rules of what stands in brackets, each by its words.
pub record InsideWords : Type 0 where
  pub assign : AssignForm → Words Assign
  pub type_name : Words TypeName
  pub param : Words Param
  pub member : Words Declaration
  pub group : Naming → Words Named
  pub item : Words InitItem

abbrev pub rules_by : InsideWords → Inside
rules_by words = record {
  assign = λ form scopes word end. words.assign form scopes word end ≡ true;
  type_name = λ scopes word end. words.type_name scopes word end ≡ true;
  param = λ scopes word end. words.param scopes word end ≡ true;
  member = λ scopes word end. words.member scopes word end ≡ true;
  group = λ naming scopes word end. words.group naming scopes word end ≡ true;
  item = λ scopes word end. words.item scopes word end ≡ true;
}

-- Whatever stands in brackets, the words of the rules of specifiers are trees of specifiers, if the
-- words of what stands in brackets are trees of that.
abbrev pub SpecifiersAreTrees : Type 0
SpecifiersAreTrees =
    (kind_of : ℕ → Option Kind) (bytes_of : ℕ → List ℕ) (tests : Tests) (turns level : ℕ)
    (rules : InsideWords) (place : Place) →
    InsideStands kind_of bytes_of (contents_by tests) (rules_by rules) →
    SpecifiersStand kind_of bytes_of (contents_by tests) place turns level (rules_by rules)
