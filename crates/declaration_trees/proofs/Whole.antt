-- The theorem: what the rules of specifiers read are trees.

use Rattle.std.proofs.Common.{ℕ, List, Option, sym, ap, ◌∙◌}
use Rattle.c_lexer.specs.declared.token.Kind.{Kind}
use Rattle.c_tree.specs.Shape.{Inner as Contents}
use Rattle.c_tree.specs.TreeEvents.{Met}
use Rattle.c_tree.proofs.Folds as fold
use Rattle.c_specifiers.specs.declared.forms.Place.{Place}
use Rattle.c_specifiers.specs.SpecifierForms.{specs_of}
use Rattle.c_specifiers.specs.Inside.{Inside}
use Rattle.expression_trees.specs.Trees.{steps_of, of_assign, of_type_name}
use Rattle.declaration_trees.specs.Numbering.{before_no_paren}
use Rattle.declaration_trees.specs.Trees.{of_specs, of_member}
use Rattle.declaration_trees.specs.SpecifiersAreTrees.{IsConstantAssign, InsideStands, SpecifiersStand, SpecifiersAreTrees, contents_by, rules_by}
use Rattle.declaration_trees.proofs.FormsSay as say
use Rattle.declaration_trees.proofs.Standing.{adds_to}
use Rattle.declaration_trees.proofs.Meaning.{adds_of_stand, stand_of_adds}
use Rattle.declaration_trees.proofs.SpecifierFront.{InsideAdds}
use Rattle.declaration_trees.proofs.Specifiers.{adds_specifiers, specs_are}

module _ (kind_of : ℕ → Option Kind) (bytes_of : ℕ → List ℕ) (inner : Contents) where
  pub inside_adds : (rules : Inside) → InsideStands kind_of bytes_of inner rules → InsideAdds kind_of bytes_of inner rules
  inside_adds rules h = record {
    constant = adds_of_stand kind_of bytes_of _ (IsConstantAssign kind_of bytes_of inner) (of_assign kind_of bytes_of) h.constant;
    type_name = adds_of_stand kind_of bytes_of _ (before_no_paren kind_of inner.IsTypeName) (of_type_name kind_of bytes_of) h.type_name;
    member = adds_of_stand kind_of bytes_of _ (λ d stop. inner.IsMember d) (of_member kind_of bytes_of) h.member;
  }

  -- Of whatever stands in brackets.
  pub specifiers_stand : (turns level : ℕ) (rules : Inside) (place : Place) → InsideStands kind_of bytes_of inner rules → SpecifiersStand kind_of bytes_of inner place turns level rules
  specifiers_stand turns level rules place h =
      let fi = inside_adds rules h in
      stand_of_adds kind_of bytes_of (λ s. of_specs kind_of bytes_of (specs_of s)) (λ at. adds_to
      (λ s m f y. (
        record {
          specs = λ clear. (specs_are kind_of bytes_of inner turns level rules fi place s m f y clear).0;
          typedef = y.words.typedef ∙ sym (ap (λ (z : Met). z.typedef) (fold.specs_folds (steps_of kind_of bytes_of) (specs_of s)));
        },
        λ k. say.specs_before kind_of bytes_of s.words k ∙ sym (y.words.writes k),
      ))
      (adds_specifiers kind_of bytes_of inner turns level rules fi place at))

pub specifiers_are_trees : SpecifiersAreTrees
specifiers_are_trees kind_of bytes_of tests turns level rules place h =
    specifiers_stand kind_of bytes_of (contents_by tests) turns level (rules_by rules) place h
