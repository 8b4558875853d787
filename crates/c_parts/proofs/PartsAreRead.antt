-- Expressions, type names and declarations are read exactly, on each level.

use Rattle.std.proofs.Common.{◌≡◌, ℕ, suc, ◌+◌, ◌<◌, ◌≤◌, true, List, [], refl, arith}
use Rattle.c_lexer.specs.declared.token.Kind.{Kind}
use Rattle.c_scopes.specs.Scopes.{OpenScopes}
use Rattle.reading.specs.Terminals.{has}
use Rattle.reading.specs.Exact.{HIGHEST_LEVEL, room_on, IsExact}
use Rattle.reading.proofs.Sets.{within}
use Rattle.reading.proofs.Words.{Some}
use Rattle.reading.proofs.ReadBy.{Stage, whole, no}
use Rattle.reading.proofs.ReadOne.{HasRoom}
use Rattle.reading.proofs.Knot.{read_nested, read_nested_at}
use Rattle.c_reading.specs.Kept.{KeptToken}
use Rattle.c_reading.specs.Cursors.{Around}
use Rattle.c_reading.specs.Terminals.{terminal}
use Rattle.c_syntax.specs.declared.forms.AssignForm.{AssignForm}
use Rattle.c_syntax.specs.declared.forms.AssignForm.TheVariants.{Whole, Constant}
use Rattle.c_syntax.specs.Scoping.{Part, PartReader}
use Rattle.c_syntax.specs.Sets.{begins_assign}
use Rattle.c_syntax.specs.ExpressionRules as expression
use Rattle.c_syntax.specs.ExpressionReaders as expression_reader
use Rattle.c_syntax.proofs.Readings as expressions
use Rattle.c_syntax.proofs.ExpressionsAreRead.{after_assign, InnerAreRead, formed_is_read, inner_expr_is_read}
use Rattle.c_specifiers.specs.declared.forms.Place.TheVariants.{Parameter, Nameless}
use Rattle.c_specifiers.specs.DeclarationSets.{begins_specifiers}
use Rattle.c_specifiers.proofs.DeclarationReadings.{Tokens, IsRead, needed, InsideAreRead, begins_member, begins_group, begins_item}
use Rattle.c_specifiers.proofs.DeclarationReadings.{after_type_name, after_param, after_either}
use Rattle.c_declarators.proofs.DeclaratorsAreRead.{type_name_is_read, param_is_read, grouped_is_read}
use Rattle.c_declarations.proofs.InitialisersAreRead.{item_is_read}
use Rattle.c_declarations.proofs.DeclarationsAreRead.{member_is_read, declaration_is_read}
use Rattle.c_parts.specs.PartNames.{PartName, assigns, type_names, params, members, groups, items, Value}
use Rattle.c_parts.specs.PartNames.{inner_of, inside_of, inner_readers_of, inside_readers_of}
use Rattle.c_parts.specs.PartRules.{body, part, expr, type_name, declaration}
use Rattle.c_parts.specs.PartReaders as read
use Rattle.c_parts.proofs.SomeParts.{some_part}

abbrev first : PartName → List ℕ
first (assigns which) = begins_assign which
first type_names = begins_specifiers Nameless
first params = begins_specifiers Parameter
first members = begins_member
first (groups naming) = begins_group naming
first items = begins_item

abbrev last : (n : PartName) → Value n → List ℕ
last (assigns which) = λ a. after_assign
last type_names = λ a. after_type_name
last params = λ a. after_param
last members = λ a. []
last (groups naming) = λ a. after_either
last items = λ a. after_assign

module _ (tokens : Tokens) where
  also_needed : (kind : Kind) → has expressions.needed (terminal kind) ≡ true → has needed (terminal kind) ≡ true
  also_needed kind h = within expressions.needed needed refl (terminal kind) h

  abbrev in_expressions : expressions.Tokens
  in_expressions = record {
    IsToken = tokens.IsToken;
    token = λ kind h. tokens.token kind (also_needed kind h);
    is = λ kind h. tokens.is kind (also_needed kind h);
    kind_is = λ kind h. tokens.kind_is kind (also_needed kind h);
  }

  module _ {stage : Stage} {given : Type 0} (inner : ℕ → (m : PartName) → Part (Value m)) (read_inner : (m : PartName) → PartReader (Value m))
      (ri : (m : PartName) → IsRead tokens stage given (λ d. inner d m) (read_inner m) no (first m) (last m)) where
    inner_are_read : InnerAreRead in_expressions stage given (λ d. inner_of (inner d)) (inner_readers_of read_inner)
    inner_are_read = record {
      begins_type = begins_specifiers Nameless;
      begins_item = begins_item;
      types = refl;
      items = refl;
      assign = ri (assigns Whole);
      type_name = ri type_names;
      item = ri items;
    }

    inside_are_read : InsideAreRead tokens stage given (λ d. inside_of (inner d)) (inside_readers_of read_inner)
    inside_are_read = record {
      assign = λ form. ri (assigns form);
      type_name = ri type_names;
      param = ri params;
      member = ri members;
      group = λ naming. ri (groups naming);
      item = ri items;
    }

  module _ {stage : Stage} {level room : ℕ} (fits : HasRoom stage level room) (inner : ℕ → (m : PartName) → Part (Value m)) (read_inner : (m : PartName) → PartReader (Value m))
      (ri : (m : PartName) → IsRead tokens stage (0 < room) (λ d. inner d m) (read_inner m) no (first m) (last m)) where
    -- An assignment expression on the level.
    value_is_read : (form : AssignForm) (given : Type 0) →
        IsRead tokens stage given (λ d. expression.formed d level (inner_of (inner d)) form) (expression_reader.formed room (inner_readers_of read_inner) form) no (begins_assign form) (λ a. after_assign)
    value_is_read form given = formed_is_read in_expressions fits (λ d. inner_of (inner d)) (inner_readers_of read_inner) (inner_are_read inner read_inner ri) form

    body_is_read : (n : PartName) → IsRead tokens stage (Prim.Unit {0}) (λ d. body n d level (inner d)) (read.body n room read_inner) no (first n) (last n)
    unfolding body read.body
    body_is_read (assigns form) = value_is_read form (Prim.Unit {0})
    body_is_read type_names = type_name_is_read tokens fits (λ d. inside_of (inner d)) (inside_readers_of read_inner) (inside_are_read inner read_inner ri)
    body_is_read params = param_is_read tokens fits (λ d. inside_of (inner d)) (inside_readers_of read_inner) (inside_are_read inner read_inner ri)
    body_is_read members =
        member_is_read tokens fits (λ d. inside_of (inner d)) (inside_readers_of read_inner) (inside_are_read inner read_inner ri)
        (λ d. expression.formed d level (inner_of (inner d)) Constant) (expression_reader.formed room (inner_readers_of read_inner) Constant) (value_is_read Constant)
    body_is_read (groups naming) = grouped_is_read tokens fits (λ d. inside_of (inner d)) (inside_readers_of read_inner) (inside_are_read inner read_inner ri) naming
    body_is_read items =
        item_is_read tokens fits (λ d. inside_of (inner d)) (inside_readers_of read_inner) (inside_are_read inner read_inner ri)
        (λ d. expression.formed d level (inner_of (inner d)) Whole) (expression_reader.formed room (inner_readers_of read_inner) Whole) (value_is_read Whole)

  -- ---- The knot

  step_is_read : (stage : Stage) (level room : ℕ) → HasRoom stage level room → (inner : ℕ → (m : PartName) → Part (Value m)) (read_inner : (m : PartName) → PartReader (Value m)) →
      ((m : PartName) → IsRead tokens stage (0 < room) (λ d. inner d m) (read_inner m) no (first m) (last m)) →
      (n : PartName) → IsRead tokens stage (Prim.Unit {0}) (λ d. body n d level (inner d)) (read.body n room read_inner) no (first n) (last n)
  step_is_read stage level room fits inner read_inner ri n = body_is_read fits inner read_inner ri n

  some_at : (n : PartName) (level : ℕ) (scopes : OpenScopes) → Some tokens.IsToken (λ d. part d level n scopes)
  some_at n level scopes = some_part tokens level scopes n

  parts_are_read : {given : Type 0} (level : ℕ) → level ≤ HIGHEST_LEVEL + 1 → (n : PartName) →
      IsRead tokens whole given (λ d. part d level n) (read.part (suc (room_on level)) n) no (first n) (last n)
  parts_are_read level h n = read_nested body read.body (λ n. no) first last some_at step_is_read level h n

  -- Those one level deeper, where there is so much room on theirs.
  deeper_are_read : (level : ℕ) → level ≤ HIGHEST_LEVEL + 1 → (n : PartName) →
      IsRead tokens whole (0 < room_on level) (λ d. part d (suc level) n) (read.part (room_on level) n) no (first n) (last n)
  deeper_are_read level h n = read_nested_at body read.body (λ n. no) first last some_at step_is_read (room_on level) (suc level) (omega arith) n

  module _ (around : Around) (level : ℕ) (h : level ≤ HIGHEST_LEVEL + 1) (scopes : OpenScopes) (left : List KeptToken) where
    pub expr_is_exact : IsExact tokens.IsToken around (λ d. expr d level scopes) left (read.expr (suc (room_on level)) (record { tokens = left; scope = scopes; around = around }))
    unfolding expr read.expr
    expr_is_exact =
        (inner_expr_is_read in_expressions {level = level} (suc (room_on level)) (record { is = λ s. omega arith }) (λ d. part d level (assigns Whole))
        (inner_readers_of (read.part (suc (room_on level)))) {holds = Prim.Unit {0}} (λ k. tt) (parts_are_read level h (assigns Whole))).exact tt tt around scopes left

    pub type_name_is_exact : IsExact tokens.IsToken around (λ d. type_name d level scopes) left (read.type_name (suc (room_on level)) (record { tokens = left; scope = scopes; around = around }))
    unfolding type_name read.type_name
    type_name_is_exact = (parts_are_read {given = Prim.Unit {0}} level h type_names).exact tt tt around scopes left

    pub declaration_is_exact : IsExact tokens.IsToken around (λ d. declaration d level scopes) left (read.declaration (room_on level) (record { tokens = left; scope = scopes; around = around }))
    unfolding declaration read.declaration
    declaration_is_exact =
        (declaration_is_read tokens {level = level} {room = room_on level} (record { is = λ s. refl }) (λ d. inside_of (part d (suc level))) (inside_readers_of (read.part (room_on level)))
        (inside_are_read (λ d. part d (suc level)) (read.part (room_on level)) (deeper_are_read level h)) (λ d. part d level (assigns Whole)) (read.part (suc (room_on level)) (assigns Whole))
        (λ given. parts_are_read level h (assigns Whole)) {given = Prim.Unit {0}}).exact tt tt around scopes left
