-- Expressions with the simplest type names are read exactly, on each level.

use Rattle.std.proofs.Common.{inl, inr, ℕ, zero, suc, ◌+◌, ◌<◌, ◌≤◌, Bool, true, false, List, [], ◌∷◌, ◌++◌, refl, arith}
use Rattle.c_lexer.specs.declared.token.Kind.TheVariants.{Number}
use Rattle.c_tree.specs.declared.tree.Assign.{Assign}
use Rattle.c_tree.specs.declared.tree.Prefixed.{Prefixed}
use Rattle.c_tree.specs.declared.tree.BaseForm.{BaseForm}
use Rattle.c_tree.specs.declared.tree.BaseForm.TheVariants as form
use Rattle.c_scopes.specs.Scopes.{OpenScopes}
use Rattle.reading.specs.declared.turn.Turn.TheVariants.{Done}
use Rattle.reading.specs.Languages.{Leveled}
use Rattle.reading.specs.Nesting.{nested}
use Rattle.reading.specs.Exact.{HIGHEST_LEVEL, room_on, IsExact}
use Rattle.reading.proofs.Words.{Some}
use Rattle.reading.proofs.ReadBy.{Stage, no, read_weaker}
use Rattle.reading.proofs.ReadOne.{Sample, HasRoom, room_inside}
use Rattle.reading.proofs.ReadThen.{read_map}
use Rattle.reading.proofs.ReadSteps.{stops}
use Rattle.reading.proofs.ReadTurns.{ends}
use Rattle.reading.proofs.Knot.{read_nested}
use Rattle.c_reading.specs.Kept.{KeptToken}
use Rattle.c_reading.specs.Cursors.{Around}
use Rattle.c_syntax.specs.declared.forms.Found.TheVariants.{Operand}
use Rattle.c_syntax.specs.Scoping.{Part, PartReader, terminal_of}
use Rattle.c_syntax.specs.Sets.{a_constant, a_typedef_name, a_basic_type}
use Rattle.c_syntax.specs.Forms.{value_item, chain_start, prefixed_of, is_target, begun_of, binary_of, arms_start, assign_of}
use Rattle.c_syntax.specs.Inner.{Inner}
use Rattle.c_syntax.specs.ExpressionRules as lang
use Rattle.c_syntax.specs.SimplestRules.{item, simplest, assign, assign_body, expr}
use Rattle.c_syntax.specs.SimplestReaders as read
use Rattle.c_syntax.proofs.Readings.{Tokens, IsRead, sample}
use Rattle.c_syntax.proofs.TypeNamesAreRead.{type_name_is_read}
use Rattle.c_syntax.proofs.ExpressionsAreRead.{begins_operand, after_assign, after_type, InnerAreRead, whole_is_read, inner_expr_is_read}

module _ (tokens : Tokens) where
  -- ---- A constant is an assignment expression

  module _ (level : ℕ) (scopes : OpenScopes) where
    abbrev constant : Sample terminal_of tokens.IsToken a_constant scopes
    constant = sample tokens a_constant Number refl refl refl scopes

    abbrev only : List (Leveled KeptToken)
    only = (constant.token, level) ∷ []

    abbrev base : BaseForm
    base = form.Literal (constant.token.number ∷ [])

    abbrev operand : Prefixed
    operand = prefixed_of [] base []

    abbrev constant_assign : Assign
    constant_assign = assign_of [] (arms_start (binary_of operand []))

    module _ (k : ℕ) (inner : Inner) where
      one_link : lang.link (suc k) level inner chain_start scopes only (Done (Operand [] base), scopes)
      unfolding lang.link lang.constant
      one_link = inr (inr (inr (inr (inr (inr (inl (record {
        front = only;
        back = [];
        value = (constant.token.number, scopes);
        split = refl;
        begin = record { token = constant.token; is = refl; fits = constant.fits; value = refl };
        rest = record { none = refl; same = refl };
      })))))))

      one_prefixed : lang.prefixed (suc k) level inner scopes only (operand, scopes)
      unfolding lang.prefixed lang.links lang.all_suffixes
      one_prefixed = record {
        front = only;
        back = [];
        value = (Operand [] base, scopes);
        split = refl;
        begin = ends k (lang.link (suc k) level inner) chain_start scopes scopes only (Operand [] base) one_link;
        rest = record { front = []; back = []; value = ([], scopes); split = refl; begin = stops (suc k) _ ([], scopes); rest = record { none = refl; same = refl } };
      }

      stops_at : (b : Bool) → lang.target_at (suc k) level inner [] operand b scopes [] (Done (begun_of [] operand), scopes)
      stops_at true = inr (record { none = refl; same = refl })
      stops_at false = record { none = refl; same = refl }

      one_target : lang.target (suc k) level inner [] scopes only (Done (begun_of [] operand), scopes)
      unfolding lang.target
      one_target = record { front = only; back = []; value = (operand, scopes); split = refl; begin = one_prefixed; rest = stops_at (is_target operand) }

      -- A constant, for each number of turns that is not zero.
      pub one_whole : lang.whole (suc k) level inner scopes only (constant_assign, scopes)
      unfolding lang.whole lang.rest_of lang.targets lang.binary lang.all_operands lang.all_arms
      one_whole = record {
        front = only;
        back = [];
        value = (begun_of [] operand, scopes);
        split = refl;
        begin = ends k (lang.target (suc k) level inner) [] scopes scopes only (begun_of [] operand) one_target;
        rest = record {
          front = [];
          back = [];
          value = (binary_of operand [], scopes);
          split = refl;
          begin = record { front = []; back = []; value = ([], scopes); split = refl; begin = stops (suc k) _ ([], scopes); rest = record { none = refl; same = refl } };
          rest = record {
            front = [];
            back = [];
            value = (arms_start (binary_of operand []), scopes);
            split = refl;
            begin = stops (suc k) _ (arms_start (binary_of operand []), scopes);
            rest = record { none = refl; same = refl };
          };
        };
      }

  some_at : (more level : ℕ) (scopes : OpenScopes) → 2 ≤ more → nested assign_body more level tt scopes (only level scopes) (constant_assign level scopes, scopes)
  unfolding nested
  some_at zero level scopes h = absurd (omega arith)
  some_at (suc zero) level scopes h = absurd (omega arith)
  some_at (suc (suc k)) level scopes h = one_whole level scopes k (simplest (suc k) level (nested assign_body (suc k) (suc level) tt))

  some_assign : (name : Prim.Unit {0}) (level : ℕ) (scopes : OpenScopes) → Some tokens.IsToken (λ d. nested assign_body d level name scopes)
  some_assign name level scopes = record {
    word = only level scopes;
    value = (constant_assign level scopes, scopes);
    turns = 2;
    lexemes = ((constant level scopes).lexeme, tt);
    is = λ more h. some_at more level scopes h;
  }

  -- ---- What stands in brackets

  item_is_read : {stage : Stage} {given : Type 0} {X : ℕ → Part Assign} {p : PartReader Assign} → IsRead tokens stage given X p no begins_operand (λ a. after_assign) →
      IsRead tokens stage given (λ d. item (X d)) (read.item p) no begins_operand (λ a. after_assign)
  unfolding item read.item
  item_is_read r = read_map value_item (λ a. after_assign) r (λ a. refl)

  inner_are_read : {stage : Stage} {level room : ℕ} → HasRoom stage level room → (X : ℕ → Part Assign) (p : PartReader Assign) →
      IsRead tokens stage (0 < room) X p no begins_operand (λ a. after_assign) → InnerAreRead tokens stage (0 < room) (λ d. simplest d level (X d)) (read.simplest room p)
  inner_are_read fits X p r = record {
    begins_type = a_typedef_name ++ a_basic_type;
    begins_item = begins_operand;
    types = refl;
    items = refl;
    assign = r;
    type_name = read_weaker (λ a. after_type) (λ g. g) (λ a. refl) (type_name_is_read tokens (room_inside fits));
    item = item_is_read r;
  }

  step_is_read : (stage : Stage) (level room : ℕ) → HasRoom stage level room → (inner : ℕ → Prim.Unit {0} → Part Assign) (read_inner : Prim.Unit {0} → PartReader Assign) →
      ((m : Prim.Unit {0}) → IsRead tokens stage (0 < room) (λ d. inner d m) (read_inner m) no begins_operand (λ a. after_assign)) →
      (n : Prim.Unit {0}) → IsRead tokens stage (Prim.Unit {0}) (λ d. assign_body n d level (inner d)) (read.assign_body n room read_inner) no begins_operand (λ a. after_assign)
  step_is_read stage level room fits inner read_inner ri n =
      whole_is_read tokens fits (λ d. simplest d level (inner d n)) (read.simplest room (read_inner n)) (inner_are_read fits (λ d. inner d n) (read_inner n) (ri n))

  -- An expression is read exactly, on a level that is not too high or the first that is.
  pub expr_is_exact : (around : Around) (level : ℕ) → level ≤ HIGHEST_LEVEL + 1 → (scopes : OpenScopes) (left : List KeptToken) →
      IsExact tokens.IsToken around (λ d. expr d level scopes) left
      (read.expr (suc (room_on level)) (record { tokens = left; scope = scopes; around = around }))
  unfolding expr assign read.expr read.assign
  expr_is_exact around level h scopes left =
      (inner_expr_is_read tokens {level = level} (suc (room_on level)) (record { is = λ s. omega arith }) (λ d. nested assign_body d level tt)
      _ {holds = Prim.Unit {0}} (λ k. tt)
      (read_nested assign_body read.assign_body (λ n. no) (λ n. begins_operand) (λ n a. after_assign) some_assign step_is_read level h tt)).exact
      tt tt around scopes left
