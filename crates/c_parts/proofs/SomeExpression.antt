-- A number is an assignment expression of each form (C11 6.4.4, 6.5.16).

use Rattle.std.proofs.Common.{inl, inr, ℕ, suc, Bool, true, false, List, [], ◌∷◌, refl}
use Rattle.c_lexer.specs.declared.token.Kind.TheVariants.{Number}
use Rattle.c_tree.specs.declared.tree.Assign.{Assign}
use Rattle.c_tree.specs.declared.tree.Prefix.{Prefix}
use Rattle.c_tree.specs.declared.tree.Prefix.TheVariants as prefix
use Rattle.c_tree.specs.declared.tree.Prefixed.{Prefixed}
use Rattle.c_tree.specs.declared.tree.BaseForm.{BaseForm}
use Rattle.c_tree.specs.declared.tree.BaseForm.TheVariants as form
use Rattle.c_scopes.specs.Scopes.{OpenScopes}
use Rattle.reading.specs.declared.turn.Turn.TheVariants.{Done}
use Rattle.reading.specs.Languages.{Leveled}
use Rattle.reading.proofs.ReadOne.{Sample}
use Rattle.reading.proofs.ReadSteps.{stops}
use Rattle.reading.proofs.ReadTurns.{ends}
use Rattle.c_reading.specs.Kept.{KeptToken}
use Rattle.c_syntax.specs.declared.forms.AssignForm.{AssignForm}
use Rattle.c_syntax.specs.declared.forms.AssignForm.TheVariants.{Whole, Constant, Unstarred, Bare, Behind}
use Rattle.c_syntax.specs.declared.forms.Begun.{Begun}
use Rattle.c_syntax.specs.declared.forms.Chain.{Chain}
use Rattle.c_syntax.specs.declared.forms.Found.TheVariants.{Operand}
use Rattle.c_syntax.specs.declared.forms.Mode.TheVariants.{Cast}
use Rattle.c_syntax.specs.Scoping.{terminal_of}
use Rattle.c_syntax.specs.Sets.{a_constant}
use Rattle.c_syntax.specs.Forms.{flushed, chain_start, with_op, prefixed_of, is_target, begun_of, binary_of, arms_start, assign_of}
use Rattle.c_syntax.specs.Inner.{Inner}
use Rattle.c_syntax.specs.ExpressionRules as lang
use Rattle.c_specifiers.proofs.DeclarationReadings.{Tokens, sample}

module _ (tokens : Tokens) (level : ℕ) (scopes : OpenScopes) where
  abbrev pub number : Sample terminal_of tokens.IsToken a_constant scopes
  number = sample tokens a_constant Number refl refl refl scopes

  abbrev pub only : List (Leveled KeptToken)
  only = (number.token, level) ∷ []

  abbrev base : BaseForm
  base = form.Literal (number.token.number ∷ [])

  abbrev operand_behind : List Prefix → Prefixed
  operand_behind prefixes = prefixed_of prefixes base []

  abbrev pub value_of : Begun → Assign
  value_of begun = assign_of begun.targets (arms_start (binary_of begun.first []))

  -- What stands before the number.
  abbrev pub before : AssignForm → List Prefix
  before Whole = []
  before Constant = []
  before Unstarred = []
  before Bare = []
  before (Behind star) = prefix.Op star ∷ []

  abbrev pub begun_with : AssignForm → Begun
  begun_with which = begun_of [] (operand_behind (before which))

  module _ (k : ℕ) (inner : Inner) where
    constant_is : (chain : Chain) → lang.constant (suc k) level inner chain scopes only (Done (Operand (flushed chain.mode chain.prefixes) base), scopes)
    unfolding lang.constant
    constant_is chain = record {
      front = only;
      back = [];
      value = (number.token.number, scopes);
      split = refl;
      begin = record { token = number.token; is = refl; fits = number.fits; value = refl };
      rest = record { none = refl; same = refl };
    }

    link_is : (chain : Chain) → lang.link (suc k) level inner chain scopes only (Done (Operand (flushed chain.mode chain.prefixes) base), scopes)
    unfolding lang.link
    link_is chain = inr (inr (inr (inr (inr (inr (inl (constant_is chain)))))))

    first_link_is : (which : AssignForm) → lang.first_link (suc k) level inner which scopes only (Done (Operand (before which) base), scopes)
    unfolding lang.first_link lang.unstarred_link lang.bare_link
    first_link_is Whole = link_is chain_start
    first_link_is Constant = link_is chain_start
    first_link_is Unstarred = inr (inr (inr (inr (inr (inr (inl (constant_is chain_start)))))))
    first_link_is Bare = inr (inr (inr (inr (inr (inl (constant_is chain_start))))))
    first_link_is (Behind star) = link_is (with_op chain_start star Cast)

    suffixes_are : lang.all_suffixes (suc k) level inner scopes [] ([], scopes)
    unfolding lang.all_suffixes
    suffixes_are = stops (suc k) _ ([], scopes)

    abbrev Finishes : List Prefix → Type 0
    Finishes prefixes = lang.finished (suc k) level inner (Operand prefixes base) scopes [] (operand_behind prefixes, scopes)

    finished_is : (prefixes : List Prefix) → Finishes prefixes
    finished_is prefixes = record { front = []; back = []; value = ([], scopes); split = refl; begin = suffixes_are; rest = record { none = refl; same = refl } }

    prefixed_is : lang.prefixed (suc k) level inner scopes only (operand_behind [], scopes)
    unfolding lang.prefixed lang.links
    prefixed_is = record {
      front = only;
      back = [];
      value = (Operand [] base, scopes);
      split = refl;
      begin = ends k (lang.link (suc k) level inner) chain_start scopes scopes only (Operand [] base) (link_is chain_start);
      rest = finished_is [];
    }

    stops_at : (operand : Prefixed) (b : Bool) → lang.target_at (suc k) level inner [] operand b scopes [] (Done (begun_of [] operand), scopes)
    stops_at operand true = inr (record { none = refl; same = refl })
    stops_at operand false = record { none = refl; same = refl }

    target_is : lang.target (suc k) level inner [] scopes only (Done (begun_with Whole), scopes)
    unfolding lang.target
    target_is = record { front = only; back = []; value = (operand_behind [], scopes); split = refl; begin = prefixed_is; rest = stops_at (operand_behind []) (is_target (operand_behind [])) }

    rest_is : (begun : Begun) → lang.rest_of (suc k) level inner begun scopes [] (value_of begun, scopes)
    unfolding lang.rest_of lang.binary lang.all_operands lang.all_arms
    rest_is begun = record {
      front = [];
      back = [];
      value = (binary_of begun.first [], scopes);
      split = refl;
      begin = record { front = []; back = []; value = ([], scopes); split = refl; begin = stops (suc k) _ ([], scopes); rest = record { none = refl; same = refl } };
      rest = record {
        front = [];
        back = [];
        value = (arms_start (binary_of begun.first []), scopes);
        split = refl;
        begin = stops (suc k) _ (arms_start (binary_of begun.first []), scopes);
        rest = record { none = refl; same = refl };
      };
    }

    module _ (which : AssignForm) where
      first_found_is : lang.first_found (suc k) level inner which scopes only (Operand (before which) base, scopes)
      unfolding lang.first_found lang.links_behind
      first_found_is = record {
        front = only;
        back = [];
        value = (Done (Operand (before which) base), scopes);
        split = refl;
        begin = first_link_is which;
        rest = record { none = refl; same = refl };
      }

      first_prefixed_is : lang.first_prefixed (suc k) level inner which scopes only (operand_behind (before which), scopes)
      unfolding lang.first_prefixed
      first_prefixed_is = record { front = only; back = []; value = (Operand (before which) base, scopes); split = refl; begin = first_found_is; rest = finished_is (before which) }

      first_target_is : lang.first_target (suc k) level inner which scopes only (Done (begun_with which), scopes)
      unfolding lang.first_target
      first_target_is = record {
        front = only;
        back = [];
        value = (operand_behind (before which), scopes);
        split = refl;
        begin = first_prefixed_is;
        rest = stops_at (operand_behind (before which)) (is_target (operand_behind (before which)));
      }

      first_targets_is : lang.first_targets (suc k) level inner which scopes only (begun_with which, scopes)
      unfolding lang.first_targets lang.targets_behind
      first_targets_is = record { front = only; back = []; value = (Done (begun_with which), scopes); split = refl; begin = first_target_is; rest = record { none = refl; same = refl } }

      first_assign_is : lang.first_assign (suc k) level inner which scopes only (value_of (begun_with which), scopes)
      unfolding lang.first_assign
      first_assign_is = record { front = only; back = []; value = (begun_with which, scopes); split = refl; begin = first_targets_is; rest = rest_is (begun_with which) }

    -- A number, for each number of turns that is not zero.
    pub number_is : (which : AssignForm) → lang.formed (suc k) level inner which scopes only (value_of (begun_with which), scopes)
    unfolding lang.formed lang.whole lang.targets lang.constant_expr
    number_is Whole = record {
      front = only;
      back = [];
      value = (begun_with Whole, scopes);
      split = refl;
      begin = ends k (lang.target (suc k) level inner) [] scopes scopes only (begun_with Whole) target_is;
      rest = rest_is (begun_with Whole);
    }
    number_is Constant = record { front = only; back = []; value = (operand_behind [], scopes); split = refl; begin = prefixed_is; rest = rest_is (begun_with Constant) }
    number_is Unstarred = first_assign_is Unstarred
    number_is Bare = first_assign_is Bare
    number_is (Behind star) = first_assign_is (Behind star)
