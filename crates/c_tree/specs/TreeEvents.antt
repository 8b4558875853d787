-- What names a tree meets, in the order of the source (C11 6.2.1, 6.2.3, 6.7.8).
--
-- Each type has one step. Labels, tags and members have name spaces of their own (6.2.3): only the
-- ordinary identifiers are met. The kind and the bytes of each token are given.

use Rattle.std.specs.Prelude.{ℕ, zero, suc, ◌==◌, Bool, true, false, ◌&&◌, List, Option, Some}
use Rattle.std.specs.Prelude.{None, [], ◌∷◌, ◌++◌, if◌then◌else◌, IsSome}
use Rattle.std.specs.List.{flat_map, list_any}
use Rattle.c_lexer.specs.declared.token.Kind.{Kind}
use Rattle.c_lexer.specs.declared.token.Kind.TheVariants as k
use Rattle.c_lexer.specs.declared.keyword.TheConstants.{KEY_TYPEDEF}
use Rattle.c_tree.specs.declared.tree.Unit.{Unit}
use Rattle.c_tree.specs.declared.tree.Item.{Item}
use Rattle.c_tree.specs.declared.tree.Item.TheVariants as item
use Rattle.c_tree.specs.declared.tree.Declaration.{Declaration}
use Rattle.c_tree.specs.declared.tree.Declarator.{Declarator}
use Rattle.c_tree.specs.declared.tree.Expr.{Expr}
use Rattle.c_tree.specs.declared.tree.TypeName.{TypeName}
use Rattle.c_tree.specs.declared.tree.Block.{Block}
use Rattle.c_tree.specs.declared.tree.Stmt.{Stmt}
use Rattle.c_tree.specs.declared.tree.Mark.{Mark}
use Rattle.c_tree.specs.declared.tree.Mark.TheVariants as mark
use Rattle.c_tree.specs.declared.tree.ForInit.{ForInit}
use Rattle.c_tree.specs.declared.tree.ForInit.TheVariants as for_init
use Rattle.c_tree.specs.declared.tree.BaseForm.TheOpen as o
use Rattle.c_tree.specs.declared.tree.BlockItem.TheOpen as s
use Rattle.c_tree.specs.Folds.{Steps, StmtSteps, BaseFormLevel, CoreLevel, DeclarationLevel}
use Rattle.c_tree.specs.Folds.{DesignatorLevel, InitLevel, PostLevel, PrefixLevel, SpecLevel}
use Rattle.c_tree.specs.Folds.{SuffixLevel, DeclaratorLevel, InitDeclaratorLevel, ParamLevel}
use Rattle.c_tree.specs.Folds.{BlockItemLevel, StmtKindLevel}
use Rattle.c_tree.specs.Folds.{declaration_fold, declarator_fold, specs_fold, expr_fold}
use Rattle.c_tree.specs.Folds.{type_name_fold, block_fold, stmt_fold}
use Rattle.c_scopes.specs.Events.{Event}
use Rattle.c_scopes.specs.Events.{Opens, Closes, Declares, Uses}

abbrev pub Events : Type 0
Events = List Event

-- What is met in a function's declarator when it defines the function: up to the end of its own
-- parameter list, whose scope stays open, and from there on.
pub record Split : Type 0 where
  pub to_params : Events
  pub from_there : Events

-- What is met in a part of a tree, and what the parts around it want to know of it.
pub record Met : Type 0 where
  pub events : Events
  -- Of a declaration: what is met where it declares members.
  pub as_member : Events
  -- Of specifiers: whether `typedef` is among them.
  pub typedef : Bool
  -- Of a declarator: the name that it declares.
  pub name : Option ℕ
  -- Of a declarator: the name with which it begins, and that with which a group in it begins.
  pub first : Option ℕ
  pub group_first : Option ℕ
  -- Of a declarator: nothing is applied to the name yet (6.7.6).
  pub bare : Bool
  -- Of a declarator: the thing that is applied first is a parameter list. Of a suffix: it is one.
  pub function : Option Split
  -- Of a declarator with its initialiser: what is met behind its declarator.
  pub init : Events

-- A part of which only the events count.
abbrev pub met : Events → Met
met events = record {
  events = events;
  as_member = events;
  typedef = false;
  name = None;
  first = None;
  group_first = None;
  bare = false;
  function = None;
  init = [];
}

-- What is met in the parts, one after the other.
abbrev pub all_met : List Met → Events
all_met parts = flat_map (λ (part : Met). part.events) parts

abbrev pub some_met : Option Met → Events
some_met None = []
some_met (Some part) = part.events

-- What is met in a scope of its own.
abbrev pub scoped : Events → Events
scoped events = Opens ∷ events ++ Closes ∷ []

-- The first thing, where it is there, or else the second.
abbrev pub either : {A : Type 0} → Option A → Option A → Option A
either None second = second
either (Some first) second = Some first

abbrev pub is_typedef_key : Option Kind → Bool
is_typedef_key (Some (k.Key number)) = number == KEY_TYPEDEF
is_typedef_key kind = false

-- The declarations among the events that stand in no scope which begins with them.
abbrev pub declared_in : ℕ → Events → Events
declared_in inner [] = []
declared_in inner (Opens ∷ events) = declared_in (suc inner) events
declared_in zero (Closes ∷ events) = declared_in zero events
declared_in (suc inner) (Closes ∷ events) = declared_in inner events
declared_in zero (Declares name typedef ∷ events) =
    Declares name typedef ∷ declared_in zero events
declared_in (suc inner) (Declares name typedef ∷ events) = declared_in (suc inner) events
declared_in inner (Uses name typedef ∷ events) = declared_in inner events

module _ (kind_of : ℕ → Option Kind) (bytes_of : ℕ → List ℕ) where
  -- A declarator's name is declared, where it has one.
  abbrev pub declares : Option ℕ → Bool → Events
  declares None typedef = []
  declares (Some token) typedef = Declares (bytes_of token) typedef ∷ []

  -- A name is to be no typedef name, where it is there.
  abbrev pub is_no_typedef : Option ℕ → Events
  is_no_typedef None = []
  is_no_typedef (Some token) = Uses (bytes_of token) false ∷ []

  -- ---- Expressions

  abbrev pub base_form_met : BaseFormLevel Met → Met
  -- A name in an expression is no typedef name (6.5.1p2).
  base_form_met (o.BaseForm-F.BaseForm::Name token) = met (Uses (bytes_of token) false ∷ [])
  base_form_met (o.BaseForm-F.Literal tokens) = met []
  base_form_met (o.BaseForm-F.BaseForm::Group expr marks) = met expr.events
  base_form_met (o.BaseForm-F.Compound type_name items marks) =
      met (type_name.events ++ all_met items)
  base_form_met (o.BaseForm-F.SizeType key type_name marks) = met type_name.events

  abbrev pub post_met : PostLevel Met → Met
  post_met (o.Post-F.Post::Index expr marks) = met expr.events
  post_met (o.Post-F.Call arguments marks) = met (all_met arguments)
  post_met (o.Post-F.Dot token marks) = met []
  post_met (o.Post-F.Arrow token marks) = met []
  post_met (o.Post-F.Step token) = met []

  abbrev pub prefix_met : PrefixLevel Met → Met
  prefix_met (o.Prefix-F.Op token) = met []
  prefix_met (o.Prefix-F.Cast type_name marks) = met type_name.events

  -- ---- Specifiers

  abbrev pub spec_met : SpecLevel Met → Met
  spec_met (o.Spec-F.Storage token) =
      record (met []) { typedef = is_typedef_key (kind_of token) }
  spec_met (o.Spec-F.Function token) = met []
  spec_met (o.Spec-F.Qualifier token) = met []
  spec_met (o.Spec-F.Basic token) = met []
  -- A name among specifiers is a typedef name (6.7.8p3).
  spec_met (o.Spec-F.Named token) = met (Uses (bytes_of token) true ∷ [])
  spec_met (o.Spec-F.Atomic type_name marks) = met type_name.events
  spec_met (o.Spec-F.AlignType type_name marks) = met type_name.events
  spec_met (o.Spec-F.AlignExpr expr marks) = met expr.events
  -- A record is no scope: enumeration constants in it are declared around it (6.2.1p4).
  spec_met (o.Spec-F.Record key tag None marks) = met []
  spec_met (o.Spec-F.Record key tag (Some members) marks) =
      met (flat_map (λ (member : Met). member.as_member) members)
  spec_met (o.Spec-F.Enumeration key tag None marks) = met []
  spec_met (o.Spec-F.Enumeration key tag (Some enumerators) marks) = met (all_met enumerators)

  -- ---- Declarators

  abbrev pub core_met : CoreLevel Met → Met
  core_met (o.Core-F.Core::Name token) =
      record (met []) { name = Some token; first = Some token; bare = true }
  core_met (o.Core-F.Core::Group declarator marks) =
      record declarator {
        first = None;
        group_first = either declarator.first declarator.group_first;
      }
  core_met o.Core-F.Empty = met []

  abbrev pub suffix_met : SuffixLevel Met → Met
  suffix_met (o.Suffix-F.Array words size star marks) = met (some_met size)
  -- A prototype is a scope (6.2.1p4).
  suffix_met (o.Suffix-F.Params list dots marks) = record (met (scoped (all_met list))) {
    function = Some (record { to_params = Opens ∷ all_met list; from_there = [] });
  }

  -- More is met behind a parameter list that is a function's own.
  abbrev pub followed : Option Split → Events → Option Split
  followed None events = None
  followed (Some split) events =
      Some (record split { from_there = split.from_there ++ events })

  -- To a declarator's name are applied first the suffixes of its declarator, from left to right,
  -- and then the pointers; then those of the declarator around it (6.7.6).
  abbrev pub applied : Met → List Met → Events → Option Split
  applied core [] width = followed core.function width
  applied core (suffix ∷ suffixes) width =
      if core.bare then followed suffix.function (all_met suffixes ++ width)
      else followed core.function (all_met (suffix ∷ suffixes) ++ width)

  abbrev pub is_nil : {A : Type 0} → List A → Bool
  is_nil [] = true
  is_nil (a ∷ more) = false

  abbrev pub declarator_met : DeclaratorLevel Met → Met
  declarator_met level =
      let behind = all_met level.suffixes ++ some_met level.width in
      record (met (level.core.events ++ behind)) {
        name = level.core.name;
        first = if is_nil level.pointers then level.core.first else None;
        group_first = level.core.group_first;
        bare = level.core.bare && (is_nil level.suffixes && is_nil level.pointers);
        function = applied level.core level.suffixes (some_met level.width);
      }

  -- A parameter is declared after its declarator (6.2.1p7). Where a group of the declarator begins
  -- with a name, that is no typedef name: it would begin a parameter list (6.7.6.3p11).
  abbrev pub param_met : ParamLevel Met → Met
  param_met level = met (level.specs.events ++ (is_no_typedef level.declarator.group_first ++
      (level.declarator.events ++ declares level.declarator.name false)))

  -- ---- Initialisers

  abbrev pub init_met : InitLevel Met → Met
  init_met (o.Init-F.Value expr) = met expr.events
  init_met (o.Init-F.Items items marks) = met (all_met items)

  abbrev pub designator_met : DesignatorLevel Met → Met
  designator_met (o.Designator-F.Designator::Index expr marks) = met expr.events
  designator_met (o.Designator-F.Field token marks) = met []

  -- ---- Declarations

  abbrev pub init_declarator_met : InitDeclaratorLevel Met → Met
  init_declarator_met level = record level.declarator { init = some_met level.init }

  -- A name is declared after its declarator, and before its initialiser (6.2.1p7).
  abbrev pub named : Bool → Met → Events
  named typedef declared = declared.events ++ (declares declared.name typedef ++ declared.init)

  abbrev pub declaration_met : DeclarationLevel Met → Met
  -- A member is no ordinary identifier (6.2.3).
  declaration_met (o.Declaration-F.Names specs list marks) =
      record (met (specs.events ++ flat_map (named specs.typedef) list)) {
        as_member = specs.events ++ all_met list;
      }
  declaration_met (o.Declaration-F.Assert cond text marks) = met cond.events

  abbrev pub tree_steps : Steps Met
  tree_steps = record {
    base_form = base_form_met;
    core = core_met;
    declaration = declaration_met;
    designator = designator_met;
    init = init_met;
    post = post_met;
    prefix = prefix_met;
    spec = spec_met;
    suffix = suffix_met;
    arm = λ level. met (level.test.events ++ level.then.events);
    assign = λ level. met
        (flat_map (λ (t : Met × ℕ). t.0.events) level.targets ++ level.value.events);
    base = λ level. met (level.form.events ++ all_met level.suffixes);
    binary = λ level. met (level.first.events ++ flat_map (λ (r : ℕ × Met). r.1.events) level.rest);
    cond = λ level. met (all_met level.arms ++ level.last.events);
    declarator = declarator_met;
    -- An enumeration constant is declared after its enumerator (6.2.1p7).
    enumerator = λ level. met (some_met level.value ++ declares (Some level.name) false);
    expr = λ level. met (all_met level.parts);
    init_declarator = init_declarator_met;
    init_item = λ level. met (all_met level.designators ++ level.init.events);
    param = param_met;
    prefixed = λ level. met (all_met level.prefixes ++ level.base.events);
    specs = λ level. record (met (all_met level.words)) {
      typedef = list_any (λ (word : Met). word.typedef) level.words;
    };
    type_name = λ level. met (level.specs.events ++ level.declarator.events);
  }

  -- What is met in an expression, a type name and a declaration.
  unfoldable pub expr_events : Expr → Events
  expr_events expr = (expr_fold tree_steps expr).events

  unfoldable pub type_name_events : TypeName → Events
  type_name_events type_name = (type_name_fold tree_steps type_name).events

  unfoldable pub declaration_events : Declaration → Events
  declaration_events declaration = (declaration_fold tree_steps declaration).events

  -- ---- Statements

  abbrev pub some_events : Option Expr → Events
  some_events None = []
  some_events (Some expr) = expr_events expr

  abbrev pub label_events : Mark → Events
  label_events (mark.Label token marks) = []
  label_events (mark.Case expr marks) = expr_events expr
  label_events (mark.Default token marks) = []

  abbrev pub for_init_events : ForInit → Events
  for_init_events (for_init.Nothing marks) = []
  for_init_events (for_init.Value expr marks) = expr_events expr
  for_init_events (for_init.Declare declaration) = declaration_events declaration

  -- A selection statement is a scope, and each of its substatements is one in it (6.8.4p3). What
  -- stands after `else` is such a substatement, a further `if` too.
  abbrev pub if_events : List (Expr × Events) → Option Events → Events
  if_events [] None = []
  if_events [] (Some other) = scoped other
  if_events (arm ∷ arms) other =
      scoped (expr_events arm.0 ++ (scoped arm.1 ++ if_events arms other))

  abbrev pub stmt_kind_met : StmtKindLevel Events → Events
  stmt_kind_met (s.StmtKind-F.Empty marks) = []
  stmt_kind_met (s.StmtKind-F.Value expr marks) = expr_events expr
  stmt_kind_met (s.StmtKind-F.Braced block) = block
  stmt_kind_met (s.StmtKind-F.If arms other marks) = if_events arms other
  -- An iteration statement is a scope, and its body is one in it (6.8.5p5).
  stmt_kind_met (s.StmtKind-F.While expr body marks) = scoped (expr_events expr ++ scoped body)
  stmt_kind_met (s.StmtKind-F.DoWhile body expr marks) = scoped (scoped body ++ expr_events expr)
  stmt_kind_met (s.StmtKind-F.For init cond step body marks) =
      scoped (for_init_events init ++ (some_events cond ++ (some_events step ++ scoped body)))
  stmt_kind_met (s.StmtKind-F.Switch expr body marks) = scoped (expr_events expr ++ scoped body)
  stmt_kind_met (s.StmtKind-F.Break marks) = []
  stmt_kind_met (s.StmtKind-F.Continue marks) = []
  stmt_kind_met (s.StmtKind-F.Goto token marks) = []
  stmt_kind_met (s.StmtKind-F.Return expr marks) = some_events expr

  abbrev pub block_item_met : BlockItemLevel Events → Events
  block_item_met (s.BlockItem-F.Declare declaration) = declaration_events declaration
  block_item_met (s.BlockItem-F.Do stmt) = stmt

  abbrev pub statement_steps : StmtSteps Events
  statement_steps = record {
    block_item = block_item_met;
    stmt_kind = stmt_kind_met;
    -- A compound statement is a scope (6.8.2p2).
    block = λ level. scoped (flat_map (λ item. item) level.items);
    stmt = λ level. flat_map label_events level.labels ++ level.kind;
  }

  -- What is met in a statement, and in a compound one.
  unfoldable pub stmt_events : Stmt → Events
  stmt_events = stmt_fold statement_steps

  unfoldable pub block_events : Block → Events
  block_events = block_fold statement_steps

  -- ---- Units

  -- A function definition: its own parameters, and the enumeration constants in their list, last to
  -- the end of its body (6.2.1p4). The function's name and what else the declarator declares behind
  -- the list last to the end of the file: they are declared for the body, and again after it.
  abbrev pub definition_events : Met → Met → Events → Events
  definition_events specs declarator body =
      definition_of specs declarator.function declarator.name body
    where
      definition_of : Met → Option Split → Option ℕ → Events → Events
      definition_of specs None name body = specs.events ++ body
      definition_of specs (Some split) name body =
          specs.events ++ (split.to_params ++ (split.from_there ++ (declares name false ++
          (body ++ Closes ∷ (declared_in 0 split.from_there ++ declares name false)))))

  abbrev pub item_events : Item → Events
  item_events (item.Define specs declarator body) =
      definition_events (specs_fold tree_steps specs) (declarator_fold tree_steps declarator)
      (block_events body)
  item_events (item.Declare declaration) = declaration_events declaration

  -- What is met in a file.
  unfoldable pub unit_events : Unit → Events
  unit_events unit = flat_map item_events unit.items

  -- The first thing that is applied to the declarator's name is a parameter list (6.9.1p2).
  abbrev pub DeclaresFunction : Declarator → Type 0
  DeclaresFunction declarator = IsSome (declarator_fold tree_steps declarator).function
