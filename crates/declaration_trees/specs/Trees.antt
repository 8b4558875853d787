-- What is said of the tokens of a text by the parts of declarations.

use Rattle.std.specs.Prelude.{ℕ, List, Option}
use Rattle.c_lexer.specs.declared.token.Kind.{Kind}
use Rattle.c_tree.specs.declared.tree.Specs.{Specs}
use Rattle.c_tree.specs.declared.tree.Enumerator.{Enumerator}
use Rattle.c_tree.specs.declared.tree.Declarator.{Declarator}
use Rattle.c_tree.specs.declared.tree.Core.{Core}
use Rattle.c_tree.specs.declared.tree.Suffix.{Suffix}
use Rattle.c_tree.specs.declared.tree.Param.{Param}
use Rattle.c_tree.specs.declared.tree.Init.{Init}
use Rattle.c_tree.specs.declared.tree.Designator.{Designator}
use Rattle.c_tree.specs.declared.tree.InitDeclarator.{InitDeclarator}
use Rattle.c_tree.specs.declared.tree.Declaration.{Declaration}
use Rattle.c_tree.specs.Folds.{specs_fold, enumerator_fold, declarator_fold, core_fold, suffix_fold}
use Rattle.c_tree.specs.Folds.{param_fold, init_fold, designator_fold, init_declarator_fold}
use Rattle.c_tree.specs.Folds.{declaration_fold}
use Rattle.c_tree.specs.Spell.{specs_spelling, enumerator_spelling, declarator_spelling}
use Rattle.c_tree.specs.Spell.{core_spelling, suffix_spelling, param_spelling, init_spelling}
use Rattle.c_tree.specs.Spell.{designator_spelling, init_declarator_spelling}
use Rattle.c_tree.specs.Spell.{declaration_spelling}
use Rattle.expression_trees.specs.Saying.{Said}
use Rattle.expression_trees.specs.Trees.{steps_of}

module _ (kind_of : ℕ → Option Kind) (bytes_of : ℕ → List ℕ) where
  abbrev pub of_specs : Specs → Said
  of_specs x = record {
    symbols = specs_spelling x;
    events = (specs_fold (steps_of kind_of bytes_of) x).events;
  }

  abbrev pub of_enumerator : Enumerator → Said
  of_enumerator x = record {
    symbols = enumerator_spelling x;
    events = (enumerator_fold (steps_of kind_of bytes_of) x).events;
  }

  abbrev pub of_declarator : Declarator → Said
  of_declarator x = record {
    symbols = declarator_spelling x;
    events = (declarator_fold (steps_of kind_of bytes_of) x).events;
  }

  abbrev pub of_core : Core → Said
  of_core x = record {
    symbols = core_spelling x;
    events = (core_fold (steps_of kind_of bytes_of) x).events;
  }

  abbrev pub of_suffix : Suffix → Said
  of_suffix x = record {
    symbols = suffix_spelling x;
    events = (suffix_fold (steps_of kind_of bytes_of) x).events;
  }

  abbrev pub of_param : Param → Said
  of_param x = record {
    symbols = param_spelling x;
    events = (param_fold (steps_of kind_of bytes_of) x).events;
  }

  abbrev pub of_init : Init → Said
  of_init x = record {
    symbols = init_spelling x;
    events = (init_fold (steps_of kind_of bytes_of) x).events;
  }

  abbrev pub of_designator : Designator → Said
  of_designator x = record {
    symbols = designator_spelling x;
    events = (designator_fold (steps_of kind_of bytes_of) x).events;
  }

  abbrev pub of_init_declarator : InitDeclarator → Said
  of_init_declarator x = record {
    symbols = init_declarator_spelling x;
    events = (init_declarator_fold (steps_of kind_of bytes_of) x).events;
  }

  abbrev pub of_declaration : Declaration → Said
  of_declaration x = record {
    symbols = declaration_spelling x;
    events = (declaration_fold (steps_of kind_of bytes_of) x).events;
  }

  -- A declaration of members: these are no ordinary identifiers (6.2.3).
  abbrev pub of_member : Declaration → Said
  of_member x = record {
    symbols = declaration_spelling x;
    events = (declaration_fold (steps_of kind_of bytes_of) x).as_member;
  }
