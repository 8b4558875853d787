-- What a part of a tree has in the graph, as far as the parts around it want to know.
use Rattle.std.specs.Prelude.{ℕ, Bool, false, List, [], ◌++◌, Option, None}
use Rattle.layer_rules.specs.Records.{Members, no_members, Body}
use Rattle.layer_rules.specs.Terms.{NamedType, Term, Literal}
use Rattle.layer_rules.specs.Statements.{Declared}
use Rattle.layer_rules.specs.Functions.{Parameter}
use Rattle.layer_rules.specs.TypeTexts.{Spellings}

-- Of a declarator whose name is that of a function: the parameters that belong to the name, and the
-- declarator's spellings without that list.
pub record Signature : Type 0 where
  pub parameters : List Parameter
  pub text : Spellings

pub record Meaning : Type 0 where
  -- Of an expression and of an initialiser.
  pub term : Term
  -- Of a prefix, a suffix and a condition: what it makes of the term that it is applied to.
  pub onto : Term → Term
  -- Of a type name.
  pub type : Option NamedType
  -- Of a parameter.
  pub parameter : Option Parameter
  -- Of specifiers, a type name and a declaration: the first token.
  pub first : Option ℕ
  -- Of specifiers, and of the parts of a declarator: the spellings for a type text.
  pub text : Spellings
  -- Of specifiers: the records and enumerations with a body; whether `typedef` and `static` are
  -- among them; and whether they are `void` alone.
  pub bodies : List Body
  pub typedef : Bool
  pub static : Bool
  pub void : Bool
  -- Of a declarator: the name that it declares.
  pub name : Option ℕ
  -- Of a declarator: nothing is applied to the name yet (6.7.6).
  pub bare : Bool
  -- Of a suffix: the parameters of a parameter list.
  pub parameters : Option (List Parameter)
  -- Of a declarator: what is applied to the name first is a parameter list.
  pub function : Option Signature
  -- Of a declarator with its initialiser: the initialiser.
  pub init : Option Term
  -- Of a declaration in a record, and of an enumerator: what it has in the body.
  pub members : Members
  -- Of another declaration: what it has in a block, and the names that it declares with `static`.
  pub declared : List Declared
  pub statics : List ℕ

-- A part that has nothing.
abbrev pub nothing : Meaning
nothing = record {
  term = Literal [];
  onto = λ term. term;
  type = None;
  parameter = None;
  first = None;
  text = [];
  bodies = [];
  typedef = false;
  static = false;
  void = false;
  name = None;
  bare = false;
  parameters = None;
  function = None;
  init = None;
  members = no_members;
  declared = [];
  statics = [];
}

-- An expression.
abbrev pub meant : Term → Meaning
meant term = record nothing { term = term }

-- What is applied to a term.
abbrev pub applied : (Term → Term) → Meaning
applied onto = record nothing { onto = onto }
