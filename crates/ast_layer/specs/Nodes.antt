-- The nodes of the syntax layer, with all their properties (Code Property Graph specification 1.1,
-- layer AST).
use Rattle.std.specs.Prelude.{ℕ, Option, Some, codes, take, slice_get}
use Rattle.cpg_schema.specs.declared.label.Label.TheVariants as label
use Rattle.cpg_schema.specs.Graph.{PlainNode, bare_node}
use Rattle.c_tree.specs.declared.tree.Prefixed.{Prefixed}
use Rattle.c_tree.specs.declared.tree.BaseForm.{BaseForm, out-BaseForm}
use Rattle.c_tree.specs.declared.tree.BaseForm.TheOpen as o
use Rattle.c_tree.specs.Folds.{OpenBaseForm}
use Rattle.graph_forest.specs.declared.rank.Rank.{Rank}
use Rattle.graph_forest.specs.Ranks.{argument_index}
use Rattle.ast_layer.specs.Source.{File, token_of, presumed_line_at, presumed_file_at, spelling_at}
use Rattle.ast_layer.specs.Operators.{operator_name}

-- The longest type text, in bytes.
abbrev pub type_text_limit : ℕ
type_text_limit = 200

-- The METHOD `<global>` of a file, which holds what the file declares. Its line is 1, as that of
-- its BLOCK and METHOD_RETURN.
abbrev pub global_method : File → PlainNode
global_method file = record (bare_node label.Method) {
  name = Some (codes "<global>");
  filename = Some file.name;
  line_number = Some 1;
  order = Some 1;
}

-- The BLOCK of `<global>`.
abbrev pub global_block : PlainNode
global_block = record (bare_node label.Block) { line_number = Some 1; order = Some 1 }

-- The METHOD_RETURN of `<global>`.
abbrev pub global_return : PlainNode
global_return = record (bare_node label.MethodReturn) {
  line_number = Some 1;
  order = Some 2;
  type_full_name = Some (codes "void");
}

-- The METHOD of a function with this name. Its file is that in which the name is presumed to stand.
abbrev pub method_node : File → Option ℕ → ℕ → PlainNode
method_node file name order = record (bare_node label.Method) {
  name = Some (spelling_at file name);
  filename = Some (presumed_file_at file name);
  line_number = Some (presumed_line_at file name);
  order = Some order;
}

-- The BLOCK of a body whose `{` this is.
abbrev pub block_node : File → Option ℕ → PlainNode
block_node file brace = record (bare_node label.Block) {
  line_number = Some (presumed_line_at file brace);
  order = Some 1;
}

-- The METHOD_RETURN of the function with this name and this type specifier.
abbrev pub return_node : File → Option ℕ → Option ℕ → PlainNode
return_node file name specifier = record (bare_node label.MethodReturn) {
  line_number = Some (presumed_line_at file name);
  order = Some 2;
  type_full_name = Some (take type_text_limit (spelling_at file specifier));
}

-- The CALL of an operator. Its line is that of the first token of its construct.
abbrev pub call_node : File → ℕ → Option ℕ → Rank → PlainNode
call_node file operator first rank = record (bare_node label.Call) {
  name = operator_name (token_of file (Some operator));
  line_number = Some (presumed_line_at file first);
  order = Some rank.order;
  argument_index = argument_index rank;
}

-- The IDENTIFIER of a name.
abbrev pub identifier_node : File → ℕ → Rank → PlainNode
identifier_node file token rank = record (bare_node label.Identifier) {
  name = Some (spelling_at file (Some token));
  line_number = Some (presumed_line_at file (Some token));
  order = Some rank.order;
  argument_index = argument_index rank;
}

-- The LITERAL of a literal's first token.
abbrev pub literal_node : File → Option ℕ → Rank → PlainNode
literal_node file token rank = record (bare_node label.Literal) {
  code = Some (spelling_at file token);
  line_number = Some (presumed_line_at file token);
  order = Some rank.order;
  argument_index = argument_index rank;
}

-- The IDENTIFIER of a name, or the LITERAL of a literal. Ours: this version's trees have no other
-- form, and one would count as a literal of its first token.
abbrev pub open_node : File → OpenBaseForm → Rank → PlainNode
open_node file (o.BaseForm-F.BaseForm::Name token) rank = identifier_node file token rank
open_node file (o.BaseForm-F.Literal tokens) rank = literal_node file (slice_get tokens 0) rank
open_node file (o.BaseForm-F.BaseForm::Group expr marks) rank =
    literal_node file (slice_get marks 0) rank
open_node file (o.BaseForm-F.Compound type_name list marks) rank =
    literal_node file (slice_get marks 0) rank
open_node file (o.BaseForm-F.SizeType size type_name marks) rank =
    literal_node file (Some size) rank

-- The same, of a form as it stands in a tree.
abbrev pub form_node : File → BaseForm → Rank → PlainNode
form_node file form rank = open_node file (out-BaseForm form) rank

-- The node of an operand.
abbrev pub operand_node : File → Prefixed → Rank → PlainNode
operand_node file operand rank = form_node file operand.base.form rank
