-- The nodes of the syntax layer, with all their properties (Code Property Graph specification 1.1,
-- layer AST). Ours: a token that is not there has no bytes, the line 0 and a file without a name.
use Rattle.std.specs.Prelude.{ℕ, ◌+◌, Bool, true, false, List, [], ◌∷◌, ◌++◌, Option, Some, None}
use Rattle.std.specs.Prelude.{codes, take, slice_get}
use Rattle.cpg_schema.specs.declared.label.Label.{Label}
use Rattle.cpg_schema.specs.declared.label.Label.TheVariants as label
use Rattle.cpg_schema.specs.Graph.{PlainNode, bare_node}
use Rattle.graph_forest.specs.declared.rank.Rank.{Rank}
use Rattle.graph_forest.specs.Ranks.{child, argument_index}
use Rattle.layer_rules.specs.Files.{File, presumed_line_at, presumed_file_at, spelling_at}
use Rattle.layer_rules.specs.Files.{spellings_of}

-- ---- Texts

-- Texts, each behind a blank.
abbrev pub behind_blanks : List (List ℕ) → List ℕ
behind_blanks [] = []
behind_blanks (text ∷ texts) = codes " " ++ (text ++ behind_blanks texts)

-- Texts with one blank between two of them.
abbrev pub with_blanks : List (List ℕ) → List ℕ
with_blanks [] = []
with_blanks (text ∷ texts) = text ++ behind_blanks texts

-- The longest type text, in bytes.
abbrev pub type_text_limit : ℕ
type_text_limit = 200

-- A type text is cut there.
abbrev pub type_text : List (List ℕ) → List ℕ
type_text spellings = take type_text_limit (with_blanks spellings)

-- ---- What all nodes have

-- A node with the line of this token.
abbrev pub node_at : File → Label → Option ℕ → Rank → PlainNode
node_at file label token rank = record (bare_node label) {
  line_number = Some (presumed_line_at file token);
  order = Some rank.order;
  argument_index = argument_index rank;
}

-- It has the spelling of this token as its NAME too.
abbrev pub named_node : File → Label → Option ℕ → Rank → PlainNode
named_node file label token rank =
    record (node_at file label token rank) { name = Some (spelling_at file token) }

-- And the file in which the token is presumed to stand.
abbrev pub placed_node : File → Label → Option ℕ → Rank → PlainNode
placed_node file label token rank =
    record (named_node file label token rank) { filename = Some (presumed_file_at file token) }

-- And a type text.
abbrev pub typed : List ℕ → PlainNode → PlainNode
typed text node = record node { type_full_name = Some text }

-- ---- Files and functions

-- The METHOD `<global>` of a file, which holds what the file declares. Its line is 1, as that of
-- its BLOCK and METHOD_RETURN.
abbrev pub global_method : File → PlainNode
global_method file = record (bare_node label.Method) {
  name = Some (codes "<global>");
  filename = Some file.name;
  line_number = Some 1;
  order = Some 1;
}

-- The BLOCK of `<global>`.
abbrev pub global_block : PlainNode
global_block = record (bare_node label.Block) { line_number = Some 1; order = Some 1 }

-- The METHOD_RETURN of `<global>`.
abbrev pub global_return : PlainNode
global_return = record (bare_node label.MethodReturn) {
  line_number = Some 1;
  order = Some 2;
  type_full_name = Some (codes "void");
}

-- What internal linkage is called (6.2.2 p3).
abbrev pub linkage_of : Bool → Option (List ℕ)
linkage_of true = Some (codes "internal")
linkage_of false = None

-- The METHOD of a function with this name.
abbrev pub method_node : File → Option ℕ → Bool → ℕ → PlainNode
method_node file name internal order =
    record (placed_node file label.Method name (child order)) { linkage = linkage_of internal }

-- The METHOD_RETURN of the function with this name.
abbrev pub return_node : File → Option ℕ → List ℕ → ℕ → PlainNode
return_node file name text order =
    typed text (node_at file label.MethodReturn name (child order))

-- The name of a parameter.
abbrev pub parameter_name : File → Option ℕ → List ℕ
parameter_name file None = codes "<param>"
parameter_name file (Some token) = spelling_at file (Some token)

-- The first of two tokens that is there.
abbrev pub or_else : Option ℕ → Option ℕ → Option ℕ
or_else None second = second
or_else (Some token) second = Some token

-- The METHOD_PARAMETER_IN of a parameter. Without a name its line is that of its first token.
abbrev pub parameter_node : File → Option ℕ → Option ℕ → List ℕ → ℕ → PlainNode
parameter_node file name first text order =
    typed text (record (node_at file label.MethodParameterIn (or_else name first) (child order)) {
      name = Some (parameter_name file name);
    })

-- ---- Declarations

-- The TYPE_DECL of a typedef.
abbrev pub typedef_node : File → Option ℕ → List ℕ → ℕ → PlainNode
typedef_node file name text order =
    typed text (placed_node file label.TypeDecl name (child order))

-- The METHOD_REF of a function that is declared.
abbrev pub reference_node : File → Option ℕ → ℕ → PlainNode
reference_node file name order = placed_node file label.MethodRef name (child order)

-- The LOCAL of an object.
abbrev pub local_node : File → Option ℕ → List ℕ → ℕ → PlainNode
local_node file name text order = typed text (named_node file label.Local name (child order))

-- The tag of a record or an enumeration.
abbrev pub tag_text : File → Option ℕ → List ℕ
tag_text file None = codes "<anon>"
tag_text file (Some tag) = spelling_at file (Some tag)

-- A record or an enumeration as its keyword and its tag.
abbrev pub tagged : File → ℕ → Option ℕ → List (List ℕ)
tagged file key tag = spelling_at file (Some key) ∷ tag_text file tag ∷ []

-- The TYPE_DECL of a record or an enumeration with a body. Its line and file are those of its
-- keyword.
abbrev pub body_node : File → ℕ → Option ℕ → ℕ → PlainNode
body_node file key tag order =
    record (placed_node file label.TypeDecl (Some key) (child order)) {
      name = Some (with_blanks (tagged file key tag));
    }

-- The MEMBER of a record, which has a type text, or the enumerator of an enumeration.
abbrev pub member_node : File → Option ℕ → Option (List ℕ) → ℕ → PlainNode
member_node file name text order =
    record (named_node file label.Member name (child order)) { type_full_name = text }

-- ---- Expressions

-- The IDENTIFIER of a name.
abbrev pub identifier_node : File → ℕ → Rank → PlainNode
identifier_node file token rank = named_node file label.Identifier (Some token) rank

-- The LITERAL of a constant or of string literals that are one (6.4.5 p5).
abbrev pub literal_node : File → List ℕ → Rank → PlainNode
literal_node file tokens rank = record (node_at file label.Literal (slice_get tokens 0) rank) {
  code = Some (with_blanks (spellings_of file tokens));
}

-- The FIELD_IDENTIFIER of a member's name, which is argument 2.
abbrev pub field_node : File → ℕ → Rank → PlainNode
field_node file token rank = named_node file label.FieldIdentifier (Some token) rank

-- The TYPE_REF of a type name.
abbrev pub type_node : File → Option ℕ → List ℕ → Rank → PlainNode
type_node file first text rank = typed text (node_at file label.TypeRef first rank)

-- The CALL of an operator or a function. Its line is that of the first token of its construct.
abbrev pub call_node : File → Option (List ℕ) → Option ℕ → Rank → PlainNode
call_node file name first rank = record (node_at file label.Call first rank) { name = name }

-- ---- Statements

-- The BLOCK that begins with this token.
abbrev pub block_node : File → Option ℕ → Rank → PlainNode
block_node file first rank = node_at file label.Block first rank

-- The CONTROL_STRUCTURE of this type.
abbrev pub control_node : File → List ℕ → Option ℕ → Rank → PlainNode
control_node file type token rank = record (node_at file label.ControlStructure token rank) {
  control_structure_type = Some type;
}

-- That of a `goto`, which has the label as its NAME.
abbrev pub goto_node : File → Option ℕ → ℕ → Rank → PlainNode
goto_node file token target rank = record (control_node file (codes "GOTO") token rank) {
  name = Some (spelling_at file (Some target));
}

-- The JUMP_TARGET of a label, which has the label's name, `case` or `default` as its NAME.
abbrev pub target_node : File → Option ℕ → Rank → PlainNode
target_node file token rank = named_node file label.JumpTarget token rank

-- The RETURN of a `return`.
abbrev pub leave_node : File → Option ℕ → Rank → PlainNode
leave_node file token rank = node_at file label.Return token rank
