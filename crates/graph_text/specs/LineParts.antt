-- The parts of a printed line.
use Rattle.std.specs.Prelude.{ℕ, List, ◌++◌, codes, decimal, flat_map}
use Rattle.cpg_schema.specs.Values.{escaped}
use Rattle.graph_text.specs.declared.line.LinePart.{LinePart}
use Rattle.graph_text.specs.declared.line.LinePart.TheVariants.{Verbatim, Value, Number}

-- A part, as it is printed.
abbrev pub part_text : LinePart → List ℕ
part_text (Verbatim text) = text.now
part_text (Value bytes) = escaped bytes.now
part_text (Number n) = decimal n

-- A line of these parts.
abbrev pub line_text : List LinePart → List ℕ
line_text parts = flat_map part_text parts ++ codes "\n"
