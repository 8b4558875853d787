-- What the names of a graph add (ours): a REF from each that means a declaration to it.
use Rattle.std.specs.Prelude.{ℕ, Bool, List, [], ◌∷◌, Option, Some, None, flat_map, length}
use Rattle.std.specs.Prelude.{if◌then◌else◌, slice_index}
use Rattle.cpg_schema.specs.declared.label.Label.{Label}
use Rattle.cpg_schema.specs.declared.label.Label.TheVariants.{File}
use Rattle.cpg_schema.specs.declared.edge_kind.EdgeKind.TheVariants.{Ref}
use Rattle.cpg_schema.specs.declared.end.End.TheVariants.{Old}
use Rattle.cpg_schema.specs.Graph.{PlainGraph}
use Rattle.cpg_schema.specs.Deltas.{NewEdge, PlainDelta}
use Rattle.cpg_schema.specs.Schema.{allows}
use Rattle.unit_rules.specs.Units.{all_nodes, label_at, labelled, members}
use Rattle.unit_rules.specs.UnitEdges.{edge_between}
use Rattle.ref_rules.specs.Meanings.{meant_at}

-- The schema lets a REF join nodes of these labels. A name that is called has none to a function.
abbrev pub may_refer : Option Label → Option Label → Bool
may_refer (Some from) (Some to) = allows Ref from to
may_refer _ _ = Bool.false

-- The REF of a node to the declaration that it means.
abbrev pub edges_to : PlainGraph → ℕ → Option ℕ → List NewEdge
edges_to graph node None = []
edges_to graph node (Some declaration) =
    if may_refer (label_at graph node) (label_at graph declaration)
    then edge_between (Old node) Ref (Old declaration) ∷ [] else []

abbrev pub ref_edges : PlainGraph → ℕ → List NewEdge
ref_edges graph node = edges_to graph node (meant_at graph node)

-- The files, rising: each FILE is one.
abbrev pub files : PlainGraph → List ℕ
files graph = labelled graph File (all_nodes graph)

-- A file adds the REFs of its nodes.
abbrev pub file_delta : PlainGraph → ℕ → PlainDelta
file_delta graph file = record {
  nodes = [];
  edges = flat_map (ref_edges graph) (members graph file);
  settings = [];
}

-- There is a part for each file.
abbrev pub ref_parts : PlainGraph → ℕ
ref_parts graph = length (files graph)

abbrev pub part_delta : PlainGraph → ℕ → PlainDelta
part_delta graph part = file_delta graph (slice_index (files graph) part)
