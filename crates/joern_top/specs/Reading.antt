-- What is held of a source that was read and of its graph, and how a source is refused.
use Rattle.std.specs.Prelude.{ℕ, ◌≡◌, List, Some, Ok}
use Rattle.c_lexer.specs.Lines.{line_at, column_at}
use Rattle.graph_store.specs.Stored.{plain, plain_edge}
use Rattle.edge_index.specs.Indexed.{AreInOrder}
use Rattle.graph_forest.specs.Forest.{Forest}
use Rattle.ast_layer.specs.declared.source.Source.{Source}
use Rattle.ast_layer.specs.Parts.{source_forest}
use Rattle.joern_top.specs.declared.graph.BuiltGraph.{BuiltGraph}
use Rattle.joern_top.specs.declared.refusal.Refusal.{Refusal}
use Rattle.joern_top.specs.declared.source.SourceStop.{SourceStop}
use Rattle.joern_top.specs.declared.source.SourceStop.TheVariants.{Refused, Memory}
use Rattle.joern_top.specs.Source.{Parts, IsReadAs, forest_of}
use Rattle.joern_top.specs.Graph.{built_alone}
use Rattle.joern_top.specs.Refusals.{IsRefusedAt}

-- ---- A source that was read

-- What is held is the source of this name with these bytes: its forest is that of the parts that it
-- is read as.
pub record IsReadSource (name bytes : List ℕ) (source : Source) : Type 0 where
  pub parts : Parts
  pub is : IsReadAs name bytes parts
  pub forest : source_forest (Some source) ≡ forest_of name bytes parts

-- What stands beside the graph are its edges, in the order of printing.
abbrev pub HasEdgesInOrder : BuiltGraph → Type 0
HasEdgesInOrder built =
    AreInOrder (plain_edge built.graph.names) built.graph.edges built.edges.items

-- It is the graph of a source with this forest, with its edges in order.
pub record IsBuiltFrom (forest : Forest) (built : BuiltGraph) : Type 0 where
  pub is : built_alone forest ≡ Ok (plain built.graph)
  pub ordered : HasEdgesInOrder built

-- ---- A source that is refused

-- The text is refused at that byte for that reason, and the line and the column are those of the
-- byte.
pub record IsRefusal (bytes : List ℕ) (refusal : Refusal) : Type 0 where
  pub refused : IsRefusedAt bytes refusal.at refusal.reason
  pub line : refusal.line ≡ line_at bytes refusal.at
  pub column : refusal.column ≡ column_at bytes refusal.at

-- The stop is a refusal of the text, or memory is wanting.
abbrev pub IsStopOf : List ℕ → SourceStop → Type 0
IsStopOf bytes (Refused refusal) = IsRefusal bytes refusal
IsStopOf bytes Memory = Unit {0}
