-- The run (ours): what the words and the held files give, as a status and the bytes that are
-- written. The cases come in the order of refusals, and the first that holds decides.
use Rattle.std.specs.Prelude.{ℕ, ◌≡◌, ◌<◌, ◌≤◌, ◌⊎◌, List, Option, Some, None, Result, Ok, Err}
use Rattle.std.specs.Prelude.{length}
use Rattle.joern_io.specs.Held.{Held, file_of}
use Rattle.c_lexer.specs.declared.source_text.TheConstants.{MAX_FILE_BYTES}
use Rattle.c_lexer.specs.Lines.{line_at, column_at}
use Rattle.cpg_schema.specs.Graph.{PlainGraph}
use Rattle.cpg_schema.specs.Lines.{graph_lines}
use Rattle.cpg_schema.specs.Sequence.{Cap}
use Rattle.joern_top.specs.declared.status.Status.{Status}
use Rattle.joern_top.specs.declared.status.Status.TheVariants as status
use Rattle.joern_top.specs.declared.status.Reason.{Reason}
use Rattle.joern_top.specs.declared.status.What.{What}
use Rattle.joern_top.specs.declared.status.What.TheVariants as what
use Rattle.joern_top.specs.Words.{Command, Dump, command}
use Rattle.joern_top.specs.Source.{Parts, IsReadAs, forest_of}
use Rattle.joern_top.specs.Graph.{built_alone}
use Rattle.joern_top.specs.Refusals.{IsRefusedAt}
use Rattle.joern_top.specs.Messages.{usage_line, read_fault_line, refused_line, limit_line}

-- How a run ends, and all bytes that it writes.
pub record Outcome : Type 0 where
  pub status : Status
  pub bytes : List ℕ

-- An outcome, of its parts.
abbrev pub outcome : Status → List ℕ → Outcome
outcome status bytes = record { status = status; bytes = bytes }

-- The words give no command.
abbrev pub usage_outcome : Outcome
usage_outcome = outcome status.Usage usage_line

-- The first file, of this name, is not held.
abbrev pub read_fault_outcome : List ℕ → Outcome
read_fault_outcome name = outcome (status.ReadFault 0) (read_fault_line name)

-- There is too much of something, at this number.
abbrev pub limit_outcome : What → ℕ → Outcome
limit_outcome quantity at = outcome (status.Limit quantity at) (limit_line quantity at)

-- The first file has too many bytes.
abbrev pub large_file_outcome : Outcome
large_file_outcome = limit_outcome what.FileBytes 0

-- The first source, of this name, is refused at the byte with this offset. Its line and its column
-- are those of the text as it stands.
abbrev pub refused_outcome : List ℕ → List ℕ → ℕ → Reason → Outcome
refused_outcome name bytes at why =
    outcome (status.SourceRefused 0 at why)
    (refused_line name (line_at bytes at) (column_at bytes at) why)

-- The lines of a graph.
abbrev pub graph_outcome : PlainGraph → Outcome
graph_outcome graph = outcome status.Ok (graph_lines graph)

-- What there is too much of where a graph would pass a cap.
abbrev pub capped : Cap → What
capped Cap.nodes = what.Nodes
capped Cap.edges = what.Edges

-- The graph that was built is printed, or the first pass would have passed a cap. Passes are
-- numbered from 1.
abbrev pub built_outcome : Result PlainGraph Cap → Outcome
built_outcome (Ok graph) = graph_outcome graph
built_outcome (Err cap) = limit_outcome (capped cap) 1

-- The outcome for a source of this name with these bytes: it is refused, or it is read, and its
-- graph is built.
pub data IsSourceOutcome (name bytes : List ℕ) : Outcome → Type 0 where
  refused : (at : ℕ) (why : Reason) → IsRefusedAt bytes at why →
      IsSourceOutcome name bytes (refused_outcome name bytes at why)
  read : (parts : Parts) → IsReadAs name bytes parts →
      IsSourceOutcome name bytes (built_outcome (built_alone (forest_of name bytes parts)))

-- The outcome for the file of this name, which has these bytes if it is held.
abbrev pub IsFileOutcome : List ℕ → Option (List ℕ) → Outcome → Type 0
IsFileOutcome name None o = o ≡ read_fault_outcome name
IsFileOutcome name (Some bytes) o =
    ((MAX_FILE_BYTES < length bytes) × (o ≡ large_file_outcome))
    ⊎ ((length bytes ≤ MAX_FILE_BYTES) × IsSourceOutcome name bytes o)

-- The outcome of a command.
abbrev pub IsCommandOutcome : Option Command → Held → Outcome → Type 0
IsCommandOutcome None held o = o ≡ usage_outcome
IsCommandOutcome (Some (Dump name)) held o = IsFileOutcome name (file_of held name) o

-- The outcome of the words and the held files.
abbrev pub IsOutcome : List (List ℕ) → Held → Outcome → Type 0
IsOutcome words held o = IsCommandOutcome (command words) held o
