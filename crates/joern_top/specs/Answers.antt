-- What the program has decided to answer, before it is written.
use Rattle.std.specs.Prelude.{ℕ, ◌≡◌, ◌⊎◌, List, [], Option, codes}
use Rattle.joern_io.specs.Faults.{Rose}
use Rattle.joern_io.specs.Writing.{Appends, AppendsProperPrefix}
use Rattle.cpg_schema.specs.Lines.{graph_text}
use Rattle.joern_top.specs.declared.status.Status.{Status}
use Rattle.joern_top.specs.declared.status.Status.TheVariants as status
use Rattle.joern_top.specs.declared.status.Reason.TheVariants as reason
use Rattle.joern_top.specs.declared.status.What.TheVariants as what
use Rattle.joern_top.specs.declared.answer.Answer.{Answer}
use Rattle.joern_top.specs.declared.answer.Answer.TheVariants as answer
use Rattle.joern_top.specs.SyntaxLayer.{file_graph}
use Rattle.joern_top.specs.Refusals.{usage_line, read_fault_line, refused_line, limit_line}
use Rattle.joern_top.specs.Run.{Outcome}

-- the status and the bytes of an answer
abbrev pub outcome_of : Answer → Outcome
outcome_of answer.Usage = record { status = status.Usage; bytes = usage_line }
outcome_of (answer.ReadFault name) = record { status = status.ReadFault 0; bytes = read_fault_line name.now }
outcome_of answer.TooLarge = record { status = status.Limit what.FileBytes 0; bytes = limit_line (codes "file-bytes") 0 }
outcome_of (answer.Unbuilt name) = record { status = status.SourceRefused 0 0 reason.Unbuilt; bytes = refused_line name.now 1 1 (codes "unbuilt") }
outcome_of (answer.Dump name) = record { status = status.Ok; bytes = graph_text (file_graph name.now) }
outcome_of answer.NoMemory = record { status = status.NoMemory; bytes = [] }

-- the words and the held files decide the answer: no file failed to be read, and memory was not wanting
abbrev pub IsDecided : Answer → Type 0
IsDecided (answer.ReadFault _) = ⊥
IsDecided answer.NoMemory = ⊥
IsDecided _ = Unit {0}

-- P of the name of the file that could not be read, if the answer says so
abbrev pub IfReadFault : Answer → (List ℕ → Type 0) → Type 0
IfReadFault (answer.ReadFault name) P = P name.now
IfReadFault _ P = Unit {0}

-- the answer was written whole, or the sink failed once it had taken a proper prefix
abbrev pub Writes : Outcome → Option (List ℕ) → Option (List ℕ) → ℕ → ℕ → Status → Type 0
Writes outcome took_before took faults_before faults end =
    ((end ≡ outcome.status) × Appends took_before took outcome.bytes)
    ⊎ ((end ≡ status.WriteFault) × Rose faults_before faults × AppendsProperPrefix took_before took outcome.bytes)
