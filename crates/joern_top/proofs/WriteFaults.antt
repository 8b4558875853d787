-- A write fault has its cause, and a proper prefix was written.
use Rattle.std.proofs.Common.{◌≡◌, ℕ, inl, inr, List, Option, Some, None, refl, sym, ◌∙◌, subst, arith}
use Rattle.joern_io.specs.Held.{Held, file_of, Lacks}
use Rattle.joern_io.specs.Files.{RoseOrLacks}
use Rattle.joern_io.specs.Sinks.{TakesPrefix}
use Rattle.joern_top.specs.declared.status.Status.TheVariants as status
use Rattle.joern_top.specs.declared.answer.Answer.{Answer}
use Rattle.joern_top.specs.Words.{Command, Dump, command}
use Rattle.joern_top.specs.Run.{IsOutcome, IsCommandOutcome, IsFileOutcome, read_fault_outcome}
use Rattle.joern_top.specs.Answers.{outcome_of, IsDecided}
use Rattle.joern_top.specs.Headline.{Run, WriteFaultHasCause, WriteFaultPrefix, WritesPrefix}
use Rattle.joern_top.proofs.Deciding.{Decides, Blames, IsWritten, if_told, by_kind, never_write_fault}
use Rattle.joern_top.proofs.ReadFaults.{stops_at_first}

pub write_fault_has_cause : (run : Run) (a : Answer) → IsWritten run a → WriteFaultHasCause run
write_fault_has_cause run a (inl (same, taken)) = λ is. absurd (never_write_fault a (sym same ∙ is))
write_fault_has_cause run a (inr (same, taken)) = λ is. taken.rose

-- The rules' outcome, where the command's file is not held.
pub outcome_of_lacking : (run : Run) (held : Held) (name : List ℕ) → run.files_before.held ≡ Some held →
    command run.words ≡ Some (Dump name) → Lacks run.files_before.held name → IsOutcome run.words held (read_fault_outcome name)
outcome_of_lacking run held name told commanded lacks =
    let L : Option Held → Type 0 = λ held. Lacks held name in
    let none : file_of held name ≡ None = subst L told lacks in
    let P : Option Command → Type 0 = λ c. IsCommandOutcome c held (read_fault_outcome name) in
    let Q : Option (List ℕ) → Type 0 = λ file. IsFileOutcome name file (read_fault_outcome name) in
    subst P (sym commanded) (subst Q (sym none) refl)

-- The prefix of the rules' bytes, or of the line that says that a device failed to read.
prefix_of_fault : (run : Run) (held : Held) (name : List ℕ) → run.files_before.held ≡ Some held → command run.words ≡ Some (Dump name) →
    RoseOrLacks run.files_before run.files_after name → TakesPrefix run.out_before run.out_after (read_fault_outcome name).bytes → WritesPrefix run held
prefix_of_fault run held name told commanded (inl rose) prefix =
    inr (rose, (0, stops_at_first run name commanded (inl rose), prefix))
prefix_of_fault run held name told commanded (inr lacks) prefix =
    inl (read_fault_outcome name, outcome_of_lacking run held name told commanded lacks, prefix)

prefix_of : (run : Run) (held : Held) → run.files_before.held ≡ Some held → (a : Answer) →
    (IsDecided a → IsOutcome run.words held (outcome_of a)) → Blames run a →
    TakesPrefix run.out_before run.out_after (outcome_of a).bytes → WritesPrefix run held
prefix_of run held told =
    let P : Answer → Type 0 = λ a. (IsDecided a → IsOutcome run.words held (outcome_of a)) → Blames run a →
    TakesPrefix run.out_before run.out_after (outcome_of a).bytes → WritesPrefix run held in
    by_kind P
    (λ a decided rules blames prefix. inl (outcome_of a, rules decided, prefix))
    (λ name rules blames prefix. prefix_of_fault run held name.now told blames.0 blames.1 prefix)
    (λ rules blames prefix. let below = prefix.taken.1 in absurd (omega arith))

pub write_fault_prefix_is : (run : Run) (a : Answer) → Decides run a → Blames run a → IsWritten run a → WriteFaultPrefix run
write_fault_prefix_is run a decided blames written =
    let P : Held → Type 0 = λ held. IsDecided a → IsOutcome run.words held (outcome_of a) in
    let Q : Held → Type 0 = λ held. run.status ≡ status.WriteFault → WritesPrefix run held in
    if_told run.files_before.held P Q (λ held told rules is. prefix_written run held told a rules blames written is) decided
  where
    prefix_written : (run : Run) (held : Held) → run.files_before.held ≡ Some held → (a : Answer) →
        (IsDecided a → IsOutcome run.words held (outcome_of a)) → Blames run a → IsWritten run a →
        run.status ≡ status.WriteFault → WritesPrefix run held
    prefix_written run held told a rules blames (inl (same, taken)) is = absurd (never_write_fault a (sym same ∙ is))
    prefix_written run held told a rules blames (inr (same, taken)) is = prefix_of run held told a rules blames taken
