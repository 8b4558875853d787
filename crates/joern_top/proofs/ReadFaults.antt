-- A read fault has its cause and its line.
use Rattle.std.proofs.Common.{◌≡◌, ℕ, inl, inr, List, Option, Some, None, take, sym, ◌∙◌, ap, subst, rules}
use Rattle.std.specs.Prelude.{IfSome, All, slice_get}
use Rattle.joern_io.specs.Held.{Held}
use Rattle.joern_io.specs.Files.{RoseOrLacks}
use Rattle.joern_io.specs.Sinks.{Takes}
use Rattle.joern_top.specs.declared.answer.Answer.{Answer}
use Rattle.joern_top.specs.Words.{Dump, command, files_of}
use Rattle.joern_top.specs.Messages.{read_fault_line}
use Rattle.joern_top.specs.Answers.{outcome_of}
use Rattle.joern_top.specs.Headline.{Run, names, IsReadable, StopsReadingAt, ReadFaultHasCause, ReadFaultLine}
use Rattle.joern_top.proofs.Deciding.{Blames, IsWritten, at_read_fault}

-- No file stands before the first.
pub none_before_first : (held : Option Held) (names : List (List ℕ)) → IfSome held (λ held. All (IsReadable held) (take 0 names))
none_before_first None names = tt
none_before_first (Some held) names = search rules

-- The command of a run reads one file.
pub only_name : (run : Run) (name : List ℕ) → command run.words ≡ Some (Dump name) → slice_get (names run) 0 ≡ Some name
only_name run name commanded = ap (λ c. slice_get (files_of c) 0) commanded

-- The file that is blamed is the first.
abbrev pub stops_at_first : (run : Run) (name : List ℕ) → command run.words ≡ Some (Dump name) →
    RoseOrLacks run.files_before run.files_after name → StopsReadingAt run 0
stops_at_first run name commanded cause = record {
  name = name;
  named = only_name run name commanded;
  cause = cause;
  earlier = none_before_first run.files_before.held (names run);
}

pub read_fault_has_cause : (run : Run) (a : Answer) → Blames run a → IsWritten run a → ReadFaultHasCause run
read_fault_has_cause run a blames (inl (same, taken)) = λ number is.
    at_read_fault a number (sym same ∙ is)
    (λ a number. Blames run a → StopsReadingAt run number)
    (λ name blames. stops_at_first run name.now blames.0 blames.1)
    blames
read_fault_has_cause run a blames (inr (same, taken)) = λ number is. cc

pub read_fault_line_is : (run : Run) (a : Answer) → Blames run a → IsWritten run a → ReadFaultLine run
read_fault_line_is run a blames (inl (same, taken)) = λ number name is named.
    at_read_fault a number (sym same ∙ is)
    (λ a number. Blames run a → slice_get (names run) number ≡ Some name →
    Takes run.out_before run.out_after (outcome_of a).bytes → Takes run.out_before run.out_after (read_fault_line name))
    (λ file blames named taken.
    let only = only_name run file.now blames.0 in
    let same_name : file.now ≡ name = cc (only, named) in
    let P : List ℕ → Type 0 = λ name. Takes run.out_before run.out_after (read_fault_line name) in
    subst P same_name taken)
    blames named taken
read_fault_line_is run a blames (inr (same, taken)) = λ number name is named. cc
