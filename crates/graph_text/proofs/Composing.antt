-- Two texts that are printed one after the other, and the end of printing.
use Rattle.std.proofs.Common.{◌≡◌, ℕ, ◌⊎◌, inl, inr, Bool, true, false, List, [], ◌++◌}
use Rattle.std.proofs.Common.{Result, Ok, Err, IsErr, OnOk, OnErr, refl, sym, ◌∙◌, ap, subst, append_assoc}
use Rattle.std.proofs.lemmas.Bool.{true≢false}
use Rattle.std.proofs.lemmas.List.{append-nil}
use Rattle.joern_io.specs.declared.files.Failed.{Failed}
use Rattle.joern_io.specs.Sinks.{SinkState, Takes, TakesPrefix}
use Rattle.joern_io.proofs.Taking.{Takes-none, Takes-then, TakesPrefix-longer, TakesPrefix-then}
use Rattle.graph_text.specs.Printing.{Output, sink_of, printer_of, Keeps, Prints}

is_true_or_false : (b : Bool) → (b ≡ true) ⊎ (b ≡ false)
is_true_or_false true = inl refl
is_true_or_false false = inr refl

-- What is kept of two texts.
Keeps-then : {o p q : Output} {a b : List ℕ} → Keeps o p a → Keeps p q b → Keeps o q (a ++ b)
Keeps-then {o} {p} {q} {a} {b} first second = record {
  gone = first.gone ++ second.gone;
  taken = Takes-then first.taken second.taken;
  kept =
      append_assoc first.gone second.gone (printer_of q).bytes
      ∙ ap (λ rest. first.gone ++ rest) second.kept
      ∙ sym (append_assoc first.gone (printer_of p).bytes b)
      ∙ ap (λ front. front ++ b) first.kept
      ∙ append_assoc (printer_of o).bytes a b;
}

-- A fault in the second text.
fault-second : (o p q : Output) (a b : List ℕ) → Keeps o p a →
    TakesPrefix (sink_of p) (sink_of q) ((printer_of p).bytes ++ b) →
    TakesPrefix (sink_of o) (sink_of q) ((printer_of o).bytes ++ (a ++ b))
fault-second o p q a b first second =
    let P : List ℕ → Type 0 = λ text. TakesPrefix (sink_of o) (sink_of q) text in
    subst P
    (sym (append_assoc first.gone (printer_of p).bytes b) ∙ ap (λ front. front ++ b) first.kept
    ∙ append_assoc (printer_of o).bytes a b)
    (TakesPrefix-then first.taken second)

-- A fault in the first text.
fault-first : (o p q : Output) (a b : List ℕ) →
    TakesPrefix (sink_of o) (sink_of p) ((printer_of o).bytes ++ a) → sink_of q ≡ sink_of p →
    TakesPrefix (sink_of o) (sink_of q) ((printer_of o).bytes ++ (a ++ b))
fault-first o p q a b first same =
    rw (same, ← append_assoc (printer_of o).bytes a b) (TakesPrefix-longer b first)

pub Prints-then : {o p q : Output} {a b : List ℕ} →
    Prints o p a → Prints p q b → Prints o q (a ++ b)
Prints-then {o} {p} {q} {a} {b} first second = record {
  no_fault = λ ends.
      let later = second.no_fault ends in
      let sooner = first.no_fault later.0 in
      (sooner.0, Keeps-then sooner.1 later.1);
  fault = λ ends begins.
      elim (is_true_or_false (printer_of p).failed) [
        | inl failed ↦
            fault-first o p q a b (first.fault failed begins) (second.after_fault failed).1
        | inr well ↦ fault-second o p q a b (first.no_fault well).1 (second.fault ends well)
      ];
  after_fault = λ begins.
      let sooner = first.after_fault begins in
      let later = second.after_fault sooner.0 in
      (later.0, later.1 ∙ sooner.1);
}

-- Nothing was printed.
pub Prints-none : (o : Output) → Prints o o []
Prints-none o = record {
  no_fault = λ ends. (
    ends,
    record {
      gone = [];
      taken = Takes-none (sink_of o);
      kept = sym (append-nil (printer_of o).bytes);
    },
  );
  fault = λ ends begins. absurd (true≢false (sym ends ∙ begins));
  after_fault = λ begins. (begins, refl);
}

-- A text was printed through a printer in which nothing waited, and then what still waited was
-- taken: so the text was.
Takes-finished : (o p : Output) (end : SinkState) (text : List ℕ) →
    (printer_of o).bytes ≡ [] → Prints o p text → (printer_of p).failed ≡ false →
    Takes (sink_of p) end (printer_of p).bytes → Takes (sink_of o) end text
Takes-finished o p end text nothing printed well last =
    let kept = (printed.no_fault well).1 in
    let P : List ℕ → Type 0 = λ text. Takes (sink_of o) end text in
    subst P (kept.kept ∙ ap (λ front. front ++ text) nothing) (Takes-then kept.taken last)

-- A fault while a text was printed through such a printer, or at its end: a proper prefix of the
-- text was taken.
TakesPrefix-finished : (o p : Output) (end : SinkState) (text : List ℕ) →
    (printer_of o).bytes ≡ [] → (printer_of o).failed ≡ false → Prints o p text →
    ((printer_of p).failed ≡ false → TakesPrefix (sink_of p) end (printer_of p).bytes) →
    ((printer_of p).failed ≡ true → end ≡ sink_of p) → TakesPrefix (sink_of o) end text
TakesPrefix-finished o p end text nothing begins printed unfinished same =
    elim (is_true_or_false (printer_of p).failed) [
      | inl failed ↦ rw (same failed) (rw nothing at (printed.fault failed begins))
      | inr well ↦
          let kept = (printed.no_fault well).1 in
          let P : List ℕ → Type 0 = λ text. TakesPrefix (sink_of o) end text in
          subst P (kept.kept ∙ ap (λ front. front ++ text) nothing)
          (TakesPrefix-then kept.taken (unfinished well))
    ]

-- The same of the answers of `finish`.
pub on_ok-finished :
    (result : Result (Unit {0}) Failed) (o p : Output) (end : SinkState) (text : List ℕ) →
    (printer_of o).bytes ≡ [] → Prints o p text →
    ((printer_of p).failed ≡ true → IsErr result × (end ≡ sink_of p)) →
    OnOk result (Takes (sink_of p) end (printer_of p).bytes) → OnOk result (Takes (sink_of o) end text)
on_ok-finished (Ok _) o p end text nothing printed after last =
    elim (is_true_or_false (printer_of p).failed) [
      | inl failed ↦ absurd (true≢false (sym ((after failed).0)))
      | inr well ↦ Takes-finished o p end text nothing printed well last
    ]
on_ok-finished (Err _) o p end text nothing printed after last = tt

pub on_err-finished :
    (result : Result (Unit {0}) Failed) (o p : Output) (end : SinkState) (text : List ℕ) →
    (printer_of o).bytes ≡ [] → (printer_of o).failed ≡ false → Prints o p text →
    OnErr result ((printer_of p).failed ≡ false → TakesPrefix (sink_of p) end (printer_of p).bytes) →
    ((printer_of p).failed ≡ true → IsErr result × (end ≡ sink_of p)) →
    OnErr result (TakesPrefix (sink_of o) end text)
on_err-finished (Ok _) o p end text nothing begins printed unfinished after = tt
on_err-finished (Err _) o p end text nothing begins printed unfinished after =
    TakesPrefix-finished o p end text nothing begins printed unfinished
    (λ failed. (after failed).1)
