-- What a printer does with a text: bytes wait in a fixed buffer, and go to the sink when it is
-- full.
use Rattle.std.specs.Prelude.{ℕ, ◌≡◌, Bool, true, false, List, ◌++◌}
use Rattle.joern_io.specs.Sinks.{SinkState, Takes, TakesPrefix}

-- A printer, as its callers see it.
pub record Waiting : Type 0 where
  -- The bytes that wait, which go to the sink next.
  pub bytes : List ℕ
  -- Whether the sink has answered with a fault.
  pub failed : Bool

-- A sink, and the printer before it.
abbrev pub Output : Type 0
Output = SinkState × Waiting

-- The sink.
abbrev pub sink_of : Output → SinkState
sink_of output = output.0

-- The printer.
abbrev pub printer_of : Output → Waiting
printer_of output = output.1

-- Of the bytes that waited and the text, in this order, some went to the sink and the others wait.
pub record Keeps (old new : Output) (text : List ℕ) : Type 0 where
  pub gone : List ℕ
  pub taken : Takes (sink_of old) (sink_of new) gone
  pub kept : gone ++ (printer_of new).bytes ≡ (printer_of old).bytes ++ text

-- A text was printed, or the sink failed once it had taken a proper prefix of the bytes that waited
-- and the text. A printer that has failed stays so, and the sink stays as it is.
pub record Prints (old new : Output) (text : List ℕ) : Type 0 where
  pub no_fault : (printer_of new).failed ≡ false →
      ((printer_of old).failed ≡ false) × Keeps old new text
  pub fault : (printer_of new).failed ≡ true → (printer_of old).failed ≡ false →
      TakesPrefix (sink_of old) (sink_of new) ((printer_of old).bytes ++ text)
  pub after_fault : (printer_of old).failed ≡ true →
      ((printer_of new).failed ≡ true) × (sink_of new ≡ sink_of old)
