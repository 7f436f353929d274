-- How a text reaches one sink.
use Rattle.std.specs.Prelude.{◌≡◌, ℕ, List, Result, Ok, Err}
use Rattle.lt_io.specs.declared.fault.SinkErr.{SinkErr}
use Rattle.lt_io.specs.declared.fault.SinkErr.TheVariants as sink
use Rattle.lt_io.specs.SinkState.{SinkState}
use Rattle.lt_text_answers.specs.declared.status.Status.{Status}
use Rattle.lt_text_answers.specs.declared.status.Status.TheVariants.{Write, Memory}
use Rattle.lt_cli.specs.Objects.{KeepsSteady}
use Rattle.lt_cli.specs.Ran.{Took, TookFront, Broke}

-- how much of a text a sink took, by its answer
abbrev pub TookBy : (text : List ℕ) → (old new : SinkState) → Result (Unit {0}) SinkErr → Type 0
TookBy text old new (Ok printed) = Took text old new
TookBy text old new (Err sink.Failed) = Broke text old new
TookBy text old new (Err sink.Memory) = TookFront text old new

-- a text is printed on a sink, which answers so
pub record PrintsText (text : List ℕ) (old new : SinkState) (result : Result (Unit {0}) SinkErr) : Type 0 where
  pub keeps : KeepsSteady old new
  pub took : TookBy text old new result

-- whole, up to the sink's fault, or up to want of memory
pub data WriteReaches (done : Status) (text : List ℕ) (old new : SinkState) (ends : Status) : Type 0 where
  whole : ends ≡ done → Took text old new → WriteReaches done text old new ends
  broke : ends ≡ Write → Broke text old new → WriteReaches done text old new ends
  short : ends ≡ Memory → TookFront text old new → WriteReaches done text old new ends

pub record Written (done : Status) (text : List ℕ) (old new : SinkState) (ends : Status) : Type 0 where
  pub keeps : KeepsSteady old new
  pub reaches : WriteReaches done text old new ends

-- how a call ends that was to end so, by the answer of the sink that its text was printed on
abbrev pub written_status : (done : Status) → Result (Unit {0}) SinkErr → Status
written_status done (Ok written) = done
written_status done (Err sink.Failed) = Write
written_status done (Err sink.Memory) = Memory
