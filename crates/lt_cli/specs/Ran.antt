-- What a call of `ltta` does, for a verdict on its text.
use Rattle.std.specs.Prelude.{◌≡◌, ◌<◌, ℕ, IsTrue, List, [], ◌++◌, Result, Ok, Err}
use Rattle.lt_io.specs.SinkState.{SinkState}
use Rattle.lt_io.specs.Transfer.{IsFront}
use Rattle.lt_answer.specs.World.{IsCalm, Blames}
use Rattle.lt_answer.specs.Answered.{Verdict}
use Rattle.lt_answer.specs.Answered.{RefusesReading}
use Rattle.lt_text_answers.specs.declared.refusal.Refusal.{Refusal}
use Rattle.lt_text_answers.specs.declared.status.Status.{Status}
use Rattle.lt_text_answers.specs.declared.status.Status.TheVariants.{Write, Memory}
use Rattle.lt_text_answers.specs.Texts.{status_of, out_text, err_text}
use Rattle.lt_cli.specs.Objects.{Objects, world_of, KeepsObjects}
use Rattle.lt_text_answers.specs.Blamed.{blame_of}

-- the sink took this text, and did not fail
pub record Took (text : List ℕ) (old new : SinkState) : Type 0 where
  pub counted : new.faults ≡ old.faults
  pub taken : IsTrue old.told → new.taken ≡ old.taken ++ text

-- the sink took a front of this text, and did not fail
pub record TookFront (text : List ℕ) (old new : SinkState) : Type 0 where
  pub counted : new.faults ≡ old.faults
  pub taken : IsTrue old.told → IsFront old.taken text new.taken

-- the sink failed after a front of this text
pub record Broke (text : List ℕ) (old new : SinkState) : Type 0 where
  pub counted : old.faults < new.faults
  pub taken : IsTrue old.told → IsFront old.taken text new.taken

-- how a text or a refusal's line reaches the sinks: whole, up to a sink's fault, or up to want of memory
pub data Reported (outcome : Result (List ℕ) Refusal) (old new : Objects) (ends : Status) : Type 0 where
  both_whole : ends ≡ status_of outcome → Took (out_text outcome) old.out new.out → Took (err_text outcome) old.err new.err → Reported outcome old new ends
  out_broke : ends ≡ Write → Broke (out_text outcome) old.out new.out → Took [] old.err new.err → Reported outcome old new ends
  err_broke : ends ≡ Write → Took [] old.out new.out → Broke (err_text outcome) old.err new.err → Reported outcome old new ends
  both_short : ends ≡ Memory → TookFront (out_text outcome) old.out new.out → TookFront (err_text outcome) old.err new.err → Reported outcome old new ends

-- whose count rose by the time of an outcome
abbrev pub OutcomeBlames : Objects → Objects → Result (List ℕ) Refusal → Type 0
OutcomeBlames old new (Ok text) = IsCalm (world_of old) (world_of new)
OutcomeBlames old new (Err refusal) = Blames (world_of old) (world_of new) (blame_of refusal)

-- what was to be printed, and how it was
pub record Printed (V : Verdict (List ℕ) Refusal) (old new : Objects) (ends : Status) : Type 0 where
  pub outcome : Result (List ℕ) Refusal
  pub cause : OutcomeBlames old new outcome
  -- where the files tell their bytes and no count of theirs or of the fabric's rose
  pub right : IsTrue old.files.told → IsCalm (world_of old) (world_of new) → V outcome
  pub reported : Reported outcome old new ends

-- no memory was found before there was anything to print
pub record FoundNoMemory (old new : Objects) (ends : Status) : Type 0 where
  pub no_memory : ends ≡ Memory
  pub calm : IsCalm (world_of old) (world_of new)
  pub out : Took [] old.out new.out
  pub err : Took [] old.err new.err

pub data CommandEnds (V : Verdict (List ℕ) Refusal) (old new : Objects) (ends : Status) : Type 0 where
  printed : Printed V old new ends → CommandEnds V old new ends
  unprinted : FoundNoMemory old new ends → CommandEnds V old new ends

pub record Ran (V : Verdict (List ℕ) Refusal) (old new : Objects) (ends : Status) : Type 0 where
  pub keeps : KeepsObjects old new
  pub outcome : CommandEnds V old new ends
  -- over sound files a call on them fails where it is right to say so
  pub sound : IsTrue old.files.told → IsTrue old.files.sound → old.files.faults < new.files.faults → RefusesReading blame_of V
