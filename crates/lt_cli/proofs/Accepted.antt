-- A command that nothing refuses, over objects that are sound.
use Rattle.std.proofs.Common.{◌≡◌, ◌⊎◌, ◌<◌, ℕ, List, Result, Ok, Err, IsTrue, arith, inl, inr}
use Rattle.lt_answer.specs.Answered.{Verdict}
use Rattle.lt_answer.specs.World.{IsCalm, Blame, Content, Reading, Linking, Blames}
use Rattle.lt_text_answers.specs.declared.refusal.Refusal.{Refusal}
use Rattle.lt_text_answers.specs.declared.status.Status.{Status}
use Rattle.lt_text_answers.specs.Blamed.{blame_of}
use Rattle.lt_cli.specs.Objects.{Objects, AreSound, world_of}
use Rattle.lt_cli.specs.Ran.{Ran, CommandEnds, Reported, OutcomeBlames}
use Rattle.lt_cli.specs.Ran.{printed, unprinted, both_whole, out_broke, err_broke, both_short}
use Rattle.lt_cli.specs.Clauses.{IsAccepted, EndsWellOrShort}

module _ (V : Verdict (List ℕ) Refusal) (old new : Objects) (ends : Status) (told : IsTrue old.files.told) (sound : AreSound old) (ran : Ran V old new ends) (unrefused : IsAccepted V) where
  -- no count rose
  files_stay : old.files.faults < new.files.faults → ⊥
  files_stay rose = let missing = ran.sound told sound.files rose in unrefused missing.0 missing.2

  fabric_stays : old.fabric.faults < new.fabric.faults → ⊥
  fabric_stays rose = let same = ran.keeps.world.steady sound.fabric in omega (arith, rose, same)

  blamed_calm : (whose : Blame) → Blames (world_of old) (world_of new) whose → IsCalm (world_of old) (world_of new)
  blamed_calm Content blamed = blamed
  blamed_calm Reading blamed = absurd (files_stay blamed.0)
  blamed_calm Linking blamed = absurd (fabric_stays blamed.1)

  outcome_calm : (outcome : Result (List ℕ) Refusal) → OutcomeBlames old new outcome → IsCalm (world_of old) (world_of new)
  outcome_calm (Ok text) cause = cause
  outcome_calm (Err r) cause = blamed_calm (blame_of r) cause

  -- so it is a text, and the sinks took it
  reported_ends : (outcome : Result (List ℕ) Refusal) → V outcome → Reported outcome old new ends → EndsWellOrShort ends
  reported_ends (Err r) right reported = absurd (unrefused r right)
  reported_ends (Ok text) right (both_whole is out err) = inl is
  reported_ends (Ok text) right (out_broke is out err) = let rose = out.counted in let same = ran.keeps.out.steady sound.out in absurd (omega (arith, rose, same))
  reported_ends (Ok text) right (err_broke is out err) = let rose = err.counted in let same = ran.keeps.err.steady sound.err in absurd (omega (arith, rose, same))
  reported_ends (Ok text) right (both_short is out err) = inr is

  command_ends : CommandEnds V old new ends → EndsWellOrShort ends
  command_ends (printed p) = reported_ends p.outcome (p.right told (outcome_calm p.outcome p.cause)) p.reported
  command_ends (unprinted p) = inr p.no_memory

  pub accepted_ends : EndsWellOrShort ends
  accepted_ends = command_ends ran.outcome
