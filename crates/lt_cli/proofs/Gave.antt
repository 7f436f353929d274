-- The outcome that a call printed whole.
use Rattle.std.proofs.Common.{◌≡◌, ◌≢◌, ℕ, IsTrue, List, ◌++◌, Result, arith}
use Rattle.lt_answer.specs.Answered.{Verdict}
use Rattle.lt_answer.specs.World.{IsCalm}
use Rattle.lt_text_answers.specs.declared.refusal.Refusal.{Refusal}
use Rattle.lt_text_answers.specs.declared.status.Status.{Status}
use Rattle.lt_text_answers.specs.declared.status.Status.TheVariants as status
use Rattle.lt_text_answers.specs.Texts.{status_of, out_text, err_text}
use Rattle.lt_cli.specs.Objects.{Objects, IsQuiet, world_of}
use Rattle.lt_cli.specs.Ran.{Ran, CommandEnds, Reported}
use Rattle.lt_cli.specs.Ran.{printed, unprinted, both_whole, out_broke, err_broke, both_short}

-- the outcome that was printed whole
pub record Gave (V : Verdict (List ℕ) Refusal) (old new : Objects) (ends : Status) : Type 0 where
  pub outcome : Result (List ℕ) Refusal
  pub right : V outcome
  pub status : ends ≡ status_of outcome
  pub out : IsTrue old.out.told → new.out.taken ≡ old.out.taken ++ out_text outcome
  pub err : IsTrue old.err.told → new.err.taken ≡ old.err.taken ++ err_text outcome

calm_of : (old new : Objects) → IsQuiet old new → IsCalm (world_of old) (world_of new)
calm_of old new quiet = record { files = quiet.files; fabric = quiet.fabric }

gave_reported : (V : Verdict (List ℕ) Refusal) (old new : Objects) (ends : Status) (outcome : Result (List ℕ) Refusal) → V outcome
    → Reported outcome old new ends → IsTrue old.files.told → IsQuiet old new → ends ≢ status.Memory → Gave V old new ends
gave_reported V old new ends outcome right (both_whole is out err) tells quiet enough =
    record { outcome = outcome; right = right; status = is; out = out.taken; err = err.taken }
gave_reported V old new ends outcome right (out_broke is out err) tells quiet enough = absurd (omega (arith, out.counted, quiet.out))
gave_reported V old new ends outcome right (err_broke is out err) tells quiet enough = absurd (omega (arith, err.counted, quiet.err))
gave_reported V old new ends outcome right (both_short is out err) tells quiet enough = absurd (enough is)

gave_ends : (V : Verdict (List ℕ) Refusal) (old new : Objects) (ends : Status) → CommandEnds V old new ends → IsTrue old.files.told → IsQuiet old new → ends ≢ status.Memory → Gave V old new ends
gave_ends V old new ends (printed p) tells quiet enough =
    gave_reported V old new ends p.outcome (p.right tells (calm_of old new quiet)) p.reported tells quiet enough
gave_ends V old new ends (unprinted p) tells quiet enough = absurd (enough p.no_memory)

pub gave : (V : Verdict (List ℕ) Refusal) (old new : Objects) (ends : Status) → Ran V old new ends → IsTrue old.files.told → IsQuiet old new → ends ≢ status.Memory → Gave V old new ends
gave V old new ends ran = gave_ends V old new ends ran.outcome
