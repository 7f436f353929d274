-- A failed call on the files or the fabric ends a call of `ltta`.
use Rattle.std.proofs.Common.{◌≡◌, ℕ, List, Result, Ok, Err, refl, ◌∙◌, ap, arith, inl, inr}
use Rattle.lt_answer.specs.Answered.{Verdict}
use Rattle.lt_answer.specs.World.{IsCalm, Blame, Content, Reading, Linking, Blames}
use Rattle.lt_text_answers.specs.declared.refusal.Refusal.{Refusal}
use Rattle.lt_text_answers.specs.declared.refusal.Refusal.TheVariants.{Words, LttacWords, NoNode, Command, Observer}
use Rattle.lt_text_answers.specs.declared.status.Status.{Status}
use Rattle.lt_text_answers.specs.declared.status.Status.TheVariants as status
use Rattle.lt_text_answers.specs.Blamed.{blame_of}
use Rattle.lt_text_answers.specs.Texts.{status_of, refusal_status, fault_status}
use Rattle.lt_cli.specs.Objects.{Objects, world_of}
use Rattle.lt_cli.specs.Ran.{Ran, CommandEnds, Reported, OutcomeBlames}
use Rattle.lt_cli.specs.Ran.{printed, unprinted, both_whole, out_broke, err_broke, both_short}
use Rattle.lt_cli.specs.Clauses.{HasCallFailed, IsOfFailure}
use Rattle.lt_text_answers.proofs.Refusals.{blamed_reads, blamed_links}

module _ (old new : Objects) where
  not_calm : HasCallFailed old new → IsCalm (world_of old) (world_of new) → ⊥
  not_calm (inl rose) calm = omega (arith, rose, calm.files)
  not_calm (inr rose) calm = omega (arith, rose, calm.fabric)

  -- a refusal with this blame, where a count rose
  called_status : (r : Refusal) (whose : Blame) → blame_of r ≡ whose → Blames (world_of old) (world_of new) whose → HasCallFailed old new → refusal_status r ≡ status.Outside
  called_status r Content is blamed failed = absurd (not_calm failed blamed)
  called_status Words Reading is blamed failed = cc
  called_status Words Linking is blamed failed = cc
  called_status LttacWords Reading is blamed failed = cc
  called_status LttacWords Linking is blamed failed = cc
  called_status (NoNode name) Reading is blamed failed = cc
  called_status (NoNode name) Linking is blamed failed = cc
  called_status (Observer f) Reading is blamed failed = cc
  called_status (Observer f) Linking is blamed failed = cc
  called_status (Command f) Reading is blamed failed = ap fault_status (blamed_reads f is)
  called_status (Command f) Linking is blamed failed = ap fault_status (blamed_links f is)

  outcome_status : (outcome : Result (List ℕ) Refusal) → OutcomeBlames old new outcome → HasCallFailed old new → status_of outcome ≡ status.Outside
  outcome_status (Ok text) cause failed = absurd (not_calm failed cause)
  outcome_status (Err r) cause failed = called_status r (blame_of r) refl cause failed

  reported_failed : (outcome : Result (List ℕ) Refusal) (ends : Status) → Reported outcome old new ends → status_of outcome ≡ status.Outside → IsOfFailure ends
  reported_failed outcome ends (both_whole is out err) so = inl (is ∙ so)
  reported_failed outcome ends (out_broke is out err) so = inr (inl is)
  reported_failed outcome ends (err_broke is out err) so = inr (inl is)
  reported_failed outcome ends (both_short is out err) so = inr (inr is)

  ends_failed : (V : Verdict (List ℕ) Refusal) (ends : Status) → CommandEnds V old new ends → HasCallFailed old new → IsOfFailure ends
  ends_failed V ends (printed p) failed = reported_failed p.outcome ends p.reported (outcome_status p.outcome p.cause failed)
  ends_failed V ends (unprinted p) failed = inr (inr p.no_memory)

  pub call_failed : (V : Verdict (List ℕ) Refusal) (ends : Status) → Ran V old new ends → HasCallFailed old new → IsOfFailure ends
  call_failed V ends ran failed = ends_failed V ends ran.outcome failed
