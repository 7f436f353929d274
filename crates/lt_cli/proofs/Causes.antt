-- Why a call of `ltta` ends as it does.
use Rattle.std.proofs.Common.{◌≡◌, ◌≢◌, ◌⊎◌, ◌<◌, ℕ, List, Option, Some, ◌++◌, ◌∷◌, [], Result, Ok, Err, IsTrue, refl, sym, ◌∙◌, ap, subst, append-nil, arith, inl, inr}
use Rattle.std.specs.Prelude.{codes}
use Rattle.lt_io.specs.FilesState.{FilesState}
use Rattle.lt_io.specs.FabricState.{FabricState}
use Rattle.lt_answer.specs.Answered.{Verdict}
use Rattle.lt_answer.proofs.Decided.{HasOneKind}
use Rattle.lt_answer.specs.World.{IsCalm, Blame, Content, Reading, Linking, Blames}
use Rattle.lt_answer.specs.Answered.{RefusesReading}
use Rattle.lt_load_fit.specs.declared.fault.CommandFault.{CommandFault}
use Rattle.lt_load_fit.specs.declared.fault.CommandFault.TheVariants.{Read}
use Rattle.lt_text_answers.specs.declared.refusal.Refusal.{Refusal}
use Rattle.lt_text_answers.specs.declared.refusal.Refusal.TheVariants.{Command}
use Rattle.lt_text_answers.specs.declared.status.Status.{Status}
use Rattle.lt_text_answers.specs.declared.status.Status.TheVariants as status
use Rattle.lt_text_answers.specs.Blamed.{blame_of}
use Rattle.lt_text_answers.specs.Texts.{status_of, refusal_status, fault_status, refusal_line, out_text, err_text}
use Rattle.lt_words.specs.Reading.{Said, command_of}
use Rattle.lt_cli.specs.Answers.{answer_verdict, text_verdict}
use Rattle.lt_cli.specs.Commands.{command_verdict, asked_verdict, words_verdict}
use Rattle.lt_cli.specs.Asked.{LeavesFabric}
use Rattle.lt_cli.specs.Objects.{Objects, world_of}
use Rattle.lt_cli.specs.Ran.{Ran, CommandEnds, Printed, Reported, Took, OutcomeBlames}
use Rattle.lt_cli.specs.Ran.{printed, unprinted, both_whole, out_broke, err_broke, both_short}
use Rattle.lt_cli.specs.Taken.{TookLine}
use Rattle.lt_cli.specs.Clauses.{IsMissingFor, IsMissingExact, IsOutsideCaused, IsWriteCaused}
use Rattle.lt_text_answers.proofs.Refusals.{not_write, outside_blames, blamed_reads, reading_line, linking_line}
use Rattle.lt_cli.proofs.Exact.{refused_status}

-- a failed call

-- the line of a refusal, where it was printed whole
line_printed : (line : List ℕ) (old new : Objects) (outcome : Result (List ℕ) Refusal) (r : Refusal) → outcome ≡ Err r → refusal_line r ≡ line → Took (out_text outcome) old.out new.out → Took (err_text outcome) old.err new.err
    → TookLine line old new
line_printed line old new outcome r here is out err = record {
  out = λ told. out.taken told ∙ ap (λ (o : Result (List ℕ) Refusal). old.out.taken ++ out_text o) here ∙ append-nil old.out.taken;
  err = λ told.
      err.taken told
      ∙ ap (λ (o : Result (List ℕ) Refusal). old.err.taken ++ err_text o) here
      ∙ ap (λ (l : List ℕ). old.err.taken ++ (l ++ 10 ∷ [])) is;
}

blames_by : (old new : Objects) (r : Refusal) (whose : Blame) → blame_of r ≡ whose → OutcomeBlames old new (Err r) → Blames (world_of old) (world_of new) whose
blames_by old new r whose is cause = subst (Blames (world_of old) (world_of new)) is cause

outside_fault : (outcome : Result (List ℕ) Refusal) → status_of outcome ≡ status.Outside → (r : Refusal) × (outcome ≡ Err r) × ((blame_of r ≡ Reading) ⊎ (blame_of r ≡ Linking))
outside_fault (Ok text) is = cc
outside_fault (Err r) is = (r, refl, outside_blames r is)

outside_refused : (old new : Objects) (outcome : Result (List ℕ) Refusal) (r : Refusal) → outcome ≡ Err r → (blame_of r ≡ Reading) ⊎ (blame_of r ≡ Linking) → OutcomeBlames old new (Err r)
    → Took (out_text outcome) old.out new.out → Took (err_text outcome) old.err new.err → IsOutsideCaused old new
outside_refused old new outcome r here (inl reading) cause out err =
    inl (record { rose = (blames_by old new r Reading reading cause).0; line = line_printed (codes "fault: read") old new outcome r here (reading_line r reading) out err })
outside_refused old new outcome r here (inr linking) cause out err =
    inr (record { rose = (blames_by old new r Linking linking cause).1; line = line_printed (codes "fault: link") old new outcome r here (linking_line r linking) out err })

outside_printed : (V : Verdict (List ℕ) Refusal) (old new : Objects) (ends : Status) (p : Printed V old new ends) → Reported p.outcome old new ends → ends ≡ status.Outside → IsOutsideCaused old new
outside_printed V old new ends p (both_whole is out err) at =
    let fault = outside_fault p.outcome (sym is ∙ at) in
    outside_refused old new p.outcome fault.0 fault.1 fault.2 (subst (OutcomeBlames old new) fault.1 p.cause) out err
outside_printed V old new ends p (out_broke is out err) at = cc
outside_printed V old new ends p (err_broke is out err) at = cc
outside_printed V old new ends p (both_short is out err) at = cc

outside_ends : (V : Verdict (List ℕ) Refusal) (old new : Objects) (ends : Status) → CommandEnds V old new ends → ends ≡ status.Outside → IsOutsideCaused old new
outside_ends V old new ends (printed p) at = outside_printed V old new ends p p.reported at
outside_ends V old new ends (unprinted p) at = let none = sym p.no_memory ∙ at in cc

pub outside_caused : (V : Verdict (List ℕ) Refusal) (old new : Objects) (ends : Status) → Ran V old new ends → ends ≡ status.Outside → IsOutsideCaused old new
outside_caused V old new ends ran at = outside_ends V old new ends ran.outcome at

-- a failed write

no_write : (outcome : Result (List ℕ) Refusal) → status_of outcome ≡ status.Write → ⊥
no_write (Ok text) is = cc
no_write (Err r) is = not_write r is

write_reported : (old new : Objects) (ends : Status) (outcome : Result (List ℕ) Refusal) → Reported outcome old new ends → ends ≡ status.Write → IsWriteCaused old new
write_reported old new ends outcome (both_whole is out err) at = absurd (no_write outcome (sym is ∙ at))
write_reported old new ends outcome (out_broke is out err) at = inl (out.counted, λ told. err.taken told ∙ append-nil old.err.taken)
write_reported old new ends outcome (err_broke is out err) at = inr (err.counted, λ told. out.taken told ∙ append-nil old.out.taken)
write_reported old new ends outcome (both_short is out err) at = cc

write_ends : (V : Verdict (List ℕ) Refusal) (old new : Objects) (ends : Status) → CommandEnds V old new ends → ends ≡ status.Write → IsWriteCaused old new
write_ends V old new ends (printed p) at = write_reported old new ends p.outcome p.reported at
write_ends V old new ends (unprinted p) at = let none = sym p.no_memory ∙ at in cc

pub write_caused : (V : Verdict (List ℕ) Refusal) (old new : Objects) (ends : Status) → Ran V old new ends → ends ≡ status.Write → IsWriteCaused old new
write_caused V old new ends ran at = write_ends V old new ends ran.outcome at

-- a missing file

module _ {T E : Type 0} (raise : E → Refusal) (missing : E) (outside : refusal_status (raise missing) ≡ status.Outside) (only : (e : E) → blame_of (raise e) ≡ Reading → e ≡ missing)
    (shown : T → List ℕ) (V : Verdict T E) (one : HasOneKind (λ e. refusal_status (raise e)) V) (old new : Objects) (steady : new.fabric.faults ≡ old.fabric.faults) where
  -- a refusal's content is not to blame where a missing file is
  no_content : (r : Refusal) → blame_of r ≡ Content → (blame_of r ≡ Reading) ⊎ (blame_of r ≡ Linking) → ⊥
  no_content r is (inl reading) = let wrong : Content ≡ Reading = sym is ∙ reading in cc
  no_content r is (inr linking) = let wrong : Content ≡ Linking = sym is ∙ linking in cc

  -- a refusal with this blame, where the missing file is right
  blamed_rose : (r : Refusal) (whose : Blame) → blame_of r ≡ whose → Blames (world_of old) (world_of new) whose → (IsCalm (world_of old) (world_of new) → refusal_status r ≡ status.Outside) → old.files.faults < new.files.faults
  blamed_rose r Content is blamed right = absurd (no_content r is (outside_blames r (right blamed)))
  blamed_rose r Reading is blamed right = blamed.0
  blamed_rose r Linking is blamed right = absurd (omega (arith, blamed.1, steady))

  outcome_rose : (outcome : Result (List ℕ) Refusal) → OutcomeBlames old new outcome → (IsCalm (world_of old) (world_of new) → answer_verdict raise shown V outcome) → V (Err missing) → old.files.faults < new.files.faults
  outcome_rose (Ok text) cause right is = let wrong : status.Ok ≡ status.Outside = refused_status raise shown V one (Ok text) missing (right cause) is ∙ outside in cc
  outcome_rose (Err r) cause right is = blamed_rose r (blame_of r) refl cause (λ calm. refused_status raise shown V one (Err r) missing (right calm) is ∙ outside)

  ends_rose : (ends : Status) → ends ≢ status.Memory → IsTrue old.files.told → CommandEnds (answer_verdict raise shown V) old new ends → V (Err missing) → old.files.faults < new.files.faults
  ends_rose ends enough told (printed p) is = outcome_rose p.outcome p.cause (p.right told) is
  ends_rose ends enough told (unprinted p) is = absurd (enough p.no_memory)

  refused_missing : RefusesReading blame_of (answer_verdict raise shown V) → V (Err missing)
  refused_missing (r, blamed, right) = subst (λ f. V (Err f)) (only right.0 (sym (ap blame_of right.2) ∙ blamed)) right.1

  pub missing_for : (ends : Status) → IsTrue old.files.told → IsTrue old.files.sound → ends ≢ status.Memory → Ran (answer_verdict raise shown V) old new ends → IsMissingFor missing V old new
  missing_for ends told sound enough ran = (λ rose. refused_missing (ran.sound told sound rose), λ is. ends_rose ends enough told ran.outcome is)

pub missing_exact : {T : Type 0} (shown : T → List ℕ) (V : Verdict T CommandFault) (one : HasOneKind fault_status V) (old new : Objects) (steady : new.fabric.faults ≡ old.fabric.faults) (ends : Status)
    → IsTrue old.files.told → IsTrue old.files.sound → ends ≢ status.Memory → Ran (text_verdict shown V) old new ends → IsMissingExact V old new
missing_exact shown V one old new steady ends told sound enough ran = missing_for (λ f. Command f) Read refl blamed_reads shown V one old new steady ends told sound enough ran

-- the verdict of the command that the words say
pub asked_ran : (words : List (List ℕ)) (said : Said) (old new : Objects) (ends : Status) → command_of words ≡ Some said → Ran (words_verdict old.files.named (world_of new) words) old new ends
    → Ran (command_verdict old.files.named (world_of new) said) old new ends
unfolding words_verdict
asked_ran words said old new ends is ran = subst (λ (s : Option Said). Ran (asked_verdict old.files.named (world_of new) s) old new ends) is ran

-- only a run touches the fabric
pub left_fabric : (words : List (List ℕ)) (said : Said) (files : FilesState) (old new : FabricState) → command_of words ≡ Some said → LeavesFabric (command_of words) files old new → LeavesFabric (Some said) files old new
left_fabric words said files old new is leaves = subst (λ (s : Option Said). LeavesFabric s files old new) is leaves
