-- How the answer to a command ends a call.
use Rattle.std.proofs.Common.{◌≡◌, ℕ, List, [], ◌∷◌, ◌++◌, Result, Ok, Err, true, false, sym, ◌∙◌, subst}
use Rattle.lt_base.specs.declared.memory.Or.{Or}
use Rattle.lt_base.specs.declared.memory.Or.TheVariants.{Fault, Memory}
use Rattle.lt_io.specs.Visits.{Errand, Visited}
use Rattle.lt_io.proofs.Visiting.{visited_any}
use Rattle.lt_io.specs.FilesState.{FilesState}
use Rattle.lt_io.specs.FabricState.{FabricState}
use Rattle.lt_io.specs.SinkState.{SinkState}
use Rattle.lt_answer.specs.World.{World, alone, world}
use Rattle.lt_answer.specs.Answered.{Verdict, Answered}
use Rattle.lt_answer.proofs.Stages.{beside}
use Rattle.lt_text_answers.specs.declared.refusal.Refusal.{Refusal}
use Rattle.lt_text_answers.specs.declared.refusal.Refusal.TheVariants.{Words, LttacWords, NoNode, Command, Observer}
use Rattle.lt_text_answers.specs.declared.status.Status.{Status}
use Rattle.lt_text_answers.specs.declared.status.Status.TheVariants as status
use Rattle.lt_text_answers.specs.Blamed.{blame_of}
use Rattle.lt_text_answers.specs.Texts.{refusal_line, refusal_status}
use Rattle.lt_cli.specs.Written.{Written, WriteReaches, whole, broke, short}
use Rattle.lt_cli.specs.Objects.{Objects}
use Rattle.lt_cli.specs.Answers.{answer_verdict}
use Rattle.lt_cli.specs.Answers.{AnswersCommand, IsOfCommand}
use Rattle.lt_cli.specs.Asked.{Finishes}
use Rattle.lt_cli.specs.Obeys.{Visits, ObeysErrands}
use Rattle.lt_text_answers.proofs.Refusals.{fault_not_words, not_ok}
use Rattle.lt_cli.proofs.Ends.{ran_whole, ran_refused, ran_short}

-- the objects of a call
abbrev pub objects : World → (out err : SinkState) → Objects
objects w out err = record { files = w.files; fabric = w.fabric; out = out; err = err }

-- the status of the words comes only where it is that of the text
pub no_words : (done : Status) (text : List ℕ) (old new : SinkState) (ends : Status) → (done ≡ status.Words → ⊥) → WriteReaches done text old new ends → ends ≡ status.Words → ⊥
no_words done text old new ends not (whole is took) at = not (sym is ∙ at)
no_words done text old new ends not (broke is broken) at = cc
no_words done text old new ends not (short is front) at = cc

-- nor does a text's status come that is not the one of a call that ends well
pub not_well : (done : Status) (text : List ℕ) (old new : SinkState) (ends : Status) → (done ≡ status.Ok → ⊥) → WriteReaches done text old new ends → ends ≡ status.Ok → ⊥
not_well done text old new ends not (whole is took) at = not (sym is ∙ at)
not_well done text old new ends not (broke is broken) at = cc
not_well done text old new ends not (short is front) at = cc

-- the visits of an answer that was a text
pub visits_all : (es : List Errand) (old new : Objects) (ends : Status) → Visited es old.files.visits new.files.visits true → Visits es old new ends
visits_all es old new ends visits = record { within = visited_any es old.files.visits new.files.visits false visits; all = λ at. visits }

-- and of one that was none
pub visits_some : (es : List Errand) (old new : Objects) (ends : Status) → Visited es old.files.visits new.files.visits false → (ends ≡ status.Ok → ⊥) → Visits es old new ends
visits_some es old new ends visits not = record { within = visits; all = λ at. absurd (not at) }

module _ (es : List Errand) (V : Verdict (List ℕ) Refusal) (a b : World) (o o' e e' : SinkState) where
  -- the text
  pub text_written : (text : List ℕ) (ends : Status) → Answered blame_of es V a b (Ok text) → Written status.Ok text o o' ends → e' ≡ e → ObeysErrands es V (objects a o e) (objects b o' e') ends
  text_written text ends answered written same =
      subst (λ (s : SinkState). ObeysErrands es V (objects a o e) (objects b o' s) ends) (sym same) (record {
        ran = ran_whole V a b o o' e text ends answered written;
        visits = visits_all es (objects a o e) (objects b o' e) ends answered.visits;
        not_words = no_words status.Ok text o o' ends (λ is. cc) written.reaches;
      })

  -- the line of a refusal
  pub line_written : (refusal : Refusal) (ends : Status) → (refusal_status refusal ≡ status.Words → ⊥) → Answered blame_of es V a b (Err (Fault refusal)) → Written (refusal_status refusal) (refusal_line refusal ++ 10 ∷ []) e e' ends → o' ≡ o
      → ObeysErrands es V (objects a o e) (objects b o' e') ends
  line_written refusal ends not answered written same =
      subst (λ (s : SinkState). ObeysErrands es V (objects a o e) (objects b s e') ends) (sym same) (record {
        ran = ran_refused V a b o e e' refusal ends answered written;
        visits = visits_some es (objects a o e) (objects b o e') ends answered.visits (not_well (refusal_status refusal) (refusal_line refusal ++ 10 ∷ []) e e' ends (not_ok refusal) written.reaches);
        not_words = no_words (refusal_status refusal) (refusal_line refusal ++ 10 ∷ []) e e' ends not written.reaches;
      })

  -- no memory was found for the answer
  unanswered : Answered blame_of es V a b (Err Memory) → ObeysErrands es V (objects a o e) (objects b o e) status.Memory
  unanswered answered = record { ran = ran_short V a b o e answered; visits = visits_some es (objects a o e) (objects b o e) status.Memory answered.visits (λ at. cc); not_words = λ at. cc }

  pub not_found : (ends : Status) → Answered blame_of es V a b (Err Memory) → ends ≡ status.Memory → o' ≡ o → e' ≡ e → ObeysErrands es V (objects a o e) (objects b o' e') ends
  not_found ends answered is same_out same_err =
      subst (λ (s : Status). ObeysErrands es V (objects a o e) (objects b o' e') s) (sym is)
      (subst (λ (s : SinkState). ObeysErrands es V (objects a o e) (objects b s e') status.Memory) (sym same_out)
      (subst (λ (s : SinkState). ObeysErrands es V (objects a o e) (objects b o s) status.Memory) (sym same_err) (unanswered answered)))

  pub finished : (r : Result (List ℕ) (Or Refusal)) (ends : Status) → Answered blame_of es V a b r → IsOfCommand r → Finishes r o o' e e' ends → ObeysErrands es V (objects a o e) (objects b o' e') ends
  finished (Ok text) ends answered of_command (written, same) = text_written text ends answered written same
  finished (Err (Fault Words)) ends answered of_command finishes = absurd of_command
  finished (Err (Fault LttacWords)) ends answered of_command finishes = absurd of_command
  finished (Err (Fault (NoNode name))) ends answered of_command finishes = absurd of_command
  finished (Err (Fault (Command fault))) ends answered of_command (written, same) = line_written (Command fault) ends (fault_not_words fault) answered written same
  finished (Err (Fault (Observer fault))) ends answered of_command (written, same) = line_written (Observer fault) ends (λ is. cc) answered written same
  finished (Err Memory) ends answered of_command (is, same_out, same_err) = not_found ends answered is same_out same_err

module _ {T E : Type 0} (raise : E → Refusal) (shown : T → List ℕ) (es : List Errand) (V : Verdict T E) (o o' e e' : SinkState) (r : Result (List ℕ) (Or Refusal)) (ends : Status) where
  pub text_obeyed : (a b : World) → AnswersCommand raise shown es V a b r → Finishes r o o' e e' ends → ObeysErrands es (answer_verdict raise shown V) (objects a o e) (objects b o' e') ends
  text_obeyed a b answers finishes = finished es (answer_verdict raise shown V) a b o o' e e' r ends answers.answered answers.of_command finishes

  -- a command that needs no fabric, beside one
  pub beside_obeyed : (a b : FilesState) (w : FabricState) → AnswersCommand raise shown es V (alone a) (alone b) r → Finishes r o o' e e' ends → ObeysErrands es (answer_verdict raise shown V) (objects (world a w) o e) (objects (world b w) o' e') ends
  beside_obeyed a b w answers finishes = finished es (answer_verdict raise shown V) (world a w) (world b w) o o' e e' r ends (beside a b w r answers.answered) answers.of_command finishes
