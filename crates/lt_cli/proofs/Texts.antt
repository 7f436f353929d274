-- A step's answer as a text.
use Rattle.std.proofs.Common.{◌≡◌, ℕ, List, Result, Ok, Err, false, refl, sym, ◌∙◌, subst}
use Rattle.lt_base.specs.Or.{MapsFault}
use Rattle.lt_base.specs.declared.memory.Or.{Or}
use Rattle.lt_base.specs.declared.memory.Or.TheVariants.{Fault, Memory}
use Rattle.lt_io.specs.FabricState.{FabricState, OpensOnce}
use Rattle.lt_io.specs.Visits.{Errand}
use Rattle.lt_io.proofs.Visiting.{visited_any}
use Rattle.lt_answer.specs.Answered.{Verdict}
use Rattle.lt_answer.specs.World.{World, Blame, Blames}
use Rattle.lt_answer.specs.Answered.{Answered, RefusesReading}
use Rattle.lt_answer.proofs.Stages.{widened}
use Rattle.lt_answer.specs.Rules.{Shown}
use Rattle.lt_load_fit.specs.declared.fault.CommandFault.{CommandFault}
use Rattle.lt_load.specs.Blamed.{command_blame}
use Rattle.lt_text_answers.specs.declared.refusal.Refusal.{Refusal}
use Rattle.lt_text_answers.specs.declared.refusal.Refusal.TheVariants.{Command}
use Rattle.lt_text_answers.specs.Blamed.{blame_of}
use Rattle.lt_watch.specs.declared.fault.WatchFault.{WatchFault}
use Rattle.lt_watch.specs.declared.fault.WatchFault.TheVariants as watch
use Rattle.lt_watch.specs.Blamed.{watch_blame}
use Rattle.lt_text_answers.specs.Replies.{watch_refusal}
use Rattle.lt_cli.specs.Answers.{answer_verdict}
use Rattle.lt_text_answers.proofs.Refusals.{watch_blames}
use Rattle.lt_text_answers.specs.Replies.{IsTextBy, IsTextOf}
use Rattle.lt_cli.specs.Answers.{AnswersCommand, AnswersText, IsOfCommand}

-- faults as refusals that blame the same, none of them that of the words
pub record IsRaise {E : Type 0} (raise : E → Refusal) (blame : E → Blame) : Type 0 where
  pub same : (e : E) → blame_of (raise e) ≡ blame e
  pub of_command : (e : E) → IsOfCommand (Err (Fault (raise e)))

module _ {T E : Type 0} (raise : E → Refusal) (blame : E → Blame) (is_raise : IsRaise raise blame) (shown : T → List ℕ) (V : Verdict T E) (a b : World) where
  blamed : RefusesReading blame V → RefusesReading blame_of (answer_verdict raise shown V)
  blamed reading = (raise reading.0, is_raise.same reading.0 ∙ reading.1, (reading.0, reading.2, refl))

  -- it is shown so
  answer_shown : {es : List Errand} (x : T) (text : List ℕ) → Answered blame es V a b (Ok x) → text ≡ shown x → AnswersCommand raise shown es V a b (Ok text)
  answer_shown x text ran is = record {
    answered = record {
      keeps = ran.keeps;
      visits = ran.visits;
      cause = ran.cause;
      exact = λ told calm. (x, ran.exact told calm, is);
      sound = λ told sound rose. blamed (ran.sound told sound rose);
    };
    of_command = tt;
  }

  answer_short : {es : List Errand} (x : T) → Answered blame es V a b (Ok x) → AnswersCommand raise shown es V a b (Err Memory)
  answer_short {es} x ran = record {
    answered = record { keeps = ran.keeps; visits = visited_any es a.files.visits b.files.visits false ran.visits; cause = ran.cause; exact = λ told calm. tt; sound = λ told sound rose. blamed (ran.sound told sound rose) };
    of_command = tt;
  }

  raised : {es : List Errand} (fault : E) → Answered blame es V a b (Err (Fault fault)) → AnswersCommand raise shown es V a b (Err (Fault (raise fault)))
  raised fault ran = record {
    answered = record {
      keeps = ran.keeps;
      visits = ran.visits;
      cause = subst (Blames a b) (sym (is_raise.same fault)) ran.cause;
      exact = λ told calm. (fault, ran.exact told calm, refl);
      sound = λ told sound rose. blamed (ran.sound told sound rose);
    };
    of_command = is_raise.of_command fault;
  }

  -- it was refused, or no memory was found for it
  answer_refused : {es : List Errand} (e : Or E) (e' : Or Refusal) → MapsFault e e' (λ fault refusal. refusal ≡ raise fault) → Answered blame es V a b (Err e) → AnswersCommand raise shown es V a b (Err e')
  answer_refused {es} (Fault fault) (Fault refusal) is ran = subst (λ (r : Refusal). AnswersCommand raise shown es V a b (Err (Fault r))) (sym is) (raised fault ran)
  answer_refused (Fault fault) Memory is ran = absurd is
  answer_refused Memory (Fault refusal) is ran = absurd is
  answer_refused Memory Memory is ran = record {
    answered = record { keeps = ran.keeps; visits = ran.visits; cause = ran.cause; exact = λ told calm. tt; sound = λ told sound rose. blamed (ran.sound told sound rose) };
    of_command = tt;
  }

  -- the answer that is made of a step's
  pub answer_text : {es : List Errand} (r : Result T (Or E)) (r' : Result (List ℕ) (Or Refusal)) → IsTextBy raise shown r r' → Answered blame es V a b r → AnswersCommand raise shown es V a b r'
  answer_text (Ok x) (Ok text) is ran = answer_shown x text ran is
  answer_text (Ok x) (Err (Fault refusal)) is ran = absurd is
  answer_text (Ok x) (Err Memory) is ran = answer_short x ran
  answer_text (Err e) (Ok text) is ran = absurd is
  answer_text (Err e) (Err f) is ran = answer_refused e f is ran

-- it opens the fabric as the step does
pub opens_shown : {T E : Type 0} (raise : E → Refusal) (shown : T → List ℕ) (old new : FabricState) (r : Result T (Or E)) (r' : Result (List ℕ) (Or Refusal)) → IsTextBy raise shown r r' → OpensOnce old new r → OpensOnce old new r'
opens_shown raise shown old new (Ok x) (Ok text) is opens = record { calls = opens.calls; done = opens.done }
opens_shown raise shown old new (Ok x) (Err e) is opens = record { calls = opens.calls; done = tt }
opens_shown raise shown old new (Err e) (Ok text) is opens = absurd is
opens_shown raise shown old new (Err e) (Err f) is opens = record { calls = opens.calls; done = tt }

-- those of a command on its files

pub command_raise : IsRaise (λ fault. Command fault) command_blame
command_raise = record { same = λ e. refl; of_command = λ e. tt }

pub is_text_of : {T : Type 0} (shown : T → List ℕ) (V : Verdict T CommandFault) (a b : World) {es : List Errand} (r : Result T (Or CommandFault)) (r' : Result (List ℕ) (Or Refusal)) → IsTextOf shown r r' → Answered command_blame es V a b r
    → AnswersText shown es V a b r'
is_text_of shown V a b r r' is ran = answer_text (λ fault. Command fault) command_blame command_raise shown V a b r r' is ran

-- a step that answers a text itself

module _ {T E : Type 0} (raise : E → Refusal) (shown : T → List ℕ) (V : Verdict T E) where
  shown_once : (o : Result (List ℕ) Refusal) → answer_verdict raise (λ text. text) (Shown shown V) o → answer_verdict raise shown V o
  shown_once (Ok text) q = (q.1.0, q.1.1, q.2 ∙ q.1.2)
  shown_once (Err refusal) q = (q.0, q.1, q.2)

  pub text_of_text : {es : List Errand} (a b : World) (r : Result (List ℕ) (Or Refusal)) → AnswersCommand raise (λ text. text) es (Shown shown V) a b r → AnswersCommand raise shown es V a b r
  text_of_text a b r answers = record { answered = widened (answer_verdict raise (λ text. text) (Shown shown V)) (answer_verdict raise shown V) a b r shown_once answers.answered; of_command = answers.of_command }

-- those of a watched run
pub watch_raise : IsRaise watch_refusal watch_blame
watch_raise = record { same = watch_blames; of_command = watch_of_command }
  where
    watch_of_command : (e : WatchFault) → IsOfCommand (Err (Fault (watch_refusal e)))
    watch_of_command (watch.Command f) = tt
    watch_of_command (watch.Observer f) = tt
