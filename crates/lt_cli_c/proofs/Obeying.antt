-- How the answer to a command of `lttac` ends a call.
use Rattle.std.proofs.Common.{◌≡◌, ℕ, List, [], ◌∷◌, ◌++◌, Result, Ok, Err, refl, sym, subst}
use Rattle.lt_base.specs.declared.memory.Or.{Or}
use Rattle.lt_base.specs.declared.memory.Or.TheVariants.{Fault, Memory}
use Rattle.lt_io.specs.Visits.{Errand}
use Rattle.lt_io.specs.SinkState.{SinkState}
use Rattle.lt_answer.specs.Answered.{Verdict, Answered}
use Rattle.lt_answer.specs.Rules.{Raised}
use Rattle.lt_answer.specs.World.{World}
use Rattle.lt_answer.proofs.Stages.{widened}
use Rattle.lt_load.proofs.Raising.{raised_value, raised_fault}
use Rattle.lt_emit.specs.declared.fault.EmitFault.{EmitFault}
use Rattle.lt_emit.specs.declared.fault.EmitFault.TheVariants as fault
use Rattle.lt_emit.specs.Emitted.{emit_blame}
use Rattle.lt_text_answers.specs.declared.refusal.Refusal.{Refusal}
use Rattle.lt_text_answers.specs.declared.status.Status.{Status}
use Rattle.lt_text_answers.specs.declared.status.Status.TheVariants as status
use Rattle.lt_text_answers.specs.Blamed.{blame_of}
use Rattle.lt_text_answers.specs.Texts.{refusal_line, refusal_status}
use Rattle.lt_text_answers.proofs.Refusals.{not_ok}
use Rattle.lt_cli.specs.Answers.{answer_verdict}
use Rattle.lt_cli.specs.Asked.{Finishes}
use Rattle.lt_cli.specs.Written.{Written}
use Rattle.lt_cli.proofs.Ends.{ran_whole, ran_refused, ran_short}
use Rattle.lt_cli.proofs.Obeyed.{objects, not_well, visits_all, visits_some}
use Rattle.lt_cli_c.specs.Emit.{emit_refusal, emit_reply}
use Rattle.lt_cli_c.specs.LttacAsked.{DoesErrands}

-- a fault blames what its refusal does
same_blame : (f : EmitFault) → blame_of (emit_refusal f) ≡ emit_blame f
same_blame (fault.Command f) = refl
same_blame (fault.NoNode name) = refl

-- what was emitted is its own text
own_text : (V : Verdict (List ℕ) EmitFault) (r : Result (List ℕ) Refusal) → Raised emit_refusal V r → answer_verdict emit_refusal (λ text. text) V r
own_text V (Ok text) right = (text, right, refl)
own_text V (Err refusal) right = right

module _ (es : List Errand) (V : Verdict (List ℕ) EmitFault) (a b : World) where
  raised : (r : Result (List ℕ) (Or EmitFault)) → Answered emit_blame es V a b r → Answered blame_of es (Raised emit_refusal V) a b (emit_reply r)
  raised (Ok text) answered = raised_value emit_refusal emit_blame blame_of same_blame V a b text answered
  raised (Err (Fault f)) answered = raised_fault emit_refusal emit_blame blame_of same_blame V a b (Fault f) (Fault (emit_refusal f)) refl answered
  raised (Err Memory) answered = raised_fault emit_refusal emit_blame blame_of same_blame V a b Memory Memory tt answered

  pub replied : (r : Result (List ℕ) (Or EmitFault)) (q : Result (List ℕ) (Or Refusal)) → q ≡ emit_reply r → Answered emit_blame es V a b r → Answered blame_of es (answer_verdict emit_refusal (λ text. text) V) a b q
  replied r q is answered =
      subst (λ (s : Result (List ℕ) (Or Refusal)). Answered blame_of es (answer_verdict emit_refusal (λ text. text) V) a b s) (sym is)
      (widened (Raised emit_refusal V) (answer_verdict emit_refusal (λ text. text) V) a b (emit_reply r) (own_text V) (raised r answered))

module _ (es : List Errand) (V : Verdict (List ℕ) Refusal) (a b : World) (o o' e e' : SinkState) where
  text_done : (text : List ℕ) (ends : Status) → Answered blame_of es V a b (Ok text) → Written status.Ok text o o' ends → e' ≡ e → DoesErrands es V (objects a o e) (objects b o' e') ends
  text_done text ends answered written same =
      subst (λ (s : SinkState). DoesErrands es V (objects a o e) (objects b o' s) ends) (sym same)
      (record { ran = ran_whole V a b o o' e text ends answered written; visits = visits_all es (objects a o e) (objects b o' e) ends answered.visits })

  line_done : (refusal : Refusal) (ends : Status) → Answered blame_of es V a b (Err (Fault refusal)) → Written (refusal_status refusal) (refusal_line refusal ++ 10 ∷ []) e e' ends → o' ≡ o → DoesErrands es V (objects a o e) (objects b o' e') ends
  line_done refusal ends answered written same =
      subst (λ (s : SinkState). DoesErrands es V (objects a o e) (objects b s e') ends) (sym same) (record {
        ran = ran_refused V a b o e e' refusal ends answered written;
        visits = visits_some es (objects a o e) (objects b o e') ends answered.visits (not_well (refusal_status refusal) (refusal_line refusal ++ 10 ∷ []) e e' ends (not_ok refusal) written.reaches);
      })

  unanswered : Answered blame_of es V a b (Err Memory) → DoesErrands es V (objects a o e) (objects b o e) status.Memory
  unanswered answered = record { ran = ran_short V a b o e answered; visits = visits_some es (objects a o e) (objects b o e) status.Memory answered.visits (λ at. cc) }

  short_done : (ends : Status) → Answered blame_of es V a b (Err Memory) → ends ≡ status.Memory → o' ≡ o → e' ≡ e → DoesErrands es V (objects a o e) (objects b o' e') ends
  short_done ends answered is same_out same_err =
      subst (λ (s : Status). DoesErrands es V (objects a o e) (objects b o' e') s) (sym is)
      (subst (λ (s : SinkState). DoesErrands es V (objects a o e) (objects b o' s) status.Memory) (sym same_err)
      (subst (λ (s : SinkState). DoesErrands es V (objects a o e) (objects b s e) status.Memory) (sym same_out) (unanswered answered)))

  -- the text, the line of a refusal, or nothing for want of memory
  pub answer_done : (r : Result (List ℕ) (Or Refusal)) (ends : Status) → Answered blame_of es V a b r → Finishes r o o' e e' ends → DoesErrands es V (objects a o e) (objects b o' e') ends
  answer_done (Ok text) ends answered (written, same) = text_done text ends answered written same
  answer_done (Err (Fault refusal)) ends answered (written, same) = line_done refusal ends answered written same
  answer_done (Err Memory) ends answered (is, same_out, same_err) = short_done ends answered is same_out same_err
