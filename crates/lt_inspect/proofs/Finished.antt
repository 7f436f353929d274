-- A schedule that was taken to its end, and what is told of it.
use Rattle.std.proofs.Common.{◌≡◌, ◌∙◌, ℕ, List, [], Option, Result, Ok, Err, sym, ap, subst}
use Rattle.std.proofs.lemmas.List.{append-nil}
use Rattle.std.specs.Prelude.{IsErrAnd, IfErr, IsTrue}
use Rattle.lt_base.specs.declared.memory.Or.{Or}
use Rattle.lt_base.specs.declared.memory.Or.TheVariants.{Fault, Memory}
use Rattle.lt_arch.specs.declared.event.Event.{Event}
use Rattle.lt_arch.specs.declared.shape.Shape.{Shape}
use Rattle.lt_arch.specs.declared.timing.Timing.{Timing}
use Rattle.lt_answer.specs.World.{World, Blame}
use Rattle.lt_io.specs.Visits.{Errand}
use Rattle.lt_answer.specs.Answered.{Answered, Verdict}
use Rattle.lt_answer.proofs.Stages.{runs_short}
use Rattle.lt_answer.specs.Rules.{Raised}
use Rattle.lt_load_fit.specs.declared.fault.CommandFault.{CommandFault}
use Rattle.lt_load.specs.Blamed.{command_blame}
use Rattle.lt_load.specs.Near.{IsNearCommand}
use Rattle.lt_audit.specs.declared.selection.Selection.{Selection}
use Rattle.lt_audit.specs.Audit.{AuditState}
use Rattle.lt_audit.specs.Standing.{AuditStands}
use Rattle.lt_inspect.specs.declared.audited.Audited.{Audited}
use Rattle.lt_inspect.specs.declared.scene.Scene.{Scene}
use Rattle.lt_inspect.specs.Audits.{AuditIsTold}
use Rattle.lt_inspect.specs.Inspected.{IsAudited, IsTraced, along_scene, schedule_command_fault, inspect_file_verdict, selection_of}
use Rattle.lt_inspect.specs.Inspecting.{IsInspected}
use Rattle.lt_inspect.specs.Traces.{trace_text, trace_header_text}
use Rattle.lt_inspect.proofs.Carried.{told_on, halted_as, none_by, short_on, unreached}
use Rattle.lt_inspect.proofs.Noting.{by_own}
use Rattle.lt_inspect.proofs.ToldFirst.{admissible, is_audited, not_too_many}

-- before the first event
pub inspected_first : (a : AuditState) (s : Shape) (t : Timing) (rows : ℕ) (sel : Selection) (q : Shape) (text : List ℕ) → AuditStands a s t rows [] → text ≡ trace_header_text → q ≡ s → IsInspected a sel q text []
inspected_first a s t rows sel q text stands is tapped = record {
  stands = by_own a s t rows [] stands;
  text_is = is ∙ sym (append-nil trace_header_text);
  tapped = tapped ∙ sym stands.state.shape;
}

module _ (k : Scene) (a : AuditState) (sel : Selection) (q : Shape) (text : List ℕ) (file : Option (List ℕ)) (A B : World) (shape : a.shape ≡ k.shape) (timing : a.watch.timing ≡ k.timing) (rows : a.rows ≡ k.rows) where
  abbrev Before : List Event → Unit {0} → Type 0
  Before events done = IsInspected a sel q text events

  stands_here : (events : List Event) → IsInspected a sel q text events → AuditStands a k.shape k.timing k.rows events
  stands_here events before =
      subst (λ (s : Shape). AuditStands a s k.timing k.rows events) shape (subst (λ (t : Timing). AuditStands a a.shape t k.rows events) timing (subst (λ (n : ℕ). AuditStands a a.shape a.watch.timing n events) rows before.stands))

  -- what is told of the auditor
  pub audited : {es : List Errand} (r : Result Audited (Or CommandFault)) → AuditIsTold a r → Answered command_blame es (Raised (schedule_command_fault k.shape) (inspect_file_verdict Before k.shape k.timing k.rows file)) A B (Ok tt)
      → Answered command_blame es (along_scene (IsAudited k) k file) A B r
  audited (Ok told) is first =
      told_on k.shape k.timing k.rows Before (IsAudited k) file A B told (λ bytes events reads before. is_audited k a bytes events reads (stands_here events before) told is shape) first
  audited (Err (Fault e)) is first =
      unreached k.shape k.timing k.rows Before (IsAudited k) file A B e (ap command_blame is.1) (λ bytes events reads before. not_too_many k a bytes events reads (stands_here events before) is.0) first
  audited (Err Memory) is first = short_on k.shape k.timing k.rows Before (IsAudited k) file A B first

  -- more events than a schedule may have are told of no file that tells its bytes
  pub near_told : {es : List Errand} (r : Result Audited (Or CommandFault)) (place : ℕ) → AuditIsTold a r → IsTrue A.files.told → Answered command_blame es (Raised (schedule_command_fault k.shape) (inspect_file_verdict Before k.shape k.timing k.rows file)) A B (Ok tt)
      → IfErr r (IsNearCommand file place)
  near_told (Ok told) place is tells first = tt
  near_told (Err (Fault e)) place is tells first =
      absurd (none_by k.shape k.timing k.rows Before (IsAudited k) file (λ bytes events reads before. not_too_many k a bytes events reads (stands_here events before) is.0) (first.exact tells first.cause))
  near_told (Err Memory) place is tells first = tt

  -- the text
  pub traced : {es : List Errand} (from to : ℕ) (x : List ℕ) → x ≡ text → sel ≡ selection_of k from to → Answered command_blame es (Raised (schedule_command_fault k.shape) (inspect_file_verdict Before k.shape k.timing k.rows file)) A B (Ok tt)
      → Answered command_blame es (along_scene (IsTraced from to k) k file) A B (Ok x)
  traced from to x is selects first =
      told_on k.shape k.timing k.rows Before (IsTraced from to k) file A B x (λ bytes events reads before. record {
        admissible = admissible k.shape k.timing k.rows bytes events reads;
        text_is = is ∙ before.text_is ∙ (λ i. trace_text (selects i) ((before.tapped ∙ shape) i) events);
      }) first

  pub not_ended : {T : Type 0} {es : List Errand} (end : List Event → T → Type 0) (e : Or CommandFault) (r : Result T (Or CommandFault)) → IsErrAnd r (λ f. f ≡ e)
      → Answered {T = Unit {0}} command_blame es (Raised (schedule_command_fault k.shape) (inspect_file_verdict Before k.shape k.timing k.rows file)) A B (Err e) → Answered command_blame es (along_scene end k file) A B r
  not_ended end e r is first = halted_as k.shape k.timing k.rows Before end file A B e r is first

-- no memory was found
pub ran_short : {T E : Type 0} {blame : E → Blame} {es : List Errand} {V : Verdict T E} (w : World) (r : Result T (Or E)) → IsErrAnd r (λ f. f ≡ Memory) → Answered blame es V w w r
ran_short w (Ok x) is = absurd is
ran_short {T} {E} {blame} {es} {V} w (Err f) is = subst (λ (g : Or E). Answered {T = T} blame es V w w (Err g)) (sym is) (runs_short w)
