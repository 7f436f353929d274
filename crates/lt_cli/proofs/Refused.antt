-- A run whose schedule is refused, by its first event that has an offence.
use Rattle.std.proofs.Common.{◌≡◌, ◌≢◌, ◌∙◌, ◌<◌, ◌+◌, ℕ, zero, suc, List, [], ◌∷◌, length, take, Option, Some, None, Result, Ok, Err, refl, sym, ap, subst, inl, inr, arith}
use Rattle.std.specs.Prelude.{slice_get}
use Rattle.lt_arch.specs.declared.event.Event.{Event}
use Rattle.lt_arch.specs.declared.event.Offence.{Offence}
use Rattle.lt_arch.specs.declared.pace.Pace.{Pace}
use Rattle.lt_arch.specs.declared.pace.Pace.TheVariants.{Plain, Lossy, Leader}
use Rattle.lt_arch.specs.declared.shape.Shape.{Shape}
use Rattle.lt_arch.specs.declared.timing.Timing.{Timing}
use Rattle.lt_arch.specs.Paced.{allowed_of}
use Rattle.lt_arch.specs.Schedule.{after_all, first_offence, first_offence_from, numbered_or}
use Rattle.lt_arch.specs.State.{State, start}
use Rattle.lt_arch.specs.Step.{after, offence_of}
use Rattle.lt_answer.specs.World.{World}
use Rattle.lt_rows.specs.Rows.{rows_of}
use Rattle.lt_schedule.specs.declared.fault.ScheduleFault.{ScheduleFault}
use Rattle.lt_schedule.specs.declared.fault.ScheduleFault.TheVariants as halting
use Rattle.lt_schedule.specs.Settled.{settled}
use Rattle.lt_schedule.specs.Verdict.{verdict}
use Rattle.lt_schedule.proofs.Settling.{settles_rows}
use Rattle.lt_load_fit.specs.declared.fault.CommandFault.{CommandFault}
use Rattle.lt_load_fit.specs.declared.fault.CommandFault.TheVariants as fault
use Rattle.lt_load.specs.Plan.{Plan}
use Rattle.lt_evaluate.specs.declared.outputs.Outputs.{Outputs}
use Rattle.lt_run.specs.declared.fault.RunFault.{RunFault}
use Rattle.lt_run.specs.declared.fault.RunFault.TheVariants as run
use Rattle.lt_run.specs.Kinds.{EventsBy, RunEndsBy, fault_by, run_file_verdict, verdict_by}
use Rattle.lt_run.specs.Run.{OutputsShow, ordered_verdict, run_along_verdict, run_verdict}
use Rattle.lt_run.proofs.OneRun.{ordered_decided}
use Rattle.lt_text_lines.specs.ScheduleLines.{offence_line}
use Rattle.lt_text_answers.specs.declared.refusal.Refusal.TheVariants.{Command}
use Rattle.lt_text_answers.specs.declared.status.Status.{Status}
use Rattle.lt_text_answers.specs.declared.status.Status.TheVariants as status
use Rattle.lt_text_answers.specs.Replies.{printed_text}
use Rattle.lt_text_answers.specs.Texts.{fault_line, fault_status}
use Rattle.lt_cli.specs.Clauses.{IsExact}
use Rattle.lt_cli.specs.Headline.{HoldEvents, IsFirstRefused}
use Rattle.lt_cli.specs.Objects.{Objects, world_of}
use Rattle.lt_cli.specs.Taken.{TookLine}

-- the first offence of a list

module _ (s : Shape) (t : Timing) (rows : ℕ) where
  first_from : (events : List Event) (i : ℕ) (st : State) (number : ℕ) (event : Event) (offence : Offence)
      → ((j : ℕ) (e : Event) → j < i → slice_get events j ≡ Some e → offence_of s t (after_all s t rows st (take j events)) e ≡ None)
      → slice_get events i ≡ Some event → offence_of s t (after_all s t rows st (take i events)) event ≡ Some offence
      → first_offence_from s t rows st number events ≡ Some (number + i, offence)
  first_from [] i st number event offence before is found = cc
  first_from (d ∷ events) zero st number event offence before is found =
      let same : d ≡ event = cc in
      let here : offence_of s t st d ≡ Some offence = ap (offence_of s t st) same ∙ found in
      let counted : number ≡ number + 0 = omega arith in
      ap (λ (o : Option Offence). numbered_or number o (first_offence_from s t rows (after s t rows st d) (number + 1) events)) here ∙ ap (λ (n : ℕ). Some (n, offence)) counted
  first_from (d ∷ events) (suc i) st number event offence before is found =
      let none : offence_of s t st d ≡ None = before 0 d (omega arith) refl in
      let later = first_from events i (after s t rows st d) (number + 1) event offence (λ j e low at. before (suc j) e (omega (arith, low)) at) is found in
      let counted : number + 1 + i ≡ number + suc i = omega arith in
      ap (λ (o : Option Offence). numbered_or number o (first_offence_from s t rows (after s t rows st d) (number + 1) events)) none ∙ later ∙ ap (λ (n : ℕ). Some (n, offence)) counted

  first_found : (events : List Event) (i : ℕ) (offence : Offence) → IsFirstRefused s t rows events i offence → first_offence s t rows events ≡ Some (i + 1, offence)
  first_found events i offence first =
      let counted : 1 + i ≡ i + 1 = omega arith in
      first_from events i (start t.protocol) 1 first.event offence first.before first.event_is first.offence_is ∙ ap (λ (n : ℕ). Some (n, offence)) counted

-- the run's refusal

by_pace : (pace : Pace) (s : Shape) (t : Timing) (rows : ℕ) (bytes : List ℕ) (number : ℕ) (offence : Offence) (end : EventsBy pace → Outputs → Type 0) → allowed_of pace ≡ None
    → verdict s t rows bytes ≡ Err (halting.Offence number offence) → RunEndsBy (fault_by pace) end (verdict_by pace s t rows bytes) (Err (run.Offence number offence))
by_pace Plain s t rows bytes number offence end none is = subst (λ (r : Result (List Event) ScheduleFault). RunEndsBy {T = Outputs} (fault_by Plain) end r (Err (run.Offence number offence))) (sym is) refl
by_pace (Lossy losses) s t rows bytes number offence end none is = absurd (cc)
by_pace (Leader leader) s t rows bytes number offence end none is = subst (λ (r : Result (List Event) ScheduleFault). RunEndsBy {T = Outputs} (fault_by (Leader leader)) end r (Err (run.Offence number offence))) (sym is) refl

by_file : (pace : Pace) (s : Shape) (t : Timing) (rows : ℕ) (file : Option (List ℕ)) (bytes : List ℕ) (number : ℕ) (offence : Offence) (end : EventsBy pace → Outputs → Type 0) → file ≡ Some bytes → allowed_of pace ≡ None
    → verdict s t rows bytes ≡ Err (halting.Offence number offence) → run_file_verdict pace end s t rows file (Err (run.Offence number offence))
unfolding run_file_verdict
by_file pace s t rows None bytes number offence end is none read = cc
by_file pace s t rows (Some held) bytes number offence end is none read =
    let same : bytes ≡ held = cc in by_pace pace s t rows held number offence end none (subst (λ (bs : List ℕ). verdict s t rows bs ≡ Err (halting.Offence number offence)) same read)

-- a refusal's line where it names an offence, and no line of any other
offence_told : CommandFault → Option (List ℕ)
offence_told (fault.Program f) = None
offence_told (fault.Config f) = None
offence_told (fault.Place f main) = None
offence_told (fault.Timing f names mixed) = None
offence_told (fault.Window f names) = None
offence_told (fault.Inputs f) = None
offence_told fault.TooManyCells = None
offence_told (fault.Row row f) = None
offence_told (fault.Offence event offence s) = Some (offence_line s event offence)
offence_told (fault.Lossy event offence s) = None
offence_told (fault.Limit what) = None
offence_told fault.Read = None
offence_told fault.Link = None

told_line : (f : CommandFault) (line : List ℕ) → offence_told f ≡ Some line → (fault_status f ≡ status.Schedule) × (fault_line f ≡ line)
unfolding offence_told
told_line (fault.Program f) line is = cc
told_line (fault.Config f) line is = cc
told_line (fault.Place f main) line is = cc
told_line (fault.Timing f names mixed) line is = cc
told_line (fault.Window f names) line is = cc
told_line (fault.Inputs f) line is = cc
told_line fault.TooManyCells line is = cc
told_line (fault.Row row f) line is = cc
told_line (fault.Offence event offence s) line is = (refl, cc)
told_line (fault.Lossy event offence s) line is = cc
told_line (fault.Limit what) line is = cc
told_line fault.Read line is = cc
told_line fault.Link line is = cc

module _ (named : List ℕ → Option (List ℕ)) (program inputs schedule : List ℕ) (config : Option (List ℕ)) (plan : Plan) (s : Shape) (events : List Event) (held : HoldEvents named program inputs schedule config plan s events)
    (i : ℕ) (offence : Offence) (first : IsFirstRefused s plan.setup.timing (length plan.inputs.rows) events i offence) where
  read : verdict s plan.setup.timing (length plan.inputs.rows) held.bytes ≡ Err (halting.Offence (i + 1) offence)
  read =
      settles_rows s plan.setup.timing (length plan.inputs.rows) (length held.bytes) (rows_of held.bytes) events held.reads
      ∙ ap (settled events) (first_found s plan.setup.timing (length plan.inputs.rows) events i offence first)

  abbrev refusal : CommandFault
  refusal = fault.Offence (i + 1) offence s

  module _ (old new : Objects) (ends : Status) (exact : IsExact printed_text (run_verdict named program inputs schedule config (world_of new)) old new ends) where
    right : ordered_verdict named program inputs schedule config new.fabric (Err refusal)
    unfolding ordered_verdict run_along_verdict
    right =
        let along = by_file plan.setup.pace s plan.setup.timing (length plan.inputs.rows) (named schedule) held.bytes (i + 1) offence (OutputsShow plan.checked.program held.layout s plan.setup.timing plan.setup.pace plan.inputs.rows new.fabric)
        held.file held.lossless read in
        inr (plan, held.loaded, (held.layout, s, record { layout = held.laid; shape = held.shaped }, (run.Offence (i + 1) offence, along, refl)))

    one_told : (f : CommandFault) → ordered_verdict named program inputs schedule config new.fabric (Err f) → offence_told f ≡ Some (offence_line s (i + 1) offence)
    unfolding offence_told
    one_told f is =
        (ordered_decided offence_told (λ e g same. refl) (λ e g main main'. refl) (λ e g names names' mixed mixed'. refl) named program inputs schedule config new.fabric).one_kind f refusal is right

    no_value : (x : Outputs) → ordered_verdict named program inputs schedule config new.fabric (Ok x) → ⊥
    unfolding offence_told
    no_value x is =
        (ordered_decided offence_told (λ e g same. refl) (λ e g main main'. refl) (λ e g names names' mixed mixed'. refl) named program inputs schedule config new.fabric).not_both refusal x right is

    not_well : ends ≢ status.Ok
    not_well at = let shown = exact.ok.0 at in no_value shown.0 shown.1

    pub run_refused : (ends ≡ status.Schedule) × TookLine (offence_line s (i + 1) offence) old new
    run_refused =
        let told = exact.line not_well in
        let line = told_line told.0 _ (one_told told.0 told.1.0) in
        (sym told.2 ∙ line.0, subst (λ (text : List ℕ). TookLine text old new) line.1 told.3)
