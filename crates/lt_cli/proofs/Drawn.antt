-- A drawn schedule, from what was loaded and what was written.
use Rattle.std.proofs.Common.{◌≡◌, ℕ, ◌<◌, ◌≤◌, nat_lt, Bool, true, false, List, [], ◌∷◌, ◌++◌, length, Option, Some, None, Result, Ok, Err, refl, sym, ◌∙◌, subst, arith, inl, inr}
use Rattle.std.specs.Prelude.{if◌then◌else◌}
use Rattle.lt_base.specs.declared.memory.Or.{Or}
use Rattle.lt_base.specs.declared.memory.Or.TheVariants.{Fault, Memory}
use Rattle.lt_arch.specs.declared.event.Event.{Event}
use Rattle.lt_arch.specs.declared.timing.Timing.{Timing}
use Rattle.lt_io.specs.Visits.{Errand}
use Rattle.lt_io.specs.FilesState.{FilesState}
use Rattle.lt_io.specs.FabricState.{FabricState}
use Rattle.lt_io.specs.SinkState.{SinkState, KeepsSink}
use Rattle.lt_answer.specs.World.{IsCalm, alone, world}
use Rattle.lt_answer.specs.Answered.{Answered, RefusesReading}
use Rattle.lt_answer.proofs.Stages.{beside}
use Rattle.lt_arch.specs.declared.pace.Pace.{Pace}
use Rattle.lt_lead.specs.Paced.{IsShapeBy}
use Rattle.lt_load_fit.specs.declared.fault.CommandFault.{CommandFault}
use Rattle.lt_load.specs.Blamed.{command_blame}
use Rattle.lt_load.specs.Errands.{load_errands}
use Rattle.lt_load.specs.Plan.{LoadedPlan, IsLoadedFrom, Plan, Loads}
use Rattle.lt_load.specs.Pacing.{plain_load_verdict}
use Rattle.lt_base.specs.Inputs.{InputTable}
use Rattle.lt_arch.specs.declared.limits.TheConstants.{GREATEST_TIME}
use Rattle.lt_arch.specs.Schedule.{OnePlace}
use Rattle.lt_sim.specs.Drawn.{drawn}
use Rattle.lt_sim.proofs.Shown.{shown}
use Rattle.lt_sim.specs.File.{file_text, schedule_text}
use Rattle.lt_sim.specs.declared.fault.SimFault.{SimFault}
use Rattle.lt_sim.specs.declared.fault.SimFault.TheVariants as sim
use Rattle.lt_sim.specs.Recorded.{IsRecorded, IsBroken, AreTooManyEvents, Records, WritesFrontOf}
use Rattle.lt_text_answers.specs.declared.refusal.Refusal.{Refusal}
use Rattle.lt_text_answers.specs.declared.refusal.Refusal.TheVariants.{Command}
use Rattle.lt_text_answers.specs.declared.status.Status.{Status}
use Rattle.lt_text_answers.specs.declared.status.Status.TheVariants as status
use Rattle.lt_text_answers.specs.Blamed.{blame_of}
use Rattle.lt_text_answers.specs.Texts.{status_of, refusal_status, refusal_line, drawing_text}
use Rattle.lt_cli.specs.Written.{Written}
use Rattle.lt_cli.specs.Objects.{Objects, KeepsSteady, world_of}
use Rattle.lt_load_fit.specs.Rows.{too_many_events}
use Rattle.lt_text_answers.specs.Draws.{Drawing, ShowsDrawing, drawing, plan_drawn_verdict, recorded_status, sim_verdict}
use Rattle.lt_cli.specs.Answers.{text_verdict}
use Rattle.lt_cli.specs.Drawing.{DrawsShown}
use Rattle.lt_cli.specs.Ran.{Reported, OutcomeBlames}
use Rattle.lt_cli.specs.Ran.{printed, both_whole, out_broke, err_broke, both_short}
use Rattle.lt_cli.specs.Asked.{FinishesDrawn, IsReported, drawn_outcome, shown_drawing}
use Rattle.lt_cli.specs.Obeys.{ObeysErrands}
use Rattle.lt_text_answers.proofs.Refusals.{fault_not_words}
use Rattle.lt_cli.proofs.Ends.{took_nothing, front_of_none, keeps_sink, line_reported}
use Rattle.lt_cli.proofs.Obeyed.{objects, visits_all, line_written, not_found}

-- what is right of the verdict is right of its text
shown_right : (named : List ℕ → Option (List ℕ)) (program inputs config : List ℕ) (seed horizon : ℕ) (r : Result Drawing CommandFault) → sim_verdict named program inputs config seed horizon r
    → text_verdict drawing_text (sim_verdict named program inputs config seed horizon) (shown_drawing r)
shown_right named program inputs config seed horizon (Ok d) right = (d, right, refl)
shown_right named program inputs config seed horizon (Err f) right = (f, right, refl)

-- the outcome of a limited list blames nobody outside, and not the words
limited_calm : (b : Bool) (d : Drawing) (old new : Objects) → IsCalm (world_of old) (world_of new) → OutcomeBlames old new (shown_drawing (if b then Err too_many_events else Ok d))
limited_calm true d old new calm = calm
limited_calm false d old new calm = calm

limited_not_words : (b : Bool) (d : Drawing) → status_of (shown_drawing (if b then Err too_many_events else Ok d)) ≡ status.Words → ⊥
limited_not_words true d is = cc
limited_not_words false d is = cc

reported_not_words : (outcome : Result (List ℕ) Refusal) (old new : Objects) (ends : Status) → (status_of outcome ≡ status.Words → ⊥) → Reported outcome old new ends → ends ≡ status.Words → ⊥
reported_not_words outcome old new ends not (both_whole is out err) at = not (sym is ∙ at)
reported_not_words outcome old new ends not (out_broke is out err) at = cc
reported_not_words outcome old new ends not (err_broke is out err) at = cc
reported_not_words outcome old new ends not (both_short is out err) at = cc

module _ (named : List ℕ → Option (List ℕ)) (program inputs config : List ℕ) (seed horizon : ℕ) where
  abbrev loads : Result LoadedPlan CommandFault → Type 0
  loads = Loads (plain_load_verdict named program inputs config)

  abbrev errands : List Errand
  errands = load_errands program inputs (Some config)

  abbrev texts : Result (List ℕ) Refusal → Type 0
  texts = text_verdict drawing_text (sim_verdict named program inputs config seed horizon)

  -- what is drawn of a loaded plan is drawn of the plan
  loaded_drawn : (k : LoadedPlan) (p : Plan) → IsLoadedFrom p k → DrawsShown k seed horizon → plan_drawn_verdict seed horizon p (drawing k.shape k.timing (length k.inputs.rows) seed horizon)
  unfolding plan_drawn_verdict
  loaded_drawn k p from shows = (
    k.layout,
    k.shape,
    record { layout = from.layout; shape = subst (λ (p : Pace × Timing). IsShapeBy k.layout p.0 p.1 k.shape) (λ i. (from.pace i, from.timing i)) from.shape },
    λ i. drawing k.shape (sym from.timing i) (length (sym from.inputs i).rows) seed horizon,
    subst (λ (q : Timing × InputTable). ShowsDrawing k.shape q.0 (length q.1.rows) horizon (drawing k.shape k.timing (length k.inputs.rows) seed horizon)) (λ i. (from.timing i, from.inputs i)) shows,
  )

  drawn_right : (k : LoadedPlan) → DrawsShown k seed horizon → loads (Ok k) → texts (drawn_outcome k seed horizon)
  unfolding sim_verdict
  drawn_right k shows (p, right, from) = shown_right named program inputs config seed horizon (drawing k.shape k.timing (length k.inputs.rows) seed horizon) (inr (p, right, loaded_drawn k p from shows))

  refused_right : (f : CommandFault) → loads (Err f) → texts (Err (Command f))
  unfolding sim_verdict
  refused_right f right = (f, inl right, refl)

  blamed : RefusesReading command_blame loads → RefusesReading blame_of texts
  blamed (f, is, right) = (Command f, is, refused_right f right)

  module _ (a b : FilesState) (w : FabricState) (o o' e e' : SinkState) (ends : Status) where
    loaded_obeyed : (k : LoadedPlan) → Answered command_blame errands loads (world a w) (world b w) (Ok k) → IsReported (drawn_outcome k seed horizon) o o' e e' ends × DrawsShown k seed horizon → ObeysErrands errands texts (objects (world a w) o e) (objects (world b w) o' e') ends
    loaded_obeyed k answered (finish, shows) =
        let old = objects (world a w) o e in
        let new = objects (world b w) o' e' in
        let events : List Event = drawn k.shape k.timing (length k.inputs.rows) seed horizon in
        let d : Drawing = record { shape = k.shape; events = events } in
        record {
          ran = record {
            keeps = record { world = answered.keeps; out = finish.out_keeps; err = finish.err_keeps };
            outcome = printed (record {
              outcome = drawn_outcome k seed horizon;
              cause = limited_calm (nat_lt 5000000 (length events)) d old new answered.cause;
              right = λ told calm. drawn_right k shows (answered.exact told calm);
              reported = finish.reported a b w w;
            });
            sound = λ told sound rose. blamed (answered.sound told sound rose);
          };
          visits = visits_all errands old new ends answered.visits;
          not_words = reported_not_words (drawn_outcome k seed horizon) old new ends (limited_not_words (nat_lt 5000000 (length events)) d) (finish.reported a b w w);
        }

    refused_answered : (f : CommandFault) → Answered command_blame errands loads (world a w) (world b w) (Err (Fault f)) → Answered blame_of errands texts (world a w) (world b w) (Err (Fault (Command f)))
    refused_answered f answered = record {
      keeps = answered.keeps;
      visits = answered.visits;
      cause = answered.cause;
      exact = λ told calm. refused_right f (answered.exact told calm);
      sound = λ told sound rose. blamed (answered.sound told sound rose);
    }

    short_answered : Answered command_blame errands loads (world a w) (world b w) (Err Memory) → Answered blame_of errands texts (world a w) (world b w) (Err Memory)
    short_answered answered = record { keeps = answered.keeps; visits = answered.visits; cause = answered.cause; exact = λ told calm. tt; sound = λ told sound rose. blamed (answered.sound told sound rose) }

    obeyed : (r : Result LoadedPlan (Or CommandFault)) → Answered command_blame errands loads (world a w) (world b w) r → FinishesDrawn r seed horizon o o' e e' ends → ObeysErrands errands texts (objects (world a w) o e) (objects (world b w) o' e') ends
    obeyed (Ok k) answered finish = loaded_obeyed k answered finish
    obeyed (Err (Fault f)) answered (written, same) = line_written errands texts (world a w) (world b w) o o' e e' (Command f) ends (fault_not_words f) (refused_answered f answered) written same
    obeyed (Err Memory) answered (is, same_out, same_err) = not_found errands texts (world a w) (world b w) o o' e e' ends (short_answered answered) is same_out same_err

    pub drawn_obeyed : (r : Result LoadedPlan (Or CommandFault)) → Answered command_blame errands loads (alone a) (alone b) r → FinishesDrawn r seed horizon o o' e e' ends → ObeysErrands errands texts (objects (world a w) o e) (objects (world b w) o' e') ends
    drawn_obeyed r answered finish = obeyed r (beside a b w r answered) finish

-- what was drawn reads back

draws_by : (k : LoadedPlan) (seed horizon : ℕ) → OnePlace k.shape k.timing (length k.inputs.rows) → horizon ≤ GREATEST_TIME → (b : Bool) → nat_lt 5000000 (length (drawn k.shape k.timing (length k.inputs.rows) seed horizon)) ≡ b
    → ShowsDrawing k.shape k.timing (length k.inputs.rows) horizon (if b then Err too_many_events else Ok (record { shape = k.shape; events = drawn k.shape k.timing (length k.inputs.rows) seed horizon }))
draws_by k seed horizon one within true many = tt
draws_by k seed horizon one within false few =
    let events : List Event = drawn k.shape k.timing (length k.inputs.rows) seed horizon in
    let within_limit : length events ≤ 5000000 = grind (arith, few) in
    shown k.shape k.timing (length k.inputs.rows) seed horizon one within within_limit

pub draws_shown : (k j : LoadedPlan) → k ≡ j → (seed horizon : ℕ) → OnePlace k.shape k.timing (length k.inputs.rows) → horizon ≤ GREATEST_TIME → DrawsShown j seed horizon
draws_shown k j view seed horizon one within = subst (λ (p : LoadedPlan). DrawsShown p seed horizon) view (draws_by k seed horizon one within _ refl)

-- what was written

few_limited : (n : ℕ) → n ≤ 5000000 → nat_lt 5000000 n ≡ false
few_limited n few = grind arith

many_limited : (n : ℕ) → 5000000 < n → nat_lt 5000000 n ≡ true
many_limited n many = grind arith

module _ (k : LoadedPlan) (seed horizon : ℕ) (o o' e : SinkState) where
  abbrev events : List Event
  events = drawn k.shape k.timing (length k.inputs.rows) seed horizon

  -- the outcome by whether the list has too many events
  abbrev outcome_by : Bool → Result (List ℕ) Refusal
  outcome_by b = shown_drawing (if b then Err too_many_events else Ok (record { shape = k.shape; events = events }))

  abbrev Reports : Bool → SinkState → Status → Type 0
  Reports b e' ends = IsReported (outcome_by b) o o' e e' ends

  pub recorded : (count : ℕ) → IsRecorded k.shape events o o' count → KeepsSteady o o' → IsReported (drawn_outcome k seed horizon) o o' e e status.Ok
  recorded count is keeps =
      let whole : Reports false e status.Ok = record {
        out_keeps = keeps;
        err_keeps = keeps_sink e;
        reported = λ f f' w w'. both_whole refl (record { counted = is.written.counted; taken = is.written.taken }) (took_nothing e);
      } in
      subst (λ (b : Bool). Reports b e status.Ok) (sym (few_limited (length events) is.few)) whole

  pub broken : IsBroken k.shape events o o' → KeepsSteady o o' → IsReported (drawn_outcome k seed horizon) o o' e e status.Write
  broken is keeps =
      let broke : Reports false e status.Write = record {
        out_keeps = keeps;
        err_keeps = keeps_sink e;
        reported = λ f f' w w'. out_broke refl (record { counted = is.written.counted; taken = is.written.taken }) (took_nothing e);
      } in
      subst (λ (b : Bool). Reports b e status.Write) (sym (few_limited (length events) is.few)) broke

  short_by : (b : Bool) → WritesFrontOf (if b then [] else file_text k.shape events) o o' → KeepsSteady o o' → Reports b e status.Memory
  short_by true front keeps = record {
    out_keeps = keeps;
    err_keeps = keeps_sink e;
    reported = λ f f' w w'. both_short refl (record { counted = front.counted; taken = front.taken }) (front_of_none _ e);
  }
  short_by false front keeps = record {
    out_keeps = keeps;
    err_keeps = keeps_sink e;
    reported = λ f f' w w'. both_short refl (record { counted = front.counted; taken = front.taken }) (front_of_none [] e);
  }

  pub short : WritesFrontOf (schedule_text k.shape events) o o' → KeepsSteady o o' → IsReported (drawn_outcome k seed horizon) o o' e e status.Memory
  short front keeps = short_by (nat_lt 5000000 (length events)) front keeps

  pub refused : (e' : SinkState) (refusal : Refusal) (ends : Status) → refusal ≡ Command too_many_events → AreTooManyEvents events o o' → Written (refusal_status refusal) (refusal_line refusal ++ 10 ∷ []) e e' ends
      → IsReported (drawn_outcome k seed horizon) o o' e e' ends
  refused e' refusal ends same is written =
      let line : Written status.Limit (refusal_line (Command too_many_events) ++ 10 ∷ []) e e' ends = subst (λ (r : Refusal). Written (refusal_status r) (refusal_line r ++ 10 ∷ []) e e' ends) same written in
      let untaken : IsReported (outcome_by true) o o e e' ends = record {
        out_keeps = keeps_sink o;
        err_keeps = line.keeps;
        reported = λ f f' w w'. line_reported (world f w) (world f' w') (Command too_many_events) o e e' ends line.reaches;
      } in
      subst (λ (b : Bool). Reports b e' ends) (sym (many_limited (length events) is.many)) (subst (λ (s : SinkState). IsReported (outcome_by true) o s e e' ends) (sym is.unchanged) untaken)

  abbrev ReportsAll : Status → Type 0
  ReportsAll ends = IsReported (drawn_outcome k seed horizon) o o' e e ends

  -- the status that is left
  at_status : (s ends : Status) → ReportsAll s → Some s ≡ Some ends → ReportsAll ends
  at_status s ends reports is = let same : s ≡ ends = cc in subst ReportsAll same reports

  -- it was written, whole or in part
  pub recorded_ends : (r : Result ℕ (Or SimFault)) (ends : Status) → Records k.shape events o o' r → KeepsSteady o o' → recorded_status r ≡ Some ends → ReportsAll ends
  recorded_ends (Ok count) ends records keeps is = at_status status.Ok ends (recorded count records keeps) is
  recorded_ends (Err (Fault sim.Write)) ends records keeps is = at_status status.Write ends (broken records keeps) is
  recorded_ends (Err (Fault sim.TooMany)) ends records keeps is = absurd (cc)
  recorded_ends (Err Memory) ends records keeps is = at_status status.Memory ends (short records keeps) is

  -- it is refused
  pub refusal_ends : (r : Result ℕ (Or SimFault)) (e' : SinkState) (refusal : Refusal) (ends : Status) → Records k.shape events o o' r → recorded_status r ≡ None → refusal ≡ Command too_many_events
      → Written (refusal_status refusal) (refusal_line refusal ++ 10 ∷ []) e e' ends → IsReported (drawn_outcome k seed horizon) o o' e e' ends
  refusal_ends (Ok count) e' refusal ends records is same written = absurd (cc)
  refusal_ends (Err (Fault sim.Write)) e' refusal ends records is same written = absurd (cc)
  refusal_ends (Err (Fault sim.TooMany)) e' refusal ends records is same written = refused e' refusal ends same records written
  refusal_ends (Err Memory) e' refusal ends records is same written = absurd (cc)

-- a recording ends a call for want of memory only where it found none
pub drawn_short : (r : Result ℕ (Or SimFault)) (ends : Status) → recorded_status r ≡ Some ends → ends ≡ status.Memory → r ≡ Err Memory
drawn_short (Ok count) ends is at = absurd (cc)
drawn_short (Err (Fault sim.Write)) ends is at = absurd (cc)
drawn_short (Err (Fault sim.TooMany)) ends is at = absurd (cc)
drawn_short (Err Memory) ends is at = refl

-- what was recorded of a loaded plan, seen as its type shows it
pub records_of : (k j : LoadedPlan) → k ≡ j → (rows : ℕ) → rows ≡ length k.inputs.rows → (seed horizon : ℕ) (o o' : SinkState) (r : Result ℕ (Or SimFault))
    → Records k.shape (drawn k.shape k.timing rows seed horizon) o o' r → Records j.shape (drawn j.shape j.timing (length j.inputs.rows) seed horizon) o o' r
records_of k j view rows counted seed horizon o o' r records =
    subst (λ (p : LoadedPlan). Records p.shape (drawn p.shape p.timing (length p.inputs.rows) seed horizon) o o' r) view
    (subst (λ (n : ℕ). Records k.shape (drawn k.shape k.timing n seed horizon) o o' r) counted records)
