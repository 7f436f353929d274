use Rattle.std.proofs.Common.{ℕ, ◌==◌, List, length, IsTrue, Result, refl, sym, ap, ◌∙◌, subst}
use Rattle.lt_base.specs.declared.memory.Or.{Or}
use Rattle.lt_answer.specs.Answered.{Settles}
use Rattle.lt_answer.specs.Rules.{Shown}
use Rattle.lt_arch.specs.Schedule.{OnePlace}
use Rattle.lt_io.specs.SinkState.{SinkState}
use Rattle.lt_io.specs.MemSink.{mem_sink_state}
use Rattle.lt_narrow.specs.Narrow.{HasBoundsWithin}
use Rattle.lt_load_fit.specs.declared.fault.CommandFault.{CommandFault}
use Rattle.lt_load.specs.Plan.{LoadedPlan}
use Rattle.lt_text_answers.specs.Texts.{drawing_text}
use Rattle.lt_big.proofs.Drawn.{loaded_sound}
use Rattle.lt_scheduling.specs.Scheduled.{arriving_verdict}
use Rattle.lt_scheduling.specs.Stage.{recorded_text}
use Rattle.lt_scheduling.proofs.Drawn.{arriving_settles}
use Rattle.lt_scheduling.proofs.recorded.draw_arriving.Goals as goal

pub record-recorded-requires-clause-one_place : goal.record-recorded-requires-clause-one_place
record-recorded-requires-clause-one_place c =
    let k : LoadedPlan = record { checked = c.loaded.inside.checked; layout = c.loaded.inside.layout; shape = c.loaded.inside.shape; timing = c.loaded.inside.timing; inputs = c.loaded.inside.inputs; pace = c.loaded.inside.pace } in
    let within : HasBoundsWithin k.timing c.args.timing.now = subst (λ (p : LoadedPlan). HasBoundsWithin p.timing c.args.timing.now) (sym c.loaded.view_is) c.requires.within in
    c.stays_one_place.ensures k.shape k.timing c.args.timing.now c.rows.result within
    (subst (λ (n : ℕ). OnePlace k.shape k.timing n) (sym c.rows.ensures) (loaded_sound k c.loaded.invariant c.networks_are_sound.ensures).one_place)

pub record-recorded-requires-clause-numbered : goal.record-recorded-requires-clause-numbered
record-recorded-requires-clause-numbered c =
    let k : LoadedPlan = record { checked = c.loaded.inside.checked; layout = c.loaded.inside.layout; shape = c.loaded.inside.shape; timing = c.loaded.inside.timing; inputs = c.loaded.inside.inputs; pace = c.loaded.inside.pace } in
    (loaded_sound k c.loaded.invariant c.networks_are_sound.ensures).numbered c.loaded.invariant.few

pub returns : goal.returns
returns c =
    let k : LoadedPlan = record { checked = c.loaded.inside.checked; layout = c.loaded.inside.layout; shape = c.loaded.inside.shape; timing = c.loaded.inside.timing; inputs = c.loaded.inside.inputs; pace = c.loaded.inside.pace } in
    let narrow = c.args.timing.now in
    let within : HasBoundsWithin k.timing narrow = subst (λ (p : LoadedPlan). HasBoundsWithin p.timing narrow) (sym c.loaded.view_is) c.requires.within in
    let quiet : IsTrue (mem_sink_state c.new-sink.result).sound = ap (λ (s : SinkState). s.sound) c.new-sink.ensures.state ∙ ap (λ (l : List ℕ). length l == 0) c.new.ensures in
    let new : SinkState = mem_sink_state c.record-recorded.new.sink in
    let right : Settles (Shown drawing_text (arriving_verdict k.shape k.timing narrow c.rows.result c.args.seed c.args.horizon)) (recorded_text c.record-recorded.result new.taken) =
    arriving_settles k.shape k.timing narrow c.rows.result c.args.seed c.args.horizon (mem_sink_state c.new-sink.result) new (c.record-recorded.ensures.sound quiet) within refl
    (ap (λ (s : SinkState). s.taken) c.new-sink.ensures.state) c.record-recorded.result c.record-recorded.ensures.records c.record-recorded.ensures.sim_shown in
    let counted : Settles (Shown drawing_text (arriving_verdict k.shape k.timing narrow (length k.inputs.rows) c.args.seed c.args.horizon)) (recorded_text c.record-recorded.result new.taken) =
    subst (λ (n : ℕ). Settles (Shown drawing_text (arriving_verdict k.shape k.timing narrow n c.args.seed c.args.horizon)) (recorded_text c.record-recorded.result new.taken)) c.rows.ensures right in
    let viewed : Settles (Shown drawing_text (arriving_verdict c.args.loaded.now.shape c.args.loaded.now.timing narrow (length c.args.loaded.now.inputs.rows) c.args.seed c.args.horizon)) (recorded_text c.record-recorded.result new.taken) =
    subst (λ (p : LoadedPlan). Settles (Shown drawing_text (arriving_verdict p.shape p.timing narrow (length p.inputs.rows) c.args.seed c.args.horizon)) (recorded_text c.record-recorded.result new.taken)) c.loaded.view_is counted in
    subst (λ (r : Result (List ℕ) (Or CommandFault)). Settles (Shown drawing_text (arriving_verdict c.args.loaded.now.shape c.args.loaded.now.timing narrow (length c.args.loaded.now.inputs.rows) c.args.seed c.args.horizon)) r) (sym c.recorded_text.ensures) viewed
