use Rattle.std.proofs.Common.{ℕ, ◌==◌, List, length, IsTrue, Result, refl, sym, ap, ◌∙◌, subst}
use Rattle.lt_base.specs.declared.memory.Or.{Or}
use Rattle.lt_answer.specs.Answered.{Settles}
use Rattle.lt_answer.specs.Rules.{Shown}
use Rattle.lt_io.specs.SinkState.{SinkState}
use Rattle.lt_io.specs.MemSink.{mem_sink_state}
use Rattle.lt_narrow.specs.Narrow.{HasBoundsWithin}
use Rattle.lt_load_fit.specs.declared.fault.CommandFault.{CommandFault}
use Rattle.lt_load.specs.Plan.{LoadedPlan}
use Rattle.lt_big.proofs.Drawn.{loaded_sound}
use Rattle.lt_scheduling.specs.Losses.{listing_text}
use Rattle.lt_scheduling.specs.Scheduled.{losing_verdict}
use Rattle.lt_scheduling.specs.Stage.{recorded_text}
use Rattle.lt_scheduling.proofs.Drawn.{losing_settles}
use Rattle.lt_scheduling.proofs.recorded.draw_losing.Goals as goal

pub lose-recorded-requires-clause-same : goal.lose-recorded-requires-clause-same
lose-recorded-requires-clause-same c =
    let k : LoadedPlan = record { checked = c.loaded.inside.checked; layout = c.loaded.inside.layout; shape = c.loaded.inside.shape; timing = c.loaded.inside.timing; inputs = c.loaded.inside.inputs; pace = c.loaded.inside.pace } in
    let within : HasBoundsWithin k.timing c.args.timing.now = subst (λ (p : LoadedPlan). HasBoundsWithin p.timing c.args.timing.now) (sym c.loaded.view_is) c.requires.within in
    within.count ∙ (loaded_sound k c.loaded.invariant c.networks_are_sound.ensures).same_nodes

pub lose-recorded-requires-clause-numbered : goal.lose-recorded-requires-clause-numbered
lose-recorded-requires-clause-numbered c =
    let k : LoadedPlan = record { checked = c.loaded.inside.checked; layout = c.loaded.inside.layout; shape = c.loaded.inside.shape; timing = c.loaded.inside.timing; inputs = c.loaded.inside.inputs; pace = c.loaded.inside.pace } in
    (loaded_sound k c.loaded.invariant c.networks_are_sound.ensures).numbered c.loaded.invariant.few

pub returns : goal.returns
returns c =
    let k : LoadedPlan = record { checked = c.loaded.inside.checked; layout = c.loaded.inside.layout; shape = c.loaded.inside.shape; timing = c.loaded.inside.timing; inputs = c.loaded.inside.inputs; pace = c.loaded.inside.pace } in
    let narrow = c.args.timing.now in
    let within : HasBoundsWithin k.timing narrow = subst (λ (p : LoadedPlan). HasBoundsWithin p.timing narrow) (sym c.loaded.view_is) c.requires.within in
    let quiet : IsTrue (mem_sink_state c.new-sink.result).sound = ap (λ (s : SinkState). s.sound) c.new-sink.ensures.state ∙ ap (λ (l : List ℕ). length l == 0) c.new.ensures in
    let new : SinkState = mem_sink_state c.lose-recorded.new.sink in
    let right : Settles (Shown listing_text (losing_verdict c.args.limit c.args.loss k.shape k.timing narrow c.rows.result c.args.seed c.args.horizon)) (recorded_text c.lose-recorded.result new.taken) =
    losing_settles k.shape k.timing narrow c.args.limit c.args.loss c.rows.result c.args.seed c.args.horizon (mem_sink_state c.new-sink.result) new (c.lose-recorded.ensures.sound quiet) within c.requires.horizon refl
    (ap (λ (s : SinkState). s.taken) c.new-sink.ensures.state) c.lose-recorded.result c.lose-recorded.ensures.records in
    let counted : Settles (Shown listing_text (losing_verdict c.args.limit c.args.loss k.shape k.timing narrow (length k.inputs.rows) c.args.seed c.args.horizon)) (recorded_text c.lose-recorded.result new.taken) =
    subst (λ (n : ℕ). Settles (Shown listing_text (losing_verdict c.args.limit c.args.loss k.shape k.timing narrow n c.args.seed c.args.horizon)) (recorded_text c.lose-recorded.result new.taken)) c.rows.ensures right in
    let viewed : Settles (Shown listing_text (losing_verdict c.args.limit c.args.loss c.args.loaded.now.shape c.args.loaded.now.timing narrow (length c.args.loaded.now.inputs.rows) c.args.seed c.args.horizon)) (recorded_text c.lose-recorded.result new.taken) =
    subst (λ (p : LoadedPlan). Settles (Shown listing_text (losing_verdict c.args.limit c.args.loss p.shape p.timing narrow (length p.inputs.rows) c.args.seed c.args.horizon)) (recorded_text c.lose-recorded.result new.taken)) c.loaded.view_is counted in
    subst (λ (r : Result (List ℕ) (Or CommandFault)). Settles (Shown listing_text (losing_verdict c.args.limit c.args.loss c.args.loaded.now.shape c.args.loaded.now.timing narrow (length c.args.loaded.now.inputs.rows) c.args.seed c.args.horizon)) r) (sym c.recorded_text.ensures) viewed
