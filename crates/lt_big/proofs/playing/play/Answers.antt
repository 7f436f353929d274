use Rattle.std.proofs.Common.{◌≡◌, ◌≤◌, ℕ, length, Ok, Err, refl, sym, subst}
use Rattle.lt_io.specs.declared.fault.LinkErr.{LinkErr}
use Rattle.lt_sim.specs.Drawn.{drawn}
use Rattle.lt_rows.specs.Limits.{most_events}
use Rattle.lt_load.specs.Plan.{LoadedPlan}
use Rattle.lt_run.specs.Drawn.{HasRunList}
use Rattle.lt_big.specs.Big.{events_of}
use Rattle.lt_big.proofs.Along.{taken_along, link_along, memory_along, ends_there}
use Rattle.lt_big.proofs.playing.play.Goals as goal

pub run_drawn-requires-clause-few : goal.run_drawn-requires-clause-few
run_drawn-requires-clause-few g c =
    let k : LoadedPlan = c.args.loaded.now in
    subst (λ (h : ℕ). length (drawn k.shape k.timing (length k.inputs.rows) c.args.instants h) ≤ most_events) (sym c.horizon.ensures.value) c.requires.few

pub returns-in-Ok-clause-answered : goal.returns-in-Ok-clause-answered
returns-in-Ok-clause-answered g c =
    let k : LoadedPlan = c.args.loaded.now in
    let old = g.W.Fabric.state c.args.fabric.now in
    let new = g.W.Fabric.state c.run_drawn.new.fabric in
    taken_along c.args.instants k old new c.requires.few (ends_there k k refl c.invariant_holds.ensures c.networks_are_sound.ensures c.args.instants c.horizon.result c.horizon.ensures.value c.horizon.ensures.range) c.in-Ok.outputs
    (subst (λ (h : ℕ). HasRunList k (drawn k.shape k.timing (length k.inputs.rows) c.args.instants h) old new (Ok c.in-Ok.outputs)) c.horizon.ensures.value c.in-Ok.ensures)

pub returns-in-Err-Failed-clause-answered : goal.returns-in-Err-Failed-clause-answered
returns-in-Err-Failed-clause-answered g c =
    let k : LoadedPlan = c.args.loaded.now in
    let old = g.W.Fabric.state c.args.fabric.now in
    let new = g.W.Fabric.state c.run_drawn.new.fabric in
    link_along c.args.instants k old new
    (subst (λ (e : LinkErr). HasRunList k (events_of c.args.instants k.shape k.timing (length k.inputs.rows)) old new (Err e)) c.in-Err-Failed.field-0-is
    (subst (λ (h : ℕ). HasRunList k (drawn k.shape k.timing (length k.inputs.rows) c.args.instants h) old new (Err c.in-Err-Failed.field-0)) c.horizon.ensures.value c.in-Err-Failed.ensures))

pub returns-in-Err-Memory-clause-answered : goal.returns-in-Err-Memory-clause-answered
returns-in-Err-Memory-clause-answered g c =
    let k : LoadedPlan = c.args.loaded.now in
    let old = g.W.Fabric.state c.args.fabric.now in
    let new = g.W.Fabric.state c.run_drawn.new.fabric in
    memory_along c.args.instants k old new
    (subst (λ (e : LinkErr). HasRunList k (events_of c.args.instants k.shape k.timing (length k.inputs.rows)) old new (Err e)) c.in-Err-Memory.field-0-is
    (subst (λ (h : ℕ). HasRunList k (drawn k.shape k.timing (length k.inputs.rows) c.args.instants h) old new (Err c.in-Err-Memory.field-0)) c.horizon.ensures.value c.in-Err-Memory.ensures))
