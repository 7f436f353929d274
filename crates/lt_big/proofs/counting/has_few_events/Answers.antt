use Rattle.std.proofs.Common.{ℕ, sym, subst}
use Rattle.lt_arch.specs.Schedule.{OnePlace}
use Rattle.lt_load.specs.Plan.{LoadedPlan}
use Rattle.lt_big.proofs.Drawn.{loaded_sound}
use Rattle.lt_big.proofs.Short.{tells_at}
use Rattle.lt_big.proofs.counting.has_few_events.Goals as goal

pub ends_in_time-requires-clause-same : goal.ends_in_time-requires-clause-same
ends_in_time-requires-clause-same c =
    let k : LoadedPlan = record { checked = c.loaded.inside.checked; layout = c.loaded.inside.layout; shape = c.loaded.inside.shape; timing = c.loaded.inside.timing; inputs = c.loaded.inside.inputs; pace = c.loaded.inside.pace } in
    (loaded_sound k c.loaded.invariant c.networks_are_sound.ensures).same_nodes

pub ends_in_time-requires-clause-numbered : goal.ends_in_time-requires-clause-numbered
ends_in_time-requires-clause-numbered c =
    let k : LoadedPlan = record { checked = c.loaded.inside.checked; layout = c.loaded.inside.layout; shape = c.loaded.inside.shape; timing = c.loaded.inside.timing; inputs = c.loaded.inside.inputs; pace = c.loaded.inside.pace } in
    (loaded_sound k c.loaded.invariant c.networks_are_sound.ensures).numbered c.loaded.invariant.few

pub ends_in_time-requires-clause-one_place : goal.ends_in_time-requires-clause-one_place
ends_in_time-requires-clause-one_place c =
    let k : LoadedPlan = record { checked = c.loaded.inside.checked; layout = c.loaded.inside.layout; shape = c.loaded.inside.shape; timing = c.loaded.inside.timing; inputs = c.loaded.inside.inputs; pace = c.loaded.inside.pace } in
    subst (λ (n : ℕ). OnePlace k.shape k.timing n) (sym c.rows.ensures) (loaded_sound k c.loaded.invariant c.networks_are_sound.ensures).one_place

pub returns : goal.returns
returns c =
    let k : LoadedPlan = record { checked = c.loaded.inside.checked; layout = c.loaded.inside.layout; shape = c.loaded.inside.shape; timing = c.loaded.inside.timing; inputs = c.loaded.inside.inputs; pace = c.loaded.inside.pace } in
    tells_at k c.args.loaded.now c.loaded.view_is c.args.instants c.rows.result c.horizon.result c.rows.ensures c.horizon.ensures.value c.ends_in_time.result c.ends_in_time.ensures
