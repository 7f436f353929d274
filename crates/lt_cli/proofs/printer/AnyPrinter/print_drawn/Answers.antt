use Rattle.std.proofs.Common.{ℕ, sym, subst}
use Rattle.lt_arch.specs.Schedule.{OnePlace}
use Rattle.lt_load.specs.Plan.{LoadedPlan}
use Rattle.lt_big.proofs.Drawn.{loaded_sound}
use Rattle.lt_cli.proofs.Drawn.{records_of, draws_shown}
use Rattle.lt_cli.proofs.printer.AnyPrinter.print_drawn.Goals as goal

pub record-requires-clause-same : goal.record-requires-clause-same
record-requires-clause-same g c =
    let k : LoadedPlan = record { checked = c.loaded.inside.checked; layout = c.loaded.inside.layout; shape = c.loaded.inside.shape; timing = c.loaded.inside.timing; inputs = c.loaded.inside.inputs; pace = c.loaded.inside.pace } in
    (loaded_sound k c.loaded.invariant c.networks_are_sound.ensures).same_nodes

pub record-requires-clause-one_place : goal.record-requires-clause-one_place
record-requires-clause-one_place g c =
    let k : LoadedPlan = record { checked = c.loaded.inside.checked; layout = c.loaded.inside.layout; shape = c.loaded.inside.shape; timing = c.loaded.inside.timing; inputs = c.loaded.inside.inputs; pace = c.loaded.inside.pace } in
    subst (λ (n : ℕ). OnePlace k.shape k.timing n) (sym c.rows.ensures) (loaded_sound k c.loaded.invariant c.networks_are_sound.ensures).one_place

pub record-requires-clause-numbered : goal.record-requires-clause-numbered
record-requires-clause-numbered g c =
    let k : LoadedPlan = record { checked = c.loaded.inside.checked; layout = c.loaded.inside.layout; shape = c.loaded.inside.shape; timing = c.loaded.inside.timing; inputs = c.loaded.inside.inputs; pace = c.loaded.inside.pace } in
    (loaded_sound k c.loaded.invariant c.networks_are_sound.ensures).numbered c.loaded.invariant.few

pub returns-clause-records : goal.returns-clause-records
returns-clause-records g c =
    let k : LoadedPlan = record { checked = c.loaded.inside.checked; layout = c.loaded.inside.layout; shape = c.loaded.inside.shape; timing = c.loaded.inside.timing; inputs = c.loaded.inside.inputs; pace = c.loaded.inside.pace } in
    records_of k c.args.loaded.now c.loaded.view_is c.rows.result c.rows.ensures c.args.seed c.args.horizon _ _ c.record.result c.record.ensures.records

pub returns-clause-shown : goal.returns-clause-shown
returns-clause-shown g c =
    let k : LoadedPlan = record { checked = c.loaded.inside.checked; layout = c.loaded.inside.layout; shape = c.loaded.inside.shape; timing = c.loaded.inside.timing; inputs = c.loaded.inside.inputs; pace = c.loaded.inside.pace } in
    draws_shown k c.args.loaded.now c.loaded.view_is c.args.seed c.args.horizon (loaded_sound k c.loaded.invariant c.networks_are_sound.ensures).one_place c.requires.horizon

pub returns-clause-keeps : goal.returns-clause-keeps
returns-clause-keeps g c =
    let keeps = c.record.ensures.keeps in
    record { sound = keeps.sound; told = keeps.told; steady = c.record.ensures.sound }
