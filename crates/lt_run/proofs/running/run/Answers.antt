use Rattle.std.proofs.Common.{◌∙◌}
use Rattle.std.specs.Prelude.{option_map}
use Rattle.lt_load.proofs.Steps.{counts_on}
use Rattle.lt_run.specs.Run.{ordered_verdict}
use Rattle.lt_load.proofs.Elsewhere.{answered_near, near_error, near_names, not_loaded_near}
use Rattle.lt_run.proofs.Onward.{not_loaded, loaded_run}
use Rattle.lt_run.proofs.Unloaded.{not_refused}
use Rattle.lt_run.proofs.running.run.Goals as goal

pub returns-in_err-loaded-clause-answered : goal.returns-in_err-loaded-clause-answered
returns-in_err-loaded-clause-answered g c =
    let config = option_map (λ s. s.now) c.args.config in
    let named = (g.F.Files.state c.args.files.now).named in
    answered_near _ _ (ordered_verdict named c.args.program.now c.args.inputs.now c.args.schedule.now config _) _ _ _
    (not_loaded c.args.program.now c.args.inputs.now c.args.schedule.now config _ _ _ _ _ c.from_residual.ensures.1 c.in_err-loaded.ensures)
    (λ told. near_error _ _ _ _ c.from_residual.ensures.1 (not_loaded_near c.args.program.now c.args.inputs.now config _ _ _ _ told _ c.in_err-loaded.ensures))

pub run_whole-requires-clause-count : goal.run_whole-requires-clause-count
run_whole-requires-clause-count g c = counts_on _ _ c.in_ok-loaded.ensures.cause.files c.requires.count

pub returns-clause-answered : goal.returns-clause-answered
returns-clause-answered g c =
    let config = option_map (λ s. s.now) c.args.config in
    let named = (g.F.Files.state c.args.files.now).named in
    let first = c.in_ok-loaded.ensures in
    answered_near _ _ (ordered_verdict named c.args.program.now c.args.inputs.now c.args.schedule.now config _) _ _ _
    (loaded_run c.args.program.now c.args.inputs.now c.args.schedule.now config _ _ _ c.in_ok-loaded.loaded _ _ _ first c.run_whole.ensures.answered)
    (λ told. near_names _ _ c.args.schedule.now _ _ first.keeps.files.named (c.run_whole.ensures.near (first.keeps.files.told ∙ told)))

pub returns-clause-untouched : goal.returns-clause-untouched
returns-clause-untouched g c told e refused =
    absurd (not_refused (g.F.Files.state c.args.files.now) _ c.args.program.now c.args.inputs.now (option_map (λ s. s.now) c.args.config) c.in_ok-loaded.loaded c.in_ok-loaded.ensures told e refused)
