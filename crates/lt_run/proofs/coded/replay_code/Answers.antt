use Rattle.std.proofs.Common.{refl}
use Rattle.lt_machine.specs.contracts.step_machine.StepMachineMachine.TheImpl.{ghosts}
use Rattle.lt_run.proofs.ByCode.{not_coded, printed_code}
use Rattle.lt_run.proofs.coded.replay_code.Goals as goal

pub returns-in_err-machines : goal.returns-in_err-machines
returns-in_err-machines g c = not_coded _ c.args.loaded.now c.args.schedule.now _ _ _ c.from_residual.ensures.1

pub returns : goal.returns
returns g c =
    printed_code (ghosts g.row.G g.G.Operators g.G.Operators-dict g.G.Operators-dict) (record { code = λ m f rows stood. stood.code_of; made = λ m. refl }) c.args.loaded.now c.args.schedule.now _ _ _ _ c.replay.result c.replay.ensures
