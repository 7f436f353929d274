use Rattle.std.proofs.Common.{refl}
use Rattle.lt_machine.specs.contracts.step_machine.StepMachineMachine.TheImpl.{ghosts}
use Rattle.lt_run.proofs.ByCode.{printed_code}
use Rattle.lt_run.proofs.coded.replay_machines.Goals as goal

pub returns : goal.returns
returns g c =
    printed_code (ghosts g.row.G g.G.Operators g.G.Operators-dict g.G.Operators-dict) (record { code = λ m f rows stood. stood.code_of; made = λ m. refl }) c.args.loaded c.args.schedule.now _ _ _ _ c.replay_given.result c.replay_given.ensures
