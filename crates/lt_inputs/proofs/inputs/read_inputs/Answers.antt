use Rattle.std.proofs.Common.{rules}
use Rattle.lt_inputs.specs.Inputs.{inputs_of}
use Rattle.lt_inputs.specs.Told.{ToldWanted}
use Rattle.lt_inputs.proofs.TableFacts.{table-fits}
use Rattle.lt_inputs.proofs.inputs.read_inputs.Goals as goal

pub returns-clause-fit : goal.returns-clause-fit
returns-clause-fit c =
    let told : ToldWanted (inputs_of c.args.main.now c.args.bytes.now) c.read_table.result = search rules in
    (table-fits c.args.main.now c.args.bytes.now c.read_table.result told).0

pub returns-clause-few : goal.returns-clause-few
returns-clause-few c =
    let told : ToldWanted (inputs_of c.args.main.now c.args.bytes.now) c.read_table.result = search rules in
    (table-fits c.args.main.now c.args.bytes.now c.read_table.result told).1
