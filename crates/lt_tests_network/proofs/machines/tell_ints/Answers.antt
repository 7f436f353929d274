use Rattle.std.proofs.Common.{◌∙◌, [], arith}
use Rattle.lt_tests_network.proofs.machines.tell_ints.Goals as goal

pub loop-x-init : goal.loop-x-init
loop-x-init g c =
    let numbers = g.met.M.Machine.numbers c.args.machine.now c.args.function.now [] c.requires.stands in
    record {
      left = let left = c.requires.left in omega (arith, left);
      inputs = numbers.0 ∙ c.requires.inputs;
      outputs = numbers.1 ∙ c.requires.outputs;
    }
