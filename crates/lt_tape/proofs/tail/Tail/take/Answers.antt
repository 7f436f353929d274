use Rattle.std.proofs.Common.{◌≤◌, length, arith}
use Rattle.lt_tape.proofs.Tailing.{on_ok, tail_took, tail_took_pruned}
use Rattle.lt_tape.proofs.tail.Tail.take.Goals as goal

pub returns-then-self-len-2-clause-takes : goal.returns-then-self-len-2-clause-takes
returns-then-self-len-2-clause-takes c =
    let test = c.if-self-len-2.true in
    let count = c.len-then-self-len.ensures in
    let much : c.args.self.now.most ≤ length c.push.new.self = omega (arith, test, count) in
    on_ok c.prune.result (λ pruned xs is ordered. tail_took_pruned c.args.self.now c.args.stroke c.push.new.self c.in_ok-push.ensures.ok xs is ordered c.prune.new.self much pruned) c.prune.ensures

pub returns-clause-takes : goal.returns-clause-takes
returns-clause-takes c = λ xs is ordered. tail_took c.args.self.now c.args.stroke c.push.new.self c.in_ok-push.ensures.ok xs is ordered
