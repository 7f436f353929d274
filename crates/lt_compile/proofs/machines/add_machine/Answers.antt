use Rattle.std.proofs.Common.{◌<◌, length, subst, arith}
use Rattle.lt_place.specs.declared.layout.Part.{Part}
use Rattle.lt_place.specs.Sizes.{IsCompilable}
use Rattle.lt_compile.proofs.PartRead.{part_read}
use Rattle.lt_compile.proofs.ReadySoFar.{next_machine}
use Rattle.lt_compile.proofs.machines.add_machine.Goals as goal

pub compile_part-requires : goal.compile_part-requires
compile_part-requires g c =
    let low : c.len.result < length c.args.layout.now.nodes = let len = c.len.ensures in let more = c.requires.more in omega (arith, len, more) in
    subst (λ (q : Part). IsCompilable q.flat.func) (part_read c.args.layout.now _ c.len.result c.index-deref-len.result c.deref.ensures low c.index-deref-len.is) (c.requires.compile c.len.result low)

pub returns-clause-ready : goal.returns-clause-ready
returns-clause-ready g c =
    let low : c.len.result < length c.args.layout.now.nodes = let len = c.len.ensures in let more = c.requires.more in omega (arith, len, more) in
    next_machine _ c.args.layout.now c.args.rows c.args.machines.now.items _ c.len.result c.index-deref-len.result _ c.in_ok-machine.machine c.deref.ensures (let len = c.len.ensures in omega (arith, len)) low c.index-deref-len.is c.in_ok-push.ensures.items
    c.requires.ready (record { stand = c.in_ok-machine.ensures.stands; unmade = c.in_ok-machine.ensures.made; enough = let left = c.in_ok-machine.ensures.left in omega (arith, left) })
