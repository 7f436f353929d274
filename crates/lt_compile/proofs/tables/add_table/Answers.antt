use Rattle.std.proofs.Common.{◌<◌, length, subst, arith}
use Rattle.lt_place.specs.declared.layout.Part.{Part}
use Rattle.lt_place.specs.Sizes.{IsCompilable}
use Rattle.lt_compile.proofs.PartRead.{part_read}
use Rattle.lt_compile.proofs.ReadySoFar.{next_machine}
use Rattle.lt_compile.proofs.tables.add_table.Goals as goal

pub table_of-requires : goal.table_of-requires
table_of-requires c =
    let low : c.len.result < length c.args.layout.now.nodes = let len = c.len.ensures in let more = c.requires.more in omega (arith, len, more) in
    subst (λ (q : Part). IsCompilable q.flat.func) (part_read c.args.layout.now _ c.len.result c.index-as_slice-len.result c.as_slice.ensures low c.index-as_slice-len.is) (c.requires.compile c.len.result low)

pub returns-clause-ready : goal.returns-clause-ready
returns-clause-ready c =
    let low : c.len.result < length c.args.layout.now.nodes = let len = c.len.ensures in let more = c.requires.more in omega (arith, len, more) in
    next_machine _ c.args.layout.now c.args.rows c.args.machines.now.items _ c.len.result c.index-as_slice-len.result _ c.in_ok-machine.machine c.as_slice.ensures (let len = c.len.ensures in omega (arith, len)) low c.index-as_slice-len.is c.in_ok-push.ensures.items
    c.requires.ready c.in_ok-machine.ensures
