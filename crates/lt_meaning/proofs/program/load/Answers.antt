use Rattle.std.proofs.Common.{◌∙◌, sym, arith}
use Rattle.std.proofs.lemmas.List.{length-set}
use Rattle.lt_base.specs.Inputs.{entry_at}
use Rattle.lt_meaning.proofs.Columns.{row_next}
use Rattle.lt_meaning.proofs.program.load.Goals as goal

pub loop-x-preserved : goal.loop-x-preserved
loop-x-preserved c =
    let size = c.loop-x.invariant.size in
    let room = c.requires.room in
    let l = c.loop-x-test.true in
    record {
      size = length-set c.loop-x.cells.items c.loop-x.x c.full.result ∙ size;
      row = row_next c.loop-x.cells.items c.loop-x.x c.full.result (entry_at c.args.inputs.now.rows c.args.k) c.loop-x.invariant.row (omega (arith, size, room, l)) (c.value.ensures ∙ sym c.full.ensures);
    }

pub returns-clause-row : goal.returns-clause-row
returns-clause-row c = λ x l. let t = c.loop-x-test.false in c.loop-x.invariant.row x (omega (arith, l, t))
