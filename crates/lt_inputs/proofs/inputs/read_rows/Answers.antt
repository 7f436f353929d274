use Rattle.std.proofs.Common.{◌≡◌, ◌+◌, ◌++◌, ◌∷◌, [], Some, length, length-append, arith, ap, sym, ◌∙◌}
use Rattle.csv.specs.Records.{fields_of}
use Rattle.lt_inputs.specs.Inputs.{input_rows_from}
use Rattle.lt_inputs.specs.Records.{rest_of}
use Rattle.lt_inputs.proofs.TableSteps.{some_more, after-nil, rows-end, rows-unequal, rows-more, rows-past, told-table, told-fault, told-row}
use Rattle.lt_inputs.proofs.TableFacts.{row-fits}
use Rattle.lt_inputs.proofs.inputs.read_rows.Goals as goal

pub loop-n-init : goal.loop-n-init
loop-n-init c = record {
  stands = c.requires.stands;
  width = grind arith;
  count = grind arith;
  rest = rw c.in_ok-table.ensures (after-nil (input_rows_from c.args.ins.now 1 (rest_of c.args.reader.now)));
}

pub returns-in-End : goal.returns-in-End
returns-in-End c =
    let ins = c.args.ins.now in
    let before = c.loop-n.invariant in
    let step = rw c.in-End.is at (c.in_ok-advance.ensures (Some (length ins + 1)) before.stands) in
    told-table ins (input_rows_from ins 1 (rest_of c.args.reader.now)) c.loop-n.table before.width
    (before.rest ∙ rows-end ins c.loop-n.table.rows c.loop-n.n (rest_of c.loop-n.reader) step)

pub returns-in-OtherLength : goal.returns-in-OtherLength
returns-in-OtherLength c =
    let ins = c.args.ins.now in
    let before = c.loop-n.invariant in
    let (r, rest, is, differs) = rw c.in-OtherLength.is at (c.in_ok-advance.ensures (Some (length ins + 1)) before.stands) in
    rw c.at_row.ensures (told-fault ins (input_rows_from ins 1 (rest_of c.args.reader.now)) _
    (before.rest ∙ rows-unequal ins c.loop-n.table.rows c.loop-n.n (rest_of c.loop-n.reader) r rest c.loop-n-test.true is differs))

pub read_row-requires-clause-width : goal.read_row-requires-clause-width
read_row-requires-clause-width c =
    let step = rw c.in-Found.is at (c.in_ok-advance.ensures (Some (length c.args.ins.now + 1)) c.loop-n.invariant.stands) in
    step.1

pub returns-in-Err : goal.returns-in-Err
returns-in-Err c =
    let ins = c.args.ins.now in
    let before = c.loop-n.invariant in
    let step = rw c.in-Found.is at (c.in_ok-advance.ensures (Some (length ins + 1)) before.stands) in
    rw c.at_row-in-Err.ensures (told-row ins (input_rows_from ins 1 (rest_of c.args.reader.now)) c.loop-n.table.rows c.loop-n.n (rest_of c.loop-n.reader)
    (fields_of c.advance.new.row) (rest_of c.advance.new.reader) c.in-Err.fault c.read_row.new.values.items before.rest step.0 c.in-Err.ensures)

pub push-requires-clause-width : goal.push-requires-clause-width
push-requires-clause-width c =
    let read = row-fits c.args.ins.now (c.loop-n.n + 1) (fields_of c.advance.new.row) c.read_row.new.values.items c.in_default.ensures in
    ap length c.deref.ensures.value ∙ read.1.1 ∙ sym c.loop-n.invariant.width

pub loop-n-preserved : goal.loop-n-preserved
loop-n-preserved c =
    let ins = c.args.ins.now in
    let before = c.loop-n.invariant in
    let step = rw c.in-Found.is at (c.in_ok-advance.ensures (Some (length ins + 1)) before.stands) in
    let rows : c.push.new.self.rows ≡ c.loop-n.table.rows ++ c.read_row.new.values.items ∷ [] = rw c.deref.ensures.value at c.in_ok-push.ensures.ok in
    record {
      stands = rw step.1 at step.2;
      width = c.push.ensures.width ∙ before.width;
      count = ap length rows ∙ length-append c.loop-n.table.rows (c.read_row.new.values.items ∷ []) ∙ ap (λ k. k + 1) before.count;
      rest = rw rows (before.rest ∙ rows-more ins c.loop-n.table.rows c.loop-n.n (rest_of c.loop-n.reader) (fields_of c.advance.new.row) (rest_of c.advance.new.reader)
          c.read_row.new.values.items step.0 c.in_default.ensures);
    }

pub returns-in-End-2 : goal.returns-in-End-2
returns-in-End-2 c =
    let ins = c.args.ins.now in
    let before = c.loop-n.invariant in
    let step = rw c.in-End-2.is at (c.in_ok-advance-2.ensures (Some (length ins + 1)) before.stands) in
    told-table ins (input_rows_from ins 1 (rest_of c.args.reader.now)) c.loop-n.table before.width
    (before.rest ∙ rows-end ins c.loop-n.table.rows c.loop-n.n (rest_of c.loop-n.reader) step)

pub returns-in_default-2 : goal.returns-in_default-2
returns-in_default-2 c =
    let ins = c.args.ins.now in
    let before = c.loop-n.invariant in
    let step = c.in_ok-advance-2.ensures (Some (length ins + 1)) before.stands in
    let (r, rest, more) = some_more c.loop-n.reader c.advance-2.new.reader (Some (length ins + 1)) c.in_ok-advance-2.field-0 (fields_of c.advance-2.new.row) step c.in_default-2.not-End in
    let last : c.loop-n.n ≡ 100000 = omega arith in
    rw c.at_row-in_default-2.ensures (told-fault ins (input_rows_from ins 1 (rest_of c.args.reader.now)) _
    (before.rest ∙ rows-past ins c.loop-n.table.rows c.loop-n.n (rest_of c.loop-n.reader) r rest last more))
