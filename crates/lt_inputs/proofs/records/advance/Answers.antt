use Rattle.csv.specs.Records.{fields_of}
use Rattle.lt_inputs.proofs.Left.{found, ended, refused}
use Rattle.lt_inputs.proofs.records.advance.Goals as goal

pub returns-in-Ok-true : goal.returns-in-Ok-true
returns-in-Ok-true c = λ width stands.
    let h = c.in-Ok-true.ensures in
    let r = rw c.in-Ok-true.field-0-test at (h.reads stands.trim stands.ready) in
    found c.args.reader.now c.read_byte_record.new.self width (fields_of c.read_byte_record.new.row) stands r h.flexible (h.ready stands.trim)

pub returns-in-Ok-false : goal.returns-in-Ok-false
returns-in-Ok-false c = λ width stands.
    let h = c.in-Ok-false.ensures in
    let r = rw c.in-Ok-false.field-0-test at (h.reads stands.trim stands.ready) in
    ended c.args.reader.now c.read_byte_record.new.self width (fields_of c.read_byte_record.new.row) stands r

pub returns-in-Err : goal.returns-in-Err
returns-in-Err c = refused c.args.reader.now c.read_byte_record.new.self (fields_of c.read_byte_record.new.row) _ c.next_of_error.result c.next_of_error.ensures.other c.next_of_error.ensures.lengths c.in-Err.ensures.why
