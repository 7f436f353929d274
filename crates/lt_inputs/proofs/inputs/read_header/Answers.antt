use Rattle.std.proofs.Common.{None, sym, ◌∙◌}
use Rattle.csv.specs.Records.{fields_of}
use Rattle.lt_inputs.specs.Records.{rest_of}
use Rattle.lt_inputs.proofs.TableSteps.{no_first, no_table, unreadable_header, other_header, the_header, header-length}
use Rattle.lt_inputs.proofs.inputs.read_header.Goals as goal

pub returns-in_default : goal.returns-in_default
returns-in_default c =
    let step = c.in_ok-advance.ensures None c.requires.stands in
    let none = no_first c.args.reader.now c.advance.new.reader _ _ step c.in_default.not-Found in
    rw c.at_row.ensures (no_table c.args.ins.now (rest_of c.args.reader.now) none)

pub returns-then-not-is_text : goal.returns-then-not-is_text
returns-then-not-is_text c =
    let step = rw c.in-Found.is at (c.in_ok-advance.ensures None c.requires.stands) in
    let unread = sym c.is_text.ensures ∙ c.if-not-is_text.true in
    rw c.at_row-then-not-is_text.ensures (unreadable_header c.args.ins.now (rest_of c.args.reader.now) _ _ step.0 unread)

pub returns-then-not-is_header : goal.returns-then-not-is_header
returns-then-not-is_header c =
    let step = rw c.in-Found.is at (c.in_ok-advance.ensures None c.requires.stands) in
    let text = sym c.is_text.ensures ∙ c.if-not-is_text.false in
    let other = sym c.is_header.ensures ∙ c.if-not-is_header.true in
    rw c.at_row-then-not-is_header.ensures (other_header c.args.ins.now (rest_of c.args.reader.now) _ _ step.0 text other)

pub returns : goal.returns
returns c =
    let step = rw c.in-Found.is at (c.in_ok-advance.ensures None c.requires.stands) in
    let text = sym c.is_text.ensures ∙ c.if-not-is_text.false in
    let same = sym c.is_header.ensures ∙ c.if-not-is_header.false in
    let wide = header-length c.args.ins.now (fields_of c.advance.new.row) same in (
      rw wide at step.2,
      the_header c.args.ins.now (rest_of c.args.reader.now) _ _ step.0 text same,
    )
