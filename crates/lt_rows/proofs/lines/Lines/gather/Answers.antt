use Rattle.std.proofs.Common.{◌≡◌, ◌≤◌, ◌<◌, length, [], sym, ap, ◌∙◌, arith}
use Rattle.lt_io.proofs.Keeps.{files_trans}
use Rattle.lt_rows.proofs.Moving.{is_none, is_some}
use Rattle.lt_rows.proofs.Parts.{front_filled, line_last, is_part, place_part, size_part, at_part, takes_part, place_whole, at_whole, takes_whole}
use Rattle.lt_rows.proofs.lines.Lines.gather.Goals as goal

pub returns-then-is_empty-clause-takes : goal.returns-then-is_empty-clause-takes
returns-then-is_empty-clause-takes g c told =
    let told_now = c.loop-self.invariant.keeps.told ∙ told in
    let front = front_filled _ _ _ _ _ _ (c.loop-self.invariant.takes told) c.fill.ensures.line c.fill.ensures.place (c.in_ok-fill.ensures.ahead told_now) (c.fill.ensures.bytes told_now) in
    let short : length c.fill.new.self.line ≤ 4096 = omega (arith, ap length c.fill.ensures.line, c.loop-self.invariant.short) in
    let none : c.fill.new.self.held ≡ [] = sym c.held.ensures ∙ is_none c.held.result.now c.is_empty.result c.is_empty.ensures c.if-is_empty.true in
    rw c.size.ensures (line_last _ _ _ _ front short none (c.in_ok-fill.ensures.at_end told_now none))

pub returns-then-take_part-clause-at : goal.returns-then-take_part-clause-at
returns-then-take_part-clause-at g c =
    let short : length c.fill.new.self.line ≤ 4096 = omega (arith, ap length c.fill.ensures.line, c.loop-self.invariant.short) in
    at_whole _ _ c.take_part.result short c.fill.ensures.holds c.take_part.ensures.long c.take_part.ensures.fed c.take_part.ensures.part _ c.if-take_part.true c.in_ok-fill.ensures.at

pub returns-then-take_part-clause-more : goal.returns-then-take_part-clause-more
returns-then-take_part-clause-more g c _ =
    let short : length c.fill.new.self.line ≤ 4096 = omega (arith, ap length c.fill.ensures.line, c.loop-self.invariant.short) in
    let more = place_whole _ _ c.take_part.result short c.fill.ensures.holds c.take_part.ensures.long c.take_part.ensures.fed c.take_part.ensures.part c.if-take_part.true in
    let place = c.loop-self.invariant.place in
    let filled = c.fill.ensures.place in
    omega (arith, more, place, filled)

pub returns-then-take_part-clause-takes : goal.returns-then-take_part-clause-takes
returns-then-take_part-clause-takes g c told =
    let told_now = c.loop-self.invariant.keeps.told ∙ told in
    let front = front_filled _ _ _ _ _ _ (c.loop-self.invariant.takes told) c.fill.ensures.line c.fill.ensures.place (c.in_ok-fill.ensures.ahead told_now) (c.fill.ensures.bytes told_now) in
    let short : length c.fill.new.self.line ≤ 4096 = omega (arith, ap length c.fill.ensures.line, c.loop-self.invariant.short) in
    takes_whole _ _ c.take_part.result short c.fill.ensures.holds c.take_part.ensures.long c.take_part.ensures.fed c.take_part.ensures.part _ _ _ c.if-take_part.true front

pub loop-self-smaller : goal.loop-self-smaller
loop-self-smaller g c =
    let short : length c.fill.new.self.line ≤ 4096 = omega (arith, ap length c.fill.ensures.line, c.loop-self.invariant.short) in
    let size = size_part _ _ c.take_part.result short c.fill.ensures.holds c.take_part.ensures.long c.take_part.ensures.fed c.take_part.ensures.part c.if-take_part.false in
    let some : 0 < length c.fill.new.self.held = omega (arith, is_some c.held.result.now c.is_empty.result c.is_empty.ensures c.if-is_empty.false, ap length c.held.ensures) in
    let whole = (is_part _ _ c.take_part.result short c.fill.ensures.holds c.take_part.ensures.long c.take_part.ensures.fed c.take_part.ensures.part c.if-take_part.false).0 in
    omega (arith, size, some, whole, ap length c.fill.ensures.line)

pub loop-self-preserved : goal.loop-self-preserved
loop-self-preserved g c =
    let short : length c.fill.new.self.line ≤ 4096 = omega (arith, ap length c.fill.ensures.line, c.loop-self.invariant.short) in
    let part = is_part _ _ c.take_part.result short c.fill.ensures.holds c.take_part.ensures.long c.take_part.ensures.fed c.take_part.ensures.part c.if-take_part.false in
    let size = size_part _ _ c.take_part.result short c.fill.ensures.holds c.take_part.ensures.long c.take_part.ensures.fed c.take_part.ensures.part c.if-take_part.false in
    let placed = place_part _ _ c.take_part.result short c.fill.ensures.holds c.take_part.ensures.long c.take_part.ensures.fed c.take_part.ensures.part c.if-take_part.false in
    record {
      counted = c.in_ok-fill.ensures.cause ∙ c.loop-self.invariant.counted;
      keeps = files_trans _ _ _ c.loop-self.invariant.keeps c.fill.ensures.keeps;
      begun = c.take_part.ensures.begun;
      holds = c.take_part.ensures.holds;
      at = at_part _ _ c.take_part.result short c.fill.ensures.holds c.take_part.ensures.long c.take_part.ensures.fed c.take_part.ensures.part _ c.if-take_part.false c.in_ok-fill.ensures.at;
      short = omega (arith, size, part.0, part.1);
      place = omega (arith, placed, size, c.fill.ensures.place, c.loop-self.invariant.place, ap length c.fill.ensures.line);
      takes = λ told.
          let told_now = c.loop-self.invariant.keeps.told ∙ told in
          let front = front_filled _ _ _ _ _ _ (c.loop-self.invariant.takes told) c.fill.ensures.line c.fill.ensures.place (c.in_ok-fill.ensures.ahead told_now) (c.fill.ensures.bytes told_now) in
          takes_part _ _ c.take_part.result short c.fill.ensures.holds c.take_part.ensures.long c.take_part.ensures.fed c.take_part.ensures.part _ _ _ c.if-take_part.false front;
    }
