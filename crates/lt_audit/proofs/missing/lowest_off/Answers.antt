use Rattle.std.proofs.Common.{◌≡◌, ◌<◌, ◌∙◌, ◌==◌, not, length, sym, ap, map, arith, slice_index_or}
use Rattle.lt_arch.specs.State.{ChanState}
use Rattle.lt_audit.specs.Audit.{kept_of}
use Rattle.lt_audit.proofs.Lines.{read_at}
use Rattle.lt_audit.proofs.NodeLoops.{off_none, off_here, off_by, off_onward}
use Rattle.lt_audit.proofs.missing.lowest_off.Goals as goal

pub loop-number-init : goal.loop-number-init
loop-number-init c = off_none c.args.wiring.now.channels c.args.node c.incoming-numbers.result.now c.incoming-numbers.ensures.are (map kept_of c.args.lines.now) c.args.executed

pub returns-then-is_off : goal.returns-then-is_off
returns-then-is_off c =
    let cs = c.args.wiring.now.channels in
    let xs = c.incoming-numbers.result.now in
    let ls = c.args.lines.now in
    let i = c.loop-number.number-index in
    let within = c.incoming-numbers.ensures.within i c.loop-number-test.true in
    let below : slice_index_or xs i 0 < length ls = omega (arith, within, c.requires.lines) in
    let tells = ap (λ (k : ChanState). not (k.delivered == c.args.executed)) (read_at ls (slice_index_or xs i 0) c.index-lines-c.result below c.index-lines-c.is) ∙ sym c.is_off.ensures ∙ c.if-is_off.true in (
      within,
      off_by cs c.args.node xs c.incoming-numbers.ensures.are (map kept_of ls) c.args.executed i c.loop-number-test.true _ tells,
      off_here cs c.args.node xs c.incoming-numbers.ensures.are (map kept_of ls) c.args.executed i c.loop-number-test.true c.loop-number.invariant,
    )

pub loop-number-preserved : goal.loop-number-preserved
loop-number-preserved c =
    let cs = c.args.wiring.now.channels in
    let xs = c.incoming-numbers.result.now in
    let ls = c.args.lines.now in
    let i = c.loop-number.number-index in
    let within = c.incoming-numbers.ensures.within i c.loop-number-test.true in
    let below : slice_index_or xs i 0 < length ls = omega (arith, within, c.requires.lines) in
    let tells = ap (λ (k : ChanState). not (k.delivered == c.args.executed)) (read_at ls (slice_index_or xs i 0) c.index-lines-c.result below c.index-lines-c.is) ∙ sym c.is_off.ensures ∙ c.if-is_off.false in
    off_onward cs c.args.node xs c.incoming-numbers.ensures.are (map kept_of ls) c.args.executed i c.loop-number-test.true
    (off_here cs c.args.node xs c.incoming-numbers.ensures.are (map kept_of ls) c.args.executed i c.loop-number-test.true c.loop-number.invariant)
    (off_by cs c.args.node xs c.incoming-numbers.ensures.are (map kept_of ls) c.args.executed i c.loop-number-test.true _ tells)
