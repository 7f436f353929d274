use Rattle.std.proofs.Common.{◌≡◌, ◌<◌, ◌∙◌, length, sym, ap, map, arith, nat_le, slice_index_or}
use Rattle.lt_arch.specs.State.{ChanState}
use Rattle.lt_link.specs.Ports.{is_to}
use Rattle.lt_link.proofs.Loops.{all_none, all_more, all_not}
use Rattle.lt_audit.specs.Audit.{kept_of}
use Rattle.lt_audit.specs.Acts.{has_delivered}
use Rattle.lt_audit.proofs.Lines.{read_at}
use Rattle.lt_audit.proofs.hearing.all_delivered.Goals as goal

pub loop-number-init : goal.loop-number-init
loop-number-init c =
    let cs = c.args.wiring.now.channels in
    let ls = c.args.lines.now in
    let xs = c.incoming-numbers.result.now in
    all_none (is_to cs c.args.node c.args.kind) (has_delivered (map kept_of ls) c.args.executed) (length cs) xs c.incoming-numbers.ensures.are

pub returns-then-not-has_delivered : goal.returns-then-not-has_delivered
returns-then-not-has_delivered c =
    let cs = c.args.wiring.now.channels in
    let ls = c.args.lines.now in
    let xs = c.incoming-numbers.result.now in
    let i = c.loop-number.number-index in
    let within = c.incoming-numbers.ensures.within i c.loop-number-test.true in
    let below : slice_index_or xs i 0 < length ls = omega (arith, within, c.requires.lines) in
    let tells : c.has_delivered.result ≡ has_delivered (map kept_of ls) c.args.executed (slice_index_or xs i 0) =
    c.has_delivered.ensures ∙ ap (λ (k : ChanState). nat_le c.args.executed k.delivered) (sym (read_at ls (slice_index_or xs i 0) c.index-lines-c.result below c.index-lines-c.is)) in
    sym (all_not (is_to cs c.args.node c.args.kind) (has_delivered (map kept_of ls) c.args.executed) (length cs) xs c.incoming-numbers.ensures.are i c.loop-number-test.true c.has_delivered.result tells c.if-not-has_delivered.true)

pub loop-number-preserved : goal.loop-number-preserved
loop-number-preserved c =
    let cs = c.args.wiring.now.channels in
    let ls = c.args.lines.now in
    let xs = c.incoming-numbers.result.now in
    let i = c.loop-number.number-index in
    let within = c.incoming-numbers.ensures.within i c.loop-number-test.true in
    let below : slice_index_or xs i 0 < length ls = omega (arith, within, c.requires.lines) in
    let tells : c.has_delivered.result ≡ has_delivered (map kept_of ls) c.args.executed (slice_index_or xs i 0) =
    c.has_delivered.ensures ∙ ap (λ (k : ChanState). nat_le c.args.executed k.delivered) (sym (read_at ls (slice_index_or xs i 0) c.index-lines-c.result below c.index-lines-c.is)) in
    all_more (is_to cs c.args.node c.args.kind) (has_delivered (map kept_of ls) c.args.executed) (length cs) xs c.incoming-numbers.ensures.are i c.loop-number-test.true c.has_delivered.result tells c.if-not-has_delivered.false c.loop-number.invariant
