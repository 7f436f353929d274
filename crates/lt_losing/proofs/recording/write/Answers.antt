use Rattle.std.proofs.Common.{◌≡◌, ◌+◌, ◌++◌, ◌∙◌, ℕ, List, length, take, drop, ap, subst, arith}
use Rattle.std.proofs.lemmas.List.{take_all}
use Rattle.lt_io.proofs.Keeps.{sink_trans}
use Rattle.lt_arch.specs.declared.event.Event.TheVariants.{Act}
use Rattle.lt_lossy.specs.declared.event.LossyEvent.{LossyEvent}
use Rattle.lt_lossy.specs.declared.event.LossyEvent.TheVariants.{Plain}
use Rattle.lt_schedule.proofs.Steps.{err_is}
use Rattle.lt_sim.specs.File.{header_text}
use Rattle.lt_sim.specs.Recorded.{WritesText}
use Rattle.lt_losing.specs.LossyFile.{lossy_rows_text, lossy_file_text}
use Rattle.lt_sim.proofs.Pages.{HasPut, put_more, row_fails, page_writes}
use Rattle.lt_losing.proofs.Pages.{text_more, text_whole}
use Rattle.lt_losing.proofs.recording.write.Goals as goal

pub loop-e-preserved : goal.loop-e-preserved
loop-e-preserved g c =
    let s = c.args.shape.now in
    let items = c.args.events.now.items in
    let xs = c.deref-e-items.result.now in
    let i = c.loop-e.e-index in
    let old = g.O.Sink.state c.args.sink.now in
    let now = g.O.Sink.state c.loop-e.sink in
    let next = g.O.Sink.state c.put_row.new.sink in
    let before = c.loop-e.invariant in
    record {
      counted = c.in_ok-put_row.ensures.written.counted ∙ before.counted;
      keeps = sink_trans old now next before.keeps c.put_row.ensures.keeps;
      short = c.in_ok-put_row.ensures.short;
      put = subst (λ (text : List ℕ). HasPut text c.put_row.new.page old next) (text_more s items xs i (Plain (Act 0 0)) c.deref-e-items.ensures.value c.loop-e-test.true)
          (put_more (header_text ++ lossy_rows_text s (take i items)) c.loop-e.page old now before.put before.keeps.told _ c.put_row.new.page next c.in_ok-put_row.ensures.written);
    }

pub returns-in_err-put_row-clause-written : goal.returns-in_err-put_row-clause-written
returns-in_err-put_row-clause-written g c =
    let s = c.args.shape.now in
    let items = c.args.events.now.items in
    let xs = c.deref-e-items.result.now in
    let i = c.loop-e.e-index in
    let old = g.O.Sink.state c.args.sink.now in
    let now = g.O.Sink.state c.loop-e.sink in
    let next = g.O.Sink.state c.put_row.new.sink in
    let before = c.loop-e.invariant in
    rw (err_is _ _ c.from_residual-in_err-put_row.ensures.1)
    (row_fails (header_text ++ lossy_rows_text s (take i items)) c.loop-e.page old now before.put before.keeps.told _ (lossy_rows_text s (drop (i + 1) items)) (lossy_file_text s items)
    (text_whole s items xs i (Plain (Act 0 0)) c.deref-e-items.ensures.value c.loop-e-test.true) c.in_err-put_row.field-0.0 c.put_row.new.page next c.in_err-put_row.ensures.written)

pub returns-clause-written : goal.returns-clause-written
returns-clause-written g c =
    let s = c.args.shape.now in
    let items = c.args.events.now.items in
    let i = c.loop-e.e-index in
    let old = g.O.Sink.state c.args.sink.now in
    let now = g.O.Sink.state c.loop-e.sink in
    let next = g.O.Sink.state c.write_out.new.sink in
    let before = c.loop-e.invariant in
    let size = ap (λ (es : List LossyEvent). length es) c.deref-e-items.ensures.value in
    let past = c.loop-e-test.false in
    let all : take i items ≡ items = take_all i items (omega (arith, size, past)) in
    subst (λ (es : List LossyEvent). WritesText (header_text ++ lossy_rows_text s es) old next c.write_out.result) all
    (page_writes (header_text ++ lossy_rows_text s (take i items)) c.loop-e.page old now before.put before.keeps.told next c.write_out.result c.write_out.ensures.written)
