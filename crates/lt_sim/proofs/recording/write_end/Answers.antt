use Rattle.std.proofs.Common.{◌+◌, ℕ, List, [], ◌∷◌, ◌++◌, Ok, sym}
use Rattle.std.proofs.lemmas.List.{append-nil}
use Rattle.lt_arch.specs.declared.event.Event.TheVariants.{End}
use Rattle.lt_rows.specs.Texts.{event_text}
use Rattle.lt_schedule.proofs.Steps.{err_is}
use Rattle.lt_sim.proofs.Pages.{page_writes, page_fails, put_part, unwritten}
use Rattle.lt_sim.proofs.recording.write_end.Goals as goal

pub returns-clause-written : goal.returns-clause-written
returns-clause-written g c =
    let old = g.O.Sink.state c.args.sink.now in
    let now = g.O.Sink.state c.put_row.new.sink in
    page_writes _ c.put_row.new.page old now (put_part _ c.args.page.now c.put_row.new.page old now c.in_ok-put_row.ensures.written) c.put_row.ensures.keeps.told (g.O.Sink.state c.write_out.new.sink) (Ok (c.args.number + 1))
    c.in_ok-write_out.ensures.written

pub returns-in_err-write_out-clause-written : goal.returns-in_err-write_out-clause-written
returns-in_err-write_out-clause-written g c =
    let old = g.O.Sink.state c.args.sink.now in
    let now = g.O.Sink.state c.put_row.new.sink in
    let text : List ℕ = c.args.page.now ++ (event_text c.args.shape.now (End c.args.horizon) ++ 10 ∷ []) in
    rw (err_is _ _ c.from_residual-in_err-write_out.ensures.1)
    (unwritten ℕ text old (g.O.Sink.state c.write_out.new.sink) c.in_err-write_out.field-0.0
    (page_fails text c.put_row.new.page old now (put_part (event_text c.args.shape.now (End c.args.horizon) ++ 10 ∷ []) c.args.page.now c.put_row.new.page old now c.in_ok-put_row.ensures.written) c.put_row.ensures.keeps.told [] text (sym (append-nil text))
    c.in_err-write_out.field-0.0 (g.O.Sink.state c.write_out.new.sink) c.in_err-write_out.ensures.written))
