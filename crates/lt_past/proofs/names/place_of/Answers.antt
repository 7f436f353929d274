use Rattle.std.proofs.Common.{◌≡◌, ◌<◌, ◌∙◌, length, sym, ap, arith, get_or}
use Rattle.lt_base.specs.Program.{Function}
use Rattle.lt_past.specs.Naming.{is_called}
use Rattle.lt_past.proofs.Places.{found_at, not_found}
use Rattle.lt_past.proofs.names.place_of.Goals as goal

pub returns-then-is_called-clause-value : goal.returns-then-is_called-clause-value
returns-then-is_called-clause-value c =
    let main = c.args.main.now in
    let outs = c.deref-out-items.result.now in
    let same : outs ≡ main.outs = c.deref-out-items.ensures ∙ ap (λ (f : Function). f.outs) c.main.view_is in
    let low : c.outs.place < length main.outs = omega (arith, c.outs-test.true, ap length same) in
    found_at (is_called main c.args.name.now) main.outs c.outs.place low c.outs.invariant (ap (λ z. is_called main c.args.name.now (get_or z c.outs.place 0)) (sym same) ∙ sym c.if-is_called.ensures)

pub returns-clause-value : goal.returns-clause-value
returns-clause-value c =
    let main = c.args.main.now in
    let same : c.deref-out-items.result.now ≡ main.outs = c.deref-out-items.ensures ∙ ap (λ (f : Function). f.outs) c.main.view_is in
    not_found (is_called main c.args.name.now) main.outs (λ k h. c.outs.invariant k (omega (arith, h, c.outs-test.false, ap length same)))
