use Rattle.std.proofs.Common.{◌≡◌, ◌∙◌, ◌++◌, ◌∷◌, ◌+◌, ◌*◌, ◌≤◌, [], List, length, take, refl, sym, ap, subst, arith}
use Rattle.std.proofs.Math.Nat.{mul-le-mul_left}
use Rattle.lt_base.specs.declared.value.Value.{Value}
use Rattle.lt_base.specs.Program.{Function}
use Rattle.lt_evaluate.specs.Columns.{HasColumns}
use Rattle.lt_evaluate.proofs.Longer.{next_rows}
use Rattle.lt_evaluate.proofs.streaming.take_rows.Goals as goal

pub loop-k-init : goal.loop-k-init
loop-k-init g c =
    let left = c.requires.left in
    record { stands = c.requires.stands; left = omega (arith, left); values = c.requires.values; outs = c.requires.outs; columns = c.requires.columns; made = c.requires.unmade; size = refl; ticks = omega arith }

pub loop-k-preserved : goal.loop-k-preserved
loop-k-preserved g c =
    let f = c.args.function.now in
    let rows = c.args.inputs.now.rows in
    let k = c.loop-k.k in
    let s = c.loop-k.invariant in
    let before = s.left in
    let less = c.take_row.ensures.left in
    let more = c.take_row.ensures.made in
    let made = s.made in
    let same = s.size in
    let ticks = s.ticks in
    let step = c.take_row.ensures.ticks in
    let values : c.deref.result.now ≡ c.read_row.new.row.items = c.deref.ensures.value in
    let next : take (k + 1) rows ≡ take k rows ++ c.deref.result.now ∷ [] = next_rows rows k c.read_row.new.row.items c.read_row.ensures.row ∙ ap (λ r. take k rows ++ r ∷ []) (sym values) in
    record {
      stands = subst (λ (rs : List (List Value)). g.M.Machine.stands c.take_row.new.machine f rs) (sym next) (c.take_row.ensures.stands f (take k rows) s.stands);
      left = omega (arith, before, less);
      values = c.read_row.ensures.room ∙ ap (λ (h : Function). h.n_in) c.function.view_is;
      outs = c.take_row.ensures.outs ∙ s.outs;
      columns = subst (λ (rs : List (List Value)). HasColumns f rs c.take_row.new.columns.items) (sym next) (c.in_ok-take_row.ensures.columns f (take k rows) s.stands s.columns);
      made = omega (arith, more, made);
      size = c.take_row.ensures.size ∙ same;
      ticks = omega (arith, same, ticks, step);
    }

pub returns-in_err-take_row-clause-ticks : goal.returns-in_err-take_row-clause-ticks
returns-in_err-take_row-clause-ticks g c =
    let size = g.M.Machine.size c.args.machine.now in
    let same = c.loop-k.invariant.size in
    let ticks = c.loop-k.invariant.ticks in
    let step = c.take_row.ensures.ticks in
    let low : c.loop-k.k + 1 ≤ length c.args.inputs.now.rows = omega arith in
    let most : size * (c.loop-k.k + 1) ≤ size * length c.args.inputs.now.rows = mul-le-mul_left size low in
    omega (arith, same, ticks, step, most)
