use Rattle.std.proofs.Common.{◌≡◌, length, map, ap, sym, ◌∙◌, arith, Result, Ok, Err, OnErr}
use Rattle.std.specs.Global.{Vec}
use Rattle.lt_base.specs.declared.value.Value.{Value}
use Rattle.lt_base.specs.Inputs.{InputTable}
use Rattle.lt_base.proofs.Columns.{rows_below-same, rows_below-more, length-rows_below}
use Rattle.lt_base.proofs.inputs.Inputs.push.Goals as goal

on_err : {T E P : Type 0} (r : Result T E) → P → OnErr r P
on_err (Ok x) p = tt
on_err (Err e) p = p

pub returns-in_err-put_row-clause-err : goal.returns-in_err-put_row-clause-err
returns-in_err-put_row-clause-err c = on_err _ (rows_below-same _ _ _ c.put_row.ensures.kept ∙ ap (λ (t : InputTable). t.rows) c.self.view_is)

pub overflow_add-self : goal.overflow_add-self
overflow_add-self c =
    let size : c.self.inside.rows ≡ length c.args.self.now.rows = sym (length-rows_below (map (λ (column : Vec Value). column.items) c.self.inside.columns.items) c.self.inside.rows) ∙ ap (λ (t : InputTable). length t.rows) c.self.view_is in
    let room = c.requires.room in
    rw size (omega (arith, room))

pub returns-clause-ok : goal.returns-clause-ok
returns-clause-ok c = rw (← c.self.view_is) (rows_below-more _ _ _ _ c.put_row.ensures.kept c.in_ok-put_row.ensures.row)
