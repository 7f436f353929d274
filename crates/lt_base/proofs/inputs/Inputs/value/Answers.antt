use Rattle.std.proofs.Common.{◌≡◌, ◌≤◌, length, map, ap, sym, ◌∙◌, arith, subst}
use Rattle.std.specs.Global.{Vec}
use Rattle.lt_base.specs.declared.value.Value.{Value}
use Rattle.lt_base.specs.Inputs.{InputTable}
use Rattle.lt_base.proofs.Columns.{entry_at-rows_below, length-rows_below}
use Rattle.lt_base.proofs.inputs.Inputs.value.Goals as goal

pub index-requires-2 : goal.index-requires-2
index-requires-2 c =
    let size : c.self.inside.rows ≡ length c.args.self.now.rows = sym (length-rows_below (map (λ (column : Vec Value). column.items) c.self.inside.columns.items) c.self.inside.rows) ∙ ap (λ (t : InputTable). length t.rows) c.self.view_is in
    let width : length c.self.inside.columns.items ≡ c.args.self.now.width = ap (λ (t : InputTable). t.width) c.self.view_is in
    let inside = c.requires.input in
    let filled = c.self.invariant c.args.input c.index.result.now (rw width inside) in
    let long = subst (λ (column : Vec Value). c.self.inside.rows ≤ length column.items) (sym c.index.ensures) filled in
    let row = c.requires.row in
    omega (arith, size, long, row)

pub returns : goal.returns
returns c =
    let size : c.self.inside.rows ≡ length c.args.self.now.rows = sym (length-rows_below (map (λ (column : Vec Value). column.items) c.self.inside.columns.items) c.self.inside.rows) ∙ ap (λ (t : InputTable). length t.rows) c.self.view_is in
    let width : length c.self.inside.columns.items ≡ c.args.self.now.width = ap (λ (t : InputTable). t.width) c.self.view_is in
    let row = c.requires.row in
    let input = c.requires.input in
    let filled = c.self.invariant c.args.input c.index.result.now (rw width input) in
    let long = subst (λ (column : Vec Value). c.self.inside.rows ≤ length column.items) (sym c.index.ensures) filled in
    rw (← c.self.view_is) (entry_at-rows_below c.self.inside.columns.items c.self.inside.rows c.args.row c.args.input c.index.result.now c.index-2.result.now (omega (arith, size, row)) (rw width input) (sym c.index.ensures) (omega (arith, size, long, row)) (sym c.index-2.ensures))
