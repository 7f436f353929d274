use Rattle.std.proofs.Common.{map, ap, ◌∙◌, arith}
use Rattle.std.specs.Global.{Vec}
use Rattle.std.proofs.lemmas.List.{take_all}
use Rattle.lt_base.specs.declared.value.Value.{Value}
use Rattle.lt_base.proofs.Columns.{HaveRows-same}
use Rattle.lt_base.proofs.inputs.Inputs.copy.Goals as goal

pub invariant_of-result : goal.invariant_of-result
invariant_of-result c =
    let whole = take_all c.loop-column.column-index c.deref-column-items.result.now (omega arith) in
    HaveRows-same c.self.inside.rows c.self.inside.columns.items c.loop-column.columns.items (c.loop-column.invariant ∙ ap (map (λ (column : Vec Value). column.items)) (whole ∙ c.deref-column-items.ensures.value)) c.self.invariant
