use Rattle.std.proofs.Common.{◌-◌, ◌∙◌, refl, ap}
use Rattle.lt_past.specs.Views.{formula_of}
use Rattle.lt_past.specs.Formula.{binary}
use Rattle.lt_past.proofs.Rows.{two_parts}
use Rattle.lt_past.proofs.monitor.+adding.Goals as goal

pub add_between-returns : goal.add_between-returns
add_between-returns t c =
    two_parts c.push.result c.args.word _ _ (formula_of c.args.a.now) (formula_of c.args.b.now) (binary c.args.word (formula_of c.args.a.now) (formula_of c.args.b.now)) c.args.parts.now.items c.add_parts.new.parts.items c.add_parts-2.new.parts.items c.push.new.parts.items _
    refl refl refl c.in_ok-add_parts.ensures (ap (λ m. m - 1) (c.len-first.ensures ∙ c.add_parts.new.parts.ok.0)) c.in_ok-add_parts-2.ensures c.push.ensures
