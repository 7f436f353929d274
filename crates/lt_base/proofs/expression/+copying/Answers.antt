use Rattle.std.proofs.Common.{ap, sym, ◌∙◌}
use Rattle.lt_base.specs.Expression.{shape, call, arguments_of}
use Rattle.lt_base.proofs.Shape.{shape-Call}
use Rattle.lt_base.proofs.expression.+copying.Goals as goal

pub Expr::copy-returns-in_ok-twins-in-Call : goal.Expr::copy-returns-in_ok-twins-in-Call
Expr::copy-returns-in_ok-twins-in-Call t c =
    shape-Call c.in-Call.g c.in_ok-twins-in-Call.field-0
    ∙ ap (λ l. call c.in-Call.g (arguments_of l)) c.in_ok-twins-in-Call.ensures
    ∙ sym (shape-Call c.in-Call.g c.in-Call.args)
    ∙ ap shape (sym c.in-Call.is)
