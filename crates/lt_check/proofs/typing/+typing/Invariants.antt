use Rattle.std.proofs.Common.{◌≡◌, drop, map}
use Rattle.lt_base.specs.Expression.{shape}
use Rattle.lt_base.specs.Typing.{type_of, arguments_fit, input_types, answer_type}
use Rattle.lt_check.proofs.typing.+typing.Given as goal

abbrev pub invariant-call_type-loop-i : goal.invariant-call_type-loop-i
invariant-call_type-loop-i l =
    arguments_fit (drop l.i (input_types l.f)) (drop l.i (map (λ e. type_of l.funcs l.decls (shape e)) l.args)) (answer_type l.f.decls l.f.outs)
    ≡ arguments_fit (input_types l.f) (map (λ e. type_of l.funcs l.decls (shape e)) l.args) (answer_type l.f.decls l.f.outs)
