use Rattle.std.proofs.Common.{◌≡◌, ◌+◌, ◌-◌, ◌∙◌, ap, arith, length, reverse}
use Rattle.lt_check.proofs.ClockLemmas.{clock_found, linked_by}
use Rattle.lt_check.proofs.AtLemmas.{last_there}
use Rattle.lt_check.proofs.innermost.is_linked.Goals as goal

pub returns-in-Some : goal.returns-in-Some
returns-in-Some c =
    let steps = c.as_slice-steps.result.now in
    let n = length steps - 1 in
    let size : length steps ≡ n + 1 = last_there (length steps) c.if-is_empty.ensures in
    linked_by c.args.decls.now c.args.clock.now steps n _ size (ap reverse c.as_slice-steps.ensures ∙ c.clock.view_is) c.has_steps.result c.in-Some.decl.now.clock
    (let l = c.in-Some.ensures.lookup.3.0 in let s = ap length c.deref.ensures in omega (arith, l, s)) (clock_found c.args.decls.now c.deref.result.now _ c.in-Some.decl c.deref.ensures c.in-Some.ensures.lookup) c.has_steps.ensures
