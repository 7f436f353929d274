use Rattle.std.proofs.Common.{◌≡◌, ◌++◌, ◌+◌, ◌*◌, max, map, drop}
use Rattle.lt_syntax.specs.Tree.{tms}
use Rattle.lt_syntax.proofs.term.Term.TheLaws.{the_size}
use Rattle.lt_syntax.specs.Views.{tm_of}
use Rattle.lt_resolve.specs.Uses.{argument_sites}
use Rattle.lt_resolve.proofs.calls.+collect.Given as goal

abbrev pub invariant-collect_arguments-arguments : goal.invariant-collect_arguments-arguments
invariant-collect_arguments-arguments l = l.calls.items ++ argument_sites l.functions l.caller (tms (map tm_of (drop l.a-index l.args))) ≡ l.initial.calls.items ++ argument_sites l.functions l.caller (tms (map tm_of l.args))

abbrev pub decreases-collect : goal.decreases-collect
decreases-collect l = 3 * the_size l.term.now

abbrev pub decreases-collect_pair : goal.decreases-collect_pair
decreases-collect_pair l = 3 * max (the_size l.a.now) (the_size l.b.now) + 1

abbrev pub decreases-collect_choice : goal.decreases-collect_choice
decreases-collect_choice l = 3 * max (the_size l.c.now) (max (the_size l.a.now) (the_size l.b.now)) + 2

abbrev pub decreases-collect_arguments : goal.decreases-collect_arguments
decreases-collect_arguments l = 3 * goal.size-collect_arguments l + 1

abbrev pub decreases-collect_call : goal.decreases-collect_call
decreases-collect_call l = 3 * goal.size-collect_call l + 2
