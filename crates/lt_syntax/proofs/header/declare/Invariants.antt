use Rattle.std.proofs.Common.{◌≡◌, ◌++◌}
use Rattle.lt_syntax.specs.Program.{declared}
use Rattle.lt_syntax.proofs.header.declare.Given as goal

abbrev pub invariant-loop-name : goal.invariant-loop-name
invariant-loop-name l = l.decls ≡ l.initial.decls ++ declared l.yielded l.ty l.clock
