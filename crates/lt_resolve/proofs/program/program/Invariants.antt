use Rattle.std.proofs.Common.{map}
use Rattle.lt_resolve.specs.Scopes.{functions}
use Rattle.lt_resolve.specs.Named.{IsFunction, Along}
use Rattle.lt_resolve.proofs.program.program.Given as goal

abbrev pub invariant-drafts : goal.invariant-drafts
invariant-drafts l = Along (IsFunction (functions l.tables)) (map (λ d. d.node.now) l.yielded) l.funcs.items
