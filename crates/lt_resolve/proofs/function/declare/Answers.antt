use Rattle.lt_resolve.specs.Faults.{unknown_clock}
use Rattle.lt_resolve.specs.Named.{IsDeclared}
use Rattle.lt_resolve.proofs.Lists.{some_next}
use Rattle.lt_resolve.proofs.Pairs.{along_more_after}
use Rattle.lt_resolve.proofs.function.declare.Goals as goal

pub decls-preserved : goal.decls-preserved
decls-preserved c =
    let vars = c.args.variables.now in
    let items = c.deref-decl-items.result.now in
    record {
      rest = some_next (λ d. unknown_clock vars d.clock) items c.decls.decl-index c.decl-item.result c.decls-test.true c.decl-item.is c.in_ok-declaration.ensures.told c.decls.invariant.rest;
      along = λ before h.
          along_more_after (IsDeclared vars) before items c.decls.decl-index c.decl-item.result c.decls.out.items c.push.new.self.items c.in_ok-declaration.field-0 c.decls-test.true c.decl-item.is
          (c.decls.invariant.along before h) c.in_ok-declaration.ensures.named c.in_ok-push.ensures.items;
    }
