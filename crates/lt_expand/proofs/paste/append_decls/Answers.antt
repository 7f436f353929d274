use Rattle.lt_expand.proofs.Turns.{decls_turn}
use Rattle.lt_expand.proofs.paste.append_decls.Goals as goal

pub loop-decl-preserved : goal.loop-decl-preserved
loop-decl-preserved c =
    decls_turn _ _ c.deref-decl-items.result.now _ _ _ c.loop-decl.decl-index c.decl-item.result _ c.loop-decl-test.true c.decl-item.is c.in_ok-copy.ensures c.loop-decl.invariant c.in_ok-push.ensures.items
