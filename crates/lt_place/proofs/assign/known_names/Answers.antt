use Rattle.std.proofs.Common.{sym, subst, ◌+◌}
use Rattle.std.proofs.lemmas.Map.Text.{hash_map_updates_str}
use Rattle.lt_place.specs.Seats.{KnowsMain}
use Rattle.lt_place.proofs.Assigned.{known_then, known_else}
use Rattle.lt_place.proofs.assign.known_names.Goals as goal
use Rattle.lt_place.proofs.assign.known_names.Goals.{then-origin-x+in_ok-insert, else-origin-x}

pub loop-x-preserved : goal.loop-x-preserved
loop-x-preserved c = elim c.if-origin-x.branch [
  | then-origin-x+in_ok-insert w ↦
      subst (KnowsMain c.args.f.now (c.loop-x.x + 1)) (sym w.known-is)
      (known_then c.args.f.now c.loop-x.x c.loop-x.known c.loop-x.invariant c.decls-decl-items.result.now c.origins-origin.result.now c.decls-decl-items.ensures c.origins-origin.ensures c.loop-x-test.true
      w.if-origin-x.true c.decl-item.result w.as_str.result.now c.decl-item.is w.as_str.ensures w.insert.new.self
      (hash_map_updates_str w.as_str.result.now c.loop-x.known w.insert.new.self _ w.in_ok-insert.ensures.updates))
  | else-origin-x w ↦
      subst (KnowsMain c.args.f.now (c.loop-x.x + 1)) (sym w.known-is)
      (known_else c.args.f.now c.loop-x.x c.loop-x.known c.loop-x.invariant c.decls-decl-items.result.now c.origins-origin.result.now c.decls-decl-items.ensures c.origins-origin.ensures c.loop-x-test.true w.if-origin-x.false)
]
