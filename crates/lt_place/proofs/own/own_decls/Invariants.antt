use Rattle.std.proofs.Common.{◌≡◌, map, take, get_or}
use Rattle.lt_place.specs.Spread.{own_decl, no_decl}
use Rattle.lt_place.proofs.own.own_decls.Given as goal

abbrev pub invariant-loop-x : goal.invariant-loop-x
invariant-loop-x l = l.new.items ≡ map (λ x. own_decl l.own (get_or l.decls x no_decl)) (take l.x-index l.members)
