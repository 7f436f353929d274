use Rattle.std.proofs.Common.{◌∙◌, refl}
use Rattle.lt_place.proofs.Seated.{seats_length, nodes_are}
use Rattle.lt_place.proofs.assign.on_listed.Goals as goal

pub seat_once-requires-clause-size : goal.seat_once-requires-clause-size
seat_once-requires-clause-size c = seats_length c.args.f.now c.args.named.now c.deref.result.now (c.deref.ensures.value ∙ c.in_ok-each.ensures)

pub returns-clause-nodes : goal.returns-clause-nodes
returns-clause-nodes c = c.in_ok-nodes.ensures ∙ nodes_are c.args.f.now c.requires.origins c.args.named.now c.deref-2.result.now (c.deref-2.ensures.value ∙ c.in_ok-each.ensures) c.args.f.now.origin refl
