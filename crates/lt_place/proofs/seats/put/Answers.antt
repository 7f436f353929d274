use Rattle.std.proofs.Common.{◌∙◌, ap}
use Rattle.std.proofs.lemmas.Map.Text.{hash_map_updates_str}
use Rattle.lt_place.proofs.Listed.{next, seats_put}
use Rattle.lt_place.proofs.seats.put.Goals as goal
use Rattle.lt_place.proofs.seats.put.Goals.{in-Some, in-None}

pub returns : goal.returns
returns c = λ ls h.
    seats_put c.args.seats.now c.insert.new.self ls c.args.name.now c.args.node c.match-get.seat h
    (hash_map_updates_str c.args.name.now c.args.seats.now c.insert.new.self _ c.in_ok-insert.ensures.updates)
    (elim c.match-get.branch [ in-Some w ↦ w.seat-is ∙ ap (next c.args.node) w.in-Some.ensures.value | in-None w ↦ w.seat-is ∙ ap (next c.args.node) w.in-None.ensures.value ])
