use Rattle.std.proofs.Common.{◌∙◌, ℕ, Some, ap}
use Rattle.lt_tape.specs.Excerpts.{excerpt_of}
use Rattle.lt_course.proofs.drawn.stopped_before.Goals as goal

pub returns : goal.returns
returns g c = λ w draws.
    let asked = g.D.Drawable.asked c.args.drawn.now in
    let taped = c.tape.ensures w draws in
    let excerpt = c.in_ok-excerpt.ensures asked w.nodes w.strokes taped ∙ ap (λ (stop : ℕ). excerpt_of asked w.nodes (Some stop) w.strokes) c.stop_time.ensures in
    let pending = c.in_ok-pending.ensures w draws in
    let miss = c.miss.ensures w draws in
    λ i. record { excerpt = excerpt i; pending = pending i; refused = c.args.refused; miss = miss i }
