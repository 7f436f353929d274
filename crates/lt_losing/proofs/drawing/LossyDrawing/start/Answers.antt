use Rattle.std.proofs.Common.{◌∙◌, ℕ, List, [], ap, replicate, false}
use Rattle.lt_sim.proofs.Nexts.{left-first}
use Rattle.lt_losing.proofs.Standing.{stands_first}
use Rattle.lt_losing.proofs.drawing.LossyDrawing.start.Goals as goal

pub returns : goal.returns
returns c =
    let s = c.args.shape.now in
    let t = c.args.timing.now in
    let seed = c.args.seed in
    let start = c.generator_of-generator.ensures ∙ left-first seed in
    stands_first _ s t seed c.requires.same c.requires.numbered (c.in_ok-activations.ensures.times seed start) (c.in_ok-activations.ensures.left seed start)
    (c.in_ok-ready.ensures.ready ∙ ap (λ n. replicate n false) c.len.ensures)
    (c.in_ok-ready.ensures.executed ∙ ap (λ n. replicate n 0) c.len.ensures)
    (c.in_ok-newest.ensures.newest ∙ ap (λ n. replicate n 0) c.len-2.ensures)
    (c.in_ok-newest.ensures.losses ∙ ap (λ n. replicate n 0) c.len-2.ensures)
    (c.in_ok-numbers.ensures.numbers ∙ ap (λ n. replicate {A = List ℕ} n []) c.len-3.ensures)
    (c.in_ok-numbers.ensures.arrivals ∙ ap (λ n. replicate {A = List ℕ} n []) c.len-3.ensures)
