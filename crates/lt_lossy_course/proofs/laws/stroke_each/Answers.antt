use Rattle.lt_lossy.specs.State.{lossy_start}
use Rattle.lt_lossy_course.proofs.LossyStrokes.{strokes_count}
use Rattle.lt_lossy_course.proofs.laws.stroke_each.Goals as goal

pub returns : goal.returns
returns c = λ cross s t rows es. strokes_count cross s t rows lossy_start 0 es
