use Rattle.lt_arch.specs.State.{start}
use Rattle.lt_course.proofs.Strokes.{strokes_count}
use Rattle.lt_course.proofs.laws.stroke_each.Goals as goal

pub returns : goal.returns
returns c = λ cross s t rows es. strokes_count cross s t rows (start t.protocol) 0 es
