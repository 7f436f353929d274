-- What is drawn of a list with an offence, whatever its events are.
use Rattle.std.proofs.Common.{◌≡◌, ◌∙◌, Result, Ok, Err, ap}
use Rattle.std.specs.Prelude.{IfOk}
use Rattle.lt_tape.specs.declared.asked.Asked.{Asked}
use Rattle.lt_course.specs.declared.course.RefusedEvent.{RefusedEvent}
use Rattle.lt_course.specs.declared.course.Stopped.{Stopped}
use Rattle.lt_course.specs.Whole.{WholeCourse, stopped_before}

-- where it is drawn of what the events are drawn as, and this is the event that is refused
pub stopped_if : {B L : Type 0} (asked : Asked) (Draws : WholeCourse → Type 0) (Has : L → Type 0) (whole : L → WholeCourse) (at : L → RefusedEvent) (refused : RefusedEvent) (r : Result Stopped B) → ((es : L) → Has es → Draws (whole es)) → ((es : L) → Has es → refused ≡ at es)
    → IfOk r (λ x. (w : WholeCourse) → Draws w → x ≡ stopped_before asked w refused) → IfOk r (λ x. (es : L) → Has es → x ≡ stopped_before asked (whole es) (at es))
stopped_if asked Draws Has whole at refused (Ok x) draws is stops = λ es has. stops (whole es) (draws es has) ∙ ap (stopped_before asked (whole es)) (is es has)
stopped_if asked Draws Has whole at refused (Err e) draws is stops = tt
