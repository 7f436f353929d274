use Rattle.std.proofs.Common.{◌∙◌, Option, ℕ, ap}
use Rattle.lt_tape.specs.Excerpts.{excerpt_of}
use Rattle.lt_course.specs.Whole.{unended_by}
use Rattle.lt_course.proofs.drawn.course_of.Goals as goal

pub pending_of-requires : goal.pending_of-requires
pending_of-requires g c =
    let at = c.requires in
    (g.R.Recording.whole c.args.recorder.now at.2, g.met.R.Recording.draws_whole c.args.recorder.now at.0 at.1 at.2 at.3)

pub returns : goal.returns
returns g c = λ outside steps es stands.
    let r = c.args.recorder.now in
    let asked = g.R.Drawable.asked r in
    let w = g.R.Recording.whole r es in
    let draws = g.met.R.Recording.draws_whole r outside steps es stands in
    let taped = c.tape-tape.ensures w draws in
    record {
      excerpt = c.in_ok-excerpt.ensures asked w.nodes w.strokes taped ∙ ap (λ (stop : Option ℕ). excerpt_of asked w.nodes stop w.strokes) c.stop_of.ensures;
      pending = c.in_ok-pending.ensures w draws;
      refused = c.unended-refused.ensures w.horizon (c.is_ended.ensures outside steps es stands) ∙ ap (λ (last : ℕ). unended_by w.horizon last) (c.last_time.ensures asked w.nodes w.strokes taped);
      miss = c.miss.ensures w draws;
    }
