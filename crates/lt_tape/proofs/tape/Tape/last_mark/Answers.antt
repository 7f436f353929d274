use Rattle.std.proofs.Common.{◌≡◌, ◌∙◌, ◌≤◌, ℕ, List, Option, ap, subst, sym}
use Rattle.std.specs.Prelude.{IfSome, option_map}
use Rattle.lt_arch.specs.declared.limits.TheConstants.{GREATEST_TIME}
use Rattle.lt_diagram.specs.declared.picture.Mark.{Mark}
use Rattle.lt_tape.specs.Times.{last_mark}
use Rattle.lt_tape.proofs.Taping.{time_in, timely_last}
use Rattle.lt_tape.proofs.tape.Tape.last_mark.Goals as goal

pub returns-clause-value : goal.returns-clause-value
returns-clause-value c = λ asked nodes xs is.
    c.time_of.ensures ∙ ap (option_map (λ (m : Mark). m.time)) c.mark_of.ensures ∙ ap (λ (ms : List Mark). time_in c.args.node ms) c.as_slice.ensures ∙ is.latest c.args.node

pub returns-clause-timely : goal.returns-clause-timely
returns-clause-timely c = λ asked nodes xs is.
    let value : c.time_of.result ≡ last_mark c.args.node xs =
    c.time_of.ensures ∙ ap (option_map (λ (m : Mark). m.time)) c.mark_of.ensures ∙ ap (λ (ms : List Mark). time_in c.args.node ms) c.as_slice.ensures ∙ is.latest c.args.node in
    subst (λ (o : Option ℕ). IfSome o (λ at. at ≤ GREATEST_TIME)) (sym value) (timely_last c.args.node xs is.timely)
