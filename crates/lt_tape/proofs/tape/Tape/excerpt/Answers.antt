use Rattle.std.proofs.Common.{◌∙◌, ap}
use Rattle.std.specs.Prelude.{is_some}
use Rattle.lt_tape.proofs.Taping.{front_shown, on_excerpt}
use Rattle.lt_tape.proofs.tape.Tape.excerpt.Goals as goal

pub returns-in-Some : goal.returns-in-Some
returns-in-Some c =
    on_excerpt c.front_excerpt.result (λ e shown asked nodes xs is. shown ∙ front_shown c.args.self.now asked nodes xs is c.args.stop (λ h. ap is_some c.in-Some.is)) c.front_excerpt.ensures
