use Rattle.std.proofs.Common.{◌≡◌, ◌∙◌, ap, sym, true, false}
use Rattle.std.specs.Prelude.{is_some}
use Rattle.lt_tape.specs.Excerpts.{excerpt_of}
use Rattle.lt_tape.proofs.Taping.{front_shown, on_excerpt, tail_shown}
use Rattle.lt_tape.proofs.tape.Tape.default_excerpt.Goals as goal

pub returns-in-None : goal.returns-in-None
returns-in-None c =
    on_excerpt c.front_excerpt.result
    (λ e shown asked nodes xs is. shown ∙ front_shown c.args.self.now asked nodes xs is c.args.stop (λ h. let clash : true ≡ false = sym h ∙ ap is_some c.in-None.is in absurd cc)) c.front_excerpt.ensures

pub returns-in-Some : goal.returns-in-Some
returns-in-Some c =
    on_excerpt c.tail_excerpt.result
    (λ e shown asked nodes xs is. shown ∙ tail_shown c.args.self.now asked nodes xs is c.in-Some.stop c.requires ∙ (λ i. excerpt_of asked nodes (sym c.in-Some.is i) xs)) c.tail_excerpt.ensures
