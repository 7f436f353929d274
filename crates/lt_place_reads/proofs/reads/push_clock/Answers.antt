use Rattle.std.proofs.Common.{◌∙◌, ◌++◌, ◌∷◌, [], ap, sym, map}
use Rattle.std.proofs.lemmas.List.{map-append}
use Rattle.lt_base.specs.Dependence.{clock_vars}
use Rattle.lt_place_reads.proofs.Pushed.{clock_more}
use Rattle.lt_place_reads.proofs.reads.push_clock.Goals as goal

pub loop-step-preserved : goal.loop-step-preserved
loop-step-preserved c =
    clock_more c.loop-step.to c.args.to.now c.push.new.self (map (λ s. s.now) c.loop-step.yielded) c.in-Some.step.now c.loop-step.invariant c.in_ok-push.ensures.ok
    ∙ ap (λ l. c.args.to.now ++ clock_vars l) (sym (map-append (λ s. s.now) c.loop-step.yielded (c.in-Some.step ∷ [])))
