use Rattle.std.proofs.Common.{◌∙◌, subst}
use Rattle.lt_arch.specs.State.{first_phase}
use Rattle.lt_sim.specs.Controlled.{AreControlled}
use Rattle.lt_sim.proofs.Nexts.{left-first}
use Rattle.lt_sim.proofs.drawing.Drawing.start.Goals as goal

pub returns : goal.returns
returns c =
    let s = c.args.shape.now in
    let t = c.args.timing.now in
    let seed = c.args.seed in
    let start = c.generator_of-generator.ensures ∙ left-first seed in
    record {
      same = c.requires.same;
      numbered = c.requires.numbered;
      left = c.in_ok-pending.ensures.left seed start;
      places = c.in_ok-pending.ensures.size;
      pending = c.in_ok-pending.ensures.pending seed start;
      controllers = subst (λ count. AreControlled t count (λ n. first_phase t.protocol) c.in_ok-controllers.controllers) c.requires.same c.in_ok-controllers.ensures.controllers;
      progress = c.in_ok-controllers.ensures.progress;
      messages = c.in_ok-messages.ensures.messages;
      acks = c.in_ok-messages.ensures.acks;
    }
