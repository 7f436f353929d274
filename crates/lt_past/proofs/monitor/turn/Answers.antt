use Rattle.std.proofs.Common.{◌≡◌, ◌≤◌, ◌<◌, ◌∙◌, length, false, sym, ap, arith}
use Rattle.std.specs.Prelude.{slice_index_or}
use Rattle.lt_past.specs.declared.monitor.Part.TheVariants as part
use Rattle.lt_past.specs.Turn.{at, part_value, past, infix_value}
use Rattle.lt_past.proofs.Turns.{turned_more, rest_more, prior_here, prior_last}
use Rattle.lt_past.proofs.monitor.turn.Goals.{in-Lit, in-Out, in-Before, in-Between}
use Rattle.lt_past.proofs.monitor.turn.Goals as goal

pub parts-preserved : goal.parts-preserved
parts-preserved c =
    let k = c.parts.k in
    let inv = c.parts.invariant in
    let p = slice_index_or c.args.parts.now k (part.Lit false) in
    let le : k ≤ k = omega arith in
    let old : at c.parts.values k ≡ at c.args.values.now k = inv.rest k le in
    let value = part_value c.args.began c.args.now.now c.args.values.now c.parts.values k in
    let is : c.match-parts-k.newest ≡ part_value c.args.began c.args.now.now c.args.values.now c.parts.values k p =
    elim c.match-parts-k.branch [
      | in-Lit w ↦ w.newest-is ∙ sym (ap value w.in-Lit.is)
      | in-Out w ↦ w.newest-is ∙ sym (ap value w.in-Out.is)
      | in-Before w ↦ w.newest-is ∙ w.past-newest.ensures ∙ (λ i. past w.in-Before.word c.args.began (old i) (inv.before i) (inv.newest i)) ∙ sym (ap value w.in-Before.is)
      | in-Between w ↦ w.newest-is ∙ w.both-newest.ensures ∙ (λ i. infix_value w.in-Between.word (old i) (at c.parts.values w.in-Between.first) (inv.newest i)) ∙ sym (ap value w.in-Between.is)
    ] in
    record {
      turned = turned_more _ c.args.parts.now c.args.began c.args.now.now c.args.values.now c.parts.values k c.match-parts-k.newest c.requires.fit c.parts-test.true (c.parts.auto.values ∙ c.requires.each) is inv.turned;
      rest = rest_more c.args.values.now c.parts.values k c.match-parts-k.newest inv.rest;
      before = old ∙ sym (prior_last c.args.values.now k);
      newest = let h : k < length c.parts.values = omega arith in sym (prior_here c.parts.values k c.match-parts-k.newest h);
    }
