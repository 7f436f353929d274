use Rattle.std.proofs.Common.{◌∙◌, map, take}
use Rattle.lt_place.specs.Spread.{feed_of}
use Rattle.lt_place.proofs.part.part_of.Goals as goal

pub returns : goal.returns
returns c =
    let flat = c.new-flat.ensures ∙ (λ i. record { func = c.in_ok-func.ensures.func i; origin = c.of.ensures i }) in
    let feeds = c.of-2.ensures ∙ c.in_ok-feeds.ensures ∙ (λ i. map (feed_of (c.deref-2.ensures.value i)) (take c.args.m.inputs (c.deref-3.ensures.value i))) in
    let outs = c.of-3.ensures ∙ c.requires.outs in
    record {
      members = c.args.m.list.items;
      own = c.args.m.own.items;
      inputs = c.args.m.inputs;
      numbers = c.requires.members;
      is = λ i. record { flat = flat i; feeds = feeds i; outs = outs i };
    }
