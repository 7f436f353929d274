use Rattle.std.proofs.Common.{◌∙◌, List, map, ap, sym, refl, rules}
use Rattle.lt_base.specs.declared.value.Value.{Value}
use Rattle.lt_base.specs.Value.{ty_of}
use Rattle.lt_io.specs.FlipState.{FlipState, waits}
use Rattle.lt_io.proofs.Flips.{types_flipped, kind_is}
use Rattle.lt_io.proofs.flip_fabric.FlipFabricFabric.deliver.Goals as goal

pub returns-clause-delivers : goal.returns-clause-delivers
returns-clause-delivers c =
    let facts = c.in_ok-bit.ensures in
    let taken = facts.ok in
    let types = ap (λ (vs : List Value). map ty_of vs) taken.flips ∙ types_flipped taken.oldest.payload in
    record {
      cause = refl;
      keeps = search rules;
      delivered = record {
        kinds = facts.kinds;
        oldest = taken.oldest;
        taken = taken.taken;
        elsewhere = λ i other. ap (λ (s : FlipState). waits s) (facts.elsewhere i other);
        bit = taken.bit;
        types = types;
        typed = types ∙ taken.typed ∙ sym (kind_is c.args.self.now.channels.items c.args.ch);
        values = λ none. cc;
        sent = λ _. facts.sent;
        delivered = λ _. record {
          there = taken.delivered;
          elsewhere = λ i other. ap (λ (s : FlipState). s.delivered) (facts.elsewhere i other);
        };
      };
      same = search rules;
      prompt = λ none. cc;
      sound = λ _. refl;
    }
