use Rattle.std.proofs.Common.{◌≡◌, List, length, refl, sym, ap, subst, ◌∙◌, arith}
use Rattle.lt_arch.specs.declared.times.PairTime.{PairTime}
use Rattle.lt_arch.specs.Pairs.{ends_of, ordered_pairs, HasNoneAbove}
use Rattle.lt_narrow.proofs.Times.{narrowed_by}
use Rattle.lt_narrow.proofs.narrow.narrowed.Goals as goal

pub invariant_of-result : goal.invariant_of-result
invariant_of-result c =
    let own = c.args.timing.now in
    let size : length c.in_ok-nodes.nodes ≡ length own.nodes = c.in_ok-nodes.ensures.size in
    let few = own.numbered in
    record {
      pairs_are = ap ends_of c.in_ok-pairs.ensures ∙ (own.pairs_are ∙ ap ordered_pairs (sym size));
      none_above = subst (λ (pairs : List PairTime). HasNoneAbove pairs own.most) (sym c.in_ok-pairs.ensures) own.none_above;
      most_range = own.most_range;
      numbered = omega (arith, size, few);
    }

pub returns : goal.returns
returns c = narrowed_by c.args.jitter c.args.timing.now _ c.in_ok-nodes.ensures c.in_ok-pairs.ensures refl refl
