use Rattle.std.proofs.Common.{[], ◌∷◌, codes, refl, sym, ap, subst, ◌∙◌, lit≤}
use Rattle.std.specs.List.{AllPass}
use Rattle.std.proofs.lemmas.List.Sums.{AllPass-from_list_all}
use Rattle.std.specs.List.Sorted.{IsStrictlySortedBy}
use Rattle.lt_arch.specs.Names.{is_identifier}
use Rattle.lt_arch.specs.NodeNames.{names_of, byte_order}
use Rattle.lt_tests_network.proofs.layouts.two_nodes.Goals as goal

two_identifiers : AllPass is_identifier (codes "a" ∷ codes "b" ∷ [])
two_identifiers = AllPass-from_list_all is_identifier (codes "a" ∷ codes "b" ∷ []) refl

two_ascend : IsStrictlySortedBy byte_order (codes "a" ∷ codes "b" ∷ [])
unfolding IsStrictlySortedBy
two_ascend = ((refl, tt), (tt, tt))

pub invariant_of-result : goal.invariant_of-result
invariant_of-result c =
    let is = ap names_of (c.of-nodes.ensures ∙ c.in_ok-vec.ensures.items) ∙ (λ i. c.in_ok-a.ensures i ∷ c.in_ok-b.ensures i ∷ []) in
    record {
      inhabited = rw (c.of-nodes.ensures, c.in_ok-vec.ensures.items) (lit≤ tt);
      identifiers = subst (AllPass is_identifier) (sym is) two_identifiers;
      ascending = subst (IsStrictlySortedBy byte_order) (sym is) two_ascend;
    }
