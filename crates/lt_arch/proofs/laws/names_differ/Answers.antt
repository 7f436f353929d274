use Rattle.std.proofs.Common.{◌≡◌, ◌≢◌, ℕ, List, Ordering, Less, Equal, Greater, get_or, sym, ap, ◌∙◌}
use Rattle.std.proofs.lemmas.Map.Keys.{Less-from_sorted}
use Rattle.std.proofs.lemmas.Cmp.{nat_list_cmp_total}
use Rattle.std.specs.Ordering.{ordering_reverse}
use Rattle.lt_arch.specs.NodeNames.{names_of, byte_order}
use Rattle.lt_arch.proofs.laws.names_differ.Goals as goal

not_below_itself : (name : List ℕ) → byte_order name name ≢ Less
not_below_itself name = by (byte_order name name) (nat_list_cmp_total.antisymm name name)
  where
    by : (order : Ordering) → order ≡ ordering_reverse order → order ≢ Less
    by Less h e = cc
    by Equal h e = cc
    by Greater h e = cc

pub returns : goal.returns
returns c = λ named i j d before in_range same.
    let less = Less-from_sorted byte_order (names_of named.nodes) i j d named.ascending before in_range in
    let b = get_or (names_of named.nodes) j d in
    not_below_itself b (ap (λ name. byte_order name b) (sym same) ∙ less)
