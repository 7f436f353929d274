-- The channels of each node, as first entries.
use Rattle.std.proofs.Common.{◌≡◌, ℕ, zero, suc, List, [], ◌∷◌, ◌++◌, refl, ap}
use Rattle.lt_arch.specs.declared.chan.Chan.{Chan}
use Rattle.lt_link.specs.declared.ports.Ports.{Ports}
use Rattle.lt_link.specs.Ports.{node_ports_of, all_ports}
use Rattle.lt_net_node.specs.Local.{firsts}

pub are_firsts : (cs : List Chan) (n : ℕ) → all_ports cs n ≡ firsts (node_ports_of cs) n
are_firsts cs zero = refl
are_firsts cs (suc n) = ap (λ (l : List Ports). l ++ node_ports_of cs n ∷ []) (are_firsts cs n)
