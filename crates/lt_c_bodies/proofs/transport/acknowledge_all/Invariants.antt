use Rattle.std.proofs.Common.{◌≡◌, ◌++◌, take}
use Rattle.lt_c_bodies.specs.Messages.{acknowledge_text}
use Rattle.std.specs.List.{flat_map}
use Rattle.lt_c_bodies.proofs.transport.acknowledge_all.Given as goal

abbrev pub invariant-nodes : goal.invariant-nodes
invariant-nodes l = l.out ≡ l.initial.out ++ flat_map (acknowledge_text l.t l.file) (take l.j-index l.js)
