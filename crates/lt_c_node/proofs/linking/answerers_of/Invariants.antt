use Rattle.std.proofs.Common.{◌≡◌, map, take}
use Rattle.std.specs.List.{filter}
use Rattle.lt_c_node.specs.NodeOf.{brings_answers}
use Rattle.lt_c_node.proofs.linking.answerers_of.Given as goal

abbrev pub invariant-channels : goal.invariant-channels
invariant-channels l = l.all ≡ map (λ ch. ch.from) (filter (brings_answers l.n) (take l.channel-index l.channels))
