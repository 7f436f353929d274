use Rattle.std.proofs.Common.{pos}
use Rattle.lt_base.specs.declared.value.Value.TheVariants.{Int}
use Rattle.lt_c_node.proofs.linking.carried_among.Goals as goal

pub carried-requires : goal.carried-requires
carried-requires c =
    c.requires.starts c.crossings.crossing-index (record { from = 0; to = 0; first = Int (pos 0); var = 0; reader = 0 }) c.crossings-test.true
