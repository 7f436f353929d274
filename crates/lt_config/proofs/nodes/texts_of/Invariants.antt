use Rattle.std.proofs.Common.{◌≡◌, ◌++◌, drop}
use Rattle.toml.specs.View.{items_view}
use Rattle.lt_config.specs.Setup.{texts_of}
use Rattle.lt_config.proofs.nodes.texts_of.Given as goal

abbrev pub invariant-loop-value : goal.invariant-loop-value
invariant-loop-value l = texts_of (items_view l.items) ≡ l.texts ++ texts_of (items_view (drop l.value-index l.items))
