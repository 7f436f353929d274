use Rattle.std.proofs.Common.{◌≡◌, drop}
use Rattle.toml.specs.View.{items_view}
use Rattle.lt_config.specs.Values.{all_texts}
use Rattle.lt_config.proofs.values.all_texts.Given as goal

abbrev pub invariant-loop-text : goal.invariant-loop-text
invariant-loop-text l = all_texts (items_view l.items) ≡ all_texts (items_view (drop l.text-index l.items))
