use Rattle.std.proofs.Common.{◌≡◌, drop}
use Rattle.std.specs.List.{list_any}
use Rattle.std.specs.Str.{bytes_eq}
use Rattle.lt_config.specs.Keys.{keys, key_text}
use Rattle.lt_config.specs.Faults.{is_key}
use Rattle.lt_config.proofs.names.is_key.Given as goal

abbrev pub invariant-loop-key : goal.invariant-loop-key
invariant-loop-key l = (is_key l.name ≡ list_any (λ k. bytes_eq l.name (key_text k)) (drop l.key-index keys))
    × (l.key-items ≡ keys)
