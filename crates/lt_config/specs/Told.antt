-- What the reading of a table tells.
use Rattle.std.specs.Prelude.{◌≡◌, ℕ, List, Result, Ok, Err, Some, None, String}
use Rattle.std.specs.BTreeMap.{BTreeMap}
use Rattle.std.specs.declared.alloc.Global.{Global}
use Rattle.toml.specs.View.{table_view}
use Rattle.toml.specs.declared.value.Value.{Value}
use Rattle.lt_base.specs.declared.memory.Or.{Or}
use Rattle.lt_base.specs.declared.memory.Or.TheVariants.{Fault, Memory}
use Rattle.lt_config.specs.declared.fault.ConfigFault.{ConfigFault}
use Rattle.lt_config.specs.Faults.{first_fault}
use Rattle.lt_config.specs.Reading.{toml_table_of, config_of}

-- a table without a fault, or what is wrong with the bytes
abbrev pub ToldTable : List ℕ → Result (BTreeMap (String Global) Value) (Or ConfigFault) → Type 0
ToldTable bytes (Ok t) = (toml_table_of bytes ≡ Some (table_view t)) × (first_fault (table_view t) ≡ None)
ToldTable bytes (Err (Fault f)) = config_of bytes ≡ Err f
ToldTable bytes (Err Memory) = Unit {0}
