-- What the bytes of a setup file read as.
use Rattle.std.specs.Prelude.{◌≡◌, ℕ, List, [], ◌∷◌, map, Option, Some, None, false, Result, Ok, Err, if◌then◌else◌}
use Rattle.std.specs.Str.{is_utf8}
use Rattle.toml.specs.Data.{Members}
use Rattle.toml.specs.Parse.{parse_document}
use Rattle.lt_base.specs.declared.memory.Or.{Or}
use Rattle.lt_base.specs.declared.memory.Or.TheVariants.{Fault, Memory}
use Rattle.lt_arch.specs.declared.times.NodeTime.{NodeTime}
use Rattle.lt_arch.specs.declared.times.PairTime.{PairTime}
use Rattle.lt_arch.specs.declared.timing.Protocol.TheVariants.{BackPressure}
use Rattle.lt_arch.specs.declared.named.NamedNode.{NamedNode}
use Rattle.lt_arch.specs.declared.placement.Placement.{Placement}
use Rattle.lt_arch.specs.declared.placement.Placement.TheVariants.{All, Named}
use Rattle.lt_arch.specs.declared.pace.Pace.TheVariants.{Plain}
use Rattle.lt_config.specs.declared.fault.ConfigKind.TheVariants.{NotToml}
use Rattle.lt_config.specs.declared.fault.ConfigFault.{ConfigFault}
use Rattle.lt_config.specs.declared.config.Config.{Config}
use Rattle.lt_config.specs.Faults.{first_fault}
use Rattle.lt_config.specs.Setup.{NodeNumbers, PairNumbers, Setup, setup_of}

-- ---- the setup of some bytes

-- the table of bytes that are UTF-8 and TOML
abbrev pub toml_table_of : List ℕ → Option Members
toml_table_of bytes = if is_utf8 bytes then parse_document bytes else None

abbrev pub not_toml : ConfigFault
not_toml = record { kind = NotToml; key = [] }

abbrev pub setup_or : Members → Option ConfigFault → Result Setup ConfigFault
setup_or t None = Ok (setup_of t)
setup_or t (Some fault) = Err fault

-- what a table reads as: the setup that it says, or its first fault
abbrev pub judged_table : Option Members → Result Setup ConfigFault
judged_table None = Err not_toml
judged_table (Some t) = setup_or t (first_fault t)

abbrev pub config_of : List ℕ → Result Setup ConfigFault
config_of bytes = judged_table (toml_table_of bytes)

-- a thousand ticks at most for a period and for a delay, on one node
abbrev pub plain_setup : Setup
plain_setup = record {
  times = record { tmin = 1; tmax = 1000; send = 1; execute = 1 } ∷ [];
  delays = [];
  most = 1000;
  protocol = BackPressure;
  placed = None;
  mixed = false;
  pace = Plain;
}

-- ---- the setup that a value is

abbrev pub numbers_of : NodeTime → NodeNumbers
numbers_of n = record { tmin = n.tmin; tmax = n.tmax; send = n.send; execute = n.execute }

abbrev pub delays_of : PairTime → PairNumbers
delays_of p = record { from = p.from; to = p.to; dmin = p.dmin; dmax = p.dmax }

abbrev pub placed_of : Placement → Option (List NamedNode)
placed_of All = None
placed_of (Named named) = Some named.nodes

abbrev pub setup_in : Config → Setup
setup_in c = record {
  times = map numbers_of c.timing.nodes;
  delays = map delays_of c.timing.pairs;
  most = c.timing.most;
  protocol = c.timing.protocol;
  placed = placed_of c.placement;
  mixed = c.mixed;
  pace = c.pace;
}

-- a call answers what the bytes read as, or want of memory
abbrev pub ReadsSetup : Result Setup ConfigFault → Result Config (Or ConfigFault) → Type 0
ReadsSetup r (Ok config) = r ≡ Ok (setup_in config)
ReadsSetup r (Err (Fault fault)) = r ≡ Err fault
ReadsSetup r (Err Memory) = Unit {0}
