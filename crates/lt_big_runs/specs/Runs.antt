-- A run of the large input has no refusal.
use Rattle.std.specs.Prelude.{◌≤◌, ℕ, Err}
use Rattle.lt_io.specs.FabricState.{FabricState}
use Rattle.lt_load_fit.specs.declared.fault.CommandFault.{CommandFault}
use Rattle.lt_big.specs.Big.{big_verdict}

-- of as many instants as the command takes, whatever the fabric holds
abbrev pub NeverRefused : Type 0
NeverRefused = (instants : ℕ) (fabric : FabricState) (e : CommandFault) → instants ≤ 100000 → big_verdict instants fabric (Err e) → ⊥
