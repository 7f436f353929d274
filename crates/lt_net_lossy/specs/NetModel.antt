-- What a net over links that lose messages holds.
use Rattle.std.specs.Prelude.{Option}
use Rattle.lt_net.specs.declared.fault.First.{First}
use Rattle.lt_net_lossy.specs.Net.{LossyBenchState}

-- a net that a fault may have stopped
pub record LossyNetState (C M : Type 0) : Type 0 where
  pub bench : LossyBenchState C M
  -- the fault that stopped it, if one did
  pub stopped : Option First
