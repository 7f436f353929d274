-- What a queue of send times keeps.
use Rattle.std.specs.Prelude.{ℕ, ◌≤◌, List, All}
use Rattle.lt_arch.specs.declared.limits.TheConstants.{GREATEST_TIME}
use Rattle.lt_lossy.specs.Window.{room}

-- there is room, and its times are in the range of times
pub record IsQueue (times : List ℕ) (capacity : ℕ) : Type 0 where
  pub space : room ≤ capacity
  pub timely : All (λ at. at ≤ GREATEST_TIME) times
