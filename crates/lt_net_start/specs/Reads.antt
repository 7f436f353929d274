-- The rows of inputs, and room for one of them.
use Rattle.std.specs.Prelude.{◌≡◌, ℕ, List, length}
use Rattle.lt_base.specs.declared.value.Value.{Value}
use Rattle.lt_base.specs.Inputs.{InputTable}
use Rattle.lt_step.specs.Run.{HasRowValues}

-- a row of so many inputs can be read into the room for one
pub record CanRead (inputs : InputTable) (width : ℕ) (room : List Value) : Type 0 where
  pub width_is : inputs.width ≡ width
  pub room_is : length room ≡ width
  pub wide : HasRowValues width inputs.rows
