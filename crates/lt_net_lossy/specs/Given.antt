-- The input row of an instant over links that lose messages.
use Rattle.std.specs.Prelude.{◌≡◌, ℕ, ◌<◌, List, Option, Some, slice_index_or}
use Rattle.lt_base.specs.declared.value.Value.{Value}
use Rattle.lt_arch.specs.declared.event.Event.TheVariants.{Act, Del, End}
use Rattle.lt_lossy.specs.declared.event.LossyEvent.{LossyEvent}
use Rattle.lt_lossy.specs.declared.event.LossyEvent.TheVariants.{Plain, Lose}
use Rattle.lt_net_bench.specs.Given.{FitsPart}
use Rattle.lt_net_lossy.specs.Net.{LossyBenchState}

-- a row is given, and fits node n's part, while the node has instants left
abbrev pub HasLossyRow : {C M : Type 0} → LossyBenchState C M → (n : ℕ) → Option (List Value) → Type 0
HasLossyRow net n row = slice_index_or net.executed n 0 < net.rows → (r : List Value) × (row ≡ Some r) × FitsPart net.layout n r

-- an activation has its node's row
abbrev pub IsLossyRowFor : {C M : Type 0} → LossyBenchState C M → LossyEvent → Option (List Value) → Type 0
IsLossyRowFor net (Plain (Act n at)) row = HasLossyRow net n row
IsLossyRowFor net (Plain (Del c at)) row = Unit {0}
IsLossyRowFor net (Plain (End at)) row = Unit {0}
IsLossyRowFor net (Lose c at) row = Unit {0}
