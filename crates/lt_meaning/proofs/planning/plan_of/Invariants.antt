use Rattle.std.proofs.Common.{ℕ, List, length, drop, map}
use Rattle.lt_base.specs.Program.{Function, GoodFunction}
use Rattle.lt_base.specs.Order.{Ordered}
use Rattle.lt_cause.specs.Orders.{IsOrder, order_place}
use Rattle.lt_meaning.specs.Plan.{delay_form}
use Rattle.lt_meaning.specs.Lift.{Item}
use Rattle.lt_meaning.specs.Taken.{taken, wait_form}
use Rattle.lt_meaning.specs.Fine.{FunctionPasses}
use Rattle.lt_meaning.proofs.Begun.{Begun, Settling}
use Rattle.lt_meaning.proofs.Weights.{weight}
use Rattle.lt_meaning.proofs.planning.plan_of.Given as goal

abbrev pub invariant-loop-k : goal.invariant-loop-k
invariant-loop-k l = (fs : List Function) (height : ℕ → ℕ) (top : ℕ) → FunctionPasses fs height top l.f → (items : List Item) × Begun fs height top l.f l.k-items l.k-index items (taken l.to)

abbrev pub invariant-loop-to : goal.invariant-loop-to
invariant-loop-to l = (fs : List Function) (height : ℕ → ℕ) (top : ℕ) (good : GoodFunction l.f) (passes : FunctionPasses fs height top l.f)
    → (order : List ℕ) × (is : IsOrder l.f order) × (ordered : Ordered l.f (order_place l.f order)) × (items : List Item) × Settling fs height top l.f good passes order is ordered items (taken l.to) (map delay_form l.delays.items)

abbrev pub decreases-loop-to : goal.decreases-loop-to
decreases-loop-to l = weight (drop (length l.delays.items) (map wait_form l.to.waiting.items))
