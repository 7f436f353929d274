use Rattle.std.proofs.Common.{◌≡◌, ◌∙◌, ◌<◌, ◌+◌, ◌∷◌, ℕ, List, sym, subst, arith, length}
use Rattle.std.proofs.lemmas.Option.{MatchOption-at_some, MatchOption-at_none}
use Rattle.lt_base.specs.Graph.{ClosedWalk}
use Rattle.lt_graph.specs.Tables.{Leads}
use Rattle.lt_cause.specs.Tables.{HasClosedWalk, Circles}
use Rattle.lt_cause.specs.Orders.{IsLeastCycle, HasDependencies}
use Rattle.lt_cause.proofs.Cycles.{least_cycle, none_below_more, same_vars, some_starts, NoneBelow}
use Rattle.lt_cause.proofs.Places.{ordered, order_causal}
use Rattle.lt_cause.proofs.causality.causal.Goals as goal

pub returns-in-Some-clause-causal : goal.returns-in-Some-clause-causal
returns-in-Some-clause-causal c = order_causal c.args.f.now c.in_ok-eqs.eqs c.in_ok-eqs.ensures

pub returns-in-Some-clause-places : goal.returns-in-Some-clause-places
returns-in-Some-clause-places c = ordered c.args.f.now c.in_ok-eqs.eqs c.in_ok-eqs.ensures

pub loop-variable-init : goal.loop-variable-init
loop-variable-init c = λ x l walk w. absurd (omega (arith, l))

pub returns-in-Some-2-clause-acyclic : goal.returns-in-Some-2-clause-acyclic
returns-in-Some-2-clause-acyclic c = λ causal.
    let f = c.args.f.now in
    let table = c.in_ok-table.table in
    let told : HasDependencies f table = c.in_ok-table.ensures.table in
    let none : NoneBelow f table told c.loop-variable.variable = subst (λ (t : List (List ℕ)). (x : ℕ) → x < c.loop-variable.variable → (walk : List ℕ) → ClosedWalk (Leads t) (x ∷ walk) → ⊥) c.table.view_is c.loop-variable.invariant in
    let circle : Circles (Leads table) c.loop-variable.variable c.in-Some-2.walk.items = MatchOption-at_some _ _ c.in-Some-2.walk c.in-Some-2.is c.in_ok-walk.ensures in
    absurd (causal c.in-Some-2.walk.items (least_cycle f table told c.loop-variable.variable c.in-Some-2.walk.items none circle).closed)

pub returns-in-Some-2-clause-cycle : goal.returns-in-Some-2-clause-cycle
returns-in-Some-2-clause-cycle c = λ cycle e.
    let f = c.args.f.now in
    let table = c.in_ok-table.table in
    let told : HasDependencies f table = c.in_ok-table.ensures.table in
    let none : NoneBelow f table told c.loop-variable.variable = subst (λ (t : List (List ℕ)). (x : ℕ) → x < c.loop-variable.variable → (walk : List ℕ) → ClosedWalk (Leads t) (x ∷ walk) → ⊥) c.table.view_is c.loop-variable.invariant in
    let circle : Circles (Leads table) c.loop-variable.variable c.in-Some-2.walk.items = MatchOption-at_some _ _ c.in-Some-2.walk c.in-Some-2.is c.in_ok-walk.ensures in
    let least = least_cycle f table told c.loop-variable.variable c.in-Some-2.walk.items none circle in
    let vars : c.of.result ≡ cycle.vars = same_vars _ cycle e in
    subst (IsLeastCycle f) (sym c.of.ensures ∙ vars) least

pub loop-variable-preserved : goal.loop-variable-preserved
loop-variable-preserved c =
    let f = c.args.f.now in
    let table = c.in_ok-table.table in
    let told : HasDependencies f table = c.in_ok-table.ensures.table in
    let none : NoneBelow f table told c.loop-variable.variable = subst (λ (t : List (List ℕ)). (x : ℕ) → x < c.loop-variable.variable → (walk : List ℕ) → ClosedWalk (Leads t) (x ∷ walk) → ⊥) c.table.view_is c.loop-variable.invariant in
    let here : (walk : List ℕ) → ClosedWalk (Leads table) (c.loop-variable.variable ∷ walk) → ⊥ = MatchOption-at_none _ _ c.in_default-2.is c.in_ok-walk.ensures in
    subst (λ (t : List (List ℕ)). (x : ℕ) → x < c.loop-variable.variable + 1 → (walk : List ℕ) → ClosedWalk (Leads t) (x ∷ walk) → ⊥) (sym c.table.view_is) (none_below_more f table told c.loop-variable.variable none here)

pub unreachable-requires : goal.unreachable-requires
unreachable-requires c =
    let f = c.args.f.now in
    let table = c.in_ok-table.table in
    let told : HasDependencies f table = c.in_ok-table.ensures.table in
    let none : NoneBelow f table told c.loop-variable.variable = subst (λ (t : List (List ℕ)). (x : ℕ) → x < c.loop-variable.variable → (walk : List ℕ) → ClosedWalk (Leads t) (x ∷ walk) → ⊥) c.table.view_is c.loop-variable.invariant in
    let some : HasClosedWalk (Leads table) = MatchOption-at_none _ _ c.in_default.is c.in_ok-order.ensures in
    let over = c.loop-variable-test.false in
    let size : c.len-variable-end.result ≡ length table = c.len-variable-end.ensures in
    some_starts f table told some (λ x l. none x (omega (arith, l, over, size)))
