-- How large the parts of a placed function are.
use Rattle.std.specs.Prelude.{◌+◌, ◌*◌, ◌^◌, ◌<◌, ◌≤◌, [], length}
use Rattle.std.specs.List.{sum_by}
use Rattle.lt_base.specs.declared.function.Decl.{Decl}
use Rattle.lt_base.specs.Expression.{parts as expression_parts}
use Rattle.lt_base.specs.Program.{Function}
use Rattle.lt_base.specs.Typing.{TypedFunction}
use Rattle.lt_base.specs.Clocking.{ClockedFunction}
use Rattle.lt_base.specs.Dependence.{Causal}
use Rattle.lt_base.specs.Sizes.{cost, weight_with}

-- a function without calls has at most as many variables, equations, delays, expression parts and pairs of clocks as another
pub record IsNoLarger (g f : Function) : Type 0 where
  pub variables : length g.decls ≤ length f.decls
  pub equations : length g.eqs ≤ length f.eqs
  pub delays : sum_by (λ q. cost 1 (λ _. 0) q.1) g.eqs ≤ sum_by (λ q. cost 1 (λ _. 0) q.1) f.eqs
  pub parts : sum_by (λ q. expression_parts q.1) g.eqs ≤ sum_by (λ q. expression_parts q.1) f.eqs
  pub pairs : sum_by (λ (d : Decl). length d.clock) g.decls ≤ sum_by (λ (d : Decl). length d.clock) f.decls

-- variables and equations, and the slots of step code, one for each variable and each delay, are numbered in 32 bits, and eight times
-- the variables, expression parts and pairs of clocks, which bound what a step reads and writes, in 64
pub record HasCodeRoom (f : Function) : Type 0 where
  pub variables : length f.decls < 2 ^ 32
  pub equations : length f.eqs < 2 ^ 32
  pub slots : weight_with (λ _. 0) f < 2 ^ 32
  pub size : 8 * (length f.decls + sum_by (λ q. expression_parts q.1) f.eqs + sum_by (λ (d : Decl). length d.clock) f.decls) < 2 ^ 64

-- the equations have an order, and with it the function compiles
pub record IsCompilable (f : Function) : Type 0 where
  pub typed : TypedFunction [] f
  pub clocked : ClockedFunction [] f
  pub causal : Causal f
  pub room : HasCodeRoom f
