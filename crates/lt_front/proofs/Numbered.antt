-- The variables, the equations and the slots of a flat form are numbered in 32 bits.
use Rattle.std.proofs.Common.{◌<◌, length, arith}
use Rattle.std.specs.Prelude.{◌^◌}
use Rattle.lt_base.specs.Sizes.{weight_with}
use Rattle.lt_base.specs.Program.{WholeProgram}
use Rattle.lt_base.proofs.Counted.{equations_fewer}
use Rattle.lt_norm.specs.Flat.{Originated}
use Rattle.lt_front.specs.Flattened.{KeepsMain}

module _ (p : WholeProgram) (flat : Originated) (keeps : KeepsMain p flat) where
  pub few_variables : length flat.func.decls < 2 ^ 32
  few_variables = let few = keeps.few in omega (arith, few)

  pub few_equations : length flat.func.eqs < 2 ^ 32
  few_equations = let fewer = equations_fewer flat.func.eqs in let parts = keeps.parts in omega (arith, fewer, parts)

  pub few_slots : weight_with (λ _. 0) flat.func < 2 ^ 32
  few_slots = let slots = keeps.slots in omega (arith, slots)
