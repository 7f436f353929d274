-- What a function without calls needs in order to stand for the calls of another one.
use Rattle.std.specs.Prelude.{◌≡◌, ℕ, ◌<◌, Option, Some, List, [], ◌∷◌, length}
use Rattle.lt_base.specs.declared.value.Ty.{Ty}
use Rattle.lt_base.specs.Program.{Function, GoodFunction}
use Rattle.lt_base.specs.Meaning.{Row, Callee, clock_of, environments, answer, function_of}
use Rattle.lt_base.specs.Typing.{call_type, TypedFunction}
use Rattle.lt_base.specs.Clocking.{ClockedFunction}
use Rattle.lt_base.specs.Dependence.{Causal}
use Rattle.lt_expand.specs.Copies.{first_or_zero}

-- h can be copied for calls of function g of a program with that many arguments
pub record Fits (fs : List Function) (h : Function) (g n : ℕ) : Type 0 where
  pub good : GoodFunction h
  pub clocked : ClockedFunction [] h
  pub typed : TypedFunction [] h
  pub causal : Causal h
  -- it has one output, on the base clock
  pub one_out : h.outs ≡ first_or_zero h.outs ∷ []
  pub out_declared : first_or_zero h.outs < length h.decls
  pub out_on_base : clock_of h.decls (first_or_zero h.outs) ≡ []
  -- and the inputs and types of g
  pub arity : h.n_in ≡ n
  pub types : (us : List (Option Ty)) → call_type (function_of fs g) us ≡ call_type (Some h) us

-- and it answers what the calls answer
pub record Answering (callee : Callee) (fs : List Function) (h : Function) (g n : ℕ) : Type 0 where
  pub fits : Fits fs h g n
  pub meant : (rows : List Row) → callee g rows ≡ answer h.outs (environments callee h rows)
