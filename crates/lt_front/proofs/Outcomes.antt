-- Outcomes that exclude each other.
use Rattle.std.proofs.Common.{◌≡◌, ◌⊎◌, Result, Ok, Err, inl, inr}
use Rattle.lt_base.specs.declared.memory.Or.{Or}
use Rattle.lt_base.specs.declared.memory.Or.TheVariants.{Fault, Memory}

-- a fault is neither a value nor want of memory
pub faulty : {T E : Type 0} (x : T) (e : E) (r : Result T (Or E)) → r ≡ Err (Fault e) → (r ≡ Ok x) ⊎ (r ≡ Err Memory) → ⊥
faulty x e r here (inl is) = cc
faulty x e r here (inr is) = cc

pub refused : {T E : Type 0} (x : T) (e : E) → Err e ≡ Ok x → ⊥
refused x e is = cc
