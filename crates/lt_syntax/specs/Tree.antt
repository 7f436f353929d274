-- Expressions with names, without places in memory: the shape of a `Term`, as contracts see it.
use Rattle.std.specs.Prelude.{ℕ, Bool, List, [], ◌∷◌}
use Rattle.lt_base.specs.declared.operators.Un.{Un}
use Rattle.lt_base.specs.declared.operators.Bin.{Bin}
use Rattle.lt_base.specs.declared.value.Value.{Value}

mutual
  -- a term; names are their bytes
  pub data Tm : Type 0 where
    Lit : Value → Tm
    Var : List ℕ → Tm
    Unary : Un → Tm → Tm
    Binary : Bin → Tm → Tm → Tm
    Choice : Tm → Tm → Tm → Tm
    Sampled : Tm → List ℕ → Bool → Tm
    Merged : List ℕ → Tm → Tm → Tm
    Delayed : Value → Tm → Tm
    Followed : Tm → Tm → Tm
    Arrow : Tm → Tm → Tm
    Call : List ℕ → Tms → Tm

  -- the arguments of a call, in order
  pub data Tms : Type 0 where
    Nil : Tms
    Cons : Tm → Tms → Tms

-- arguments from a list
abbrev pub tms : List Tm → Tms
tms [] = Nil
tms (a ∷ as') = Cons a (tms as')
