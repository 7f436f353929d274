-- Values that are there, and of their declared types.
use Rattle.std.specs.Prelude.{◌≡◌, ℕ, ◌<◌, true, Some, List, [], ◌∷◌, length}
use Rattle.lt_base.specs.declared.value.Ty.{Ty}
use Rattle.lt_base.specs.declared.function.Decl.{Decl}
use Rattle.lt_base.specs.Meaning.{Environment, clock_of, present}
use Rattle.lt_base.specs.Typing.{ty_at, HasType}

-- the variable, where it is present, has a value of its declared type
abbrev pub DefinedAt : List Decl → Environment → ℕ → Type 0
DefinedAt ds env x = (t : Ty) → x < length ds → ty_at ds x ≡ Some t → present env (clock_of ds x) ≡ true → HasType (env x) t

-- so has every variable at each of these instants
abbrev pub AllDefined : List Decl → List Environment → Type 0
AllDefined ds [] = Unit {0}
AllDefined ds (env ∷ past) = ((x : ℕ) → DefinedAt ds env x) × AllDefined ds past
