-- What the names of an observer stand for.
use Rattle.std.specs.Prelude.{ℕ, ◌≡◌, suc, zero, nat_eq, ◌==◌, if◌then◌else◌, Bool, true, false, List, [], ◌∷◌, ◌++◌, length, filter, position, bytes_eq, slice_index_or, Option, Some, None, Result, Ok, Err}
use Rattle.lt_base.specs.declared.value.Ty.{Ty}
use Rattle.lt_base.specs.declared.value.Ty.TheVariants as ty
use Rattle.lt_base.specs.declared.function.Decl.{Decl}
use Rattle.lt_base.specs.Program.{Function}
use Rattle.lt_past.specs.declared.fault.ObserverKind.{ObserverKind}
use Rattle.lt_past.specs.declared.fault.ObserverKind.TheVariants.{UnknownName, NotBool, NotBase}

-- the declaration of a variable
abbrev pub no_declaration : Decl
no_declaration = record { name = []; ty = ty.Bool; clock = [] }

abbrev pub declaration : Function → ℕ → Decl
declaration main y = slice_index_or main.decls y no_declaration

-- a bool on the base clock, or what is wrong with it
abbrev pub of_clock : ℕ → List (ℕ × Bool) → Result ℕ ObserverKind
of_clock place [] = Ok place
of_clock place (step ∷ clock) = Err NotBase

abbrev pub of_type : ℕ → Ty → List (ℕ × Bool) → Result ℕ ObserverKind
of_type place ty.Int clock = Err NotBool
of_type place ty.Bool clock = of_clock place clock

abbrev pub of_place : Function → Option ℕ → Result ℕ ObserverKind
of_place main None = Err UnknownName
of_place main (Some place) = let d = declaration main (slice_index_or main.outs place 0) in of_type place d.ty d.clock

-- the variable has this name
abbrev pub is_called : Function → List ℕ → ℕ → Bool
is_called main x y = bytes_eq (declaration main y).name x

-- the place, among the outputs, of the bool output on the base clock that has this name, or why there is none
abbrev pub output_of : Function → List ℕ → Result ℕ ObserverKind
output_of main x = of_place main (position (is_called main x) main.outs)

-- it is the output at this place
abbrev pub is_output_at : ℕ → Result ℕ ObserverKind → Bool
is_output_at place (Ok found) = nat_eq place found
is_output_at place (Err k) = false

-- one of the names is that of the output at this place
abbrev pub is_named : Function → List (List ℕ) → ℕ → Bool
is_named main [] place = false
is_named main (x ∷ xs) place = if is_output_at place (output_of main x) then true else is_named main xs place

-- the numbers below n, in order
abbrev pub numbers_below : ℕ → List ℕ
numbers_below zero = []
numbers_below (suc n) = numbers_below n ++ n ∷ []

-- the places of the outputs that are named, in order and each once
abbrev pub named_outs : Function → List (List ℕ) → List ℕ
named_outs main xs = filter (is_named main xs) (numbers_below (length main.outs))

-- the place of an output in a list of places; 0 where it is not in the list
abbrev pub or_zero : Option ℕ → ℕ
or_zero None = 0
or_zero (Some k) = k

abbrev pub output_place : List ℕ → Result ℕ ObserverKind → ℕ
output_place outs (Ok place) = or_zero (position (λ z. z == place) outs)
output_place outs (Err k) = 0

-- a name's number among the outputs that are named
abbrev pub output_number : Function → List ℕ → List ℕ → ℕ
output_number main outs x = output_place outs (output_of main x)

-- each name is that of a bool output on the base clock
abbrev pub IsOutput : Function → List ℕ → Type 0
IsOutput main x = (place : ℕ) × (output_of main x ≡ Ok place)

abbrev pub AreOutputs : Function → List (List ℕ) → Type 0
AreOutputs main [] = Unit {0}
AreOutputs main (x ∷ xs) = IsOutput main x × AreOutputs main xs
