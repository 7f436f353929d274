-- What the texts of the large input read as.
use Rattle.std.specs.Prelude.{◌≡◌, ◌≤◌, ℕ, pos, List, [], ◌∷◌, map, length, Ok, codes}
use Rattle.std.specs.List.{range_with_len}
use Rattle.lt_base.specs.declared.function.Decl.{Decl}
use Rattle.lt_base.specs.declared.value.Ty.TheVariants as ty
use Rattle.lt_base.specs.declared.value.Value.{Value}
use Rattle.lt_base.specs.declared.value.Value.TheVariants.{Int}
use Rattle.lt_base.specs.Program.{Function}
use Rattle.lt_inputs.specs.Inputs.{inputs_in, inputs_of}
use Rattle.lt_big_texts.specs.Texts.{inputs_text}

-- the function has one input, which is an int of the name in the header
pub record HasOneInput (f : Function) : Type 0 where
  pub input : Decl
  pub only : inputs_in f ≡ input ∷ []
  pub name : input.name ≡ codes "x"
  pub ty : input.ty ≡ ty.Int

-- a row for each instant, which has the instant's number
abbrev pub numbered_rows : (instants : ℕ) → List (List Value)
numbered_rows instants = map (λ k. Int (pos k) ∷ []) (range_with_len 0 instants)

-- the text of the inputs of so many instants, which is not too long, reads as these rows
abbrev pub InputsRead : Type 0
InputsRead =
    (f : Function) (instants : ℕ) → HasOneInput f → instants ≤ 100000 →
    (length (inputs_text instants) ≤ 67108864) × (inputs_of f (inputs_text instants) ≡ Ok (record { width = f.n_in; rows = numbered_rows instants }))
