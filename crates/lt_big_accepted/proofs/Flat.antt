-- The flat form of the large input's program: each delay is the equation of a variable of its own.
use Rattle.std.proofs.Common.{◌≡◌, ℕ, pos, List, [], ◌∷◌, ◌++◌, map, replicate, codes, refl}
use Rattle.lt_base.specs.declared.operators.Bin.TheVariants.{Add}
use Rattle.lt_base.specs.declared.value.Value.TheVariants.{Int}
use Rattle.lt_base.specs.Expression.{Expression, literal, variable, binary, delayed}
use Rattle.lt_norm.specs.Flat.{Originated}
use Rattle.lt_front.specs.Flattened.{flat_of}
use Rattle.lt_big_accepted.specs.Program.{int_decl, ring_names, large_function, large_program}

abbrev pub one_and : ℕ → Expression
one_and x = binary Add (literal (Int (pos 1))) (variable x)

abbrev pub last_of : ℕ → Expression
last_of x = delayed (Int (pos 0)) (variable x)

abbrev pub flat_rights : List (ℕ × Expression)
flat_rights =
    (1, binary Add (variable 0) (variable 9))
    ∷ (2, one_and 10)
    ∷ (3, one_and 11)
    ∷ (4, one_and 12)
    ∷ (5, one_and 13)
    ∷ (6, one_and 14)
    ∷ (7, one_and 15)
    ∷ (8, one_and 16)
    ∷ (9, last_of 8)
    ∷ (10, last_of 1)
    ∷ (11, last_of 2)
    ∷ (12, last_of 3)
    ∷ (13, last_of 4)
    ∷ (14, last_of 5)
    ∷ (15, last_of 6)
    ∷ (16, last_of 7)
    ∷ []

-- a lifted delay has no name
abbrev pub flat_names : List (List ℕ)
flat_names = codes "x" ∷ (ring_names ++ replicate 8 [])

abbrev pub flat_form : Originated
flat_form = record {
  func = record { name = codes "main"; decls = map int_decl flat_names; n_in = 1; outs = large_function.outs; eqs = flat_rights };
  origin = 0 ∷ 1 ∷ 2 ∷ 3 ∷ 4 ∷ 5 ∷ 6 ∷ 7 ∷ 8 ∷ 1 ∷ 2 ∷ 3 ∷ 4 ∷ 5 ∷ 6 ∷ 7 ∷ 8 ∷ [];
}

pub flat_is : flat_of large_program ≡ flat_form
unfolding flat_of
flat_is = refl
