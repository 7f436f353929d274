-- The variables of `main` in a flat function, and those that arose from them.
use Rattle.std.specs.Prelude.{◌≡◌, ℕ, zero, suc, ◌<◌, List, [], ◌∷◌, length, slice_index}
use Rattle.lt_base.specs.declared.function.Decl.{Decl}
use Rattle.lt_norm.specs.Flat.{Originated}

-- the variable of `main` from whose equation a variable arose
abbrev pub origin_of : Originated → ℕ → ℕ
origin_of f x = slice_index f.origin x

-- the number of variables
abbrev pub variable_count : Originated → ℕ
variable_count f = length f.func.decls

-- a variable of `main`: one that is its own origin
pub record IsMain (f : Originated) (x : ℕ) : Type 0 where
  pub declared : x < variable_count f
  pub own : origin_of f x ≡ x

-- each variable has one origin, a variable of `main`
pub record HasOrigins (f : Originated) : Type 0 where
  pub each : length f.origin ≡ variable_count f
  pub main : (x : ℕ) → x < variable_count f → IsMain f (origin_of f x)

-- the declared name of a variable
abbrev pub name_in : List Decl → ℕ → List ℕ
name_in [] x = []
name_in (d ∷ ds) zero = d.name
name_in (d ∷ ds) (suc x) = name_in ds x

abbrev pub name_of : Originated → ℕ → List ℕ
name_of f x = name_in f.func.decls x
