-- Tables of what each number leads to.
use Rattle.std.specs.Prelude.{◌≡◌, ℕ, ◌<◌, true, List, [], length, slice_index_or}
use Rattle.lt_base.specs.Dependence.{has}

-- what a number leads to
abbrev pub next : List (List ℕ) → ℕ → List ℕ
next g x = slice_index_or g x []

-- x leads to y
abbrev pub Leads : List (List ℕ) → ℕ → ℕ → Type 0
Leads g x y = has y (next g x) ≡ true

-- the numbers of the table lead to numbers of the table
abbrev pub IsTable : List (List ℕ) → Type 0
IsTable g = (x y : ℕ) → Leads g x y → y < length g
