-- What a number reaches, and which numbers reach one another.
use Rattle.std.specs.Prelude.{◌≡◌, ◌⊎◌, ℕ, ◌<◌, List, length, slice_index}
use Rattle.lt_base.specs.Graph.{Walks}

-- some walk leads from x to y
abbrev pub Reaches : (ℕ → ℕ → Type 0) → ℕ → ℕ → Type 0
Reaches R x y = (walk : List ℕ) × Walks R x walk y

-- x is y, or reaches it
abbrev pub IsOrReaches : (ℕ → ℕ → Type 0) → ℕ → ℕ → Type 0
IsOrReaches R x y = (x ≡ y) ⊎ Reaches R x y

-- a name for each number below n: two have the same name exactly where they are one number or each reaches the other
pub record AreComponents (R : ℕ → ℕ → Type 0) (n : ℕ) (names : List ℕ) : Type 0 where
  pub size : length names ≡ n
  pub same : (x y : ℕ) → x < n → y < n → slice_index names x ≡ slice_index names y → IsOrReaches R x y
  pub together : (x y : ℕ) → x < n → y < n → Reaches R x y → Reaches R y x → slice_index names x ≡ slice_index names y
