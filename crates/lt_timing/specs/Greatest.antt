-- The greatest and the least of some numbers, one for each node below n.
use Rattle.std.specs.Prelude.{◌≡◌, ◌≢◌, ℕ, zero, suc, ◌<◌, ◌≤◌, ◌==◌, max, min, if◌then◌else◌}
use Rattle.lt_arch.specs.Greatest.{greatest}

-- over all nodes but j; of none it is 0
abbrev pub greatest_but : (f : ℕ → ℕ) (j n : ℕ) → ℕ
greatest_but f j zero = 0
greatest_but f j (suc i) = if i == j then greatest_but f j i else max (greatest_but f j i) (f i)

-- the first node that is not j
abbrev pub other : ℕ → ℕ
other j = if j == 0 then 1 else 0

-- over all nodes but j, where there is one
abbrev pub least_but : (f : ℕ → ℕ) (j n : ℕ) → ℕ
least_but f j zero = f (other j)
least_but f j (suc i) = if i == j then least_but f j i else min (least_but f j i) (f i)

-- over all nodes, where there is one
abbrev pub least : (f : ℕ → ℕ) (n : ℕ) → ℕ
least f zero = f 0
least f (suc i) = min (least f i) (f i)

-- What the words mean: no number is greater, or less, and some number is this one.

pub record IsGreatestBut (f : ℕ → ℕ) (j n v : ℕ) : Type 0 where
  pub none_greater : (i : ℕ) → i < n → i ≢ j → f i ≤ v
  pub met : (i : ℕ) × (i < n) × (i ≢ j) × (f i ≡ v)

pub record IsLeastBut (f : ℕ → ℕ) (j n v : ℕ) : Type 0 where
  pub none_less : (i : ℕ) → i < n → i ≢ j → v ≤ f i
  pub met : (i : ℕ) × (i < n) × (i ≢ j) × (f i ≡ v)

pub record IsGreatest (f : ℕ → ℕ) (n v : ℕ) : Type 0 where
  pub none_greater : (i : ℕ) → i < n → f i ≤ v
  pub met : (i : ℕ) × (i < n) × (f i ≡ v)

pub record IsLeast (f : ℕ → ℕ) (n v : ℕ) : Type 0 where
  pub none_less : (i : ℕ) → i < n → v ≤ f i
  pub met : (i : ℕ) × (i < n) × (f i ≡ v)

pub record AreExtremes (f : ℕ → ℕ) (n : ℕ) : Type 0 where
  pub greatest_but : (j : ℕ) → j < n → 2 ≤ n → IsGreatestBut f j n (greatest_but f j n)
  pub least_but : (j : ℕ) → j < n → 2 ≤ n → IsLeastBut f j n (least_but f j n)
  pub greatest : 1 ≤ n → IsGreatest f n (greatest f n)
  pub least : 1 ≤ n → IsLeast f n (least f n)
