-- The parts of a formula in a row, each behind its operands.
use Rattle.std.specs.Prelude.{ℕ, ◌+◌, ◌-◌, ◌<◌, false, List, [], ◌∷◌, ◌++◌, length, slice_index_or}
use Rattle.lt_past.specs.declared.monitor.Part.{Part}
use Rattle.lt_past.specs.declared.monitor.Part.TheVariants as part
use Rattle.lt_past.specs.Formula.{Formula, constant, signal, unary, binary}

-- how many there are
abbrev pub part_count : Formula → ℕ
part_count (constant b) = 1
part_count (signal k) = 1
part_count (unary p f) = part_count f + 1
part_count (binary o f g) = part_count f + part_count g + 1

-- where n parts stand before them: the last operand of a part is the part before it, and an earlier one has its number
abbrev pub parts_of : ℕ → Formula → List Part
parts_of n (constant b) = part.Lit b ∷ []
parts_of n (signal k) = part.Out k ∷ []
parts_of n (unary p f) = parts_of n f ++ part.Before p ∷ []
parts_of n (binary o f g) = parts_of n f ++ (parts_of (n + part_count f) g ++ part.Between o (n + part_count f - 1) ∷ [])

-- P holds of the number of each part and the formula that it is a part for, where n parts stand before them
abbrev pub EachPart : (ℕ → Formula → Type 0) → ℕ → Formula → Type 0
EachPart P n (constant b) = P n (constant b)
EachPart P n (signal k) = P n (signal k)
EachPart P n (unary p f) = EachPart P n f × P (n + part_count f) (unary p f)
EachPart P n (binary o f g) = EachPart P n f × EachPart P (n + part_count f) g × P (n + part_count f + part_count g) (binary o f g)

-- a part's numbers are those of signals and of earlier parts
abbrev pub FitsAt : (width k : ℕ) → Part → Type 0
FitsAt width k (part.Lit b) = Unit {0}
FitsAt width k (part.Out i) = i < width
FitsAt width k (part.Before p) = Unit {0}
FitsAt width k (part.Between o l) = l < k

abbrev pub Fit : (width : ℕ) → List Part → Type 0
Fit width parts = (k : ℕ) → k < length parts → FitsAt width k (slice_index_or parts k (part.Lit false))
