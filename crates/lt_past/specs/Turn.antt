-- What one instant makes of the truth values of the parts.
use Rattle.std.specs.Prelude.{◌≡◌, ℕ, ◌<◌, Bool, false, not, ◌&&◌, ◌||◌, List, ◌∷◌, slice_index_or}
use Rattle.lt_past.specs.declared.words.Prefix.{Prefix}
use Rattle.lt_past.specs.declared.words.Prefix.TheVariants.{Not, Previous, Once, Historically}
use Rattle.lt_past.specs.declared.words.Infix.{Infix}
use Rattle.lt_past.specs.declared.words.Infix.TheVariants.{And, Or, Since, Implies}
use Rattle.lt_past.specs.declared.monitor.Part.{Part}
use Rattle.lt_past.specs.declared.monitor.Part.TheVariants as part

abbrev pub at : List Bool → ℕ → Bool
at values k = slice_index_or values k false

-- the value of the part before part k
abbrev pub prior : List Bool → ℕ → Bool
prior values k = slice_index_or (false ∷ values) k false

-- of a word before its operand: by its own value at the instant before, where there was one, and the operand's there and here
abbrev pub past : Prefix → (began last before newest : Bool) → Bool
past Not began last before newest = not newest
past Previous began last before newest = before
past Once began last before newest = last || newest
past Historically began last before newest = (not began || last) && newest

-- of a word between its operands: by its own value at the instant before, and theirs here
abbrev pub infix_value : Infix → (last first second : Bool) → Bool
infix_value And last first second = first && second
infix_value Or last first second = first || second
infix_value Since last first second = second || (last && first)
infix_value Implies last first second = not first || second

-- of part k, by the values of the parts at the instant before and those of earlier parts here
abbrev pub part_value : (began : Bool) (now olds news : List Bool) (k : ℕ) → Part → Bool
part_value began now olds news k (part.Lit b) = b
part_value began now olds news k (part.Out i) = at now i
part_value began now olds news k (part.Before p) = past p began (at olds k) (prior olds k) (prior news k)
part_value began now olds news k (part.Between o l) = infix_value o (at olds k) (at news l) (prior news k)

-- the parts below n have their values of this instant
abbrev pub Turned : List Part → (began : Bool) (now olds news : List Bool) (n : ℕ) → Type 0
Turned parts began now olds news n = (k : ℕ) → k < n → at news k ≡ part_value began now olds news k (slice_index_or parts k (part.Lit false))
