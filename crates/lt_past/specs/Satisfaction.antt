-- When a formula of past time is satisfied.
use Rattle.std.specs.Prelude.{◌≡◌, ℕ, ◌+◌, ◌<◌, ◌≤◌, ◌⊎◌, Bool, false, IsTrue, List, [], slice_index_or}
use Rattle.lt_past.specs.declared.words.Prefix.{Prefix}
use Rattle.lt_past.specs.declared.words.Prefix.TheVariants.{Not, Previous, Once, Historically}
use Rattle.lt_past.specs.declared.words.Infix.{Infix}
use Rattle.lt_past.specs.declared.words.Infix.TheVariants.{And, Or, Since, Implies}
use Rattle.lt_past.specs.Formula.{Formula, constant, signal, unary, binary}

-- the truth value of each signal, by its number, at each instant
abbrev pub Signals : Type 0
Signals = ℕ → ℕ → Bool

-- what holds at each instant
abbrev pub Property : Type 1
Property = ℕ → Type 0

-- not: it does not hold; previous: it held at the instant before, which at 0 there is not; once: it held at some instant up to this
-- one; historically: at every one
abbrev pub Past : Prefix → Property → Property
Past Not F i = F i → ⊥
Past Previous F i = (j : ℕ) × (i ≡ j + 1) × F j
Past Once F i = (j : ℕ) × (j ≤ i) × F j
Past Historically F i = (j : ℕ) → j ≤ i → F j

-- since: the second held at some instant up to this one, and the first at every later one up to this one
abbrev pub Both : Infix → Property → Property → Property
Both And F G i = F i × G i
Both Or F G i = F i ⊎ G i
Both Implies F G i = F i → G i
Both Since F G i = (j : ℕ) × (j ≤ i) × G j × ((k : ℕ) → j < k → k ≤ i → F k)

-- the formula holds of the signals at an instant
abbrev pub Sat : Signals → Formula → Property
Sat S (constant b) i = IsTrue b
Sat S (signal k) i = IsTrue (S k i)
Sat S (unary p f) i = Past p (Sat S f) i
Sat S (binary o f g) i = Both o (Sat S f) (Sat S g) i

-- the signals of a list of instants, each with a truth value for each signal
abbrev pub signals_of : List (List Bool) → Signals
signals_of instants k i = slice_index_or (slice_index_or instants i []) k false
