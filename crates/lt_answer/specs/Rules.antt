-- Verdicts from rules, and from other verdicts.
use Rattle.std.specs.Prelude.{◌≡◌, ℕ, List, Result, Ok, Err}
use Rattle.lt_answer.specs.Answered.{Verdict}

-- a rule that holds, or a fault of it where it does not
abbrev pub OfRule : {E : Type 0} → Type 0 → (E → Type 0) → Verdict (Unit {0}) E
OfRule Rule IsFault (Ok done) = Rule
OfRule Rule IsFault (Err e) = (Rule → ⊥) × IsFault e

-- this outcome alone
abbrev pub Exactly : {T E : Type 0} → Result T E → Verdict T E
Exactly wanted outcome = wanted ≡ outcome

-- a step's faults as those of the step around it
abbrev pub Raised : {T E G : Type 0} → (E → G) → Verdict T E → Verdict T G
Raised raise V (Ok x) = V (Ok x)
Raised raise V (Err g) = (e : _) × V (Err e) × (g ≡ raise e)

-- the text of a step's value
abbrev pub Shown : {T E : Type 0} → (T → List ℕ) → Verdict T E → Verdict (List ℕ) E
Shown shown V (Ok text) = (x : _) × V (Ok x) × (text ≡ shown x)
Shown shown V (Err e) = V (Err e)
