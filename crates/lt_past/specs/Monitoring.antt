-- Monitors: what they keep from one instant to the next.
use Rattle.std.specs.Prelude.{◌≡◌, ◌↔◌, ℕ, Bool, true, false, IsTrue, List, [], ◌∷◌, ◌++◌, length, slice_index_or}
use Rattle.std.proofs.Common.{refl}
use Rattle.std.specs.Coded.{Coded, code_by, coded×, coded_ℕ, coded_list, coded_bool}
use Rattle.lt_past.specs.contracts.monitor.Part.{the_row as part_row}
use Rattle.lt_past.specs.declared.monitor.Part.{Part}
use Rattle.lt_past.specs.Formula.{Formula}
use Rattle.lt_past.specs.Satisfaction.{Sat, signals_of}
use Rattle.lt_past.specs.Parts.{parts_of, EachPart, Fit}

-- the number of signals, the parts of the formula, the truth value of each at the last instant, and whether there was one
pub record Watching : Type 0 where
  pub width : ℕ
  pub parts : List Part
  pub values : List Bool
  pub began : Bool

abbrev pub coded_watching : Coded Watching
coded_watching =
    code_by (ℕ × (List Part × (List Bool × Bool))) (coded× coded_ℕ (coded× (coded_list part_row.coded) (coded× (coded_list coded_bool) coded_bool))) (λ m. (m.width, (m.parts, (m.values, m.began))))
    (λ p. record { width = p.0; parts = p.1.0; values = p.1.1.0; began = p.1.1.1 }) (λ _. refl)

-- what every monitor keeps
pub record IsMonitor (m : Watching) : Type 0 where
  pub fit : Fit m.width m.parts
  pub each : length m.values ≡ length m.parts

-- the truth values of the parts: false before the first instant, and then whether the part's formula holds at the last one
abbrev pub AreLast : List Bool → Formula → List (List Bool) → Type 0
AreLast values f [] = (k : ℕ) → slice_index_or values k false ≡ false
AreLast values f (now ∷ more) = EachPart (λ k g. IsTrue (slice_index_or values k false) ↔ Sat (signals_of (now ∷ more)) g (length more)) 0 f

abbrev pub is_some : List (List Bool) → Bool
is_some [] = false
is_some (now ∷ more) = true

-- the monitor stands for these instants of this formula's signals
pub record MonitorStands (m : Watching) (f : Formula) (instants : List (List Bool)) : Type 0 where
  pub parts : m.parts ≡ parts_of 0 f
  pub last : AreLast m.values f instants
  pub began : m.began ≡ is_some instants

-- where the old monitor stood for some instants, the new one stands for one more, at which the outputs have these values
abbrev pub MonitorGoesOn : (old new : Watching) → (now : List Bool) → Type 0
MonitorGoesOn old new now = (f : Formula) (instants : List (List Bool)) → MonitorStands old f instants → MonitorStands new f (instants ++ now ∷ [])

-- whether the formula holds at the instant behind these, at which the outputs have these values
abbrev pub TellsNext : Formula → (instants : List (List Bool)) → (now : List Bool) → Bool → Type 0
TellsNext f instants now result = IsTrue result ↔ Sat (signals_of (instants ++ now ∷ [])) f (length instants)
