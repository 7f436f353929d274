-- What the normal form of a function keeps, and what it adds.
use Rattle.std.specs.Prelude.{◌≡◌, ℕ, ◌+◌, ◌<◌, ◌≤◌, true, false, Some, List, [], ◌∷◌, ◌++◌, length, map, replicate, slice_index_or}
use Rattle.lt_base.specs.declared.value.Value.{Value}
use Rattle.lt_base.specs.declared.function.Decl.{Decl}
use Rattle.lt_base.specs.Expression.{Expression, literal, variable, unary, binary, imported, choose, sampled, merged, delayed, follow, arrow, call}
use Rattle.lt_base.specs.Program.{Function}
use Rattle.lt_base.specs.Meaning.{ClockPairs, clock_of, right_of, outer, stream_of}
use Rattle.lt_base.specs.Typing.{TypedFunction}
use Rattle.lt_base.specs.Clocking.{ClockedFunction}
use Rattle.lt_base.specs.Dependence.{Causal}
use Rattle.lt_base.specs.Sizes.{weight_with}
use Rattle.lt_norm.specs.Flat.{Direct, FlatFunction}

-- the clocks of the places of the delays in an expression at a clock, inner ones first: one for each `fby` with a literal and each
-- `->`, and two for each other `fby`, its flag before its sides and its delay after them
abbrev pub places : ClockPairs → Expression → List ClockPairs
places ck (literal v) = []
places ck (variable x) = []
places ck (unary o a) = places ck a
places ck (binary o a b) = places ck a ++ places ck b
places ck (imported o a b) = places ck a ++ places ck b
places ck (choose c a b) = places ck c ++ (places ck a ++ places ck b)
places ck (sampled e c b) = places (outer ck) e
places ck (merged c a b) = places ((c, true) ∷ ck) a ++ places ((c, false) ∷ ck) b
places ck (delayed v e) = places ck e ++ ck ∷ []
places ck (follow a b) = ck ∷ (places ck a ++ (places ck b ++ ck ∷ []))
places ck (arrow a b) = ck ∷ (places ck a ++ places ck b)
places ck (call g args) = []

-- those that are lifted out of a right side, where a `fby` with a literal at its top stays
abbrev pub right_places : ClockPairs → Expression → List ClockPairs
right_places ck (delayed v e) = places ck e
right_places ck e = places ck e

-- those that are lifted out of these equations
abbrev pub equations_places : List Decl → List (ℕ × Expression) → List ClockPairs
equations_places ds [] = []
equations_places ds (q ∷ qs) = right_places (clock_of ds q.0) q.1 ++ equations_places ds qs

-- the origins of the lifted variables: those of the variables in whose equations they stood
abbrev pub lifted_origins : List ℕ → List Decl → List (ℕ × Expression) → List ℕ
lifted_origins origin ds [] = []
lifted_origins origin ds (q ∷ qs) = replicate (length (right_places (clock_of ds q.0) q.1)) (slice_index_or origin q.0 0) ++ lifted_origins origin ds qs

-- the equation of a variable is a delay with a literal, alone
pub record DelaysAlone (F : Function) (x : ℕ) : Type 0 where
  pub first : Value
  pub operand : Expression
  pub equation : right_of F.eqs x ≡ Some (delayed first operand)
  pub direct : Direct operand

-- the function F with these origins is a normal form of f
pub record NormalFormOf (f : Function) (origin : List ℕ) (F : Function) (origin' : List ℕ) : Type 0 where
  -- the name, the inputs and the outputs are f's
  pub name : F.name ≡ f.name
  pub inputs : F.n_in ≡ f.n_in
  pub outputs : F.outs ≡ f.outs
  -- the variables of f keep their numbers and declarations, and the lifted ones come after them
  pub more : List Decl
  pub declarations : F.decls ≡ f.decls ++ more
  -- a lifted variable is declared with the clock of its place
  pub on_place : map (λ d. d.clock) more ≡ equations_places f.decls f.eqs
  -- its equation is a delay, alone
  pub alone : (x : ℕ) → length f.decls ≤ x → x < length F.decls → DelaysAlone F x
  -- every variable of f keeps its stream, whatever the input rows
  pub streams : (rows : List (List Value)) (x : ℕ) → x < length f.decls → stream_of [] F rows x ≡ stream_of [] f rows x
  -- the checks pass again
  pub typed : TypedFunction [] F
  pub clocked : ClockedFunction [] F
  pub causal : Causal F
  -- nothing is left to lift
  pub flat : FlatFunction F
  -- a variable of f keeps its origin, and a lifted one has that of the variable in whose equation it stood
  pub origins : origin' ≡ origin ++ lifted_origins origin f.decls f.eqs
  pub each : length origin ≡ length f.decls → length origin' ≡ length F.decls
  -- one variable is added for each lifted delay, no more than the delays of the weight
  pub size : length F.decls ≡ length f.decls + length (equations_places f.decls f.eqs)
  pub within : length F.decls ≤ weight_with (λ _. 0) f
