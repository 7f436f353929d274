-- Where a function has come after some instants.
use Rattle.std.specs.Prelude.{◌≡◌, ℕ, zero, suc, ◌<◌, Option, Some, None, List, [], ◌∷◌, length, map, take, slice_get, true}
use Rattle.std.specs.Global.{Box}
use Rattle.lt_base.specs.declared.value.Value.{Value}
use Rattle.lt_base.specs.Program.{Function}
use Rattle.lt_base.specs.Meaning.{ClockPairs, Environment, Row, Callee, entry, function_of, present, latest, value_of, values_of, rows_at}
use Rattle.lt_base.specs.Solution.{Solves}
use Rattle.lt_base.specs.Behaviour.{calls_of}
use Rattle.lt_meaning.specs.declared.plan.Plan.{Plan}
use Rattle.lt_meaning.specs.declared.state.State.{State, out-State}
use Rattle.lt_meaning.specs.declared.state.State.TheOpen.{State-F}
use Rattle.lt_meaning.specs.Form.{value_in}
use Rattle.lt_meaning.specs.Plan.{ActionForm, sets, runs, inputs_at}
use Rattle.lt_meaning.specs.Lift.{Wait, Source, whole, part, Item}
use Rattle.lt_meaning.specs.Planned.{Planned, Answering, expression_of}

-- the values of its variables and of the calls in it, by cell
abbrev pub cells_of : State → List (Option Value)
cells_of s = (out-State s).cells.items

-- what a step's call has come to: it ran on the arguments' values at the instants at which its clock was present
abbrev pub ChildStands : Callee → (State → ℕ → List Row → Type 0) → Source → ClockPairs → Option (Option (Box State)) → List Environment → Type 0
ChildStands C P (whole e) ck o es = Unit {0}
ChildStands C P (part g args) ck None es = ⊥
ChildStands C P (part g args) ck (Some None) es = ⊥
ChildStands C P (part g args) ck (Some (Some b)) es = P b.value g (rows_at ck (values_of C args ck) es)

-- a state after these instants of the function of this number, where P says where the calls in it have come
pub record StandsOver (plans : List Plan) (k : Planned plans) (P : State → ℕ → List Row → Type 0) (s : State-F State) (g : ℕ) (rows : List Row) (es : List Environment) : Type 0 where
  pub function : Function
  pub is : function_of k.program.funcs g ≡ Some function
  pub cells : length s.cells.items ≡ (k.plan g function is).plan.cells
  pub kept_number : length s.kept.items ≡ length (k.plan g function is).plan.delays.items
  pub next_number : length s.next.items ≡ length (k.plan g function is).plan.delays.items
  pub children_number : length s.children.items ≡ length (k.plan g function is).plan.steps.items
  -- the values at these instants obey the function's equations
  pub solves : Solves (calls_of k.program.funcs) function es rows
  -- each delay keeps its right side's last value
  pub kept : (j : ℕ) (w : Wait) → slice_get (k.plan g function is).plan_of.waits j ≡ Some w
      → entry s.kept.items j ≡ latest w.clock (Some w.first) (value_of (calls_of k.program.funcs) w.right w.clock) es
  pub children : (i : ℕ) (x : Item) → slice_get (k.plan g function is).plan_of.items i ≡ Some x
      → ChildStands (calls_of k.program.funcs) P x.source x.clock (slice_get s.children.items i) es

-- with at most that many nested calls
abbrev pub StateStands : (plans : List Plan) → Planned plans → ℕ → State → ℕ → List Row → List Environment → Type 0
StateStands plans k zero s g rows es = ⊥
StateStands plans k (suc n) s g rows es = StandsOver plans k (λ t h more. (past : List Environment) × StateStands plans k n t h more past) (out-State s) g rows es

-- the values of the inputs
abbrev pub row_in : List Plan → ℕ → State → Row
row_in plans g s = take (inputs_at plans g) (cells_of s)

-- some function stands somewhere
abbrev pub StandsSomewhere : List Plan → ℕ → State → Type 0
StandsSomewhere plans g s = (k : Planned plans) × (n : ℕ) × (rows : List Row) × (es : List Environment) × StateStands plans k n s g rows es

-- it has come one instant further, with the cells' values as that instant's
abbrev pub StateAdvances : List Plan → ℕ → State → State → Type 0
StateAdvances plans g s t =
    (k : Planned plans) (n : ℕ) (rows : List Row) (es : List Environment) → StateStands plans k n s g rows es
    → StateStands plans k n t g (row_in plans g s ∷ rows) (entry (cells_of t) ∷ es)

-- the function of this number stands somewhere, and can answer with so many arguments
pub record CanRun (plans : List Plan) (g n : ℕ) (s : State) : Type 0 where
  pub planned : Planned plans
  pub nested : ℕ
  pub rows : List Row
  pub past : List Environment
  pub stands : StateStands plans planned nested s g rows past
  pub answering : Answering planned.program.funcs g n

-- wherever it stood it has come one instant further, on these arguments, and this is what the function means
abbrev pub CallRuns : List Plan → ℕ → Row → State → State → Option Value → Type 0
CallRuns plans g row s t v =
    (k : Planned plans) (n : ℕ) (rows : List Row) (past : List Environment) → StateStands plans k n s g rows past → Answering k.program.funcs g (length row)
    → ((past' : List Environment) × StateStands plans k n t g (row ∷ rows) past') × (v ≡ calls_of k.program.funcs g (row ∷ rows))

-- there is such a state
abbrev pub CanAnswer : List Plan → ℕ → ℕ → Option (Box State) → Type 0
CanAnswer plans g n None = ⊥
CanAnswer plans g n (Some b) = CanRun plans g n b.value

-- it has come one instant further
abbrev pub CallAnswers : List Plan → ℕ → Row → Option (Box State) → Option (Box State) → Option Value → Type 0
CallAnswers plans g row None o' v = Unit {0}
CallAnswers plans g row (Some b) None v = ⊥
CallAnswers plans g row (Some b) (Some b') v = CallRuns plans g row b.value b'.value v

-- the step can be taken
abbrev pub StepCanAct : List Plan → ActionForm → Option (Box State) → Type 0
StepCanAct plans (sets f) o = Unit {0}
StepCanAct plans (runs g fs) o = CanAnswer plans g (length fs) o

-- what the step gives its cell where its clock is present
abbrev pub StepActs : List Plan → ActionForm → Environment → Environment → Option (Box State) → Option (Box State) → Option Value → Type 0
StepActs plans (sets f) env old o o' v = v ≡ value_in env old f
StepActs plans (runs g fs) env old o o' v = CallAnswers plans g (map (value_in env old) fs) o o' v

-- a step's cell has what the step stands for, where the clock is present
abbrev pub StepHolds : Callee → List Environment → Environment → Item → Type 0
StepHolds C past env x = present env x.clock ≡ true → env x.cell ≡ value_of C (expression_of x.source) x.clock past env

-- the function of this number has a plan, and fewer calls nest in it than this
pub record CanStart (plans : List Plan) (g left : ℕ) : Type 0 where
  pub planned : Planned plans
  pub function : Function
  pub is : function_of planned.program.funcs g ≡ Some function
  pub low : planned.height g < left

-- it stands before the first instant
abbrev pub StateStarts : List Plan → ℕ → ℕ → State → Type 0
StateStarts plans g left s = (k : Planned plans) (f : Function) → function_of k.program.funcs g ≡ Some f → k.height g < left → StateStands plans k left s g [] []

-- a step's call can begin
abbrev pub CanStartChild : List Plan → ActionForm → ℕ → Type 0
CanStartChild plans (sets f) left = Unit {0}
CanStartChild plans (runs h fs) left = CanStart plans h left

-- it has begun
abbrev pub ChildStarts : List Plan → ActionForm → ℕ → Option (Box State) → Type 0
ChildStarts plans (sets f) left o = Unit {0}
ChildStarts plans (runs h fs) left None = ⊥
ChildStarts plans (runs h fs) left (Some b) = StateStarts plans h left b.value
