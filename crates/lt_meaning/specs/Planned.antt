-- Plans of the functions of a program.
use Rattle.std.specs.Prelude.{◌≡◌, ◌≢◌, ℕ, ◌+◌, ◌<◌, ◌≤◌, Option, Some, List, [], ◌∷◌, length, map, take, slice_get}
use Rattle.lt_base.specs.Expression.{Expression, call}
use Rattle.lt_base.specs.Program.{Function, WholeProgram, GoodProgram}
use Rattle.lt_base.specs.Meaning.{ClockPairs, clock_of, right_of, function_of}
use Rattle.lt_base.specs.Order.{EachRead, EachClockVar}
use Rattle.lt_base.specs.Checked.{CheckedProgram, argument_count}
use Rattle.lt_meaning.specs.declared.plan.Plan.{Plan}
use Rattle.lt_meaning.specs.Plan.{step_form, DelayForm, delay_form}
use Rattle.lt_meaning.specs.Lift.{form_of, Wait, delays_in, arguments_delays, Source, whole, part, Item, step_of, calls_in, arguments_calls}

-- an element of a list
abbrev pub IsElement : {A : Type 0} → List A → A → Type 0
IsElement {A} xs x = (i : ℕ) × (slice_get xs i ≡ Some x)

-- each element of one list is in the other
abbrev pub AreElements : {A : Type 0} → List A → List A → Type 0
AreElements {A} xs ys = (x : A) → IsElement xs x → IsElement ys x

-- one list stands in the other from this place on
abbrev pub StandsFrom : {A : Type 0} → ℕ → List A → List A → Type 0
StandsFrom {A} k xs ys = (i : ℕ) (x : A) → slice_get xs i ≡ Some x → slice_get ys (k + i) ≡ Some x

-- what a step stands for, as an expression
abbrev pub expression_of : Source → Expression
expression_of (whole e) = e
expression_of (part g args) = call g args

-- the calls within it
abbrev pub inner_calls : ℕ → ℕ → Source → ClockPairs → List Item
inner_calls k c (whole e) ck = calls_in k c e ck
inner_calls k c (part g args) ck = arguments_calls k c args ck

-- the delays within it
abbrev pub inner_delays : Source → ClockPairs → List Wait
inner_delays (whole e) ck = delays_in e ck
inner_delays (part g args) ck = arguments_delays args ck

-- a fact of each cell that a step reads before it writes its own
abbrev pub EachCell : (ℕ → Type 0) → Item → Type 0
EachCell P x = EachRead P (expression_of x.source) × EachClockVar P x.clock

-- a step may follow these: they run all calls that it needs, and it writes a cell that none of them reads or writes
pub record MayFollow (before : List Item) (x : Item) : Type 0 where
  pub needs : AreElements (inner_calls x.delays_before x.cells_before x.source x.clock) before
  pub own : EachCell (λ s. s ≢ x.cell) x
  pub apart : (t : Item) → IsElement before t → EachCell (λ s. s ≢ x.cell) t × (t.cell ≢ x.cell)

-- each step may follow those before it
abbrev pub InOrder : List Item → Type 0
InOrder items = (i : ℕ) (x : Item) → slice_get items i ≡ Some x → MayFollow (take i items) x

-- a delay's right side is lifted: its calls are run, and the delays within it are there
pub record Lifted (items : List Item) (waits : List Wait) (w : Wait) (d : Option DelayForm) : Type 0 where
  pub delays_before : ℕ
  pub cells_before : ℕ
  pub is : d ≡ Some (record { clock = w.clock; first = w.first; right = form_of delays_before cells_before w.right })
  pub calls : AreElements (calls_in delays_before cells_before w.right w.clock) items
  pub delays : StandsFrom delays_before (delays_in w.right w.clock) waits

-- a call of a function with this number of arguments can be answered: it has so many inputs, and one output, on the base clock
pub record Answering (fs : List Function) (g : ℕ) (n : ℕ) : Type 0 where
  pub function : Function
  pub is : function_of fs g ≡ Some function
  pub inputs : function.n_in ≡ n
  pub output : ℕ
  pub outs : function.outs ≡ output ∷ []
  pub declared : output < length function.decls
  pub on_base : clock_of function.decls output ≡ []

-- a fact of a step that is a call
abbrev pub IfCall : (ℕ → ℕ → Type 0) → Source → Type 0
IfCall P (whole e) = Unit {0}
IfCall P (part g args) = P g (argument_count args)

-- what a plan does is what the function's equations say
pub record PlanOf (fs : List Function) (height : ℕ → ℕ) (top : ℕ) (f : Function) (plan : Plan) : Type 0 where
  -- what the steps and the delays stand for
  pub items : List Item
  pub waits : List Wait
  pub steps : map step_form plan.steps.items ≡ map step_of items
  pub delay_number : length plan.delays.items ≡ length waits
  pub delays : (k : ℕ) (w : Wait) → slice_get waits k ≡ Some w → Lifted items waits w (slice_get (map delay_form plan.delays.items) k)
  pub inputs : plan.inputs ≡ f.n_in
  pub output : (y : ℕ) (ys : List ℕ) → f.outs ≡ y ∷ ys → plan.output ≡ y
  pub variables : length f.decls ≤ plan.cells
  pub cells : (x : Item) → IsElement items x → (f.n_in ≤ x.cell) × (x.cell < plan.cells)
  pub in_order : InOrder items
  pub needs : (x : Item) → IsElement items x → StandsFrom x.delays_before (inner_delays x.source x.clock) waits
  pub answering : (x : Item) → IsElement items x → IfCall (Answering fs) x.source
  pub lower : (x : Item) → IsElement items x → IfCall (λ g n. height g < top) x.source
  pub equations : (x : ℕ) (e : Expression) → right_of f.eqs x ≡ Some e
      → (k : ℕ) × (c : ℕ) × IsElement items (record { cell = x; clock = clock_of f.decls x; delays_before = k; cells_before = c; source = whole e })

-- a plan of that function stands at this number
pub record PlanAt (fs : List Function) (height : ℕ → ℕ) (f : Function) (plans : List Plan) (g : ℕ) : Type 0 where
  pub plan : Plan
  pub is : slice_get plans g ≡ Some plan
  pub plan_of : PlanOf fs height (height g) f plan

-- plans of all functions of a checked program
pub record Planned (plans : List Plan) : Type 0 where
  pub program : WholeProgram
  pub good : GoodProgram program
  pub checked : CheckedProgram program
  -- how many calls nest within a function
  pub height : ℕ → ℕ
  pub plan : (g : ℕ) (f : Function) → function_of program.funcs g ≡ Some f → PlanAt program.funcs height f plans g
