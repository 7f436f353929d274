-- What becomes of an expression when its delays and calls get cells of their own.
use Rattle.std.specs.Prelude.{ℕ, ◌+◌, true, false, List, [], ◌∷◌, ◌++◌}
use Rattle.lt_base.specs.declared.value.Value.{Value}
use Rattle.lt_base.specs.declared.value.Value.TheVariants.{Bool as Truth}
use Rattle.lt_base.specs.Expression.{Expression, literal, variable, unary, binary, imported, choose, sampled, merged, delayed, follow, arrow, call, Arguments, no_arguments, argument}
use Rattle.lt_base.specs.Meaning.{ClockPairs, outer}
use Rattle.lt_meaning.specs.Form.{NodeForm, constant, at, kept, one, two, named, either, joined}
use Rattle.lt_meaning.specs.Plan.{ActionForm, sets, runs, StepForm}

-- the number of delays outside other delays; a delay with an expression on its left and an arrow have one more, which tells whether it is the first instant
abbrev mutual
  pub delay_count : Expression → ℕ
  delay_count (literal v) = 0
  delay_count (variable x) = 0
  delay_count (unary o a) = delay_count a
  delay_count (binary o a b) = delay_count a + delay_count b
  delay_count (imported o a b) = delay_count a + delay_count b
  delay_count (choose c a b) = delay_count c + delay_count a + delay_count b
  delay_count (sampled e c b) = delay_count e
  delay_count (merged c a b) = delay_count a + delay_count b
  delay_count (delayed v e) = 1
  delay_count (follow a b) = delay_count a + 2
  delay_count (arrow a b) = delay_count a + delay_count b + 1
  delay_count (call g args) = delay_counts args

  pub delay_counts : Arguments → ℕ
  delay_counts no_arguments = 0
  delay_counts (argument e args) = delay_count e + delay_counts args

-- the number of calls outside every delay
abbrev mutual
  pub call_count : Expression → ℕ
  call_count (literal v) = 0
  call_count (variable x) = 0
  call_count (unary o a) = call_count a
  call_count (binary o a b) = call_count a + call_count b
  call_count (imported o a b) = call_count a + call_count b
  call_count (choose c a b) = call_count c + call_count a + call_count b
  call_count (sampled e c b) = call_count e
  call_count (merged c a b) = call_count a + call_count b
  call_count (delayed v e) = 0
  call_count (follow a b) = call_count a
  call_count (arrow a b) = call_count a + call_count b
  call_count (call g args) = call_counts args + 1

  pub call_counts : Arguments → ℕ
  call_counts no_arguments = 0
  call_counts (argument e args) = call_count e + call_counts args

-- the expression over cells, where k delays and c cells are taken
abbrev mutual
  pub form_of : ℕ → ℕ → Expression → NodeForm
  form_of k c (literal v) = constant v
  form_of k c (variable x) = at x
  form_of k c (unary o a) = one o (form_of k c a)
  form_of k c (binary o a b) = two o (form_of k c a) (form_of (k + delay_count a) (c + call_count a) b)
  form_of k c (imported o a b) = named o (form_of k c a) (form_of (k + delay_count a) (c + call_count a) b)
  form_of k c (choose i a b) =
      either (form_of k c i) (form_of (k + delay_count i) (c + call_count i) a) (form_of (k + delay_count i + delay_count a) (c + call_count i + call_count a) b)
  form_of k c (sampled e x b) = form_of k c e
  form_of k c (merged x a b) = joined x (form_of k c a) (form_of (k + delay_count a) (c + call_count a) b)
  form_of k c (delayed v e) = kept k
  form_of k c (follow a b) = either (kept (k + delay_count a)) (form_of k c a) (kept (k + delay_count a + 1))
  form_of k c (arrow a b) = either (kept (k + delay_count a + delay_count b)) (form_of k c a) (form_of (k + delay_count a) (c + call_count a) b)
  form_of k c (call g args) = at (c + call_counts args)

  pub forms_of : ℕ → ℕ → Arguments → List NodeForm
  forms_of k c no_arguments = []
  forms_of k c (argument e args) = form_of k c e ∷ forms_of (k + delay_count e) (c + call_count e) args

-- a right side that waits: at this clock it is kept for the next instant
pub record Wait : Type 0 where
  pub clock : ClockPairs
  pub first : Value
  pub right : Expression

-- `true fby false`: whether it is the clock's first instant
abbrev pub first_wait : ClockPairs → Wait
first_wait ck = record { clock = ck; first = Truth true; right = literal (Truth false) }

-- the delays outside other delays, in the order of their numbers
abbrev mutual
  pub delays_in : Expression → ClockPairs → List Wait
  delays_in (literal v) ck = []
  delays_in (variable x) ck = []
  delays_in (unary o a) ck = delays_in a ck
  delays_in (binary o a b) ck = delays_in a ck ++ delays_in b ck
  delays_in (imported o a b) ck = delays_in a ck ++ delays_in b ck
  delays_in (choose c a b) ck = (delays_in c ck ++ delays_in a ck) ++ delays_in b ck
  delays_in (sampled e c b) ck = delays_in e (outer ck)
  delays_in (merged c a b) ck = delays_in a ((c, true) ∷ ck) ++ delays_in b ((c, false) ∷ ck)
  delays_in (delayed v e) ck = record { clock = ck; first = v; right = e } ∷ []
  delays_in (follow a b) ck = delays_in a ck ++ (first_wait ck ∷ record { clock = ck; first = Truth true; right = b } ∷ [])
  delays_in (arrow a b) ck = (delays_in a ck ++ delays_in b ck) ++ first_wait ck ∷ []
  delays_in (call g args) ck = arguments_delays args ck

  pub arguments_delays : Arguments → ClockPairs → List Wait
  arguments_delays no_arguments ck = []
  arguments_delays (argument e args) ck = delays_in e ck ++ arguments_delays args ck

-- what a step stands for: a right side, or a call within one
pub data Source : Type 0 where
  whole : Expression → Source
  part : ℕ → Arguments → Source

-- a step's cell and clock, what it stands for, and how many delays and cells were taken when that was lifted
pub record Item : Type 0 where
  pub cell : ℕ
  pub clock : ClockPairs
  pub delays_before : ℕ
  pub cells_before : ℕ
  pub source : Source

abbrev pub action_of : ℕ → ℕ → Source → ActionForm
action_of k c (whole e) = sets (form_of k c e)
action_of k c (part g args) = runs g (forms_of k c args)

abbrev pub step_of : Item → StepForm
step_of x = record { cell = x.cell; clock = x.clock; action = action_of x.delays_before x.cells_before x.source }

-- the calls outside every delay, in the order in which they are run
abbrev mutual
  pub calls_in : ℕ → ℕ → Expression → ClockPairs → List Item
  calls_in k c (literal v) ck = []
  calls_in k c (variable x) ck = []
  calls_in k c (unary o a) ck = calls_in k c a ck
  calls_in k c (binary o a b) ck = calls_in k c a ck ++ calls_in (k + delay_count a) (c + call_count a) b ck
  calls_in k c (imported o a b) ck = calls_in k c a ck ++ calls_in (k + delay_count a) (c + call_count a) b ck
  calls_in k c (choose i a b) ck =
      (calls_in k c i ck ++ calls_in (k + delay_count i) (c + call_count i) a ck) ++ calls_in (k + delay_count i + delay_count a) (c + call_count i + call_count a) b ck
  calls_in k c (sampled e x b) ck = calls_in k c e (outer ck)
  calls_in k c (merged x a b) ck = calls_in k c a ((x, true) ∷ ck) ++ calls_in (k + delay_count a) (c + call_count a) b ((x, false) ∷ ck)
  calls_in k c (delayed v e) ck = []
  calls_in k c (follow a b) ck = calls_in k c a ck
  calls_in k c (arrow a b) ck = calls_in k c a ck ++ calls_in (k + delay_count a) (c + call_count a) b ck
  calls_in k c (call g args) ck =
      arguments_calls k c args ck ++ record { cell = c + call_counts args; clock = ck; delays_before = k; cells_before = c; source = part g args } ∷ []

  pub arguments_calls : ℕ → ℕ → Arguments → ClockPairs → List Item
  arguments_calls k c no_arguments ck = []
  arguments_calls k c (argument e args) ck = calls_in k c e ck ++ arguments_calls (k + delay_count e) (c + call_count e) args ck
