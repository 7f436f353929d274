-- What holds of the calls and the delays in an expression that passed the checks.
use Rattle.std.proofs.Common.{◌≡◌, ℕ, zero, suc, ◌+◌, ◌<◌, true, false, List, [], ◌∷◌, ◌++◌, length, Option, Some, None, refl, ap, subst, ◌∙◌, arith, ⊎_elim}
use Rattle.std.specs.Prelude.{slice_get}
use Rattle.lt_base.specs.declared.function.Decl.{Decl}
use Rattle.lt_base.specs.declared.value.Value.TheVariants.{Bool as Truth}
use Rattle.lt_base.specs.Expression.{Expression, literal, variable, unary, binary, imported, choose, sampled, merged, delayed, follow, arrow, call, Arguments, no_arguments, argument}
use Rattle.lt_base.specs.Program.{Function}
use Rattle.lt_base.specs.Meaning.{ClockPairs, outer, function_of, clock_of}
use Rattle.lt_base.specs.Clocking.{WellFormed, Clocked, ArgumentsClocked, FirstOnBase, AnswersOnBase}
use Rattle.lt_base.specs.Order.{EachRead, EachArgumentRead, EachClockVar}
use Rattle.lt_base.specs.Checked.{EachUse, EachArgumentUse, AnswersCall, argument_count}
use Rattle.lt_meaning.specs.Lift.{delay_count, call_count, call_counts, Wait, first_wait, delays_in, arguments_delays, part, Item, calls_in, arguments_calls}
use Rattle.lt_meaning.specs.Fine.{CallFits, Fine}
use Rattle.lt_meaning.specs.Planned.{IsElement, StandsFrom, inner_delays, IfCall, Answering}
use Rattle.lt_meaning.proofs.Standing.{in_either, from_left, from_right}
use Rattle.lt_meaning.proofs.Lifting.{delays_number, two_lengths}

pub in_one : {A : Type 0} (y x : A) → IsElement (y ∷ []) x → y ≡ x
in_one y x i = by i.0 i.1
  where
    by : (n : ℕ) → slice_get (y ∷ []) n ≡ Some x → y ≡ x
    by zero h = cc
    by (suc n) h = absurd (cc)

in_none : {A : Type 0} (x : A) → IsElement [] x → ⊥
in_none x i = by i.0 i.1
  where
    by : (n : ℕ) → slice_get [] n ≡ Some x → ⊥
    by n h = cc

-- ---- the variables that it reads

module _ (fs : List Function) (height : ℕ → ℕ) (top : ℕ) (ds : List Decl) where
  abbrev pub Declared : ℕ → Type 0
  Declared y = y < length ds

  mutual
    pub reads_declared : (e : Expression) (ck : ClockPairs) → Clocked fs ds e ck → EachRead Declared e
    reads_declared (literal v) ck k = tt
    reads_declared (variable x) ck k = k.0
    reads_declared (unary o a) ck k = reads_declared a ck k
    reads_declared (binary o a b) ck k = (reads_declared a ck k.0, reads_declared b ck k.1)
    reads_declared (imported o a b) ck k = (reads_declared a ck k.0, reads_declared b ck k.1)
    reads_declared (choose c a b) ck k = (reads_declared c ck k.0, reads_declared a ck k.1, reads_declared b ck k.2)
    reads_declared (sampled e c b) [] k = elim k [ ]
    reads_declared (sampled e c b) ((d, a) ∷ ck) k = (reads_declared e ck k.2.2, k.2.0)
    reads_declared (merged c a b) ck k = (k.0, reads_declared a ((c, true) ∷ ck) k.2, reads_declared b ((c, false) ∷ ck) k.3)
    reads_declared (delayed v e) ck k = tt
    reads_declared (follow a b) ck k = reads_declared a ck k.0
    reads_declared (arrow a b) ck k = (reads_declared a ck k.0, reads_declared b ck k.1)
    reads_declared (call g args) ck k = arguments_declared args ck k.1

    arguments_declared : (args : Arguments) (ck : ClockPairs) → ArgumentsClocked fs ds args ck → EachArgumentRead Declared args
    arguments_declared no_arguments ck k = tt
    arguments_declared (argument e args) ck k = (reads_declared e ck k.0, arguments_declared args ck k.1)

  pub clock_declared : (ck : ClockPairs) → WellFormed ds ck → EachClockVar Declared ck
  clock_declared [] w = tt
  clock_declared ((c, b) ∷ ck) w = (w.0, clock_declared ck w.2)

  -- ---- its calls can be answered

  only_output : (ds : List Decl) (ys : List ℕ) → length ys ≡ 1 → FirstOnBase ds ys → (y : ℕ) × (ys ≡ y ∷ []) × (y < length ds) × (clock_of ds y ≡ [])
  only_output ds [] n b = elim b [ ]
  only_output ds (y ∷ []) n b = (y, refl, b.0, b.1)
  only_output ds (y ∷ z ∷ ys) n b = absurd (omega (arith, n))

  answering_by : (g n : ℕ) (o : Option Function) → function_of fs g ≡ o → AnswersCall o n → AnswersOnBase o → Answering fs g n
  answering_by g n None e a b = elim a [ ]
  answering_by g n (Some f) e a b =
      let y = only_output f.decls f.outs a.1 b in
      record { function = f; is = e; inputs = a.0; output = y.0; outs = y.1; declared = y.2; on_base = y.3 }

  -- a call can be answered, by a function that is lower
  abbrev pub Called : ℕ → ℕ → Type 0
  Called g n = Answering fs g n × (height g < top)

  mutual
    pub calls_answer : (e : Expression) (k c : ℕ) (ck : ClockPairs) → Clocked fs ds e ck → EachUse (CallFits fs height top) e → (x : Item) → IsElement (calls_in k c e ck) x → IfCall Called x.source
    calls_answer (literal v) k c ck h u x i = absurd (in_none x i)
    calls_answer (variable y) k c ck h u x i = absurd (in_none x i)
    calls_answer (unary o a) k c ck h u x i = calls_answer a k c ck h u x i
    calls_answer (binary o a b) k c ck h u x i =
        ⊎_elim (calls_answer a k c ck h.0 u.0 x) (calls_answer b (k + delay_count a) (c + call_count a) ck h.1 u.1 x) (in_either (calls_in k c a ck) _ x i)
    calls_answer (imported o a b) k c ck h u x i =
        ⊎_elim (calls_answer a k c ck h.0 u.0 x) (calls_answer b (k + delay_count a) (c + call_count a) ck h.1 u.1 x) (in_either (calls_in k c a ck) _ x i)
    calls_answer (choose t a b) k c ck h u x i =
        ⊎_elim
        (λ j. ⊎_elim (calls_answer t k c ck h.0 u.0 x) (calls_answer a (k + delay_count t) (c + call_count t) ck h.1 u.1 x) (in_either (calls_in k c t ck) _ x j))
        (calls_answer b (k + delay_count t + delay_count a) (c + call_count t + call_count a) ck h.2 u.2 x)
        (in_either (calls_in k c t ck ++ calls_in (k + delay_count t) (c + call_count t) a ck) _ x i)
    calls_answer (sampled e y b) k c [] h u x i = elim h [ ]
    calls_answer (sampled e y b) k c ((d, a) ∷ ck) h u x i = calls_answer e k c ck h.2.2 u x i
    calls_answer (merged y a b) k c ck h u x i =
        ⊎_elim (calls_answer a k c ((y, true) ∷ ck) h.2 u.0 x) (calls_answer b (k + delay_count a) (c + call_count a) ((y, false) ∷ ck) h.3 u.1 x) (in_either (calls_in k c a ((y, true) ∷ ck)) _ x i)
    calls_answer (delayed v e) k c ck h u x i = absurd (in_none x i)
    calls_answer (follow a b) k c ck h u x i = calls_answer a k c ck h.0 u.0 x i
    calls_answer (arrow a b) k c ck h u x i =
        ⊎_elim (calls_answer a k c ck h.0 u.0 x) (calls_answer b (k + delay_count a) (c + call_count a) ck h.1 u.1 x) (in_either (calls_in k c a ck) _ x i)
    calls_answer (call g args) k c ck h u x i =
        ⊎_elim
        (arguments_answer args k c ck h.1 u.1 x)
        (λ j. subst (λ (y : Item). IfCall Called y.source) (in_one _ x j) (answering_by g (argument_count args) (function_of fs g) refl u.0.0 h.0, u.0.1))
        (in_either (arguments_calls k c args ck) _ x i)

    arguments_answer : (args : Arguments) (k c : ℕ) (ck : ClockPairs) → ArgumentsClocked fs ds args ck → EachArgumentUse (CallFits fs height top) args → (x : Item) → IsElement (arguments_calls k c args ck) x → IfCall Called x.source
    arguments_answer no_arguments k c ck h u x i = absurd (in_none x i)
    arguments_answer (argument e args) k c ck h u x i =
        ⊎_elim (calls_answer e k c ck h.0 u.0 x) (arguments_answer args (k + delay_count e) (c + call_count e) ck h.1 u.1 x) (in_either (calls_in k c e ck) _ x i)

  -- ---- what waits passed the checks as well

  outer_formed : (ck : ClockPairs) → WellFormed ds ck → WellFormed ds (outer ck)
  outer_formed [] w = tt
  outer_formed ((c, b) ∷ ck) w = w.2

  first_fine : (ck : ClockPairs) → WellFormed ds ck → Fine fs height top ds (literal (Truth false)) ck
  first_fine ck w = record { clocked = tt; formed = w; uses = tt }

  mutual
    pub waits_fine : (e : Expression) (ck : ClockPairs) → Clocked fs ds e ck → WellFormed ds ck → EachUse (CallFits fs height top) e → (w : Wait) → IsElement (delays_in e ck) w → Fine fs height top ds w.right w.clock
    waits_fine (literal v) ck h f u w i = absurd (in_none w i)
    waits_fine (variable x) ck h f u w i = absurd (in_none w i)
    waits_fine (unary o a) ck h f u w i = waits_fine a ck h f u w i
    waits_fine (binary o a b) ck h f u w i = ⊎_elim (waits_fine a ck h.0 f u.0 w) (waits_fine b ck h.1 f u.1 w) (in_either (delays_in a ck) _ w i)
    waits_fine (imported o a b) ck h f u w i = ⊎_elim (waits_fine a ck h.0 f u.0 w) (waits_fine b ck h.1 f u.1 w) (in_either (delays_in a ck) _ w i)
    waits_fine (choose t a b) ck h f u w i =
        ⊎_elim (λ j. ⊎_elim (waits_fine t ck h.0 f u.0 w) (waits_fine a ck h.1 f u.1 w) (in_either (delays_in t ck) _ w j)) (waits_fine b ck h.2 f u.2 w) (in_either (delays_in t ck ++ delays_in a ck) _ w i)
    waits_fine (sampled e c b) [] h f u w i = elim h [ ]
    waits_fine (sampled e c b) ((d, a) ∷ ck) h f u w i = waits_fine e ck h.2.2 f.2 u w i
    waits_fine (merged c a b) ck h f u w i =
        ⊎_elim (waits_fine a ((c, true) ∷ ck) h.2 (h.0, h.1, f) u.0 w) (waits_fine b ((c, false) ∷ ck) h.3 (h.0, h.1, f) u.1 w) (in_either (delays_in a ((c, true) ∷ ck)) _ w i)
    waits_fine (delayed v e) ck h f u w i =
        subst (λ (w : Wait). Fine fs height top ds w.right w.clock) (in_one (record { clock = ck; first = v; right = e }) w i) (record { clocked = h; formed = f; uses = u })
    waits_fine (follow a b) ck h f u w i =
        let more : Wait = record { clock = ck; first = Truth true; right = b } in
        ⊎_elim
        (waits_fine a ck h.0 f u.0 w)
        (λ j. ⊎_elim
        (λ m. subst (λ (w : Wait). Fine fs height top ds w.right w.clock) (in_one (first_wait ck) w m) (first_fine ck f))
        (λ m. subst (λ (w : Wait). Fine fs height top ds w.right w.clock) (in_one more w m) (record { clocked = h.1; formed = f; uses = u.1 }))
        (in_either (first_wait ck ∷ []) (more ∷ []) w j))
        (in_either (delays_in a ck) _ w i)
    waits_fine (arrow a b) ck h f u w i =
        ⊎_elim
        (λ j. ⊎_elim (waits_fine a ck h.0 f u.0 w) (waits_fine b ck h.1 f u.1 w) (in_either (delays_in a ck) _ w j))
        (λ m. subst (λ (w : Wait). Fine fs height top ds w.right w.clock) (in_one (first_wait ck) w m) (first_fine ck f))
        (in_either (delays_in a ck ++ delays_in b ck) _ w i)
    waits_fine (call g args) ck h f u w i = arguments_wait args ck h.1 f u.1 w i

    arguments_wait : (args : Arguments) (ck : ClockPairs) → ArgumentsClocked fs ds args ck → WellFormed ds ck → EachArgumentUse (CallFits fs height top) args → (w : Wait) → IsElement (arguments_delays args ck) w → Fine fs height top ds w.right w.clock
    arguments_wait no_arguments ck h f u w i = absurd (in_none w i)
    arguments_wait (argument e args) ck h f u w i = ⊎_elim (waits_fine e ck h.0 f u.0 w) (arguments_wait args ck h.1 f u.1 w) (in_either (delays_in e ck) _ w i)

-- ---- the delays that its calls need are there

mutual
  pub calls_need : (e : Expression) (k c : ℕ) (ck : ClockPairs) (ws : List Wait) → StandsFrom k (delays_in e ck) ws → (x : Item) → IsElement (calls_in k c e ck) x → StandsFrom x.delays_before (inner_delays x.source x.clock) ws
  calls_need (literal v) k c ck ws d x i = absurd (in_none x i)
  calls_need (variable y) k c ck ws d x i = absurd (in_none x i)
  calls_need (unary o a) k c ck ws d x i = calls_need a k c ck ws d x i
  calls_need (binary o a b) k c ck ws d x i =
      ⊎_elim (calls_need a k c ck ws (from_left k _ (delays_in b ck) ws d) x) (calls_need b (k + delay_count a) (c + call_count a) ck ws (from_right k _ (delays_in a ck) _ ws (delays_number a ck) d) x) (in_either (calls_in k c a ck) _ x i)
  calls_need (imported o a b) k c ck ws d x i =
      ⊎_elim (calls_need a k c ck ws (from_left k _ (delays_in b ck) ws d) x) (calls_need b (k + delay_count a) (c + call_count a) ck ws (from_right k _ (delays_in a ck) _ ws (delays_number a ck) d) x) (in_either (calls_in k c a ck) _ x i)
  calls_need (choose t a b) k c ck ws d x i =
      let ds = delays_in t ck ++ delays_in a ck in
      let d₀ = from_left k ds (delays_in b ck) ws d in
      let n : length ds ≡ delay_count t + delay_count a = two_lengths (delays_in t ck) (delays_in a ck) _ _ (delays_number t ck) (delays_number a ck) in
      let d₂ : StandsFrom (k + delay_count t + delay_count a) (delays_in b ck) ws = λ j w h. ap (slice_get ws) (omega arith) ∙ from_right k _ ds (delays_in b ck) ws n d j w h in
      ⊎_elim
      (λ j. ⊎_elim
      (calls_need t k c ck ws (from_left k (delays_in t ck) (delays_in a ck) ws d₀) x)
      (calls_need a (k + delay_count t) (c + call_count t) ck ws (from_right k _ (delays_in t ck) (delays_in a ck) ws (delays_number t ck) d₀) x)
      (in_either (calls_in k c t ck) _ x j))
      (calls_need b (k + delay_count t + delay_count a) (c + call_count t + call_count a) ck ws d₂ x)
      (in_either (calls_in k c t ck ++ calls_in (k + delay_count t) (c + call_count t) a ck) _ x i)
  calls_need (sampled e y b) k c ck ws d x i = calls_need e k c (outer ck) ws d x i
  calls_need (merged y a b) k c ck ws d x i =
      ⊎_elim
      (calls_need a k c ((y, true) ∷ ck) ws (from_left k _ (delays_in b ((y, false) ∷ ck)) ws d) x)
      (calls_need b (k + delay_count a) (c + call_count a) ((y, false) ∷ ck) ws (from_right k _ (delays_in a ((y, true) ∷ ck)) _ ws (delays_number a ((y, true) ∷ ck)) d) x)
      (in_either (calls_in k c a ((y, true) ∷ ck)) _ x i)
  calls_need (delayed v e) k c ck ws d x i = absurd (in_none x i)
  calls_need (follow a b) k c ck ws d x i = calls_need a k c ck ws (from_left k _ _ ws d) x i
  calls_need (arrow a b) k c ck ws d x i =
      let d₀ = from_left k (delays_in a ck ++ delays_in b ck) (first_wait ck ∷ []) ws d in
      ⊎_elim (calls_need a k c ck ws (from_left k _ (delays_in b ck) ws d₀) x) (calls_need b (k + delay_count a) (c + call_count a) ck ws (from_right k _ (delays_in a ck) _ ws (delays_number a ck) d₀) x) (in_either (calls_in k c a ck) _ x i)
  calls_need (call g args) k c ck ws d x i =
      let item : Item = record { cell = c + call_counts args; clock = ck; delays_before = k; cells_before = c; source = part g args } in
      ⊎_elim
      (arguments_need args k c ck ws d x)
      (λ j. subst (λ (x : Item). StandsFrom x.delays_before (inner_delays x.source x.clock) ws) (in_one item x j) d)
      (in_either (arguments_calls k c args ck) _ x i)

  arguments_need : (args : Arguments) (k c : ℕ) (ck : ClockPairs) (ws : List Wait) → StandsFrom k (arguments_delays args ck) ws → (x : Item) → IsElement (arguments_calls k c args ck) x → StandsFrom x.delays_before (inner_delays x.source x.clock) ws
  arguments_need no_arguments k c ck ws d x i = absurd (in_none x i)
  arguments_need (argument e args) k c ck ws d x i =
      ⊎_elim
      (calls_need e k c ck ws (from_left k _ (arguments_delays args ck) ws d) x)
      (arguments_need args (k + delay_count e) (c + call_count e) ck ws (from_right k _ (delays_in e ck) _ ws (delays_number e ck) d) x)
      (in_either (calls_in k c e ck) _ x i)
