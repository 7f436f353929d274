-- What the statements of a controller leave.
use Rattle.std.proofs.Common.{◌≡◌, ℕ, Bool, true, false, List, [], ◌∷◌, refl, sym, ap, ◌∙◌, subst, eqb-true, pos, ℤ}
use Rattle.std.specs.Prelude.{not, ◌&&◌, ◌||◌, nat_eq, if◌then◌else◌}
use Rattle.std.specs.List.{list_any}
use Rattle.lt_base.specs.Operators.{int_eq}
use Rattle.lt_arch.specs.declared.event.Deed.{Deed}
use Rattle.lt_arch.specs.declared.event.Deed.TheVariants.{Nothing, Execute, Send}
use Rattle.lt_arch.specs.State.{Phase, Wait, Ready}
use Rattle.lt_arch.specs.Deeds.{phase_after}
use Rattle.lt_c.specs.Tree.{CVariable, slot, did, more, phase, sent, executed, bit, read, payload, ack, seen, output, has, tag, Tree, c_var, Statement}
use Rattle.lt_c.specs.Meaning.{Store, c_truth_of, of_truth, value, stored, store_left, is_of_step, WritesStep}
use Rattle.lt_c_control.specs.Control.{unread_ack, all_data, some_data, all_acks, if_acked, read_data, read_acks, becomes, executing, sending, pressure, fresh_data, fresh_ack, every, some, HasPhase, Does, PressureIsDeed}
use Rattle.lt_c.proofs.Stores.{truth_back, other_tag}

-- ---- conditions

pub and_again : (a b c : Bool) → (a && (b && c)) ≡ ((a && b) && c)
and_again true b c = refl
and_again false b c = refl

or_again : (a b c : Bool) → (a || (b || c)) ≡ ((a || b) || c)
or_again true b c = refl
or_again false b c = refl

pub and_turned : (a b : Bool) → (a && b) ≡ (b && a)
and_turned true true = refl
and_turned true false = refl
and_turned false true = refl
and_turned false false = refl

pub or_turned : (a b : Bool) → (a || b) ≡ (b || a)
or_turned true true = refl
or_turned true false = refl
or_turned false true = refl
or_turned false false = refl

pub data_truth : (m : Store) (js : List ℕ) (e : Tree) → c_truth_of (value m (all_data js e)) ≡ (every (fresh_data m) js && c_truth_of (value m e))
data_truth m [] e = refl
data_truth m (j ∷ js) e =
    truth_back (c_truth_of (of_truth (fresh_data m j)) && c_truth_of (value m (all_data js e)))
    ∙ (λ i. truth_back (fresh_data m j) i && data_truth m js e i)
    ∙ and_again (fresh_data m j) (every (fresh_data m) js) (c_truth_of (value m e))

pub some_truth : (m : Store) (js : List ℕ) (e : Tree) → c_truth_of (value m (some_data js e)) ≡ (some (fresh_data m) js || c_truth_of (value m e))
some_truth m [] e = refl
some_truth m (j ∷ js) e =
    truth_back (c_truth_of (of_truth (fresh_data m j)) || c_truth_of (value m (some_data js e)))
    ∙ (λ i. truth_back (fresh_data m j) i || some_truth m js e i)
    ∙ or_again (fresh_data m j) (some (fresh_data m) js) (c_truth_of (value m e))

acks_truth : (m : Store) (js : List ℕ) (e : Tree) → c_truth_of (value m (all_acks js e)) ≡ (every (fresh_ack m) js && c_truth_of (value m e))
acks_truth m [] e = refl
acks_truth m (j ∷ js) e =
    truth_back (c_truth_of (of_truth (fresh_ack m j)) && c_truth_of (value m (all_acks js e)))
    ∙ (λ i. truth_back (fresh_ack m j) i && acks_truth m js e i)
    ∙ and_again (fresh_ack m j) (every (fresh_ack m) js) (c_truth_of (value m e))

pub acked : (js : List ℕ) (s : Statement) (m : Store) → store_left (if_acked js s) m ≡ (if every (fresh_ack m) js then store_left s m else m)
acked [] s m = refl
acked (j ∷ js) s m =
    ap (λ (b : Bool). if b then store_left s m else m)
    (acks_truth m js (unread_ack j) ∙ (λ i. every (fresh_ack m) js && truth_back (fresh_ack m j) i) ∙ and_turned (every (fresh_ack m) js) (fresh_ack m j))

-- ---- what is read

data_leaves : (js : List ℕ) (m : Store) (p : CVariable) → nat_eq (tag p) 8 ≡ false → store_left (read_data js) m p ≡ m p
data_leaves [] m p e = refl
data_leaves (j ∷ js) m p e = data_leaves js (stored m (read j) (m (bit j))) p e ∙ other_tag m (read j) p (m (bit j)) e

acks_leaves : (js : List ℕ) (m : Store) (p : CVariable) → nat_eq (tag p) 11 ≡ false → store_left (read_acks js) m p ≡ m p
acks_leaves [] m p e = refl
acks_leaves (j ∷ js) m p e = acks_leaves js (stored m (seen j) (m (ack j))) p e ∙ other_tag m (seen j) p (m (ack j)) e

-- of a list with one more number in front, by whether that is the one
marked : (own other : ℕ → ℤ) (i j : ℕ) (b a : Bool) → nat_eq i j ≡ b → (if a then own i else (if b then own j else other i)) ≡ (if b || a then own i else other i)
marked own other i j true true e = refl
marked own other i j true false e = ap own (sym (eqb-true i j e))
marked own other i j false true e = refl
marked own other i j false false e = refl

data_read : (js : List ℕ) (m : Store) (i : ℕ) → store_left (read_data js) m (read i) ≡ (if list_any (nat_eq i) js then m (bit i) else m (read i))
data_read [] m i = refl
data_read (j ∷ js) m i = data_read js (stored m (read j) (m (bit j))) i ∙ marked (λ k. m (bit k)) (λ k. m (read k)) i j (nat_eq i j) (list_any (nat_eq i) js) refl

acks_read : (js : List ℕ) (m : Store) (i : ℕ) → store_left (read_acks js) m (seen i) ≡ (if list_any (nat_eq i) js then m (ack i) else m (seen i))
acks_read [] m i = refl
acks_read (j ∷ js) m i = acks_read js (stored m (seen j) (m (ack j))) i ∙ marked (λ k. m (ack k)) (λ k. m (seen k)) i j (nat_eq i j) (list_any (nat_eq i) js) refl

-- ---- deeds

module _ (ins acks : List ℕ) (run : Statement) (m : Store) (w : WritesStep run) where
  abbrev m0 : Store
  m0 = stored m did (pos 0)

  abbrev ran : Store
  ran = store_left run m0

  abbrev got : Store
  got = store_left (read_data ins) ran

  -- a variable of the controller after the step and the reading
  kept : (p : CVariable) → nat_eq (tag p) 8 ≡ false → is_of_step p ≡ false → got p ≡ m0 p
  kept p e f = data_leaves ins ran p e ∙ w m0 p f

  pub does_nothing : (next : Phase) → HasPhase m0 next → Does ins acks run m m0 Nothing next
  does_nothing next h = record {
    deed_is = refl;
    next_is = h;
    slots = λ x. refl;
    reads = λ j. refl;
    seens = λ j. refl;
    bits = λ j. refl;
    acks_stay = λ j. refl;
    payloads = λ j k. refl;
    outputs = λ y. refl;
    told = λ y. refl;
    sent_is = refl;
    executed_is = refl;
  }

  pub does_execute : Does ins acks run m (store_left (executing ins run) m0) Execute Ready
  does_execute = record {
    deed_is = refl;
    next_is = refl;
    slots = λ x. data_leaves ins ran (slot x) refl;
    reads = λ j. data_read ins ran j ∙ (λ i. if list_any (nat_eq j) ins then w m0 (bit j) refl i else w m0 (read j) refl i);
    seens = λ j. kept (seen j) refl refl;
    bits = λ j. kept (bit j) refl refl;
    acks_stay = λ j. kept (ack j) refl refl;
    payloads = λ j k. kept (payload j k) refl refl;
    outputs = λ y. data_leaves ins ran (output y) refl;
    told = λ y. data_leaves ins ran (has y) refl;
    sent_is = kept sent refl refl;
    executed_is = ap (λ z. of_truth (not (c_truth_of z))) (kept executed refl refl);
  }

  pub does_send : Does ins acks run m (store_left (sending acks (becomes phase 0)) m0) Send Wait
  does_send = record {
    deed_is = refl;
    next_is = refl;
    slots = λ x. acks_leaves acks m0 (slot x) refl;
    reads = λ j. acks_leaves acks m0 (read j) refl;
    seens = λ j. acks_read acks m0 j;
    bits = λ j. acks_leaves acks m0 (bit j) refl;
    acks_stay = λ j. acks_leaves acks m0 (ack j) refl;
    payloads = λ j k. acks_leaves acks m0 (payload j k) refl;
    outputs = λ y. acks_leaves acks m0 (output y) refl;
    told = λ y. acks_leaves acks m0 (has y) refl;
    sent_is = ap (λ z. of_truth (not (c_truth_of z))) (acks_leaves acks m0 sent refl);
    executed_is = acks_leaves acks m0 executed refl;
  }

  -- ---- under back-pressure

  by_acks : (send execute : ℕ) → HasPhase m Ready → (b : Bool) → let deed : Deed = if b then Send else Nothing in Does ins acks run m (if b then store_left (sending acks (becomes phase 0)) m0 else m0) deed (phase_after send execute Ready deed)
  by_acks send execute h true = does_send
  by_acks send execute h false = does_nothing Ready h

  by_data : (send execute : ℕ) → HasPhase m Wait → (b : Bool) → let deed : Deed = if b then Execute else Nothing in Does ins acks run m (if b then store_left (executing ins run) m0 else m0) deed (phase_after send execute Wait deed)
  by_data send execute h true = does_execute
  by_data send execute h false = does_nothing Wait h

  abbrev by_phase : ℤ → Store
  by_phase z =
      if c_truth_of (of_truth (int_eq z (pos 1))) then store_left (if_acked acks (sending acks (becomes phase 0))) m0
      else (if c_truth_of (value m0 (all_data ins (c_var more))) then store_left (executing ins run) m0 else m0)

  ready_leaves : m phase ≡ pos 1 → store_left (pressure ins acks run) m ≡ (if every (fresh_ack m) acks then store_left (sending acks (becomes phase 0)) m0 else m0)
  ready_leaves h = ap by_phase h ∙ acked acks (sending acks (becomes phase 0)) m0

  wait_leaves : m phase ≡ pos 0 → store_left (pressure ins acks run) m ≡ (if every (fresh_data m) ins && c_truth_of (m more) then store_left (executing ins run) m0 else m0)
  wait_leaves h = ap by_phase h ∙ ap (λ (b : Bool). if b then store_left (executing ins run) m0 else m0) (data_truth m0 ins (c_var more))

pub pressure_is_deed : PressureIsDeed
pressure_is_deed ins acks run send execute m true some_in w h =
    subst (λ (n : Store). let deed : Deed = if every (fresh_ack m) acks then Send else Nothing in Does ins acks run m n deed (phase_after send execute Ready deed)) (sym (ready_leaves ins acks run m w h)) (by_acks ins acks run m w send execute h (every (fresh_ack m) acks))
pressure_is_deed ins acks run send execute m false some_in w h =
    subst (λ (n : Store). let deed : Deed = if every (fresh_data m) ins && c_truth_of (m more) then Execute else Nothing in Does ins acks run m n deed (phase_after send execute Wait deed)) (sym (wait_leaves ins acks run m w h)) (by_data ins acks run m w send execute h (every (fresh_data m) ins && c_truth_of (m more)))
