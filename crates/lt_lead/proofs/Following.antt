-- How far a node that follows has come.
use Rattle.std.proofs.Common.{◌≡◌, ◌≢◌, ℕ, zero, suc, ◌+◌, ◌-◌, ◌*◌, ◌/◌, ◌<◌, ◌≤◌, inl, inr, Option, Some, None, Bool, true, false, ◌&&◌, ◌||◌, nat_lt, nat_le, ◌==◌, if◌then◌else◌, refl, sym, ◌∙◌, ap, arith, subst, leb-false, ltb-false, one-mul, suc-mul, add-mul, mul-le-mul_right}
use Rattle.lt_arch.specs.declared.event.Deed.TheVariants.{Nothing, Execute, Send}
use Rattle.lt_arch.specs.declared.timing.Timing.{Timing}
use Rattle.lt_arch.specs.declared.shape.Shape.{Shape}
use Rattle.lt_arch.specs.State.{Phase, Wait, Ready, First, Sending, Executing, unsent}
use Rattle.lt_arch.specs.Readers.{tmax_of, send_of, execute_of, dmax_of}
use Rattle.lt_arch.specs.Deeds.{deed_of, phase_after}
use Rattle.lt_arch.specs.Deadline.{after_last}
use Rattle.lt_arch.specs.Step.{is_execute}
use Rattle.lt_timing.specs.Bounds.{time_based_cycle}
use Rattle.lt_tb.proofs.Round.{Stands, Opens}
use Rattle.lt_tb.proofs.Steady.{IsSteady}
use Rattle.lt_tb.proofs.Wake.{count_up, some_left, eqb_ne}
use Rattle.lt_tb.proofs.Least.{quotient}
use Rattle.lt_lead.specs.Bounds.{first_sent_by, leader_sent_by, second_by, follower_bound}

-- what the steady pace of node j tells of its sends
module _ (t : Timing) (rows j : ℕ) where
  one_more : (k : ℕ) → suc k * time_based_cycle t j ≡ k * time_based_cycle t j + (send_of t j * tmax_of t j + execute_of t j * tmax_of t j)
  one_more k = rw (suc-mul k (time_based_cycle t j), add-mul (send_of t j) (execute_of t j) (tmax_of t j))

  one_at_most : (e m : ℕ) → e ≤ suc m → e * time_based_cycle t j ≤ m * time_based_cycle t j + (send_of t j * tmax_of t j + execute_of t j * tmax_of t j)
  one_at_most e m le = subst (λ x. e * time_based_cycle t j ≤ x) (one_more m) (mul-le-mul_right (time_based_cycle t j) le)

  first_sum : (send_of t j + 1) * tmax_of t j ≡ send_of t j * tmax_of t j + tmax_of t j
  first_sum = rw (add-mul (send_of t j) 1 (tmax_of t j), one-mul)

  pub begin_by : (phase : Phase) (e : ℕ) (last : Option ℕ) (turn at : ℕ) → IsSteady t rows j phase e last → e ≡ suc turn → e - unsent phase ≡ turn → at ≤ after_last last (tmax_of t j) → at ≤ leader_sent_by t j turn
  begin_by Wait e last turn at k is had due = absurd k
  begin_by Ready e last turn at k is had due = absurd k
  begin_by First e None turn at k is had due = absurd (omega (arith, k))
  begin_by First e (Some last) turn at k is had due = absurd (omega (arith, k.0))
  begin_by (Sending left) e None turn at k is had due = absurd k
  begin_by (Sending left) e (Some last) turn at k is had due =
      let by : last + left * tmax_of t j + execute_of t j * tmax_of t j ≤ tmax_of t j + e * time_based_cycle t j = k.by in
      let some : tmax_of t j ≤ left * tmax_of t j = some_left left (tmax_of t j) k.counts in
      let more : e * time_based_cycle t j ≡ turn * time_based_cycle t j + (send_of t j * tmax_of t j + execute_of t j * tmax_of t j) = ap (λ x. x * time_based_cycle t j) is ∙ one_more turn in
      let sum : (send_of t j + 1) * tmax_of t j ≡ send_of t j * tmax_of t j + tmax_of t j = first_sum in
      omega arith
  begin_by (Executing left) e None turn at k is had due = absurd k
  begin_by (Executing left) e (Some last) turn at k is had due = absurd (omega arith)

  -- before its next deadline a node that has sent m times, with a row left, is below its next send
  pub lead_by : (phase : Phase) (e : ℕ) (last : Option ℕ) (m h : ℕ) → IsSteady t rows j phase e last → e - unsent phase ≡ m → m < rows → h < after_last last (tmax_of t j) → h < leader_sent_by t j m
  lead_by Wait e last m h k is row due = absurd k
  lead_by Ready e last m h k is row due = absurd k
  lead_by First e None m h k is row due =
      let sum : (send_of t j + 1) * tmax_of t j ≡ send_of t j * tmax_of t j + tmax_of t j = first_sum in
      omega arith
  lead_by First e (Some last) m h k is row due = absurd (omega (arith, k.1))
  lead_by (Sending left) e None m h k is row due = absurd k
  lead_by (Sending left) e (Some last) m h k is row due =
      let by : last + left * tmax_of t j + execute_of t j * tmax_of t j ≤ tmax_of t j + e * time_based_cycle t j = k.by in
      let some : tmax_of t j ≤ left * tmax_of t j = some_left left (tmax_of t j) k.counts in
      let sum : (send_of t j + 1) * tmax_of t j ≡ send_of t j * tmax_of t j + tmax_of t j = first_sum in
      let more : e * time_based_cycle t j ≤ m * time_based_cycle t j + (send_of t j * tmax_of t j + execute_of t j * tmax_of t j) = one_at_most e m (omega arith) in
      omega arith
  lead_by (Executing left) e None m h k is row due = absurd k
  lead_by (Executing left) e (Some last) m h k is row due =
      let same : e ≡ m = omega arith in
      let by : last + left * tmax_of t j ≤ tmax_of t j + e * time_based_cycle t j = k.by (omega arith) in
      let some : tmax_of t j ≤ left * tmax_of t j = some_left left (tmax_of t j) k.counts in
      let sum : (send_of t j + 1) * tmax_of t j ≡ send_of t j * tmax_of t j + tmax_of t j = first_sum in
      let cyc : e * time_based_cycle t j ≡ m * time_based_cycle t j = ap (λ x. x * time_based_cycle t j) same in
      omega arith

-- a node that follows the leader: when it counts to its next instant, it has sent within its reach
pub record IsFollowerBy (t : Timing) (rows leader j left executed last : ℕ) : Type 0 where
  pub some : 1 ≤ executed
  pub counts : 1 ≤ left
  pub by : (k : ℕ) → executed ≡ suc k → executed < rows → last + left * tmax_of t j ≤ second_by t leader j + k * time_based_cycle t leader

abbrev pub IsFollowing : Timing → (rows leader j : ℕ) → Phase → ℕ → Option ℕ → Type 0
IsFollowing t rows leader j Wait e l = ⊥
IsFollowing t rows leader j Ready e l = ⊥
IsFollowing t rows leader j First e None = e ≡ 0
IsFollowing t rows leader j First e (Some last) = (e ≡ 0) × (rows ≡ 0)
IsFollowing t rows leader j (Sending left) e l = 1 ≤ e
IsFollowing t rows leader j (Executing left) e None = ⊥
IsFollowing t rows leader j (Executing left) e (Some last) = IsFollowerBy t rows leader j left e last

module _ (t : Timing) (rows leader j at e : ℕ) (execute_some : 1 ≤ execute_of t j) where
  follow_first : (more : Bool) → nat_le (suc e) rows ≡ more → e ≡ 0 →
      IsFollowing t rows leader j (phase_after (send_of t j) (execute_of t j) First (if more then Execute else Nothing)) (if is_execute (if more then Execute else Nothing) then e + 1 else e) (Some at)
  follow_first true is zero_yet = omega arith
  follow_first false is zero_yet = let row : rows < suc e = leb-false (suc e) rows is in (zero_yet, omega arith)

  follow_idle : (more : Bool) → nat_le (suc e) rows ≡ more → e ≡ 0 → rows ≡ 0 →
      IsFollowing t rows leader j (phase_after (send_of t j) (execute_of t j) First (if more then Execute else Nothing)) (if is_execute (if more then Execute else Nothing) then e + 1 else e) (Some at)
  follow_idle true is zero_yet none = omega arith
  follow_idle false is zero_yet none = (zero_yet, none)

  follow_sends : 1 ≤ e → ((k : ℕ) → e ≡ suc k → at ≤ leader_sent_by t leader k + (tmax_of t j + dmax_of t leader j)) → IsFollowerBy t rows leader j (execute_of t j) e at
  follow_sends some by = record {
    some = some;
    counts = execute_some;
    by = λ k is row.
        let b : at ≤ leader_sent_by t leader k + (tmax_of t j + dmax_of t leader j) = by k is in
        let d : (execute_of t j + 1) * tmax_of t j ≡ execute_of t j * tmax_of t j + 1 * tmax_of t j = add-mul (execute_of t j) 1 (tmax_of t j) in
        omega arith;
  }

  follow_sending : (one any : Bool) (left : ℕ) → 1 ≤ e → ((if one || any then Send else Nothing) ≡ Send → (k : ℕ) → e ≡ suc k → at ≤ leader_sent_by t leader k + (tmax_of t j + dmax_of t leader j)) →
      IsFollowing t rows leader j (phase_after (send_of t j) (execute_of t j) (Sending left) (if one || any then Send else Nothing)) (if is_execute (if one || any then Send else Nothing) then e + 1 else e) (Some at)
  follow_sending true any left some by = follow_sends some (by refl)
  follow_sending false true left some by = follow_sends some (by refl)
  follow_sending false false left some by = some

  follow_executing : (one more : Bool) (left last : ℕ) → (left == 1) ≡ one → nat_le (suc e) rows ≡ more → IsFollowerBy t rows leader j left e last → at ≤ last + tmax_of t j →
      IsFollowing t rows leader j (phase_after (send_of t j) (execute_of t j) (Executing left) (if one && more then Execute else Nothing)) (if is_execute (if one && more then Execute else Nothing) then e + 1 else e) (Some at)
  follow_executing true true left last is is_more f due = omega arith
  follow_executing true false left last is is_more f due =
      let row : rows < suc e = leb-false (suc e) rows is_more in
      rw is (record { some = f.some; counts = omega arith; by = λ k same r. absurd (omega arith) })
  follow_executing false more left last is is_more f due =
      let ne : left ≢ 1 = eqb_ne left 1 is in
      let some : 1 ≤ left = f.counts in
      rw is (record {
        some = f.some;
        counts = omega arith;
        by = λ k same r.
            let by : last + left * tmax_of t j ≤ second_by t leader j + k * time_based_cycle t leader = f.by k same r in
            count_up left (tmax_of t j) last at (second_by t leader j + k * time_based_cycle t leader) some ne by due;
      })

  pub follow_woken : (phase : Phase) (last : Option ℕ) (every any acks : Bool) → IsFollowing t rows leader j phase e last → at ≤ after_last last (tmax_of t j) →
      (deed_of phase every any acks (nat_le (suc e) rows) ≡ Send → (k : ℕ) → e ≡ suc k → at ≤ leader_sent_by t leader k + (tmax_of t j + dmax_of t leader j)) →
      IsFollowing t rows leader j (phase_after (send_of t j) (execute_of t j) phase (deed_of phase every any acks (nat_le (suc e) rows)))
      (if is_execute (deed_of phase every any acks (nat_le (suc e) rows)) then e + 1 else e) (Some at)
  follow_woken Wait last every any acks h due by = absurd h
  follow_woken Ready last every any acks h due by = absurd h
  follow_woken First None every any acks h due by = follow_first (nat_le (suc e) rows) refl h
  follow_woken First (Some last) every any acks h due by = follow_idle (nat_le (suc e) rows) refl h.0 h.1
  follow_woken (Sending left) last every any acks h due by = follow_sending (left == 1) any left h by
  follow_woken (Executing left) None every any acks h due by = absurd h
  follow_woken (Executing left) (Some last) every any acks h due by = follow_executing (left == 1) (nat_le (suc e) rows) left last refl refl h due

-- how far node j has come by its next deadline
abbrev pub HasCome : Timing → (leader j h e : ℕ) → Type 0
HasCome t leader j h e = (e ≡ 0 → h < tmax_of t j) × ((k : ℕ) → e ≡ suc k → h < second_by t leader j + k * time_based_cycle t leader)

pub open_come : (t : Timing) (rows leader j h e : ℕ) (phase : Phase) (last : Option ℕ) → Opens t rows j phase e last → e < rows → h < after_last last (tmax_of t j) → h < leader_sent_by t leader 0 → HasCome t leader j h e
open_come t rows leader j h e Wait last o row due lead = absurd o
open_come t rows leader j h e Ready last o row due lead = absurd o
open_come t rows leader j h e First None o row due lead = (λ is. due, λ k is. absurd (omega arith))
open_come t rows leader j h e First (Some last) o row due lead = absurd (omega (arith, o.1))
open_come t rows leader j h e (Sending left) None o row due lead = absurd o
open_come t rows leader j h e (Sending left) (Some last) o row due lead =
    let one : e ≡ 1 = o.executed_is in
    (λ is. absurd (omega arith), λ k is. omega arith)
open_come t rows leader j h e (Executing left) last o row due lead = absurd o

pub round_come : (s : Shape) (t : Timing) (rows leader j turn start reach h e : ℕ) → reach ≡ tmax_of t j + dmax_of t leader j → start ≤ leader_sent_by t leader turn → (suc turn < rows → h < leader_sent_by t leader (suc turn)) →
    (phase : Phase) (last : Option ℕ) → Stands s t rows turn start reach j phase e last → IsFollowing t rows leader j phase e last → e < rows → h < after_last last (tmax_of t j) → HasCome t leader j h e
round_come s t rows leader j turn start reach h e r begun lead Wait last k f row due = absurd k
round_come s t rows leader j turn start reach h e r begun lead Ready last k f row due = absurd k
round_come s t rows leader j turn start reach h e r begun lead First None k f row due = (λ is. due, λ m is. absurd (omega arith))
round_come s t rows leader j turn start reach h e r begun lead First (Some last) k f row due = absurd k
round_come s t rows leader j turn start reach h e r begun lead (Sending left) None k f row due = absurd k
round_come s t rows leader j turn start reach h e r begun lead (Sending left) (Some last) (inl d) f row due =
    let one : e ≡ suc turn = d.executed_is in
    let within : last + tmax_of t j ≤ start + reach = d.within in (
      λ is. absurd (omega arith),
      λ m is.
          let same : turn ≡ m = omega arith in
          let begun' : start ≤ leader_sent_by t leader m = subst (λ i. start ≤ leader_sent_by t leader i) same begun in
          let d' : (execute_of t j + 1) * tmax_of t j ≡ execute_of t j * tmax_of t j + 1 * tmax_of t j = add-mul (execute_of t j) 1 (tmax_of t j) in
          omega arith,
    )
round_come s t rows leader j turn start reach h e r begun lead (Sending left) (Some last) (inr d) f row due =
    let one : e ≡ suc (suc turn) = d.executed_is in (
      λ is. absurd (omega arith),
      λ m is.
          let same : suc turn ≡ m = omega arith in
          let lead' : h < leader_sent_by t leader m = subst (λ i. h < leader_sent_by t leader i) same (lead d.row) in
          omega arith,
    )
round_come s t rows leader j turn start reach h e r begun lead (Executing left) None k f row due = absurd k
round_come s t rows leader j turn start reach h e r begun lead (Executing left) (Some last) k f row due =
    let some : tmax_of t j ≤ left * tmax_of t j = some_left left (tmax_of t j) f.counts in
    let one : 1 ≤ e = f.some in
    (λ is. absurd (omega arith), λ m is. let by : last + left * tmax_of t j ≤ second_by t leader j + m * time_based_cycle t leader = f.by m is row in omega arith)

pub come_bound : (b c : Bool) (h first second cycle e : ℕ) → nat_lt h first ≡ b → nat_lt h second ≡ c → 1 ≤ cycle → (e ≡ 0 → h < first) × ((k : ℕ) → e ≡ suc k → h < second + k * cycle) →
    (if b then 0 else (if c then 1 else (h - second) / cycle + 2)) ≤ e
come_bound true c h first second cycle e is is' some k = omega arith
come_bound false c h first second cycle zero is is' some k = let le : first ≤ h = ltb-false h first is in let lt : h < first = k.0 refl in absurd (omega arith)
come_bound false true h first second cycle (suc e) is is' some k = omega arith
come_bound false false h first second cycle (suc e) is is' some k =
    let le : second ≤ h = ltb-false h second is' in
    let lt : h < second + e * cycle = k.1 e refl in
    let q : (h - second) / cycle + 1 ≤ e = quotient (h - second) cycle e some (omega arith) in
    omega arith
