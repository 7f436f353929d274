-- A list without an offence has few events.
use Rattle.std.proofs.Common.{◌≡◌, ℕ, suc, ◌+◌, ◌*◌, ◌/◌, ◌<◌, ◌≤◌, Bool, true, false, ◌&&◌, ◌||◌, ◌==◌, List, [], ◌∷◌, length, Option, Some, None, is_some, refl, sym, subst, arith}
use Rattle.std.specs.Prelude.{nat_le, if◌then◌else◌}
use Rattle.std.specs.List.{All}
use Rattle.std.proofs.lemmas.List.Elements.{All-head, All-tail}
use Rattle.lt_arch.specs.declared.event.Deed.TheVariants.{Nothing, Execute, Send}
use Rattle.lt_arch.specs.declared.event.Event.{Event}
use Rattle.lt_arch.specs.declared.event.Event.TheVariants.{Act, Del, End}
use Rattle.lt_arch.specs.declared.shape.Shape.{Shape}
use Rattle.lt_arch.specs.declared.timing.Timing.{Timing}
use Rattle.lt_arch.specs.State.{Phase, Wait, Ready, First, Sending, Executing, NodeState, ChanState, State, start, executed_of, sent_of}
use Rattle.lt_arch.specs.Readers.{node_count, chan_count, from_of, to_of, tmin_of, dmin_of, carries_data}
use Rattle.lt_arch.specs.Deeds.{deed_of, deed_at, more, all_in, any_in, all_ack}
use Rattle.lt_arch.specs.Step.{offence_of, after, too_early, with_delivered, is_execute, updated, woken}
use Rattle.lt_arch.specs.Schedule.{after_all, reached, HasNoOffence, IsPlacedIn, IsOnePlace}
use Rattle.lt_arch.proofs.Changes.{IsBy, is_by-later, at_updated, updated-here, delivered-act}
use Rattle.lt_arch.proofs.Facts.{clear}
use Rattle.lt_spaced.specs.Spaced.{IsLeastPeriod, EventsAreFew}
use Rattle.lt_spaced.proofs.Sums.{sum_below, sum_more, sum_one_more, sum_at_most, sum_zero}
use Rattle.lt_spaced.proofs.Turns.{turns, ends, period_at_most, turn_more}

-- ---- a state counts its events

abbrev activations : Shape → (least : ℕ) → State → ℕ
activations s least st = sum_below (λ n. turns least (st.node n).last) (node_count s)

abbrev deliveries : Shape → State → ℕ
deliveries s st = sum_below (λ c. (st.chan c).delivered) (chan_count s)

abbrev counted : Shape → (least : ℕ) → State → ℕ
counted s least st = activations s least st + deliveries s st + ends st.horizon

-- the list after an end is over
open_before : (h : Option ℕ) → is_some h ≡ false → ends h ≡ 0
open_before None is = refl
open_before (Some h) is = absurd cc

-- what was there for the oldest message is one more
one_delivered : (ch : ChanState) (c dmin at : ℕ) (transit : List ℕ) → too_early c dmin at transit ≡ None → ch.delivered + 1 ≤ (with_delivered ch transit).delivered
one_delivered ch c dmin at [] own = absurd cc
one_delivered ch c dmin at (sent ∷ later) own = omega arith

module _ (s : Shape) (t : Timing) (rows least : ℕ) (spaced : IsLeastPeriod s t least) where
  activation_counts : (st : State) (n at : ℕ) → n < node_count s → offence_of s t st (Act n at) ≡ None → counted s least st + 1 ≤ counted s least (after s t rows st (Act n at))
  unfolding after
  activation_counts st n at low free =
      let own = (clear s t st (Act n at) free).own in
      let turn : turns least (st.node n).last + 1 ≤ turns least (Some at) = turn_more least n (tmin_of t n) at (st.node n).last spaced.0 (spaced.1 n low) own in
      let next : ℕ → NodeState = updated st.node n (woken s t rows st n at) in
      let here : next n ≡ woken s t rows st n at = updated-here st.node n (woken s t rows st n at) n refl in
      let one : turns least (st.node n).last + 1 ≤ turns least (next n).last = subst (λ (v : NodeState). turns least (st.node n).last + 1 ≤ turns least v.last) (sym here) turn in
      let each : (i : ℕ) → turns least (st.node i).last ≤ turns least (next i).last =
      at_updated (λ i v. turns least (st.node i).last ≤ turns least v.last) st.node n (woken s t rows st n at) (omega (arith, turn)) (λ i ne. omega arith) in
      let acts = sum_one_more (λ i. turns least (st.node i).last) (λ i. turns least (next i).last) (node_count s) n low each one in
      let dels = sum_more (λ c. (st.chan c).delivered) (λ c. ((after s t rows st (Act n at)).chan c).delivered) (chan_count s) (λ c. (let same = delivered-act s t rows st n at c in omega (arith, same))) in
      omega (arith, acts, dels)

  delivery_counts : (st : State) (c at : ℕ) → c < chan_count s → offence_of s t st (Del c at) ≡ None → counted s least st + 1 ≤ counted s least (after s t rows st (Del c at))
  unfolding after
  delivery_counts st c at low free =
      let own = (clear s t st (Del c at) free).own in
      let taken : ChanState = with_delivered (st.chan c) (st.chan c).transit in
      let next : ℕ → ChanState = updated st.chan c taken in
      let here : next c ≡ taken = updated-here st.chan c taken c refl in
      let more : (st.chan c).delivered + 1 ≤ taken.delivered = one_delivered (st.chan c) c (dmin_of t (from_of s c) (to_of s c)) at (st.chan c).transit own in
      let one : (st.chan c).delivered + 1 ≤ (next c).delivered = subst (λ (v : ChanState). (st.chan c).delivered + 1 ≤ v.delivered) (sym here) more in
      let each : (i : ℕ) → (st.chan i).delivered ≤ (next i).delivered = at_updated (λ i v. (st.chan i).delivered ≤ v.delivered) st.chan c taken (omega (arith, more)) (λ i ne. omega arith) in
      let dels = sum_one_more (λ i. (st.chan i).delivered) (λ i. (next i).delivered) (chan_count s) c low each one in
      omega (arith, dels)

  end_counts : (st : State) (at : ℕ) → offence_of s t st (End at) ≡ None → counted s least st + 1 ≤ counted s least (after s t rows st (End at))
  unfolding after
  end_counts st at free = let none = open_before st.horizon (clear s t st (End at) free).unended in omega (arith, none)

  event_counts : (st : State) (e : Event) → IsPlacedIn s e → offence_of s t st e ≡ None → counted s least st + 1 ≤ counted s least (after s t rows st e)
  event_counts st (Act n at) there free = activation_counts st n at there free
  event_counts st (Del c at) there free = delivery_counts st c at there free
  event_counts st (End at) there free = end_counts st at free

  all_count : (st : State) (es : List Event) → All (IsPlacedIn s) es → HasNoOffence s t rows st es → counted s least st + length es ≤ counted s least (after_all s t rows st es)
  all_count st [] there free = omega arith
  all_count st (e ∷ es) there free =
      let first = event_counts st e (All-head (IsPlacedIn s) e es there) free.0 in
      let rest = all_count (after s t rows st e) es (All-tail (IsPlacedIn s) e es there) free.1 in
      omega (arith, first, rest)

  start_counts : counted s least (start t.protocol) ≡ 0
  start_counts = let acts = sum_zero (node_count s) in let dels = sum_zero (chan_count s) in omega (arith, acts, dels)

-- ---- what a state that was reached has

-- no node executes more than all rows
abbrev ExecutesRows : (rows : ℕ) → State → Type 0
ExecutesRows rows st = (n : ℕ) → executed_of st n ≤ rows

-- no activation is after the latest event, and the end is the latest
record IsBehind (st : State) : Type 0 where
  lasts : (n : ℕ) → IsBy (st.node n).last st.latest
  over : (h : ℕ) → st.horizon ≡ Some h → st.latest ≡ Some h

execute_left : (phase : Phase) (ins some acks left : Bool) → is_execute (deed_of phase ins some acks left) ≡ true → left ≡ true
execute_left Wait true some acks true is = refl
execute_left Wait true some acks false is = absurd cc
execute_left Wait false some acks left is = absurd cc
execute_left Ready ins some true left is = absurd cc
execute_left Ready ins some false left is = absurd cc
execute_left First ins some acks true is = refl
execute_left First ins some acks false is = absurd cc
execute_left (Sending k) ins some acks left is = sends (k == 1) some is
  where
    sends : (a b : Bool) → is_execute (if a || b then Send else Nothing) ≡ true → left ≡ true
    sends true b h = absurd cc
    sends false true h = absurd cc
    sends false false h = absurd cc
execute_left (Executing k) ins some acks left is = by (k == 1) left is
  where
    by : (a l : Bool) → is_execute (if a && l then Execute else Nothing) ≡ true → l ≡ true
    by true true h = refl
    by true false h = absurd cc
    by false l h = absurd cc

-- an instant that is executed has a row
row_left : (executed rows : ℕ) (b : Bool) → (b ≡ true → nat_le (suc executed) rows ≡ true) → executed ≤ rows → (if b then executed + 1 else executed) ≤ rows
row_left executed rows true left le = let more = left refl in grind (arith, more)
row_left executed rows false left le = le

not_over : (o : Option ℕ) (h : ℕ) → o ≡ Some h → is_some o ≡ false → ⊥
not_over None h is no_end = absurd cc
not_over (Some k) h is no_end = absurd cc

module _ (s : Shape) (t : Timing) (rows : ℕ) where
  rows_kept : (st : State) (e : Event) → ExecutesRows rows st → ExecutesRows rows (after s t rows st e)
  unfolding after
  rows_kept st (Act n at) few =
      let left = execute_left (st.node n).phase (all_in s st n) (any_in s st n) (all_ack s st n) (more rows st n) in
      let here : (woken s t rows st n at).executed ≤ rows = row_left (executed_of st n) rows (is_execute (deed_at s rows st n)) left (few n) in
      at_updated (λ i v. v.executed ≤ rows) st.node n (woken s t rows st n at) here (λ i ne. few i)
  rows_kept st (Del c at) few = few
  rows_kept st (End at) few = few

  rows_all : (st : State) (es : List Event) → ExecutesRows rows st → ExecutesRows rows (after_all s t rows st es)
  rows_all st [] few = few
  rows_all st (e ∷ es) few = rows_all (after s t rows st e) es (rows_kept st e few)

  behind_kept : (st : State) (e : Event) → IsBehind st → offence_of s t st e ≡ None → IsBehind (after s t rows st e)
  unfolding after
  behind_kept st (Act n at) old free =
      let passed = clear s t st (Act n at) free in
      record {
        lasts = at_updated (λ i v. IsBy v.last (Some at)) st.node n (woken s t rows st n at) (omega arith) (λ i ne. is_by-later (st.node i).last st.latest at (old.lasts i) passed.forward);
        over = λ h is. absurd (not_over st.horizon h is passed.unended);
      }
  behind_kept st (Del c at) old free =
      let passed = clear s t st (Del c at) free in
      record { lasts = λ i. is_by-later (st.node i).last st.latest at (old.lasts i) passed.forward; over = λ h is. absurd (not_over st.horizon h is passed.unended) }
  behind_kept st (End at) old free =
      let passed = clear s t st (End at) free in
      record { lasts = λ i. is_by-later (st.node i).last st.latest at (old.lasts i) passed.forward; over = λ h is. is }

  behind_all : (st : State) (es : List Event) → IsBehind st → HasNoOffence s t rows st es → IsBehind (after_all s t rows st es)
  behind_all st [] old free = old
  behind_all st (e ∷ es) old free = behind_all (after s t rows st e) es (behind_kept st e old free.0) free.1

  start_behind : IsBehind (start t.protocol)
  start_behind = record { lasts = λ n. tt; over = λ h is. absurd cc }

-- ---- the count

turns_at_most : (least horizon : ℕ) (last : Option ℕ) → 0 < least → IsBy last (Some horizon) → turns least last ≤ horizon / least + 1
turns_at_most least horizon None some by = omega arith
turns_at_most least horizon (Some at) some by = let le = period_at_most least at horizon some by in omega (arith, le)

ends_at_most : (h : Option ℕ) → ends h ≤ 1
ends_at_most None = omega arith
ends_at_most (Some h) = omega arith

delivered_at_most : (s : Shape) (rows : ℕ) (st : State) → IsOnePlace s st → ExecutesRows rows st → (c : ℕ) → c < chan_count s → (st.chan c).delivered ≤ rows + 1
delivered_at_most s rows st place few c low = by (carries_data s c) refl
  where
    by : (b : Bool) → carries_data s c ≡ b → (st.chan c).delivered ≤ rows + 1
    by true is = let high = place.data_high c low is in let le = few (to_of s c) in omega (arith, high, le)
    by false is =
        let high = place.ack_high c low is in
        let le = few (to_of s c) in
        let sent : sent_of st (to_of s c) ≤ executed_of st (to_of s c) = omega arith in
        omega (arith, high, le, sent)

pub few : EventsAreFew
few s t rows horizon least es one_place spaced there timely free ends_at =
    let st : State = reached s t rows es in
    let all = all_count s t rows least spaced (start t.protocol) es there free in
    let none = start_counts s t rows least spaced in
    let behind : IsBehind st = behind_all s t rows (start t.protocol) es (start_behind s t rows) free in
    let latest : st.latest ≡ Some horizon = behind.over horizon ends_at in
    let executes : ExecutesRows rows st = rows_all s t rows (start t.protocol) es (λ n. omega arith) in
    let acts : activations s least st ≤ node_count s * (horizon / least + 1) =
    sum_at_most (λ n. turns least (st.node n).last) (node_count s) (horizon / least + 1)
    (λ n low. turns_at_most least horizon (st.node n).last spaced.0 (subst (λ (l : Option ℕ). IsBy (st.node n).last l) latest (behind.lasts n))) in
    let dels : deliveries s st ≤ chan_count s * (rows + 1) =
    sum_at_most (λ c. (st.chan c).delivered) (chan_count s) (rows + 1) (delivered_at_most s rows st (one_place es timely free) executes) in
    let over = ends_at_most st.horizon in
    omega (arith, all, none, acts, dels, over)
