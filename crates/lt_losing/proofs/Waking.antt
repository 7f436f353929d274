-- What a node does when it is activated, by what is held.
use Rattle.std.proofs.Common.{◌≡◌, ℕ, zero, suc, ◌+◌, ◌<◌, List, length, Bool, true, false, not, ◌&&◌, ◌||◌, ◌==◌, nat_lt, nat_le, if◌then◌else◌, inl, inr, refl, sym, ◌∙◌, ap, arith, slice_index_or}
use Rattle.std.proofs.lemmas.Bool.Decides.{eqb_tells}
use Rattle.lt_arch.specs.declared.chan.Chan.{Chan}
use Rattle.lt_arch.specs.declared.shape.Shape.{Shape}
use Rattle.lt_arch.specs.declared.timing.Timing.{Timing}
use Rattle.lt_arch.specs.State.{State, executed_of}
use Rattle.lt_arch.specs.Readers.{node_count, chan_count, chan_of, to_of, carries_data, send_of, execute_of}
use Rattle.lt_arch.specs.Deeds.{deed_of, deed_at, phase_after, all_below, all_in, any_in, all_ack, data_to, ack_to}
use Rattle.lt_arch.specs.Step.{woken, is_execute}
use Rattle.lt_lossy.specs.State.{plain_of}
use Rattle.lt_losing.specs.Losing.{LossyDraw}
use Rattle.lt_losing.specs.Held.{phase_when, all_heard, LossyDrawingStands}
use Rattle.lt_losing.specs.declared.drawing.LossyDrawing.{LossyDrawing}

all_same : (p q : ℕ → Bool) (n : ℕ) → ((c : ℕ) → c < n → p c ≡ q c) → all_below p n ≡ all_below q n
all_same p q zero h = refl
all_same p q (suc n) h = λ i. h n (omega arith) i && all_same p q n (λ c lt. h c (omega arith)) i

-- a channel that leads elsewhere is not asked
asked_same : (to n : ℕ) (carries : Bool) (executed : ℕ → ℕ) (newest : ℕ) → (not ((to == n) && carries) || nat_le (executed n) newest) ≡ (not ((to == n) && carries) || nat_le (executed to) newest)
asked_same to n carries executed newest = elim (eqb_tells to n) [
  | inl e ↦ ap (λ k. not ((to == n) && carries) || nat_le (executed k) newest) (sym e.1)
  | inr e ↦ (λ i. not (e.0 i && carries) || nat_le (executed n) newest) ∙ sym (λ i. not (e.0 i && carries) || nat_le (executed to) newest)
]

module _ (k : LossyDrawing) (s : Shape) (t : Timing) (rows seed : ℕ) (d : LossyDraw) (stands : LossyDrawingStands k s t seed d) (n at : ℕ) (lt : n < node_count s) where
  abbrev st : State
  st = plain_of d.state

  heard_in : all_heard s.channels k.newest.items n (executed_of st n) true (chan_count s) ≡ all_in s st n
  unfolding all_in chan_of
  heard_in = all_same _ _ (chan_count s) (λ c within.
      ap (λ m. not (data_to s n c) || nat_le (executed_of st n) m) (stands.newest c within) ∙ asked_same (to_of s c) n (carries_data s c) (executed_of st) (d.state.link c).newest)

  heard_ack : all_heard s.channels k.newest.items n (executed_of st n) false (chan_count s) ≡ all_ack s st n
  unfolding all_ack chan_of
  heard_ack = all_same _ _ (chan_count s) (λ c within.
      ap (λ m. not (ack_to s n c) || nat_le (executed_of st n) m) (stands.newest c within) ∙ asked_same (to_of s c) n (not (carries_data s c)) (executed_of st) (d.state.link c).newest)

  module _ (channels : List Chan) (newest : List ℕ) (ready : Bool) (executed : ℕ) (channels_is : channels ≡ s.channels) (newest_is : newest ≡ k.newest.items) (ready_is : ready ≡ slice_index_or k.ready.items n false) (executed_is : executed ≡ slice_index_or k.executed.items n 0) where
    phase-is : phase_when ready ≡ (d.state.node n).phase
    phase-is = ap phase_when ready_is ∙ sym (stands.phases n lt)

    count-is : executed ≡ executed_of st n
    count-is = executed_is ∙ stands.executed n lt

    heard-is : (kind : Bool) → all_heard channels newest n executed kind (length channels) ≡ all_heard s.channels k.newest.items n (executed_of st n) kind (chan_count s)
    heard-is kind = λ i. all_heard (channels_is i) (newest_is i) n (count-is i) kind (length (channels_is i))

    deed-is : deed_of (phase_when ready) (all_heard channels newest n executed true (length channels)) (any_in s st n) (all_heard channels newest n executed false (length channels)) (nat_lt executed rows) ≡ deed_at s rows st n
    deed-is = λ i. deed_of (phase-is i) ((heard-is true ∙ heard_in) i) (any_in s st n) ((heard-is false ∙ heard_ack) i) (nat_lt (count-is i) rows)

    pub woken-phase : (result : Bool) → phase_when result ≡ phase_after (send_of t n) (execute_of t n) (phase_when ready)
        (deed_of (phase_when ready) (all_heard channels newest n executed true (length channels)) (any_in s st n) (all_heard channels newest n executed false (length channels)) (nat_lt executed rows))
        → phase_when result ≡ (woken s t rows st n at).phase
    woken-phase result is = is ∙ (λ i. phase_after (send_of t n) (execute_of t n) (phase-is i) (deed-is i))

    pub woken-executed : (result : ℕ) → result ≡ (if is_execute
        (deed_of (phase_when ready) (all_heard channels newest n executed true (length channels)) (any_in s st n) (all_heard channels newest n executed false (length channels)) (nat_lt executed rows))
        then executed + 1 else executed) → result ≡ (woken s t rows st n at).executed
    woken-executed result is = is ∙ (λ i. if is_execute (deed-is i) then count-is i + 1 else count-is i)
