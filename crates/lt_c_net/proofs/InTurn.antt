-- A channel has delivered all messages but the one that an activation sends on it.
use Rattle.std.proofs.Common.{◌≡◌, ℕ, ◌+◌, ◌≤◌, Bool, true, false, not, List, [], ◌∷◌, ◌++◌, length, refl, sym, ap, ◌∙◌, subst, arith}
use Rattle.std.specs.Prelude.{◌&&◌, ◌==◌}
use Rattle.lt_arch.specs.declared.event.Event.{Event}
use Rattle.lt_arch.specs.declared.event.Event.TheVariants.{Act}
use Rattle.lt_arch.specs.declared.event.Deed.TheVariants.{Execute}
use Rattle.lt_arch.specs.declared.shape.Shape.{Shape}
use Rattle.lt_arch.specs.declared.timing.Timing.{Timing}
use Rattle.lt_arch.specs.declared.timing.Protocol.TheVariants.{BackPressure}
use Rattle.lt_arch.specs.State.{State, start, sent_of, executed_of}
use Rattle.lt_arch.specs.Readers.{from_of, carries_data, is_back_pressure}
use Rattle.lt_arch.specs.Deeds.{deed_at}
use Rattle.lt_arch.specs.Step.{after, sends_on}
use Rattle.lt_arch.specs.Schedule.{after_all, reached}
use Rattle.lt_arch.proofs.Changes.{one_if, transit-act, send_sends}
use Rattle.lt_bp.proofs.Balance.{IsBalanced, kept_all, balanced-start}
use Rattle.lt_net.proofs.Counts.{counted}
use Rattle.lt_net_bench.proofs.Entries.{same_number}
use Rattle.lt_c_net.specs.Turns.{MessagesInTurn}

one_later : (s : Shape) (t : Timing) (rows : ℕ) (st : State) (es : List Event) (e : Event) → after_all s t rows st (es ++ e ∷ []) ≡ after s t rows (after_all s t rows st es) e
one_later s t rows st [] e = refl
one_later s t rows st (x ∷ es) e = one_later s t rows (after s t rows st x) es e

-- under back-pressure an execution sends acknowledgements
acks_sent : (s : Shape) (t : Timing) (n c : ℕ) → carries_data s c ≡ false → from_of s c ≡ n → t.protocol ≡ BackPressure → sends_on s t n Execute c ≡ true
acks_sent s t n c is from bp =
    (λ i. is_back_pressure (bp i) && ((from_of s c == n) && not (is i)))
    ∙ ap (λ k. (k == n) && true) from ∙ ap (λ (b : Bool). b && true) (same_number n)

pub messages_in_turn : MessagesInTurn
messages_in_turn s t rows es n at c lt from timely free one =
    let st : State = reached s t rows es in
    let all : List Event = es ++ Act n at ∷ [] in
    let st' : State = reached s t rows all in
    let later : st' ≡ after s t rows st (Act n at) = one_later s t rows (start t.protocol) es (Act n at) in
    let most : length (st'.chan c).transit ≤ 1 = (one all timely free).one c lt in
    let grown : length (st'.chan c).transit ≡ length (st.chan c).transit + one_if (sends_on s t n (deed_at s rows st n) c) = ap (λ (z : State). length (z.chan c).transit) later ∙ transit-act s t rows st n at c in (
      λ carries deed.
          let sends : sends_on s t n (deed_at s rows st n) c ≡ true = ap (λ d. sends_on s t n d c) deed ∙ send_sends s t n c carries from in
          let some : length (st'.chan c).transit ≡ length (st.chan c).transit + 1 = grown ∙ ap (λ (b : Bool). length (st.chan c).transit + one_if b) sends in
          let total : (st'.chan c).delivered + length (st'.chan c).transit ≡ sent_of st' n = (counted s t rows all free).sent c carries ∙ ap (sent_of st') from in
          omega (arith, most, some, total),
      λ ack bp deed.
          let sends : sends_on s t n (deed_at s rows st n) c ≡ true = ap (λ d. sends_on s t n d c) deed ∙ acks_sent s t n c ack from bp in
          let some : length (st'.chan c).transit ≡ length (st.chan c).transit + 1 = grown ∙ ap (λ (b : Bool). length (st.chan c).transit + one_if b) sends in
          let balanced : IsBalanced s st' = kept_all s t rows bp (start t.protocol) all (subst (λ p. IsBalanced s (start p)) (sym bp) (balanced-start s)) free in
          let total : (st'.chan c).delivered + length (st'.chan c).transit ≡ executed_of st' n = balanced.acked c lt ack ∙ ap (executed_of st') from in
          omega (arith, most, some, total),
    )
