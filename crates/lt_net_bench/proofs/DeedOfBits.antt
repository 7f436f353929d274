-- The deed that the bits give is that of the counts.
use Rattle.std.proofs.Common.{◌≡◌, ℕ, zero, suc, ◌-◌, ◌<◌, ◌≤◌, Bool, true, false, not, List, length, Some, refl, sym, ap, ◌∙◌, subst, arith}
use Rattle.std.specs.Prelude.{◌&&◌, ◌||◌, ◌==◌, nat_lt, slice_index_or}
use Rattle.std.specs.List.{slice_get}
use Rattle.std.proofs.lemmas.Bool.Decides.{Decides-eqb}
use Rattle.std.proofs.lemmas.Option.{slice_get-get_or}
use Rattle.lt_base.specs.declared.value.Value.{Value}
use Rattle.lt_arch.specs.declared.event.Deed.{Deed}
use Rattle.lt_arch.specs.State.{State, executed_of, sent_of, unsent}
use Rattle.lt_arch.specs.Readers.{chan_count, chan_of, to_of, carries_data, is_data, no_chan}
use Rattle.lt_arch.specs.Deeds.{all_below, some_below, all_in, any_in, all_ack, more, deed_of, deed_at, data_to, ack_to, is_fresh}
use Rattle.lt_link.specs.Bits.{bit_of, differ}
use Rattle.lt_link.specs.Inbox.{InboxState, no_inbox}
use Rattle.lt_net_bench.specs.Changes.{IsAhead}
use Rattle.lt_net_node.specs.Freshness.{fresh_or_other, fresh_one, fresh_at}
use Rattle.lt_net_bench.specs.Bench.{BenchState}
use Rattle.lt_net_bench.specs.Standing.{StandsAt}
use Rattle.lt_net_bench.proofs.Bits.{data_fresh, ack_bit_tells, acks_unread}
use Rattle.lt_net_bench.proofs.Entries.{and_parts}
use Rattle.lt_machine.specs.declared.machine.Machine.{Ghosts as Machines}
use Rattle.lt_arch.specs.declared.controller.Controller.{Ghosts as Controls}

pub all_below-same : (p q : ℕ → Bool) (n : ℕ) → ((k : ℕ) → k < n → p k ≡ q k) → all_below p n ≡ all_below q n
all_below-same p q zero h = refl
all_below-same p q (suc n) h =
    let a = h n (omega arith) in
    let b = all_below-same p q n (λ k l. h k (omega arith)) in
    λ i. a i && b i

pub or_same : (x y z : Bool) → (x ≡ true → y ≡ z) → (not x || y) ≡ (not x || z)
or_same true y z h = h refl
or_same false y z h = refl

pub and_right : (a b : Bool) → (a && b) ≡ true → b ≡ true
and_right true b h = h
and_right false b h = absurd (cc)

some_below-same : (p q : ℕ → Bool) (n : ℕ) → ((k : ℕ) → k < n → p k ≡ q k) → some_below p n ≡ some_below q n
some_below-same p q zero h = refl
some_below-same p q (suc n) h =
    let a = h n (omega arith) in
    let b = some_below-same p q n (λ k l. h k (omega arith)) in
    λ i. a i || b i

and_same : (x y z : Bool) → (x ≡ true → y ≡ z) → (x && y) ≡ (x && z)
and_same true y z h = h refl
and_same false y z h = refl

not_true : (b : Bool) → not b ≡ true → b ≡ false
not_true true h = absurd (cc)
not_true false h = refl

module _ {C M : Type 0} (ctl : Controls C) (mch : Machines M) (p : BenchState C M) (st : State) (inputs got : ℕ → List (List Value))
    (s : StandsAt ctl mch p st inputs got) (one : IsAhead p.shape st) (inboxes : length p.inboxes ≡ chan_count p.shape)
    (counted : (n : ℕ) → unsent (st.node n).phase ≤ (st.node n).executed) where
  data_at : (c : ℕ) → c < chan_count p.shape → carries_data p.shape c ≡ true → fresh_at p.inboxes c ≡ is_fresh p.shape st c
  data_at c h data_too =
      let b : InboxState = slice_index_or p.inboxes c no_inbox in
      let at : slice_get p.inboxes c ≡ Some b = slice_get-get_or p.inboxes c no_inbox (omega (arith, h, inboxes)) in
      let e = executed_of st (to_of p.shape c) in
      let d = (st.chan c).delivered in
      (λ i. differ (s.bits c b at i) (s.data_reads c b at data_too i))
      ∙ ap (λ x. differ (bit_of x) (bit_of (suc e))) (s.messages c h)
      ∙ data_fresh e d (one.data_low c h data_too) (one.data_high c h data_too)

  at_channel : (n c : ℕ) → c < chan_count p.shape → fresh_or_other p.shape.channels p.inboxes n true c ≡ (not (data_to p.shape n c) || is_fresh p.shape st c)
  unfolding chan_of
  at_channel n c h = or_same (data_to p.shape n c) _ _ (λ t. data_at c h (and_right ((slice_index_or p.shape.channels c no_chan).to == n) (is_data (slice_index_or p.shape.channels c no_chan).kind) t))

  -- what the code computes from bits is what the deeds read
  pub bits_are_all_in : (n : ℕ) → all_below (fresh_or_other p.shape.channels p.inboxes n true) (length p.shape.channels) ≡ all_in p.shape st n
  unfolding all_in
  bits_are_all_in n = all_below-same _ _ (chan_count p.shape) (at_channel n)

  pub bits_are_any_in : (n : ℕ) → some_below (fresh_one p.shape.channels p.inboxes n true) (length p.shape.channels) ≡ any_in p.shape st n
  unfolding any_in chan_of
  bits_are_any_in n = some_below-same _ _ (chan_count p.shape) (λ c h. and_same (data_to p.shape n c) _ _ (λ t. data_at c h (and_right ((slice_index_or p.shape.channels c no_chan).to == n) (is_data (slice_index_or p.shape.channels c no_chan).kind) t)))

  -- where the node has executed and not yet sent
  ack_at : (n c : ℕ) → unsent (st.node n).phase ≡ 1 → c < chan_count p.shape → carries_data p.shape c ≡ false → to_of p.shape c ≡ n → fresh_at p.inboxes c ≡ is_fresh p.shape st c
  ack_at n c waits h ack to =
      let b : InboxState = slice_index_or p.inboxes c no_inbox in
      let at : slice_get p.inboxes c ≡ Some b = slice_get-get_or p.inboxes c no_inbox (omega (arith, h, inboxes)) in
      let some = counted n in
      let here : (st.node n).executed ≡ suc (sent_of st n) = minus_one _ _ waits some in
      (λ i. differ (s.bits c b at i) (s.ack_reads c b at ack i))
      ∙ ap (λ x. differ (bit_of x) (bit_of (sent_of st (to_of p.shape c)))) (s.messages c h)
      ∙ ack_bit_tells p.shape st one c h ack (subst (λ i. (st.node i).executed ≡ suc (sent_of st i)) (sym to) here)
    where
      minus_one : (e u : ℕ) → u ≡ 1 → u ≤ e → e ≡ suc (e - u)
      minus_one e u is h = let f : e ≡ suc (e - 1) = omega (arith, is, h) in f ∙ ap (λ x. suc (e - x)) (sym is)

  bits_are_all_ack : (n : ℕ) → unsent (st.node n).phase ≡ 1 → all_below (fresh_or_other p.shape.channels p.inboxes n false) (length p.shape.channels) ≡ all_ack p.shape st n
  unfolding all_ack chan_of
  bits_are_all_ack n waits = all_below-same _ _ (chan_count p.shape) (λ c h. or_same (ack_to p.shape n c) _ _ (λ t.
      let parts = and_parts ((slice_index_or p.shape.channels c no_chan).to == n) (not (is_data (slice_index_or p.shape.channels c no_chan).kind)) t in
      ack_at n c waits h (not_true (is_data (slice_index_or p.shape.channels c no_chan).kind) parts.1) ((Decides-eqb (slice_index_or p.shape.channels c no_chan).to n).0 parts.0)))

  -- the deed
  pub deed_is : (n executed : ℕ) (control : C) (deed : Deed) (ins some acks rest : Bool) → ctl.phase control ≡ (st.node n).phase → executed ≡ (st.node n).executed →
      ins ≡ all_below (fresh_or_other p.shape.channels p.inboxes n true) (length p.shape.channels) →
      some ≡ some_below (fresh_one p.shape.channels p.inboxes n true) (length p.shape.channels) →
      acks ≡ all_below (fresh_or_other p.shape.channels p.inboxes n false) (length p.shape.channels) →
      rest ≡ nat_lt executed p.rows → deed ≡ deed_of (ctl.phase control) ins some acks rest → deed ≡ deed_at p.shape p.rows st n
  deed_is n executed control deed ins some acks rest ph ex is_in is_some is_acks is_left is =
      is
      ∙ (λ i. deed_of (ph i) ((is_in ∙ bits_are_all_in n) i) ((is_some ∙ bits_are_any_in n) i) acks ((is_left ∙ ap (λ e. nat_lt e p.rows) ex) i))
      ∙ acks_unread (st.node n).phase (all_in p.shape st n) (any_in p.shape st n) acks (all_ack p.shape st n) (more p.rows st n)
      (λ waits. is_acks ∙ bits_are_all_ack n waits)
