-- What is sent again, and how many instants were sent, after an activation.
use Rattle.std.proofs.Common.{◌≡◌, ◌≢◌, inl, inr, ℕ, suc, ◌+◌, ◌-◌, ◌<◌, ◌≤◌, Bool, true, false, List, [], length, refl, sym, ap, ◌∙◌, subst, cond, arith, add-zero}
use Rattle.std.specs.Prelude.{slice_index_or, ◌==◌, ◌&&◌, if◌then◌else◌}
use Rattle.std.proofs.lemmas.Bool.Decides.{eqb_tells}
use Rattle.std.proofs.lemmas.List.{get_or-set_same, get_or-set_other}
use Rattle.lt_base.specs.declared.value.Value.{Value}
use Rattle.lt_arch.specs.declared.event.Deed.{Deed}
use Rattle.lt_arch.specs.declared.event.Deed.TheVariants.{Nothing, Execute, Send}
use Rattle.lt_arch.specs.declared.event.Event.TheVariants.{Act}
use Rattle.lt_arch.specs.State.{executed_of, sent_of, unsent}
use Rattle.lt_arch.specs.Readers.{node_count, chan_count, from_of, to_of, carries_data}
use Rattle.lt_arch.specs.Deeds.{deed_at, phase_at, data_from}
use Rattle.lt_arch.specs.Step.{is_execute, is_send, woken}
use Rattle.lt_lossy.specs.declared.event.LossyEvent.TheVariants.{Plain}
use Rattle.lt_lossy.specs.State.{LossyState, plain_of, sent_count}
use Rattle.lt_lossy.specs.Step.{lossy_after}
use Rattle.lt_lossy.proofs.Balance.{woke-n, sent-woken}
use Rattle.lt_lossy.proofs.Changes.{node-act_here}
use Rattle.lt_net_bench.specs.Changes.{ActsOn}
use Rattle.lt_net_bench.specs.Standing.{HasOwnValues}
use Rattle.lt_net_bench.proofs.Activated.{plus_none}
use Rattle.lt_net_bench.proofs.Entries.{and_parts, same_number}
use Rattle.lt_net_lossy.specs.Changes.{Posts, posts_on, sent_after}
use Rattle.lt_net_lossy.specs.Net.{LossyBenchState, LossyLists, lossy_state_of}
use Rattle.lt_net_lossy.specs.Stands.{StandsLossy}
use Rattle.lt_net_lossy.specs.Event.{PassesLossy}
use Rattle.lt_net_lossy.specs.Kept.{HasLossySizes}
use Rattle.lt_net_lossy.proofs.Reached.{acts_on, balanced, unsent_most}
use Rattle.lt_machine.specs.declared.machine.Machine.{Ghosts as Machines}
use Rattle.lt_arch.specs.declared.controller.Controller.{Ghosts as Controls}

pub sent_entry : (sent : List ℕ) (n i : ℕ) (deed : Deed) → n < length sent → slice_index_or (sent_after sent n deed) i 0 ≡ slice_index_or sent i 0 + cond ((i == n) && is_send deed) 1 0
sent_entry sent n i deed lt = elim (eqb_tells i n) [
  | inl e ↦ subst (λ i. slice_index_or (sent_after sent n deed) i 0 ≡ slice_index_or sent i 0 + cond ((i == n) && is_send deed) 1 0) (sym e.1) (here deed)
  | inr e ↦ other deed e.1 ∙ ap (λ b. slice_index_or sent i 0 + cond (b && is_send deed) 1 0) (sym (e.0))
]
  where
    here : (deed : Deed) → slice_index_or (sent_after sent n deed) n 0 ≡ slice_index_or sent n 0 + cond ((n == n) && is_send deed) 1 0
    here Nothing = sym (add-zero _) ∙ ap (λ b. slice_index_or sent n 0 + cond (b && false) 1 0) (sym (same_number n))
    here Execute = sym (add-zero _) ∙ ap (λ b. slice_index_or sent n 0 + cond (b && false) 1 0) (sym (same_number n))
    here Send = get_or-set_same sent n (slice_index_or sent n 0 + 1) 0 lt ∙ ap (λ b. slice_index_or sent n 0 + cond (b && true) 1 0) (sym (same_number n))

    other : (deed : Deed) → i ≢ n → slice_index_or (sent_after sent n deed) i 0 ≡ slice_index_or sent i 0 + cond (false && is_send deed) 1 0
    other Nothing ne = sym (add-zero _)
    other Execute ne = sym (add-zero _)
    other Send ne = get_or-set_other sent n i (slice_index_or sent n 0 + 1) 0 ne ∙ sym (add-zero _)

-- a node that sends has then sent all that it has executed
all_sent : (e u e' u' : ℕ) → e ≡ e' → u ≤ 1 → e' - u' ≡ (e - u) + 1 → (e - u) + 1 ≤ e → e' - u' ≡ e
all_sent e u e' u' same most grew less = omega (arith, same, most, grew, less)

module _ {C M : Type 0} (ctl : Controls C) (mch : Machines M) (net : LossyBenchState C M) (ls : LossyLists) (s : StandsLossy ctl mch net ls) (sized : HasLossySizes net)
    (n at : ℕ) (passes : PassesLossy net ls (Plain (Act n at))) (nb : n < node_count net.shape) where
  abbrev deed : Deed
  deed = deed_at net.shape net.rows (plain_of (lossy_state_of net ls)) n

  abbrev acted_state : LossyState
  acted_state = lossy_after net.shape net.timing net.rows (lossy_state_of net ls) (Plain (Act n at))

  acts : ActsOn n deed (phase_at net.shape net.timing net.rows (plain_of (lossy_state_of net ls)) n) (plain_of (lossy_state_of net ls)) (plain_of acted_state)
  acts = acts_on net.shape net.timing net.watch.limit net.rows (lossy_state_of net ls) (balanced ctl mch net ls s) n at

  pub sent_next : (i : ℕ) → i < node_count net.shape → slice_index_or (sent_after net.sent n deed) i 0 ≡ sent_count (acted_state.node i)
  sent_next i lt = sent_entry net.sent n i deed (omega (arith, nb, sized.sent)) ∙ ap (λ k. k + cond ((i == n) && is_send deed) 1 0) (s.sent i lt) ∙ sym (acts.sent i)

  -- the node that sends has executed as many instants
  executed_all : is_send deed ≡ true → sent_count (acted_state.node n) ≡ executed_of (plain_of (lossy_state_of net ls)) n
  executed_all on =
      let st = lossy_state_of net ls in
      let inv = balanced ctl mch net ls s in
      let is : deed ≡ Send = only_send deed on in
      let w = woken net.shape net.timing net.rows (plain_of (lossy_state_of net ls)) n at in
      let here : acted_state.node n ≡ w = node-act_here net.shape net.timing net.rows st n at n refl in
      ap sent_count here ∙ all_sent (st.node n).executed (unsent (st.node n).phase) w.executed (unsent w.phase) (sym (ap (λ d. cond (is_execute d) ((st.node n).executed + 1) (st.node n).executed) is)) (unsent_most (st.node n).phase)
      (sent-woken net.shape net.timing net.watch.limit net.rows st inv n at ∙ ap (λ d. sent_count (st.node n) + Rattle.lt_arch.proofs.Changes.one_if (is_send d)) is)
      ((woke-n net.shape net.timing net.watch.limit net.rows st inv n at).needs_acks is).1
    where
      only_send : (d : Deed) → is_send d ≡ true → d ≡ Send
      only_send Nothing h = absurd (cc)
      only_send Execute h = absurd (cc)
      only_send Send h = refl

  -- after a deed other than Execute
  module _ (idle : is_execute deed ≡ false) (posted : List (List Value)) (posts : Posts (posts_on net.shape n deed) net.buffers net.posted posted) where
    entry : (c k : ℕ) → c < chan_count net.shape → carries_data net.shape c ≡ true → sent_count (acted_state.node (from_of net.shape c)) ≡ suc k → (b : Bool) → posts_on net.shape n deed c ≡ b →
        HasOwnValues net.layout net.shape ls.inputs ls.got (from_of net.shape c) (to_of net.shape c) k (if b then slice_index_or net.buffers c [] else slice_index_or net.posted c [])
    entry c k lt carries is true on =
        let parts = and_parts (is_send deed) (data_from net.shape n c) on in
        let from : from_of net.shape c ≡ n = (Rattle.std.proofs.lemmas.Bool.Decides.Decides-eqb (from_of net.shape c) n).0 (and_parts (from_of net.shape c == n) (carries_data net.shape c) parts.1).0 in
        let count : length (ls.inputs (from_of net.shape c)) ≡ suc k =
        ap (λ i. length (ls.inputs i)) from ∙ s.bench.rows n nb ∙ sym (executed_all parts.0) ∙ ap (λ i. sent_count (acted_state.node i)) (sym from) ∙ is in
        s.bench.buffers c k lt carries count
    entry c k lt carries is false off =
        let same : sent_count (acted_state.node (from_of net.shape c)) ≡ sent_count ((lossy_state_of net ls).node (from_of net.shape c)) =
        acts.sent (from_of net.shape c) ∙ ap (λ b. sent_of (plain_of (lossy_state_of net ls)) (from_of net.shape c) + cond b 1 0) (unsent_here (from_of net.shape c == n) (is_send deed) (carries_data net.shape c) carries off) ∙ plus_none _ in
        s.posted c k lt carries (sym same ∙ is)
      where
        unsent_here : (f d b : Bool) → b ≡ true → (d && (f && b)) ≡ false → (f && d) ≡ false
        unsent_here true true b h off = absurd (let q = sym h ∙ off in cc)
        unsent_here true false b h off = refl
        unsent_here false d b h off = refl

    pub posted_next : (c k : ℕ) → c < chan_count net.shape → carries_data net.shape c ≡ true → sent_count (acted_state.node (from_of net.shape c)) ≡ suc k →
        HasOwnValues net.layout net.shape ls.inputs ls.got (from_of net.shape c) (to_of net.shape c) k (slice_index_or posted c [])
    posted_next c k lt carries is =
        subst (λ p. HasOwnValues net.layout net.shape ls.inputs ls.got (from_of net.shape c) (to_of net.shape c) k p) (sym (posts.each c (omega (arith, lt, sized.posted))))
        (entry c k lt carries is (posts_on net.shape n deed c) refl)
