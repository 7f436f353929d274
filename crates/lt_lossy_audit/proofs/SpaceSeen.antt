-- An activation without an offence finds room for the messages that it sends.
use Rattle.std.proofs.Common.{◌≡◌, ◌∙◌, ℕ, ◌<◌, ◌≤◌, ◌≢◌, Bool, true, false, List, [], ◌∷◌, ◌++◌, length, None, refl, sym, ap, subst, arith, slice_index_or}
use Rattle.std.proofs.lemmas.List.{get_or_read, length-append, length-map}
use Rattle.lt_arch.specs.declared.event.Event.TheVariants.{Act}
use Rattle.lt_arch.specs.declared.shape.Shape.{Shape}
use Rattle.lt_arch.specs.declared.timing.Timing.{Timing}
use Rattle.lt_arch.specs.State.{NodeState}
use Rattle.lt_arch.specs.Readers.{node_count, chan_count}
use Rattle.lt_arch.specs.Step.{woken}
use Rattle.lt_lossy.specs.declared.event.LossyEvent.{LossyEvent}
use Rattle.lt_lossy.specs.declared.event.LossyEvent.TheVariants.{Plain, Lose}
use Rattle.lt_lossy.specs.State.{LinkState, LossyState, Message, lossy_start, plain_of, number_on}
use Rattle.lt_lossy.specs.Step.{lossy_after, lossy_offence, link_with_message, link_woken, sends_number}
use Rattle.lt_lossy.specs.Schedule.{HasNoLossyOffence, IsLossyOffenceFree, lossy_after_all, lossy_reached}
use Rattle.lt_lossy.specs.Times.{losses_at, queue_at}
use Rattle.lt_lossy.specs.Window.{room}
use Rattle.lt_lossy.proofs.Balance.{law-order}
use Rattle.lt_lossy.proofs.Changes.{loss_clear}
use Rattle.lt_lossy.proofs.Spacing.{law-room}
use Rattle.lt_lossy_audit.specs.declared.seen.Seen.{Seen}
use Rattle.lt_lossy_audit.specs.Links.{link_seen, no_link}
use Rattle.lt_lossy_audit.specs.Nodes.{SeenWakes, hears_all, node_seen, sends_seen}
use Rattle.lt_lossy_audit.specs.Sends.{HasSpaceToSend}
use Rattle.lt_lossy_audit.specs.LossyAudit.{LossyAuditState, IsKeptLossyAudit}
use Rattle.lt_lossy_audit.proofs.NodeSeen.{sends, woken_seen}

-- One event more.

pub after_more : (s : Shape) (t : Timing) (rows : ℕ) (st : LossyState) (es : List LossyEvent) (e : LossyEvent) → lossy_after_all s t rows st (es ++ e ∷ []) ≡ lossy_after s t rows (lossy_after_all s t rows st es) e
after_more s t rows st [] e = refl
after_more s t rows st (x ∷ es) e = after_more s t rows (lossy_after s t rows st x) es e

pub free_more : (s : Shape) (t : Timing) (limit rows : ℕ) (st : LossyState) (es : List LossyEvent) (e : LossyEvent) → HasNoLossyOffence s t limit rows st es → lossy_offence s t limit (lossy_after_all s t rows st es) e ≡ None →
    HasNoLossyOffence s t limit rows st (es ++ e ∷ [])
free_more s t limit rows st [] e h none = (none, tt)
free_more s t limit rows st (x ∷ es) e h none = (h.0, free_more s t limit rows (lossy_after s t rows st x) es e h.1 none)

sent_longer : (b : Bool) (number at : ℕ) (link : LinkState) → b ≡ true → length (link_with_message b number at link).transit ≤ room → length link.transit < room
sent_longer b number at link is few =
    let few' : length (link_with_message true number at link).transit ≤ room = subst (λ (x : Bool). length (link_with_message x number at link).transit ≤ room) is few in
    let size = length-append link.transit (record { number = number; sent_at = at } ∷ []) in
    omega (arith, few', size)

module _ (a : LossyAuditState) (kept : IsKeptLossyAudit a) (n at : ℕ) (ln : n < node_count a.shape) (new : Seen)
    (wakes : SeenWakes (node_seen a.nodes n) new (hears_all a.shape a.links n (node_seen a.nodes n).executed true (chan_count a.shape)) (hears_all a.shape a.links n (node_seen a.nodes n).executed false (chan_count a.shape)) a.rows)
    (none : lossy_offence a.shape kept.timing kept.limit (lossy_reached a.shape kept.timing a.rows kept.events) (Plain (Act n at)) ≡ None) where
  abbrev st : LossyState
  st = lossy_reached a.shape kept.timing a.rows kept.events

  abbrev v : NodeState
  v = woken a.shape kept.timing a.rows (plain_of st) n at

  next_free : IsLossyOffenceFree a.shape kept.timing kept.limit a.rows (kept.events ++ Plain (Act n at) ∷ [])
  next_free = free_more a.shape kept.timing kept.limit a.rows lossy_start kept.events (Plain (Act n at)) kept.stands.free none

  next_few : (c : ℕ) → c < chan_count a.shape → length (link_woken a.shape n at v c (st.link c)).transit ≤ room
  unfolding lossy_after
  next_few c lc = subst (λ (z : LossyState). length (z.link c).transit ≤ room) (after_more a.shape kept.timing a.rows lossy_start kept.events (Plain (Act n at)))
      (law-room a.shape kept.timing kept.limit a.rows (kept.events ++ Plain (Act n at) ∷ []) c kept.same kept.window next_free lc)

  few_now : (c : ℕ) → c < chan_count a.shape → sends_seen a.shape n new c ≡ true → length (st.link c).transit < room
  few_now c lc on = sent_longer (sends_number a.shape n v c) (number_on a.shape v c) at (st.link c) (sym (sends a.shape n new v (woken_seen a kept.timing kept.limit st kept.stands.state n ln new wakes at) c) ∙ on) (next_few c lc)

  pub space_to_send : HasSpaceToSend a.shape n new a.links a.watch
  space_to_send = record {
    link = λ c lc on. subst (λ (l : LinkState). length l.transit < room) (sym (kept.stands.state.link c lc)) (few_now c lc on);
    queue = λ c lc on.
        let size : length (queue_at a.watch c) ≡ length (st.link c).transit =
        ap (λ (xs : List ℕ). length xs) (sym (kept.stands.state.times.transit c lc)) ∙ length-map (st.link c).transit (λ (m : Message). m.sent_at) in
        subst (λ (k : ℕ). k < room) (sym size) (few_now c lc on);
  }

-- what a node hears and does, by what is read of it
pub wakes_by : (a : LossyAuditState) (n : ℕ) (x new : Seen) (all_in all_ack : Bool) → x ≡ node_seen a.nodes n → all_in ≡ hears_all a.shape a.links n x.executed true (chan_count a.shape) → all_ack ≡ hears_all a.shape a.links n x.executed false (chan_count a.shape)
    → SeenWakes x new all_in all_ack a.rows
    → SeenWakes (node_seen a.nodes n) new (hears_all a.shape a.links n (node_seen a.nodes n).executed true (chan_count a.shape)) (hears_all a.shape a.links n (node_seen a.nodes n).executed false (chan_count a.shape)) a.rows
wakes_by a n x new all_in all_ack x_is in_is ack_is wakes =
    subst (λ (y : Seen). SeenWakes y new (hears_all a.shape a.links n y.executed true (chan_count a.shape)) (hears_all a.shape a.links n y.executed false (chan_count a.shape)) a.rows) x_is
    (subst (λ (b : Bool). SeenWakes x new b (hears_all a.shape a.links n x.executed false (chan_count a.shape)) a.rows) in_is (subst (λ (b : Bool). SeenWakes x new all_in b a.rows) ack_is wakes))

-- a loss without an offence is not the last one that is allowed
below : (losses limit : ℕ) → losses ≤ limit → losses ≢ limit → losses < limit
below losses limit le ne = omega (arith, le, ne)

module _ (a : LossyAuditState) (kept : IsKeptLossyAudit a) (c at : ℕ) (lc : c < chan_count a.shape)
    (none : lossy_offence a.shape kept.timing kept.limit (lossy_reached a.shape kept.timing a.rows kept.events) (Lose c at) ≡ None) where
  few_lost : ((lossy_reached a.shape kept.timing a.rows kept.events).link c).losses < kept.limit
  few_lost = below _ kept.limit ((law-order a.shape kept.timing kept.limit a.rows kept.events kept.stands.free).losses c lc) (loss_clear a.shape kept.timing kept.limit (lossy_reached a.shape kept.timing a.rows kept.events) c at none)

  pub link_few : (x : LinkState) → x ≡ slice_index_or a.links c x → x.losses < 18446744073709551615
  link_few x is =
      let here : x ≡ link_seen a.links c = get_or_read a.links c x (let size = kept.links in omega (arith, lc, size)) is no_link in
      let few : x.losses < kept.limit = subst (λ (l : LinkState). l.losses < kept.limit) (sym (here ∙ kept.stands.state.link c lc)) few_lost in
      let fits = kept.limit_fits in
      omega (arith, few, fits)

  pub watch_few : losses_at a.watch c < a.watch.limit
  watch_few = subst (λ (k : ℕ). losses_at a.watch c < k) (sym kept.stands.state.times.limit) (subst (λ (k : ℕ). k < kept.limit) (kept.stands.state.times.losses c lc) few_lost)
