-- The step of the loop over events.
use Rattle.std.proofs.Common.{◌≡◌, ◌≢◌, inl, inr, ℕ, suc, ◌-◌, ◌+◌, ◌<◌, ◌≤◌, Bool, true, false, List, [], ◌∷◌, ◌++◌, length, map, take, Option, Some, None, IsTrue, refl, sym, ap, ◌∙◌, subst, arith, cond, length-append, add-one}
use Rattle.std.specs.Prelude.{slice_index_or, ◌==◌, ◌&&◌}
use Rattle.std.proofs.Math.Seq.{take-suc}
use Rattle.std.proofs.lemmas.Bool.Decides.{eqb_tells}
use Rattle.lt_base.specs.declared.value.Value.{Value}
use Rattle.lt_base.specs.Program.{Function}
use Rattle.lt_arch.specs.declared.event.Deed.{Deed}
use Rattle.lt_arch.specs.declared.event.Deed.TheVariants.{Nothing, Execute, Send}
use Rattle.lt_arch.specs.declared.event.Event.{Event}
use Rattle.lt_arch.specs.declared.event.Event.TheVariants.{Act, Del, End}
use Rattle.lt_arch.specs.State.{State, NodeState, Phase, Wait, Ready, First, Sending, Executing, start, unsent, executed_of}
use Rattle.lt_arch.specs.Readers.{node_count, chan_count, to_of, from_of}
use Rattle.lt_arch.specs.Deeds.{deed_at, deed_of, more, all_in, any_in, all_ack}
use Rattle.lt_arch.specs.Schedule.{after_all, OnePlace}
use Rattle.lt_net_bench.proofs.Bits.{leb-le}
use Rattle.lt_io.specs.declared.message.Message.{Message}
use Rattle.lt_place.specs.Layout.{crossing_of}
use Rattle.lt_io.specs.FabricState.{FabricState, KeepsFabric, Delivers, SameLists}
use Rattle.lt_net_node.specs.Payloads.{row_at, channel_between}
use Rattle.lt_net.specs.Net.{TimedBenchState, Lists, reached_state}
use Rattle.lt_net.specs.Stands.{NetStands}
use Rattle.lt_net.specs.Owns.{OwnPayload, Owns, OwnsTransit, Enough}
use Rattle.lt_net.specs.Event.{FabricHolds, HeldBy, HasKinds, SameStatic, ListsGoOn, InputsGo, SendsOwn, sends_by}
use Rattle.lt_net_node.specs.Layout.{IsLaidOut}
use Rattle.lt_net_node.specs.Channels.{HasChannels}
use Rattle.lt_net.specs.Chain.{SameInputs}
use Rattle.lt_net.specs.Replay.{FabricTells, ReplayKeeps, KeepsOn}
use Rattle.lt_net.proofs.OwnAfterDelivery.{owns_delivery, transit_delivery, own_payload_same}
use Rattle.lt_net.proofs.OwnAfterActivation.{owns_longer, transit_longer, own_stays}
use Rattle.lt_net.proofs.EndStands.{after_all-more, end-node}
use Rattle.lt_net.proofs.SentMessages.{own_sent}
use Rattle.lt_net.proofs.ToldLists.{tells_delivery, tells_act}
use Rattle.lt_machine.specs.declared.machine.Machine.{Ghosts as Machines}
use Rattle.lt_arch.specs.declared.controller.Controller.{Ghosts as Controls}

held_append : (v : Option ℕ) (last : Bool) (ms : List Message) (m : Message) → HeldBy v last (ms ++ m ∷ []) → ms ≡ []
held_append v last [] m h = refl
held_append None last (x ∷ ms) m h = absurd (cc)
held_append (Some at) last (x ∷ []) m h = absurd (let e = ap length h.1 in omega (arith, e))
held_append (Some at) last (x ∷ y ∷ ms) m h = absurd (let e = ap length h.1 in omega (arith, e))

both_true : (a m : Bool) → cond (a && m) Execute Nothing ≡ Execute → m ≡ true
both_true true true h = refl
both_true true false h = absurd (cc)
both_true false m h = absurd (cc)

no_execute : (a : Bool) → cond a Send Nothing ≢ Execute
no_execute true h = absurd (cc)
no_execute false h = absurd (cc)

pub deed_more : (ph : Phase) (a b c m : Bool) → deed_of ph a b c m ≡ Execute → m ≡ true
deed_more Wait a b c m h = both_true a m h
deed_more Ready a b c m h = absurd (no_execute c h)
deed_more First a b c m h = both_true true m h
deed_more (Sending k) a b c m h = absurd (no_execute _ h)
deed_more (Executing k) a b c m h = both_true _ m h

act_more : (n at : ℕ) (d : Deed) (row : Option (List Value)) (old new : ℕ → List (List Value)) → InputsGo (Act n at) d row old new → (extra : ℕ → List (List Value)) × ((i : ℕ) → new i ≡ old i ++ extra i)
act_more n at Nothing row old new go = ((λ i. []), λ i. go i ∙ none (old i))
  where
    none : (xs : List (List Value)) → xs ≡ xs ++ []
    none [] = refl
    none (x ∷ xs) = ap (λ r. x ∷ r) (none xs)
act_more n at Send row old new go = ((λ i. []), λ i. go i ∙ none (old i))
  where
    none : (xs : List (List Value)) → xs ≡ xs ++ []
    none [] = refl
    none (x ∷ xs) = ap (λ r. x ∷ r) (none xs)
act_more n at Execute None old new go = absurd go
act_more n at Execute (Some r) old new go = (
  (λ i. cond (i == n) (r ∷ []) []),
  λ i. elim (eqb_tells i n) [
    | inl h ↦ ap new h.1 ∙ go.there ∙ ap (λ z. old z ++ r ∷ []) (sym h.1) ∙ ap (λ x. old i ++ cond x (r ∷ []) []) (sym h.0)
    | inr h ↦ go.elsewhere i h.1 ∙ none (old i) ∙ ap (λ x. old i ++ cond x (r ∷ []) []) (sym h.0)
  ],
)
  where
    none : (xs : List (List Value)) → xs ≡ xs ++ []
    none [] = refl
    none (x ∷ xs) = ap (λ r. x ∷ r) (none xs)

-- a list that is a front, and one row more
abbrev Front : List (List Value) → List (List Value) → Type 0
Front inputs xs = (xs ≡ take (length xs) inputs) × (length xs ≤ length inputs)

one_more : (inputs xs ys : List (List Value)) (r : List Value) → Front inputs xs → ys ≡ xs ++ r ∷ [] → r ≡ row_at inputs (length xs) → length xs < length inputs → Front inputs ys
one_more inputs xs ys r f is at lt =
    let len : length ys ≡ suc (length xs) = ap length is ∙ length-append xs (r ∷ []) ∙ add-one (length xs) in
    (is ∙ (λ i. f.0 i ++ at i ∷ []) ∙ sym (take-suc inputs (length xs) [] lt) ∙ ap (λ k. take k inputs) (sym len), omega (arith, len, lt))

act_fronts : (n at : ℕ) (inputs : List (List Value)) (d : Deed) (row : Option (List Value)) (old new : ℕ → List (List Value)) → InputsGo (Act n at) d row old new →
    (d ≡ Execute → (r : List Value) → row ≡ Some r → (r ≡ row_at inputs (length (old n))) × (length (old n) < length inputs)) → (i : ℕ) → Front inputs (old i) → Front inputs (new i)
act_fronts n at inputs Nothing row old new go h i f = subst (Front inputs) (sym (go i)) f
act_fronts n at inputs Send row old new go h i f = subst (Front inputs) (sym (go i)) f
act_fronts n at inputs Execute None old new go h i f = absurd go
act_fronts n at inputs Execute (Some r) old new go h i f = elim (eqb_tells i n) [
  | inl e ↦
      let at_n = h refl r refl in
      subst (λ i. Front inputs (new i)) (sym e.1) (one_more inputs (old n) (new n) r (subst (λ i. Front inputs (old i)) e.1 f) go.there at_n.0 at_n.1)
  | inr e ↦ subst (Front inputs) (sym (go.elsewhere i e.1)) f
]

module _ {C M : Type 0} (net next_net : TimedBenchState C M) (fixed : SameStatic net next_net) where
  -- what depends on the static part alone
  pub static_of : (P : TimedBenchState C M → Type 0) → P (record next_net { layout = net.layout; shape = net.shape; timing = net.timing; rows = net.rows }) → P next_net
  static_of P p =
      subst (λ l. P (record next_net { layout = l })) (sym fixed.layout)
      (subst (λ s. P (record next_net { layout = net.layout; shape = s })) (sym fixed.shape)
      (subst (λ t. P (record next_net { layout = net.layout; shape = net.shape; timing = t })) (sym fixed.timing)
      (subst (λ r. P (record next_net { layout = net.layout; shape = net.shape; timing = net.timing; rows = r })) (sym fixed.rows) p)))

  pub owns_of : (ls : Lists) → Owns net ls → Owns next_net ls
  owns_of ls o = static_of (λ z. Owns z ls) (record { before = o.before; own = o.own })

  pub transit_of : (ls : Lists) (fabric : FabricState) → OwnsTransit net ls fabric → OwnsTransit next_net ls fabric
  transit_of ls fabric o = static_of (λ z. OwnsTransit z ls fabric) (record { before = o.before; own = o.own })

  pub tells_of : (ls : Lists) (fabric : FabricState) → FabricTells net ls fabric → FabricTells next_net ls fabric
  tells_of ls fabric t = static_of (λ z. FabricTells z ls fabric) (record { delivered = t.delivered; total = t.total; sent_count = t.sent_count; sent_bits = t.sent_bits; sent_own = t.sent_own })

  pub inputs_of : (ls : Lists) (inputs : List (List Value)) → SameInputs net ls inputs → SameInputs next_net ls inputs
  inputs_of ls inputs i = static_of (λ z. SameInputs z ls inputs) (record { fronts = i.fronts; within = i.within })

module _ {C M : Type 0} (ctl : Controls C) (mch : Machines M) (inputs : List (List Value)) (read : List Event)
    (net next_net : TimedBenchState C M) (old new : FabricState) (ls next : Lists) (row : Option (List Value)) (f : Function) (placed : IsLaidOut f net.layout) (channels : HasChannels net.layout net.shape) (one_place : OnePlace net.shape net.timing net.rows)
    (rows_is : net.rows ≡ length inputs) (k : ReplayKeeps ctl mch inputs read net old ls) (fabric_keeps : KeepsFabric old new) (fixed : SameStatic net next_net)
    (stands_next : NetStands ctl mch next_net next) (holds_next : FabricHolds next_net new) (kinds_next : HasKinds next_net new) where
  s : NetStands ctl mch net ls
  s = k.stands_for

  ends : (c : ℕ) → c < chan_count net.shape → from_of net.shape c < node_count net.shape
  ends c h = let e = channels.ends c h in omega (arith, e, channels.nodes)

  was_faithful : IsTrue new.faithful → IsTrue old.faithful
  was_faithful t = subst IsTrue fabric_keeps.faithful t

  was_told : IsTrue new.told → IsTrue old.told
  was_told t = subst IsTrue fabric_keeps.told t

  module _ (n at : ℕ) (b : n < node_count net.shape) (row_is : (r : List Value) → row ≡ Some r → length (ls.inputs n) < net.rows → r ≡ row_at inputs (length (ls.inputs n)))
      (goes : ListsGoOn net ls next (Act n at) row []) (sends : SendsOwn net ls next (Act n at) old new) where
    extra : (more : ℕ → List (List Value)) × ((i : ℕ) → next.inputs i ≡ ls.inputs i ++ more i)
    extra = act_more n at (deed_at net.shape net.rows (reached_state net ls) n) row ls.inputs next.inputs goes.inputs

    longer : (i : ℕ) → length (ls.inputs i) ≤ length (next.inputs i)
    longer i = let e = ap length (extra.1 i) in let m = length-append (ls.inputs i) (extra.0 i) in omega (arith, e, m)

    empty : (c : ℕ) → c < chan_count net.shape → sends_by net ls (Act n at) c ≡ true → old.transit c ≡ []
    empty c h on = held_append _ _ (old.transit c) (sends.message c) (subst (λ ms. HeldBy (slice_index_or next_net.watch.sends c None) (slice_index_or next_net.inboxes c Rattle.lt_link.specs.Inbox.no_inbox).bit ms) (sends.sent c h on) (holds_next.transit c (subst (λ z. c < chan_count z) (sym fixed.shape) h)))

    fronts : (i : ℕ) → i < node_count net.shape → Front inputs (next.inputs i)
    fronts i ib = act_fronts n at inputs (deed_at net.shape net.rows (reached_state net ls) n) row ls.inputs next.inputs goes.inputs (λ d r is.
        let left_over : executed_of (reached_state net ls) n < net.rows = leb-le _ _ (deed_more ((reached_state net ls).node n).phase (all_in net.shape (reached_state net ls) n) (any_in net.shape (reached_state net ls) n) (all_ack net.shape (reached_state net ls) n) (more net.rows (reached_state net ls) n) d) in
        let lt : length (ls.inputs n) < net.rows = let e = s.bench.rows n b in omega (arith, e, left_over) in
        (row_is r is lt, omega (arith, lt, rows_is))) i (k.same_inputs.fronts i ib, k.same_inputs.within i ib)

    pub keeps_act : ReplayKeeps ctl mch inputs (read ++ Act n at ∷ []) next_net new next
    keeps_act = record {
      stands_for = stands_next;
      events = goes.events ∙ ap (λ es. es ++ Act n at ∷ []) k.events;
      same_inputs = inputs_of net next_net fixed next inputs (record { fronts = λ i ib. (fronts i ib).0; within = λ i ib. (fronts i ib).1 });
      holds = holds_next;
      kinds = kinds_next;
      owns = λ t. owns_of net next_net fixed next (owns_longer net ls next goes.got extra.0 extra.1 (k.owns (was_faithful t)));
      owns_transit = λ t. transit_of net next_net fixed next new (transit_longer net ls next goes.got extra.0 extra.1 old new (k.owns_transit (was_faithful t)) (own_sent ctl mch net ls s old k.holds n at next new b longer sends));
      tells = λ t. tells_of net next_net fixed next new (tells_act ctl mch net ls next (Act n at) s old new k.holds (k.tells (was_told t)) goes.events n at refl b sends goes.got (was_told t) ends empty
          (λ c j p h own. own_stays net ls next goes.got extra.0 extra.1 (from_of net.shape c) (to_of net.shape c) j p h own));
    }

  enough : Enough net.layout net.shape ls
  enough c h =
      let j = channel_between net.shape (crossing_of net.layout c).from (crossing_of net.layout c).to in
      let there = channels.there c h in
      let low = (one_place ls.events s.timely s.clean).data_low j there (channels.carries c h) in
      let got = s.bench.messages j there in
      let to = channels.to c h in
      let executed = s.bench.rows (to_of net.shape j) (omega (arith, to, channels.nodes, placed.receivers c h)) in
      let same : length (ls.inputs (to_of net.shape j)) ≡ length (ls.inputs (crossing_of net.layout c).to) = ap (λ i. length (ls.inputs i)) to in
      omega (arith, low, got, executed, same)

  same_fronts : ((i : ℕ) → next.inputs i ≡ ls.inputs i) → SameInputs net next inputs
  same_fronts same = record {
    fronts = λ i ib. subst (λ xs. xs ≡ take (length xs) inputs) (sym (same i)) (k.same_inputs.fronts i ib);
    within = λ i ib. subst (λ xs. length xs ≤ length inputs) (sym (same i)) (k.same_inputs.within i ib);
  }

  module _ (ch at : ℕ) (cb : ch < chan_count net.shape) (payload : List Value) (goes : ListsGoOn net ls next (Del ch at) row payload) (m : Message) (is : m.payload ≡ payload) (delivers : Delivers old new ch m) where
    pub keeps_del : ReplayKeeps ctl mch inputs (read ++ Del ch at ∷ []) next_net new next
    keeps_del = record {
      stands_for = stands_next;
      events = goes.events ∙ ap (λ es. es ++ Del ch at ∷ []) k.events;
      same_inputs = inputs_of net next_net fixed next inputs (same_fronts goes.inputs);
      holds = holds_next;
      kinds = kinds_next;
      owns = λ t. owns_of net next_net fixed next (owns_delivery net ls next f placed enough channels.ends ch payload goes.got goes.inputs old new m (was_faithful t) delivers (sym is) (k.owns (was_faithful t)) (k.owns_transit (was_faithful t)));
      owns_transit = λ t. transit_of net next_net fixed next new (transit_delivery net ls next f placed enough channels.ends ch payload goes.got goes.inputs old new m (was_faithful t) delivers (sym is) (k.owns (was_faithful t)) (k.owns_transit (was_faithful t)));
      tells = λ t. tells_of net next_net fixed next new (tells_delivery ctl mch net ls next (Del ch at) s old new k.holds (k.tells (was_told t)) goes.events ch at refl payload goes.got m is delivers (was_told t) ends
          (λ c j p h lt own. own_payload_same net ls next f placed enough channels.ends ch payload goes.got goes.inputs (from_of net.shape c) (to_of net.shape c) j p (channels.ends c h) lt own) cb);
    }

  module _ (at : ℕ) (payload : List Value) (goes : ListsGoOn net ls next (End at) row payload) (same : SameLists old new) where
    none : (xs : List (List Value)) → xs ≡ xs ++ []
    none [] = refl
    none (x ∷ xs) = ap (λ r. x ∷ r) (none xs)

    nothing_more : (i : ℕ) → next.inputs i ≡ ls.inputs i ++ []
    nothing_more i = goes.inputs i ∙ none (ls.inputs i)

    node_same : (i : ℕ) → (reached_state net next).node i ≡ (reached_state net ls).node i
    node_same i = ap (λ (z : State). z.node i) (ap (after_all net.shape net.timing net.rows (start net.timing.protocol)) goes.events ∙ after_all-more net.shape net.timing net.rows (start net.timing.protocol) ls.events (End at)) ∙ end-node net.shape net.timing net.rows (reached_state net ls) at i

    low : (c x u : ℕ) (j : ℕ) → length (old.sent c) ≡ x - u → length (ls.inputs (from_of net.shape c)) ≡ x → j < length (old.sent c) → j < length (ls.inputs (from_of net.shape c))
    low c x u j a b h = omega (arith, a, b, h)

    tells_end : IsTrue old.told → FabricTells net ls old → FabricTells net next new
    tells_end told t = record {
      delivered = λ c h. ap (map (λ (m : Message). m.payload)) (same.delivered told c) ∙ t.delivered c h ∙ sym (goes.got c);
      total = λ c h. ap length (same.sent told c) ∙ t.total c h ∙ (λ i. length (sym (goes.got c) i) + length (sym (same.transit c) i));
      sent_count = λ c h carries. ap length (same.sent told c) ∙ t.sent_count c h carries ∙ sym (ap (λ (v : NodeState). v.executed - unsent v.phase) (node_same (from_of net.shape c)));
      sent_bits = λ c j h jb. ap (λ (ms : List Message). (slice_index_or {A = Message} ms j (record { payload = []; bit = false })).bit) (same.sent told c) ∙ t.sent_bits c j h (subst (λ ms. j < length ms) (same.sent told c) jb);
      sent_own = λ c j h carries jb.
          let jb' = subst (λ ms. j < length ms) (same.sent told c) jb in
          subst (λ ms. OwnPayload net.layout net.shape next (from_of net.shape c) (to_of net.shape c) j (slice_index_or {A = Message} ms j (record { payload = []; bit = false })).payload) (sym (same.sent told c))
          (own_stays net ls next goes.got (λ i. []) nothing_more (from_of net.shape c) (to_of net.shape c) j _
          (low c (((reached_state net ls).node (from_of net.shape c)).executed) (unsent ((reached_state net ls).node (from_of net.shape c)).phase) j (t.sent_count c h carries) (s.bench.rows (from_of net.shape c) (ends c h)) jb') (t.sent_own c j h carries jb'));
    }

    pub keeps_end : ReplayKeeps ctl mch inputs (read ++ End at ∷ []) next_net new next
    keeps_end = record {
      stands_for = stands_next;
      events = goes.events ∙ ap (λ es. es ++ End at ∷ []) k.events;
      same_inputs = inputs_of net next_net fixed next inputs (same_fronts goes.inputs);
      holds = holds_next;
      kinds = kinds_next;
      owns = λ t. owns_of net next_net fixed next (owns_longer net ls next goes.got (λ i. []) nothing_more (k.owns (was_faithful t)));
      owns_transit = λ t. transit_of net next_net fixed next new (transit_longer net ls next goes.got (λ i. []) nothing_more old new (k.owns_transit (was_faithful t)) (λ c h carries. inl (same.transit c)));
      tells = λ t. tells_of net next_net fixed next new (tells_end (was_told t) (k.tells (was_told t)));
    }

pub keeps_on : KeepsOn
keeps_on C M ctl mch inputs read net next_net old new ls next (Act n at) row payload f placed channels one_place rows_is k there row_is goes carried fabric_keeps st holds kinds fixed =
    keeps_act ctl mch inputs read net next_net old new ls next row f placed channels one_place rows_is k fabric_keeps fixed st holds kinds n at there (λ r is lt. row_is n at r refl is lt)
    (record { events = goes.events; inputs = goes.inputs; got = goes.got }) carried
keeps_on C M ctl mch inputs read net next_net old new ls next (Del ch at) row payload f placed channels one_place rows_is k there row_is goes carried fabric_keeps st holds kinds fixed =
    keeps_del ctl mch inputs read net next_net old new ls next row f placed channels one_place rows_is k fabric_keeps fixed st holds kinds ch at there payload goes (carried.0) (carried.1) (carried.2)
keeps_on C M ctl mch inputs read net next_net old new ls next (End at) row payload f placed channels one_place rows_is k there row_is goes carried fabric_keeps st holds kinds fixed =
    keeps_end ctl mch inputs read net next_net old new ls next row f placed channels one_place rows_is k fabric_keeps fixed st holds kinds at payload goes carried
