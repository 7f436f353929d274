-- All that a fabric tells goes on with the lists.
use Rattle.std.proofs.Common.{◌≡◌, ◌≢◌, inl, inr, ℕ, suc, ◌+◌, ◌<◌, ◌≤◌, Bool, true, false, List, [], ◌∷◌, ◌++◌, length, Option, IsTrue, cond, refl, sym, ap, ◌∙◌, subst, arith, length-append, le-leb, nat_le}
use Rattle.std.specs.Prelude.{◌&&◌, ◌==◌, slice_index_or}
use Rattle.std.proofs.Math.Seq.{get_or-append_seam}
use Rattle.std.proofs.lemmas.Bool.Decides.{eqb_tells}
use Rattle.std.proofs.lemmas.List.{append-nil}
use Rattle.lt_base.specs.declared.value.Value.{Value}
use Rattle.lt_arch.specs.declared.event.Deed.TheVariants.{Execute}
use Rattle.lt_arch.specs.declared.event.Event.TheVariants.{Act, Del, End}
use Rattle.lt_arch.specs.State.{NodeState}
use Rattle.lt_arch.specs.Deeds.{deed_at}
use Rattle.lt_arch.specs.Readers.{chan_count, to_of, carries_data}
use Rattle.lt_arch.specs.Step.{is_execute}
use Rattle.lt_io.specs.declared.message.Message.{Message}
use Rattle.lt_io.specs.FabricState.{FabricState, Delivers}
use Rattle.lt_link.specs.Bits.{bit_of}
use Rattle.lt_lossy.specs.declared.event.LossyEvent.{LossyEvent}
use Rattle.lt_lossy.specs.declared.event.LossyEvent.TheVariants.{Plain, Lose}
use Rattle.lt_lossy.specs.Events.{IsLossyPlacedIn}
use Rattle.lt_lossy.specs.State.{LossyState, plain_of, lossy_start}
use Rattle.lt_lossy.specs.Step.{lossy_after}
use Rattle.lt_lossy.specs.Schedule.{lossy_reached}
use Rattle.lt_lossy.proofs.Balance.{law-own_number}
use Rattle.lt_lossy.proofs.Changes.{node-del, node-lose, node-end}
use Rattle.lt_net_bench.proofs.Bits.{leb-le}
use Rattle.lt_net_bench.proofs.Entries.{and_parts, same_number}
use Rattle.lt_net_bench.proofs.OwnValues.{entry_stays}
use Rattle.lt_net_bench.proofs.Replaced.{replaced_length, replaced_entry, replaced_last}
use Rattle.lt_net_lossy.specs.Net.{LossyBenchState, LossyLists, lossy_state_of}
use Rattle.lt_net_lossy.specs.Event.{LossyGoesOn, GetsBy, brings_new, is_unread}
use Rattle.lt_net_lossy.specs.Kept.{IsFixedLossy}
use Rattle.lt_net_lossy.specs.Laws.{StandsWith}
use Rattle.lt_net_lossy.specs.Taken.{CarriedLossy}
use Rattle.lt_net_lossy.proofs.Reached.{acts_on, after_all-more, balanced, one_now}
use Rattle.lt_net_lossy.specs.Told.{fate_of, fates_of, kept_if, came, EndsInCopy}
use Rattle.lt_net_lossy.specs.LossyPlays.{last_bit, TellsEach, TellsLossy}
use Rattle.lt_net_lossy.proofs.Fates.{fates-more, delivered-here, delivered-elsewhere, lost-here, lost-elsewhere, came-more, last-more}
use Rattle.lt_net_lossy.proofs.RanOn.{HadUnread, ran_next}
use Rattle.lt_machine.specs.declared.machine.Machine.{Ghosts as Machines}
use Rattle.lt_arch.specs.declared.controller.Controller.{Ghosts as Controls}

module _ {C M : Type 0} (ctl : Controls C) (mch : Machines M) (net next_net : LossyBenchState C M) (ls next : LossyLists) (old new : FabricState)
    (fixed : IsFixedLossy net.layout net.shape net.timing) (with : StandsWith ctl mch net ls old) (told : IsTrue old.told) (tells : TellsLossy net.shape net.timing net.rows ls old) (each : TellsEach net.shape next new)
    (messages : (c : ℕ) → c < chan_count net.shape → length (next.got c) ≡ ((lossy_state_of net next).link c).newest) where
  abbrev st : LossyState
  st = lossy_state_of net ls

  abbrev st' : LossyState
  st' = lossy_state_of net next

  reached : (e : LossyEvent) → next.events ≡ ls.events ++ e ∷ [] → st' ≡ lossy_after net.shape net.timing net.rows st e
  reached e events = ap (lossy_reached net.shape net.timing net.rows) events ∙ after_all-more net.shape net.timing net.rows lossy_start ls.events e

  -- a channel whose payloads did not change has the same newest number
  same_newest : (c : ℕ) → c < chan_count net.shape → next.got c ≡ ls.got c → (st'.link c).newest ≡ (st.link c).newest
  same_newest c lt got = sym (messages c lt) ∙ ap length got ∙ with.standing.bench.messages c lt

  -- what came of a channel that nothing left
  came_still : (e : LossyEvent) → next.events ≡ ls.events ++ e ∷ [] → (c : ℕ) → fate_of c e ≡ [] → new.delivered c ≡ old.delivered c → came (fates_of c next.events) (new.delivered c) ≡ came (fates_of c ls.events) (old.delivered c)
  came_still e events c none delivered =
      let fates : fates_of c next.events ≡ fates_of c ls.events = ap (fates_of c) events ∙ fates-more c ls.events e ∙ ap (λ r. fates_of c ls.events ++ r) none ∙ append-nil (fates_of c ls.events) in
      λ i. came (fates i) (delivered i)

  -- an unread message stays the one that came last where nothing more came
  still_unread : (c k : ℕ) → c < chan_count net.shape → came (fates_of c next.events) (new.delivered c) ≡ came (fates_of c ls.events) (old.delivered c) → next.got c ≡ ls.got c →
      (st.node (to_of net.shape c)).executed ≤ (st'.node (to_of net.shape c)).executed → is_unread net.shape st' c ≡ true → length (next.got c) ≡ suc k →
      EndsInCopy net.shape net.timing net.rows next.events c (suc k) (new.delivered c) (slice_index_or (next.got c) k [])
  still_unread c k lt same got le unread count =
      let parts = and_parts (carries_data net.shape c) (nat_le (st'.node (to_of net.shape c)).executed (st'.link c).newest) unread in
      let fresh = leb-le (st'.node (to_of net.shape c)).executed (st'.link c).newest parts.1 in
      let newest = same_newest c lt got in
      let before : is_unread net.shape st c ≡ true = ap (λ x. x && nat_le (st.node (to_of net.shape c)).executed (st.link c).newest) parts.0 ∙ le-leb (st.node (to_of net.shape c)).executed (st.link c).newest (omega (arith, le, fresh, newest)) in
      let ends = tells.unread c k lt before (ap length (sym got) ∙ count) in
      record {
        earlier = ends.earlier;
        last = ends.last;
        are = same ∙ ends.are;
        payload_is = ends.payload_is ∙ ap (λ ps. slice_index_or ps k []) (sym got);
        bit_is = ends.bit_is;
        number_is = newest ∙ ends.number_is;
      }

  -- An activation.

  module _ (n at : ℕ) (events : next.events ≡ ls.events ++ Plain (Act n at) ∷ []) (got : (c : ℕ) → next.got c ≡ ls.got c) (delivered : (c : ℕ) → c < chan_count net.shape → new.delivered c ≡ old.delivered c) where
    executed_is : (i : ℕ) → (st'.node i).executed ≡ (st.node i).executed + cond ((i == n) && is_execute (deed_at net.shape net.rows (plain_of st) n)) 1 0
    executed_is i =
        ap (λ (z : LossyState). (z.node i).executed) (reached (Plain (Act n at)) events)
        ∙ (acts_on net.shape net.timing net.watch.limit net.rows st (balanced ctl mch net ls with.standing) n at).executed i

    counts : (i : ℕ) → (st.node i).executed ≤ (st'.node i).executed
    counts i = let is = executed_is i in omega (arith, is)

    acted : (i a k : ℕ) → Path LossyEvent (Plain (Act n at)) (Plain (Act i a)) → deed_at net.shape net.rows (plain_of st) i ≡ Execute → (st.node i).executed ≡ suc k → HadUnread net.shape ls st st' i k
    acted i a k same executes instant =
        let here : i ≡ n = cc in
        let deed : is_execute (deed_at net.shape net.rows (plain_of st) n) ≡ true = ap is_execute (ap (deed_at net.shape net.rows (plain_of st)) (sym here) ∙ executes) in
        let one : Path ℕ (cond ((i == n) && is_execute (deed_at net.shape net.rows (plain_of st) n)) 1 0) 1 = (λ j. cond {A = ℕ} ((i == sym here j) && deed j) 1 0) ∙ ap (λ x. cond {A = ℕ} (x && true) 1 0) (same_number i) in
        record {
          more = let is = executed_is i in omega (arith, is, one, instant);
          there = λ c lt carries to.
              let newest = (law-own_number net.shape net.timing net.watch.limit net.rows ls.events i fixed.partners with.standing.clean).executes executes c lt to carries in
              let count = with.standing.bench.messages c lt in
              let receiver : (st.node (to_of net.shape c)).executed ≡ (st.node i).executed = ap (λ j. (st.node j).executed) to in (
                ap (λ x. x && nat_le (st.node (to_of net.shape c)).executed (st.link c).newest) carries ∙ le-leb (st.node (to_of net.shape c)).executed (st.link c).newest (omega (arith, newest, receiver)),
                count ∙ newest ∙ instant,
              );
        }

    pub told_act : TellsLossy net.shape net.timing net.rows next new
    told_act = record {
      each = each;
      ran_on = ran_next net.shape net.timing net.rows ls next old new tells (Plain (Act n at)) events (λ c lt. ([], delivered c lt ∙ sym (append-nil (old.delivered c)))) counts (λ c k lt carries h. ap (λ ps. slice_index_or ps k []) (got c)) acted;
      unread = λ c k lt. still_unread c k lt (came_still (Plain (Act n at)) events c refl (delivered c lt)) (got c) (counts (to_of net.shape c));
    }

  -- Where no node acts.

  module _ (e : LossyEvent) (events : next.events ≡ ls.events ++ e ∷ []) (nodes : (i : ℕ) → st'.node i ≡ st.node i) where
    same_counts : (i : ℕ) → (st.node i).executed ≤ (st'.node i).executed
    same_counts i = let is = ap (λ (v : NodeState). v.executed) (nodes i) in omega (arith, is)

    -- and no channel got a payload
    told_still : (no_act : (n at : ℕ) → e ≡ Plain (Act n at) → ⊥) → ((c : ℕ) → c < chan_count net.shape → (more : List Message) × (new.delivered c ≡ old.delivered c ++ more)) → ((c : ℕ) → next.got c ≡ ls.got c) →
        ((c : ℕ) → c < chan_count net.shape → came (fates_of c next.events) (new.delivered c) ≡ came (fates_of c ls.events) (old.delivered c)) → TellsLossy net.shape net.timing net.rows next new
    told_still no_act grows got same = record {
      each = each;
      ran_on = ran_next net.shape net.timing net.rows ls next old new tells e events grows same_counts (λ c k lt carries h. ap (λ ps. slice_index_or ps k []) (got c)) (λ n at k is executes instant. absurd (no_act n at is));
      unread = λ c k lt. still_unread c k lt (same c lt) (got c) (same_counts (to_of net.shape c));
    }

  -- A message left channel ch.

  module _ (ch at : ℕ) (here : ch < chan_count net.shape) (m : Message) (delivers : Delivers old new ch m) where
    grows : (c : ℕ) → c < chan_count net.shape → (more : List Message) × (new.delivered c ≡ old.delivered c ++ more)
    grows c lt = elim (eqb_tells c ch) [
      | inl e ↦ (m ∷ [], subst (λ c. new.delivered c ≡ old.delivered c ++ m ∷ []) (sym e.1) (delivers.delivered told).there)
      | inr e ↦ ([], (delivers.delivered told).elsewhere c e.1 ∙ sym (append-nil (old.delivered c)))
    ]

    came_here : (e : LossyEvent) (fate : Bool) → next.events ≡ ls.events ++ e ∷ [] → fate_of ch e ≡ fate ∷ [] → came (fates_of ch next.events) (new.delivered ch) ≡ came (fates_of ch ls.events) (old.delivered ch) ++ kept_if fate m
    came_here e fate events is =
        let fates : fates_of ch next.events ≡ fates_of ch ls.events ++ fate ∷ [] = ap (fates_of ch) events ∙ fates-more ch ls.events e ∙ ap (λ r. fates_of ch ls.events ++ r) is in
        (λ i. came (fates i) ((delivers.delivered told).there i)) ∙ came-more (fates_of ch ls.events) (old.delivered ch) fate m (tells.each ch here).taken

    -- it was lost
    pub told_loss : next.events ≡ ls.events ++ Lose ch at ∷ [] → ((c : ℕ) → next.got c ≡ ls.got c) → TellsLossy net.shape net.timing net.rows next new
    told_loss events got =
        told_still (Lose ch at) events (λ i. ap (λ (z : LossyState). z.node i) (reached (Lose ch at) events) ∙ node-lose net.shape net.timing net.rows st ch at i) (λ n a is. absurd (cc)) grows got (λ c lt. elim (eqb_tells c ch) [
          | inl e ↦ subst (λ c. came (fates_of c next.events) (new.delivered c) ≡ came (fates_of c ls.events) (old.delivered c)) (sym e.1) (came_here (Lose ch at) false events (lost-here ch at) ∙ append-nil (came (fates_of ch ls.events) (old.delivered ch)))
          | inr e ↦ came_still (Lose ch at) events c (lost-elsewhere c ch at (λ is. e.1 (sym is))) ((delivers.delivered told).elsewhere c e.1)
        ])

    -- it was delivered
    module _ (events : next.events ≡ ls.events ++ Plain (Del ch at) ∷ []) (gets : GetsBy (brings_new st ch) (is_unread net.shape st ch) ls.got next.got ch m.payload) where
      nodes : (i : ℕ) → st'.node i ≡ st.node i
      nodes i = ap (λ (z : LossyState). z.node i) (reached (Plain (Del ch at)) events) ∙ node-del net.shape net.timing net.rows st ch at i

      elsewhere : (b unread : Bool) → GetsBy b unread ls.got next.got ch m.payload → (c : ℕ) → c ≢ ch → next.got c ≡ ls.got c
      elsewhere true unread g c ne = g.elsewhere c ne
      elsewhere false true g c ne = g.elsewhere c ne
      elsewhere false false g c ne = g c

      -- an entry of which the receiver's instant was executed stays
      entries : (b unread : Bool) → is_unread net.shape st ch ≡ unread → GetsBy b unread ls.got next.got ch m.payload → (c k : ℕ) → c < chan_count net.shape → carries_data net.shape c ≡ true →
          suc k < (st'.node (to_of net.shape c)).executed → slice_index_or (next.got c) k [] ≡ slice_index_or (ls.got c) k []
      entries true unread is g c k lt carries h =
          let executed = ap (λ (v : NodeState). v.executed) (nodes (to_of net.shape c)) in
          let low = (one_now ctl mch net ls with.standing fixed).data_low c lt carries in
          let count = with.standing.bench.messages c lt in
          entry_stays net.shape ls.got next.got ch m.payload g c k (omega (arith, h, executed, low, count))
      entries false true is g c k lt carries h = replaced_entry ls.got next.got ch m.payload g c k (λ same.
          let executed = ap (λ (v : NodeState). v.executed) (nodes (to_of net.shape ch)) in
          let fresh = leb-le (st.node (to_of net.shape ch)).executed (st.link ch).newest (and_parts (carries_data net.shape ch) (nat_le (st.node (to_of net.shape ch)).executed (st.link ch).newest) is).1 in
          let count = with.standing.bench.messages ch here in
          let h' : suc k < (st'.node (to_of net.shape ch)).executed = subst (λ j. suc k < (st'.node (to_of net.shape j)).executed) same h in
          omega (arith, h', executed, fresh, count))
      entries false false is g c k lt carries h = ap (λ ps. slice_index_or ps k []) (g c)

      payload_is : (b unread : Bool) (k : ℕ) → is_unread net.shape st ch ≡ unread → GetsBy b unread ls.got next.got ch m.payload → is_unread net.shape st' ch ≡ true → length (next.got ch) ≡ suc k → m.payload ≡ slice_index_or (next.got ch) k []
      payload_is true unread k is g now count =
          let longer = ap length g.there ∙ length-append (ls.got ch) (m.payload ∷ []) in
          let at_end : length (ls.got ch) ≡ k = omega (arith, longer, count) in
          sym (ap (λ ps. slice_index_or ps k []) g.there ∙ ap (λ j. slice_index_or (ls.got ch ++ m.payload ∷ []) j []) (sym at_end) ∙ get_or-append_seam (ls.got ch) m.payload [] [])
      payload_is false true k is g now count = sym (replaced_last ls.got next.got ch m.payload g k (sym (replaced_length ls.got next.got ch m.payload g ch) ∙ count))
      payload_is false false k is g now count =
          let executed = ap (λ (v : NodeState). v.executed) (nodes (to_of net.shape ch)) in
          let newest = same_newest ch here (g ch) in
          let same : is_unread net.shape st' ch ≡ is_unread net.shape st ch = λ i. carries_data net.shape ch && nat_le (executed i) (newest i) in
          absurd (let no : true ≡ false = sym now ∙ same ∙ is in cc)

      unread_here : (k : ℕ) → is_unread net.shape st' ch ≡ true → length (next.got ch) ≡ suc k → EndsInCopy net.shape net.timing net.rows next.events ch (suc k) (new.delivered ch) (slice_index_or (next.got ch) k [])
      unread_here k now count =
          let are = came_here (Plain (Del ch at)) true events (delivered-here ch at) in
          record {
            earlier = came (fates_of ch ls.events) (old.delivered ch);
            last = m;
            are = are;
            payload_is = payload_is (brings_new st ch) (is_unread net.shape st ch) k refl gets now count;
            bit_is = sym (ap (last_bit false) are ∙ last-more false (came (fates_of ch ls.events) (old.delivered ch)) m) ∙ (each ch here).last ∙ ap bit_of count;
            number_is = sym (messages ch here) ∙ count;
          }

      pub told_delivery : TellsLossy net.shape net.timing net.rows next new
      told_delivery = record {
        each = each;
        ran_on = ran_next net.shape net.timing net.rows ls next old new tells (Plain (Del ch at)) events grows (same_counts (Plain (Del ch at)) events nodes) (entries (brings_new st ch) (is_unread net.shape st ch) refl gets)
            (λ n a k is executes instant. absurd (no_act n a is));
        unread = λ c k lt now count. elim (eqb_tells c ch) [
          | inl e ↦ subst (λ c. EndsInCopy net.shape net.timing net.rows next.events c (suc k) (new.delivered c) (slice_index_or (next.got c) k [])) (sym e.1)
              (unread_here k (subst (λ c. is_unread net.shape st' c ≡ true) e.1 now) (subst (λ c. length (next.got c) ≡ suc k) e.1 count))
          | inr e ↦ still_unread c k lt (came_still (Plain (Del ch at)) events c (delivered-elsewhere c ch at (λ is. e.1 (sym is))) ((delivers.delivered told).elsewhere c e.1))
              (elsewhere (brings_new st ch) (is_unread net.shape st ch) gets c e.1) (same_counts (Plain (Del ch at)) events nodes (to_of net.shape c)) now count
        ];
      }
        where
          no_act : (n a : ℕ) → Path LossyEvent (Plain (Del ch at)) (Plain (Act n a)) → ⊥
          no_act n a is = absurd (cc)

  pub tells_next : (e : LossyEvent) (row : Option (List Value)) (payload : List Value) → IsLossyPlacedIn net.shape e → LossyGoesOn net ls next e row payload → CarriedLossy net next_net ls e old new payload → TellsLossy net.shape net.timing net.rows next new
  tells_next (Plain (Act n at)) row payload there goes sends = told_act n at goes.events goes.got (sends.delivered told)
  tells_next (Plain (Del ch at)) row payload there goes took =
      told_delivery ch at there took.0 took.2 goes.events (subst (λ p. GetsBy (brings_new st ch) (is_unread net.shape st ch) ls.got next.got ch p) (sym took.1) goes.got)
  tells_next (Plain (End at)) row payload there goes same =
      told_still (Plain (End at)) goes.events (λ i. ap (λ (z : LossyState). z.node i) (reached (Plain (End at)) goes.events) ∙ node-end net.shape net.timing net.rows st at i) (λ n a is. absurd (cc))
      (λ c lt. ([], same.delivered told c ∙ sym (append-nil (old.delivered c)))) goes.got (λ c lt. came_still (Plain (End at)) goes.events c refl (same.delivered told c))
  tells_next (Lose ch at) row payload there goes took = told_loss ch at there took.0 took.1 goes.events goes.got
