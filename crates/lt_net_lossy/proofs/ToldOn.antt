-- What a fabric tells of each channel goes on with the lists.
use Rattle.std.proofs.Common.{◌≡◌, ◌≢◌, inl, inr, ℕ, suc, ◌<◌, true, false, Bool, List, [], ◌∷◌, ◌++◌, length, Option, IsTrue, refl, sym, ap, ◌∙◌, subst, length-append, add-one}
use Rattle.std.proofs.lemmas.Bool.Decides.{eqb_tells}
use Rattle.lt_base.specs.declared.value.Value.{Value}
use Rattle.lt_arch.specs.declared.event.Event.TheVariants.{Act, Del, End}
use Rattle.lt_arch.specs.State.{NodeState}
use Rattle.lt_arch.specs.Readers.{chan_count}
use Rattle.lt_io.specs.declared.message.Message.{Message}
use Rattle.lt_io.specs.FabricState.{FabricState, Delivers}
use Rattle.lt_link.specs.Bits.{bit_of, differ}
use Rattle.lt_lossy.specs.declared.event.LossyEvent.{LossyEvent}
use Rattle.lt_lossy.specs.declared.event.LossyEvent.TheVariants.{Plain, Lose}
use Rattle.lt_lossy.specs.Step.{sends_number}
use Rattle.lt_lossy.specs.Events.{IsLossyPlacedIn}
use Rattle.lt_net_bench.specs.Changes.{NoListChanged}
use Rattle.lt_net_bench.proofs.Replaced.{replaced_length}
use Rattle.lt_net_lossy.specs.Net.{LossyBenchState, LossyLists, lossy_state_of}
use Rattle.lt_net_lossy.specs.Event.{LossyGoesOn, GetsBy, brings_new, is_unread}
use Rattle.lt_net_lossy.specs.Kept.{IsFixedLossy}
use Rattle.lt_net_lossy.specs.Laws.{StandsWith, woken_in}
use Rattle.lt_net_lossy.specs.Holds.{SendsLossy, lossy_message, with_one}
use Rattle.lt_net_lossy.specs.Taken.{CarriedLossy}
use Rattle.lt_net_lossy.proofs.Transit.{bit_tells}
use Rattle.lt_net_lossy.specs.Told.{fate_of, fates_of}
use Rattle.lt_net_lossy.specs.LossyPlays.{TellsAt, TellsEach}
use Rattle.lt_net_lossy.proofs.Fates.{fates-more, delivered-here, delivered-elsewhere, lost-here, lost-elsewhere, still_tells, sent_tells, lost_tells, new_tells, copy_tells}
use Rattle.lt_machine.specs.declared.machine.Machine.{Ghosts as Machines}
use Rattle.lt_arch.specs.declared.controller.Controller.{Ghosts as Controls}

module _ {C M : Type 0} (ctl : Controls C) (mch : Machines M) (net next_net : LossyBenchState C M) (ls next : LossyLists) (old new : FabricState)
    (fixed : IsFixedLossy net.layout net.shape net.timing) (with : StandsWith ctl mch net ls old) (told : IsTrue old.told) (tells : TellsEach net.shape ls old) where
  -- by the fate of a channel's message
  by_fate : (e : LossyEvent) → next.events ≡ ls.events ++ e ∷ [] → (c : ℕ) (fates : List Bool) → fate_of c e ≡ fates → TellsAt (fates_of c ls.events ++ fates) (length (next.got c)) (new.sent c) (new.delivered c) (new.transit c) →
      TellsAt (fates_of c next.events) (length (next.got c)) (new.sent c) (new.delivered c) (new.transit c)
  by_fate e events c fates is t =
      subst (λ fs. TellsAt fs (length (next.got c)) (new.sent c) (new.delivered c) (new.transit c)) (sym (ap (fates_of c) events ∙ fates-more c ls.events e ∙ ap (λ r. fates_of c ls.events ++ r) is)) t

  -- where a channel is as it was
  same_at : (e : LossyEvent) → next.events ≡ ls.events ++ e ∷ [] → (c : ℕ) → c < chan_count net.shape → fate_of c e ≡ [] → next.got c ≡ ls.got c → new.sent c ≡ old.sent c → new.delivered c ≡ old.delivered c → new.transit c ≡ old.transit c →
      TellsAt (fates_of c next.events) (length (next.got c)) (new.sent c) (new.delivered c) (new.transit c)
  same_at e events c lt none got sent delivered transit = by_fate e events c [] none
      (subst (λ ms. TellsAt (fates_of c ls.events ++ []) (length (next.got c)) (new.sent c) (new.delivered c) ms) (sym transit)
      (subst (λ ms. TellsAt (fates_of c ls.events ++ []) (length (next.got c)) (new.sent c) ms (old.transit c)) (sym delivered)
      (subst (λ ms. TellsAt (fates_of c ls.events ++ []) (length (next.got c)) ms (old.delivered c) (old.transit c)) (sym sent)
      (subst (λ k. TellsAt (fates_of c ls.events ++ []) k (old.sent c) (old.delivered c) (old.transit c)) (ap length (sym got))
      (still_tells (fates_of c ls.events) (length (ls.got c)) (old.sent c) (old.delivered c) (old.transit c) (tells c lt))))))

  -- a message left channel ch
  module _ (ch : ℕ) (here : ch < chan_count net.shape) (m : Message) (delivers : Delivers old new ch m) where
    at_ch : TellsAt (fates_of ch ls.events) (length (ls.got ch)) (old.sent ch) (old.delivered ch) (delivers.oldest ∷ new.transit ch)
    at_ch = subst (λ ms. TellsAt (fates_of ch ls.events) (length (ls.got ch)) (old.sent ch) (old.delivered ch) ms) delivers.taken (tells ch here)

    -- by what is right of the channel with the message taken
    moved : (fates : List Bool) (newest : ℕ) → TellsAt (fates_of ch ls.events ++ fates) newest (old.sent ch) (old.delivered ch ++ m ∷ []) (new.transit ch) → length (next.got ch) ≡ newest →
        TellsAt (fates_of ch ls.events ++ fates) (length (next.got ch)) (new.sent ch) (new.delivered ch) (new.transit ch)
    moved fates newest t is =
        subst (λ ms. TellsAt (fates_of ch ls.events ++ fates) (length (next.got ch)) (new.sent ch) ms (new.transit ch)) (sym (delivers.delivered told).there)
        (subst (λ ms. TellsAt (fates_of ch ls.events ++ fates) (length (next.got ch)) ms (old.delivered ch ++ m ∷ []) (new.transit ch)) (sym (delivers.sent told ch))
        (subst (λ k. TellsAt (fates_of ch ls.events ++ fates) k (old.sent ch) (old.delivered ch ++ m ∷ []) (new.transit ch)) (sym is) t))

    elsewhere : (e : LossyEvent) → next.events ≡ ls.events ++ e ∷ [] → (c : ℕ) → c < chan_count net.shape → ch ≢ c → fate_of c e ≡ [] → next.got c ≡ ls.got c → TellsAt (fates_of c next.events) (length (next.got c)) (new.sent c) (new.delivered c) (new.transit c)
    elsewhere e events c lt other none got = same_at e events c lt none got (delivers.sent told c) ((delivers.delivered told).elsewhere c (λ is. other (sym is))) (delivers.elsewhere c (λ is. other (sym is)))

    -- it was lost
    tells_loss : (at : ℕ) → next.events ≡ ls.events ++ Lose ch at ∷ [] → NoListChanged ls.got next.got → TellsEach net.shape next new
    tells_loss at events got c lt = elim (eqb_tells ch c) [
      | inl e ↦ subst (λ c. TellsAt (fates_of c next.events) (length (next.got c)) (new.sent c) (new.delivered c) (new.transit c)) e.1
          (by_fate (Lose ch at) events ch (false ∷ []) (lost-here ch at) (moved (false ∷ []) (length (ls.got ch)) (lost_tells (fates_of ch ls.events) (length (ls.got ch)) (old.sent ch) (old.delivered ch) delivers.oldest m (new.transit ch) at_ch) (ap length (got ch))))
      | inr e ↦ elsewhere (Lose ch at) events c lt e.1 (lost-elsewhere c ch at e.1) (got c)
    ]

    -- it was delivered
    newness : brings_new (lossy_state_of net ls) ch ≡ differ m.bit (bit_of (length (ls.got ch)))
    newness = bit_tells ctl mch net ls next with.standing fixed old with.holds ch here delivers.oldest (new.transit ch) delivers.taken ∙ ap (λ b. differ b (bit_of (length (ls.got ch)))) (sym delivers.bit)

    copied : brings_new (lossy_state_of net ls) ch ≡ false → length (next.got ch) ≡ length (ls.got ch) → TellsAt (fates_of ch ls.events ++ true ∷ []) (length (next.got ch)) (new.sent ch) (new.delivered ch) (new.transit ch)
    copied is same = moved (true ∷ []) (length (ls.got ch)) (copy_tells (fates_of ch ls.events) (length (ls.got ch)) (old.sent ch) (old.delivered ch) delivers.oldest m (new.transit ch) at_ch (sym newness ∙ is)) same

    arrived : (b unread : Bool) → brings_new (lossy_state_of net ls) ch ≡ b → GetsBy b unread ls.got next.got ch m.payload → TellsAt (fates_of ch ls.events ++ true ∷ []) (length (next.got ch)) (new.sent ch) (new.delivered ch) (new.transit ch)
    arrived true unread is gets =
        moved (true ∷ []) (suc (length (ls.got ch))) (new_tells (fates_of ch ls.events) (length (ls.got ch)) (old.sent ch) (old.delivered ch) delivers.oldest m (new.transit ch) at_ch (sym newness ∙ is))
        (ap length gets.there ∙ length-append (ls.got ch) (m.payload ∷ []) ∙ add-one (length (ls.got ch)))
    arrived false true is gets = copied is (replaced_length ls.got next.got ch m.payload gets ch)
    arrived false false is gets = copied is (ap length (gets ch))

    others : (b unread : Bool) (p : List Value) → GetsBy b unread ls.got next.got ch p → (c : ℕ) → ch ≢ c → next.got c ≡ ls.got c
    others true unread p gets c other = gets.elsewhere c (λ is. other (sym is))
    others false true p gets c other = gets.elsewhere c (λ is. other (sym is))
    others false false p gets c other = gets c

    tells_delivery : (at : ℕ) → next.events ≡ ls.events ++ Plain (Del ch at) ∷ [] → GetsBy (brings_new (lossy_state_of net ls) ch) (is_unread net.shape (lossy_state_of net ls) ch) ls.got next.got ch m.payload → TellsEach net.shape next new
    tells_delivery at events gets c lt = elim (eqb_tells ch c) [
      | inl e ↦ subst (λ c. TellsAt (fates_of c next.events) (length (next.got c)) (new.sent c) (new.delivered c) (new.transit c)) e.1
          (by_fate (Plain (Del ch at)) events ch (true ∷ []) (delivered-here ch at) (arrived (brings_new (lossy_state_of net ls) ch) (is_unread net.shape (lossy_state_of net ls) ch) refl gets))
      | inr e ↦ elsewhere (Plain (Del ch at)) events c lt e.1 (delivered-elsewhere c ch at e.1) (others (brings_new (lossy_state_of net ls) ch) (is_unread net.shape (lossy_state_of net ls) ch) m.payload gets c e.1)
    ]

  -- node n, which is v then, sent again
  module _ (n at : ℕ) (v : NodeState) (posted : List (List Value)) (sends : SendsLossy net.shape n v posted old new) (events : next.events ≡ ls.events ++ Plain (Act n at) ∷ []) (got : NoListChanged ls.got next.got) where
    abbrev also : (c : ℕ) → List Message → List Message
    also c ms = with_one (sends_number net.shape n v c) ms (lossy_message net.shape v posted c)

    tells_act : TellsEach net.shape next new
    tells_act c lt = by_fate (Plain (Act n at)) events c [] refl
        (subst (λ ms. TellsAt (fates_of c ls.events ++ []) (length (next.got c)) (new.sent c) (new.delivered c) ms) (sym (sends.transit c lt))
        (subst (λ ms. TellsAt (fates_of c ls.events ++ []) (length (next.got c)) (new.sent c) ms (also c (old.transit c))) (sym (sends.delivered told c lt))
        (subst (λ ms. TellsAt (fates_of c ls.events ++ []) (length (next.got c)) ms (old.delivered c) (also c (old.transit c))) (sym (sends.sent told c lt))
        (subst (λ k. TellsAt (fates_of c ls.events ++ []) k (also c (old.sent c)) (old.delivered c) (also c (old.transit c))) (ap length (sym (got c)))
        (sent_tells (fates_of c ls.events) (length (ls.got c)) (old.sent c) (old.delivered c) (old.transit c) (sends_number net.shape n v c) (lossy_message net.shape v posted c) (tells c lt))))))

  pub tells_on : (e : LossyEvent) (row : Option (List Value)) (payload : List Value) → IsLossyPlacedIn net.shape e → LossyGoesOn net ls next e row payload → CarriedLossy net next_net ls e old new payload → TellsEach net.shape next new
  tells_on (Plain (Act n at)) row payload there goes sends = tells_act n at (woken_in net ls n at) next_net.posted sends goes.events goes.got
  tells_on (Plain (Del ch at)) row payload there goes took =
      tells_delivery ch there took.0 took.2 at goes.events (subst (λ p. GetsBy (brings_new (lossy_state_of net ls) ch) (is_unread net.shape (lossy_state_of net ls) ch) ls.got next.got ch p) (sym took.1) goes.got)
  tells_on (Plain (End at)) row payload there goes same = λ c lt. same_at (Plain (End at)) goes.events c lt refl (goes.got c) (same.sent told c) (same.delivered told c) (same.transit c)
  tells_on (Lose ch at) row payload there goes took = tells_loss ch there took.0 took.1 at goes.events goes.got
