-- One channel more on which a message is sent again.
use Rattle.std.proofs.Common.{◌≡◌, ℕ, ◌+◌, ◌<◌, ◌≤◌, Bool, true, false, List, [], ◌∷◌, ◌++◌, length, set, refl, sym, ap, ◌∙◌, subst, arith, inl, inr, length-set, cond}
use Rattle.std.specs.Prelude.{◌&&◌, nat_lt, slice_index_or}
use Rattle.std.proofs.lemmas.Bool.Decides.{eqb_tells}
use Rattle.std.proofs.lemmas.List.{get_or-set_same, get_or-set_other}
use Rattle.lt_io.specs.declared.message.Message.{Message}
use Rattle.lt_io.specs.FabricState.{FabricState, Sends, KeepsFabric}
use Rattle.lt_lossy.specs.Times.{LossyTimes, queue_at, with_sent_on}
use Rattle.lt_net_node.proofs.Below.{lt_none, lt_here, lt_self, lt_other}
use Rattle.lt_link.specs.Ports.{numbers}
use Rattle.lt_link.proofs.Listed.{from_start, onward, here, at_end}
use Rattle.lt_net.proofs.SendLoop.{keeps_refl, keeps_trans, sends_none, sends_more, sends_skip}
use Rattle.lt_net_lossy.specs.Sends.{SentUpTo}
use Rattle.lt_net.specs.Sends.{messages_with}

-- the send times of a channel, with one more or as they were
abbrev queue_with : Bool → (at : ℕ) → List ℕ → List ℕ
queue_with b at q = cond b (q ++ at ∷ []) q

module _ (p : ℕ → Bool) (i at : ℕ) (olds mid : List (List ℕ)) (each : (c : ℕ) → c < length olds → slice_index_or mid c [] ≡ queue_with (nat_lt c i && p c) at (slice_index_or olds c [])) where
  same_here : i < length olds → slice_index_or mid i [] ≡ slice_index_or olds i []
  same_here lt = each i lt ∙ ap (λ b. queue_with (b && p i) at (slice_index_or olds i [])) (lt_self i)

  queued : length mid ≡ length olds → i < length olds → p i ≡ true → (c : ℕ) → c < length olds →
      slice_index_or (set mid i (slice_index_or mid i [] ++ at ∷ [])) c [] ≡ queue_with (nat_lt c (i + 1) && p c) at (slice_index_or olds c [])
  queued same lt yes_here c h = elim (eqb_tells c i) [
    | inl e ↦
        let there : slice_index_or (set mid i (slice_index_or mid i [] ++ at ∷ [])) i [] ≡ queue_with (nat_lt i (i + 1) && p i) at (slice_index_or olds i []) =
        get_or-set_same mid i (slice_index_or mid i [] ++ at ∷ []) [] (omega (arith, lt, same)) ∙ ap (λ q. q ++ at ∷ []) (same_here lt)
        ∙ sym (ap (λ b. queue_with (b && p i) at (slice_index_or olds i [])) (lt_here i) ∙ ap (λ b. queue_with b at (slice_index_or olds i [])) yes_here) in
        subst (λ c. slice_index_or (set mid i (slice_index_or mid i [] ++ at ∷ [])) c [] ≡ queue_with (nat_lt c (i + 1) && p c) at (slice_index_or olds c [])) (sym e.1) there
    | inr e ↦ get_or-set_other mid i c (slice_index_or mid i [] ++ at ∷ []) [] e.1 ∙ each c h ∙ ap (λ b. queue_with (b && p c) at (slice_index_or olds c [])) (sym (lt_other c i e.1))
  ]

  unqueued : p i ≡ false → (c : ℕ) → c < length olds → slice_index_or mid c [] ≡ queue_with (nat_lt c (i + 1) && p c) at (slice_index_or olds c [])
  unqueued no_here c h = elim (eqb_tells c i) [
    | inl e ↦
        let there : slice_index_or mid i [] ≡ queue_with (nat_lt i (i + 1) && p i) at (slice_index_or olds i []) =
        same_here (subst (λ c. c < length olds) e.1 h)
        ∙ sym (ap (λ b. queue_with (b && p i) at (slice_index_or olds i [])) (lt_here i) ∙ ap (λ b. queue_with b at (slice_index_or olds i [])) no_here) in
        subst (λ c. slice_index_or mid c [] ≡ queue_with (nat_lt c (i + 1) && p c) at (slice_index_or olds c [])) (sym e.1) there
    | inr e ↦ each c h ∙ ap (λ b. queue_with (b && p c) at (slice_index_or olds c [])) (sym (lt_other c i e.1))
  ]

module _ (p : ℕ → Bool) (m : ℕ → Message) (i at : ℕ) (old mid : FabricState) (w v : LossyTimes) (upto : SentUpTo i p m at old mid w v) where
  pub mid_length : length v.queues ≡ length w.queues
  mid_length = ap (λ (z : LossyTimes). length z.queues) upto.notes.is ∙ upto.notes.are.same_length

  mid_each : (c : ℕ) → c < length w.queues → slice_index_or v.queues c [] ≡ queue_with (nat_lt c i && p c) at (slice_index_or w.queues c [])
  mid_each c h = ap (λ (z : LossyTimes). slice_index_or z.queues c []) upto.notes.is ∙ upto.notes.are.each c h

  -- nothing was sent yet on the channel
  pub queue_here : i < length w.queues → queue_at v i ≡ queue_at w i
  queue_here lt = same_here p i at w.queues v.queues mid_each lt

  pub transit_here : mid.transit i ≡ old.transit i
  transit_here = upto.sends.transit i ∙ ap (λ b. messages_with (b && p i) (old.transit i) (m i)) (lt_self i)

  pub up_to_more : (new : FabricState) (u : LossyTimes) → i < length w.queues → p i ≡ true → Sends mid new i (m i) → KeepsFabric mid new → new.faults ≡ mid.faults → u ≡ with_sent_on v i at → SentUpTo (i + 1) p m at old new w u
  up_to_more new u lt h sends keeps faults is = record {
    sends = sends_more p m i old mid new upto.sends h sends keeps.told;
    notes = record {
      queues = set v.queues i (queue_at v i ++ at ∷ []);
      are = record { same_length = length-set v.queues i (queue_at v i ++ at ∷ []) ∙ mid_length; each = queued p i at w.queues v.queues mid_each mid_length lt h };
      is = is ∙ ap (λ (z : LossyTimes). record z { queues = set v.queues i (queue_at v i ++ at ∷ []) }) upto.notes.is;
    };
    faults = faults ∙ upto.faults;
    keeps = keeps_trans old mid new upto.keeps keeps;
  }

  pub up_to_skip : p i ≡ false → SentUpTo (i + 1) p m at old mid w v
  up_to_skip h = record {
    sends = sends_skip p m i old mid upto.sends h;
    notes = record {
      queues = v.queues;
      are = record { same_length = mid_length; each = unqueued p i at w.queues v.queues mid_each h };
      is = upto.notes.is ∙ ap (λ (xs : List (List ℕ)). record w { queues = xs }) (sym (ap (λ (z : LossyTimes). z.queues) upto.notes.is));
    };
    faults = upto.faults;
    keeps = upto.keeps;
  }

pub up_to_none : (p : ℕ → Bool) (m : ℕ → Message) (at : ℕ) (s : FabricState) (w : LossyTimes) → SentUpTo 0 p m at s s w w
up_to_none p m at s w = record {
  sends = sends_none p m s;
  notes = record { queues = w.queues; are = record { same_length = refl; each = λ c h. ap (λ b. queue_with (b && p c) at (slice_index_or w.queues c [])) (sym (lt_none c)) }; is = refl };
  faults = refl;
  keeps = keeps_refl s;
}

-- The channels of a node send.
module _ (on : ℕ → Bool) (n : ℕ) (xs : List ℕ) (is : xs ≡ numbers on n) (message : ℕ → Message) (at : ℕ) (old : FabricState) (w : LossyTimes) where
  skip_sent : (new : FabricState) (v : LossyTimes) (c : ℕ) → c < n → on c ≡ false → SentUpTo c on message at old new w v → SentUpTo (c + 1) on message at old new w v
  skip_sent new v c lt off h = up_to_skip on message c at old new w v h off

  pub sends_begin : SentUpTo (slice_index_or xs 0 n) on message at old old w w
  sends_begin = from_start on n xs is (λ c. SentUpTo c on message at old old w w) (skip_sent old w) (up_to_none on message at old w)

  pub sends_here : (new : FabricState) (v : LossyTimes) (i : ℕ) → i < length xs → SentUpTo (slice_index_or xs i n) on message at old new w v → SentUpTo (slice_index_or xs i 0) on message at old new w v
  sends_here new v i lt h = here n xs (λ c. SentUpTo c on message at old new w v) i lt h

  pub sends_onward : (new : FabricState) (v : LossyTimes) (i : ℕ) → i < length xs → SentUpTo (slice_index_or xs i 0 + 1) on message at old new w v → SentUpTo (slice_index_or xs (i + 1) n) on message at old new w v
  sends_onward new v i lt h = onward on n xs is (λ c. SentUpTo c on message at old new w v) (skip_sent new v) i lt h

  pub sends_end : (new : FabricState) (v : LossyTimes) (i : ℕ) → length xs ≤ i → SentUpTo (slice_index_or xs i n) on message at old new w v → SentUpTo n on message at old new w v
  sends_end new v i ge h = at_end n xs (λ c. SentUpTo c on message at old new w v) i ge h
