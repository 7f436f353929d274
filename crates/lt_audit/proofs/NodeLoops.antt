-- A loop over the channels of a node keeps what a loop over all channels keeps.
use Rattle.std.proofs.Common.{◌≡◌, ◌∙◌, ℕ, ◌+◌, ◌<◌, ◌==◌, ◌&&◌, not, Bool, true, false, List, length, refl, ap, sym, subst, arith, inl, inr, slice_index_or}
use Rattle.std.proofs.lemmas.Bool.Decides.{eqb_tells, Decides-eqb}
use Rattle.lt_arch.specs.declared.chan.Chan.{Chan}
use Rattle.lt_arch.specs.declared.event.Deed.{Deed}
use Rattle.lt_arch.specs.declared.timing.Protocol.{Protocol}
use Rattle.lt_arch.specs.State.{ChanState}
use Rattle.lt_arch.specs.Step.{is_send}
use Rattle.lt_arch.specs.Times.{Times}
use Rattle.lt_link.specs.Ports.{numbers, is_to, is_from}
use Rattle.lt_link.proofs.Listed.{from_start, onward, here, passes_zero}
use Rattle.lt_audit.specs.Audit.{LineState, chan_at}
use Rattle.lt_audit.specs.Acts.{SameLines, HasRoomOn, SentBelow, audited_chan, is_off, is_sent_on}
use Rattle.lt_audit.proofs.Lines.{room_passed}
use Rattle.lt_audit.proofs.SentOn.{not_sent, sent_passed}

-- what holds below c and at c holds below c + 1
one_more : (Q : ℕ → Type 0) (c : ℕ) → ((d : ℕ) → d < c → Q d) → Q c → (d : ℕ) → d < c + 1 → Q d
one_more Q c below at d lt = elim (eqb_tells d c) [
  | inl e ↦ subst Q (sym e.1) at
  | inr e ↦ let ne = e.1 in below d (omega (arith, lt, ne))
]

and_left : (a b : Bool) → (a && b) ≡ true → a ≡ true
and_left true b h = refl
and_left false b h = h

module _ (cs : List Chan) (n : ℕ) (xs : List ℕ) (is : xs ≡ numbers (is_to cs n true) (length cs)) (ls : List ChanState) (executed : ℕ) where
  -- no channel below k is off
  abbrev pub NoneOff : (k : ℕ) → Type 0
  NoneOff k = (c : ℕ) → c < k → is_off cs ls n executed c ≡ false

  off_skip : (c : ℕ) → c < length cs → is_to cs n true c ≡ false → NoneOff c → NoneOff (c + 1)
  off_skip c lt off none = one_more (λ d. is_off cs ls n executed d ≡ false) c none (ap (λ (x : Bool). x && not ((chan_at ls c).delivered == executed)) off)

  pub off_none : NoneOff (slice_index_or xs 0 (length cs))
  off_none = from_start (is_to cs n true) (length cs) xs is NoneOff off_skip (λ c lt. absurd (omega (arith, lt)))

  pub off_here : (i : ℕ) → i < length xs → NoneOff (slice_index_or xs i (length cs)) → NoneOff (slice_index_or xs i 0)
  off_here i lt none = here (length cs) xs NoneOff i lt none

  -- a channel of the list is off, or is not, as it has delivered
  pub off_by : (i : ℕ) → i < length xs → (b : Bool) → not ((chan_at ls (slice_index_or xs i 0)).delivered == executed) ≡ b → is_off cs ls n executed (slice_index_or xs i 0) ≡ b
  off_by i lt b is_b = ap (λ (x : Bool). x && not ((chan_at ls (slice_index_or xs i 0)).delivered == executed)) (passes_zero (is_to cs n true) (length cs) xs is i lt) ∙ is_b

  pub off_onward : (i : ℕ) → i < length xs → NoneOff (slice_index_or xs i 0) → is_off cs ls n executed (slice_index_or xs i 0) ≡ false → NoneOff (slice_index_or xs (i + 1) (length cs))
  off_onward i lt none here_too = onward (is_to cs n true) (length cs) xs is NoneOff off_skip i lt (one_more (λ d. is_off cs ls n executed d ≡ false) (slice_index_or xs i 0) none here_too)

module _ (cs : List Chan) (n : ℕ) (kind : Bool) (xs : List ℕ) (is : xs ≡ numbers (is_from cs n kind) (length cs)) where
  -- a channel of the list leads from the node
  pub leads_here : (i : ℕ) → i < length xs → (audited_chan cs (slice_index_or xs i 0)).from ≡ n
  leads_here i lt = (Decides-eqb _ n).0 (and_left _ _ (passes_zero (is_from cs n kind) (length cs) xs is i lt))

  module _ (old mid : List LineState) where
    abbrev pub Roomy : (k : ℕ) → Type 0
    Roomy k = SameLines old mid × HasRoomOn (is_from cs n kind) mid k

    roomy_skip : (c : ℕ) → c < length cs → is_from cs n kind c ≡ false → Roomy c → Roomy (c + 1)
    roomy_skip c lt off so_far = (so_far.0, room_passed (is_from cs n kind) mid c so_far.1 off)

    pub roomy_here : (i : ℕ) → i < length xs → Roomy (slice_index_or xs i (length cs)) → Roomy (slice_index_or xs i 0)
    roomy_here i lt so_far = here (length cs) xs Roomy i lt so_far

    pub roomy_onward : (i : ℕ) → i < length xs → Roomy (slice_index_or xs i 0 + 1) → Roomy (slice_index_or xs (i + 1) (length cs))
    roomy_onward i lt next = onward (is_from cs n kind) (length cs) xs is Roomy roomy_skip i lt next

    pub roomy_first : SameLines old mid → Roomy (slice_index_or xs 0 (length cs))
    roomy_first same = from_start (is_from cs n kind) (length cs) xs is Roomy roomy_skip (same, λ c lt. absurd (omega (arith, lt)))

-- A deed that sends sends on data channels, and another on those that carry acknowledgements, if on any.
module _ (cs : List Chan) (n : ℕ) (deed : Deed) (xs : List ℕ) (is : xs ≡ numbers (is_from cs n (is_send deed)) (length cs)) where
  -- a channel of the list leads from the node
  pub from_here : (i : ℕ) → i < length xs → (audited_chan cs (slice_index_or xs i 0)).from ≡ n
  from_here i lt = (Decides-eqb _ n).0 (and_left _ _ (passes_zero (is_from cs n (is_send deed)) (length cs) xs is i lt))

  module _ (p : Protocol) (at : ℕ) (old mid : List LineState) (w v : Times) where
    abbrev pub Sent : (k : ℕ) → Type 0
    Sent k = SentBelow (λ c. is_sent_on p n deed (audited_chan cs c)) at k old mid w v

    sent_skip : (c : ℕ) → c < length cs → is_from cs n (is_send deed) c ≡ false → Sent c → Sent (c + 1)
    sent_skip c lt off so_far = sent_passed (λ d. is_sent_on p n deed (audited_chan cs d)) at c old mid w v so_far (not_sent p n deed cs c off)

    pub sent_first : Sent 0 → Sent (slice_index_or xs 0 (length cs))
    sent_first so_far = from_start (is_from cs n (is_send deed)) (length cs) xs is Sent sent_skip so_far

    pub sent_here : (i : ℕ) → i < length xs → Sent (slice_index_or xs i (length cs)) → Sent (slice_index_or xs i 0)
    sent_here i lt so_far = here (length cs) xs Sent i lt so_far

    pub sent_onward : (i : ℕ) → i < length xs → Sent (slice_index_or xs i 0 + 1) → Sent (slice_index_or xs (i + 1) (length cs))
    sent_onward i lt next = onward (is_from cs n (is_send deed)) (length cs) xs is Sent sent_skip i lt next
