-- What is told of a channel when one message more leaves it, or is sent on it.
use Rattle.std.proofs.Common.{◌≡◌, ◌≢◌, inl, inr, ℕ, zero, suc, ◌+◌, ◌≤◌, Bool, true, false, List, [], ◌∷◌, ◌++◌, length, take, refl, sym, ap, ◌∙◌, subst, arith, length-append, add-one, add-zero}
use Rattle.std.proofs.lemmas.Bool.Decides.{eqb_tells}
use Rattle.std.proofs.lemmas.List.{append_assoc, append-nil}
use Rattle.lt_arch.specs.declared.event.Event.TheVariants.{Del}
use Rattle.lt_io.specs.declared.message.Message.{Message}
use Rattle.lt_link.specs.Bits.{bit_of, differ}
use Rattle.lt_lossy.specs.declared.event.LossyEvent.{LossyEvent}
use Rattle.lt_lossy.specs.declared.event.LossyEvent.TheVariants.{Plain, Lose}
use Rattle.lt_net_bench.proofs.Bits.{differ_is, differ_none}
use Rattle.lt_net_lossy.specs.Holds.{with_one}
use Rattle.lt_net_lossy.specs.Told.{fate_of, fates_of, kept_if, came, without_copies}
use Rattle.lt_net_lossy.specs.LossyPlays.{last_bit, TellsAt}

pub fates-more : (c : ℕ) (es : List LossyEvent) (e : LossyEvent) → fates_of c (es ++ e ∷ []) ≡ fates_of c es ++ fate_of c e
fates-more c [] e = append-nil (fate_of c e)
fates-more c (x ∷ es) e = ap (λ r. fate_of c x ++ r) (fates-more c es e) ∙ sym (append_assoc (fate_of c x) (fates_of c es) (fate_of c e))

-- the fate of a message is that of its own channel
pub delivered-here : (c at : ℕ) → fate_of c (Plain (Del c at)) ≡ true ∷ []
delivered-here c at = elim (eqb_tells c c) [ inl e ↦ rw e.0 refl | inr e ↦ absurd (e.1 refl) ]

pub delivered-elsewhere : (c d at : ℕ) → d ≢ c → fate_of c (Plain (Del d at)) ≡ []
delivered-elsewhere c d at other = elim (eqb_tells d c) [ inl e ↦ absurd (other e.1) | inr e ↦ rw e.0 refl ]

pub lost-here : (c at : ℕ) → fate_of c (Lose c at) ≡ false ∷ []
lost-here c at = elim (eqb_tells c c) [ inl e ↦ rw e.0 refl | inr e ↦ absurd (e.1 refl) ]

pub lost-elsewhere : (c d at : ℕ) → d ≢ c → fate_of c (Lose d at) ≡ []
lost-elsewhere c d at other = elim (eqb_tells d c) [ inl e ↦ absurd (other e.1) | inr e ↦ rw e.0 refl ]

pub came-more : (fates : List Bool) (ms : List Message) (fate : Bool) (m : Message) → length ms ≡ length fates → came (fates ++ fate ∷ []) (ms ++ m ∷ []) ≡ came fates ms ++ kept_if fate m
came-more [] [] fate m same = append-nil (kept_if fate m)
came-more [] (x ∷ ms) fate m same = absurd (omega (arith, same))
came-more (f ∷ fates) [] fate m same = absurd (omega (arith, same))
came-more (f ∷ fates) (x ∷ ms) fate m same = ap (λ r. kept_if f x ++ r) (came-more fates ms fate m (omega (arith, same))) ∙ sym (append_assoc (kept_if f x) (came fates ms) (kept_if fate m))

copies-more : (last : Bool) (ms : List Message) (m : Message) → without_copies last (ms ++ m ∷ []) ≡ without_copies last ms ++ kept_if (differ m.bit (last_bit last ms)) m
copies-more last [] m = append-nil (kept_if (differ m.bit last) m)
copies-more last (x ∷ ms) m = ap (λ r. kept_if (differ x.bit last) x ++ r) (copies-more x.bit ms m) ∙ sym (append_assoc (kept_if (differ x.bit last) x) (without_copies x.bit ms) (kept_if (differ m.bit (last_bit x.bit ms)) m))

pub last-more : (last : Bool) (ms : List Message) (m : Message) → last_bit last (ms ++ m ∷ []) ≡ m.bit
last-more last [] m = refl
last-more last (x ∷ ms) m = last-more x.bit ms m

came-front : (fates : List Bool) (ms more : List Message) → length fates ≤ length ms → came fates (ms ++ more) ≡ came fates ms
came-front [] ms more le = refl
came-front (f ∷ fates) [] more le = absurd (omega (arith, le))
came-front (f ∷ fates) (m ∷ ms) more le = ap (λ r. kept_if f m ++ r) (came-front fates ms more (omega (arith, le)))

fates-take : (c i : ℕ) (es : List LossyEvent) → length (fates_of c (take i es)) ≤ length (fates_of c es)
fates-take c zero es = omega arith
fates-take c (suc i) [] = omega arith
fates-take c (suc i) (e ∷ es) =
    let a = length-append (fate_of c e) (fates_of c (take i es)) in
    let b = length-append (fate_of c e) (fates_of c es) in
    let h = fates-take c i es in
    omega (arith, a, b, h)

-- what came by the first events does not change when more leaves the channel
pub came-before : (c i : ℕ) (es : List LossyEvent) (ms more : List Message) → length ms ≡ length (fates_of c es) → came (fates_of c (take i es)) (ms ++ more) ≡ came (fates_of c (take i es)) ms
came-before c i es ms more taken = came-front (fates_of c (take i es)) ms more (let h = fates-take c i es in omega (arith, h, taken))

module _ (fates : List Bool) (newest : ℕ) (sent delivered : List Message) where
  -- nothing leaves the channel
  pub still_tells : (transit : List Message) → TellsAt fates newest sent delivered transit → TellsAt (fates ++ []) newest sent delivered transit
  still_tells transit t = subst (λ fs. TellsAt fs newest sent delivered transit) (sym (append-nil fates)) t

  -- a message is sent, or none
  pub sent_tells : (transit : List Message) (b : Bool) (m : Message) → TellsAt fates newest sent delivered transit → TellsAt (fates ++ []) newest (with_one b sent m) delivered (with_one b transit m)
  sent_tells transit b m t = subst (λ fs. TellsAt fs newest (with_one b sent m) delivered (with_one b transit m)) (sym (append-nil fates)) (record { taken = t.taken; counted = t.counted; total = total b; last = t.last })
    where
      total : (b : Bool) → length (with_one b sent m) ≡ length fates + length (with_one b transit m)
      total true = let a = length-append sent (m ∷ []) in let c = length-append transit (m ∷ []) in let d = t.total in omega (arith, a, c, d)
      total false = t.total

  -- the oldest message leaves it
  module _ (oldest m : Message) (transit : List Message) (t : TellsAt fates newest sent delivered (oldest ∷ transit)) where
    fewer : (fate : Bool) → length sent ≡ length (fates ++ fate ∷ []) + length transit
    fewer fate = let a = length-append fates (fate ∷ []) in let b = t.total in omega (arith, a, b)

    longer : (fate : Bool) → length (delivered ++ m ∷ []) ≡ length (fates ++ fate ∷ [])
    longer fate = let a = length-append fates (fate ∷ []) in let b = length-append delivered (m ∷ []) in let c = t.taken in omega (arith, a, b, c)

    -- it is lost
    lost_is : came (fates ++ false ∷ []) (delivered ++ m ∷ []) ≡ came fates delivered
    lost_is = came-more fates delivered false m t.taken ∙ append-nil (came fates delivered)

    pub lost_tells : TellsAt (fates ++ false ∷ []) newest sent (delivered ++ m ∷ []) transit
    lost_tells = record {
      taken = longer false;
      counted = ap (λ ms. length (without_copies false ms)) lost_is ∙ t.counted;
      total = fewer false;
      last = ap (last_bit false) lost_is ∙ t.last;
    }

    -- it is delivered
    came_is : came (fates ++ true ∷ []) (delivered ++ m ∷ []) ≡ came fates delivered ++ m ∷ []
    came_is = came-more fates delivered true m t.taken

    counted_is : length (without_copies false (came (fates ++ true ∷ []) (delivered ++ m ∷ []))) ≡ newest + length (kept_if (differ m.bit (bit_of newest)) m)
    counted_is =
        ap (λ ms. length (without_copies false ms)) came_is
        ∙ ap length (copies-more false (came fates delivered) m)
        ∙ length-append (without_copies false (came fates delivered)) (kept_if (differ m.bit (last_bit false (came fates delivered))) m)
        ∙ (λ i. t.counted i + length (kept_if (differ m.bit (t.last i)) m))

    last_is : last_bit false (came (fates ++ true ∷ []) (delivered ++ m ∷ [])) ≡ m.bit
    last_is = ap (last_bit false) came_is ∙ last-more false (came fates delivered) m

    -- as a new one
    pub new_tells : differ m.bit (bit_of newest) ≡ true → TellsAt (fates ++ true ∷ []) (suc newest) sent (delivered ++ m ∷ []) transit
    new_tells new = record {
      taken = longer true;
      counted = counted_is ∙ ap (λ b. newest + length (kept_if b m)) new ∙ add-one newest;
      total = fewer true;
      last = last_is ∙ differ_is m.bit (bit_of newest) new;
    }

    -- or as a copy
    pub copy_tells : differ m.bit (bit_of newest) ≡ false → TellsAt (fates ++ true ∷ []) newest sent (delivered ++ m ∷ []) transit
    copy_tells old = record {
      taken = longer true;
      counted = counted_is ∙ ap (λ b. newest + length (kept_if b m)) old ∙ add-zero newest;
      total = fewer true;
      last = last_is ∙ differ_none m.bit (bit_of newest) old;
    }
