-- What instants ran on, as a fabric tells it, goes on with the lists.
use Rattle.std.proofs.Common.{◌≡◌, inl, inr, ℕ, suc, ◌<◌, ◌≤◌, true, List, [], ◌∷◌, ◌++◌, length, take, Some, refl, sym, ap, ◌∙◌, subst, arith, length-append}
use Rattle.std.specs.Prelude.{slice_index_or}
use Rattle.std.specs.List.{slice_get}
use Rattle.std.proofs.Math.ListN.{get_or-append}
use Rattle.std.proofs.Math.Seq.{get_or-append_seam, take-length}
use Rattle.std.proofs.lemmas.Bool.{cases_lt}
use Rattle.std.proofs.lemmas.List.{take-append-le}
use Rattle.std.proofs.lemmas.Option.{slice_get_within, get_or_from_slice_get, slice_get_read}
use Rattle.lt_arch.specs.declared.event.Deed.TheVariants.{Execute}
use Rattle.lt_arch.specs.declared.event.Event.TheVariants.{Act}
use Rattle.lt_arch.specs.declared.shape.Shape.{Shape}
use Rattle.lt_arch.specs.declared.timing.Timing.{Timing}
use Rattle.lt_arch.specs.Deeds.{deed_at}
use Rattle.lt_arch.specs.Readers.{chan_count, to_of, carries_data}
use Rattle.lt_io.specs.declared.message.Message.{Message}
use Rattle.lt_io.specs.FabricState.{FabricState}
use Rattle.lt_lossy.specs.declared.event.LossyEvent.{LossyEvent}
use Rattle.lt_lossy.specs.declared.event.LossyEvent.TheVariants.{Plain}
use Rattle.lt_lossy.specs.State.{LossyState, plain_of}
use Rattle.lt_lossy.specs.Schedule.{lossy_reached}
use Rattle.lt_net_lossy.specs.Net.{LossyLists}
use Rattle.lt_net_lossy.specs.Event.{is_unread}
use Rattle.lt_net_lossy.specs.Told.{fates_of, came, ExecutesAt, EndsInCopy}
use Rattle.lt_net_lossy.specs.LossyPlays.{TellsLossy}
use Rattle.lt_net_lossy.proofs.Fates.{came-before}

-- an event before the last one, and the last one
earlier_event : (es : List LossyEvent) (e x : LossyEvent) (i : ℕ) → i < length es → slice_get (es ++ e ∷ []) i ≡ Some x → slice_get es i ≡ Some x
earlier_event es e x i lt is = slice_get_read es (length es) i x refl lt (sym (get_or_from_slice_get (es ++ e ∷ []) i x x is) ∙ get_or-append es (e ∷ []) x i lt)

last_event : (es : List LossyEvent) (e x : LossyEvent) → slice_get (es ++ e ∷ []) (length es) ≡ Some x → e ≡ x
last_event es e x is = sym (get_or-append_seam es e [] x) ∙ get_or_from_slice_get (es ++ e ∷ []) (length es) x x is

-- where a node executes at an event one instant more is executed, and it had a message for it that it had not run on
pub record HadUnread (s : Shape) (ls : LossyLists) (before after : LossyState) (n k : ℕ) : Type 0 where
  pub more : suc k < (after.node n).executed
  pub there : (c : ℕ) → c < chan_count s → carries_data s c ≡ true → to_of s c ≡ n → (is_unread s before c ≡ true) × (length (ls.got c) ≡ suc k)

module _ (s : Shape) (t : Timing) (rows : ℕ) (ls next : LossyLists) (old new : FabricState) (tells : TellsLossy s t rows ls old) (e : LossyEvent) (events : next.events ≡ ls.events ++ e ∷ [])
    (grows : (c : ℕ) → c < chan_count s → (more : List Message) × (new.delivered c ≡ old.delivered c ++ more))
    (counts : (n : ℕ) → ((lossy_reached s t rows ls.events).node n).executed ≤ ((lossy_reached s t rows next.events).node n).executed)
    (entries : (c k : ℕ) → c < chan_count s → carries_data s c ≡ true → suc k < ((lossy_reached s t rows next.events).node (to_of s c)).executed → slice_index_or (next.got c) k [] ≡ slice_index_or (ls.got c) k [])
    (acted : (n at k : ℕ) → e ≡ Plain (Act n at) → deed_at s rows (plain_of (lossy_reached s t rows ls.events)) n ≡ Execute → ((lossy_reached s t rows ls.events).node n).executed ≡ suc k →
    HadUnread s ls (lossy_reached s t rows ls.events) (lossy_reached s t rows next.events) n k) where
  abbrev st : LossyState
  st = lossy_reached s t rows ls.events

  abbrev st' : LossyState
  st' = lossy_reached s t rows next.events

  -- the events before number i are the same
  front : (i : ℕ) → i ≤ length ls.events → take i next.events ≡ take i ls.events
  front i le = ap (take i) events ∙ take-append-le i ls.events (e ∷ []) le

  -- and so is what was delivered before
  still_ends : (i c k : ℕ) → i ≤ length ls.events → c < chan_count s → carries_data s c ≡ true → suc k < (st'.node (to_of s c)).executed →
      EndsInCopy s t rows (take i ls.events) c (suc k) (old.delivered c) (slice_index_or (ls.got c) k []) → EndsInCopy s t rows (take i next.events) c (suc k) (new.delivered c) (slice_index_or (next.got c) k [])
  still_ends i c k le lt carries more ends = subst (λ es. EndsInCopy s t rows es c (suc k) (new.delivered c) (slice_index_or (next.got c) k [])) (sym (front i le)) (record {
    earlier = ends.earlier;
    last = ends.last;
    are = ap (came (fates_of c (take i ls.events))) (grows c lt).1 ∙ came-before c i ls.events (old.delivered c) (grows c lt).0 (tells.each c lt).taken ∙ ends.are;
    payload_is = ends.payload_is ∙ sym (entries c k lt carries more);
    bit_is = ends.bit_is;
    number_is = ends.number_is;
  })

  abbrev RanOn : (i n k : ℕ) → Type 0
  RanOn i n k = (suc k < (st'.node n).executed) × ((c : ℕ) → c < chan_count s → carries_data s c ≡ true → to_of s c ≡ n → EndsInCopy s t rows (take i next.events) c (suc k) (new.delivered c) (slice_index_or (next.got c) k []))

  -- an instant that an earlier event executed
  ran_before : (i n k : ℕ) → i < length ls.events → ExecutesAt s t rows next.events i n (suc k) → RanOn i n k
  ran_before i n k lt x =
      let same : take i next.events ≡ take i ls.events = front i (omega (arith, lt)) in
      let ran = tells.ran_on i n k (record {
        at = x.at;
        is = earlier_event ls.events e (Plain (Act n x.at)) i lt (ap (λ es. slice_get es i) (sym events) ∙ x.is);
        executes = ap (λ es. deed_at s rows (plain_of (lossy_reached s t rows es)) n) (sym same) ∙ x.executes;
        instant = ap (λ es. ((lossy_reached s t rows es).node n).executed) (sym same) ∙ x.instant;
      }) in
      let more : suc k < (st'.node n).executed = let a = ran.0 in let b = counts n in omega (arith, a, b) in
      (more, λ c cb carries to. still_ends i c k (omega (arith, lt)) cb carries (subst (λ j. suc k < (st'.node j).executed) (sym to) more) (ran.1 c cb carries to))

  -- an instant that the last event executed
  ran_last : (i n k : ℕ) → i ≡ length ls.events → ExecutesAt s t rows next.events i n (suc k) → RanOn i n k
  ran_last i n k at_end x =
      let whole : take i ls.events ≡ ls.events = ap (λ j. take j ls.events) at_end ∙ take-length ls.events in
      let same : take i next.events ≡ ls.events = front i (omega (arith, at_end)) ∙ whole in
      let had = acted n x.at k
      (last_event ls.events e (Plain (Act n x.at)) (ap (λ j. slice_get (ls.events ++ e ∷ []) j) (sym at_end) ∙ ap (λ es. slice_get es i) (sym events) ∙ x.is))
      (ap (λ es. deed_at s rows (plain_of (lossy_reached s t rows es)) n) (sym same) ∙ x.executes)
      (ap (λ es. ((lossy_reached s t rows es).node n).executed) (sym same) ∙ x.instant) in (
        had.more,
        λ c cb carries to.
            let newest = had.there c cb carries to in
            still_ends i c k (omega (arith, at_end)) cb carries (subst (λ j. suc k < (st'.node j).executed) (sym to) had.more)
            (subst (λ es. EndsInCopy s t rows es c (suc k) (old.delivered c) (slice_index_or (ls.got c) k [])) (sym whole) (tells.unread c k cb newest.0 newest.1)),
      )

  pub ran_next : (i n k : ℕ) → ExecutesAt s t rows next.events i n (suc k) → RanOn i n k
  ran_next i n k x = elim (cases_lt i (length ls.events)) [
    | inl lt ↦ ran_before i n k lt x
    | inr ge ↦
        let w = slice_get_within next.events i (Plain (Act n x.at)) x.is in
        let a = ap length events in
        let b = length-append ls.events (e ∷ []) in
        ran_last i n k (omega (arith, ge, w, a, b)) x
  ]
