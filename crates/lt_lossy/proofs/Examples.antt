-- Worked lists of events, computed: two nodes `a` and `b` with a channel of each kind both ways, of which one message in a row may be lost.
use Rattle.std.proofs.Common.{◌≡◌, ◌≢◌, ◌<◌, ℕ, lit≤, List, [], ◌∷◌, ◌++◌, Some, None, refl, ap, arith, nat_lt, ltb-true, eq-eqb, ◌==◌, not, ◌&&◌, ◌+◌, Bool, true, false, slice_index_or, if◌then◌else◌, All, AllPairs}
use Rattle.std.specs.List.{list_all}
use Rattle.std.proofs.lemmas.List.Sums.{AllPass-from_list_all}
use Rattle.std.proofs.lemmas.List.Kept.{AllPairs-cons}
use Rattle.lt_arch.specs.declared.chan.Chan.{Chan}
use Rattle.lt_arch.specs.declared.chan.ChanKind.TheVariants.{Data, Ack}
use Rattle.lt_arch.specs.declared.event.Event.TheVariants.{Act, Del, End}
use Rattle.lt_arch.specs.declared.event.Offence.TheVariants.{AfterEnd, ChannelOverdue, NothingSent, NoEnd}
use Rattle.lt_arch.specs.declared.times.NodeTime.{NodeTime}
use Rattle.lt_arch.specs.declared.timing.Timing.{Timing}
use Rattle.lt_arch.specs.declared.timing.Protocol.TheVariants.{BackPressure}
use Rattle.lt_arch.specs.declared.shape.Shape.{Shape}
use Rattle.lt_arch.specs.Ends.{HasEnds}
use Rattle.lt_arch.specs.Names.{is_identifier}
use Rattle.lt_arch.specs.Deadline.{deadline_of, least_below}
use Rattle.lt_arch.specs.Step.{offence_of}
use Rattle.lt_arch.specs.Deeds.{all_in, any_in, all_ack}
use Rattle.lt_arch.specs.Readers.{tmin_of, tmax_of, send_of, execute_of, dmin_of, dmax_of, chan_of, slowest_of, most_of, is_data}
use Rattle.lt_arch.proofs.Examples.{two_nodes, node_with}
use Rattle.lt_lossy.specs.declared.event.LossyEvent.{LossyEvent}
use Rattle.lt_lossy.specs.declared.event.LossyEvent.TheVariants.{Plain, Lose}
use Rattle.lt_lossy.specs.declared.event.LossyOffence.TheVariants.{Common, TooManyLost}
use Rattle.lt_lossy.specs.Step.{lossy_offence, lossy_after}
use Rattle.lt_lossy.specs.Schedule.{first_lossy_offence, lossy_reached}
use Rattle.lt_lossy.specs.Laws.{lossy_cycle}

-- a number of each element is below that of every later one
abbrev rises : {X : Type 0} → (f : X → ℕ) → List X → Bool
rises f [] = true
rises f (x ∷ xs) = list_all (λ y. nat_lt (f x) (f y)) xs && rises f xs

both_true : (a b : Bool) → (a && b) ≡ true → (a ≡ true) × (b ≡ true)
both_true true b h = (refl, h)
both_true false b h = cc

-- so no two are equal
apart_by : {X : Type 0} (f : X → ℕ) (xs : List X) → rises f xs ≡ true → AllPairs (λ a b. a ≢ b) xs
apart_by f [] h = λ i j d less lt. let none : j < 0 = lt in absurd (omega arith)
apart_by f (x ∷ xs) h =
    let parts = both_true _ _ h in
    AllPairs-cons (λ a b. a ≢ b) x xs
    (λ k d lt e. let less : f x < f (slice_index_or xs k d) = ltb-true _ _ (AllPass-from_list_all (λ y. nat_lt (f x) (f y)) xs parts.0 k d lt) in
    let same : f x ≡ f (slice_index_or xs k d) = ap f e in absurd (omega (arith, less, same)))
    (apart_by f xs parts.1)

ends_by : (n : ℕ) (cs : List Chan) → list_all (λ c. nat_lt c.from n && (nat_lt c.to n && not (c.from == c.to))) cs ≡ true → All (HasEnds n) cs
ends_by n cs h k d lt =
    let c : Chan = slice_index_or cs k d in
    let parts = both_true _ _ (AllPass-from_list_all (λ c. nat_lt c.from n && (nat_lt c.to n && not (c.from == c.to))) cs h k d lt) in
    let more = both_true _ _ parts.1 in
    record { from_in = ltb-true _ _ parts.0; to_in = ltb-true _ _ more.0; differ = λ e. let no_more = rw (eq-eqb c.from c.to e) at more.1 in cc }

-- by kind and then by sender
abbrev code_of : Chan → ℕ
code_of c = (if is_data c.kind then 0 else 2) + c.from

abbrev names : List (List ℕ)
names = (97 ∷ []) ∷ (98 ∷ []) ∷ []

-- data from a to b and from b to a, and acknowledgements from a to b and from b to a
abbrev channels_between : List Chan
channels_between =
    record { from = 0; to = 1; kind = Data } ∷ record { from = 1; to = 0; kind = Data } ∷ record { from = 0; to = 1; kind = Ack } ∷ record { from = 1; to = 0; kind = Ack } ∷ []

abbrev both_ways : Shape
both_ways = record {
  nodes = names;
  channels = channels_between;
  inhabited = lit≤ tt;
  identifiers = AllPass-from_list_all is_identifier names refl;
  names_differ = apart_by (λ (name : List ℕ). slice_index_or name 0 0) names refl;
  ends = ends_by 2 channels_between refl;
  channels_differ = apart_by code_of channels_between refl;
}

-- periods from 9 to 11, and delays from 1 to 4
abbrev quick : NodeTime
quick = node_with 9 11 1 1 (lit≤ tt, lit≤ tt, lit≤ tt) (lit≤ tt, lit≤ tt) (lit≤ tt, lit≤ tt)

abbrev by_pressure : Timing
by_pressure = two_nodes quick quick 1 4 (lit≤ tt) (lit≤ tt) BackPressure

-- the first acknowledgement of a is lost, and b sends a period later, when it has the next one
abbrev beginning : List LossyEvent
beginning = Plain (Act 0 0) ∷ Plain (Act 1 0) ∷ Lose 2 3 ∷ Plain (Del 3 3) ∷ Plain (Act 0 10) ∷ Plain (Act 1 10) ∷ []

abbrev one_lost : List LossyEvent
one_lost =
    beginning ++ Plain (Del 0 12) ∷ Plain (Del 2 12) ∷ Plain (Del 3 12) ∷ Plain (Act 0 20) ∷ Plain (Act 1 20) ∷ Plain (Del 1 22) ∷ Plain (Del 0 24) ∷ Plain (Del 2 24) ∷ Plain (Del 3 24) ∷ Plain (Act 0 30)
    ∷ Plain (End 30) ∷ []

one_lost-executed : (first_lossy_offence both_ways by_pressure 1 3 one_lost ≡ None) × (((lossy_reached both_ways by_pressure 3 one_lost).node 0).executed ≡ 2) × (((lossy_reached both_ways by_pressure 3 one_lost).node 1).executed ≡ 1)
unfolding deadline_of least_below offence_of all_in any_in all_ack tmin_of tmax_of send_of execute_of dmin_of dmax_of chan_of lossy_offence lossy_after
one_lost-executed = (refl, refl, refl)

-- the next one is lost too
two_lost : first_lossy_offence both_ways by_pressure 1 3 (beginning ++ Lose 2 12 ∷ Plain (End 12) ∷ []) ≡ Some (7, TooManyLost 2)
unfolding deadline_of least_below offence_of all_in any_in all_ack tmin_of tmax_of send_of execute_of dmin_of dmax_of chan_of lossy_offence lossy_after
two_lost = refl

-- where two may be lost, it may be
two_of_two : first_lossy_offence both_ways by_pressure 2 3 (beginning ++ Lose 2 12 ∷ Plain (End 12) ∷ []) ≡ None
unfolding deadline_of least_below offence_of all_in any_in all_ack tmin_of tmax_of send_of execute_of dmin_of dmax_of chan_of lossy_offence lossy_after
two_of_two = refl

-- a loss may come at the tick of its send, but not after its deadline, where nothing is in transit, or after the end
lost_at_once : first_lossy_offence both_ways by_pressure 1 3 (Plain (Act 0 0) ∷ Plain (Act 1 0) ∷ Lose 2 0 ∷ Plain (End 3) ∷ []) ≡ None
unfolding deadline_of least_below offence_of all_in any_in all_ack tmin_of tmax_of send_of execute_of dmin_of dmax_of chan_of lossy_offence lossy_after
lost_at_once = refl

lost_late : first_lossy_offence both_ways by_pressure 1 3 (Plain (Act 0 0) ∷ Plain (Act 1 0) ∷ Lose 2 5 ∷ []) ≡ Some (3, Common (ChannelOverdue 2))
unfolding deadline_of least_below offence_of all_in any_in all_ack tmin_of tmax_of send_of execute_of dmin_of dmax_of chan_of lossy_offence lossy_after
lost_late = refl

lost_nothing : first_lossy_offence both_ways by_pressure 1 3 (Plain (Act 0 0) ∷ Plain (Act 1 0) ∷ Lose 0 1 ∷ []) ≡ Some (3, Common (NothingSent 0))
unfolding deadline_of least_below offence_of all_in any_in all_ack tmin_of tmax_of send_of execute_of dmin_of dmax_of chan_of lossy_offence lossy_after
lost_nothing = refl

lost_after_end : first_lossy_offence both_ways by_pressure 1 3 (Plain (Act 0 0) ∷ Plain (Act 1 0) ∷ Plain (End 2) ∷ Lose 2 2 ∷ []) ≡ Some (4, Common AfterEnd)
unfolding deadline_of least_below offence_of all_in any_in all_ack tmin_of tmax_of send_of execute_of dmin_of dmax_of chan_of lossy_offence lossy_after
lost_after_end = refl

no_end : first_lossy_offence both_ways by_pressure 1 3 beginning ≡ Some (7, Common NoEnd)
unfolding deadline_of least_below offence_of all_in any_in all_ack tmin_of tmax_of send_of execute_of dmin_of dmax_of chan_of lossy_offence lossy_after
no_end = refl

-- twice a period, a period for the loss, and a delay
cycle : lossy_cycle by_pressure 1 ≡ 52
unfolding tmax_of slowest_of most_of
cycle = refl
