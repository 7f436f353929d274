-- A timing is drawn by in one way: timings with the same numbers are equal.
use Rattle.std.proofs.Common.{◌≡◌, ◌≤◌, ◌<◌, ◌^◌, ◌∙◌, ℕ, List, length, Option, Some, None, sym, ap, subst, get_or}
use Rattle.std.proofs.lemmas.List.{ext_get_or}
use Rattle.lt_arch.specs.declared.limits.TheConstants.{GREATEST_BOUND, GREATEST_COUNTDOWN}
use Rattle.lt_arch.specs.declared.times.NodeTime.{NodeTime}
use Rattle.lt_arch.specs.declared.times.PairTime.{PairTime}
use Rattle.lt_arch.specs.declared.timing.Timing.{Timing}
use Rattle.lt_arch.specs.declared.timing.Protocol.{Protocol}
use Rattle.lt_arch.specs.Pairs.{ends_of, ordered_pairs, HasNoneAbove}
use Rattle.lt_arch.specs.Readers.{no_time, tmin_of, tmax_of, send_of, execute_of}
use Rattle.lt_narrow.specs.Narrow.{IsNarrowed}
use Rattle.lt_scheduling.specs.Scheduled.{IsDrawnBy}
use denote.Struct.Props.{props}

record TimeNumbers : Type 0 where
  tmin : ℕ
  tmax : ℕ
  send : ℕ
  execute : ℕ

abbrev time_numbers : NodeTime → TimeNumbers
time_numbers a = record { tmin = a.tmin; tmax = a.tmax; send = a.send; execute = a.execute }

abbrev TimeFacts : TimeNumbers → Type 0
TimeFacts n =
    ((1 ≤ n.tmin) × (n.tmin ≤ n.tmax) × (n.tmax ≤ GREATEST_BOUND))
    × ((1 ≤ n.send) × (n.send ≤ GREATEST_COUNTDOWN))
    × ((1 ≤ n.execute) × (n.execute ≤ GREATEST_COUNTDOWN))

abbrev time_made : (n : TimeNumbers) → TimeFacts n → NodeTime
time_made n f = record { tmin = n.tmin; tmax = n.tmax; send = n.send; execute = n.execute; period = f.0; sends = f.1; executes = f.2 }

time_facts : (n : TimeNumbers) → IsProp (TimeFacts n)
time_facts n = hlevel props

same_time : (a b : NodeTime) → a.tmin ≡ b.tmin → a.tmax ≡ b.tmax → a.send ≡ b.send → a.execute ≡ b.execute → a ≡ b
same_time a b tmin tmax send execute =
    let numbers : time_numbers a ≡ time_numbers b = λ i. record { tmin = tmin i; tmax = tmax i; send = send i; execute = execute i } in
    subst (λ n. (q : TimeFacts n) → a ≡ time_made n q) numbers (λ q. ap (time_made (time_numbers a)) (time_facts (time_numbers a) (a.period, a.sends, a.executes) q)) (b.period, b.sends, b.executes)

record TimingParts : Type 0 where
  nodes : List NodeTime
  pairs : List PairTime
  most : ℕ
  protocol : Protocol

abbrev timing_parts : Timing → TimingParts
timing_parts t = record { nodes = t.nodes; pairs = t.pairs; most = t.most; protocol = t.protocol }

abbrev PartsFacts : TimingParts → Type 0
PartsFacts t = (ends_of t.pairs ≡ ordered_pairs (length t.nodes)) × HasNoneAbove t.pairs t.most × (t.most ≤ GREATEST_BOUND) × (length t.nodes < 2 ^ 32)

abbrev parts_made : (t : TimingParts) → PartsFacts t → Timing
parts_made t f = record { nodes = t.nodes; pairs = t.pairs; most = t.most; protocol = t.protocol; pairs_are = f.0; none_above = f.1; most_range = f.2; numbered = f.3 }

parts_facts : (t : TimingParts) → IsProp (PartsFacts t)
parts_facts t = hlevel props

same_timing : (a b : Timing) → a.nodes ≡ b.nodes → a.pairs ≡ b.pairs → a.most ≡ b.most → a.protocol ≡ b.protocol → a ≡ b
same_timing a b nodes pairs most protocol =
    let parts : timing_parts a ≡ timing_parts b = λ i. record { nodes = nodes i; pairs = pairs i; most = most i; protocol = protocol i } in
    subst (λ t. (q : PartsFacts t) → a ≡ parts_made t q) parts (λ q. ap (parts_made (timing_parts a)) (parts_facts (timing_parts a) (a.pairs_are, a.none_above, a.most_range, a.numbered) q))
    (b.pairs_are, b.none_above, b.most_range, b.numbered)

-- A timing is narrowed in one way.

one_narrowed : (jitter : ℕ) (own a b : Timing) → IsNarrowed jitter own a → IsNarrowed jitter own b → a ≡ b
unfolding tmin_of tmax_of send_of execute_of
one_narrowed jitter own a b h g =
    same_timing a b
    (ext_get_or no_time a.nodes b.nodes (h.count ∙ sym g.count) (λ n lt.
    let within : n < length own.nodes = subst (λ (k : ℕ). n < k) h.count lt in
    same_time (get_or a.nodes n no_time) (get_or b.nodes n no_time) (h.least n within ∙ sym (g.least n within)) (h.greatest n within ∙ sym (g.greatest n within)) (h.send n within ∙ sym (g.send n within)) (h.execute n within ∙ sym (g.execute n within))))
    (h.pairs ∙ sym g.pairs) (h.most ∙ sym g.most) (h.protocol ∙ sym g.protocol)

pub one_by : (jitter : Option ℕ) (own a b : Timing) → IsDrawnBy jitter own a → IsDrawnBy jitter own b → a ≡ b
one_by None own a b h g = h ∙ sym g
one_by (Some jitter) own a b h g = one_narrowed jitter own a b h g
