-- What a list of events costs.
use Rattle.std.proofs.Common.{◌≡◌, ℕ, zero, suc, ◌+◌, ◌*◌, ◌≤◌, Bool, true, false, List, [], ◌∷◌, map, Option, Some, None, refl, sym, ap, ◌∙◌, subst, arith, All, mul-le-mul_right}
use Rattle.std.specs.Prelude.{if◌then◌else◌}
use Rattle.std.specs.List.{slice_get}
use Rattle.std.proofs.lemmas.Option.{slice_get_within, get_or_from_slice_get}
use Rattle.lt_arch.specs.declared.event.Event.{Event}
use Rattle.lt_arch.specs.declared.event.Event.TheVariants.{Act, Del, End}
use Rattle.lt_arch.specs.Readers.{chan_count}
use Rattle.lt_arch.specs.Step.{is_execute}
use Rattle.lt_net.specs.Net.{TimedBenchState, Lists}
use Rattle.lt_net.specs.Event.{SameStatic, deed_by, sends_by}
use Rattle.lt_base.specs.Truths.{how_many}
use Rattle.lt_net.specs.Ticks.{change_cost, size_at, work_by, cost_by, event_cost}
use Rattle.lt_net_bench.proofs.FedRows.{map_entry}

at_most_all : (p : ℕ → Bool) (n : ℕ) → how_many p n ≤ n
at_most_all p zero = omega arith
at_most_all p (suc n) = one_more (how_many p n) (p n) (at_most_all p n)
  where
    one_more : (k : ℕ) (b : Bool) → k ≤ n → k + (if b then 1 else 0) ≤ suc n
    one_more k true h = omega (arith, h)
    one_more k false h = omega (arith, h)

map_there : {A : Type 0} (f : A → ℕ) (xs : List A) (n : ℕ) (x : A) → slice_get xs n ≡ Some x → slice_get (map f xs) n ≡ Some (f x)
map_there f [] n x h = absurd (cc)
map_there f (y ∷ xs) zero x h = let e : y ≡ x = cc in ap (λ z. Some (f z)) e
map_there f (y ∷ xs) (suc n) x h = map_there f xs n x h

module _ {C M : Type 0} (size : M → ℕ) (start net : TimedBenchState C M) (fixed : SameStatic start net) (sizes : map size net.machines ≡ map size start.machines)
    (d most : ℕ) (all : All (λ m. size m ≤ most) start.machines) where
  machine_most : (n : ℕ) (o : Option M) → slice_get net.machines n ≡ o → size_at size o ≤ most
  machine_most n None h = omega arith
  machine_most n (Some m) h =
      let e = map_entry size start.machines n (size m) (ap (λ xs. slice_get xs n) (sym sizes) ∙ map_there size net.machines n m h) in
      let b : size e.0 ≤ most = subst (λ z. size z ≤ most) (get_or_from_slice_get start.machines n e.0 e.0 e.1) (all n e.0 (slice_get_within start.machines n e.0 e.1)) in
      omega (arith, b, e.2)

  work_most : (ls : Lists) (e : Event) → work_by size net ls e ≤ most
  work_most ls (Act n at) = by (is_execute (deed_by net ls (Act n at)))
    where
      by : (b : Bool) → (if b then size_at size (slice_get net.machines n) else 0) ≤ most
      by true = machine_most n (slice_get net.machines n) refl
      by false = omega arith
  work_most ls (Del c at) = omega arith
  work_most ls (End at) = omega arith

  event_most : (ls : Lists) (e : Event) → 4 + cost_by size net ls e d ≤ event_cost start.shape d most
  event_most ls e =
      sums (change_cost d) (how_many (sends_by net ls e) (chan_count net.shape) * change_cost d) (chan_count net.shape * change_cost d) (chan_count start.shape * change_cost d) (work_by size net ls e)
      (mul-le-mul_right (change_cost d) (at_most_all (sends_by net ls e) (chan_count net.shape))) (ap (λ s. chan_count s * change_cost d) fixed.shape) (work_most ls e)
    where
      sums : (a x y z w : ℕ) → x ≤ y → y ≡ z → w ≤ most → 4 + (a + x + w) ≤ 4 + (a + z + most)
      sums a x y z w h k l = omega (arith, h, k, l)

  -- one event more
  pub pays_on : (ls : Lists) (e : Event) (before mid new i : ℕ) → mid ≤ before + i * event_cost start.shape d most → new ≤ mid + (4 + cost_by size net ls e d) → new ≤ before + (i + 1) * event_cost start.shape d most
  pays_on ls e before mid new i h k =
      let once : (i + 1) * event_cost start.shape d most ≡ i * event_cost start.shape d most + event_cost start.shape d most = once_more i (event_cost start.shape d most) in
      sums (i * event_cost start.shape d most) (event_cost start.shape d most) ((i + 1) * event_cost start.shape d most) (4 + cost_by size net ls e d) (event_most ls e) once h k
    where
      once_more : (k x : ℕ) → (k + 1) * x ≡ k * x + x
      once_more k x = omega arith

      sums : (a x z c : ℕ) → c ≤ x → z ≡ a + x → mid ≤ before + a → new ≤ mid + c → new ≤ before + z
      sums a x z c l m h k = omega (arith, l, m, h, k)
