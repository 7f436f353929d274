-- By the horizon of so many instants each node of the large input has executed that many at least.
use Rattle.std.proofs.Common.{◌≡◌, ◌≤◌, ◌<◌, ◌+◌, ◌-◌, ◌*◌, ◌/◌, ℕ, zero, suc, max, false, List, [], ◌∷◌, length, map, replicate, nat_lt, sym, ap, ◌∙◌, subst, arith}
use Rattle.std.specs.Prelude.{slice_index_or, if◌then◌else◌}
use Rattle.std.proofs.lemmas.List.{length-map}
use Rattle.lt_arch.specs.declared.times.NodeTime.{NodeTime}
use Rattle.lt_arch.specs.declared.timing.Protocol.{Protocol}
use Rattle.lt_arch.specs.declared.timing.Protocol.TheVariants.{BackPressure}
use Rattle.lt_arch.specs.Greatest.{greatest}
use Rattle.lt_arch.specs.Readers.{no_time, tmax_of, slowest_of, most_of, is_back_pressure}
use Rattle.lt_timing.specs.Bounds.{bound_of, back_pressure_bound, time_based_bound, instants_by}
use Rattle.lt_config.specs.declared.config.Config.{Config}
use Rattle.lt_config.specs.Setup.{NodeNumbers, Setup}
use Rattle.lt_config.specs.Reading.{numbers_of, setup_in}
use Rattle.lt_big_texts.specs.Texts.{horizon_of}
use Rattle.lt_big_texts.specs.Bounds.{node_bounds, large_setup, HorizonServes}

-- the greatest of equal numbers
all_equal : (f : ℕ → ℕ) (v n : ℕ) → ((i : ℕ) → i < suc n → f i ≡ v) → greatest f (suc n) ≡ v
all_equal f v zero each = ap (λ (m : ℕ). max 0 m) (each 0 (omega arith)) ∙ zero_first v
  where
    zero_first : (m : ℕ) → max 0 m ≡ m
    zero_first m = omega arith
all_equal f v (suc n) each =
    (λ i. max (all_equal f v n (λ j low. each j (omega (arith, low))) i) (each (suc n) (omega arith) i))
    ∙ same v
  where
    same : (m : ℕ) → max m m ≡ m
    same m = omega arith

-- a node's numbers, by its place in a list with as many equal ones
at_place : (nodes : List NodeTime) (k n : ℕ) → map numbers_of nodes ≡ replicate k node_bounds → n < k → (slice_index_or nodes n no_time).tmax ≡ 11
at_place [] zero n is low = absurd (omega (arith, low))
at_place [] (suc k) n is low = cc
at_place (t ∷ ts) zero n is low = absurd (omega (arith, low))
at_place (t ∷ ts) (suc k) zero is low = (let same : numbers_of t ≡ node_bounds = cc in ap (λ (b : NodeNumbers). b.tmax) same)
at_place (t ∷ ts) (suc k) (suc n) is low = (let rest : map numbers_of ts ≡ replicate k node_bounds = cc in at_place ts k n rest (omega (arith, low)))

module _ (c : Config) (is : setup_in c ≡ large_setup) where
  times_are : map numbers_of c.timing.nodes ≡ replicate 8 node_bounds
  times_are = ap (λ (s : Setup). s.times) is

  count_is : length c.timing.nodes ≡ 8
  count_is = sym (length-map c.timing.nodes numbers_of) ∙ ap (λ (ns : List NodeNumbers). length ns) times_are

  tmax_is : (n : ℕ) → n < 8 → tmax_of c.timing n ≡ 11
  unfolding tmax_of
  tmax_is n low = at_place c.timing.nodes 8 n times_are low

  slowest_is : slowest_of c.timing ≡ 11
  unfolding slowest_of
  slowest_is = ap (λ (k : ℕ). greatest (tmax_of c.timing) k) count_is ∙ all_equal (tmax_of c.timing) 11 7 tmax_is

  most_is : most_of c.timing ≡ 4
  unfolding most_of
  most_is = ap (λ (s : Setup). s.most) is

  protocol_is : c.timing.protocol ≡ BackPressure
  protocol_is = ap (λ (s : Setup). s.protocol) is

  -- the bound by these numbers
  abbrev bound_with : (tmax slowest most horizon : ℕ) → ℕ
  bound_with tmax slowest most horizon = if nat_lt horizon tmax then 0 else (if nat_lt horizon slowest then 1 else instants_by slowest (2 * (slowest + most)) horizon)

  enough : (instants : ℕ) → instants ≤ bound_with 11 11 4 (horizon_of instants)
  enough instants =
      let late : nat_lt (30 * instants + 11) 11 ≡ false = grind arith in
      let whole : (30 * instants + 11 - 11) / 30 + 1 ≡ instants + 1 = omega arith in
      rw (late, whole) (omega arith)

  pub serves : (n instants : ℕ) → n < 8 → instants ≤ bound_of c.timing n (horizon_of instants)
  serves n instants low =
      let by_protocol : bound_of c.timing n (horizon_of instants) ≡ back_pressure_bound c.timing n (horizon_of instants) =
      ap (λ (p : Protocol). if is_back_pressure p then back_pressure_bound c.timing n (horizon_of instants) else time_based_bound c.timing n (horizon_of instants)) protocol_is in
      let by_numbers : back_pressure_bound c.timing n (horizon_of instants) ≡ bound_with 11 11 4 (horizon_of instants) =
      λ i. bound_with (tmax_is n low i) (slowest_is i) (most_is i) (horizon_of instants) in
      subst (λ (b : ℕ). instants ≤ b) (sym (by_protocol ∙ by_numbers)) (enough instants)

pub horizon_serves : HorizonServes
horizon_serves c is n instants low = serves c is n instants low
