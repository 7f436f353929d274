-- The least period of the large input's nodes.
use Rattle.std.proofs.Common.{◌≡◌, ℕ, zero, suc, ◌<◌, List, [], ◌∷◌, map, length, replicate, sym, ap, ◌∙◌, arith}
use Rattle.std.specs.Prelude.{slice_index_or}
use Rattle.std.proofs.lemmas.List.{length-map}
use Rattle.lt_arch.specs.declared.times.NodeTime.{NodeTime}
use Rattle.lt_arch.specs.Readers.{no_time, tmin_of}
use Rattle.lt_config.specs.declared.config.Config.{Config}
use Rattle.lt_config.specs.Setup.{NodeNumbers, Setup}
use Rattle.lt_config.specs.Reading.{numbers_of, setup_in}
use Rattle.lt_big_texts.specs.Bounds.{node_bounds, large_setup}

-- the least period of a node, by its place in a list with as many equal ones
least_at : (nodes : List NodeTime) (k n : ℕ) → map numbers_of nodes ≡ replicate k node_bounds → n < k → (slice_index_or nodes n no_time).tmin ≡ 9
least_at [] zero n is low = absurd (omega (arith, low))
least_at [] (suc k) n is low = cc
least_at (t ∷ ts) zero n is low = absurd (omega (arith, low))
least_at (t ∷ ts) (suc k) zero is low = (let same : numbers_of t ≡ node_bounds = cc in ap (λ (b : NodeNumbers). b.tmin) same)
least_at (t ∷ ts) (suc k) (suc n) is low = (let rest : map numbers_of ts ≡ replicate k node_bounds = cc in least_at ts k n rest (omega (arith, low)))

module _ (c : Config) (is : setup_in c ≡ large_setup) where
  times_are : map numbers_of c.timing.nodes ≡ replicate 8 node_bounds
  times_are = ap (λ (s : Setup). s.times) is

  pub timed : length c.timing.nodes ≡ 8
  timed = sym (length-map c.timing.nodes numbers_of) ∙ ap (λ (ns : List NodeNumbers). length ns) times_are

  pub least_period : (n : ℕ) → n < 8 → tmin_of c.timing n ≡ 9
  unfolding tmin_of
  least_period n low = least_at c.timing.nodes 8 n times_are low
