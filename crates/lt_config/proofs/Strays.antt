-- A search through the tables that passes one.
use Rattle.std.proofs.Common.{◌≡◌, ℕ, ◌+◌, ◌<◌, List, length, drop, get_or, sym, ap, ◌∙◌, drop-cons, add-one}
use Rattle.toml.specs.Data.{Members}
use Rattle.lt_config.specs.declared.keys.Key.{Key}
use Rattle.lt_config.specs.Faults.{first_stray, stray_of, or_else}

pub stray-step : (t : Members) (ks : List Key) (i : ℕ) (d : Key) → i < length ks → first_stray t (drop i ks) ≡ or_else (stray_of t (get_or ks i d)) (first_stray t (drop (i + 1) ks))
stray-step t ks i d h = ap (first_stray t) (drop-cons ks i d h) ∙ ap (λ k. or_else (stray_of t (get_or ks i d)) (first_stray t (drop k ks))) (sym (add-one i))
