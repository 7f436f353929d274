-- What the delays keep next, one after another.
use Rattle.std.proofs.Common.{◌≡◌, ◌≢◌, ℕ, ◌+◌, ◌<◌, ◌⊎◌, inl, inr, List, Option, Some, None, sym, ap, ◌∙◌, length, set, get_or, arith, get_or-set_other, get_or-set_same}
use Rattle.std.specs.Prelude.{slice_get}
use Rattle.std.proofs.lemmas.Option.{slice_get-get_or}
use Rattle.lt_base.specs.declared.value.Value.{Value}
use Rattle.lt_base.specs.Meaning.{Environment, entry}
use Rattle.lt_meaning.specs.declared.plan.Delay.{Delay}
use Rattle.lt_meaning.specs.Plan.{next_kept}
use Rattle.lt_meaning.proofs.Running.{nat_same}

pub keeps_next : (delays : List Delay) (env old : Environment) (next : List (Option Value)) (i : ℕ) (delay : Delay) (v : Option Value)
    → i < length delays → delay ≡ get_or delays i delay → i < length next
    → ((j : ℕ) (d : Delay) → j < i → slice_get delays j ≡ Some d → entry next j ≡ next_kept env old d j)
    → v ≡ next_kept env old delay i
    → (j : ℕ) (d : Delay) → j < i + 1 → slice_get delays j ≡ Some d → entry (set next i v) j ≡ next_kept env old d j
keeps_next delays env old next i delay v l at room before is j d m h = by (nat_same j i)
  where
    by : (j ≡ i) ⊎ (j ≢ i) → entry (set next i v) j ≡ next_kept env old d j
    by (inl e) =
        let there : slice_get delays i ≡ Some delay = slice_get-get_or delays i delay l ∙ ap Some (sym at) in
        let same : delay ≡ d = cc (there, h, ap (slice_get delays) e) in
        ap (λ n. get_or (set next i v) n None) e ∙ get_or-set_same next i v None room ∙ is ∙ (λ k. next_kept env old (same k) (sym e k))
    by (inr n) = get_or-set_other next i j v None n ∙ before j d (omega (arith, n)) h
