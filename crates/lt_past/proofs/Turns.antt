-- One turn of the parts, part by part.
use Rattle.std.proofs.Common.{◌≡◌, ℕ, zero, suc, ◌+◌, ◌<◌, ◌≤◌, Bool, false, List, length, refl, sym, ap, ap₂, ◌∙◌, subst, arith}
use Rattle.std.specs.Prelude.{slice_index_or, slice_set, nat_lt}
use Rattle.std.proofs.Common.{ltb-true, ltb-false, true}
use Rattle.std.proofs.lemmas.List.{get_or-set_same, get_or-set_other}
use Rattle.lt_past.specs.declared.monitor.Part.{Part}
use Rattle.lt_past.specs.declared.monitor.Part.TheVariants as part
use Rattle.lt_past.specs.Parts.{FitsAt, Fit}
use Rattle.lt_past.specs.Turn.{at, prior, past, infix_value, part_value, Turned}

module _ (vs : List Bool) (k : ℕ) (v : Bool) where
  kept_at : (j : ℕ) → j < k → at (slice_set vs k v) j ≡ at vs j
  kept_at j h = get_or-set_other vs k j v false (λ e. omega arith)

  kept_prior : (q : ℕ) → q ≤ k → prior (slice_set vs k v) q ≡ prior vs q
  kept_prior zero h = refl
  kept_prior (suc j) h = kept_at j (omega arith)

  kept_value : (width : ℕ) (began : Bool) (now olds : List Bool) (q : ℕ) → q ≤ k → (p : Part) → FitsAt width q p → part_value began now olds (slice_set vs k v) q p ≡ part_value began now olds vs q p
  kept_value width began now olds q h (part.Lit b) fits = refl
  kept_value width began now olds q h (part.Out i) fits = refl
  kept_value width began now olds q h (part.Before p) fits = ap (past p began (at olds q) (prior olds q)) (kept_prior q h)
  kept_value width began now olds q h (part.Between o l) fits = ap₂ (infix_value o (at olds q)) (kept_at l (omega arith)) (kept_prior q h)

-- one more part has its value
pub turned_more : (width : ℕ) (parts : List Part) (began : Bool) (now olds vs : List Bool) (k : ℕ) (v : Bool) → Fit width parts → k < length parts → length vs ≡ length parts → v ≡ part_value began now olds vs k (slice_index_or parts k (part.Lit false)) → Turned parts began now olds vs k → Turned parts began now olds (slice_set vs k v) (k + 1)
turned_more width parts began now olds vs k v fit low each is turned q h =
    elim (nat_lt q k) as (λ t. nat_lt q k ≡ t → at (slice_set vs k v) q ≡ part_value began now olds (slice_set vs k v) q (slice_index_or parts q (part.Lit false))) [
      | true ↦ λ lt.
          let l : q < k = ltb-true q k lt in
          kept_at vs k v q l ∙ turned q l ∙ sym (kept_value vs k v width began now olds q (omega arith) (slice_index_or parts q (part.Lit false)) (fit q (omega arith)))
      | false ↦ λ ge.
          let l : k ≤ q = ltb-false q k ge in
          let e : k ≡ q = omega arith in
          let here : at (slice_set vs k v) k ≡ part_value began now olds (slice_set vs k v) k (slice_index_or parts k (part.Lit false)) =
          get_or-set_same vs k v false (omega arith) ∙ is ∙ sym (kept_value vs k v width began now olds k (omega arith) (slice_index_or parts k (part.Lit false)) (fit k low)) in
          subst (λ m. at (slice_set vs k v) m ≡ part_value began now olds (slice_set vs k v) m (slice_index_or parts m (part.Lit false))) e here
    ] refl

-- the later ones still have the last one's
pub rest_more : (olds vs : List Bool) (k : ℕ) (v : Bool) → ((q : ℕ) → k ≤ q → at vs q ≡ at olds q) → (q : ℕ) → k + 1 ≤ q → at (slice_set vs k v) q ≡ at olds q
rest_more olds vs k v rest q h = get_or-set_other vs k q v false (λ e. omega arith) ∙ rest q (omega arith)

pub prior_here : (vs : List Bool) (k : ℕ) (v : Bool) → k < length vs → prior (slice_set vs k v) (k + 1) ≡ v
prior_here vs k v h = let e : k + 1 ≡ suc k = omega arith in ap (prior (slice_set vs k v)) e ∙ get_or-set_same vs k v false h

pub prior_last : (vs : List Bool) (k : ℕ) → prior vs (k + 1) ≡ at vs k
prior_last vs k = let e : k + 1 ≡ suc k = omega arith in ap (prior vs) e
