-- A timing has at most one fault of its window.
use Rattle.std.proofs.Common.{◌≡◌, ◌⊎◌, inl, inr, ℕ, ◌*◌, ◌<◌, ◌≤◌, sym, ap, ◌∙◌, subst, arith}
use Rattle.lt_arch.specs.declared.timing.Timing.{Timing}
use Rattle.lt_arch.specs.Readers.{tmin_of, dmax_of}
use Rattle.lt_lossy.specs.declared.room.WindowFault.{WindowFault}
use Rattle.lt_lossy.specs.Window.{room, IsInWindow, HasWindow, IsFaultFrom, IsWindowFault}

order : (a b : ℕ) → (a < b) ⊎ ((a ≡ b) ⊎ (b < a))
order a b = grind arith

-- the pair of a fault is not in the window
outside : (t : Timing) (i : ℕ) (f : WindowFault) (w : IsFaultFrom t i f) → IsInWindow t i w.other → ⊥
outside t i f w inside =
    let left : f.left ≡ room * tmin_of t i = w.left_is in
    let right : f.right ≡ dmax_of t i w.other = w.right_is in
    let fails : f.left ≤ f.right = w.fails in
    omega (arith, left, right, fails, inside)

pub no_window : (t : Timing) (f : WindowFault) → IsWindowFault t f → HasWindow t → ⊥
no_window t f w has = outside t f.node f w.fault (has f.node w.fault.other w.node_in w.fault.other_in w.fault.differ)

-- from one node there is one
module _ (t : Timing) (i : ℕ) (f g : WindowFault) (a : IsFaultFrom t i f) (b : IsFaultFrom t i g) where
  other_by : (a.other < b.other) ⊎ ((a.other ≡ b.other) ⊎ (b.other < a.other)) → a.other ≡ b.other
  other_by (inl less) = absurd (outside t i f a (b.before a.other less a.differ))
  other_by (inr (inl same)) = same
  other_by (inr (inr less)) = absurd (outside t i g b (a.before b.other less b.differ))

  one_from : f ≡ g
  one_from =
      let other : a.other ≡ b.other = other_by (order a.other b.other) in
      let node : f.node ≡ g.node = a.node_is ∙ sym b.node_is in
      let left : f.left ≡ g.left = a.left_is ∙ sym b.left_is in
      let right : f.right ≡ g.right = a.right_is ∙ ap (dmax_of t i) other ∙ sym b.right_is in
      λ k. record { node = node k; left = left k; right = right k }

module _ (t : Timing) (f g : WindowFault) (a : IsWindowFault t f) (b : IsWindowFault t g) where
  node_by : (f.node < g.node) ⊎ ((f.node ≡ g.node) ⊎ (g.node < f.node)) → f.node ≡ g.node
  node_by (inl less) = absurd (outside t f.node f a.fault (b.before f.node a.fault.other less a.fault.other_in a.fault.differ))
  node_by (inr (inl same)) = same
  node_by (inr (inr less)) = absurd (outside t g.node g b.fault (a.before g.node b.fault.other less b.fault.other_in b.fault.differ))

  pub one_window_fault : f ≡ g
  one_window_fault = one_from t f.node f g a.fault (subst (λ i. IsFaultFrom t i g) (sym (node_by (order f.node g.node))) b.fault)
