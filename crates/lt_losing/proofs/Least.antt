-- The least time, place by place, and the last of a queue.
use Rattle.std.proofs.Common.{◌≡◌, ℕ, zero, suc, ◌+◌, ◌<◌, List, [], ◌∷◌, length, Option, None, refl, ◌∙◌, arith, slice_index_or, add-one}
use Rattle.lt_arch.specs.Deadline.{least_below, sooner}
use Rattle.lt_losing.specs.Losing.{last_or}

pub least_none : (f : ℕ → Option ℕ) → None ≡ least_below f 0
unfolding least_below
least_none f = refl

pub least_next : (f : ℕ → Option ℕ) (n : ℕ) (best : Option (ℕ × ℕ)) (at : Option ℕ) (next : Option (ℕ × ℕ)) → best ≡ least_below f n → at ≡ f n → next ≡ sooner best n at → next ≡ least_below f (n + 1)
unfolding least_below
least_next f n best at next b a is = rw (add-one n) (is ∙ (λ i. sooner (b i) n (a i)))

pub least_same : (f g : ℕ → Option ℕ) (n : ℕ) → ((k : ℕ) → k < n → f k ≡ g k) → least_below f n ≡ least_below g n
unfolding least_below
least_same f g zero h = refl
least_same f g (suc n) h = rw (least_same f g n (λ k lt. h k (omega arith)), h n (omega arith)) refl

pub last_at : (other : ℕ) (xs : List ℕ) (x k : ℕ) → suc k ≡ length xs → x ≡ slice_index_or xs k x → x ≡ last_or other xs
last_at other [] x k size is = absurd (omega (arith, size))
last_at other (y ∷ []) x zero size is = is
last_at other (y ∷ []) x (suc k) size is = absurd (omega (arith, size))
last_at other (y ∷ z ∷ ys) x zero size is = absurd (omega (arith, size))
last_at other (y ∷ z ∷ ys) x (suc k) size is = last_at y (z ∷ ys) x k (omega (arith, size)) is
