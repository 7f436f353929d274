-- The first distance that fits, one distance further.
use Rattle.std.proofs.Common.{◌≡◌, ℕ, ◌+◌, ◌<◌, ◌≤◌, true, false, List, [], ◌∷◌, length, get_or, drop, refl, ap, ◌∙◌, add-one, drop-cons, drop_of_length-le}
use Rattle.lt_scale.specs.declared.chart.Chart.{Chart}
use Rattle.lt_scale.specs.Room.{step_fits, first_fitting}

fits_first : (c : Chart) (room s : ℕ) (ss : List ℕ) → step_fits c room s ≡ true → first_fitting c room (s ∷ ss) ≡ s
unfolding first_fitting
fits_first c room s ss e = rw e refl

fits_not : (c : Chart) (room s : ℕ) (ss : List ℕ) → step_fits c room s ≡ false → first_fitting c room (s ∷ ss) ≡ first_fitting c room ss
unfolding first_fitting
fits_not c room s ss e = rw e refl

fits_none : (c : Chart) (room : ℕ) → first_fitting c room [] ≡ 1000000
unfolding first_fitting
fits_none c room = refl

drop_one : (xs : List ℕ) (i : ℕ) → i < length xs → drop i xs ≡ get_or xs i 0 ∷ drop (i + 1) xs
drop_one xs i h = rw add-one (drop-cons xs i 0 h)

pub fit_here : (c : Chart) (room : ℕ) (steps : List ℕ) (i : ℕ) → i < length steps → step_fits c room (get_or steps i 0) ≡ true → first_fitting c room (drop i steps) ≡ get_or steps i 0
fit_here c room steps i h e = ap (λ l. first_fitting c room l) (drop_one steps i h) ∙ fits_first c room (get_or steps i 0) (drop (i + 1) steps) e

pub fit_later : (c : Chart) (room : ℕ) (steps : List ℕ) (i : ℕ) → i < length steps → step_fits c room (get_or steps i 0) ≡ false → first_fitting c room (drop i steps) ≡ first_fitting c room (drop (i + 1) steps)
fit_later c room steps i h e = ap (λ l. first_fitting c room l) (drop_one steps i h) ∙ fits_not c room (get_or steps i 0) (drop (i + 1) steps) e

pub fit_end : (c : Chart) (room : ℕ) (steps : List ℕ) (i : ℕ) → length steps ≤ i → first_fitting c room (drop i steps) ≡ 1000000
fit_end c room steps i past = ap (λ l. first_fitting c room l) (drop_of_length-le steps {i = i} past) ∙ fits_none c room
