-- The search for a step.
use Rattle.std.proofs.Common.{◌≡◌, ℕ, ◌*◌, ◌/◌, ◌<◌, ◌≤◌, ◌+◌, max, nat_le, true, false, List, length, drop, get_or, ap, ◌∙◌}
use Rattle.std.proofs.lemmas.List.{drop_all}
use Rattle.lt_diagram.specs.Chart.{fitting_step}
use Rattle.lt_diagram.proofs.Pieces.{rest_there}

pub fits_here : (room breadth units : ℕ) (ss : List ℕ) (i : ℕ) → i < length ss → nat_le room (get_or ss i 0 * breadth / max units 1) ≡ true → fitting_step room breadth units (drop i ss) ≡ get_or ss i 0
fits_here room breadth units ss i h e = ap (fitting_step room breadth units) (rest_there ss i 0 h) ∙ rw e

pub fits_later : (room breadth units : ℕ) (ss : List ℕ) (i : ℕ) → i < length ss → nat_le room (get_or ss i 0 * breadth / max units 1) ≡ false → fitting_step room breadth units (drop i ss) ≡ fitting_step room breadth units (drop (i + 1) ss)
fits_later room breadth units ss i h e = ap (fitting_step room breadth units) (rest_there ss i 0 h) ∙ rw e

pub fits_nowhere : (room breadth units : ℕ) (ss : List ℕ) (i : ℕ) → length ss ≤ i → fitting_step room breadth units (drop i ss) ≡ 1000000000000000
fits_nowhere room breadth units ss i h = ap (fitting_step room breadth units) (drop_all i ss h)
