-- What is reported is what is read on other nodes.
use Rattle.std.proofs.Common.{◌≡◌, ◌≢◌, ◌⊎◌, inl, inr, ℕ, ◌<◌, Bool, true, false, List, [], ◌∷◌, ◌++◌, length, get_or, Option, Some, None, refl, sym, ap, ◌∙◌, subst, ⊎_elim, eqb-true}
use Rattle.std.specs.Prelude.{nat_eq, MatchOption, if◌then◌else◌}
use Rattle.lt_base.specs.Expression.{Expression}
use Rattle.lt_base.specs.Meaning.{right_of}
use Rattle.lt_base.specs.Dependence.{has}
use Rattle.lt_base.specs.Equations.{EquationsIn}
use Rattle.lt_base.specs.Program.{GoodFunction}
use Rattle.lt_base.proofs.Lookups.{all_found, same_self}
use Rattle.lt_base.proofs.Reading.{has_one, or_left, or_right}
use Rattle.lt_norm.specs.Flat.{Originated}
use Rattle.lt_arch.specs.declared.placement.Placement.{Placement}
use Rattle.lt_place.specs.Nodes.{nodes_of}
use Rattle.lt_place.specs.Faults.{IsLowest, ReadsElsewhere}
use Rattle.lt_place.specs.Reports.{Report, IsAmong, elsewhere, reports, LeastAt, HasLeast}

-- ---- membership

pub in_left : (r : Report) (xs ys : List Report) → IsAmong r xs → IsAmong r (xs ++ ys)
in_left r [] ys h = elim h [ ]
in_left r (x ∷ xs) ys (inl h) = inl h
in_left r (x ∷ xs) ys (inr h) = inr (in_left r xs ys h)

pub in_right : (r : Report) (xs ys : List Report) → IsAmong r ys → IsAmong r (xs ++ ys)
in_right r [] ys h = h
in_right r (x ∷ xs) ys h = inr (in_right r xs ys h)

pub in_cases : (r : Report) (xs ys : List Report) → IsAmong r (xs ++ ys) → IsAmong r xs ⊎ IsAmong r ys
in_cases r [] ys h = inr h
in_cases r (x ∷ xs) ys (inl h) = inl (inl h)
in_cases r (x ∷ xs) ys (inr h) = ⊎_elim (λ k. inl (inr k)) (λ k. inr k) (in_cases r xs ys h)

-- ---- what one variable reads

-- this report is one of a variable among these, on another node
pub record Read (nodes origin : List ℕ) (x : ℕ) (ys : List ℕ) (r : Report) : Type 0 where
  pub read : ℕ
  pub among : has read ys ≡ true
  pub apart : get_or nodes read 0 ≢ get_or nodes x 0
  pub is : r ≡ (get_or origin x 0, get_or origin read 0)

apart_of : (a b : ℕ) → nat_eq a b ≡ false → a ≢ b
apart_of a b e s = let t : nat_eq a b ≡ true = ap (λ z. nat_eq a z) (sym s) ∙ same_self a in absurd (cc)

has_here : (y : ℕ) (ys : List ℕ) → has y (y ∷ ys) ≡ true
has_here y ys = or_left (nat_eq y y) (has y ys) (same_self y)

module _ (nodes origin : List ℕ) (x : ℕ) where
  abbrev at : ℕ → ℕ
  at y = get_or nodes y 0

  abbrev pair : ℕ → Report
  pair y = (get_or origin x 0, get_or origin y 0)

  read_later : (y : ℕ) (ys : List ℕ) (r : Report) → Read nodes origin x ys r → Read nodes origin x (y ∷ ys) r
  read_later y ys r k = record { read = k.read; among = or_right (nat_eq k.read y) (has k.read ys) k.among; apart = k.apart; is = k.is }

  pub read_from : (ys : List ℕ) (r : Report) → IsAmong r (elsewhere nodes origin x ys) → Read nodes origin x ys r
  read_from [] r h = elim h [ ]
  read_from (y ∷ ys) r h =
      let go : (b : Bool) → nat_eq (at y) (at x) ≡ b → IsAmong r (if b then elsewhere nodes origin x ys else pair y ∷ elsewhere nodes origin x ys) → Read nodes origin x (y ∷ ys) r =
      elim [
        | true ↦ λ e k. read_later y ys r (read_from ys r k)
        | false ↦ λ e k. ⊎_elim (λ j. record { read = y; among = has_here y ys; apart = apart_of (at y) (at x) e; is = j }) (λ j. read_later y ys r (read_from ys r j)) k
      ] in
      go (nat_eq (at y) (at x)) refl h

  pub read_to : (ys : List ℕ) (y : ℕ) → has y ys ≡ true → at y ≢ at x → IsAmong (pair y) (elsewhere nodes origin x ys)
  read_to [] y h a = absurd (cc)
  read_to (z ∷ ys) y h a =
      let go : (b : Bool) → nat_eq (at z) (at x) ≡ b → IsAmong (pair y) (if b then elsewhere nodes origin x ys else pair z ∷ elsewhere nodes origin x ys) =
      elim [
        | true ↦ λ e. has_one (λ k. k ≡ y → IsAmong (pair y) (elsewhere nodes origin x ys)) z ys y h
            (λ s. absurd (a (ap at (sym s) ∙ eqb-true (at z) (at x) e)))
            (λ k s. read_to ys y k a) refl
        | false ↦ λ e. has_one (λ k. k ≡ y → IsAmong (pair y) (pair z ∷ elsewhere nodes origin x ys)) z ys y h
            (λ s. inl (ap pair (sym s)))
            (λ k s. inr (read_to ys y k a)) refl
      ] in
      go (nat_eq (at z) (at x)) refl

-- ---- what the equations read

module _ (f : Originated) (p : Placement) (nodes : List ℕ) (assigned : nodes ≡ nodes_of f p) (read_by : ℕ → Expression → List ℕ) where
  read_elsewhere : (q : ℕ × Expression) → right_of f.func.eqs q.0 ≡ Some q.1 → (m n : ℕ) → Read nodes f.origin q.0 (read_by q.0 q.1) (m, n) → ReadsElsewhere f p read_by m n
  read_elsewhere q e m n r = record {
    reader = q.0;
    right = q.1;
    read = r.read;
    equation = e;
    arose = sym (ap (λ (z : Report). z.0) r.is);
    reads = r.among;
    named = sym (ap (λ (z : Report). z.1) r.is);
    apart = λ s. r.apart (ap (λ ns. get_or ns r.read 0) assigned ∙ s ∙ sym (ap (λ ns. get_or ns q.0 0) assigned));
  }

  pub reports_from : (qs : List (ℕ × Expression)) → EquationsIn f.func qs → (m n : ℕ) → IsAmong (m, n) (reports read_by nodes f.origin qs) → ReadsElsewhere f p read_by m n
  reports_from [] t m n h = elim h [ ]
  reports_from (q ∷ qs) t m n h =
      ⊎_elim (λ k. read_elsewhere q t.0 m n (read_from nodes f.origin q.0 (read_by q.0 q.1) (m, n) k)) (λ k. reports_from qs t.1 m n k)
      (in_cases (m, n) (elsewhere nodes f.origin q.0 (read_by q.0 q.1)) (reports read_by nodes f.origin qs) h)

  pub reports_to : (qs : List (ℕ × Expression)) (x : ℕ) (e : Expression) → right_of qs x ≡ Some e → (y : ℕ) → has y (read_by x e) ≡ true → get_or nodes y 0 ≢ get_or nodes x 0 → IsAmong (get_or f.origin x 0, get_or f.origin y 0) (reports read_by nodes f.origin qs)
  reports_to [] x e h y k a = absurd (cc)
  reports_to ((z, b) ∷ qs) x e h y k a =
      let first = elsewhere nodes f.origin z (read_by z b) in
      let go : (t : Bool) → nat_eq x z ≡ t → (if t then Some b else right_of qs x) ≡ Some e → IsAmong (get_or f.origin x 0, get_or f.origin y 0) (first ++ reports read_by nodes f.origin qs) =
      elim [
        | true ↦ λ s j.
            let same : x ≡ z = eqb-true x z s in
            let right : e ≡ b = cc in
            in_left (get_or f.origin x 0, get_or f.origin y 0) first (reports read_by nodes f.origin qs)
            (subst (λ w. IsAmong (get_or f.origin x 0, get_or f.origin y 0) (elsewhere nodes f.origin w.0 (read_by w.0 w.1))) (λ i. let w : ℕ × Expression = (same i, right i) in w) (read_to nodes f.origin x (read_by x e) y k a))
        | false ↦ λ s j. in_right (get_or f.origin x 0, get_or f.origin y 0) first (reports read_by nodes f.origin qs) (reports_to qs x e j y k a)
      ] in
      go (nat_eq x z) refl h

  -- a variable that is read on another node is reported
  pub reported : (m n : ℕ) → ReadsElsewhere f p read_by m n → IsAmong (m, n) (reports read_by nodes f.origin f.func.eqs)
  reported m n r =
      subst (λ z. IsAmong z (reports read_by nodes f.origin f.func.eqs)) (λ i. let w : Report = (r.arose i, r.named i) in w)
      (reports_to f.func.eqs r.reader r.right r.equation r.read r.reads (λ s. r.apart (sym (ap (λ ns. get_or ns r.read 0) assigned) ∙ s ∙ ap (λ ns. get_or ns r.reader 0) assigned)))

  lowest_by : GoodFunction f.func → (m : ℕ) (o : Option ℕ) → LeastAt (reports read_by nodes f.origin f.func.eqs) m o → MatchOption o ((n : ℕ) → ReadsElsewhere f p read_by m n → ⊥) (λ n. IsLowest (ReadsElsewhere f p read_by m) n)
  lowest_by good m None h = λ n r. h n (reported m n r)
  lowest_by good m (Some n) h = record { holds = reports_from f.func.eqs (all_found f.func good) m n h.0; lowest = λ k r. h.1 k (reported m k r) }

  -- the least that is reported is the lowest that is read on another node
  pub lowest : GoodFunction f.func → (marks : List (Option ℕ)) → HasLeast marks (reports read_by nodes f.origin f.func.eqs) → (m : ℕ) → m < length marks → MatchOption (get_or marks m None) ((n : ℕ) → ReadsElsewhere f p read_by m n → ⊥) (λ n. IsLowest (ReadsElsewhere f p read_by m) n)
  lowest good marks h m l = lowest_by good m (get_or marks m None) (h m l)
