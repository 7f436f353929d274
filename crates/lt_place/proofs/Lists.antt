-- Mapped declarations and equations.
use Rattle.std.proofs.Common.{◌≡◌, ℕ, zero, suc, ◌+◌, ◌<◌, ◌≤◌, Bool, true, false, cond, List, [], ◌∷◌, length, map, take, get_or, Some, refl, sym, ap, ◌∙◌, subst, arith, All, eqb-true}
use Rattle.std.specs.Prelude.{nat_eq, if◌then◌else◌}
use Rattle.std.specs.List.{filter}
use Rattle.std.proofs.lemmas.List.Elements.{All-nil, All-cons, All-head, All-tail}
use Rattle.lt_base.specs.declared.function.Decl.{Decl}
use Rattle.lt_base.specs.Expression.{Expression}
use Rattle.lt_base.specs.Meaning.{ClockPairs, clock_of, right_of}
use Rattle.lt_base.specs.Typing.{ty_at}
use Rattle.lt_base.specs.Equations.{left_count}
use Rattle.lt_base.specs.Order.{EachClockVar}
use Rattle.lt_base.specs.Placed.{renamed, below}
use Rattle.lt_base.proofs.Lookups.{lefts_cons, same_self}
use Rattle.lt_place_reads.specs.Origins.{name_in}

-- ---- declarations

module _ (g : ℕ → Decl) where
  pub clock_map : (xs : List ℕ) (k : ℕ) → k < length xs → clock_of (map g xs) k ≡ (g (get_or xs k 0)).clock
  clock_map [] k l = absurd (omega arith)
  clock_map (x ∷ xs) zero l = refl
  clock_map (x ∷ xs) (suc k) l = clock_map xs k (omega arith)

  pub ty_map : (xs : List ℕ) (k : ℕ) → k < length xs → ty_at (map g xs) k ≡ Some (g (get_or xs k 0)).ty
  ty_map [] k l = absurd (omega arith)
  ty_map (x ∷ xs) zero l = refl
  ty_map (x ∷ xs) (suc k) l = ty_map xs k (omega arith)

  pub name_map : (xs : List ℕ) (k : ℕ) → k < length xs → name_in (map g xs) k ≡ (g (get_or xs k 0)).name
  name_map [] k l = absurd (omega arith)
  name_map (x ∷ xs) zero l = refl
  name_map (x ∷ xs) (suc k) l = name_map xs k (omega arith)

pub ty_get : (ds : List Decl) (x : ℕ) (d : Decl) → x < length ds → ty_at ds x ≡ Some (get_or ds x d).ty
ty_get [] x d l = absurd (omega arith)
ty_get (e ∷ ds) zero d l = refl
ty_get (e ∷ ds) (suc x) d l = ty_get ds x d (omega arith)

pub name_get : (ds : List Decl) (x : ℕ) (d : Decl) → x < length ds → name_in ds x ≡ (get_or ds x d).name
name_get [] x d l = absurd (omega arith)
name_get (e ∷ ds) zero d l = refl
name_get (e ∷ ds) (suc x) d l = name_get ds x d (omega arith)

pub clock_beyond : (ds : List Decl) (x : ℕ) → length ds ≤ x → clock_of ds x ≡ []
clock_beyond [] x l = refl
clock_beyond (d ∷ ds) zero l = absurd (omega arith)
clock_beyond (d ∷ ds) (suc x) l = clock_beyond ds x (omega arith)

-- ---- clocks

module _ (P : ℕ → Type 0) where
  pub each_of_all : (ck : ClockPairs) → All (λ p. P p.0) ck → EachClockVar P ck
  each_of_all [] a = tt
  each_of_all ((c, b) ∷ ck) a = (All-head (λ (p : ℕ × Bool). P p.0) (c, b) ck a, each_of_all ck (All-tail (λ (p : ℕ × Bool). P p.0) (c, b) ck a))

  pub all_below : (s : ℕ → ℕ) (ck : ClockPairs) → EachClockVar (λ c. P (s c)) ck → All (λ p. P p.0) (below s ck [])
  all_below s [] e = All-nil (λ (p : ℕ × Bool). P p.0)
  all_below s ((c, b) ∷ ck) e = All-cons (λ (p : ℕ × Bool). P p.0) (s c, b) (below s ck []) e.0 (all_below s ck e.1)

pub each_clock_both : (P Q : ℕ → Type 0) (ck : ClockPairs) → EachClockVar P ck → EachClockVar Q ck → EachClockVar (λ c. P c × Q c) ck
each_clock_both P Q [] p q = tt
each_clock_both P Q ((c, b) ∷ ck) p q = ((p.0, q.0), each_clock_both P Q ck p.1 q.1)

-- ---- equations that were kept and renumbered

module _ (s : ℕ → ℕ) (keep : ℕ × Expression → Bool) where
  abbrev pub moved : ℕ × Expression → ℕ × Expression
  moved q = (s q.0, renamed s q.1)

  abbrev pub kept : List (ℕ × Expression) → List (ℕ × Expression)
  kept qs = map moved (filter keep qs)

  -- the equation that one of them was
  pub record Was (qs : List (ℕ × Expression)) (k : ℕ) (e : Expression) : Type 0 where
    pub left : ℕ
    pub right : Expression
    pub index : ℕ
    pub inside : index < length qs
    pub at : (d : ℕ × Expression) → get_or qs index d ≡ (left, right)
    pub keeps : keep (left, right) ≡ true
    pub own : s left ≡ k
    pub is : e ≡ renamed s right

  was_later : (q : ℕ × Expression) (qs : List (ℕ × Expression)) (k : ℕ) (e : Expression) → Was qs k e → Was (q ∷ qs) k e
  was_later q qs k e w = record { left = w.left; right = w.right; index = suc w.index; inside = let l = w.inside in omega (arith, l); at = w.at; keeps = w.keeps; own = w.own; is = w.is }

  pub was : (qs : List (ℕ × Expression)) (k : ℕ) (e : Expression) → right_of (kept qs) k ≡ Some e → Was qs k e
  was [] k e h = absurd (cc)
  was ((x, a) ∷ qs) k e h =
      let go : (t : Bool) → keep (x, a) ≡ t → right_of (map moved (cond t ((x, a) ∷ filter keep qs) (filter keep qs))) k ≡ Some e → Was ((x, a) ∷ qs) k e =
      elim [
        | true ↦ λ t j.
            let and : (u : Bool) → nat_eq k (s x) ≡ u → (if u then Some (renamed s a) else right_of (kept qs) k) ≡ Some e → Was ((x, a) ∷ qs) k e =
            elim [
              | true ↦ λ u i. record { left = x; right = a; index = 0; inside = omega arith; at = λ d. refl; keeps = t; own = sym (eqb-true k (s x) u); is = let z : renamed s a ≡ e = cc in sym z }
              | false ↦ λ u i. was_later (x, a) qs k e (was qs k e i)
            ] in
            and (nat_eq k (s x)) refl j
        | false ↦ λ t j. was_later (x, a) qs k e (was qs k e j)
      ] in
      go (keep (x, a)) refl h

  -- a fact of what was kept
  pub all_kept : (P : ℕ × Expression → Type 0) (qs : List (ℕ × Expression)) → ((i : ℕ) (d : ℕ × Expression) → i < length qs → keep (get_or qs i d) ≡ true → P (moved (get_or qs i d))) → All P (kept qs)
  all_kept P [] h = All-nil P
  all_kept P (q ∷ qs) h =
      let rest = all_kept P qs (λ i d l k. h (suc i) d (omega (arith, l)) k) in
      let go : (t : Bool) → keep q ≡ t → All P (map moved (cond t (q ∷ filter keep qs) (filter keep qs))) =
      elim [ true ↦ λ t. All-cons P (moved q) (kept qs) (h 0 q (omega arith) t) rest | false ↦ λ t. rest ] in
      go (keep q) refl

  module _ (b x k : ℕ) (own : s x ≡ k) (only : (q : ℕ × Expression) → q.0 < b → keep q ≡ true → s q.0 ≡ k → q.0 ≡ x) where
    not_x : (q : ℕ × Expression) → (q.0 ≡ x → keep q ≡ true) → keep q ≡ false → nat_eq x q.0 ≡ false
    not_x q all t = by (nat_eq x q.0) refl
      where
        by : (b : Bool) → nat_eq x q.0 ≡ b → b ≡ false
        by true e = let z = all (sym (eqb-true x q.0 e)) in absurd (cc)
        by false e = refl

    test : (q : ℕ × Expression) → q.0 < b → keep q ≡ true → nat_eq k (s q.0) ≡ nat_eq x q.0
    test q l t = by (nat_eq k (s q.0)) refl (nat_eq x q.0) refl
      where
        by : (a : Bool) → nat_eq k (s q.0) ≡ a → (b : Bool) → nat_eq x q.0 ≡ b → a ≡ b
        by true e true h = refl
        by false e false h = refl
        by true e false h = let z : q.0 ≡ x = only q l t (sym (eqb-true k (s q.0) e)) in let y : nat_eq x q.0 ≡ true = subst (λ w. nat_eq x w ≡ true) (sym z) (same_self x) in absurd (cc)
        by false e true h = let z : x ≡ q.0 = eqb-true x q.0 h in let y : nat_eq k (s q.0) ≡ true = subst (λ w. nat_eq k (s w) ≡ true) z (subst (λ w. nat_eq k w ≡ true) (sym own) (same_self k)) in absurd (cc)

    -- a variable whose equations are kept has as many
    pub lefts_kept : (qs : List (ℕ × Expression)) → All (λ q. q.0 < b) qs → ((q : ℕ × Expression) → q.0 ≡ x → keep q ≡ true) → left_count k (kept qs) ≡ left_count x qs
    lefts_kept [] a all = refl
    lefts_kept (q ∷ qs) a all =
        let ih = lefts_kept qs (All-tail (λ (q : ℕ × Expression). q.0 < b) q qs a) all in
        let l = All-head (λ (q : ℕ × Expression). q.0 < b) q qs a in
        let go : (t : Bool) → keep q ≡ t → left_count k (map moved (cond t (q ∷ filter keep qs) (filter keep qs))) ≡ left_count x (q ∷ qs) =
        elim [
          | true ↦ λ t. lefts_cons k (moved q) (kept qs) ∙ (λ i. cond (test q l t i) 1 0 + ih i) ∙ sym (lefts_cons x q qs)
          | false ↦ λ t. ih ∙ sym (lefts_cons x q qs ∙ ap (λ b. cond b 1 0 + left_count x qs) (not_x q (all q) t) ∙ omega arith)
        ] in
        go (keep q) refl

  module _ (b k : ℕ) (none : (q : ℕ × Expression) → q.0 < b → keep q ≡ true → s q.0 ≡ k → ⊥) where
    off : (q : ℕ × Expression) → q.0 < b → keep q ≡ true → nat_eq k (s q.0) ≡ false
    off q l t = by (nat_eq k (s q.0)) refl
      where
        by : (b : Bool) → nat_eq k (s q.0) ≡ b → b ≡ false
        by true e = absurd (none q l t (sym (eqb-true k (s q.0) e)))
        by false e = refl

    -- a number that none of them has
    pub lefts_none : (qs : List (ℕ × Expression)) → All (λ q. q.0 < b) qs → left_count k (kept qs) ≡ 0
    lefts_none [] a = refl
    lefts_none (q ∷ qs) a =
        let ih = lefts_none qs (All-tail (λ (q : ℕ × Expression). q.0 < b) q qs a) in
        let l = All-head (λ (q : ℕ × Expression). q.0 < b) q qs a in
        let go : (t : Bool) → keep q ≡ t → left_count k (map moved (cond t (q ∷ filter keep qs) (filter keep qs))) ≡ 0 =
        elim [
          | true ↦ λ t. lefts_cons k (moved q) (kept qs) ∙ (λ i. cond (off q l t i) 1 0 + ih i)
          | false ↦ λ t. ih
        ] in
        go (keep q) refl

pub all_take : {A : Type 0} (P : A → Type 0) (n : ℕ) (xs : List A) → ((k : ℕ) (d : A) → k < n → k < length xs → P (get_or xs k d)) → All P (take n xs)
all_take P zero xs h = All-nil P
all_take P (suc n) [] h = All-nil P
all_take P (suc n) (x ∷ xs) h = All-cons P x (take n xs) (h 0 x (omega arith) (omega arith)) (all_take P n xs (λ k d a b. h (suc k) d (omega (arith, a)) (omega (arith, b))))
