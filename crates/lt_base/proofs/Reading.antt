-- Facts of each variable that an expression reads.
use Rattle.std.proofs.Common.{◌≡◌, ℕ, ◌⊎◌, inl, inr, Bool, true, false, List, [], ◌∷◌, ◌++◌, refl, sym, ap, subst, eqb-true, ⊎_elim}
use Rattle.std.specs.Prelude.{◌||◌, nat_eq}
use Rattle.lt_base.specs.Expression.{Expression, literal, variable, unary, binary, imported, choose, sampled, merged, delayed, follow, arrow, call, Arguments, no_arguments, argument}
use Rattle.lt_base.specs.Meaning.{ClockPairs}
use Rattle.lt_base.specs.Dependence.{has, reads, arguments_reads, clock_vars}
use Rattle.lt_base.specs.Order.{EachRead, EachArgumentRead, EachClockVar}
use Rattle.lt_base.proofs.Lookups.{same_self}

-- ---- membership

pub or_left : (a b : Bool) → a ≡ true → (a || b) ≡ true
or_left a b h = ap (λ a. a || b) h

pub or_right : (a b : Bool) → b ≡ true → (a || b) ≡ true
or_right true b h = refl
or_right false b h = h

pub has_front : (y : ℕ) (xs ys : List ℕ) → has y xs ≡ true → has y (xs ++ ys) ≡ true
has_front y [] ys h = absurd (cc)
has_front y (x ∷ xs) ys h =
    let go : (t : Bool) → nat_eq y x ≡ t → (t || has y xs) ≡ true → (t || has y (xs ++ ys)) ≡ true =
    elim [ true ↦ λ _ _. refl | false ↦ λ _ k. has_front y xs ys k ] in
    go (nat_eq y x) refl h

pub has_back : (y : ℕ) (xs ys : List ℕ) → has y ys ≡ true → has y (xs ++ ys) ≡ true
has_back y [] ys h = h
has_back y (x ∷ xs) ys h = or_right (nat_eq y x) (has y (xs ++ ys)) (has_back y xs ys h)

pub has_cases : (y : ℕ) (xs ys : List ℕ) → has y (xs ++ ys) ≡ true → (has y xs ≡ true) ⊎ (has y ys ≡ true)
has_cases y [] ys h = inr h
has_cases y (x ∷ xs) ys h =
    let go : (t : Bool) → nat_eq y x ≡ t → (t || has y (xs ++ ys)) ≡ true → ((t || has y xs) ≡ true) ⊎ (has y ys ≡ true) =
    elim [ true ↦ λ _ _. inl refl | false ↦ λ _ k. has_cases y xs ys k ] in
    go (nat_eq y x) refl h

pub has_one : (P : ℕ → Type 0) (x : ℕ) (xs : List ℕ) (y : ℕ) → has y (x ∷ xs) ≡ true → P x → (has y xs ≡ true → P y) → P y
has_one P x xs y h p q =
    let go : (t : Bool) → nat_eq y x ≡ t → (t || has y xs) ≡ true → P y =
    elim [ true ↦ λ e _. subst P (sym (eqb-true y x e)) p | false ↦ λ _ k. q k ] in
    go (nat_eq y x) refl h

-- a fact of each member of a list
module _ (P : ℕ → Type 0) where
  abbrev pub Members : List ℕ → Type 0
  Members xs = (y : ℕ) → has y xs ≡ true → P y

  pub members_front : (xs ys : List ℕ) → Members (xs ++ ys) → Members xs
  members_front xs ys m y h = m y (has_front y xs ys h)

  pub members_back : (xs ys : List ℕ) → Members (xs ++ ys) → Members ys
  members_back xs ys m y h = m y (has_back y xs ys h)

  pub members_first : (x : ℕ) (xs : List ℕ) → Members (x ∷ xs) → P x
  members_first x xs m = m x (or_left (nat_eq x x) (has x xs) (same_self x))

  pub members_rest : (x : ℕ) (xs : List ℕ) → Members (x ∷ xs) → Members xs
  members_rest x xs m y h = m y (or_right (nat_eq y x) (has y xs) h)

-- ---- a fact of each read

mutual
  pub each_of : (P : ℕ → Type 0) → ((x : ℕ) → P x) → (e : Expression) → EachRead P e
  each_of P h (literal v) = tt
  each_of P h (variable x) = h x
  each_of P h (unary o a) = each_of P h a
  each_of P h (binary o a b) = (each_of P h a, each_of P h b)
  each_of P h (imported o a b) = (each_of P h a, each_of P h b)
  each_of P h (choose c a b) = (each_of P h c, each_of P h a, each_of P h b)
  each_of P h (sampled e c b) = (each_of P h e, h c)
  each_of P h (merged c a b) = (h c, each_of P h a, each_of P h b)
  each_of P h (delayed v e) = tt
  each_of P h (follow a b) = each_of P h a
  each_of P h (arrow a b) = (each_of P h a, each_of P h b)
  each_of P h (call g args) = each_argument_of P h args

  pub each_argument_of : (P : ℕ → Type 0) → ((x : ℕ) → P x) → (args : Arguments) → EachArgumentRead P args
  each_argument_of P h no_arguments = tt
  each_argument_of P h (argument e args) = (each_of P h e, each_argument_of P h args)

mutual
  pub each_map : (P Q : ℕ → Type 0) → ((x : ℕ) → P x → Q x) → (e : Expression) → EachRead P e → EachRead Q e
  each_map P Q h (literal v) r = tt
  each_map P Q h (variable x) r = h x r
  each_map P Q h (unary o a) r = each_map P Q h a r
  each_map P Q h (binary o a b) r = (each_map P Q h a r.0, each_map P Q h b r.1)
  each_map P Q h (imported o a b) r = (each_map P Q h a r.0, each_map P Q h b r.1)
  each_map P Q h (choose c a b) r = (each_map P Q h c r.0, each_map P Q h a r.1, each_map P Q h b r.2)
  each_map P Q h (sampled e c b) r = (each_map P Q h e r.0, h c r.1)
  each_map P Q h (merged c a b) r = (h c r.0, each_map P Q h a r.1, each_map P Q h b r.2)
  each_map P Q h (delayed v e) r = tt
  each_map P Q h (follow a b) r = each_map P Q h a r
  each_map P Q h (arrow a b) r = (each_map P Q h a r.0, each_map P Q h b r.1)
  each_map P Q h (call g args) r = each_argument_map P Q h args r

  pub each_argument_map : (P Q : ℕ → Type 0) → ((x : ℕ) → P x → Q x) → (args : Arguments) → EachArgumentRead P args → EachArgumentRead Q args
  each_argument_map P Q h no_arguments r = tt
  each_argument_map P Q h (argument e args) r = (each_map P Q h e r.0, each_argument_map P Q h args r.1)

pub each_clock_of : (P : ℕ → Type 0) → ((x : ℕ) → P x) → (ck : ClockPairs) → EachClockVar P ck
each_clock_of P h [] = tt
each_clock_of P h ((c, b) ∷ ck) = (h c, each_clock_of P h ck)

pub each_clock_map : (P Q : ℕ → Type 0) → ((x : ℕ) → P x → Q x) → (ck : ClockPairs) → EachClockVar P ck → EachClockVar Q ck
each_clock_map P Q h [] r = tt
each_clock_map P Q h ((c, b) ∷ ck) r = (h c r.0, each_clock_map P Q h ck r.1)

-- ---- it is a fact of each member of the list of reads

module _ (P : ℕ → Type 0) where
  mutual
    pub each_at : (e : Expression) → EachRead P e → (y : ℕ) → has y (reads e) ≡ true → P y
    each_at (literal v) r y h = absurd (cc)
    each_at (variable x) r y h = has_one P x [] y h r (λ k. absurd (cc))
    each_at (unary o a) r y h = each_at a r y h
    each_at (binary o a b) r y h = ⊎_elim (each_at a r.0 y) (each_at b r.1 y) (has_cases y (reads a) (reads b) h)
    each_at (imported o a b) r y h = ⊎_elim (each_at a r.0 y) (each_at b r.1 y) (has_cases y (reads a) (reads b) h)
    each_at (choose c a b) r y h =
        ⊎_elim (each_at c r.0 y) (λ k. ⊎_elim (each_at a r.1 y) (each_at b r.2 y) (has_cases y (reads a) (reads b) k)) (has_cases y (reads c) (reads a ++ reads b) h)
    each_at (sampled e c b) r y h = ⊎_elim (each_at e r.0 y) (λ k. has_one P c [] y k r.1 (λ j. absurd (cc))) (has_cases y (reads e) (c ∷ []) h)
    each_at (merged c a b) r y h = has_one P c (reads a ++ reads b) y h r.0 (λ k. ⊎_elim (each_at a r.1 y) (each_at b r.2 y) (has_cases y (reads a) (reads b) k))
    each_at (delayed v e) r y h = absurd (cc)
    each_at (follow a b) r y h = each_at a r y h
    each_at (arrow a b) r y h = ⊎_elim (each_at a r.0 y) (each_at b r.1 y) (has_cases y (reads a) (reads b) h)
    each_at (call g args) r y h = each_argument_at args r y h

    pub each_argument_at : (args : Arguments) → EachArgumentRead P args → (y : ℕ) → has y (arguments_reads args) ≡ true → P y
    each_argument_at no_arguments r y h = absurd (cc)
    each_argument_at (argument e args) r y h = ⊎_elim (each_at e r.0 y) (each_argument_at args r.1 y) (has_cases y (reads e) (arguments_reads args) h)

  pub each_clock_at : (ck : ClockPairs) → EachClockVar P ck → (y : ℕ) → has y (clock_vars ck) ≡ true → P y
  each_clock_at [] r y h = absurd (cc)
  each_clock_at ((c, b) ∷ ck) r y h = has_one P c (clock_vars ck) y h r.0 (each_clock_at ck r.1 y)

  mutual
    pub each_from : (e : Expression) → Members P (reads e) → EachRead P e
    each_from (literal v) m = tt
    each_from (variable x) m = members_first P x [] m
    each_from (unary o a) m = each_from a m
    each_from (binary o a b) m = (each_from a (members_front P (reads a) (reads b) m), each_from b (members_back P (reads a) (reads b) m))
    each_from (imported o a b) m = (each_from a (members_front P (reads a) (reads b) m), each_from b (members_back P (reads a) (reads b) m))
    each_from (choose c a b) m =
        let n = members_back P (reads c) (reads a ++ reads b) m in
        (each_from c (members_front P (reads c) (reads a ++ reads b) m), each_from a (members_front P (reads a) (reads b) n), each_from b (members_back P (reads a) (reads b) n))
    each_from (sampled e c b) m = (each_from e (members_front P (reads e) (c ∷ []) m), members_first P c [] (members_back P (reads e) (c ∷ []) m))
    each_from (merged c a b) m =
        let n = members_rest P c (reads a ++ reads b) m in
        (members_first P c (reads a ++ reads b) m, each_from a (members_front P (reads a) (reads b) n), each_from b (members_back P (reads a) (reads b) n))
    each_from (delayed v e) m = tt
    each_from (follow a b) m = each_from a m
    each_from (arrow a b) m = (each_from a (members_front P (reads a) (reads b) m), each_from b (members_back P (reads a) (reads b) m))
    each_from (call g args) m = each_argument_from args m

    pub each_argument_from : (args : Arguments) → Members P (arguments_reads args) → EachArgumentRead P args
    each_argument_from no_arguments m = tt
    each_argument_from (argument e args) m = (each_from e (members_front P (reads e) (arguments_reads args) m), each_argument_from args (members_back P (reads e) (arguments_reads args) m))

  pub each_clock_from : (ck : ClockPairs) → Members P (clock_vars ck) → EachClockVar P ck
  each_clock_from [] m = tt
  each_clock_from ((c, b) ∷ ck) m = (members_first P c (clock_vars ck) m, each_clock_from ck (members_rest P c (clock_vars ck) m))
