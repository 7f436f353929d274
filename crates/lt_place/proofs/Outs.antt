-- What a node gives out.
use Rattle.std.proofs.Common.{◌≡◌, ℕ, zero, suc, ◌+◌, ◌<◌, ◌≤◌, Bool, true, false, cond, List, [], ◌∷◌, ◌++◌, length, map, get_or, Some, refl, sym, ap, ◌∙◌, subst, arith, ⊎_elim, eqb-true}
use Rattle.std.specs.Prelude.{nat_eq, ◌&&◌, slice_get, if◌then◌else◌}
use Rattle.std.specs.List.{count_by}
use Rattle.std.proofs.lemmas.List.{append-nil, map-append}
use Rattle.std.proofs.lemmas.List.Sums.{sum_by-append, sum_by-cons}
use Rattle.std.proofs.lemmas.Bool.{cases_eq, cases_lt}
use Rattle.lt_base.proofs.Lookups.{same_self}
use Rattle.lt_place_reads.proofs.Crossed.{get_left, get_last, get_end}
use Rattle.lt_place.specs.Spread.{outs_below}

and_both : (a b : Bool) → (a && b) ≡ true → (a ≡ true) × (b ≡ true)
and_both true b h = (refl, h)
and_both false b h = absurd (cc)

and_true : (a b : Bool) → a ≡ true → b ≡ true → (a && b) ≡ true
and_true true b e h = h
and_true false b e h = absurd (cc)

module _ (nodes : List ℕ) (given : List Bool) (n : ℕ) where
  abbrev test : ℕ → Bool
  test x = nat_eq (get_or nodes x 0) n && get_or given x false

  abbrev outs : ℕ → List ℕ
  outs m = outs_below nodes given n m

  -- the list after one more variable
  data Next (m : ℕ) : Type 0 where
    more : test m ≡ true → outs (suc m) ≡ outs m ++ m ∷ [] → Next m
    same : test m ≡ false → outs (suc m) ≡ outs m → Next m

  next : (m : ℕ) → Next m
  next m =
      let go : (b : Bool) → test m ≡ b → Next m =
      elim [
        | true ↦ λ e. more e (ap (λ b. outs m ++ (if b then m ∷ [] else [])) e)
        | false ↦ λ e. same e (ap (λ b. outs m ++ (if b then m ∷ [] else [])) e ∙ append-nil (outs m))
      ] in
      go (test m) refl

  pub outs_in : (m i x : ℕ) → slice_get (outs m) i ≡ Some x → (x < m) × (get_or nodes x 0 ≡ n) × (get_or given x false ≡ true)
  outs_in zero i x h = absurd (cc)
  outs_in (suc m) i x h =
      elim (next m) [
        | more e q ↦ ⊎_elim
            (λ r. let w = outs_in m i x r.1 in let l = w.0 in (omega (arith, l), w.1, w.2))
            (λ r.
            let b = and_both (nat_eq (get_or nodes m 0) n) (get_or given m false) e in
            subst (λ x. (x < suc m) × (get_or nodes x 0 ≡ n) × (get_or given x false ≡ true)) r.1 (omega arith, eqb-true (get_or nodes m 0) n b.0, b.1))
            (get_last (outs m) m i x (ap (λ l. slice_get l i) (sym q) ∙ h))
        | same e q ↦ let w = outs_in m i x (ap (λ l. slice_get l i) (sym q) ∙ h) in let l = w.0 in (omega (arith, l), w.1, w.2)
      ]

  pub outs_out : (m x : ℕ) → x < m → get_or nodes x 0 ≡ n → get_or given x false ≡ true → (i : ℕ) × (slice_get (outs m) i ≡ Some x)
  outs_out zero x l a b = absurd (omega arith)
  outs_out (suc m) x l a b =
      elim (next m) [
        | more e q ↦ ⊎_elim
            (λ (s : x ≡ m). (length (outs m), ap (λ l. slice_get l (length (outs m))) q ∙ get_end (outs m) m ∙ ap Some (sym s)))
            (λ s. let k : x < m = omega (arith, s) in let w = outs_out m x k a b in (w.0, ap (λ l. slice_get l w.0) q ∙ get_left (outs m) (m ∷ []) w.0 x w.1))
            (cases_eq x m)
        | same e q ↦ ⊎_elim
            (λ (s : x ≡ m).
            let t : test x ≡ true = and_true (nat_eq (get_or nodes x 0) n) (get_or given x false) (ap (λ z. nat_eq z n) a ∙ same_self n) b in
            let u : test x ≡ false = ap test s ∙ e in
            absurd (cc))
            (λ s. let k : x < m = omega (arith, s) in let w = outs_out m x k a b in (w.0, ap (λ l. slice_get l w.0) q ∙ w.1))
            (cases_eq x m)
      ]

  pub outs_ascend : (m i j x y : ℕ) → i < j → slice_get (outs m) i ≡ Some x → slice_get (outs m) j ≡ Some y → x < y
  outs_ascend zero i j x y l h k = absurd (cc)
  outs_ascend (suc m) i j x y l h k =
      elim (next m) [
        | more e q ↦
            let h' = ap (λ l. slice_get l i) (sym q) ∙ h in
            let k' = ap (λ l. slice_get l j) (sym q) ∙ k in
            ⊎_elim
            (λ r. ⊎_elim (λ s. outs_ascend m i j x y l s.1 r.1) (λ s. let a = s.0 in let b = r.0 in absurd (omega (arith, a, b, l))) (get_last (outs m) m i x h'))
            (λ r. ⊎_elim
            (λ s. let w = (outs_in m i x s.1).0 in let b = r.1 in omega (arith, w, b))
            (λ s. let a = s.0 in let b = r.0 in absurd (omega (arith, a, b, l)))
            (get_last (outs m) m i x h'))
            (get_last (outs m) m j y k')
        | same e q ↦ outs_ascend m i j x y l (ap (λ l. slice_get l i) (sym q) ∙ h) (ap (λ l. slice_get l j) (sym q) ∙ k)
      ]

  -- each of them has a number of its own
  module _ (s r : ℕ → ℕ) (bound : ℕ) (returns : (x : ℕ) → x < bound → get_or nodes x 0 ≡ n → r (s x) ≡ x) (y : ℕ) where
    abbrev times : ℕ → ℕ
    times m = count_by (nat_eq y) (map s (outs m))

    times_more : (xs : List ℕ) (m : ℕ) → count_by (nat_eq y) (map s (xs ++ m ∷ [])) ≡ count_by (nat_eq y) (map s xs) + cond (nat_eq y (s m)) 1 0
    times_more xs m =
        let one = λ (z : ℕ). cond (nat_eq y z) 1 0 in
        ap (count_by (nat_eq y)) (map-append s xs (m ∷ []))
        ∙ sum_by-append one (map s xs) (s m ∷ [])
        ∙ ap (λ k. count_by (nat_eq y) (map s xs) + k) (sum_by-cons one (s m) [] ∙ omega arith)

    -- none before its own turn, and one from then on
    few : (m : ℕ) → m ≤ bound → (r y < m → times m ≤ 1) × (m ≤ r y → times m ≡ 0)
    few zero l = (λ a. omega arith, λ a. refl)
    few (suc m) l =
        let ih = few m (omega arith) in
        elim (next m) [
          | more e q ↦
              let b = and_both (nat_eq (get_or nodes m 0) n) (get_or given m false) e in
              let back = returns m (omega arith) (eqb-true (get_or nodes m 0) n b.0) in
              let sum : times (suc m) ≡ times m + cond (nat_eq y (s m)) 1 0 = ap (λ l. count_by (nat_eq y) (map s l)) q ∙ times_more (outs m) m in
              let go : (t : Bool) → nat_eq y (s m) ≡ t → (r y < suc m → times (suc m) ≤ 1) × (suc m ≤ r y → times (suc m) ≡ 0) =
              elim [
                | true ↦ λ t.
                    let here : r y ≡ m = ap r (eqb-true y (s m) t) ∙ back in
                    let z = ih.1 (omega (arith, here)) in
                    let k = ap (λ b. times m + cond b 1 0) t in
                    (λ a. omega (arith, sum, k, z), λ a. absurd (omega (arith, here, a)))
                | false ↦ λ t.
                    let k = ap (λ b. times m + cond b 1 0) t in (
                      λ a. ⊎_elim (λ (p : r y < m). let z = ih.0 p in omega (arith, sum, k, z)) (λ (p : m ≤ r y). let z = ih.1 p in omega (arith, sum, k, z)) (cases_lt (r y) m),
                      λ a. let z = ih.1 (omega (arith, a)) in omega (arith, sum, k, z),
                    )
              ] in
              go (nat_eq y (s m)) refl
          | same e q ↦
              let k = ap (λ l. count_by (nat_eq y) (map s l)) q in (
                λ a. ⊎_elim (λ (p : r y < m). let z = ih.0 p in omega (arith, k, z)) (λ (p : m ≤ r y). let z = ih.1 p in omega (arith, k, z)) (cases_lt (r y) m),
                λ a. let z = ih.1 (omega (arith, a)) in omega (arith, k, z),
              )
        ]

    pub outs_once : (m : ℕ) → m ≤ bound → times m ≤ 1
    outs_once m l =
        let w = few m l in
        ⊎_elim (λ (p : r y < m). w.0 p) (λ (p : m ≤ r y). let z = w.1 p in omega (arith, z)) (cases_lt (r y) m)
