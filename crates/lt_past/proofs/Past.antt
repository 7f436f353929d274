-- Each word by what held at the instant before.
use Rattle.std.proofs.Common.{◌≡◌, ◌⊎◌, ℕ, ◌+◌, ◌-◌, ◌<◌, ◌≤◌, Bool, true, false, not, inl, inr, refl, sym, subst, arith}
use Rattle.std.specs.Prelude.{◌↔◌, ◌&&◌, ◌||◌, IsTrue, nat_lt}
use Rattle.std.proofs.Common.{ltb-true, ltb-false}
use Rattle.lt_past.specs.declared.words.Prefix.{Prefix}
use Rattle.lt_past.specs.declared.words.Prefix.TheVariants.{Not, Previous, Once, Historically}
use Rattle.lt_past.specs.declared.words.Infix.{Infix}
use Rattle.lt_past.specs.declared.words.Infix.TheVariants.{And, Or, Since, Implies}
use Rattle.lt_past.specs.Satisfaction.{Property, Past, Both}
use Rattle.lt_past.specs.Turn.{past, infix_value}

-- truth values

pub yes_or : (a b : Bool) → IsTrue (a || b) ↔ (IsTrue a ⊎ IsTrue b)
yes_or true b = (λ h. inl refl, λ h. refl)
yes_or false b = (λ h. inr h, λ h. elim h [ inl p ↦ absurd (cc) | inr q ↦ q ])

pub yes_and : (a b : Bool) → IsTrue (a && b) ↔ (IsTrue a × IsTrue b)
yes_and true b = (λ h. (refl, h), λ h. h.1)
yes_and false b = (λ h. absurd (cc), λ h. let p = h.0 in absurd (cc))

pub yes_not : (a : Bool) → IsTrue (not a) ↔ (IsTrue a → ⊥)
yes_not true = (λ h. absurd (cc), λ h. absurd (h refl))
yes_not false = (λ h p. cc, λ h. refl)

-- an instant up to this one is this one or one up to the one before

pub split : (j i : ℕ) → j ≤ i → (j ≡ i) ⊎ ((m : ℕ) × (i ≡ m + 1) × (j ≤ m))
split j i h =
    elim (nat_lt j i) as (λ t. nat_lt j i ≡ t → (j ≡ i) ⊎ ((m : ℕ) × (i ≡ m + 1) × (j ≤ m))) [
      | true ↦ λ is. let lt : j < i = ltb-true j i is in inr (i - 1, omega arith, omega arith)
      | false ↦ λ is. let ge : i ≤ j = ltb-false j i is in inl (omega arith)
    ] refl

module _ (F G : Property) (i : ℕ) where
  at_le : (j k : ℕ) → j ≡ k → F j → F k
  at_le j k e h = subst F e h

  once_by : Past Once F i ↔ (Past Previous (Past Once F) i ⊎ F i)
  once_by = (
    λ h. elim (split h.0 i h.1) [ inl e ↦ inr (subst F e h.2) | inr d ↦ inl (d.0, d.1, (h.0, d.2, h.2)) ],
    λ h. elim h [ inl d ↦ let p = d.2 in (p.0, omega (arith, d.1, p.1), p.2) | inr now ↦ (i, omega arith, now) ],
  )

  historically_by : Past Historically F i ↔ (((i ≡ 0) ⊎ Past Previous (Past Historically F) i) × F i)
  historically_by = (
    λ h. (elim (split 0 i (omega arith)) [ inl e ↦ inl (sym e) | inr d ↦ inr (d.0, d.1, λ j le. h j (omega (arith, d.1))) ], h i (omega arith)),
    λ h j le. elim (split j i le) [ inl e ↦ subst F (sym e) h.1 | inr d ↦ elim h.0 [ inl z ↦ absurd (omega (arith, z, d.1)) | inr p ↦ p.2 j (omega (arith, d.1, d.2, p.1)) ] ],
  )

  since_by : Both Since F G i ↔ (G i ⊎ (Past Previous (Both Since F G) i × F i))
  since_by = (
    λ h. elim (split h.0 i h.1) [
      | inl e ↦ inl (subst G e h.2)
      | inr d ↦ inr ((d.0, d.1, (h.0, d.2, h.2, λ k lt le. h.3 k lt (omega (arith, d.1)))), h.3 i (omega (arith, d.1, d.2)) (omega arith))
    ],
    λ h. elim h [
      | inl now ↦ (i, omega arith, now, λ k lt le. absurd (omega arith))
      | inr p ↦
          let s = p.0.2 in
          (s.0, omega (arith, p.0.1, s.1), s.2, λ k lt le. elim (split k i le) [ inl e ↦ subst F (sym e) p.1 | inr d ↦ s.3 k lt (omega (arith, d.1, d.2, p.0.1)) ])
    ],
  )

  -- by truth values: of the word at the instant before, of its operands there and here
  pub past_right : (p : Prefix) (began last before newest : Bool) → (IsTrue began ↔ (0 < i)) → (IsTrue last ↔ Past Previous (Past p F) i) → (IsTrue before ↔ Past Previous F i) → (IsTrue newest ↔ F i) → IsTrue (past p began last before newest) ↔ Past p F i
  past_right Not began last before newest b l r n = let k = yes_not newest in (λ h x. k.0 h (n.1 x), λ h. k.1 (λ y. h (n.0 y)))
  past_right Previous began last before newest b l r n = r
  past_right Once began last before newest b l r n =
      let k = yes_or last newest in (
        λ h. once_by.1 (elim (k.0 h) [ inl x ↦ inl (l.0 x) | inr y ↦ inr (n.0 y) ]),
        λ h. k.1 (elim (once_by.0 h) [ inl x ↦ inl (l.1 x) | inr y ↦ inr (n.1 y) ]),
      )
  past_right Historically began last before newest b l r n =
      let k = yes_and (not began || last) newest in
      let m = yes_or (not began) last in
      let q = yes_not began in (
        λ h. let two = k.0 h in historically_by.1 (elim (m.0 two.0) [ inl x ↦ inl (at_first x) | inr y ↦ inr (l.0 y) ], n.0 two.1),
        λ h. let two = historically_by.0 h in k.1 (m.1 (elim two.0 [ inl z ↦ inl (q.1 (λ y. let lt = b.0 y in absurd (omega (arith, lt, z)))) | inr y ↦ inr (l.1 y) ]), n.1 two.1),
      )
    where
      at_first : IsTrue (not began) → i ≡ 0
      at_first x = elim (nat_lt 0 i) as (λ t. nat_lt 0 i ≡ t → i ≡ 0) [
        | true ↦ λ is. absurd ((yes_not began).0 x (b.1 (ltb-true 0 i is)))
        | false ↦ λ is. let ge : i ≤ 0 = ltb-false 0 i is in omega arith
      ] refl

  pub both_right : (o : Infix) (last first second : Bool) → (IsTrue last ↔ Past Previous (Both o F G) i) → (IsTrue first ↔ F i) → (IsTrue second ↔ G i) → IsTrue (infix_value o last first second) ↔ Both o F G i
  both_right And last first second l f s = let k = yes_and first second in (λ h. let two = k.0 h in (f.0 two.0, s.0 two.1), λ h. k.1 (f.1 h.0, s.1 h.1))
  both_right Or last first second l f s =
      let k = yes_or first second in (λ h. elim (k.0 h) [ inl x ↦ inl (f.0 x) | inr y ↦ inr (s.0 y) ], λ h. k.1 (elim h [ inl x ↦ inl (f.1 x) | inr y ↦ inr (s.1 y) ]))
  both_right Implies last true second l f s = (λ h x. s.0 h, λ h. s.1 (h (f.0 refl)))
  both_right Implies last false second l f s = (λ h x. let p = f.1 x in absurd (cc), λ h. refl)
  both_right Since last first second l f s =
      let k = yes_or second (last && first) in
      let m = yes_and last first in (
        λ h. since_by.1 (elim (k.0 h) [ inl x ↦ inl (s.0 x) | inr y ↦ let two = m.0 y in inr (l.0 two.0, f.0 two.1) ]),
        λ h. k.1 (elim (since_by.0 h) [ inl x ↦ inl (s.1 x) | inr y ↦ inr (m.1 (l.1 y.0, f.1 y.1)) ]),
      )
