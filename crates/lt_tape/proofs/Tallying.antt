-- One event more is counted.
use Rattle.std.proofs.Common.{◌≡◌, ◌∙◌, ℕ, suc, ◌+◌, ◌-◌, ◌<◌, ◌≤◌, ◌&&◌, nat_le, nat_lt, Bool, true, false, List, [], ◌∷◌, ◌++◌, length, take, if◌then◌else◌, refl, sym, ap, arith, inl, inr, length-append, take_all, leb-true, leb-false, le-leb, lt-ltb, le-ltb, eq-eqb, ne_eqb}
use Rattle.std.proofs.lemmas.Bool.{cases_lt, lt-leb}
use Rattle.std.proofs.lemmas.List.{get_or_append_left, take-append-le}
use Rattle.std.proofs.Math.Seq.{get_or-append_seam}
use Rattle.lt_tape.specs.declared.stroke.Stroke.{Stroke}
use Rattle.lt_tape.specs.declared.stroke.Stroke.TheVariants.{Edge}
use Rattle.lt_tape.specs.declared.tally.Tally.{Tally}
use Rattle.lt_tape.specs.Tapes.{IsTallyOf, is_full, tally_after}
use Rattle.lt_tape.specs.Times.{last_time, stroke_time, stroke_time_at}
use Rattle.lt_tape.specs.Windows.{reach_time, skipped_to}

pub one_longer : (xs : List Stroke) (x : Stroke) → length (xs ++ x ∷ []) ≡ length xs + 1
one_longer xs x = length-append xs (x ∷ [])

pub last_push : (xs : List Stroke) (x : Stroke) → last_time (xs ++ x ∷ []) ≡ stroke_time x
last_push xs x =
    let n = one_longer xs x in
    let place : length (xs ++ x ∷ []) - 1 ≡ length xs = omega (arith, n) in
    ap (λ (k : ℕ). stroke_time_at (xs ++ x ∷ []) k) place ∙ ap stroke_time (get_or-append_seam xs x [] (Edge 0))

pub time_left : (xs ys : List Stroke) (i : ℕ) → i < length xs → stroke_time_at (xs ++ ys) i ≡ stroke_time_at xs i
time_left xs ys i lt = ap stroke_time (get_or_append_left xs ys (Edge 0) i lt)

-- how many come before the first one at a tick

within_by : (b : Bool) (k n : ℕ) → k ≤ n → (if b then 0 else k + 1) ≤ suc n
within_by true k n le = omega arith
within_by false k n le = omega (arith, le)

pub skipped_within : (from : ℕ) (xs : List Stroke) → skipped_to from xs ≤ length xs
skipped_within from [] = omega arith
skipped_within from (x ∷ xs) = within_by (nat_le from (stroke_time x)) (skipped_to from xs) (length xs) (skipped_within from xs)

same_by : (b : Bool) (k l n : ℕ) → (k < n → l ≡ k) → (if b then 0 else k + 1) < suc n → (if b then 0 else l + 1) ≡ (if b then 0 else k + 1)
same_by true k l n same lt = refl
same_by false k l n same lt = ap (λ (m : ℕ). m + 1) (same (omega (arith, lt)))

pub skipped_same : (from : ℕ) (xs ys : List Stroke) → skipped_to from xs < length xs → skipped_to from (xs ++ ys) ≡ skipped_to from xs
skipped_same from [] ys lt = absurd (omega (arith, lt))
skipped_same from (x ∷ xs) ys lt = same_by (nat_le from (stroke_time x)) (skipped_to from xs) (skipped_to from (xs ++ ys)) (length xs) (λ less. skipped_same from xs ys less) lt

more_by : (t : Bool) (l n : ℕ) → l ≡ (if t then n else n + 1) → l + 1 ≡ (if t then suc n else suc n + 1)
more_by true l n is = omega (arith, is)
more_by false l n is = omega (arith, is)

none_by : (b t : Bool) (k l n : ℕ) → (k ≡ n → l ≡ (if t then n else n + 1)) → (if b then 0 else k + 1) ≡ suc n → (if b then 0 else l + 1) ≡ (if t then suc n else suc n + 1)
none_by true t k l n more is = absurd (omega (arith, is))
none_by false t k l n more is = more_by t l n (more (omega (arith, is)))

first_by : (t : Bool) → (if t then 0 else 0 + 1) ≡ (if t then 0 else 0 + 1)
first_by t = refl

pub skipped_none : (from : ℕ) (xs : List Stroke) (x : Stroke) → skipped_to from xs ≡ length xs → skipped_to from (xs ++ x ∷ []) ≡ (if nat_le from (stroke_time x) then length xs else length xs + 1)
skipped_none from [] x is = refl
skipped_none from (y ∷ xs) x is =
    none_by (nat_le from (stroke_time y)) (nat_le from (stroke_time x)) (skipped_to from xs) (skipped_to from (xs ++ x ∷ [])) (length xs) (λ all. skipped_none from xs x all) is

-- the tally of one more

module _ (from most : ℕ) (xs : List Stroke) (x : Stroke) (some : 1 ≤ most) where
  -- enough were there
  module _ (full : skipped_to from xs + most ≤ length xs) where
    pub full_skipped : skipped_to from (xs ++ x ∷ []) ≡ skipped_to from xs
    full_skipped = skipped_same from xs (x ∷ []) (omega (arith, some, full))

    pub full_reach : reach_time from most (xs ++ x ∷ []) ≡ reach_time from most xs
    full_reach = ap (λ (k : ℕ). last_time (take (k + most) (xs ++ x ∷ []))) full_skipped ∙ ap last_time (take-append-le (skipped_to from xs + most) xs (x ∷ []) full)

  skipped_more : (t : Bool) (n : ℕ) → n ≤ (if t then n else n + 1)
  skipped_more true n = omega arith
  skipped_more false n = omega arith

  skipped_grows : skipped_to from xs ≤ skipped_to from (xs ++ x ∷ [])
  skipped_grows = elim (cases_lt (skipped_to from xs) (length xs)) [
    | inl lt ↦ let same = skipped_same from xs (x ∷ []) lt in omega (arith, same)
    | inr le ↦
        let within = skipped_within from xs in
        let all : skipped_to from xs ≡ length xs = omega (arith, le, within) in
        let is = skipped_none from xs x all in
        let more = skipped_more (nat_le from (stroke_time x)) (length xs) in
        omega (arith, is, more, all)
  ]

  pub short_reach : length xs < skipped_to from xs + most → reach_time from most (xs ++ x ∷ []) ≡ stroke_time x
  short_reach short =
      let grows = skipped_grows in
      let n = one_longer xs x in
      ap last_time (take_all (skipped_to from (xs ++ x ∷ []) + most) (xs ++ x ∷ []) (omega (arith, grows, n, short))) ∙ last_push xs x

skip_last : (at from n : ℕ) → (if nat_lt at from then n + 1 else n) ≡ (if nat_le from at then n else n + 1)
skip_last at from n = elim (cases_lt at from) [
  | inl lt ↦ λ i. ((λ j. if lt-ltb at from lt j then n + 1 else n) ∙ (λ j. if sym (lt-leb from at lt) j then n else n + 1)) i
  | inr le ↦ λ i. ((λ j. if le-ltb at from le j then n + 1 else n) ∙ (λ j. if sym (le-leb from at le) j then n else n + 1)) i
]

module _ (c : Tally) (xs : List Stroke) (x : Stroke) (is : IsTallyOf c xs) where
  abbrev next : Tally
  next = tally_after c (stroke_time x)

  abbrev all : List Stroke
  all = xs ++ x ∷ []

  within_here : c.skipped ≤ c.count
  within_here = let w = skipped_within c.from xs in let n = is.count in let s = is.skipped in omega (arith, w, n, s)

  skipped_next : next.skipped ≡ skipped_to c.from all
  skipped_next = elim (cases_lt c.skipped c.count) [
    | inl lt ↦
        let n = is.count in
        let s = is.skipped in
        (λ i. if ne_eqb c.skipped c.count (λ e. absurd (omega (arith, lt, e))) i && nat_lt (stroke_time x) c.from then c.skipped + 1 else c.skipped)
        ∙ s ∙ sym (skipped_same c.from xs (x ∷ []) (omega (arith, lt, n, s)))
    | inr le ↦
        let w = within_here in
        let n = is.count in
        let s = is.skipped in
        let e : c.skipped ≡ c.count = omega (arith, le, w) in
        let all_skipped : skipped_to c.from xs ≡ length xs = omega (arith, e, n, s) in
        let here : c.skipped ≡ length xs = omega (arith, e, n) in
        (λ i. if eq-eqb c.skipped c.count e i && nat_lt (stroke_time x) c.from then c.skipped + 1 else c.skipped)
        ∙ skip_last (stroke_time x) c.from c.skipped
        ∙ (λ i. if nat_le c.from (stroke_time x) then here i else here i + 1)
        ∙ sym (skipped_none c.from xs x all_skipped)
  ]

  reach_by : (b : Bool) → is_full c ≡ b → (if b then c.reach else stroke_time x) ≡ reach_time c.from c.most all
  reach_by true full =
      let much = leb-true c.most (c.count - c.skipped) full in
      let some = is.some in
      let n = is.count in
      let s = is.skipped in
      is.reach ∙ sym (full_reach c.from c.most xs x is.some (omega (arith, much, some, n, s)))
  reach_by false short =
      let few = leb-false c.most (c.count - c.skipped) short in
      let w = within_here in
      let n = is.count in
      let s = is.skipped in
      sym (short_reach c.from c.most xs x is.some (omega (arith, few, w, n, s)))

  pub tally_push : IsTallyOf next all
  tally_push = record {
    some = is.some;
    count = let n = is.count in let m = one_longer xs x in omega (arith, n, m);
    skipped = skipped_next;
    reach = reach_by (is_full c) refl;
    last = sym (last_push xs x);
  }
