-- One stroke more is kept from a tick on, or not.
use Rattle.std.proofs.Common.{◌≡◌, ◌∙◌, ℕ, ◌+◌, ◌-◌, ◌≤◌, nat_le, max, Bool, true, false, List, [], ◌∷◌, ◌++◌, length, Option, Some, None, if◌then◌else◌, refl, sym, ap, arith, leb-true, ltb-true, lt-ltb, le-leb, append-nil, subst, take_all}
use Rattle.std.specs.List.{filter}
use Rattle.std.proofs.lemmas.Bool.{false≢true}
use Rattle.std.proofs.lemmas.List.Elements.{filter-append}
use Rattle.lt_diagram.specs.declared.picture.Mark.{Mark}
use Rattle.lt_tape.specs.declared.front.Front.{Front}
use Rattle.lt_tape.specs.declared.stroke.Stroke.{Stroke}
use Rattle.lt_tape.specs.declared.tally.Tally.{Tally}
use Rattle.lt_tape.specs.declared.window.Window.{Window}
use Rattle.lt_tape.specs.Kept.{early_after}
use Rattle.lt_tape.specs.Tapes.{EndsThere, IsFrontOf, IsTallyOf, end_by, fresh_tally, front_after, is_before_end, is_full, is_loud, is_taped}
use Rattle.lt_tape.specs.Times.{last_time, stroke_begin, stroke_time}
use Rattle.lt_tape.specs.Windows.{reach_time, skipped_to}
use Rattle.lt_tape.proofs.Loud.{both_are, both_true, early_append, never}
use Rattle.lt_tape.proofs.Tallying.{full_reach, full_skipped, one_longer, skipped_within, tally_push}

module _ (from most : ℕ) (xs : List Stroke) (x : Stroke) (some : 1 ≤ most) (to : ℕ) where
  -- where a picture of one event more ends, it ended before
  pub ended : (asked : Option ℕ) → EndsThere asked from most (xs ++ x ∷ []) to → EndsThere asked from most xs to
  ended (Some end) there = there
  ended None there = λ beyond.
      let less = ltb-true (skipped_to from xs + most) (length xs) beyond in
      let full : skipped_to from xs + most ≤ length xs = omega (arith, less) in
      let same = full_skipped from most xs x some full in
      let n = one_longer xs x in
      there (lt-ltb (skipped_to from (xs ++ x ∷ []) + most) (length (xs ++ x ∷ [])) (omega (arith, same, n, less)))
      ∙ ap (λ (k : ℕ). max k (from + 1)) (full_reach from most xs x some full)

module _ (f : Front) (xs : List Stroke) (x : Stroke) (is : IsFrontOf f xs) where
  abbrev from : ℕ
  from = f.tally.from

  abbrev most : ℕ
  most = f.tally.most

  abbrev all : List Stroke
  all = xs ++ x ∷ []

  module _ (to : ℕ) where
    abbrev w : Window
    w = record { from = from; to = to }

    -- a stroke that counts begins before the end

    before_full : (b : Bool) → is_full f.tally ≡ b → EndsThere None from most all to → stroke_begin x ≤ to → is_before_end (if b then Some (max f.tally.reach f.after) else None) x ≡ true
    before_full false short there begins = refl
    before_full true full there begins =
        let much = leb-true most (f.tally.count - f.tally.skipped) full in
        let some = is.tally.some in
        let n = is.tally.count in
        let s = is.tally.skipped in
        let within = skipped_within from xs in
        let enough : skipped_to from xs + most ≤ length xs = omega (arith, much, some, n, s, within) in
        let same = full_skipped from most xs x some enough in
        let longer = one_longer xs x in
        let ends : to ≡ max (reach_time from most all) (from + 1) = there (lt-ltb (skipped_to from all + most) (length all) (omega (arith, same, longer, enough))) in
        let reach : reach_time from most all ≡ f.tally.reach = full_reach from most xs x some enough ∙ sym is.tally.reach in
        let here : to ≡ max f.tally.reach f.after = ends ∙ (λ i. max (reach i) (sym is.after i)) in
        ap (nat_le (stroke_begin x)) (sym here) ∙ begins_le begins
      where
        begins_le : stroke_begin x ≤ to → nat_le (stroke_begin x) to ≡ true
        begins_le le = le-leb (stroke_begin x) to le

    before_end : (asked : Option ℕ) → f.to ≡ asked → EndsThere asked from most all to → nat_le (stroke_begin x) to ≡ true → is_before_end (end_by asked f.tally f.after) x ≡ true
    before_end (Some end) known there begins = (λ i. nat_le (stroke_begin x) ((ap (max end) is.after ∙ sym there) i)) ∙ begins
    before_end None known there begins = before_full (is_full f.tally) refl there (leb-true (stroke_begin x) to begins)

    quiet : is_taped f x ≡ false → EndsThere f.to from most all to → is_loud w x ≡ false
    quiet unwanted there = never (is_loud w x) (λ loud.
        let both = both_true (nat_le from (stroke_time x)) (nat_le (stroke_begin x) to) loud in
        false≢true (sym unwanted ∙ both_are _ _ both.0 (before_end f.to refl there both.1)))

    one_quiet : (b : Bool) → b ≡ false → filter (is_loud w) xs ≡ filter (is_loud w) xs ++ (if b then x ∷ [] else [])
    one_quiet b off = sym (ap (λ c. filter (is_loud w) xs ++ (if c then x ∷ [] else [])) off ∙ append-nil (filter (is_loud w) xs))

    kept_by : (b : Bool) → is_taped f x ≡ b → EndsThere f.to from most all to → filter (is_loud w) (if b then f.kept ++ x ∷ [] else f.kept) ≡ filter (is_loud w) all
    kept_by true wanted there =
        filter-append (is_loud w) f.kept (x ∷ []) ∙ ap (λ ys. ys ++ filter (is_loud w) (x ∷ [])) (is.kept to (ended from most xs x is.tally.some to f.to there)) ∙ sym (filter-append (is_loud w) xs (x ∷ []))
    kept_by false unwanted there =
        is.kept to (ended from most xs x is.tally.some to f.to there) ∙ one_quiet (is_loud w x) (quiet unwanted there) ∙ sym (filter-append (is_loud w) xs (x ∷ []))

  pub front_push : IsFrontOf (front_after f x) all
  front_push = record {
    tally = tally_push f.tally xs x is.tally;
    after = is.after;
    early = ap (early_after from x) is.early ∙ sym (early_append from [] xs (x ∷ []));
    kept = λ to there. kept_by to (is_taped f x) refl there;
  }

-- before the first stroke

fresh_counts : (from most : ℕ) → 1 ≤ most → IsTallyOf (fresh_tally from most) []
fresh_counts from most some = record { some = some; count = refl; skipped = refl; reach = sym (ap last_time (take_all (0 + most) [] (omega arith))); last = refl }

pub fresh_front : (from most : ℕ) (to : Option ℕ) (c : Tally) (kept : List Stroke) (early : List Mark) → c ≡ fresh_tally from most → kept ≡ [] → early ≡ [] → 1 ≤ most
    → IsFrontOf (record { to = to; after = from + 1; tally = c; kept = kept; early = early }) []
fresh_front from most to c kept early c_is kept_is early_is some =
    subst (λ (k : Tally). IsFrontOf (record { to = to; after = from + 1; tally = k; kept = kept; early = early }) []) (sym c_is)
    (subst (λ (ys : List Stroke). IsFrontOf (record { to = to; after = from + 1; tally = fresh_tally from most; kept = ys; early = early }) []) (sym kept_is)
    (subst (λ (ms : List Mark). IsFrontOf (record { to = to; after = from + 1; tally = fresh_tally from most; kept = []; early = ms }) []) (sym early_is)
    (record { tally = fresh_counts from most some; after = refl; early = refl; kept = λ end there. refl })))
