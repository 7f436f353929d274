-- The numbers of a setup are in range.
use Rattle.std.proofs.Common.{◌≡◌, ◌≤◌, max, ℕ, ℤ, pos, negsuc, Bool, true, false, not, if◌then◌else◌, ◌&&◌, List, Option, Some, None, Ordering, Less, Equal, Greater, refl, sym, ap, subst, ◌∙◌, arith, nat_le}
use Rattle.std.proofs.lemmas.Bool.{and_parts, false≢true}
use Rattle.std.specs.Prelude.{option_and_then}
use Rattle.std.specs.Option.{option_map_or}
use Rattle.std.specs.Ordering.{nat_cmp, match_ordering}
use Rattle.std.specs.Cmp.Lexicographic.{slice_cmp}
use Rattle.toml.specs.Data.{Data, Members, no_members, member, get_member, as_table, as_integer}
use Rattle.lt_arch.specs.declared.limits.TheConstants.{GREATEST_BOUND, GREATEST_COUNTDOWN}
use Rattle.lt_config.specs.declared.keys.Key.TheVariants.{Period, Delay, Send, Execute, Periods, Delays, Sends, Executes}
use Rattle.lt_config.specs.Keys.{value_at, table_at}
use Rattle.lt_config.specs.Values.{pair_of, all_values, is_table_of, is_int_between, is_at_most, is_bounds, is_period, is_delay_pair, is_countdown}
use Rattle.lt_config.specs.Faults.{or_else}
use Rattle.lt_config.specs.Setup.{natural, naturals, bounds_of, countdown_of, period_of, delay_of, setup_send, setup_execute, follows, paced_send, greatest_upper, most_delay}
use Rattle.lt_config.proofs.NoFault.{NoFault, there, inside, not_false}

-- ---- one value

le-of : (m n : ℕ) → nat_le m n ≡ true → m ≤ n
le-of m n h = grind arith

-- bounds in range
abbrev pub AreGood : (low : ℕ) → ℕ × ℕ → Type 0
AreGood low b = (low ≤ b.0) × (b.0 ≤ b.1) × (b.1 ≤ GREATEST_BOUND)

abbrev pub IsGood : ℕ → Type 0
IsGood n = (1 ≤ n) × (n ≤ GREATEST_COUNTDOWN)

good_pair : (low : ℕ) (a b : ℤ) → is_bounds low (Some (a, b)) ≡ true → AreGood low (naturals (a, b))
good_pair low (pos m) (pos n) h =
    let (x, r) = and_parts (is_int_between low GREATEST_BOUND (pos m)) (is_int_between low GREATEST_BOUND (pos n) && is_at_most (pos m) (pos n)) h in
    let (y, z) = and_parts (is_int_between low GREATEST_BOUND (pos n)) (is_at_most (pos m) (pos n)) r in (
      le-of low m (and_parts (nat_le low m) (nat_le m GREATEST_BOUND) x).0,
      le-of m n z,
      le-of n GREATEST_BOUND (and_parts (nat_le low n) (nat_le n GREATEST_BOUND) y).1,
    )
good_pair low (pos m) (negsuc n) h = absurd (false≢true (and_parts (is_int_between low GREATEST_BOUND (pos m)) false h).1)
good_pair low (negsuc m) b h = absurd (false≢true h)

good_bounds : (low : ℕ) (o : Option (ℤ × ℤ)) → is_bounds low o ≡ true → AreGood low (option_map_or naturals o (0, 0))
good_bounds low None e = absurd (false≢true e)
good_bounds low (Some p) e = good_pair low p.0 p.1 e

good_count : (o : Option ℤ) → option_map_or (is_int_between 1 GREATEST_COUNTDOWN) o false ≡ true → IsGood (option_map_or natural o 1)
good_count None e = absurd (false≢true e)
good_count (Some (pos n)) e = let (x, y) = and_parts (nat_le 1 n) (nat_le n GREATEST_COUNTDOWN) e in (le-of 1 n x, le-of n GREATEST_COUNTDOWN y)
good_count (Some (negsuc n)) e = absurd (false≢true e)

-- ---- the value of a name in a table, or else the plain one

entry_passes : (q : Data → Bool) (name : List ℕ) (d : Data) (ms : Members) → all_values q ms ≡ true → get_member name ms ≡ Some d → q d ≡ true
entry_passes q name d no_members all e = cc
entry_passes q name d (member k x ms) all e =
    let (here, rest) = and_parts (q x) (all_values q ms) all in
    by (slice_cmp nat_cmp name k) here (entry_passes q name d ms rest) e
  where
    by : (o : Ordering) → q x ≡ true → (get_member name ms ≡ Some d → q d ≡ true) → match_ordering o (get_member name ms) (Some x) (get_member name ms) ≡ Some d → q d ≡ true
    by Less here rest e = rest e
    by Equal here rest e = let same : x ≡ d = cc in ap q (sym same) ∙ here
    by Greater here rest e = rest e

own_passes : (q : Data → Bool) (name : List ℕ) (d : Data) (o plain : Option Data) → option_map_or (λ x. not (is_table_of q x)) o false ≡ false
    → option_map_or (λ x. not (q x)) plain false ≡ false → or_else (option_and_then (get_member name) (option_and_then as_table o)) plain ≡ Some d → q d ≡ true
own_passes q name d None plain table alone e = inside q plain d e alone
own_passes q name d (Some v) plain table alone e = by (as_table v) (not_false _ table) e
  where
    found : (ms : Members) (f : Option Data) → get_member name ms ≡ f → all_values q ms ≡ true → or_else f plain ≡ Some d → q d ≡ true
    found ms None at all e = inside q plain d e alone
    found ms (Some x) at all e = entry_passes q name d ms all (at ∙ e)

    by : (t : Option Members) → option_map_or (all_values q) t false ≡ true → or_else (option_and_then (get_member name) t) plain ≡ Some d → q d ≡ true
    by None is e = absurd (false≢true is)
    by (Some ms) is e = found ms (get_member name ms) refl is e

-- with a plain one there is one
own_there : (f plain : Option Data) (d : Data) → plain ≡ Some d → (x : Data) × (or_else f plain ≡ Some x)
own_there None plain d at = (d, at)
own_there (Some x) plain d at = (x, refl)

own_counts : (name : List ℕ) (o plain e : Option Data) → option_map_or (λ x. not (is_table_of is_countdown x)) o false ≡ false
    → option_map_or (λ x. not (is_countdown x)) plain false ≡ false → or_else (option_and_then (get_member name) (option_and_then as_table o)) plain ≡ e → IsGood (countdown_of e)
own_counts name o plain None table alone at = (omega arith, omega arith)
own_counts name o plain (Some d) table alone at = good_count (as_integer d) (own_passes is_countdown name d o plain table alone at)

module _ (t : Members) (good : NoFault t) (name : List ℕ) where
  pub period_good : AreGood 1 (period_of t name)
  period_good =
      let (plain, at) = there (value_at t Period) (good.missing Period) in
      let (d, is) = own_there (option_and_then (get_member name) (table_at t Periods)) (value_at t Period) plain at in
      rw is (good_bounds 1 (pair_of d) (own_passes is_period name d (value_at t Periods) (value_at t Period) (good.outside Periods) (good.outside Period) is))

  pub delay_good : AreGood 0 (delay_of t name)
  delay_good =
      let (plain, at) = there (value_at t Delay) (good.missing Delay) in
      let (d, is) = own_there (option_and_then (get_member name) (table_at t Delays)) (value_at t Delay) plain at in
      rw is (good_bounds 0 (pair_of d) (own_passes is_delay_pair name d (value_at t Delays) (value_at t Delay) (good.outside Delays) (good.outside Delay) is))

  pub send_good : IsGood (setup_send t name)
  send_good = own_counts name (value_at t Sends) (value_at t Send) _ (good.outside Sends) (good.outside Send) refl

  -- the greatest countdown is in range too
  pub paced_good : IsGood (paced_send t name)
  paced_good = by (follows t name)
    where
      by : (b : Bool) → IsGood (if b then GREATEST_COUNTDOWN else setup_send t name)
      by true = (omega arith, omega arith)
      by false = send_good

  pub execute_good : IsGood (setup_execute t name)
  execute_good = own_counts name (value_at t Executes) (value_at t Execute) _ (good.outside Executes) (good.outside Execute) refl

-- ---- the greatest upper delay

upper_in : (name : List ℕ) (d : Data) (ms : Members) → get_member name ms ≡ Some d → (bounds_of (Some d)).1 ≤ greatest_upper ms
upper_in name d no_members e = cc
upper_in name d (member k x ms) e = by (slice_cmp nat_cmp name k) (upper_in name d ms) e
  where
    by : (o : Ordering) → (get_member name ms ≡ Some d → (bounds_of (Some d)).1 ≤ greatest_upper ms) → match_ordering o (get_member name ms) (Some x) (get_member name ms) ≡ Some d
        → (bounds_of (Some d)).1 ≤ max (bounds_of (Some x)).1 (greatest_upper ms)
    by Less rest e = omega (arith, rest e)
    by Equal rest e = let same : x ≡ d = cc in let P : Data → Type 0 = λ y. (bounds_of (Some y)).1 ≤ max (bounds_of (Some x)).1 (greatest_upper ms) in subst P same (omega arith)
    by Greater rest e = omega (arith, rest e)

own_at_most : (name : List ℕ) (o : Option Members) (plain : Option Data) → (bounds_of (or_else (option_and_then (get_member name) o) plain)).1 ≤ max (bounds_of plain).1 (option_map_or greatest_upper o 0)
own_at_most name None plain = omega arith
own_at_most name (Some ms) plain = by (get_member name ms) refl
  where
    by : (f : Option Data) → get_member name ms ≡ f → (bounds_of (or_else f plain)).1 ≤ max (bounds_of plain).1 (greatest_upper ms)
    by None at = omega arith
    by (Some d) at = omega (arith, upper_in name d ms at)

pub delay_at_most : (t : Members) (name : List ℕ) → (delay_of t name).1 ≤ most_delay t
delay_at_most t name = own_at_most name (table_at t Delays) (value_at t Delay)

upper_good : (ms : Members) → all_values is_delay_pair ms ≡ true → greatest_upper ms ≤ GREATEST_BOUND
upper_good no_members h = omega arith
upper_good (member k d ms) h =
    let (here, rest) = and_parts (is_delay_pair d) (all_values is_delay_pair ms) h in
    let (low, order, high) = good_bounds 0 (pair_of d) here in
    omega (arith, high, upper_good ms rest)

own_good : (o : Option Data) → option_map_or (λ x. not (is_table_of is_delay_pair x)) o false ≡ false → option_map_or greatest_upper (option_and_then as_table o) 0 ≤ GREATEST_BOUND
own_good None e = omega arith
own_good (Some v) e = by (as_table v) (not_false _ e)
  where
    by : (t : Option Members) → option_map_or (all_values is_delay_pair) t false ≡ true → option_map_or greatest_upper t 0 ≤ GREATEST_BOUND
    by None is = omega arith
    by (Some ms) is = upper_good ms is

pub most_good : (t : Members) → NoFault t → most_delay t ≤ GREATEST_BOUND
most_good t good =
    let (d, at) = there (value_at t Delay) (good.missing Delay) in
    let (low, order, high) = good_bounds 0 (pair_of d) (inside is_delay_pair (value_at t Delay) d at (good.outside Delay)) in
    let plain : (bounds_of (value_at t Delay)).1 ≤ GREATEST_BOUND = rw at high in
    omega (arith, plain, own_good (value_at t Delays) (good.outside Delays))
