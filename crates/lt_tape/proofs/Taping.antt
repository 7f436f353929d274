-- One stroke more comes, and what a picture shows in the end.
use Rattle.std.proofs.Common.{◌≡◌, ◌≢◌, ◌∙◌, ℕ, ◌+◌, ◌-◌, ◌<◌, ◌≤◌, ◌==◌, ◌&&◌, not, nat_lt, max, min, Bool, true, false, List, [], ◌∷◌, ◌++◌, All, length, find, Option, Some, None, if◌then◌else◌, refl, sym, ap, subst, arith, inl, inr, eq-eqb, ne_eqb, lt-ltb, le-ltb, ltb-true, ltb-false, length-append}
use Rattle.std.specs.Prelude.{IfOk, IfSome, Result, Ok, Err, is_some, option_map, unwrap_or}
use Rattle.std.specs.List.{filter}
use Rattle.std.specs.Option.{option_or}
use Rattle.std.proofs.lemmas.Bool.{cases_lt}
use Rattle.std.proofs.lemmas.Bool.Decides.{eqb_tells}
use Rattle.std.proofs.lemmas.List.Elements.{All-get_or, All-head, All-nil, All-push, All-tail}
use Rattle.std.proofs.lemmas.List.Folds.{find-append}
use Rattle.std.proofs.Math.Nat.{min-eq_left}
use Rattle.std.proofs.Math.Seq.{get_or-append_seam}
use Rattle.lt_arch.specs.declared.limits.TheConstants.{GREATEST_TIME}
use Rattle.lt_base.specs.declared.memory.Memory.{Memory}
use Rattle.lt_diagram.specs.declared.picture.Mark.{Mark}
use Rattle.lt_tape.specs.declared.asked.Asked.{Asked}
use Rattle.lt_tape.specs.declared.excerpt.Excerpt.{Excerpt}
use Rattle.lt_tape.specs.declared.front.Front.{Front}
use Rattle.lt_tape.specs.declared.stroke.Stroke.{Stroke}
use Rattle.lt_tape.specs.declared.stroke.Stroke.TheVariants.{Point, Line, Edge}
use Rattle.lt_tape.specs.declared.tail.Tail.{Tail}
use Rattle.lt_tape.specs.declared.tally.Tally.{Tally}
use Rattle.lt_tape.specs.declared.tape.Tape.{Tape}
use Rattle.lt_tape.specs.declared.window.Window.{Window}
use Rattle.lt_tape.specs.Excerpts.{excerpt_in, excerpt_of}
use Rattle.lt_tape.specs.Kept.{early_from}
use Rattle.lt_tape.specs.Tapes.{AreOrdered, EndsThere, IsFrontOf, IsTailOf, IsTallyOf, IsTapeOf, front_after, front_end, front_excerpt, front_window, is_loud, kept_excerpt, latest_after, open_end, tail_begin, tail_excerpt, tail_window}
use Rattle.lt_tape.specs.Times.{IsTimelyStroke, last_mark, last_mark_from, last_time, later_mark, stroke_time, stroke_time_at}
use Rattle.lt_tape.specs.Windows.{default_from, default_to, first_tick, goes_beyond, latest_tick, most_shown, past_stop, reach_time, skipped_to}
use Rattle.lt_tape.proofs.Fronting.{front_push}
use Rattle.lt_tape.proofs.Loud.{same_count, same_lines, same_marks}
use Rattle.lt_tape.proofs.Tailing.{cut_place, tail_early, tail_serves}
use Rattle.lt_tape.proofs.Tallying.{one_longer, skipped_within, time_left}

-- each node's last activation

module _ (n : ℕ) where
  abbrev pub at_node : Mark → Bool
  at_node k = k.node == n

  none_by : (b : Bool) (k : Mark) (ks : List Mark) → at_node k ≡ b → find at_node ks ≡ None → find at_node (if not b then k ∷ ks else ks) ≡ None
  none_by true k ks is none = none
  none_by false k ks is none = (λ i. if is i then Some k else find at_node ks) ∙ none

  none_left : (ks : List Mark) → find at_node (filter (λ k. not (k.node == n)) ks) ≡ None
  none_left [] = refl
  none_left (k ∷ ks) = none_by (k.node == n) k (filter (λ k. not (k.node == n)) ks) refl (none_left ks)

  same_by : (m : ℕ) → n ≢ m → (b : Bool) (k : Mark) (ls ks : List Mark) → (k.node == m) ≡ b → find at_node ls ≡ find at_node ks → find at_node (if not b then k ∷ ls else ls) ≡ find at_node (k ∷ ks)
  same_by m other false k ls ks is same = ap (λ (r : Option Mark). if at_node k then Some k else r) same
  same_by m other true k ls ks is same =
      same ∙ sym (λ i. if ne_eqb k.node n (λ e. elim (eqb_tells k.node m) [ inl h ↦ other (sym e ∙ h.1) | inr h ↦ let clash : false ≡ true = sym h.0 ∙ is in cc ]) i then Some k else find at_node ks)

  same_left : (m : ℕ) → n ≢ m → (ks : List Mark) → find at_node (filter (λ k. not (k.node == m)) ks) ≡ find at_node ks
  same_left m other [] = refl
  same_left m other (k ∷ ks) = same_by m other (k.node == m) k (filter (λ k. not (k.node == m)) ks) ks refl (same_left m other ks)

  or_none : (o : Option Mark) → option_or o None ≡ o
  or_none None = refl
  or_none (Some k) = refl

  abbrev pub time_in : List Mark → Option ℕ
  time_in found = option_map (λ m. m.time) (find at_node found)

  mark_push : (found : Option ℕ) (xs : List Stroke) (x : Stroke) → last_mark_from n found (xs ++ x ∷ []) ≡ later_mark n (last_mark_from n found xs) x
  mark_push found [] x = refl
  mark_push found (y ∷ ys) x = mark_push (later_mark n found y) ys x

  latest_next : (x : Stroke) (found : List Mark) (xs : List Stroke) → time_in found ≡ last_mark n xs → time_in (latest_after x found) ≡ later_mark n (last_mark n xs) x
  latest_next (Point m) found xs is = elim (eqb_tells n m.node) [
    | inl e ↦
        ap (option_map (λ (k : Mark). k.time)) (find-append at_node (filter (λ k. not (k.node == m.node)) found) (m ∷ []))
        ∙ (λ i. option_map (λ k. k.time) (option_or ((ap (λ (j : ℕ). find at_node (filter (λ k. not (k.node == j)) found)) (sym e.1) ∙ none_left found) i) (if eq-eqb m.node n (sym e.1) i then Some m else None)))
        ∙ (λ i. if sym e.0 i then Some m.time else last_mark n xs)
    | inr e ↦
        ap (option_map (λ (k : Mark). k.time)) (find-append at_node (filter (λ k. not (k.node == m.node)) found) (m ∷ []))
        ∙ (λ i. option_map (λ k. k.time) (option_or (same_left m.node e.1 found i) (if ne_eqb m.node n (λ h. e.1 (sym h)) i then Some m else None)))
        ∙ ap (option_map (λ (k : Mark). k.time)) (or_none (find at_node found)) ∙ is
        ∙ (λ i. if sym e.0 i then Some m.time else last_mark n xs)
  ]
  latest_next (Line a) found xs is = is
  latest_next (Edge at) found xs is = is

  latest_push : (x : Stroke) (found : List Mark) (xs : List Stroke) → time_in found ≡ last_mark n xs → time_in (latest_after x found) ≡ last_mark n (xs ++ x ∷ [])
  latest_push x found xs is = latest_next x found xs is ∙ sym (mark_push None xs x)

  timely_mark : (found : Option ℕ) (x : Stroke) → IfSome found (λ at. at ≤ GREATEST_TIME) → IsTimelyStroke x → IfSome (later_mark n found x) (λ at. at ≤ GREATEST_TIME)
  timely_mark found (Point m) before here = timely_by (n == m.node) found m before here
    where
      timely_by : (b : Bool) (found : Option ℕ) (m : Mark) → IfSome found (λ at. at ≤ GREATEST_TIME) → m.time ≤ GREATEST_TIME → IfSome (if b then Some m.time else found) (λ at. at ≤ GREATEST_TIME)
      timely_by true found m before here = here
      timely_by false found m before here = before
  timely_mark found (Line a) before here = before
  timely_mark found (Edge at) before here = before

  timely_from : (found : Option ℕ) (xs : List Stroke) → IfSome found (λ at. at ≤ GREATEST_TIME) → All IsTimelyStroke xs → IfSome (last_mark_from n found xs) (λ at. at ≤ GREATEST_TIME)
  timely_from found [] before all = before
  timely_from found (x ∷ xs) before all = timely_from (later_mark n found x) xs (timely_mark found x before (All-head IsTimelyStroke x xs all)) (All-tail IsTimelyStroke x xs all)

  pub timely_last : (xs : List Stroke) → All IsTimelyStroke xs → IfSome (last_mark n xs) (λ at. at ≤ GREATEST_TIME)
  timely_last xs all = timely_from None xs tt all

-- times do not go back

pub ordered_push : (xs : List Stroke) (x : Stroke) → AreOrdered xs → last_time xs ≤ stroke_time x → AreOrdered (xs ++ x ∷ [])
ordered_push xs x ordered later = λ i j le lt.
    let n = one_longer xs x in
    let end : stroke_time_at (xs ++ x ∷ []) (length xs) ≡ stroke_time x = ap stroke_time (get_or-append_seam xs x [] (Edge 0)) in
    elim (cases_lt j (length xs)) [
      | inl less ↦
          let first = time_left xs (x ∷ []) i (omega (arith, le, less)) in
          let second = time_left xs (x ∷ []) j less in
          let before = ordered i j le less in
          omega (arith, first, second, before)
      | inr ge ↦
          let place : j ≡ length xs = omega (arith, lt, n, ge) in
          let there : stroke_time_at (xs ++ x ∷ []) j ≡ stroke_time x = ap (stroke_time_at (xs ++ x ∷ [])) place ∙ end in
          elim (cases_lt i (length xs)) [
            | inl less ↦
                let first = time_left xs (x ∷ []) i less in
                let before = ordered i (length xs - 1) (omega (arith, less)) (omega (arith, less)) in
                omega (arith, first, before, later, there)
            | inr ge ↦
                let same : i ≡ j = omega (arith, ge, place, le) in
                let equal : stroke_time_at (xs ++ x ∷ []) i ≡ stroke_time_at (xs ++ x ∷ []) j = ap (stroke_time_at (xs ++ x ∷ [])) same in
                omega (arith, equal)
          ]
    ]

module _ (t : Tape) (x : Stroke) (front : Front) (tail : Tail) (latest : List Mark) (fronts : front ≡ front_after t.front x)
    (tails : (xs : List Stroke) → IsTailOf t.tail xs → AreOrdered (xs ++ x ∷ []) → IsTailOf tail (xs ++ x ∷ [])) (most : tail.most ≡ t.tail.most) (latests : latest ≡ latest_after x t.latest) where
  pub tape_push : (asked : Asked) (nodes : ℕ) (xs : List Stroke) → IsTapeOf t asked nodes xs → last_time xs ≤ stroke_time x → stroke_time x ≤ GREATEST_TIME
      → IsTapeOf (record { alloc = t.alloc; asked = t.asked; front = front; tail = tail; latest = latest }) asked nodes (xs ++ x ∷ [])
  tape_push asked nodes xs is later timely =
      let ordered = ordered_push xs x is.ordered later in
      record {
        front = subst (λ (f : Front). IsFrontOf f (xs ++ x ∷ [])) (sym fronts) (front_push t.front xs x is.front);
        tail = tails xs is.tail ordered;
        latest = λ n. ap (λ (ms : List Mark). time_in n ms) latests ∙ latest_push n x t.latest xs (is.latest n);
        ordered = ordered;
        timely = All-push IsTimelyStroke xs x is.timely timely;
        asked_is = is.asked_is;
        to_is = ap (λ (f : Front). f.to) fronts ∙ is.to_is;
        from_is = ap (λ (f : Front). f.tally.from) fronts ∙ is.from_is;
        front_most = ap (λ (f : Front). f.tally.most) fronts ∙ is.front_most;
        tail_most = most ∙ is.tail_most;
      }

-- what a picture shows

served : (w : Window) (count last : ℕ) (early : List Mark) (kept xs : List Stroke) → count ≡ length xs → last ≡ last_time xs → early ≡ early_from w.from [] xs → filter (is_loud w) kept ≡ filter (is_loud w) xs
    → kept_excerpt w count last early kept ≡ excerpt_in w xs
served w count last early kept xs count_is last_is early_is same =
    λ i. record { window = w; count = count_is i; shown = same_count w kept xs same i; last = last_is i; marks = early_is i ++ same_marks w kept xs same i; lines = same_lines w kept xs same i }

-- there is more, by the tally
beyond_is : (c : Tally) (xs : List Stroke) → IsTallyOf c xs → nat_lt c.most (c.count - c.skipped) ≡ goes_beyond c.from c.most xs
beyond_is c xs is =
    let n = is.count in
    let s = is.skipped in
    let within = skipped_within c.from xs in
    elim (cases_lt (skipped_to c.from xs + c.most) (length xs)) [
      | inl lt ↦ lt-ltb c.most (c.count - c.skipped) (omega (arith, lt, n, s, within)) ∙ sym (lt-ltb (skipped_to c.from xs + c.most) (length xs) lt)
      | inr le ↦ le-ltb c.most (c.count - c.skipped) (omega (arith, le, n, s, within)) ∙ sym (le-ltb (skipped_to c.from xs + c.most) (length xs) le)
    ]

open_end_is : (c : Tally) (xs : List Stroke) → IsTallyOf c xs → (begins : Bool) (stop : Option ℕ) → open_end c begins stop ≡ default_to begins c.from c.most xs stop
open_end_is c xs is begins None = is.reach
open_end_is c xs is begins (Some stop) = λ i. if begins && beyond_is c xs is i then is.reach i else past_stop (max (is.last i) stop)

module _ (t : Tape) (asked : Asked) (nodes : ℕ) (xs : List Stroke) (is : IsTapeOf t asked nodes xs) where
  front_end_is : (begins : Bool) (stop : Option ℕ) → front_end t.front begins stop ≡ max (unwrap_or asked.to (default_to begins t.front.tally.from t.front.tally.most xs stop)) (t.front.tally.from + 1)
  front_end_is begins stop = λ i. max (unwrap_or (is.to_is i) (open_end_is t.front.tally xs is.front.tally begins stop i)) (is.front.after i)

  ends_by : (to : Option ℕ) (begins : Bool) (stop : Option ℕ) → (is_some stop ≡ true → begins ≡ true)
      → EndsThere to t.front.tally.from t.front.tally.most xs (max (unwrap_or to (default_to begins t.front.tally.from t.front.tally.most xs stop)) (t.front.tally.from + 1))
  ends_by (Some end) begins stop asks = refl
  ends_by None begins None asks = λ beyond. refl
  ends_by None begins (Some stop) asks = λ beyond. λ i. max (if asks refl i && beyond i then reach_time t.front.tally.from t.front.tally.most xs else past_stop (max (last_time xs) stop)) (t.front.tally.from + 1)

  front_serves : (begins : Bool) (stop : Option ℕ) → (is_some stop ≡ true → begins ≡ true) → front_excerpt t.front (front_window t begins stop) ≡ excerpt_in (front_window t begins stop) xs
  front_serves begins stop asks =
      let there : EndsThere t.front.to t.front.tally.from t.front.tally.most xs (front_end t.front begins stop) =
      subst (λ (k : ℕ). EndsThere t.front.to t.front.tally.from t.front.tally.most xs k) (sym (front_end_is begins stop))
      (subst (λ (to : Option ℕ). EndsThere to t.front.tally.from t.front.tally.most xs (max (unwrap_or asked.to (default_to begins t.front.tally.from t.front.tally.most xs stop)) (t.front.tally.from + 1))) (sym is.to_is)
      (ends_by asked.to begins stop asks)) in
      served (front_window t begins stop) t.front.tally.count t.front.tally.last t.front.early t.front.kept xs is.front.tally.count is.front.tally.last is.front.early (is.front.kept (front_end t.front begins stop) there)

  -- the window is the one that is asked

  from_here : (from : Option ℕ) (stop : Option ℕ) → (is_some stop ≡ true → is_some from ≡ true) → min (unwrap_or from 0) latest_tick ≡ min (unwrap_or from (default_from (most_shown nodes) xs stop)) latest_tick
  from_here (Some a) stop asks = refl
  from_here None None asks = refl
  from_here None (Some stop) asks = let clash : false ≡ true = asks refl in cc

  pub by_front : (stop : Option ℕ) → (is_some stop ≡ true → is_some asked.from ≡ true) → front_excerpt t.front (front_window t (is_some asked.from) stop) ≡ excerpt_of asked nodes stop xs
  by_front stop asks =
      let begin : t.front.tally.from ≡ first_tick asked (most_shown nodes) xs stop = is.from_is ∙ from_here asked.from stop asks in
      front_serves (is_some asked.from) stop asks
      ∙ (λ i. excerpt_in (record { from = begin i; to = (front_end_is (is_some asked.from) stop ∙ (λ j. max (unwrap_or asked.to (default_to (is_some asked.from) (begin j) (is.front_most j) xs stop)) (begin j + 1))) i }) xs)

  -- the last events

  most_kept : most_shown nodes < length xs → t.tail.most ≤ length t.tail.kept
  most_kept less =
      let gone = is.tail.gone in
      let n = ap (length {A = Stroke}) is.tail.all ∙ length-append gone t.tail.kept in
      let most = is.tail_most in
      elim (cases_lt 0 (length gone)) [ inl some ↦ is.tail.enough some | inr none ↦ omega (arith, n, none, less, most) ]

  begin_by : (b : Bool) → nat_lt (most_shown nodes) (length xs) ≡ b
      → min (if b then stroke_time_at t.tail.kept (length t.tail.kept - t.tail.most) else 0) latest_tick ≡ min (if b then stroke_time_at xs (length xs - most_shown nodes) else 0) latest_tick
  begin_by true less =
      ap (λ (k : ℕ). min k latest_tick)
      (sym (cut_place t.tail xs is.tail (most_kept (ltb-true (most_shown nodes) (length xs) less))) ∙ ap (λ (k : ℕ). stroke_time_at xs (length xs - k)) is.tail_most)
  begin_by false less = refl

  tail_begin_is : (stop : ℕ) → tail_begin t.tail t.front.tally.count ≡ min (default_from (most_shown nodes) xs (Some stop)) latest_tick
  tail_begin_is stop =
      (λ i. min (if nat_lt (is.tail_most i) (is.front.tally.count i) then stroke_time_at t.tail.kept (length t.tail.kept - t.tail.most) else 0) latest_tick)
      ∙ begin_by (nat_lt (most_shown nodes) (length xs)) refl

  none_gone : (P : Stroke → Type 0) (gone : List Stroke) → length gone ≡ 0 → All P gone
  none_gone P [] none = All-nil P
  none_gone P (y ∷ ys) none = absurd (omega (arith, none))

  before_by : (b : Bool) → nat_lt (most_shown nodes) (length xs) ≡ b → All (λ y. stroke_time y < min (if b then stroke_time_at xs (length xs - most_shown nodes) else 0) latest_tick) is.tail.gone
  before_by true less =
      let lt = ltb-true (most_shown nodes) (length xs) less in
      let some = is.tail.some in
      let most = is.tail_most in
      let timely : stroke_time_at xs (length xs - most_shown nodes) ≤ GREATEST_TIME = All-get_or IsTimelyStroke xs (length xs - most_shown nodes) (Edge 0) (omega (arith, lt, some, most)) is.timely in
      let least : min (stroke_time_at xs (length xs - most_shown nodes)) latest_tick ≡ stroke_time_at xs (length xs - most_shown nodes) = min-eq_left (omega (arith, timely)) in
      subst (λ (k : ℕ). All (λ y. stroke_time y < k) is.tail.gone) (ap (λ (k : ℕ). stroke_time_at xs (length xs - k)) most ∙ sym least) is.tail.before
  before_by false less =
      let ge = ltb-false (most_shown nodes) (length xs) less in
      let gone = is.tail.gone in
      let n = ap (length {A = Stroke}) is.tail.all ∙ length-append gone t.tail.kept in
      let most = is.tail_most in
      let some = is.tail.some in
      none_gone (λ y. stroke_time y < min 0 latest_tick) gone (elim (cases_lt 0 (length gone)) [
        | inl more ↦ let much = is.tail.enough more in absurd (omega (arith, n, much, most, ge, more))
        | inr none ↦ omega (arith, none)
      ])

  module _ (stop : ℕ) (unasked : asked.from ≡ None) where
    abbrev w : Window
    w = tail_window t stop

    tail_serves_here : tail_excerpt t.tail t.front.tally.count t.front.tally.last w ≡ excerpt_in w xs
    tail_serves_here =
        let before : All (λ y. stroke_time y < w.from) is.tail.gone = subst (λ (k : ℕ). All (λ y. stroke_time y < k) is.tail.gone) (sym (tail_begin_is stop)) (before_by (nat_lt (most_shown nodes) (length xs)) refl) in
        served w t.front.tally.count t.front.tally.last (early_from w.from t.tail.early t.tail.kept) t.tail.kept xs is.front.tally.count is.front.tally.last (tail_early t.tail xs is.tail w before) (tail_serves t.tail xs is.tail w before)

    abbrev first : ℕ
    first = min (default_from (most_shown nodes) xs (Some stop)) latest_tick

    pub by_tail : tail_excerpt t.tail t.front.tally.count t.front.tally.last w ≡ excerpt_of asked nodes (Some stop) xs
    by_tail =
        tail_serves_here
        ∙ (λ i. excerpt_in (record { from = tail_begin_is stop i; to = max (unwrap_or (is.asked_is i).to (past_stop (max (is.front.tally.last i) stop))) (tail_begin_is stop i + 1) }) xs)
        ∙ (λ i. excerpt_in (record {
          from = min (unwrap_or (sym unasked i) (default_from (most_shown nodes) xs (Some stop))) latest_tick;
          to = max (unwrap_or asked.to (default_to (is_some (sym unasked i)) (min (unwrap_or (sym unasked i) (default_from (most_shown nodes) xs (Some stop))) latest_tick) (most_shown nodes) xs (Some stop)))
              (min (unwrap_or (sym unasked i) (default_from (most_shown nodes) xs (Some stop))) latest_tick + 1);
        }) xs)

-- before the first stroke
pub fresh_tape : (t : Tape) (asked : Asked) (nodes : ℕ) → IsFrontOf t.front [] → IsTailOf t.tail [] → t.latest ≡ [] → t.asked ≡ asked → t.front.to ≡ asked.to → t.front.tally.from ≡ min (unwrap_or asked.from 0) latest_tick
    → t.front.tally.most ≡ most_shown nodes → t.tail.most ≡ most_shown nodes → IsTapeOf t asked nodes []
fresh_tape t asked nodes front tail latest asked_is to from front_most tail_most = record {
  front = front;
  tail = tail;
  latest = λ n. ap (λ (ms : List Mark). time_in n ms) latest;
  ordered = λ i j le lt. absurd (omega (arith, lt));
  timely = All-nil IsTimelyStroke;
  asked_is = asked_is;
  to_is = to;
  from_is = from;
  front_most = front_most;
  tail_most = tail_most;
}

-- in the end

module _ (t : Tape) (asked : Asked) (nodes : ℕ) (xs : List Stroke) (is : IsTapeOf t asked nodes xs) where
  pub front_shown : (stop : Option ℕ) → (is_some stop ≡ true → is_some t.asked.from ≡ true) → front_excerpt t.front (front_window t (is_some t.asked.from) stop) ≡ excerpt_of asked nodes stop xs
  front_shown stop asks =
      ap (λ (a : Asked). front_excerpt t.front (front_window t (is_some a.from) stop)) is.asked_is ∙ by_front t asked nodes xs is stop (λ h. ap (λ (a : Asked). is_some a.from) (sym is.asked_is) ∙ asks h)

  pub tail_shown : (stop : ℕ) → t.asked.from ≡ None → tail_excerpt t.tail t.front.tally.count t.front.tally.last (tail_window t stop) ≡ excerpt_of asked nodes (Some stop) xs
  tail_shown stop unasked = by_tail t asked nodes xs is stop (ap (λ (a : Asked). a.from) (sym is.asked_is) ∙ unasked)

pub on_excerpt : {P Q : Excerpt → Type 0} (r : Result Excerpt Memory) → ((e : Excerpt) → P e → Q e) → IfOk r P → IfOk r Q
on_excerpt (Ok e) f p = f e p
on_excerpt (Err e) f p = tt
