-- All rows of a schedule, one after another.
use Rattle.std.proofs.Common.{◌≡◌, ℕ, zero, suc, ◌+◌, ◌-◌, ◌≤◌, Bool, IsTrue, List, [], ◌∷◌, ◌++◌, drop, Option, Some, None, Result, Err, cond, if◌then◌else◌, refl, sym, ap, subst, ◌∙◌, arith}
use Rattle.std.specs.Prelude.{IfSome, MatchResult, slice_get, find}
use Rattle.std.proofs.lemmas.List.{drop-drop}
use Rattle.lt_rows.specs.Rows.{FileRow}
use Rattle.lt_rows.specs.Lines.{IsNearFirst}
use Rattle.lt_schedule.specs.declared.halt.ScheduleRefusal.{ScheduleRefusal}
use Rattle.lt_schedule.specs.declared.halt.ScheduleRefusal.TheVariants.{Row, Offence, Bytes}
use Rattle.lt_base.specs.declared.memory.Or.{Or}
use Rattle.lt_base.specs.declared.memory.Or.TheVariants as either
use Rattle.lt_schedule.specs.declared.halt.Halt.{Halt}
use Rattle.lt_schedule.specs.declared.halt.Halt.TheVariants as halt
use Rattle.lt_schedule.specs.Rules.{Rules, unless_missing, judged_behind}
use Rattle.lt_schedule.specs.Halted.{UnlessFailed, finished}
use Rattle.lt_schedule.specs.Near.{is_past}
use Rattle.lt_schedule.specs.Replayed.{IsRow, TakesRow, IsOver, IsHere, RefusesRow, TakesAll, RefusesSome}
use Rattle.lt_schedule.proofs.Steps.{not_past}

-- so many rows were taken, and the verdict on all is that on the rest behind these events
pub record WentRows {E O : Type 0} (rules : Rules E O) (events : List E) (number end : ℕ) (left later : List FileRow) : Type 0 where
  pub verdict : judged_behind rules [] 1 end left ≡ judged_behind rules events number end later
  pub rest : drop (number - 1) left ≡ later
  pub past : find is_past left ≡ find is_past later

pub record Went {E O : Type 0} (rules : Rules E O) (stands : List E → Type 0) (number end : ℕ) (told : Bool) (left later : List FileRow) : Type 0 where
  pub events : List E
  pub stands_for : stands events
  pub rows : IsTrue told → WentRows rules events number end left later

pub went_none : {E O : Type 0} (rules : Rules E O) (stands : List E → Type 0) (end : ℕ) (told : Bool) (left : List FileRow) → stands [] → Went rules stands 1 end told left left
went_none rules stands end told left stands_for = record { events = []; stands_for = stands_for; rows = λ _. record { verdict = refl; rest = refl; past = refl } }

find_behind : (row : FileRow) (later : List FileRow) → row.ends ≤ 1073741824 → find is_past (row ∷ later) ≡ find is_past later
find_behind row later low = ap (λ (b : Bool). cond b (Some row) (find is_past later)) (not_past row.ends low)

drop_next : (n : ℕ) (xs : List FileRow) (y : FileRow) (ys : List FileRow) → drop n xs ≡ y ∷ ys → drop (n + 1) xs ≡ ys
drop_next n xs y ys is = sym (drop-drop 1 n xs) ∙ ap (drop 1) is

-- one row more
went_row : {E O : Type 0} (rules : Rules E O) (events : List E) (e : E) (number end : ℕ) (left between later : List FileRow) → 1 ≤ number → WentRows rules events number end left between
    → IsRow rules events number end between later e → WentRows rules (events ++ e ∷ []) (number + 1) end left later
went_row rules events e number end left between later some went row = record {
  verdict = went.verdict ∙ row.verdict;
  rest =
      ap (λ (n : ℕ). drop n left) (let k : number + 1 - 1 ≡ number - 1 + 1 = omega (arith, some) in k)
      ∙ drop_next (number - 1) left row.row later (went.rest ∙ row.left_is);
  past = went.past ∙ ap (find is_past) row.left_is ∙ find_behind row.row later row.in_limit;
}

-- the row was judged by the rules and the end of a later call, which are the same
pub went_on : {E O : Type 0} (rules rules' : Rules E O) (stands stands' : List E → Type 0) (number end end' : ℕ) (told told' : Bool) (left between later : List FileRow)
    → 1 ≤ number → rules' ≡ rules → (IsTrue told → end' ≡ end) → told' ≡ told → (went : Went rules stands number end told left between)
    → TakesRow rules' stands' went.events number end' told' between later → Went rules stands' (number + 1) end told left later
went_on rules rules' stands stands' number end end' told told' left between later some same ends tells went takes = record {
  events = went.events ++ takes.event ∷ [];
  stands_for = takes.stands_on;
  rows = λ is.
      let row = subst (λ (n : ℕ). IsRow rules' went.events number n between later takes.event) (ends is) (takes.row (tells ∙ is)) in
      went_row rules went.events takes.event number end left between later some (went.rows is)
      (subst (λ (r : Rules _ _). IsRow r went.events number end between later takes.event) same row);
}

first_in : List FileRow → Option FileRow
first_in [] = None
first_in (row ∷ later) = Some row

get_first : (n : ℕ) (xs : List FileRow) → slice_get xs n ≡ first_in (drop n xs)
unfolding first_in
get_first zero [] = refl
get_first zero (x ∷ xs) = refl
get_first (suc n) [] = refl
get_first (suc n) (x ∷ xs) = get_first n xs

get_behind : (number : ℕ) (header : FileRow) (left : List FileRow) → 1 ≤ number → slice_get (header ∷ left) number ≡ first_in (drop (number - 1) left)
get_behind zero header left some = absurd (omega (arith, some))
get_behind (suc n) header left some = get_first n left ∙ ap (λ (m : ℕ). first_in (drop m left)) (let e : n ≡ suc n - 1 = omega arith in e)

near_first : (later : List FileRow) (place : ℕ) → IsNearFirst later place → IfSome (first_in later) (λ row. place ≤ row.ends + 65536)
unfolding first_in
near_first [] place near = tt
near_first (row ∷ later) place near = near

pub near_past : (O : Type 0) (number : ℕ) (later : List FileRow) (place : ℕ) → IsHere {O = O} number later Bytes → IsNearFirst later place → IfSome (find is_past later) (λ row. place ≤ row.ends + 65536)
near_past O number [] place here near = tt
near_past O number (row ∷ later) place here near = subst (λ (b : Bool). IfSome (cond b (Some row) (find is_past later)) (λ r. place ≤ r.ends + 65536)) (sym here) near

module _ {E O : Type 0} (rules : Rules E O) (events : List E) (number end : ℕ) (left later : List FileRow) (some : 1 ≤ number) (went : WentRows rules events number end left later) where
  numbered : (header : FileRow) (n place : ℕ) → n ≡ number → IsNearFirst later place → IfSome (slice_get (header ∷ left) n) (λ row. place ≤ row.ends + 65536)
  numbered header n place is near =
      subst (λ (o : Option FileRow). IfSome o (λ row. place ≤ row.ends + 65536))
      (sym (ap (slice_get (header ∷ left)) is ∙ get_behind number header left some ∙ ap first_in went.rest)) (near_first later place near)

  -- a row is refused
  refused_row : (place : ℕ) (refusal : ScheduleRefusal O) → RefusesRow rules events number end later place refusal → RefusesSome rules end left place refusal
  refused_row place (Row r fault) row = record { verdict = went.verdict ∙ row.verdict; near = λ header low. numbered header r place row.here row.near }
  refused_row place (Offence r offence) row = record { verdict = went.verdict ∙ row.verdict; near = λ header low. numbered header r place row.here row.near }
  refused_row place Bytes row = record {
    verdict = went.verdict ∙ row.verdict;
    near = λ header low. subst (λ (o : Option FileRow). IfSome o (λ r. place ≤ r.ends + 65536)) (sym (find_behind header left low ∙ went.past)) (near_past O number later place row.here row.near);
  }

  over : later ≡ [] → end ≤ 1073741824 → (o : Option O) → rules.missing events ≡ o → judged_behind rules [] 1 end left ≡ unless_missing number o events
  unfolding judged_behind
  over none low o is =
      went.verdict ∙ ap (judged_behind rules events number end) none
      ∙ ap (λ (b : Bool). if b then Err Bytes else unless_missing number (rules.missing events) events) (not_past end low)
      ∙ ap (λ (q : Option O). unless_missing number q events) is

  -- the rows are over, and the list may not stop
  stops_short : (place : ℕ) (offence : O) → later ≡ [] → end ≤ 1073741824 → rules.missing events ≡ Some offence → RefusesSome rules end left place (Offence number offence)
  stops_short place offence none low is = record {
    verdict = over none low (Some offence) is;
    near = λ header within. numbered header number place refl (subst (λ (l : List FileRow). IsNearFirst l place) (sym none) tt);
  }

-- the rows of a later call are refused
pub went_refused : {E O : Type 0} (rules rules' : Rules E O) (stands : List E → Type 0) (number end end' : ℕ) (told told' : Bool) (left later : List FileRow) (place : ℕ) (h : Or (Halt O))
    → 1 ≤ number → rules' ≡ rules → (IsTrue told → end' ≡ end) → told' ≡ told → (went : Went rules stands number end told left later)
    → UnlessFailed (λ refusal. IsTrue told' → RefusesRow rules' went.events number end' later place refusal) h → UnlessFailed (λ refusal. IsTrue told → RefusesSome rules end left place refusal) h
went_refused rules rules' stands number end end' told told' left later place (either.Fault (halt.Refused refusal)) some same ends tells went refused = λ is.
    let row = subst (λ (n : ℕ). RefusesRow rules' went.events number n later place refusal) (ends is) (refused (tells ∙ is)) in
    refused_row rules went.events number end left later some (went.rows is) place refusal (subst (λ (r : Rules _ _). RefusesRow r went.events number end later place refusal) same row)
went_refused rules rules' stands number end end' told told' left later place (either.Fault halt.Read) some same ends tells went refused = tt
went_refused rules rules' stands number end end' told told' left later place (either.Fault halt.Link) some same ends tells went refused = tt
went_refused rules rules' stands number end end' told told' left later place either.Memory some same ends tells went refused = tt

-- no row is left, and the rules decide whether the list may stop
module _ {E O : Type 0} (rules : Rules E O) (stands stands' : List E → Type 0) (number end end' : ℕ) (told told' : Bool) (left later : List FileRow) (place : ℕ) (some : 1 ≤ number) (ends : IsTrue told → end' ≡ end) (tells : told' ≡ told)
    (went : Went rules stands number end told left later) (is_over : IsOver stands' went.events end' told' later) where
  low : IsTrue told → end ≤ 1073741824
  low is = subst (λ (n : ℕ). n ≤ 1073741824) (ends is) (is_over.in_limit (tells ∙ is))

  by_missing : (o : Option O) → rules.missing went.events ≡ o → MatchResult (finished number o) (λ _. TakesAll rules stands' end told left) (UnlessFailed (λ refusal. IsTrue told → RefusesSome rules end left place refusal))
  by_missing None is = record {
    events = went.events;
    stands_for = is_over.stands_still;
    stops = is;
    verdict = λ tell. over rules went.events number end left later some (went.rows tell) (is_over.none (tells ∙ tell)) (low tell) None is;
  }
  by_missing (Some offence) is = λ tell. stops_short rules went.events number end left later some (went.rows tell) place offence (is_over.none (tells ∙ tell)) (low tell) is

  pub went_finished : (r : Result (Unit {0}) (Or (Halt O))) → r ≡ finished number (rules.missing went.events) → MatchResult r (λ _. TakesAll rules stands' end told left) (UnlessFailed (λ refusal. IsTrue told → RefusesSome rules end left place refusal))
  went_finished r is =
      subst (λ (q : Result (Unit {0}) (Or (Halt O))). MatchResult q (λ _. TakesAll rules stands' end told left) (UnlessFailed (λ refusal. IsTrue told → RefusesSome rules end left place refusal))) (sym is)
      (by_missing (rules.missing went.events) refl)
