-- A file of one line, many times over.
use Rattle.std.proofs.Common.{◌≡◌, ◌≢◌, ◌≤◌, ◌+◌, ◌-◌, ◌*◌, ℕ, zero, suc, min, List, [], ◌++◌, length, take, drop, refl, sym, ◌∙◌, ap, arith, length-append, length-drop, length-take, IsTrue, Ok}
use Rattle.std.proofs.lemmas.List.{nil_from_length, take-append-le, drop-append-le}
use Rattle.std.proofs.Math.Seq.{drop-append-add}
use Rattle.std.proofs.Math.Nat.{suc-mul}
use Rattle.lt_io.specs.FilesState.{ReadsNext}
use Rattle.lt_io.specs.Visits.{Visit, took, unread}
use Rattle.lt_io.specs.declared.fault.Failed.{Failed}
use Rattle.lt_io.specs.RepeatFiles.{RepeatState, repeated_bytes, RepeatIsWithin, repeat_files_state}
use Rattle.lt_io.proofs.Reading.{next_part}
use Rattle.lt_io.proofs.Visiting.{unread_took}

pub length-repeated : (n : ℕ) (line : List ℕ) → length (repeated_bytes n line) ≡ n * length line
unfolding repeated_bytes
length-repeated zero line = omega arith
length-repeated (suc n) line = omega (arith, length-append line (repeated_bytes n line), length-repeated n line, suc-mul n (length line))

-- what is left at a place in one of the lines
pub drop-repeated : (line : List ℕ) (w k o : ℕ) → o ≤ length line → drop (w * length line + o) (repeated_bytes (w + suc k) line) ≡ drop o line ++ repeated_bytes k line
unfolding repeated_bytes
drop-repeated line zero k o within =
    let place : 0 * length line + o ≡ o = omega arith in
    let lines : 0 + suc k ≡ suc k = omega arith in
    ap (λ p. drop p (repeated_bytes (0 + suc k) line)) place ∙ ap (λ n. drop o (repeated_bytes n line)) lines ∙ drop-append-le o line (repeated_bytes k line) within
drop-repeated line (suc w) k o within =
    let place : suc w * length line + o ≡ length line + (w * length line + o) = omega (arith, suc-mul w (length line)) in
    let lines : suc w + suc k ≡ suc (w + suc k) = omega arith in
    ap (λ p. drop p (repeated_bytes (suc w + suc k) line)) place
    ∙ ap (λ n. drop (length line + (w * length line + o)) (repeated_bytes n line)) lines
    ∙ drop-append-add line (repeated_bytes (w + suc k) line) (w * length line + o)
    ∙ drop-repeated line w k o within

-- what is left at a place before the end
pub left_of : (s : RepeatState) → RepeatIsWithin s → s.whole ≢ s.times → drop (s.whole * length s.line + s.since) (repeated_bytes s.times s.line) ≡ drop s.since s.line ++ repeated_bytes (s.times - suc s.whole) s.line
left_of s within more =
    let times : s.whole + suc (s.times - suc s.whole) ≡ s.times = omega (arith, within.whole) in
    ap (λ n. drop (s.whole * length s.line + s.since) (repeated_bytes n s.line)) (sym times)
    ∙ drop-repeated s.line s.whole (s.times - suc s.whole) s.since (omega (arith, within.since))

-- all was read
pub none_left_of : (s : RepeatState) → RepeatIsWithin s → s.whole ≡ s.times → drop (s.whole * length s.line + s.since) (repeated_bytes s.times s.line) ≡ []
none_left_of s within all =
    let at_end = within.at_end all in
    nil_from_length _ (omega (arith, length-drop (s.whole * length s.line + s.since) (repeated_bytes s.times s.line), length-repeated s.times s.line, ap (λ n. n * length s.line) all))

-- a read at the end
pub reads_none : (s : RepeatState) (vs : List Visit) (buf : List ℕ) → IsTrue s.is_open → RepeatIsWithin s → s.whole ≡ s.times → vs ≡ took 0 s.visits → ReadsNext {E = Failed} (repeat_files_state s) (repeat_files_state (record s { visits = vs })) buf (Ok 0)
reads_none s vs buf opened within all visits = record {
  cause = refl;
  keeps = record { sound = refl; told = refl; named = refl; visits = ap unread visits ∙ unread_took 0 s.visits };
  opened = opened;
  bound = (omega arith, refl);
  visits = visits;
  file = λ _. refl;
  bytes = λ _. record {
    next = refl;
    place = omega arith;
    at_end = λ _. ((λ _. none_left_of s within all), (λ _. refl));
  };
  sound = λ _. refl;
}

-- a read of the next bytes of a line, which ends at this place
pub reads_line : (s : RepeatState) (w o n : ℕ) (vs : List Visit) (old new : List ℕ) → IsTrue s.is_open → RepeatIsWithin s → s.whole ≢ s.times
    → w * length s.line + o ≡ s.whole * length s.line + s.since + n
    → take n new ≡ take n (drop s.since s.line) → n ≡ min (length (drop s.since s.line)) (length old) → length new ≡ length old → vs ≡ took n s.visits
    → ReadsNext {E = Failed} (repeat_files_state s) (repeat_files_state (record s { whole = w; since = o; visits = vs })) new (Ok n)
reads_line s w o n vs old new opened within more place front count room visits =
    let bytes = repeated_bytes s.times s.line in
    let before = s.whole * length s.line + s.since in
    let part = drop s.since s.line in
    let rest = repeated_bytes (s.times - suc s.whole) s.line in
    let left : drop before bytes ≡ part ++ rest = left_of s within more in
    let k = s.times - suc s.whole in
    let lengths : length (drop before bytes) ≡ (length s.line - s.since) + k * length s.line = omega (arith, ap length left, length-append part rest, length-drop s.since s.line, length-repeated k s.line) in
    let same : take n new ≡ take n (drop before bytes) = front ∙ sym (take-append-le n part rest (omega arith)) ∙ ap (λ (l : List ℕ). take n l) (sym left) in
    let fits : n ≤ length new = omega arith in
    record {
      cause = refl;
      keeps = record { sound = refl; told = refl; named = refl; visits = ap unread visits ∙ unread_took n s.visits };
      visits = visits;
      opened = opened;
      bound = (fits, omega (arith, length-take n new));
      file = λ _. refl;
      sound = λ _. refl;
      bytes = λ _. record {
        next = next_part bytes new before n same ∙ ap (λ p. take n new ++ drop p bytes) (sym place);
        place = place;
        at_end = λ some. (
          (λ none.
              let no_line : length s.line ≡ 0 = omega (arith, length-drop s.since s.line, within.since) in
              nil_from_length (drop before bytes) (omega (arith, lengths, ap (λ l. k * l) no_line))),
          (λ empty. omega (arith, lengths, ap length empty, length-drop s.since s.line, count)),
        );
      };
    }

-- the end of a line is the start of the next
pub next_line : (w length since n : ℕ) → since + n ≡ length → (w + 1) * length + 0 ≡ w * length + since + n
next_line w length since n end = omega (arith, suc-mul w length)
