-- A whole file as a step.
use Rattle.std.proofs.Common.{◌≡◌, ◌<◌, ◌+◌, ℕ, List, [], ◌∷◌, false, inl, inr, length, Option, Some, None, Result, Ok, Err, IsTrue, refl, ap, subst, arith, ◌≤◌}
use Rattle.std.specs.Prelude.{is_ok, IfOk, IsSomeAnd, IsNone, IsSome}
use Rattle.std.proofs.lemmas.Bool.Decides.{leb_tells}
use Rattle.lt_base.specs.declared.memory.Or.{Or}
use Rattle.lt_base.specs.declared.memory.Or.TheVariants.{Fault, Memory}
use Rattle.lt_io.specs.declared.fault.Failed.{Failed}
use Rattle.lt_io.specs.declared.transfer.Whole.{Whole}
use Rattle.lt_io.specs.declared.transfer.Whole.TheVariants.{Bytes, TooLong}
use Rattle.lt_io.specs.FilesState.{FilesState, KeepsNames}
use Rattle.lt_io.specs.Visits.{Visited}
use Rattle.lt_io.proofs.Visiting.{visited_any}
use Rattle.lt_io.specs.Counts.{OrCounted}
use Rattle.lt_io.specs.Transfer.{whole_of}
use Rattle.lt_load_fit.specs.declared.fault.What.{What}
use Rattle.lt_load_fit.specs.declared.fault.CommandFault.TheVariants.{Limit, Read}
use Rattle.lt_answer.specs.World.{KeepsWorld, alone}
use Rattle.lt_answer.specs.Answered.{Answered, RefusesReading}
use Rattle.lt_load.specs.Blamed.{command_blame}
use Rattle.lt_load.specs.Errands.{whole_errand}
use Rattle.lt_load.specs.Loaded.{limit_of, whole_verdict, within_file_limit}
use Rattle.lt_load.specs.Found.{fetched}
use Rattle.lt_answer.proofs.Stages.{keeps_itself}

-- what reading a whole file says
pub record IsReadBy (limit : ℕ) (old new : FilesState) (name : List ℕ) (result : Result Whole (Or Failed)) : Type 0 where
  pub cause : OrCounted old.faults new.faults result
  pub keeps : KeepsNames old new
  pub visits : Visited (record { name = name; most = limit + 1 } ∷ []) old.visits new.visits (is_ok result)
  pub whole : IsTrue old.told → IfOk result (λ whole. IsSomeAnd (old.named name) (λ bytes. whole ≡ whole_of limit bytes))
  pub missing : IsTrue old.told → IsNone (old.named name) → old.faults < new.faults
  pub sound : IsTrue old.sound → IsSome (old.named name) → new.faults ≡ old.faults

abbrev pub IsRead : What → (old new : FilesState) (name : List ℕ) (result : Result Whole (Or Failed)) → Type 0
IsRead what old new name result = IsReadBy (limit_of what) old new name result

pub at_limit : (what : What) (limit : ℕ) (old new : FilesState) (name : List ℕ) (result : Result Whole (Or Failed)) → limit ≡ limit_of what → IsReadBy limit old new name result → IsRead what old new name result
at_limit what limit old new name result is read = subst (λ (n : ℕ). IsReadBy n old new name result) is read

keeps_alone : (a b : FilesState) → KeepsNames a b → KeepsWorld (alone a) (alone b)
keeps_alone a b keeps = record { files = keeps; fabric = (keeps_itself (alone a)).fabric; steady = λ sound. refl }

-- over sound files the count rises at a missing file alone
missing_alone : (what : What) (old new : FilesState) (file : Option (List ℕ)) → (IsSome file → new.faults ≡ old.faults) → old.faults < new.faults → RefusesReading command_blame (whole_verdict what file)
unfolding whole_verdict
missing_alone what old new None sound rose = (Read, refl, refl)
missing_alone what old new (Some bytes) sound rose = absurd (omega (arith, sound refl, rose))

abbrev bytes_in : Whole → List ℕ
bytes_in (Bytes bytes) = bytes
bytes_in TooLong = []

contents : (xs ys : List ℕ) → Bytes xs ≡ Bytes ys → xs ≡ ys
contents xs ys is = ap bytes_in is

held : (what : What) (file : Option (List ℕ)) (bytes : List ℕ) → IsSomeAnd file (λ whole. Bytes bytes ≡ whole_of (limit_of what) whole) → whole_verdict what file (Ok bytes)
unfolding whole_verdict
held what None bytes is = absurd is
held what (Some whole) bytes is =
    elim (leb_tells (length whole) (limit_of what)) [
      | inl small ↦ let same : Bytes bytes ≡ Bytes whole = cc (is, small.0) in record { same = contents bytes whole same; short = small.1 }
      | inr large ↦ let none : Bytes bytes ≡ TooLong = cc (is, large.0) in cc none
    ]

too_long : (what : What) (file : Option (List ℕ)) → IsSomeAnd file (λ whole. TooLong ≡ whole_of (limit_of what) whole) → whole_verdict what file (Err (Limit what))
unfolding whole_verdict
too_long what None is = absurd is
too_long what (Some whole) is =
    elim (leb_tells (length whole) (limit_of what)) [
      | inl small ↦ let none : TooLong ≡ Bytes whole = cc (is, small.0) in cc none
      | inr large ↦ (refl, λ bytes read. absurd (omega (arith, read.short, large.1)))
    ]

past : (what : What) (file : Option (List ℕ)) (bytes : List ℕ) → IsSomeAnd file (λ whole. Bytes bytes ≡ whole_of (limit_of what) whole) → limit_of what < length bytes → whole_verdict what file (Err (Limit what))
unfolding whole_verdict
past what None bytes is long = absurd is
past what (Some whole) bytes is long = let read = held what (Some whole) bytes is in absurd (omega (arith, read.short, ap length read.same, long))

-- the file's bytes
fetched_bytes : (what : What) (old new : FilesState) (name bytes : List ℕ) → IsRead what old new name (Ok (Bytes bytes)) → Answered command_blame (whole_errand what name) (whole_verdict what (old.named name)) (alone old) (alone new) (Ok bytes)
fetched_bytes what old new name bytes read =
    record {
      keeps = keeps_alone old new read.keeps;
      visits = read.visits;
      cause = record { files = read.cause; fabric = refl };
      exact = λ told calm. held what (old.named name) bytes (read.whole told);
      sound = λ told sound rose. missing_alone what old new (old.named name) (read.sound sound) rose;
    }

-- it has too many
fetched_too_long : (what : What) (old new : FilesState) (name : List ℕ) → IsRead what old new name (Ok TooLong) → Answered command_blame (whole_errand what name) (whole_verdict what (old.named name)) (alone old) (alone new) (Err (Fault (Limit what)))
fetched_too_long what old new name read =
    record {
      keeps = keeps_alone old new read.keeps;
      visits = visited_any (whole_errand what name) old.visits new.visits false read.visits;
      cause = record { files = read.cause; fabric = refl };
      exact = λ told calm. too_long what (old.named name) (read.whole told);
      sound = λ told sound rose. missing_alone what old new (old.named name) (read.sound sound) rose;
    }

-- a call on the files failed
fetch_failed : (what : What) (old new : FilesState) (name : List ℕ) (failed : Failed) → IsRead what old new name (Err (Fault failed)) → Answered command_blame (whole_errand what name) (whole_verdict what (old.named name)) (alone old) (alone new) (Err (Fault Read))
fetch_failed what old new name failed read =
    let rose : old.faults < new.faults = read.cause in
    record {
      keeps = keeps_alone old new read.keeps;
      visits = read.visits;
      cause = (rose, refl);
      exact = λ told calm. absurd (omega (arith, rose, calm.files));
      sound = λ told sound rose. missing_alone what old new (old.named name) (read.sound sound) rose;
    }

-- no memory was found
fetch_short : (what : What) (old new : FilesState) (name : List ℕ) → IsRead what old new name (Err Memory) → Answered command_blame (whole_errand what name) (whole_verdict what (old.named name)) (alone old) (alone new) (Err Memory)
fetch_short what old new name read =
    record {
      keeps = keeps_alone old new read.keeps;
      visits = read.visits;
      cause = record { files = read.cause; fabric = refl };
      exact = λ told calm. tt;
      sound = λ told sound rose. missing_alone what old new (old.named name) (read.sound sound) rose;
    }

-- files that do not tell their bytes gave too many
fetched_past : (what : What) (old new : FilesState) (name bytes : List ℕ) → IsRead what old new name (Ok (Bytes bytes)) → limit_of what < length bytes → Answered command_blame (whole_errand what name) (whole_verdict what (old.named name)) (alone old) (alone new) (Err (Fault (Limit what)))
fetched_past what old new name bytes read long =
    record {
      keeps = keeps_alone old new read.keeps;
      visits = visited_any (whole_errand what name) old.visits new.visits false read.visits;
      cause = record { files = read.cause; fabric = refl };
      exact = λ told calm. past what (old.named name) bytes (read.whole told) long;
      sound = λ told sound rose. missing_alone what old new (old.named name) (read.sound sound) rose;
    }

-- a whole file
fetched_whole : (what : What) (old new : FilesState) (name : List ℕ) (whole : Whole) → IsRead what old new name (Ok whole) → Answered command_blame (whole_errand what name) (whole_verdict what (old.named name)) (alone old) (alone new) (within_file_limit what whole)
fetched_whole what old new name TooLong read = fetched_too_long what old new name read
fetched_whole what old new name (Bytes bytes) read =
    elim (leb_tells (length bytes) (limit_of what)) [
      | inl small ↦ rw small.0 (fetched_bytes what old new name bytes read)
      | inr large ↦ rw large.0 (fetched_past what old new name bytes read large.1)
    ]

-- what was read of it
pub is_fetched : (what : What) (old new : FilesState) (name : List ℕ) (read : Result Whole (Or Failed)) → IsRead what old new name read → Answered command_blame (whole_errand what name) (whole_verdict what (old.named name)) (alone old) (alone new) (fetched what read)
is_fetched what old new name (Ok whole) is = fetched_whole what old new name whole is
is_fetched what old new name (Err (Fault failed)) is = fetch_failed what old new name failed is
is_fetched what old new name (Err Memory) is = fetch_short what old new name is

within_limit : (what : What) (whole : Whole) → IfOk (within_file_limit what whole) (λ bytes. length bytes ≤ limit_of what)
within_limit what TooLong = tt
within_limit what (Bytes bytes) =
    elim (leb_tells (length bytes) (limit_of what)) [
      | inl small ↦ rw small.0 small.1
      | inr large ↦ rw large.0 tt
    ]

pub fetched_short : (what : What) (read : Result Whole (Or Failed)) → IfOk (fetched what read) (λ bytes. length bytes ≤ limit_of what)
fetched_short what (Ok whole) = within_limit what whole
fetched_short what (Err (Fault failed)) = tt
fetched_short what (Err Memory) = tt
