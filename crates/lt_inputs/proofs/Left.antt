-- The records that are left after one is read.
use Rattle.std.proofs.Common.{◌≡◌, ◌≢◌, ℕ, zero, suc, ◌+◌, ◌-◌, ◌≤◌, ◌<◌, Bool, true, false, if◌then◌else◌, ◌==◌, ◌||◌, List, [], ◌∷◌, ◌++◌, length, Option, Some, None, refl, sym, ap, subst, ◌∙◌, arith, add-one}
use Rattle.std.specs.Prelude.{IfSome, IfOk, OnOk, MatchOption, unwrap_or, Result, Ok, Err}
use Rattle.std.proofs.lemmas.Bool.{false≢true}
use Rattle.csv.specs.Machine.{Read, next_record, step, is_end, ends_at_end, fields_after, field_after, in_field, start_field, start_record}
use Rattle.std.proofs.Common.{Bor, inl}
use Rattle.csv.specs.Reading.{Ready, NextIs, ReadsNext, ReadRecord, Reached, TookRecord, NotLengths, ExplainsRead, default_config, records_from, records_next, reader_state, is_flexible, took_first, expected_len}
use Rattle.csv.specs.declared.reader.Reader.{Reader}
use Rattle.csv.specs.declared.error.ErrorKind.{ErrorKind}
use Rattle.csv.specs.declared.error.ErrorKind.TheVariants as kind
use Rattle.lt_base.specs.declared.memory.Memory.{Memory}
use Rattle.lt_inputs.specs.declared.records.Next.{Next}
use Rattle.csv.proofs.ReadFacts.{rows-end, rows-more}
use Rattle.csv.specs.declared.parser.State.{State}
use Rattle.csv.specs.declared.parser.State.TheVariants as st
use Rattle.csv.specs.declared.parser.Action.{Action}
use Rattle.csv.specs.declared.parser.Action.TheVariants as act
use Rattle.csv.specs.declared.parser.Config.{Config}
use Rattle.lt_inputs.specs.Records.{records_after, ReaderStands, ReaderAdvances}
use Rattle.lt_inputs.specs.declared.records.Next.TheVariants.{Found, OtherLength, End}

-- a step that ends a record stands between records
abbrev Between : State × Action → Type 0
Between r = is_end r.1 ≡ true → ends_at_end r.0 ≡ false

field3 : (a b d : Bool) → Between (if a then (st.StartField, act.EndField) else if b then ((if d then st.AfterCr else st.StartRecord), act.EndRecord) else (st.InField, act.Copy))
field3 true b d h = absurd (false≢true h)
field3 false true true h = refl
field3 false true false h = refl
field3 false false d h = absurd (false≢true h)

in_field-between : (c : ℕ) → Between (in_field default_config c)
in_field-between c = field3 (c == 44) ((c == 13) || (c == 10)) (c == 13)

skip-else : (a : Bool) (s : State) (r : State × Action) → Between r → Between (if a then (s, act.Skip) else r)
skip-else true s r h e = absurd (false≢true e)
skip-else false s r h e = h e

copy-else : (a : Bool) (s : State) (r : State × Action) → Between r → Between (if a then (s, act.Copy) else r)
copy-else true s r h e = absurd (false≢true e)
copy-else false s r h e = h e

start_field-between : (c : ℕ) → Between (start_field default_config c)
start_field-between c = skip-else (c == 34) st.InQuoted (in_field default_config c) (in_field-between c)

start_record-between : (c : ℕ) → Between (start_record default_config c)
start_record-between c = skip-else ((c == 13) || (c == 10)) st.StartRecord (start_field default_config c) (start_field-between c)

step-between : (s : State) (c : ℕ) → Between (step default_config s c)
step-between st.StartRecord c = start_record-between c
step-between st.StartField c = start_field-between c
step-between st.InField c = in_field-between c
step-between st.InQuoted c = skip-else (c == 34) st.AfterQuote (st.InQuoted, act.Copy) (λ e. absurd (false≢true e))
step-between st.InEscape c = λ e. absurd (false≢true e)
step-between st.AfterQuote c = copy-else (c == 34) st.InQuoted (in_field default_config c) (in_field-between c)
step-between st.InComment c = skip-else (c == 10) st.StartRecord (st.InComment, act.Skip) (λ e. absurd (false≢true e))
step-between st.AfterCr c = skip-else (c == 10) st.StartRecord (start_record default_config c) (start_record-between c)

-- a record that is read takes a byte, and stands between records
abbrev Shrinks : List ℕ → Read → Type 0
Shrinks y p = (ends_at_end p.1 ≡ false) × (length p.2 ≤ length y - 1)

some-same : {A : Type 0} {q r : A} → Some q ≡ Some r → q ≡ r
some-same e = cc

at_last : (b : Bool) (f : List (List ℕ)) (p : Read) → (if b then Some (f, st.StartRecord, []) else None) ≡ Some p → Shrinks [] p
at_last true f p e = subst (Shrinks []) (some-same e) (refl, omega arith)
at_last false f p e = cc

shrinks : (s : State) (f : List (List ℕ)) (x y : List ℕ) (p : Read) → next_record default_config s f x y ≡ Some p → Shrinks y p
unfolding next_record
shrinks s f x [] p e = at_last (ends_at_end s) (f ++ (x ∷ [])) p e
shrinks s f x (c ∷ rest) p e =
    by (is_end (step default_config s c).1) refl e
    (shrinks (step default_config s c).0 (fields_after (step default_config s c).1 f x) (field_after (step default_config s c).1 c x) rest p)
  where
    by : (b : Bool) → is_end (step default_config s c).1 ≡ b
        → (if b then Some (fields_after (step default_config s c).1 f x, (step default_config s c).0, rest) else next_record default_config (step default_config s c).0 (fields_after (step default_config s c).1 f x) (field_after (step default_config s c).1 c x) rest) ≡ Some p
        → (next_record default_config (step default_config s c).0 (fields_after (step default_config s c).1 f x) (field_after (step default_config s c).1 c x) rest ≡ Some p → Shrinks rest p)
        → Shrinks (c ∷ rest) p
    by true is g more = subst (Shrinks (c ∷ rest)) (some-same g) (step-between s c is, omega arith)
    by false is g more = let h = more g in (h.0, omega (arith, h.1))

none-at-end : (s : State) (p : Read) → ends_at_end s ≡ false → next_record default_config s [] [] [] ≡ Some p → ⊥
unfolding next_record
none-at-end s p between e = by (ends_at_end s) between e
  where
    by : (b : Bool) → b ≡ false → (if b then Some (([] ∷ []), st.StartRecord, []) else None) ≡ Some p → ⊥
    by true h g = absurd (false≢true (sym h))
    by false h g = cc

smaller : (s : State) (y : List ℕ) (p : Read) → ends_at_end s ≡ false → next_record default_config s [] [] y ≡ Some p → length p.2 < length y
smaller s [] p between e = absurd (none-at-end s p between e)
smaller s (c ∷ rest) p between e = let h = (shrinks s [] [] (c ∷ rest) p e).1 in omega (arith, h)

-- more turns than bytes are enough
same : (k m : ℕ) (s : State) (y : List ℕ) → ends_at_end s ≡ false → length y < k → length y < m → records_from default_config k s y ≡ records_from default_config m s y
unfolding records_from
same zero m s y between h g = absurd (omega arith)
same (suc k) zero s y between h g = absurd (omega arith)
same (suc k) (suc m) s y between h g =
    by (next_record default_config s [] [] y) refl
    (λ p e. let lt = smaller s y p between e in same k m p.1 p.2 (shrinks s [] [] y p e).0 (omega (arith, lt)) (omega (arith, lt)))
  where
    by : (o : Option Read) → next_record default_config s [] [] y ≡ o
        → ((p : Read) → next_record default_config s [] [] y ≡ Some p → records_from default_config k p.1 p.2 ≡ records_from default_config m p.1 p.2)
        → records_next (records_from default_config k) o ≡ records_next (records_from default_config m) o
    by None e more = refl
    by (Some p) e more = ap (λ (t : List (List (List ℕ))). p.0 ∷ t) (more p e)

pub left-some : (s : State) (y : List ℕ) (p : Read) → ends_at_end s ≡ false → next_record default_config s [] [] y ≡ Some p
    → (records_after s y ≡ p.0 ∷ records_after p.1 p.2) × (ends_at_end p.1 ≡ false)
unfolding records_from
left-some s y p between e =
    let lt = smaller s y p between e in
    let after = (shrinks s [] [] y p e).0 in
    let first : records_after s y ≡ records_next (records_from default_config (length y)) (next_record default_config s [] [] y) = rw (add-one (length y)) refl in (
      first ∙ ap (records_next (records_from default_config (length y))) e
          ∙ ap (λ (t : List (List (List ℕ))). p.0 ∷ t) (same (length y) (length p.2 + 1) p.1 p.2 after lt (omega arith)),
      after,
    )

pub left-none : (s : State) (y : List ℕ) → next_record default_config s [] [] y ≡ None → records_after s y ≡ []
unfolding records_from
left-none s y e =
    let first : records_after s y ≡ records_next (records_from default_config (length y)) (next_record default_config s [] [] y) = rw (add-one (length y)) refl in
    first ∙ ap (records_next (records_from default_config (length y))) e

-- ---- a reader's step

reads-some : (cfg : Config) (a b : State) (y : List ℕ) (f : List (List ℕ)) (k : Option (List ℕ)) → ReadsNext cfg a (Some y) k true f b
    → (p : Read) × (next_record cfg a [] [] y ≡ Some p) × (f ≡ p.0)
reads-some cfg a b y f None h = absurd h
reads-some cfg a b y f (Some z) h = by (next_record cfg a [] [] y) refl h
  where
    by : (o : Option Read) → next_record cfg a [] [] y ≡ o → NextIs o true f b z → (p : Read) × (next_record cfg a [] [] y ≡ Some p) × (f ≡ p.0)
    by None e n = cc n
    by (Some p) e n = (p, e, n.1)

fits : (width : Option ℕ) (n : ℕ) (now : Option ℕ) → IfSome width (λ w. now ≡ Some w) → now ≡ Some n → IfSome width (λ w. n ≡ w)
fits None n now h g = tt
fits (Some w) n now h g = cc

-- the same record, spelled by what the reader shows
joined : (left : List (List (List ℕ))) (p : Read) (f : List (List ℕ)) (s : State) (z : List ℕ) → left ≡ p.0 ∷ records_after p.1 p.2 → f ≡ p.0 → p.1 ≡ s → p.2 ≡ z
    → left ≡ f ∷ records_after s z
joined left p f s z e a b c = rw (a, ← b, ← c) e

-- the records after a state in the bytes that are known
abbrev rest_from : State → Option (List ℕ) → List (List (List ℕ))
rest_from s o = records_after s (unwrap_or o [])

module _ (old new : Reader (Bor (List ℕ))) (width : Option ℕ) (fields : List (List ℕ)) where
  pub found : ReaderStands old width → ReadRecord (λ (s : Bor (List ℕ)). Some s.now) old new true fields
      → is_flexible new ≡ is_flexible old → took_first new ≡ true → ReaderAdvances old width Found new fields
  unfolding Reached
  found s r same_flexible first =
      let (text, source) = s.known in
      let (z, at_z, reached) = rows-more (λ (s : Bor (List ℕ)). Some s.now) old new fields default_config (reader_state old) text text [] s.config source (refl, refl) r in
      let (p, next, f, here) = reached in
      let (more, after) = left-some (reader_state old) text p s.between next in
      let lens = r.5 refl s.flexible in
      let left_is = joined (records_after (reader_state old) text) p fields (reader_state new) z more f here.0 here.1 in
      let still : ends_at_end (reader_state new) ≡ false = ap ends_at_end (sym here.0) ∙ after in (
        ap (rest_from (reader_state old)) source ∙ left_is ∙ ap (λ o. fields ∷ rest_from (reader_state new) o) (sym at_z),
        fits width (length fields) (expected_len new) (rw s.expected at lens.0) lens.1,
        record {
          trim = r.3 ∙ s.trim;
          ready = inl first;
          config = r.2 ∙ s.config;
          flexible = same_flexible ∙ s.flexible;
          expected = lens.1;
          between = still;
          known = (z, at_z);
        },
      )

  pub ended : ReaderStands old width → ReadRecord (λ (s : Bor (List ℕ)). Some s.now) old new false fields → ReaderAdvances old width End new fields
  ended s r =
      let (text, source) = s.known in
      let none = rows-end (λ (s : Bor (List ℕ)). Some s.now) old new fields default_config text s.config source r in
      ap (rest_from (reader_state old)) source ∙ left-none (reader_state old) text none

  pub other : (e n : ℕ) → ReaderStands old width → expected_len old ≡ Some e → e ≢ n
      → (f : List (List ℕ)) → TookRecord (λ (s : Bor (List ℕ)). Some s.now) old new f → length f ≡ n → ReaderAdvances old width OtherLength new fields
  other e n s was differs f took len =
      let (text, source) = s.known in
      let (p, next, f_is) = reads-some default_config (reader_state old) (reader_state new) text f _ (rw (s.config, source) at took) in
      let (more, after) = left-some (reader_state old) text p s.between next in
      let W : Option ℕ → Type 0 = λ w. MatchOption w ⊥ (λ k. length p.0 ≢ k) in (
        p.0,
        records_after p.1 p.2,
        ap (rest_from (reader_state old)) source ∙ more,
        subst W (sym was ∙ s.expected) (λ h. differs (sym h ∙ ap length (sym f_is) ∙ len)),
      )

  -- an error of lengths tells of a record of another length
  other_at : (k : ErrorKind) → ¬ NotLengths k → ReaderStands old width → ExplainsRead (λ (s : Bor (List ℕ)). Some s.now) old new false k → ReaderAdvances old width OtherLength new fields
  other_at (kind.UnequalLengths pos e n) lengths s (flexible, was, differs, f, took, len) = other e n s was differs f took len
  other_at (kind.Io e) lengths s why = absurd (lengths tt)
  other_at (kind.Utf8 pos e) lengths s why = absurd (lengths tt)
  other_at kind.OutOfMemory lengths s why = absurd (lengths tt)
  other_at (kind.Serialize text) lengths s why = absurd (lengths tt)
  other_at (kind.Deserialize pos e) lengths s why = absurd (lengths tt)

pub refused : (old new : Reader (Bor (List ℕ))) (fields : List (List ℕ)) (k : ErrorKind) (r : Result Next Memory) → IfOk r (λ next. next ≡ OtherLength) → OnOk r (¬ NotLengths k)
    → (Ready old → ExplainsRead (λ (s : Bor (List ℕ)). Some s.now) old new false k)
    → IfOk r (λ next. (width : Option ℕ) → ReaderStands old width → ReaderAdvances old width next new fields)
refused old new fields k (Ok next) is lengths why = λ width s. subst (λ x. ReaderAdvances old width x new fields) (sym is) (other_at old new width fields k lengths s (why s.ready))
refused old new fields k (Err e) is lengths why = tt
