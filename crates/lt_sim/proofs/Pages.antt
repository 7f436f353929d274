-- A text that is written page by page.
use Rattle.std.proofs.Common.{◌≡◌, ◌≤◌, ℕ, ◌+◌, min, IsTrue, List, [], ◌∷◌, ◌++◌, length, take, Result, Ok, Err, refl, sym, ◌∙◌, ap, subst, arith, append_assoc, suc-add, zero-add}
use Rattle.std.proofs.lemmas.List.{take_min, take-append-le, length-append, append-nil}
use Rattle.lt_io.specs.SinkState.{SinkState, KeepsSink}
use Rattle.lt_io.specs.Transfer.{IsFront}
use Rattle.lt_base.specs.declared.memory.Or.{Or}
use Rattle.lt_base.specs.declared.memory.Or.TheVariants.{Fault, Memory}
use Rattle.lt_sim.specs.declared.fault.SimFault.{SimFault}
use Rattle.lt_sim.specs.declared.fault.SimFault.TheVariants.{Write, TooMany}
use Rattle.lt_sim.specs.Recorded.{TakesPart, WritesText, WritesPart}

take_past : (w x : List ℕ) (j : ℕ) → take (length w + j) (w ++ x) ≡ w ++ take j x
take_past [] x j = ap (λ n. take n x) (zero-add j)
take_past (b ∷ w) x j = rw (suc-add (length w) j) (ap (λ (l : List ℕ). b ∷ l) (take_past w x j))

-- a front of what follows a text that was taken is one of the whole
front_on : (written x more whole : List ℕ) (n : ℕ) → whole ≡ (written ++ x) ++ more → (m : ℕ) × (written ++ take n x ≡ take m whole)
front_on written x more whole n is =
    let m : ℕ = length written + min n (length x) in
    let few : m ≤ length (written ++ x) = let size = length-append written x in omega (arith, size) in
    let front : take m whole ≡ written ++ take n x = ap (take m) is ∙ (take-append-le m (written ++ x) more few ∙ (take_past written x (min n (length x)) ∙ ap (λ (l : List ℕ). written ++ l) (take_min n x))) in
    (m, sym front)

-- a text was put on pages: some of it was written, and the rest is on the page
pub record HasPut (text page : List ℕ) (old now : SinkState) : Type 0 where
  pub counted : now.faults ≡ old.faults
  pub written : List ℕ
  pub taken : IsTrue old.told → now.taken ≡ old.taken ++ written
  pub behind : written ++ page ≡ text

pub put_none : (page : List ℕ) (now : SinkState) → HasPut page page now now
put_none page now = record { counted = refl; written = []; taken = λ told. sym (append-nil now.taken); behind = refl }

-- what was kept, and a text behind it
pub put_part : (text kept held : List ℕ) (old now : SinkState) → TakesPart text kept held old now → HasPut (kept ++ text) held old now
put_part text kept held old now part = record { counted = part.counted; written = part.written; taken = part.taken; behind = part.behind }

module _ (text page : List ℕ) (old now : SinkState) (h : HasPut text page old now) where
  -- a row more on the page
  pub put_on : (row : List ℕ) → HasPut (text ++ row) (page ++ row) old now
  put_on row = record { counted = h.counted; written = h.written; taken = h.taken; behind = sym (append_assoc h.written page row) ∙ ap (λ (l : List ℕ). l ++ row) h.behind }

  module _ (told : now.told ≡ old.told) where
    is_told : IsTrue old.told → IsTrue now.told
    is_told t = subst IsTrue (sym told) t

    -- and some of it written
    pub put_more : (row kept : List ℕ) (next : SinkState) → TakesPart row page kept now next → HasPut (text ++ row) kept old next
    put_more row kept next more = record {
      counted = more.counted ∙ h.counted;
      written = h.written ++ more.written;
      taken = λ t. more.taken (is_told t) ∙ (ap (λ (l : List ℕ). l ++ more.written) (h.taken t) ∙ append_assoc old.taken h.written more.written);
      behind = append_assoc h.written more.written kept ∙ (ap (λ (l : List ℕ). h.written ++ l) more.behind ∙ (sym (append_assoc h.written page row) ∙ ap (λ (l : List ℕ). l ++ row) h.behind));
    }

    page_front : (more whole : List ℕ) → whole ≡ text ++ more → (next : SinkState) → (IsTrue now.told → IsFront now.taken page next.taken) → IsTrue old.told → IsFront old.taken whole next.taken
    page_front more whole is next took t =
        let part = took (is_told t) in
        let m = front_on h.written page more whole part.0 (is ∙ ap (λ (l : List ℕ). l ++ more) (sym h.behind)) in
        (m.0, part.1 ∙ (ap (λ (l : List ℕ). l ++ take part.0 page) (h.taken t) ∙ (append_assoc old.taken h.written (take part.0 page) ∙ ap (λ (l : List ℕ). old.taken ++ l) m.1)))

    -- the page was written, or not
    pub page_writes : {T : Type 0} (next : SinkState) (result : Result T (Or SimFault)) → WritesText page now next result → WritesText text old next result
    page_writes next (Ok x) w = record {
      counted = w.counted ∙ h.counted;
      taken = λ t. w.taken (is_told t) ∙ (ap (λ (l : List ℕ). l ++ page) (h.taken t) ∙ (append_assoc old.taken h.written page ∙ ap (λ (l : List ℕ). old.taken ++ l) h.behind));
    }
    page_writes next (Err (Fault Write)) w = record { counted = let a = w.counted in let b = h.counted in omega (arith, a, b); taken = page_front [] text (sym (append-nil text)) next w.taken }
    page_writes next (Err (Fault TooMany)) w = w
    page_writes next (Err Memory) w = record { counted = w.counted ∙ h.counted; taken = page_front [] text (sym (append-nil text)) next w.taken }

    -- a page with more behind it was not written
    pub page_fails : (more whole : List ℕ) → whole ≡ text ++ more → (fault : Or SimFault) (next : SinkState) → WritesText {T = Unit {0}} page now next (Err fault) → WritesText {T = Unit {0}} whole old next (Err fault)
    page_fails more whole is (Fault Write) next w = record { counted = let a = w.counted in let b = h.counted in omega (arith, a, b); taken = page_front more whole is next w.taken }
    page_fails more whole is (Fault TooMany) next w = w
    page_fails more whole is Memory next w = record { counted = w.counted ∙ h.counted; taken = page_front more whole is next w.taken }

-- a row that was not put is a page that was not written
row_unwritten : (row page kept : List ℕ) (now next : SinkState) (fault : Or SimFault) → WritesPart row page kept now next (Err fault) → WritesText {T = Unit {0}} (page ++ row) now next (Err fault)
row_unwritten row page kept now next (Fault Write) w = w
row_unwritten row page kept now next (Fault TooMany) w = w
row_unwritten row page kept now next Memory w = w

-- a row with more behind it was not put
pub row_fails : (text page : List ℕ) (old now : SinkState) → HasPut text page old now → now.told ≡ old.told → (row more whole : List ℕ) → whole ≡ (text ++ row) ++ more → (fault : Or SimFault) (kept : List ℕ) (next : SinkState) → WritesPart row page kept now next (Err fault)
    → WritesText {T = Unit {0}} whole old next (Err fault)
row_fails text page old now h told row more whole is fault kept next w =
    page_fails (text ++ row) (page ++ row) old now (put_on text page old now h row) told more whole is fault next (row_unwritten row page kept now next fault w)

-- a text that was not written is so whatever was to be answered
pub unwritten : (T : Type 0) (text : List ℕ) (old new : SinkState) (fault : Or SimFault) → WritesText {T = Unit {0}} text old new (Err fault) → WritesText {T = T} text old new (Err fault)
unwritten T text old new (Fault Write) w = w
unwritten T text old new (Fault TooMany) w = w
unwritten T text old new Memory w = w

pub still_sound : (old now next : SinkState) → KeepsSink old now → now.faults ≡ old.faults → (IsTrue now.sound → next.faults ≡ now.faults) → IsTrue old.sound → next.faults ≡ old.faults
still_sound old now next keeps counted sound t = sound (subst IsTrue (sym keeps.sound) t) ∙ counted
