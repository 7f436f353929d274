-- The rows of events, put on pages one after another.
use Rattle.std.proofs.Common.{◌≡◌, ℕ, List, [], ◌∷◌, ◌++◌, Result, Err, refl, sym, ◌∙◌, ap, subst, append_assoc}
use Rattle.std.proofs.lemmas.List.{append-nil}
use Rattle.lt_io.specs.SinkState.{SinkState}
use Rattle.lt_arch.specs.declared.event.Event.{Event}
use Rattle.lt_arch.specs.declared.shape.Shape.{Shape}
use Rattle.lt_arch.specs.declared.timing.Timing.{Timing}
use Rattle.lt_base.specs.declared.memory.Or.{Or}
use Rattle.lt_rows.specs.Texts.{event_text}
use Rattle.lt_sim.specs.File.{rows_text, header_text, file_text}
use Rattle.lt_sim.specs.Recorded.{TakesPart, WritesText, WritesPart}
use Rattle.lt_sim.specs.declared.drawing.Drawing.{Drawing}
use Rattle.lt_sim.specs.declared.fault.SimFault.{SimFault}
use Rattle.lt_sim.proofs.Following.{Passes}
use Rattle.lt_sim.proofs.Pages.{HasPut, put_more, put_none, put_on, page_writes, row_fails}

rows-append : (s : Shape) (es fs : List Event) → rows_text s (es ++ fs) ≡ rows_text s es ++ rows_text s fs
rows-append s [] fs = refl
rows-append s (e ∷ es) fs = ap (λ (l : List ℕ). (event_text s e ++ 10 ∷ []) ++ l) (rows-append s es fs) ∙ sym (append_assoc (event_text s e ++ 10 ∷ []) (rows_text s es) (rows_text s fs))

-- the text of a list, of which these events were put on pages
text_split : (s : Shape) (front : List Event) (e : Event) (later whole : List Event) → whole ≡ front ++ e ∷ later → file_text s whole ≡ ((header_text ++ rows_text s front) ++ (event_text s e ++ 10 ∷ [])) ++ rows_text s later
text_split s front e later whole is =
    ap (file_text s) is
    ∙ (ap (λ (l : List ℕ). header_text ++ l) (rows-append s front (e ∷ later))
    ∙ (sym (append_assoc header_text (rows_text s front) ((event_text s e ++ 10 ∷ []) ++ rows_text s later))
    ∙ sym (append_assoc (header_text ++ rows_text s front) (event_text s e ++ 10 ∷ []) (rows_text s later))))

-- with one event more
text_more : (s : Shape) (front : List Event) (e : Event) → (header_text ++ rows_text s front) ++ (event_text s e ++ 10 ∷ []) ≡ header_text ++ rows_text s (front ++ e ∷ [])
text_more s front e = sym (text_split s front e [] (front ++ e ∷ []) refl ∙ append-nil ((header_text ++ rows_text s front) ++ (event_text s e ++ 10 ∷ [])))

-- these events were put on pages
abbrev pub HasPutEvents : Shape → List Event → (page : List ℕ) → (old now : SinkState) → Type 0
HasPutEvents s front page old now = HasPut (header_text ++ rows_text s front) page old now

pub put_first : (s : Shape) (page : List ℕ) (now : SinkState) → page ≡ header_text → HasPutEvents s [] page now now
put_first s page now is = subst (λ (text : List ℕ). HasPut text page now now) (is ∙ sym (append-nil header_text)) (put_none page now)

module _ (s : Shape) (front : List Event) (page : List ℕ) (old now : SinkState) (h : HasPutEvents s front page old now) (told : now.told ≡ old.told) (e : Event) where
  pub put_event : (next : SinkState) (kept : List ℕ) → TakesPart (event_text s e ++ 10 ∷ []) page kept now next → HasPutEvents s (front ++ e ∷ []) kept old next
  put_event next kept part =
      subst (λ (text : List ℕ). HasPut text kept old next) (text_more s front e) (put_more (header_text ++ rows_text s front) page old now h told (event_text s e ++ 10 ∷ []) kept next part)

  module _ (whole : List Event) (next : SinkState) where
    -- the last row was put and all was written, or not
    pub last_writes : {T : Type 0} (result : Result T (Or SimFault)) → whole ≡ front ++ e ∷ [] → WritesText (page ++ (event_text s e ++ 10 ∷ [])) now next result → WritesText (file_text s whole) old next result
    last_writes result is w =
        let row : List ℕ = event_text s e ++ 10 ∷ [] in
        let text : List ℕ = header_text ++ rows_text s front in
        subst (λ (t : List ℕ). WritesText t old next result) (text_more s front e ∙ ap (file_text s) (sym is))
        (page_writes (text ++ row) (page ++ row) old now (put_on text page old now h row) told next result w)

    -- a row was not put
    pub event_fails : (fault : Or SimFault) (later : List Event) (kept : List ℕ) → whole ≡ front ++ e ∷ later → WritesPart (event_text s e ++ 10 ∷ []) page kept now next (Err fault) → WritesText {T = Unit {0}} (file_text s whole) old next (Err fault)
    event_fails fault later kept is w =
        row_fails (header_text ++ rows_text s front) page old now h told (event_text s e ++ 10 ∷ []) (rows_text s later) (file_text s whole) (text_split s front e later whole is) fault kept next w

-- behind so many events, whose rows were put on pages
pub record HasPassed (k : Drawing) (s : Shape) (t : Timing) (rows seed horizon number : ℕ) (page : List ℕ) (old now : SinkState) : Type 0 where
  pub passes : Passes k s t rows seed horizon number
  pub put : HasPutEvents s passes.front page old now
