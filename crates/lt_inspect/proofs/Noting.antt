-- One event more for an auditor and a tap.
use Rattle.std.proofs.Common.{◌≡◌, ◌∙◌, ℕ, List, [], ◌∷◌, ◌++◌, Bool, true, false, if◌then◌else◌, sym, ap, subst}
use Rattle.std.specs.Prelude.{filter, is_some, Option, None, Some}
use Rattle.std.proofs.lemmas.List.{append_assoc, append-nil}
use Rattle.std.proofs.lemmas.List.Elements.{filter-append}
use Rattle.lt_arch.specs.declared.event.Event.{Event}
use Rattle.lt_arch.specs.declared.event.Offence.TheVariants.{NoEnd}
use Rattle.lt_arch.specs.declared.shape.Shape.{Shape}
use Rattle.lt_arch.specs.declared.timing.Timing.{Timing}
use Rattle.lt_arch.specs.Schedule.{reached}
use Rattle.lt_rows.specs.Texts.{event_text}
use Rattle.lt_schedule.specs.Verdict.{unended}
use Rattle.lt_audit.specs.declared.selection.Selection.{Selection}
use Rattle.lt_audit.specs.Audit.{AuditState}
use Rattle.lt_audit.specs.Selected.{selected}
use Rattle.lt_audit.specs.Standing.{AuditStands}
use Rattle.lt_inspect.specs.Inspecting.{IsInspected, added}
use Rattle.lt_inspect.specs.Traces.{trace_rows_text, trace_header_text, trace_text}

rows_push : (s : Shape) (es : List Event) (e : Event) → trace_rows_text s (es ++ e ∷ []) ≡ trace_rows_text s es ++ (event_text s e ++ 10 ∷ [])
rows_push s [] e = append-nil (event_text s e ++ 10 ∷ [])
rows_push s (d ∷ es) e = ap (λ (l : List ℕ). (event_text s d ++ 10 ∷ []) ++ l) (rows_push s es e) ∙ sym (append_assoc (event_text s d ++ 10 ∷ []) (trace_rows_text s es) (event_text s e ++ 10 ∷ []))

text_push : (s : Shape) (es : List Event) (e : Event) (b : Bool) → trace_header_text ++ trace_rows_text s (es ++ (if b then e ∷ [] else [])) ≡ (trace_header_text ++ trace_rows_text s es) ++ (if b then event_text s e ++ 10 ∷ [] else [])
text_push s es e true = ap (λ (l : List ℕ). trace_header_text ++ l) (rows_push s es e) ∙ sym (append_assoc trace_header_text (trace_rows_text s es) (event_text s e ++ 10 ∷ []))
text_push s es e false = ap (λ (l : List Event). trace_header_text ++ trace_rows_text s l) (append-nil es) ∙ sym (append-nil (trace_header_text ++ trace_rows_text s es))

pub trace_push : (sel : Selection) (s : Shape) (es : List Event) (e : Event) → trace_text sel s (es ++ e ∷ []) ≡ trace_text sel s es ++ added sel s e
trace_push sel s es e = ap (λ (l : List Event). trace_header_text ++ trace_rows_text s l) (filter-append (selected sel s) es (e ∷ [])) ∙ text_push s (filter (selected sel s) es) e (selected sel s e)

-- an auditor stands by its own shape, timing and rows
pub by_own : (b : AuditState) (s : Shape) (t : Timing) (rows : ℕ) (es : List Event) → AuditStands b s t rows es → AuditStands b b.shape b.watch.timing b.rows es
by_own b s t rows es stands =
    subst (λ (q : Shape). AuditStands b q b.watch.timing b.rows es) (sym stands.state.shape)
    (subst (λ (q : Timing). AuditStands b s q b.rows es) (sym stands.state.times.timing)
    (subst (λ (q : ℕ). AuditStands b s t q es) (sym stands.rows_are) stands))

module _ (a b : AuditState) (sel : Selection) (s : Shape) (text text' : List ℕ) (es : List Event) (e : Event) (before : IsInspected a sel s text es) (stands : AuditStands b a.shape a.watch.timing a.rows (es ++ e ∷ [])) where
  pub inspected_on : text' ≡ text ++ added sel s e → IsInspected b sel s text' (es ++ e ∷ [])
  inspected_on is = record {
    stands = by_own b a.shape a.watch.timing a.rows (es ++ e ∷ []) stands;
    text_is = is ∙ ap (λ (l : List ℕ). l ++ added sel s e) before.text_is ∙ sym (trace_push sel s es e);
    tapped = before.tapped ∙ sym stands.state.shape;
  }

-- whether the list may stop
pub ended_by : (a : AuditState) (es : List Event) → AuditStands a a.shape a.watch.timing a.rows es → (if is_some a.watch.horizon then None else Some NoEnd) ≡ unended (reached a.shape a.watch.timing a.rows es)
ended_by a es stands = ap (λ (h : Option ℕ). if is_some h then None else Some NoEnd) stands.state.times.horizon
