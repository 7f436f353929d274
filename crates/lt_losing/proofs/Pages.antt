-- The rows of a list, put on pages event by event.
use Rattle.std.proofs.Common.{◌≡◌, ◌+◌, ◌<◌, ℕ, List, [], ◌∷◌, ◌++◌, length, take, drop, get_or, refl, sym, ◌∙◌, ap, append_assoc}
use Rattle.std.proofs.lemmas.List.{append-nil, take_more, take-append-drop}
use Rattle.lt_arch.specs.declared.shape.Shape.{Shape}
use Rattle.lt_lossy.specs.declared.event.LossyEvent.{LossyEvent}
use Rattle.lt_sim.specs.File.{header_text}
use Rattle.lt_losing.specs.LossyFile.{lossy_event_text, lossy_rows_text, lossy_file_text}

rows-append : (s : Shape) (es fs : List LossyEvent) → lossy_rows_text s (es ++ fs) ≡ lossy_rows_text s es ++ lossy_rows_text s fs
rows-append s [] fs = refl
rows-append s (e ∷ es) fs = ap (λ (l : List ℕ). (lossy_event_text s e ++ 10 ∷ []) ++ l) (rows-append s es fs) ∙ sym (append_assoc (lossy_event_text s e ++ 10 ∷ []) (lossy_rows_text s es) (lossy_rows_text s fs))

row_of : (s : Shape) (e : LossyEvent) → lossy_rows_text s (e ∷ []) ≡ lossy_event_text s e ++ 10 ∷ []
row_of s e = append-nil (lossy_event_text s e ++ 10 ∷ [])

module _ (s : Shape) (items xs : List LossyEvent) (i : ℕ) (d : LossyEvent) (same : xs ≡ items) (lt : i < length xs) where
  -- with one event more
  pub text_more : (header_text ++ lossy_rows_text s (take i items)) ++ (lossy_event_text s (get_or xs i d) ++ 10 ∷ []) ≡ header_text ++ lossy_rows_text s (take (i + 1) items)
  text_more =
      let e : LossyEvent = get_or xs i d in
      let front : List LossyEvent = take i items in
      let longer : take (i + 1) items ≡ front ++ e ∷ [] = ap (take (i + 1)) (sym same) ∙ (take_more xs i d lt ∙ ap (λ (l : List LossyEvent). take i l ++ e ∷ []) same) in
      append_assoc header_text (lossy_rows_text s front) (lossy_event_text s e ++ 10 ∷ [])
      ∙ ap (λ (l : List ℕ). header_text ++ l) (ap (λ (l : List ℕ). lossy_rows_text s front ++ l) (sym (row_of s e)) ∙ (sym (rows-append s front (e ∷ [])) ∙ ap (lossy_rows_text s) (sym longer)))

  -- the whole file, with what comes behind it
  pub text_whole : lossy_file_text s items ≡ ((header_text ++ lossy_rows_text s (take i items)) ++ (lossy_event_text s (get_or xs i d) ++ 10 ∷ [])) ++ lossy_rows_text s (drop (i + 1) items)
  text_whole =
      ap (lossy_file_text s) (sym (take-append-drop (i + 1) items))
      ∙ (ap (λ (l : List ℕ). header_text ++ l) (rows-append s (take (i + 1) items) (drop (i + 1) items))
      ∙ (sym (append_assoc header_text (lossy_rows_text s (take (i + 1) items)) (lossy_rows_text s (drop (i + 1) items)))
      ∙ ap (λ (l : List ℕ). l ++ lossy_rows_text s (drop (i + 1) items)) (sym text_more)))
