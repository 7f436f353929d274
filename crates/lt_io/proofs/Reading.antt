-- A read of the next bytes.
use Rattle.std.proofs.Common.{◌≡◌, ◌<◌, ◌+◌, ◌↔◌, ℕ, min, List, [], ◌++◌, length, take, drop, sym, ◌∙◌, ap, arith}
use Rattle.std.proofs.lemmas.List.{take-append-drop, nil_from_length}
use Rattle.std.proofs.Math.Seq.{drop-drop}

-- the rest begins with the bytes that were copied
pub next_part : (bytes buf : List ℕ) (place n : ℕ) → take n buf ≡ take n (drop place bytes) → drop place bytes ≡ take n buf ++ drop (place + n) bytes
next_part bytes buf place n front =
    sym (take-append-drop n (drop place bytes)) ∙ ap (λ (rest : List ℕ). take n (drop place bytes) ++ rest) (drop-drop n place bytes) ∙ ap (λ (part : List ℕ). part ++ drop (place + n) bytes) (sym front)

-- as many bytes as there is room for are none exactly where nothing is left
pub none_left : (rest buf : List ℕ) (n : ℕ) → n ≡ min (length rest) (length buf) → 0 < length buf → (n ≡ 0) ↔ (rest ≡ [])
none_left rest buf n count room =
    ((λ none. nil_from_length rest (omega arith)), (λ empty. let e = ap length empty in omega (arith, count, e)))
