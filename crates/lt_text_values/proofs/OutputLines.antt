-- The lines of outputs, one after another.
use Rattle.std.proofs.Common.{◌≡◌, ℕ, zero, suc, ◌+◌, ◌<◌, List, [], ◌∷◌, ◌++◌, length, take, get_or, zip, append-nil, refl, ap, ◌∙◌, arith}
use Rattle.std.specs.List.{flat_map}
use Rattle.std.proofs.lemmas.Grind.{flat_map-append}
use Rattle.lt_base.specs.declared.value.Cell.{Cell}
use Rattle.lt_text_values.specs.OutputLines.{output_line, outputs_text, summary_line, summary_lines}

zip-take_more : {A B : Type 0} (xs : List A) (ys : List B) (i : ℕ) (d : A) (e : B) → i < length xs → i < length ys → zip (take (suc i) xs) ys ≡ zip (take i xs) ys ++ (get_or xs i d, get_or ys i e) ∷ []
zip-take_more [] ys i d e h k = absurd (omega arith)
zip-take_more (x ∷ xs) [] i d e h k = absurd (omega arith)
zip-take_more (x ∷ xs) (y ∷ ys) zero d e h k = refl
zip-take_more (x ∷ xs) (y ∷ ys) (suc i) d e h k = ap (λ zs. (x, y) ∷ zs) (zip-take_more xs ys i d e (omega arith) (omega arith))

-- a line more of some form
pub lines-more : (line : List ℕ × List Cell → List ℕ) (names : List (List ℕ)) (cells : List (List Cell)) (i : ℕ) (d : List ℕ) (e : List Cell) → i < length names → i < length cells
    → flat_map line (zip (take (i + 1) names) cells) ≡ flat_map line (zip (take i names) cells) ++ line (get_or names i d, get_or cells i e)
lines-more line names cells i d e h k =
    let next : i + 1 ≡ suc i = omega arith in
    ap (λ n. flat_map line (zip (take n names) cells)) next
    ∙ ap (flat_map line) (zip-take_more names cells i d e h k)
    ∙ flat_map-append line (zip (take i names) cells) ((get_or names i d, get_or cells i e) ∷ [])
    ∙ ap (λ l. flat_map line (zip (take i names) cells) ++ l) (append-nil (line (get_or names i d, get_or cells i e)))

-- a line more
pub outputs_text-more : (names : List (List ℕ)) (cells : List (List Cell)) (i : ℕ) (d : List ℕ) (e : List Cell) → i < length names → i < length cells
    → outputs_text (take (i + 1) names) cells ≡ outputs_text (take i names) cells ++ output_line (get_or names i d) (get_or cells i e)
outputs_text-more names cells i d e h k = lines-more (λ output. output_line output.0 output.1) names cells i d e h k

-- the same of a summary
pub summary_lines-more : (names : List (List ℕ)) (cells : List (List Cell)) (i : ℕ) (d : List ℕ) (e : List Cell) → i < length names → i < length cells
    → summary_lines (take (i + 1) names) cells ≡ summary_lines (take i names) cells ++ summary_line (get_or names i d) (get_or cells i e)
summary_lines-more names cells i d e h k = lines-more (λ output. summary_line output.0 output.1) names cells i d e h k
