-- What a call's arguments read, one argument at a time.
use Rattle.std.proofs.Common.{◌≡◌, ℕ, ◌<◌, ◌+◌, List, [], ◌∷◌, ◌++◌, length, map, take, get_or, sym, ap, ◌∙◌}
use Rattle.std.proofs.lemmas.List.{append_assoc, append-nil, map_more}
use Rattle.lt_base.specs.declared.expression.Expr.{Expr}
use Rattle.lt_base.specs.Expression.{Expression, shape, arguments_of}
use Rattle.lt_base.specs.Dependence.{reads, arguments_reads}

reads_push : (es : List Expression) (e : Expression) → arguments_reads (arguments_of (es ++ e ∷ [])) ≡ arguments_reads (arguments_of es) ++ reads e
reads_push [] e = append-nil (reads e)
reads_push (d ∷ es) e = ap (λ l. reads d ++ l) (reads_push es e) ∙ sym (append_assoc (reads d) (arguments_reads (arguments_of es)) (reads e))

pub reads_more : (to fn pushed : List ℕ) (items : List Expr) (i : ℕ) (a : Expr) → i < length items → a ≡ get_or items i a → to ≡ fn ++ arguments_reads (arguments_of (map shape (take i items))) → pushed ≡ to ++ reads (shape a)
    → pushed ≡ fn ++ arguments_reads (arguments_of (map shape (take (i + 1) items)))
reads_more to fn pushed items i a l is before push =
    let old = arguments_reads (arguments_of (map shape (take i items))) in
    let more : arguments_reads (arguments_of (map shape (take (i + 1) items))) ≡ old ++ reads (shape a) =
    ap (λ es. arguments_reads (arguments_of es)) (map_more shape items i a l) ∙ reads_push (map shape (take i items)) (shape (get_or items i a)) ∙ ap (λ e. old ++ reads (shape e)) (sym is) in
    push ∙ ap (λ t. t ++ reads (shape a)) before ∙ append_assoc fn old (reads (shape a)) ∙ ap (λ t. fn ++ t) (sym more)
