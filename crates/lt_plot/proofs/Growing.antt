-- Texts that grow piece by piece.
use Rattle.std.proofs.Common.{◌≡◌, OnOk, Result, Ok, Err, ℕ, ◌+◌, ◌<◌, ◌≤◌, Bool, List, [], ◌∷◌, ◌++◌, length, get_or, drop, refl, sym, ap, ◌∙◌, append_assoc, append-nil, add-one, drop-cons, drop_of_length-le}
use Rattle.lt_base.specs.declared.memory.Memory.{Memory}
use Rattle.lt_scale.specs.declared.chart.Chart.{Chart}
use Rattle.lt_scale.specs.Band.{top_below}
use Rattle.lt_plot.specs.declared.plot.Row.{Row}
use Rattle.lt_plot.specs.Pieces.{pieces_from}
use Rattle.lt_plot.specs.Rows.{plot_row, plot_rows}

-- one piece more
pub one_more : (piece : ℕ → List ℕ) (first n : ℕ) (start out after : List ℕ) → out ≡ start ++ pieces_from piece first n → after ≡ out ++ piece (first + n) → after ≡ start ++ pieces_from piece first (n + 1)
one_more piece first n start out after so_far e =
    rw add-one (e ∙ ap (λ l. l ++ piece (first + n)) so_far ∙ append_assoc start (pieces_from piece first n) (piece (first + n)))

rows_cons : (c : Chart) (run : Bool) (top : ℕ) (r : Row) (rs : List Row) → plot_rows c run top (r ∷ rs) ≡ plot_row c run top r ++ plot_rows c run (top_below top r.truth) rs
unfolding plot_rows
rows_cons c run top r rs = refl

rows_none : (c : Chart) (run : Bool) (top : ℕ) → plot_rows c run top [] ≡ []
unfolding plot_rows
rows_none c run top = refl

drop_one : (rows : List Row) (i : ℕ) (d : Row) → i < length rows → drop i rows ≡ get_or rows i d ∷ drop (i + 1) rows
drop_one rows i d h = rw add-one (drop-cons rows i d h)

-- one row more
pub row_more : (c : Chart) (run : Bool) (top below : ℕ) (rows : List Row) (i : ℕ) (r : Row) (out after whole : List ℕ) → i < length rows → r ≡ get_or rows i r
    → after ≡ out ++ plot_row c run top r → below ≡ top_below top r.truth → out ++ plot_rows c run top (drop i rows) ≡ whole → after ++ plot_rows c run below (drop (i + 1) rows) ≡ whole
row_more c run top below rows i r out after whole there is grown next before =
    let rest = drop (i + 1) rows in
    let front : plot_rows c run top (drop i rows) ≡ plot_row c run top r ++ plot_rows c run (top_below top r.truth) rest =
    ap (λ rs. plot_rows c run top rs) (drop_one rows i r there ∙ ap (λ q. q ∷ rest) (sym is)) ∙ rows_cons c run top r rest in
    (λ k. grown k ++ plot_rows c run (next k) rest) ∙ append_assoc out (plot_row c run top r) (plot_rows c run (top_below top r.truth) rest) ∙ ap (λ l. out ++ l) (sym front) ∙ before

pub rows_done : (c : Chart) (run : Bool) (top : ℕ) (rows : List Row) (i : ℕ) (out whole : List ℕ) → length rows ≤ i → out ++ plot_rows c run top (drop i rows) ≡ whole → out ≡ whole
rows_done c run top rows i out whole past before =
    sym (append-nil out) ∙ ap (λ l. out ++ l) (sym (rows_none c run top)) ∙ ap (λ rs. out ++ plot_rows c run top rs) (sym (drop_of_length-le rows {i = i} past)) ∙ before

-- three pieces, the last by a call that may fail
pub three : (r : Result (Unit {0}) Memory) (old a b d one two all : List ℕ) → one ≡ old ++ a → two ≡ one ++ b → OnOk r (all ≡ two ++ d) → OnOk r (all ≡ old ++ (a ++ (b ++ d)))
three (Ok x) old a b d one two all e f g = g ∙ ap (λ l. l ++ d) (f ∙ ap (λ l. l ++ b) e ∙ append_assoc old a b) ∙ append_assoc old (a ++ b) d ∙ ap (λ l. old ++ l) (append_assoc a b d)
three (Err x) old a b d one two all e f g = tt

-- two pieces, and four
pub two : (r : Result (Unit {0}) Memory) (old a b one all : List ℕ) → one ≡ old ++ a → OnOk r (all ≡ one ++ b) → OnOk r (all ≡ old ++ (a ++ b))
two (Ok x) old a b one all e f = f ∙ ap (λ l. l ++ b) e ∙ append_assoc old a b
two (Err x) old a b one all e f = tt

pub four : (r : Result (Unit {0}) Memory) (old a b d e one two three all : List ℕ) → one ≡ old ++ a → two ≡ one ++ b → three ≡ two ++ d → OnOk r (all ≡ three ++ e) → OnOk r (all ≡ old ++ (a ++ (b ++ (d ++ e))))
four (Ok x) old a b d e one two three all p q s t =
    t ∙ ap (λ l. l ++ e) (s ∙ ap (λ l. l ++ d) q ∙ append_assoc one b d) ∙ append_assoc one (b ++ d) e ∙ ap (λ l. one ++ l) (append_assoc b d e)
    ∙ ap (λ l. l ++ (b ++ (d ++ e))) p ∙ append_assoc old a (b ++ (d ++ e))
four (Err x) old a b d e one two three all p q s t = tt

-- the last piece by another name
pub renamed : (r : Result (Unit {0}) Memory) (one b d all : List ℕ) → b ≡ d → OnOk r (all ≡ one ++ b) → OnOk r (all ≡ one ++ d)
renamed (Ok x) one b d all e f = f ∙ ap (λ l. one ++ l) e
renamed (Err x) one b d all e f = tt
