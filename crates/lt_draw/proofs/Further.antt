-- Entries of a legend and lines of a text, which go on by one.
use Rattle.std.proofs.Common.{◌≡◌, ℕ, zero, suc, ◌+◌, ◌-◌, ◌<◌, ◌≤◌, ◌≢◌, inl, inr, min, max, List, [], ◌++◌, length, take, drop, get_or, refl, sym, ap, ◌∙◌, arith, append_assoc, append-nil, add-one}
use Rattle.std.proofs.lemmas.List.{drop_all}
use Rattle.std.proofs.lemmas.Bool.Decides.{eqb_tells}
use Rattle.lt_draw.specs.declared.legend.Entry.{Entry}
use Rattle.lt_draw.specs.Legend.{drawn_entry, entries_from}
use Rattle.lt_draw.specs.Heading.{drawn_line, lines_below}
use Rattle.lt_diagram.proofs.Pieces.{rest_there}
use Rattle.lt_diagram.proofs.Going.{left_less}

-- the entries of a legend, with one more
pub entries_on : (columns top : ℕ) (es : List Entry) (i : ℕ) (d : Entry) (m n o : List ℕ) → i < length es → m ++ entries_from columns top i (drop i es) ≡ o → n ≡ m ++ drawn_entry columns top i (get_or es i d)
    → n ++ entries_from columns top (i + 1) (drop (i + 1) es) ≡ o
entries_on columns top es i d m n o h p q =
    let rest = drop (i + 1) es in
    let x = get_or es i d in
    ap (λ z. z ++ entries_from columns top (i + 1) rest) q ∙ append_assoc m (drawn_entry columns top i x) (entries_from columns top (i + 1) rest)
    ∙ ap (λ z. m ++ (drawn_entry columns top i x ++ entries_from columns top z rest)) (add-one i)
    ∙ ap (λ z. m ++ entries_from columns top i z) (sym (rest_there es i d h)) ∙ p

pub entries_end : (columns top : ℕ) (es : List Entry) (i : ℕ) (m o : List ℕ) → length es ≤ i → m ++ entries_from columns top i (drop i es) ≡ o → m ≡ o
entries_end columns top es i m o h p = sym (ap (λ z. m ++ entries_from columns top i z) (drop_all i es h) ∙ append-nil m) ∙ p

-- the lines of a text, with one more
pub no_lines : (n per y : ℕ) (class text : List ℕ) → length text ≡ 0 → lines_below n per y class text ≡ []
no_lines zero per y class text e = refl
no_lines (suc n) per y class text e = rw e

some_line : (n per y : ℕ) (class text : List ℕ) → length text ≢ 0
    → lines_below (suc n) per y class text ≡ drawn_line y class (take (min (max per 1) (length text)) text) ++ lines_below n per (y + 16) class (drop (min (max per 1) (length text)) text)
some_line n per y class text h = elim (eqb_tells (length text) 0) [ inl e ↦ absurd (h e.1) | inr e ↦ rw e.0 ]

pub lines_on : (k per y cut : ℕ) (class text front behind m n o : List ℕ) → k < 40 → length text ≢ 0 → cut ≡ min (max per 1) (length text)
    → front ≡ take cut text → behind ≡ drop cut text
    → m ++ lines_below (40 - k) per y class text ≡ o → n ≡ m ++ drawn_line y class front
    → n ++ lines_below (40 - (k + 1)) per (y + 16) class behind ≡ o
lines_on k per y cut class text front behind m n o h some e f b p q =
    let w = min (max per 1) (length text) in
    let below = lines_below (40 - (k + 1)) per (y + 16) class in
    ap (λ z. z ++ below behind) q
    ∙ (λ j. (m ++ drawn_line y class (f j)) ++ below (b j))
    ∙ (λ j. (m ++ drawn_line y class (take (e j) text)) ++ below (drop (e j) text))
    ∙ append_assoc m (drawn_line y class (take w text)) (below (drop w text))
    ∙ ap (λ z. m ++ z) (sym (some_line (40 - (k + 1)) per y class text some))
    ∙ ap (λ z. m ++ lines_below z per y class text) (sym (left_less k 40 h)) ∙ p

pub lines_end : (k per y : ℕ) (class text m o : List ℕ) → 40 ≤ k → m ++ lines_below (40 - k) per y class text ≡ o → m ≡ o
lines_end k per y class text m o h p =
    let none : 40 - k ≡ 0 = omega arith in
    sym (ap (λ z. m ++ lines_below z per y class text) none ∙ append-nil m) ∙ p
