-- What the printer writes, piece by piece.
use Rattle.std.proofs.Common.{◌≡◌, ℤ, pos, negsuc, ℕ, zero, suc, ◌+◌, ◌<◌, Bool, List, [], ◌∷◌, ◌++◌, length, map, take, get_or, codes, nat_lt, if◌then◌else◌, Result, Ok, Err, OnOk, refl, sym, ap, ◌∙◌, subst, arith, append_assoc, append-nil, add-one, take-suc, lt-ltb}
use Rattle.std.specs.Fmt.{signed_decimal}
use Rattle.lt_base.specs.declared.memory.Memory.{Memory}
use Rattle.lt_base.specs.declared.value.Value.TheVariants.{Int}
use Rattle.lt_syntax.specs.declared.term.Term.{Term}
use Rattle.lt_syntax.specs.declared.tree.DeclText.{DeclText}
use Rattle.lt_syntax.specs.declared.tree.NodeText.{NodeText}
use Rattle.lt_syntax.specs.Tree as tree
use Rattle.lt_syntax.specs.Tree.{Tm, tms}
use Rattle.lt_print.specs.Canonical.{value_form, led, arrow_left, bare, all_bare, placed, when_text, text, texts, clocks_text, decl_text, decls_text, local_lines, equation_lines, node_layout, canonical}
use Rattle.lt_print.specs.Printed.{is_literal, head_text, body_text, local_line, equation_line}
use Rattle.lt_syntax.specs.Views.{tm_of}

-- a number as its form is written
pub signed_form : (n : ℤ) → signed_decimal n ≡ text (value_form (Int n))
signed_form (pos n) = refl
signed_form (negsuc n) = refl

-- the left side of an arrow
pub arrow_cases : (t : Tm) → arrow_left t (placed 2 t) ≡ (if is_literal t then bare t else led (placed 2 t))
arrow_cases (tree.Lit v) = refl
arrow_cases _ = refl

-- one more item in the text
pub next : {A : Type 0} → (f : List A → List ℕ) (piece : A → List ℕ) → ((xs : List A) (x : A) → f (xs ++ x ∷ []) ≡ f xs ++ piece x) → (old m n : List ℕ) (xs : List A) (i : ℕ) (x : A) → i < length xs → x ≡ get_or xs i x → m ≡ old ++ f (take i xs) → n ≡ m ++ piece x → n ≡ old ++ f (take (i + 1) xs)
next f piece snoc old m n xs i x h is p q =
    let t : take i xs ++ x ∷ [] ≡ take (i + 1) xs = ap (λ z. take i xs ++ z ∷ []) is ∙ sym (take-suc xs i x h) ∙ ap (λ k. take k xs) (sym (add-one i)) in
    q ∙ ap (λ z. z ++ piece x) p ∙ append_assoc old (f (take i xs)) (piece x) ∙ ap (λ z. old ++ z) (sym (snoc (take i xs) x) ∙ ap f t)

-- the same with a separator
pub next_apart : {A : Type 0} → (f : List A → List ℕ) (piece : A → List ℕ) (s : List ℕ) → f [] ≡ [] → ((x : A) → f (x ∷ []) ≡ piece x) → ((y : A) (ys : List A) (x : A) → f (y ∷ (ys ++ x ∷ [])) ≡ f (y ∷ ys) ++ (s ++ piece x)) → (old m k n : List ℕ) (xs : List A) (i : ℕ) (x : A) → i < length xs → x ≡ get_or xs i x → m ≡ old ++ f (take i xs) → k ≡ m ++ (if nat_lt 0 i then s else []) → n ≡ k ++ piece x → n ≡ old ++ f (take (i + 1) xs)
next_apart {A} f piece s none one more old m k n xs i x h is p q r =
    let t : take i xs ++ x ∷ [] ≡ take (i + 1) xs = ap (λ z. take i xs ++ z ∷ []) is ∙ sym (take-suc xs i x h) ∙ ap (λ k. take k xs) (sym (add-one i)) in
    let b = if nat_lt 0 i then s else [] in
    r ∙ ap (λ z. z ++ piece x) (q ∙ ap (λ z. z ++ b) p ∙ append_assoc old (f (take i xs)) b)
    ∙ append_assoc old (f (take i xs) ++ b) (piece x)
    ∙ ap (λ z. old ++ z) (append_assoc (f (take i xs)) b (piece x) ∙ sym (apart i xs h) ∙ ap f t)
  where
    apart : (i : ℕ) (xs : List A) → i < length xs → f (take i xs ++ x ∷ []) ≡ f (take i xs) ++ ((if nat_lt 0 i then s else []) ++ piece x)
    apart zero xs h = one x ∙ ap (λ z. z ++ piece x) (sym none)
    apart (suc j) [] h = absurd (omega (arith, h))
    apart (suc j) (y ∷ ys) h = more y (take j ys) x ∙ ap (λ b. f (y ∷ take j ys) ++ ((if b then s else []) ++ piece x)) (sym (lt-ltb 0 (suc j) (omega arith)))

pub clocks_snoc : (cs : List (List ℕ × Bool)) (c : List ℕ × Bool) → clocks_text (cs ++ c ∷ []) ≡ clocks_text cs ++ when_text c.0 c.1
clocks_snoc [] c = append-nil (when_text c.0 c.1)
clocks_snoc (d ∷ cs) c = ap (λ z. when_text d.0 d.1 ++ z) (clocks_snoc cs c) ∙ sym (append_assoc (when_text d.0 d.1) (clocks_text cs) (when_text c.0 c.1))

pub lines_snoc : (ds : List DeclText) (d : DeclText) → local_lines (ds ++ d ∷ []) ≡ local_lines ds ++ local_line d
lines_snoc [] d = ap (λ z. codes "  " ++ (decl_text d ++ z)) refl
lines_snoc (e ∷ ds) d =
    let u = codes ";\n" in
    ap (λ z. codes "  " ++ (decl_text e ++ (u ++ z))) (lines_snoc ds d)
    ∙ ap (λ z. codes "  " ++ z) (sym (append_assoc (decl_text e) (u ++ local_lines ds) (local_line d)))

pub equations_snoc : (es : List (List ℕ × Tm)) (e : List ℕ × Tm) → equation_lines (es ++ e ∷ []) ≡ equation_lines es ++ equation_line e
equations_snoc [] e = refl
equations_snoc (d ∷ es) e =
    let t = text (placed 1 d.1) in
    let u = codes ";\n" in
    ap (λ z. codes "  " ++ (d.0 ++ (codes " = " ++ (t ++ (u ++ z))))) (equations_snoc es e)
    ∙ ap (λ z. codes "  " ++ (d.0 ++ (codes " = " ++ z))) (sym (append_assoc t (u ++ equation_lines es) (equation_line e)))
    ∙ ap (λ z. codes "  " ++ z) (sym (append_assoc d.0 (codes " = " ++ (t ++ (u ++ equation_lines es))) (equation_line e)))

pub canonical_snoc : (ns : List NodeText) (n : NodeText) → canonical (ns ++ n ∷ []) ≡ canonical ns ++ node_layout n
canonical_snoc [] n = append-nil (node_layout n)
canonical_snoc (m ∷ ns) n = ap (λ z. node_layout m ++ z) (canonical_snoc ns n) ∙ sym (append_assoc (node_layout m) (canonical ns) (node_layout n))

pub decls_more : (y : DeclText) (ys : List DeclText) (x : DeclText) → decls_text (y ∷ (ys ++ x ∷ [])) ≡ decls_text (y ∷ ys) ++ (codes "; " ++ decl_text x)
decls_more y [] x = refl
decls_more y (z ∷ ys) x =
    ap (λ w. decl_text y ++ (codes "; " ++ w)) (decls_more z ys x)
    ∙ sym (append_assoc (decl_text y) (codes "; " ++ decls_text (z ∷ ys)) (codes "; " ++ decl_text x))

abbrev pub printed_arguments : List Term → List ℕ
printed_arguments xs = texts (all_bare (tms (map tm_of xs)))

abbrev pub printed_argument : Term → List ℕ
printed_argument x = text (placed 1 (tm_of x))

pub arguments_more : (y : Term) (ys : List Term) (x : Term) → printed_arguments (y ∷ (ys ++ x ∷ [])) ≡ printed_arguments (y ∷ ys) ++ (codes ", " ++ printed_argument x)
arguments_more y [] x = refl
arguments_more y (z ∷ ys) x =
    ap (λ w. printed_argument y ++ (codes ", " ++ w)) (arguments_more z ys x)
    ∙ sym (append_assoc (printed_argument y) (codes ", " ++ printed_arguments (z ∷ ys)) (codes ", " ++ printed_argument x))

-- a node in its pieces
pub node_pieces : (n : NodeText) (o h x d y e : List ℕ) → h ≡ o ++ head_text n → x ≡ h ++ codes ") returns (" → d ≡ x ++ decls_text n.outs → y ≡ d ++ codes ")\n" → e ≡ y ++ body_text n → e ≡ o ++ node_layout n
node_pieces n o h x d y e p q r s t =
    let k = body_text n in
    let w = codes ")\n" ++ k in
    let v = decls_text n.outs ++ w in
    let u = codes ") returns (" ++ v in
    let a : e ≡ d ++ w = t ∙ ap (λ z. z ++ k) s ∙ append_assoc d (codes ")\n") k in
    let b : e ≡ x ++ v = a ∙ ap (λ z. z ++ w) r ∙ append_assoc x (decls_text n.outs) w in
    let c : e ≡ h ++ u = b ∙ ap (λ z. z ++ v) q ∙ append_assoc h (codes ") returns (") v in
    c ∙ ap (λ z. z ++ u) p ∙ append_assoc o (head_text n) u
    ∙ ap (λ z. o ++ (codes "node " ++ z)) (append_assoc n.name (codes "(" ++ decls_text n.ins) u)

-- a piece, and then the rest
pub and_then : (r : Result (Unit {0}) Memory) (o m n p q : List ℕ) → m ≡ o ++ p → OnOk r (n ≡ m ++ q) → OnOk r (n ≡ o ++ (p ++ q))
and_then (Ok x) o m n p q e h = h ∙ ap (λ z. z ++ q) e ∙ append_assoc o p q
and_then (Err x) o m n p q e h = tt

-- a piece with what stands before it
pub behind : (r : Result (Unit {0}) Memory) (m n l q : List ℕ) → OnOk r (n ≡ (m ++ l) ++ q) → OnOk r (n ≡ m ++ (l ++ q))
behind (Ok x) m n l q h = h ∙ append_assoc m l q
behind (Err x) m n l q h = tt

-- a term in two pieces, and in three
pub in_two : (r : Result (Unit {0}) Memory) (t u : Tm) (o a n p q : List ℕ) → t ≡ u → text (bare u) ≡ p ++ q → a ≡ o ++ p → OnOk r (n ≡ a ++ q) → OnOk r (n ≡ o ++ text (bare t))
in_two r t u o a n p q e w f h = subst (λ z. OnOk r (n ≡ o ++ z)) (sym (ap (λ t. text (bare t)) e ∙ w)) (and_then r o a n p q f h)

pub in_three : (r : Result (Unit {0}) Memory) (t u : Tm) (o a b n p q s : List ℕ) → t ≡ u → text (bare u) ≡ p ++ (q ++ s) → a ≡ o ++ p → b ≡ a ++ q → OnOk r (n ≡ b ++ s) → OnOk r (n ≡ o ++ text (bare t))
in_three r t u o a b n p q s e w f g h = in_two r t u o a n p (q ++ s) e w f (and_then r a b n q s g h)
