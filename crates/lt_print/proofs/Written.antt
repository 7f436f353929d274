-- The canonical form stands where it is asked, means its term, and is the lowest.
use Rattle.std.proofs.Common.{◌≡◌, ℕ, suc, ◌+◌, ◌≤◌, max, Bool, true, false, List, [], ◌∷◌, Some, None, nat_le, pos, negsuc, if◌then◌else◌, refl, ap, ap₂, ◌∙◌, arith, le-leb, leb-true}
use Rattle.lt_base.specs.declared.operators.Un.TheVariants.{Neg, Not}
use Rattle.lt_base.specs.declared.value.Value.{Value}
use Rattle.lt_base.specs.declared.value.Value.TheVariants.{Int, Bool as Truth}
use Rattle.lt_tokens.specs.declared.token.Infix.{Infix}
use Rattle.lt_tokens.specs.declared.token.Infix.TheVariants.{Operator, Fby, Arrow}
use Rattle.lt_tokens.specs.declared.token.Token.TheVariants as token
use Rattle.lt_tokens.specs.Words.{word_of}
use Rattle.lt_tokens.specs.Text.{greatest_number, is_letter, is_word}
use Rattle.lt_syntax.specs.Tree as tree
use Rattle.lt_syntax.specs.Tree.{Tm, Tms}
use Rattle.lt_syntax.specs.Levels.{infix_line, level, left_level, right_level}
use Rattle.lt_syntax.specs.Grammar.{Form, Forms, number, truth, name, paren, minus, negated, binary, choice, sampled, merged, call, nil, cons, IsAt, AreExprs, literal, joined, left_height, height, heights, meaning, meanings}
use Rattle.lt_print.specs.Canonical.{parenthesized, value_form, guarded_literal, led, level_of, bare, all_bare, placed}
use Rattle.lt_syntax.proofs.Complete.{height_pos, table}
use Rattle.lt_syntax.proofs.Zipper.{at_lower}

-- each byte passes
abbrev pub AllPass : (ℕ → Bool) → List ℕ → Type 0
AllPass p [] = Unit {0}
AllPass p (b ∷ w) = (p b ≡ true) × AllPass p w

-- a name that is read as one
abbrev pub IsIdent : List ℕ → Type 0
IsIdent [] = ⊥
IsIdent (b ∷ w) = (is_letter b ≡ true) × AllPass is_word w × (word_of (b ∷ w) ≡ token.Ident (b ∷ w))

abbrev pub GoodValue : Value → Type 0
GoodValue (Int (pos n)) = n ≤ greatest_number
GoodValue (Int (negsuc n)) = suc n ≤ greatest_number
GoodValue (Truth b) = Unit {0}

abbrev pub GoodLit : Value → Type 0
GoodLit (Int (pos n)) = n ≤ greatest_number
GoodLit (Int (negsuc n)) = ⊥
GoodLit (Truth b) = Unit {0}

-- the term can be written
abbrev mutual
  pub Good : Tm → Type 0
  Good (tree.Lit v) = GoodLit v
  Good (tree.Var x) = IsIdent x
  Good (tree.Unary o a) = Good a
  Good (tree.Binary o a b) = Good a × Good b
  Good (tree.Choice c a b) = Good c × Good a × Good b
  Good (tree.Sampled a c b) = Good a × IsIdent c
  Good (tree.Merged c a b) = IsIdent c × Good a × Good b
  Good (tree.Delayed v b) = GoodValue v × Good b
  Good (tree.Followed a b) = Good a × Good b
  Good (tree.Arrow (tree.Lit v) b) = GoodValue v × Good b
  Good (tree.Arrow a b) = Good a × Good b
  Good (tree.Call f xs) = IsIdent f × AllGood xs

  pub AllGood : Tms → Type 0
  AllGood tree.Nil = Unit {0}
  AllGood (tree.Cons a xs) = Good a × AllGood xs

pub value_literal : (v : Value) → literal (value_form v) ≡ Some v
value_literal (Int (pos n)) = refl
value_literal (Int (negsuc n)) = refl
value_literal (Truth b) = refl

pub value_at : (v : Value) → IsAt 2 (value_form v)
value_at (Int (pos n)) = omega arith
value_at (Int (negsuc n)) = (omega arith, omega arith)
value_at (Truth b) = omega arith

lit_at : (v : Value) → GoodLit v → IsAt 12 (value_form v)
lit_at (Int (pos n)) g = omega arith
lit_at (Int (negsuc n)) g = absurd g
lit_at (Truth b) g = omega arith

lit_meaning : (v : Value) → GoodLit v → meaning (value_form v) ≡ tree.Lit v
lit_meaning (Int (pos n)) g = refl
lit_meaning (Int (negsuc n)) g = absurd g
lit_meaning (Truth b) g = refl

within_at : (l own : ℕ) (a : Form) → l ≤ 12 → 1 ≤ own → IsAt own a → IsAt l (parenthesized l own a)
within_at l own a hi low at = elim (nat_le l own) as (λ t. nat_le l own ≡ t → IsAt l (if t then a else paren a)) [ true ↦ λ is. at_lower a l own (leb-true l own is) at | false ↦ λ is. (hi, at_lower a 1 own low at) ] refl

within_meaning : (l own : ℕ) (a : Form) → meaning (parenthesized l own a) ≡ meaning a
within_meaning l own a = elim (nat_le l own) as (λ t. meaning (if t then a else paren a) ≡ meaning a) [ true ↦ refl | false ↦ refl ]

within_height : (l own : ℕ) (a : Form) → height (parenthesized l own a) ≤ height a + 1
within_height l own a = elim (nat_le l own) as (λ t. height (if t then a else paren a) ≤ height a + 1) [ true ↦ omega arith | false ↦ omega arith ]

within_same : (l own : ℕ) (a : Form) → l ≤ own → parenthesized l own a ≡ a
within_same l own a h = ap (λ t. if t then a else paren a) (le-leb l own h)

within_none : (l own : ℕ) (a : Form) → literal a ≡ None → literal (parenthesized l own a) ≡ None
within_none l own a e = elim (nat_le l own) as (λ t. literal (if t then a else paren a) ≡ None) [ true ↦ e | false ↦ refl ]

led_at : (a : Form) → IsAt 2 a → IsAt 2 (led a)
led_at a at = elim (literal a) as (λ v. IsAt 2 (guarded_literal v a)) [ Some v ↦ (omega arith, at_lower a 1 2 (omega arith) at) | None ↦ at ]

led_none : (a : Form) → literal (led a) ≡ None
led_none a = elim (literal a) as (λ v. literal a ≡ v → literal (guarded_literal v a) ≡ None) [ Some v ↦ λ e. refl | None ↦ λ e. e ] refl

led_meaning : (a : Form) → meaning (led a) ≡ meaning a
led_meaning a = elim (literal a) as (λ v. meaning (guarded_literal v a) ≡ meaning a) [ Some v ↦ refl | None ↦ refl ]

led_height : (a : Form) → height (led a) ≤ height a + 1
led_height a = elim (literal a) as (λ v. height (guarded_literal v a) ≤ height a + 1) [ Some v ↦ omega arith | None ↦ omega arith ]

led_same : (a : Form) → literal a ≡ None → led a ≡ a
led_same a e = ap (λ v. guarded_literal v a) e

level_pos : (t : Tm) → 1 ≤ level_of t
level_pos (tree.Unary Neg a) = omega arith
level_pos (tree.Unary Not a) = omega arith
level_pos (tree.Binary o a b) = (table (infix_line (Operator o))).low
level_pos _ = omega arith

mutual
  pub bare_at : (t : Tm) → Good t → IsAt (level_of t) (bare t)
  bare_at (tree.Lit v) g = lit_at v g
  bare_at (tree.Var x) g = omega arith
  bare_at (tree.Unary Neg a) g = (omega arith, within_at 11 (level_of a) (bare a) (omega arith) (level_pos a) (bare_at a g))
  bare_at (tree.Unary Not a) g = (omega arith, within_at 5 (level_of a) (bare a) (omega arith) (level_pos a) (bare_at a g))
  bare_at (tree.Binary o a b) g =
      let k = table (infix_line (Operator o)) in
      let e : level (infix_line (Operator o)) ≤ level (infix_line (Operator o)) = omega arith in
      (e, within_at (left_level (infix_line (Operator o))) (level_of a) (bare a) (omega (arith, k.left_high)) (level_pos a) (bare_at a g.0), within_at (right_level (infix_line (Operator o))) (level_of b) (bare b) (omega (arith, k.right_high)) (level_pos b) (bare_at b g.1))
  bare_at (tree.Choice c a b) g = (omega arith, within_at 1 (level_of c) (bare c) (omega arith) (level_pos c) (bare_at c g.0), within_at 1 (level_of a) (bare a) (omega arith) (level_pos a) (bare_at a g.1), within_at 1 (level_of b) (bare b) (omega arith) (level_pos b) (bare_at b g.2))
  bare_at (tree.Sampled a c b) g = (omega arith, within_at 9 (level_of a) (bare a) (omega arith) (level_pos a) (bare_at a g.0))
  bare_at (tree.Merged c a b) g = (omega arith, within_at 12 (level_of a) (bare a) (omega arith) (level_pos a) (bare_at a g.1), within_at 12 (level_of b) (bare b) (omega arith) (level_pos b) (bare_at b g.2))
  bare_at (tree.Delayed v b) g = (omega arith, value_at v, within_at 1 (level_of b) (bare b) (omega arith) (level_pos b) (bare_at b g.1))
  bare_at (tree.Followed a b) g = (omega arith, led_at (placed 2 a) (within_at 2 (level_of a) (bare a) (omega arith) (level_pos a) (bare_at a g.0)), within_at 1 (level_of b) (bare b) (omega arith) (level_pos b) (bare_at b g.1))
  bare_at (tree.Arrow (tree.Lit v) b) g = (omega arith, value_at v, within_at 1 (level_of b) (bare b) (omega arith) (level_pos b) (bare_at b g.1))
  bare_at (tree.Arrow a b) g = (omega arith, led_at (placed 2 a) (within_at 2 (level_of a) (bare a) (omega arith) (level_pos a) (bare_at a g.0)), within_at 1 (level_of b) (bare b) (omega arith) (level_pos b) (bare_at b g.1))
  bare_at (tree.Call f xs) g = (omega arith, all_bare_at xs g.1)

  all_bare_at : (xs : Tms) → AllGood xs → AreExprs (all_bare xs)
  all_bare_at tree.Nil g = tt
  all_bare_at (tree.Cons a xs) g = (within_at 1 (level_of a) (bare a) (omega arith) (level_pos a) (bare_at a g.0), all_bare_at xs g.1)

pub placed_at : (l : ℕ) (t : Tm) → l ≤ 12 → Good t → IsAt l (placed l t)
placed_at l t h g = within_at l (level_of t) (bare t) h (level_pos t) (bare_at t g)

-- the left side of `fby` or `->`
value_means : (o : Infix) (v : Value) (g : Form) → meaning (binary o (value_form v) g) ≡ joined o (Some v) (meaning (value_form v)) (meaning g)
value_means o v g = ap (λ w. joined o w (meaning (value_form v)) (meaning g)) (value_literal v)

led_means : (o : Infix) (f g : Form) → meaning (binary o (led f) g) ≡ joined o None (meaning f) (meaning g)
led_means o f g = ap₂ (λ w a. joined o w a (meaning g)) (led_none f) (led_meaning f)

mutual
  pub bare_meaning : (t : Tm) → Good t → meaning (bare t) ≡ t
  bare_meaning (tree.Lit v) g = lit_meaning v g
  bare_meaning (tree.Var x) g = refl
  bare_meaning (tree.Unary Neg a) g = ap (tree.Unary Neg) (within_meaning 11 (level_of a) (bare a) ∙ bare_meaning a g)
  bare_meaning (tree.Unary Not a) g = ap (tree.Unary Not) (within_meaning 5 (level_of a) (bare a) ∙ bare_meaning a g)
  bare_meaning (tree.Binary o a b) g = ap₂ (tree.Binary o) (within_meaning (left_level (infix_line (Operator o))) (level_of a) (bare a) ∙ bare_meaning a g.0) (within_meaning (right_level (infix_line (Operator o))) (level_of b) (bare b) ∙ bare_meaning b g.1)
  bare_meaning (tree.Choice c a b) g = ap (λ z. tree.Choice z (meaning (placed 1 a)) (meaning (placed 1 b))) (within_meaning 1 (level_of c) (bare c) ∙ bare_meaning c g.0) ∙ ap₂ (tree.Choice c) (within_meaning 1 (level_of a) (bare a) ∙ bare_meaning a g.1) (within_meaning 1 (level_of b) (bare b) ∙ bare_meaning b g.2)
  bare_meaning (tree.Sampled a c b) g = ap (λ z. tree.Sampled z c b) (within_meaning 9 (level_of a) (bare a) ∙ bare_meaning a g.0)
  bare_meaning (tree.Merged c a b) g = ap₂ (tree.Merged c) (within_meaning 12 (level_of a) (bare a) ∙ bare_meaning a g.1) (within_meaning 12 (level_of b) (bare b) ∙ bare_meaning b g.2)
  bare_meaning (tree.Delayed v b) g = value_means Fby v (placed 1 b) ∙ ap (tree.Delayed v) (within_meaning 1 (level_of b) (bare b) ∙ bare_meaning b g.1)
  bare_meaning (tree.Followed a b) g = led_means Fby (placed 2 a) (placed 1 b) ∙ ap₂ tree.Followed (within_meaning 2 (level_of a) (bare a) ∙ bare_meaning a g.0) (within_meaning 1 (level_of b) (bare b) ∙ bare_meaning b g.1)
  bare_meaning (tree.Arrow (tree.Lit v) b) g = value_means Arrow v (placed 1 b) ∙ ap (tree.Arrow (tree.Lit v)) (within_meaning 1 (level_of b) (bare b) ∙ bare_meaning b g.1)
  bare_meaning (tree.Arrow a b) g = led_means Arrow (placed 2 a) (placed 1 b) ∙ ap₂ tree.Arrow (within_meaning 2 (level_of a) (bare a) ∙ bare_meaning a g.0) (within_meaning 1 (level_of b) (bare b) ∙ bare_meaning b g.1)
  bare_meaning (tree.Call f xs) g = ap (tree.Call f) (all_bare_meaning xs g.1)

  all_bare_meaning : (xs : Tms) → AllGood xs → meanings (all_bare xs) ≡ xs
  all_bare_meaning tree.Nil g = refl
  all_bare_meaning (tree.Cons a xs) g = ap₂ tree.Cons (within_meaning 1 (level_of a) (bare a) ∙ bare_meaning a g.0) (all_bare_meaning xs g.1)

pub placed_means : (l : ℕ) (t : Tm) → Good t → meaning (placed l t) ≡ t
placed_means l t g = within_meaning l (level_of t) (bare t) ∙ bare_meaning t g

-- the canonical form is the lowest
pub placed_low : (l : ℕ) (t : Tm) → l ≤ level_of t → height (placed l t) ≤ height (bare t)
placed_low l t h = omega (arith, ap height (within_same l (level_of t) (bare t) h))

pub placed_more : (l : ℕ) (t : Tm) → height (placed l t) ≤ height (placed 1 t) + 1
placed_more l t = omega (arith, within_height l (level_of t) (bare t), ap height (within_same 1 (level_of t) (bare t) (level_pos t)))

-- a left side in parentheses
led_more : (t : Tm) → height (led (placed 2 t)) ≤ height (placed 1 t) + 1
led_more t =
    let one = ap height (within_same 1 (level_of t) (bare t) (level_pos t)) in
    elim (nat_le 2 (level_of t)) as (λ b. height (led (if b then bare t else paren (bare t))) ≤ height (placed 1 t) + 1) [
      | true ↦ omega (arith, one, led_height (bare t))
      | false ↦ omega (arith, one)
    ]

led_open : (t : Tm) (n : ℕ) → literal (bare t) ≡ None → height (placed 2 t) ≤ n → height (led (placed 2 t)) ≤ n
led_open t n e h = omega (arith, ap height (led_same (placed 2 t) (within_none 2 (level_of t) (bare t) e)), h)

abbrev pub Low : Form → Type 0
Low a = (l : ℕ) → IsAt l a → height (placed l (meaning a)) ≤ height a

-- and so are the forms in its parentheses and behind its -
abbrev pub Deep : Form → Type 0
Deep (paren a) = Low (paren a) × Deep a
Deep (minus a) = Low (minus a) × Deep a
Deep a = Low a

low_of : (a : Form) → Deep a → Low a
low_of (paren a) d = d.0
low_of (minus a) d = d.0
low_of (number n) d = d
low_of (truth b) d = d
low_of (name x) d = d
low_of (negated a) d = d
low_of (binary o a b) d = d
low_of (choice c a b) d = d
low_of (sampled a c b) d = d
low_of (merged c a b) d = d
low_of (call f xs) d = d

-- only a number behind - is in parentheses as a left side
minus_led : (y : Form) → height (led (minus y)) ≤ max 3 (height y + 1)
minus_led (number n) = omega arith
minus_led _ = omega arith

minus_low : (a : Form) → IsAt 11 a → literal (minus a) ≡ None → Deep a → height (led (placed 2 (tree.Unary Neg (meaning a)))) ≤ height a + 1
minus_low (number n) at e d = cc
minus_low (truth b) at e d = omega arith
minus_low (name x) at e d = omega arith
minus_low (paren a) at e d = omega (arith, minus_led (placed 11 (meaning a)), d.0 11 at, height_pos a)
minus_low (minus a) at e d = absurd (omega (arith, at.0))
minus_low (negated a) at e d = absurd (omega (arith, at.0))
minus_low (binary o a b) at e d = absurd (omega (arith, at.0, (table (infix_line o)).high))
minus_low (choice c a b) at e d = absurd (omega (arith, at.0))
minus_low (sampled a c b) at e d = absurd (omega (arith, at.0))
minus_low (merged c a b) at e d = omega (arith, d 11 at)
minus_low (call f xs) at e d = omega (arith, d 11 at)

-- a left side that is no literal
left_low : (a : Form) → IsAt 2 a → literal a ≡ None → Deep a → height (led (placed 2 (meaning a))) ≤ height a
left_low (number n) at e d = cc
left_low (truth b) at e d = cc
left_low (name x) at e d = omega arith
left_low (paren a) at e d = omega (arith, led_more (meaning a), low_of a d.1 1 at.1)
left_low (minus a) at e d = minus_low a at.1 e d.1
left_low (negated a) at e d = omega (arith, d 2 at)
left_low (binary (Operator o) a b) at e d = led_open (meaning (binary (Operator o) a b)) (height (binary (Operator o) a b)) refl (d 2 at)
left_low (binary Fby a b) at e d = absurd (omega (arith, at.0))
left_low (binary Arrow a b) at e d = absurd (omega (arith, at.0))
left_low (choice c a b) at e d = absurd (omega (arith, at.0))
left_low (sampled a c b) at e d = led_open (meaning (sampled a c b)) (height (sampled a c b)) refl (d 2 at)
left_low (merged c a b) at e d = led_open (meaning (merged c a b)) (height (merged c a b)) refl (d 2 at)
left_low (call f xs) at e d = led_open (meaning (call f xs)) (height (call f xs)) refl (d 2 at)

-- `fby` and `->` behind a literal
value_height : (o : Infix) (v : Value) (g : Form) (n : ℕ) → left_height o (Some v) (height (value_form v)) ≡ 1 → height g ≤ n → height (binary o (value_form v) g) ≤ max 1 n + 1
value_height o v g n e h =
    let k : left_height o (literal (value_form v)) (height (value_form v)) ≡ 1 = ap (λ w. left_height o w (height (value_form v))) (value_literal v) ∙ e in
    omega (arith, k, h)

open_height : (o : Infix) (f g : Form) (m n : ℕ) → left_height o None (height (led f)) ≡ height (led f) → height (led f) ≤ m → height g ≤ n → height (binary o (led f) g) ≤ max m n + 1
open_height o f g m n e h k =
    let j : left_height o (literal (led f)) (height (led f)) ≡ height (led f) = ap (λ w. left_height o w (height (led f))) (led_none f) ∙ e in
    omega (arith, j, h, k)

one_low : (t : Tm) → height (placed 1 t) ≤ height (bare t)
one_low t = placed_low 1 t (level_pos t)

-- a form of the lowest level
expr_low : (l : ℕ) (t : Tm) (n : ℕ) → l ≤ level_of t → height (bare t) ≤ n → height (placed l t) ≤ n
expr_low l t n h k = omega (arith, placed_low l t h, k)

arrow_low : (l : ℕ) (t u : Tm) (m n : ℕ) → l ≤ 1 → 1 ≤ m → height (led (placed 2 t)) ≤ m → height (placed 1 u) ≤ n → height (placed l (tree.Arrow t u)) ≤ max m n + 1
arrow_low l (tree.Lit v) u m n h p k j = omega (arith, expr_low l (tree.Arrow (tree.Lit v) u) (max 1 n + 1) h (value_height Arrow v (placed 1 u) n refl j), p)
arrow_low l t u m n h p k j = expr_low l (tree.Arrow t u) (max m n + 1) h (open_height Arrow (placed 2 t) (placed 1 u) m n refl k j)

binary_low : (o : Infix) (a b : Form) → Deep a → Deep b → Low (binary o a b)
binary_low (Operator o) a b da db l at =
    let k = infix_line (Operator o) in
    expr_low l (tree.Binary o (meaning a) (meaning b)) (height (binary (Operator o) a b)) at.0 (omega (arith, low_of a da (left_level k) at.1, low_of b db (right_level k) at.2))
binary_low Fby a b da db l at =
    let hb = low_of b db 1 at.2 in
    elim (literal a) as (λ v. literal a ≡ v → height (placed l (joined Fby v (meaning a) (meaning b))) ≤ max (left_height Fby v (height a)) (height b) + 1) [
      | Some v ↦ λ e. expr_low l (tree.Delayed v (meaning b)) (max 1 (height b) + 1) at.0 (value_height Fby v (placed 1 (meaning b)) (height b) refl hb)
      | None ↦ λ e. expr_low l (tree.Followed (meaning a) (meaning b)) (max (height a) (height b) + 1) at.0 (open_height Fby (placed 2 (meaning a)) (placed 1 (meaning b)) (height a) (height b) refl (left_low a at.1 e da) hb)
    ] refl
binary_low Arrow a b da db l at =
    let hb = low_of b db 1 at.2 in
    elim (literal a) as (λ v. literal a ≡ v → height (placed l (joined Arrow v (meaning a) (meaning b))) ≤ max (left_height Arrow v (height a)) (height b) + 1) [
      | Some v ↦ λ e. expr_low l (tree.Arrow (tree.Lit v) (meaning b)) (max 1 (height b) + 1) at.0 (value_height Arrow v (placed 1 (meaning b)) (height b) refl hb)
      | None ↦ λ e. arrow_low l (meaning a) (meaning b) (height a) (height b) at.0 (height_pos a) (left_low a at.1 e da) hb
    ] refl

call_low : (f : List ℕ) (xs : Forms) → (AreExprs xs → heights (all_bare (meanings xs)) ≤ heights xs) → Low (call f xs)
call_low f xs k l at = let h = k at.1 in expr_low l (tree.Call f (meanings xs)) (height (call f xs)) at.0 (omega (arith, h))

paren_low : (a : Form) → Deep a → Low (paren a)
paren_low a d l at = omega (arith, placed_more l (meaning a), low_of a d 1 at.1)

minus_is_low : (a : Form) → Deep a → Low (minus a)
minus_is_low a d l at = expr_low l (tree.Unary Neg (meaning a)) (height a + 1) at.0 (omega (arith, low_of a d 11 at.1))

number_low : (n : ℕ) → Low (number n)
number_low n l at = expr_low l (tree.Lit (Int (pos n))) 1 at (omega arith)

truth_low : (b : Bool) → Low (truth b)
truth_low b l at = expr_low l (tree.Lit (Truth b)) 1 at (omega arith)

name_low : (x : List ℕ) → Low (name x)
name_low x l at = expr_low l (tree.Var x) 1 at (omega arith)

negated_low : (a : Form) → Deep a → Low (negated a)
negated_low a d l at = expr_low l (tree.Unary Not (meaning a)) (height a + 1) at.0 (omega (arith, low_of a d 5 at.1))

choice_low : (c a b : Form) → Deep c → Deep a → Deep b → Low (choice c a b)
choice_low c a b dc da db l at = expr_low l (tree.Choice (meaning c) (meaning a) (meaning b)) (height (choice c a b)) at.0 (omega (arith, low_of c dc 1 at.1, low_of a da 1 at.2, low_of b db 1 at.3))

sampled_low : (a : Form) (c : List ℕ) (b : Bool) → Deep a → Low (sampled a c b)
sampled_low a c b d l at = expr_low l (tree.Sampled (meaning a) c b) (height a + 1) at.0 (omega (arith, low_of a d 9 at.1))

merged_low : (c : List ℕ) (a b : Form) → Deep a → Deep b → Low (merged c a b)
merged_low c a b da db l at = expr_low l (tree.Merged c (meaning a) (meaning b)) (height (merged c a b)) at.0 (omega (arith, low_of a da 12 at.1, low_of b db 12 at.2))

mutual
  -- no form of the term is lower
  pub deep : (a : Form) → Deep a
  deep (number n) = number_low n
  deep (truth b) = truth_low b
  deep (name x) = name_low x
  deep (paren a) = (paren_low a (deep a), deep a)
  deep (minus a) = (minus_is_low a (deep a), deep a)
  deep (negated a) = negated_low a (deep a)
  deep (binary o a b) = binary_low o a b (deep a) (deep b)
  deep (choice c a b) = choice_low c a b (deep c) (deep a) (deep b)
  deep (sampled a c b) = sampled_low a c b (deep a)
  deep (merged c a b) = merged_low c a b (deep a) (deep b)
  deep (call f xs) = call_low f xs (all_low xs)

  all_low : (xs : Forms) → AreExprs xs → heights (all_bare (meanings xs)) ≤ heights xs
  all_low nil at = omega arith
  all_low (cons a xs) at = omega (arith, low_of a (deep a) 1 at.0, all_low xs at.1)

pub lowest : (a : Form) → Low a
lowest a = low_of a (deep a)
