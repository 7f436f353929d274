-- What stands at the root of an expression whose operands were reached by a borrow.
use Rattle.std.proofs.Common.{◌≡◌, ℕ, Box, Global, Result, Ok, Err, OnOk, sym, ap, ◌∙◌}
use Rattle.lt_base.specs.declared.operators.Bin.{Bin}
use Rattle.lt_base.specs.declared.operators.Imp.{Imp}
use Rattle.lt_base.specs.declared.expression.Expr.{Expr}
use Rattle.lt_base.specs.declared.expression.Expr as tree
use Rattle.lt_base.specs.Expression.{shape, binary, imported, choose, merged, follow, arrow}

abbrev Operand : Type 0
Operand = Box Expr Global

reached : (x : Expr) (a b : Operand) → b ≡ a → x ≡ b.value → a.value ≡ x
reached x a b p q = sym (q ∙ ap (λ (z : Operand). z.value) p)

pub root_binary : (e x y : Expr) (o o' : Bin) (a a' b b' : Operand) → e ≡ tree.Bin o a b → o' ≡ o → a' ≡ a → b' ≡ b → x ≡ a'.value → y ≡ b'.value → shape e ≡ binary o' (shape x) (shape y)
root_binary e x y o o' a a' b b' is p q r j k = ap shape is ∙ (λ i. binary (sym p i) (shape (reached x a a' q j i)) (shape (reached y b b' r k i)))

pub root_imported : (e x y : Expr) (o o' : Imp) (a a' b b' : Operand) → e ≡ tree.Imported o a b → o' ≡ o → a' ≡ a → b' ≡ b → x ≡ a'.value → y ≡ b'.value → shape e ≡ imported o' (shape x) (shape y)
root_imported e x y o o' a a' b b' is p q r j k = ap shape is ∙ (λ i. imported (sym p i) (shape (reached x a a' q j i)) (shape (reached y b b' r k i)))

pub root_choose : (e w x y : Expr) (c c' a a' b b' : Operand) → e ≡ tree.If c a b → c' ≡ c → a' ≡ a → b' ≡ b → w ≡ c'.value → x ≡ a'.value → y ≡ b'.value → shape e ≡ choose (shape w) (shape x) (shape y)
root_choose e w x y c c' a a' b b' is p q r h j k = ap shape is ∙ (λ i. choose (shape (reached w c c' p h i)) (shape (reached x a a' q j i)) (shape (reached y b b' r k i)))

pub root_merged : (e x y : Expr) (c c' : ℕ) (a a' b b' : Operand) → e ≡ tree.Merge c a b → c' ≡ c → a' ≡ a → b' ≡ b → x ≡ a'.value → y ≡ b'.value → shape e ≡ merged c' (shape x) (shape y)
root_merged e x y c c' a a' b b' is p q r j k = ap shape is ∙ (λ i. merged (sym p i) (shape (reached x a a' q j i)) (shape (reached y b b' r k i)))

pub root_follow : (e x y : Expr) (a a' b b' : Operand) → e ≡ tree.Follow a b → a' ≡ a → b' ≡ b → x ≡ a'.value → y ≡ b'.value → shape e ≡ follow (shape x) (shape y)
root_follow e x y a a' b b' is q r j k = ap shape is ∙ (λ i. follow (shape (reached x a a' q j i)) (shape (reached y b b' r k i)))

pub root_arrow : (e x y : Expr) (a a' b b' : Operand) → e ≡ tree.Arrow a b → a' ≡ a → b' ≡ b → x ≡ a'.value → y ≡ b'.value → shape e ≡ arrow (shape x) (shape y)
root_arrow e x y a a' b b' is q r j k = ap shape is ∙ (λ i. arrow (shape (reached x a a' q j i)) (shape (reached y b b' r k i)))

-- ---- where a call ends well

pub on_ok : {A E : Type 0} (r : Result A E) (P Q : Type 0) → (P → Q) → OnOk r P → OnOk r Q
on_ok (Ok a) P Q f h = f h
on_ok (Err e) P Q f h = h
