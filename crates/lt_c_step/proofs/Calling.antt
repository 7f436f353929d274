-- The calls of step code.
use Rattle.std.proofs.Common.{◌≡◌, ℕ, ◌+◌, ◌<◌, Bool, true, false, List, [], ◌∷◌, ◌++◌, length, take, get_or, refl, sym, ap, ◌∙◌, add-one}
use Rattle.std.specs.Prelude.{◌||◌}
use Rattle.std.proofs.Math.Seq.{take-suc}
use Rattle.lt_base.specs.declared.operators.Un.{Un}
use Rattle.lt_base.specs.declared.operators.Un.TheVariants.{Neg, Not}
use Rattle.lt_base.specs.declared.operators.Bin.{Bin}
use Rattle.lt_base.specs.declared.operators.Bin.TheVariants.{Add, Sub, Mul, Div, Mod, Eq, Ne, Lt, Le, Gt, Ge, And, Or, Xor, Implies}
use Rattle.lt_base.specs.Meaning.{ClockPairs}
use Rattle.lt_step.specs.Code.{LetForm, KeepForm}
use Rattle.lt_c.specs.declared.calls.Calls.{Calls}
use Rattle.lt_c.specs.Tree.{Tree, Statement}
use Rattle.lt_c.specs.Uses.{no_calls, calls_and, calls_of_tree, statement_calls}
use Rattle.lt_c_step.specs.Translate.{of_unary, of_binary, of_expression, under, of_let, of_keep, of_lets, of_keeps}
use Rattle.lt_c_step.specs.Written.{unary_calls, binary_calls}

or_again : (a b c : Bool) → ((a || b) || c) ≡ (a || (b || c))
or_again true b c = refl
or_again false b c = refl

or_none : (a : Bool) → (a || false) ≡ a
or_none true = refl
or_none false = refl

pub calls_again : (a b c : Calls) → calls_and (calls_and a b) c ≡ calls_and a (calls_and b c)
calls_again a b c = λ i. record {
  negate = or_again a.negate b.negate c.negate i;
  add = or_again a.add b.add c.add i;
  sub = or_again a.sub b.sub c.sub i;
  mul = or_again a.mul b.mul c.mul i;
  div = or_again a.div b.div c.div i;
  rest = or_again a.rest b.rest c.rest i;
  min = or_again a.min b.min c.min i;
  max = or_again a.max b.max c.max i;
  gcd = or_again a.gcd b.gcd c.gcd i;
}

pub calls_none : (a : Calls) → calls_and a no_calls ≡ a
calls_none a = λ i. record {
  negate = or_none a.negate i;
  add = or_none a.add i;
  sub = or_none a.sub i;
  mul = or_none a.mul i;
  div = or_none a.div i;
  rest = or_none a.rest i;
  min = or_none a.min i;
  max = or_none a.max i;
  gcd = or_none a.gcd i;
}

-- an operator adds its own calls
pub unary_calls_are : (o : Un) (a : Tree) → calls_of_tree (of_unary o a) ≡ unary_calls o (calls_of_tree a)
unary_calls_are Neg a = refl
unary_calls_are Not a = refl

pub binary_calls_are : (o : Bin) (a b : Tree) → calls_of_tree (of_binary o a b) ≡ calls_and (binary_calls o) (calls_and (calls_of_tree a) (calls_of_tree b))
binary_calls_are Add a b = refl
binary_calls_are Sub a b = refl
binary_calls_are Mul a b = refl
binary_calls_are Div a b = refl
binary_calls_are Mod a b = refl
binary_calls_are Eq a b = refl
binary_calls_are Ne a b = refl
binary_calls_are Lt a b = refl
binary_calls_are Le a b = refl
binary_calls_are Gt a b = refl
binary_calls_are Ge a b = refl
binary_calls_are And a b = refl
binary_calls_are Or a b = refl
binary_calls_are Xor a b = refl
binary_calls_are Implies a b = refl

under_calls : (ck : ClockPairs) (s : Statement) → statement_calls (under ck s) ≡ statement_calls s
under_calls [] s = refl
under_calls (p ∷ ck) s = refl

lets_snoc : (ls : List LetForm) (l : LetForm) → statement_calls (of_lets (ls ++ l ∷ [])) ≡ calls_and (statement_calls (of_lets ls)) (calls_of_tree (of_expression l.operand))
lets_snoc [] l = calls_none (statement_calls (of_let l)) ∙ under_calls l.guard _
lets_snoc (m ∷ ls) l = ap (calls_and (statement_calls (of_let m))) (lets_snoc ls l) ∙ sym (calls_again (statement_calls (of_let m)) (statement_calls (of_lets ls)) (calls_of_tree (of_expression l.operand)))

keeps_snoc : (ks : List KeepForm) (k : KeepForm) → statement_calls (of_keeps (ks ++ k ∷ [])) ≡ calls_and (statement_calls (of_keeps ks)) (calls_of_tree (of_expression k.operand))
keeps_snoc [] k = calls_none (statement_calls (of_keep k)) ∙ under_calls k.guard _
keeps_snoc (m ∷ ks) k = ap (calls_and (statement_calls (of_keep m))) (keeps_snoc ks k) ∙ sym (calls_again (statement_calls (of_keep m)) (statement_calls (of_keeps ks)) (calls_of_tree (of_expression k.operand)))

-- one more in a list
pub one_more : {A : Type 0} → (xs : List A) (i : ℕ) (x : A) → i < length xs → x ≡ get_or xs i x → take i xs ++ x ∷ [] ≡ take (i + 1) xs
one_more xs i x h is = ap (λ z. take i xs ++ z ∷ []) is ∙ sym (take-suc xs i x h) ∙ ap (λ k. take k xs) (sym (add-one i))

pub next_let : (ls : List LetForm) (i : ℕ) (l : LetForm) (c d : Calls) → i < length ls → l ≡ get_or ls i l → c ≡ statement_calls (of_lets (take i ls)) → d ≡ calls_and c (calls_of_tree (of_expression l.operand)) → d ≡ statement_calls (of_lets (take (i + 1) ls))
next_let ls i l c d h is e g = g ∙ ap (λ z. calls_and z (calls_of_tree (of_expression l.operand))) e ∙ sym (lets_snoc (take i ls) l) ∙ ap (λ z. statement_calls (of_lets z)) (one_more ls i l h is)

pub next_keep : (ks : List KeepForm) (i : ℕ) (k : KeepForm) (c d : Calls) → i < length ks → k ≡ get_or ks i k → c ≡ statement_calls (of_keeps (take i ks)) → d ≡ calls_and c (calls_of_tree (of_expression k.operand)) → d ≡ statement_calls (of_keeps (take (i + 1) ks))
next_keep ks i k c d h is e g = g ∙ ap (λ z. calls_and z (calls_of_tree (of_expression k.operand))) e ∙ sym (keeps_snoc (take i ks) k) ∙ ap (λ z. statement_calls (of_keeps z)) (one_more ks i k h is)
