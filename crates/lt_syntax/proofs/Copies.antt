-- A copy of a term has its shape.
use Rattle.std.proofs.Common.{◌≡◌, ℕ, Bool, List, Result, IfOk, Box, Global, sym, ap, ◌∙◌, subst}
use Rattle.lt_base.specs.declared.memory.Memory.{Memory}
use Rattle.lt_base.specs.declared.operators.Bin.{Bin}
use Rattle.lt_base.specs.declared.operators.Un.{Un}
use Rattle.lt_base.specs.declared.value.Value.{Value}
use Rattle.lt_syntax.specs.declared.term.Term.{Term}
use Rattle.lt_syntax.specs.declared.term.Term.TheVariants as term
use Rattle.lt_syntax.specs.declared.term.Term.TheFolds.{fold-roll-Term}
use Rattle.lt_syntax.specs.Tree as tree
use Rattle.lt_syntax.specs.Tree.{Tm}
use Rattle.lt_syntax.specs.Views.{tm_of, tm_step}

abbrev Boxed : Type 0
Boxed = Box Term Global

pub var_shape : (x : List ℕ) → tm_of (term.Var x) ≡ tree.Var x
var_shape x = ap tm_of (sym (term.rolls-Var x)) ∙ fold-roll-Term Tm tm_step _

pub unary_shape : (o : Un) (a : Boxed) → tm_of (term.Un o a) ≡ tree.Unary o (tm_of a.value)
unary_shape o a = ap tm_of (sym (term.rolls-Un o a)) ∙ fold-roll-Term Tm tm_step _

pub binary_shape : (o : Bin) (a b : Boxed) → tm_of (term.Bin o a b) ≡ tree.Binary o (tm_of a.value) (tm_of b.value)
binary_shape o a b = ap tm_of (sym (term.rolls-Bin o a b)) ∙ fold-roll-Term Tm tm_step _

pub choice_shape : (c a b : Boxed) → tm_of (term.If c a b) ≡ tree.Choice (tm_of c.value) (tm_of a.value) (tm_of b.value)
choice_shape c a b = ap tm_of (sym (term.rolls-If c a b)) ∙ fold-roll-Term Tm tm_step _

pub sampled_shape : (a : Boxed) (c : List ℕ) (polarity : Bool) → tm_of (term.When a c polarity) ≡ tree.Sampled (tm_of a.value) c polarity
sampled_shape a c polarity = ap tm_of (sym (term.rolls-When a c polarity)) ∙ fold-roll-Term Tm tm_step _

pub merged_shape : (c : List ℕ) (a b : Boxed) → tm_of (term.Merge c a b) ≡ tree.Merged c (tm_of a.value) (tm_of b.value)
merged_shape c a b = ap tm_of (sym (term.rolls-Merge c a b)) ∙ fold-roll-Term Tm tm_step _

pub delayed_shape : (v : Value) (a : Boxed) → tm_of (term.Fby v a) ≡ tree.Delayed v (tm_of a.value)
delayed_shape v a = ap tm_of (sym (term.rolls-Fby v a)) ∙ fold-roll-Term Tm tm_step _

pub followed_shape : (a b : Boxed) → tm_of (term.Follow a b) ≡ tree.Followed (tm_of a.value) (tm_of b.value)
followed_shape a b = ap tm_of (sym (term.rolls-Follow a b)) ∙ fold-roll-Term Tm tm_step _

pub arrow_shape : (a b : Boxed) → tm_of (term.Arrow a b) ≡ tree.Arrow (tm_of a.value) (tm_of b.value)
arrow_shape a b = ap tm_of (sym (term.rolls-Arrow a b)) ∙ fold-roll-Term Tm tm_step _

-- a copy of a term of this shape
pub copied : (r : Result Term Memory) (t s : Term) (x : Tm) → t ≡ s → tm_of s ≡ x → IfOk r (λ copy. tm_of copy ≡ x) → IfOk r (λ copy. tm_of copy ≡ tm_of t)
copied r t s x e shape h = subst (λ z. IfOk r (λ copy. tm_of copy ≡ z)) (sym (ap tm_of e ∙ shape)) h
