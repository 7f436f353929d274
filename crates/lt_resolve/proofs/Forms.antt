-- The shapes of terms by their forms.
use Rattle.std.proofs.Common.{◌≡◌, Box, Global, sym, ap, ◌∙◌}
use Rattle.lt_base.specs.declared.operators.Bin.{Bin as BinaryOperator}
use Rattle.lt_base.specs.declared.value.Value.{Value}
use Rattle.lt_syntax.specs.declared.term.Term.{Term}
use Rattle.lt_syntax.specs.declared.term.Term.TheVariants.{Bin, If, Fby, Follow, Arrow, rolls-Bin, rolls-If, rolls-Fby, rolls-Follow, rolls-Arrow}
use Rattle.lt_syntax.specs.declared.term.Term.TheFolds.{fold-roll-Term}
use Rattle.lt_syntax.specs.Tree as tree
use Rattle.lt_syntax.specs.Tree.{Tm}
use Rattle.lt_syntax.specs.Views.{tm_of, tm_step}

abbrev Boxed : Type 0
Boxed = Box Term Global

pub bin_is : (t : Term) (o : BinaryOperator) (a : Boxed) (b : Boxed) (a' : Term) (b' : Term) → t ≡ Bin o a b → a' ≡ a.value → b' ≡ b.value → tree.Binary o (tm_of a') (tm_of b') ≡ tm_of t
bin_is t o a b a' b' e pa pb = (λ i. tree.Binary o (tm_of (pa i)) (tm_of (pb i))) ∙ sym (ap tm_of (e ∙ sym (rolls-Bin o a b)) ∙ fold-roll-Term Tm tm_step _)

pub if_is : (t : Term) (c : Boxed) (a : Boxed) (b : Boxed) (c' : Term) (a' : Term) (b' : Term) → t ≡ If c a b → c' ≡ c.value → a' ≡ a.value → b' ≡ b.value → tree.Choice (tm_of c') (tm_of a') (tm_of b') ≡ tm_of t
if_is t c a b c' a' b' e pc pa pb = (λ i. tree.Choice (tm_of (pc i)) (tm_of (pa i)) (tm_of (pb i))) ∙ sym (ap tm_of (e ∙ sym (rolls-If c a b)) ∙ fold-roll-Term Tm tm_step _)

pub fby_is : (t : Term) (v : Value) (a : Boxed) (a' : Term) → t ≡ Fby v a → a' ≡ a.value → tree.Delayed v (tm_of a') ≡ tm_of t
fby_is t v a a' e pa = (λ i. tree.Delayed v (tm_of (pa i))) ∙ sym (ap tm_of (e ∙ sym (rolls-Fby v a)) ∙ fold-roll-Term Tm tm_step _)

pub follow_is : (t : Term) (a : Boxed) (b : Boxed) (a' : Term) (b' : Term) → t ≡ Follow a b → a' ≡ a.value → b' ≡ b.value → tree.Followed (tm_of a') (tm_of b') ≡ tm_of t
follow_is t a b a' b' e pa pb = (λ i. tree.Followed (tm_of (pa i)) (tm_of (pb i))) ∙ sym (ap tm_of (e ∙ sym (rolls-Follow a b)) ∙ fold-roll-Term Tm tm_step _)

pub arrow_is : (t : Term) (a : Boxed) (b : Boxed) (a' : Term) (b' : Term) → t ≡ Arrow a b → a' ≡ a.value → b' ≡ b.value → tree.Arrow (tm_of a') (tm_of b') ≡ tm_of t
arrow_is t a b a' b' e pa pb = (λ i. tree.Arrow (tm_of (pa i)) (tm_of (pb i))) ∙ sym (ap tm_of (e ∙ sym (rolls-Arrow a b)) ∙ fold-roll-Term Tm tm_step _)
