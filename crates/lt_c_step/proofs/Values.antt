-- The values of emitted expressions.
use Rattle.std.proofs.Common.{◌≡◌, Bool, true, false, List, ◌∷◌, Option, Some, None, refl, ap, ◌∙◌, ℤ}
use Rattle.std.specs.Prelude.{not, ◌&&◌, ◌||◌, neg_ℤ, if◌then◌else◌}
use Rattle.std.specs.Option.{option_and_then}
use Rattle.lt_base.specs.declared.value.Value.{Value}
use Rattle.lt_base.specs.declared.value.Value.TheVariants.{Int, Bool as Truth}
use Rattle.lt_base.specs.declared.operators.Un.{Un}
use Rattle.lt_base.specs.declared.operators.Un.TheVariants.{Neg, Not}
use Rattle.lt_base.specs.declared.operators.Bin.{Bin}
use Rattle.lt_base.specs.declared.operators.Bin.TheVariants.{Add, Sub, Mul, Div, Mod, Eq, Ne, Lt, Le, Gt, Ge, And, Or, Xor, Implies}
use Rattle.lt_base.specs.declared.operators.Imp.{Imp}
use Rattle.lt_base.specs.declared.operators.Imp.TheVariants.{Min, Max, Gcd}
use Rattle.lt_base.specs.Expression.{Expression, literal, variable, unary, binary, imported, choose, sampled, merged, delayed, follow, arrow, call}
use Rattle.lt_base.specs.Operators.{wrap, op1, op2, ints, truths, imp, imp_value, int_eq, bool_eq}
use Rattle.lt_base.specs.Meaning.{ClockPairs, Environment, Callee, outer, both, pick, value_of}
use Rattle.lt_norm.specs.Flat.{Direct}
use Rattle.lt_c.specs.Tree.{h_add, h_sub, h_mul, h_div, h_mod, o_eq, o_ne, o_lt, o_le, o_gt, o_ge, o_and, o_or, Tree, slot, c_var, c_choice, c_call}
use Rattle.lt_c.specs.Meaning.{Store, c_truth_of, of_truth, value, helper, operator_value}
use Rattle.lt_c_step.specs.Translate.{of_unary, of_binary, of_imported, of_expression}
use Rattle.lt_c.specs.Literals.{of_value, c_number}
use Rattle.lt_c.proofs.Stores.{truth_back}
use Rattle.lt_c_step.specs.Laws.{Matches}

-- a value behind Some
abbrev the : Value → Option Value → Value
the d None = d
the d (Some v) = v

inner : (v w : Value) → Some v ≡ Some w → v ≡ w
inner v w h = ap (the v) h

-- ---- truth values as numbers

same_truths : (a b : Bool) → int_eq (of_truth a) (of_truth b) ≡ bool_eq a b
same_truths true true = refl
same_truths true false = refl
same_truths false true = refl
same_truths false false = refl

-- ---- operators on values

-- what an operator gives in C
abbrev join : Bin → ℤ → ℤ → ℤ
join Add a b = helper h_add a b
join Sub a b = helper h_sub a b
join Mul a b = helper h_mul a b
join Div a b = helper h_div a b
join Mod a b = helper h_mod a b
join Eq a b = operator_value o_eq a b
join Ne a b = operator_value o_ne a b
join Lt a b = operator_value o_lt a b
join Le a b = operator_value o_le a b
join Gt a b = operator_value o_gt a b
join Ge a b = operator_value o_ge a b
join And a b = operator_value o_and a b
join Or a b = operator_value o_or a b
join Xor a b = operator_value o_ne a b
join Implies a b = operator_value o_or (of_truth (not (c_truth_of a))) b

joined : (m : Store) (o : Bin) (a b : Tree) → value m (of_binary o a b) ≡ join o (value m a) (value m b)
joined m Add a b = refl
joined m Sub a b = refl
joined m Mul a b = refl
joined m Div a b = refl
joined m Mod a b = refl
joined m Eq a b = refl
joined m Ne a b = refl
joined m Lt a b = refl
joined m Le a b = refl
joined m Gt a b = refl
joined m Ge a b = refl
joined m And a b = refl
joined m Or a b = refl
joined m Xor a b = refl
joined m Implies a b = refl

ints_agree : (o : Bin) (a b : ℤ) (v : Value) → ints o a b ≡ Some v → join o a b ≡ c_number v
ints_agree Add a b v h = ap c_number (inner _ v h)
ints_agree Sub a b v h = ap c_number (inner _ v h)
ints_agree Mul a b v h = ap c_number (inner _ v h)
ints_agree Div a b v h = ap c_number (inner _ v h)
ints_agree Mod a b v h = ap c_number (inner _ v h)
ints_agree Eq a b v h = ap c_number (inner _ v h)
ints_agree Ne a b v h = ap c_number (inner _ v h)
ints_agree Lt a b v h = ap c_number (inner _ v h)
ints_agree Le a b v h = ap c_number (inner _ v h)
ints_agree Gt a b v h = ap c_number (inner _ v h)
ints_agree Ge a b v h = ap c_number (inner _ v h)
ints_agree And a b v h = absurd (cc)
ints_agree Or a b v h = absurd (cc)
ints_agree Xor a b v h = absurd (cc)
ints_agree Implies a b v h = absurd (cc)

truths_agree : (o : Bin) (a b : Bool) (v : Value) → truths o a b ≡ Some v → join o (of_truth a) (of_truth b) ≡ c_number v
truths_agree Add a b v h = absurd (cc)
truths_agree Sub a b v h = absurd (cc)
truths_agree Mul a b v h = absurd (cc)
truths_agree Div a b v h = absurd (cc)
truths_agree Mod a b v h = absurd (cc)
truths_agree Eq a b v h = ap of_truth (same_truths a b) ∙ ap c_number (inner _ v h)
truths_agree Ne a b v h = ap (λ c. of_truth (not c)) (same_truths a b) ∙ ap c_number (inner _ v h)
truths_agree Lt a b v h = absurd (cc)
truths_agree Le a b v h = absurd (cc)
truths_agree Gt a b v h = absurd (cc)
truths_agree Ge a b v h = absurd (cc)
truths_agree And a b v h = (λ i. of_truth (truth_back a i && truth_back b i)) ∙ ap c_number (inner _ v h)
truths_agree Or a b v h = (λ i. of_truth (truth_back a i || truth_back b i)) ∙ ap c_number (inner _ v h)
truths_agree Xor a b v h = ap (λ c. of_truth (not c)) (same_truths a b) ∙ ap c_number (inner _ v h)
truths_agree Implies a b v h = (λ i. of_truth (c_truth_of (of_truth (not (truth_back a i))) || truth_back b i)) ∙ ap (λ c. of_truth (c || b)) (truth_back (not a)) ∙ ap c_number (inner _ v h)

op2_agrees : (o : Bin) (u w v : Value) → op2 o u w ≡ Some v → join o (c_number u) (c_number w) ≡ c_number v
op2_agrees o (Int a) (Int b) v h = ints_agree o a b v h
op2_agrees o (Truth a) (Truth b) v h = truths_agree o a b v h
op2_agrees o (Int a) (Truth b) v h = absurd (cc)
op2_agrees o (Truth a) (Int b) v h = absurd (cc)

op1_agrees : (m : Store) (o : Un) (a : Tree) (u v : Value) → value m a ≡ c_number u → op1 o u ≡ Some v → value m (of_unary o a) ≡ c_number v
op1_agrees m Neg a (Int z) v p h = ap (λ x. wrap (neg_ℤ x)) p ∙ ap c_number (inner _ v h)
op1_agrees m Neg a (Truth b) v p h = absurd (cc)
op1_agrees m Not a (Int z) v p h = absurd (cc)
op1_agrees m Not a (Truth b) v p h = ap (λ x. of_truth (not (c_truth_of x))) p ∙ ap (λ c. of_truth (not c)) (truth_back b) ∙ ap c_number (inner _ v h)

imported_same : (o : Imp) (a b : ℤ) → helper (of_imported o) a b ≡ imp o a b
imported_same Min a b = refl
imported_same Max a b = refl
imported_same Gcd a b = refl

imp_agrees : (o : Imp) (u w v : Value) → imp_value o u w ≡ Some v → helper (of_imported o) (c_number u) (c_number w) ≡ c_number v
imp_agrees o (Int a) (Int b) v h = imported_same o a b ∙ ap c_number (inner _ v h)
imp_agrees o (Int a) (Truth b) v h = absurd (cc)
imp_agrees o (Truth a) (Int b) v h = absurd (cc)
imp_agrees o (Truth a) (Truth b) v h = absurd (cc)

-- ---- an operand's value

-- a value, where there is one, is the tree's
abbrev pub Agrees : Store → Option Value → Tree → Type 0
Agrees m o e = (v : Value) → o ≡ Some v → value m e ≡ c_number v

unary_agrees : (m : Store) (o : Un) (a : Tree) (p : Option Value) → Agrees m p a → Agrees m (option_and_then (op1 o) p) (of_unary o a)
unary_agrees m o a None f v h = absurd (cc)
unary_agrees m o a (Some u) f v h = op1_agrees m o a u v (f u refl) h

binary_agrees : (m : Store) (o : Bin) (a b : Tree) (p q : Option Value) → Agrees m p a → Agrees m q b → Agrees m (both (op2 o) p q) (of_binary o a b)
binary_agrees m o a b None q f g v h = absurd (cc)
binary_agrees m o a b (Some u) None f g v h = absurd (cc)
binary_agrees m o a b (Some u) (Some w) f g v h = joined m o a b ∙ (λ i. join o (f u refl i) (g w refl i)) ∙ op2_agrees o u w v h

imported_agrees : (m : Store) (o : Imp) (a b : Tree) (p q : Option Value) → Agrees m p a → Agrees m q b → Agrees m (both (imp_value o) p q) (c_call (of_imported o) a b)
imported_agrees m o a b None q f g v h = absurd (cc)
imported_agrees m o a b (Some u) None f g v h = absurd (cc)
imported_agrees m o a b (Some u) (Some w) f g v h = (λ i. helper (of_imported o) (f u refl i) (g w refl i)) ∙ imp_agrees o u w v h

choice_agrees : (m : Store) (c a b : Tree) (o p q : Option Value) → Agrees m o c → Agrees m p a → Agrees m q b → Agrees m (pick o p q) (c_choice c a b)
choice_agrees m c a b None p q e f g v h = absurd (cc)
choice_agrees m c a b (Some (Int n)) p q e f g v h = absurd (cc)
choice_agrees m c a b (Some (Truth true)) p q e f g v h = ap (λ z. if c_truth_of z then value m a else value m b) (e (Truth true) refl) ∙ f v h
choice_agrees m c a b (Some (Truth false)) p q e f g v h = ap (λ z. if c_truth_of z then value m a else value m b) (e (Truth false) refl) ∙ g v h

literal_agrees : (m : Store) (u : Value) → Agrees m (Some u) (of_value u)
literal_agrees m (Int z) v h = ap c_number (inner _ v h)
literal_agrees m (Truth b) v h = ap c_number (inner _ v h)

pub value_agrees : (C : Callee) (env : Environment) (m : Store) → Matches env m → (e : Expression) → Direct e → (ck : ClockPairs) (past : List Environment) → Agrees m (value_of C e ck past env) (of_expression e)
value_agrees C env m k (literal v) d ck past = literal_agrees m v
value_agrees C env m k (variable x) d ck past = k x
value_agrees C env m k (unary o a) d ck past = unary_agrees m o (of_expression a) (value_of C a ck past env) (value_agrees C env m k a d ck past)
value_agrees C env m k (binary o a b) d ck past = binary_agrees m o (of_expression a) (of_expression b) (value_of C a ck past env) (value_of C b ck past env) (value_agrees C env m k a d.0 ck past) (value_agrees C env m k b d.1 ck past)
value_agrees C env m k (imported o a b) d ck past = imported_agrees m o (of_expression a) (of_expression b) (value_of C a ck past env) (value_of C b ck past env) (value_agrees C env m k a d.0 ck past) (value_agrees C env m k b d.1 ck past)
value_agrees C env m k (choose c a b) d ck past = choice_agrees m (of_expression c) (of_expression a) (of_expression b) (value_of C c ck past env) (value_of C a ck past env) (value_of C b ck past env) (value_agrees C env m k c d.0 ck past) (value_agrees C env m k a d.1 ck past) (value_agrees C env m k b d.2 ck past)
value_agrees C env m k (sampled e c b) d ck past = value_agrees C env m k e d (outer ck) past
value_agrees C env m k (merged c a b) d ck past = choice_agrees m (c_var (slot c)) (of_expression a) (of_expression b) (env c) (value_of C a ((c, true) ∷ ck) past env) (value_of C b ((c, false) ∷ ck) past env) (k c) (value_agrees C env m k a d.0 ((c, true) ∷ ck) past) (value_agrees C env m k b d.1 ((c, false) ∷ ck) past)
value_agrees C env m k (delayed v e) d ck past = elim d [ ]
value_agrees C env m k (follow a b) d ck past = elim d [ ]
value_agrees C env m k (arrow a b) d ck past = elim d [ ]
value_agrees C env m k (call g args) d ck past = elim d [ ]
