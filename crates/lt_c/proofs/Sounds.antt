-- Nothing in an emitted expression is undefined.
use Rattle.std.proofs.Common.{◌≡◌, ℕ, zero, suc, ◌^◌, ◌<◌, ◌≤◌, Bool, true, false, Option, Some, refl, ap, ◌∙◌, arith, ℤ, pos, negsuc, FitsSigned, w64}
use Rattle.std.specs.Prelude.{not, int_rem, int_div, int_le, if◌then◌else◌}
use Rattle.std.specs.Option.{option_and_then}
use Rattle.std.specs.Int.RustNames.{unsigned_abs}
use Rattle.std.proofs.lemmas.Int.{ints, SFits-int_wrap, fits_signed_from_abs, rem_below}
use Rattle.lt_base.specs.Operators.{int_eq, wrap}
use Rattle.lt_c.specs.Tree.{CVariable, Helper, h_add, h_sub, h_mul, h_div, h_mod, h_min, h_max, h_gcd, Operator, o_eq, o_ne, o_lt, o_le, o_gt, o_ge, o_and, o_or, Tree, c_integer, c_truth, c_var, c_negate, c_call, c_not, c_join, c_choice, Statement, assign, only, branch, both, nothing, perform, noted, same}
use Rattle.lt_c.specs.Meaning.{Store, c_truth_of, of_truth, helper, operator_value, value, holds, stored, store_left}
use Rattle.lt_c.specs.Sound.{int_in, sound_call, negated, with_two, if_true, sound_value, Small, SmallTree, SmallStatement, NothingUndefined}
use Rattle.lt_c.proofs.Heads.{head_is_sound}

truth_small : (b : Bool) → FitsSigned w64 (of_truth b)
truth_small true = omega (arith, ints)
truth_small false = omega (arith, ints)

operator_small : (o : Operator) (a b : ℤ) → FitsSigned w64 (operator_value o a b)
operator_small o_eq a b = truth_small _
operator_small o_ne a b = truth_small _
operator_small o_lt a b = truth_small _
operator_small o_le a b = truth_small _
operator_small o_gt a b = truth_small _
operator_small o_ge a b = truth_small _
operator_small o_and a b = truth_small _
operator_small o_or a b = truth_small _

either_small : (t : Bool) (a b : ℤ) → FitsSigned w64 a → FitsSigned w64 b → FitsSigned w64 (if t then a else b)
either_small true a b f g = f
either_small false a b f g = g

-- a divisor that is not 0
abs_some : (b : ℤ) → int_eq b (pos 0) ≡ false → 0 < unsigned_abs b
abs_some (pos zero) e = absurd (cc)
abs_some (pos (suc n)) e = omega arith
abs_some (negsuc n) e = omega arith

abs_most : (b : ℤ) → FitsSigned w64 b → unsigned_abs b ≤ 2 ^ 63
abs_most (pos n) f = omega (arith, ints, f)
abs_most (negsuc n) f = omega (arith, ints, f)

rest_small : (a b : ℤ) → FitsSigned w64 a → FitsSigned w64 b → (t : Bool) → int_eq b (pos 0) ≡ t → FitsSigned w64 (if t then a else int_rem a b)
rest_small a b f g true e = f
rest_small a b f g false e =
    let r = rem_below a b (abs_some b e) in
    let m = abs_most b g in
    fits_signed_from_abs w64 (int_rem a b) (omega (arith, r, m))

helper_small : (h : Helper) (a b : ℤ) → FitsSigned w64 a → FitsSigned w64 b → FitsSigned w64 (helper h a b)
helper_small h_add a b f g = SFits-int_wrap w64 _
helper_small h_sub a b f g = SFits-int_wrap w64 _
helper_small h_mul a b f g = SFits-int_wrap w64 _
helper_small h_div a b f g = either_small (int_eq b (pos 0)) (pos 0) (wrap (int_div a b)) (truth_small false) (SFits-int_wrap w64 _)
helper_small h_mod a b f g = rest_small a b f g (int_eq b (pos 0)) refl
helper_small h_min a b f g = either_small (int_le a b) a b f g
helper_small h_max a b f g = either_small (int_le a b) b a g f
helper_small h_gcd a b f g = SFits-int_wrap w64 _

called_is : (turns : ℕ) → 2 ^ 63 < turns → (h : Helper) (a b : ℤ) → FitsSigned w64 a → FitsSigned w64 b → sound_call turns h a b ≡ Some (helper h a b)
called_is turns t h a b f g = ap int_in (head_is_sound.helps turns t h a b f g)

choice_is : (z : ℤ) (o p : Option ℤ) (a b : ℤ) → o ≡ Some a → p ≡ Some b → (t : Bool) → (if t then o else p) ≡ Some (if t then a else b)
choice_is z o p a b q r true = q
choice_is z o p a b q r false = r

module _ (turns : ℕ) (t : 2 ^ 63 < turns) (m : Store) (s : Small m) where
  both_of : (e : Tree) → SmallTree e → (sound_value turns m e ≡ Some (value m e)) × FitsSigned w64 (value m e)
  both_of (c_integer z) l = (refl, l)
  both_of (c_truth b) l = (refl, truth_small b)
  both_of (c_var p) l = (refl, s p)
  both_of (c_negate a) l =
      let r = both_of a l in
      (ap (option_and_then negated) r.0 ∙ ap int_in (head_is_sound.negates (value m a) r.1), SFits-int_wrap w64 _)
  both_of (c_call h a b) l =
      let p = both_of a l.0 in
      let q = both_of b l.1 in
      ((λ i. with_two (sound_call turns h) (p.0 i) (q.0 i)) ∙ called_is turns t h (value m a) (value m b) p.1 q.1, helper_small h (value m a) (value m b) p.1 q.1)
  both_of (c_not a) l = (ap (option_and_then (λ z. Some (of_truth (not (c_truth_of z))))) (both_of a l).0, truth_small _)
  both_of (c_join o a b) l =
      let p = both_of a l.0 in
      let q = both_of b l.1 in
      ((λ i. with_two (λ x y. Some (operator_value o x y)) (p.0 i) (q.0 i)), operator_small o (value m a) (value m b))
  both_of (c_choice c a b) l =
      let r = both_of c l.0 in
      let p = both_of a l.1 in
      let q = both_of b l.2 in
      (ap (λ o. if_true o (sound_value turns m a) (sound_value turns m b)) r.0 ∙ choice_is (value m c) (sound_value turns m a) (sound_value turns m b) (value m a) (value m b) p.0 q.0 (c_truth_of (value m c)), either_small (c_truth_of (value m c)) (value m a) (value m b) p.1 q.1)

stored_small : (m : Store) → Small m → (p : CVariable) (z : ℤ) → FitsSigned w64 z → Small (stored m p z)
stored_small m s p z f q = either_small (same q p) z (m q) f (s q)

one_of : (t : Bool) (m n : Store) → Small m → Small n → Small (if t then m else n)
one_of true m n f g = f
one_of false m n f g = g

stays_small : (t : Statement) → SmallStatement t → (m : Store) → Small m → Small (store_left t m)
stays_small (assign p e) l m s = stored_small m s p (value m e) (both_of (suc (2 ^ 63)) (omega arith) m s e l).1
stays_small (only ck t) l m s = one_of (holds m ck) (store_left t m) m (stays_small t l m s) s
stays_small (branch e t u) l m s = one_of (c_truth_of (value m e)) (store_left t m) (store_left u m) (stays_small t l.1 m s) (stays_small u l.2 m s)
stays_small (both t u) l m s = stays_small u l.1 (store_left t m) (stays_small t l.0 m s)
stays_small nothing l m s = s
stays_small (perform t) l m s = stays_small t l m s
stays_small (noted n t) l m s = stays_small t l m s

pub nothing_undefined : NothingUndefined
nothing_undefined = record { expressions = both_of; statements = stays_small }
