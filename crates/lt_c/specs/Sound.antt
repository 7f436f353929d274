-- What C says of an emitted expression where some of it may be undefined, and that nothing is.
use Rattle.std.specs.Prelude.{◌≡◌, ℕ, ◌<◌, ◌^◌, not, Option, Some, None, ℤ, if◌then◌else◌}
use Rattle.std.specs.Option.{option_and_then}
use Rattle.std.specs.Int.RustNames.{FitsSigned}
use mir.Syntax.{w64}
use Rattle.lt_c.specs.Tree.{CVariable, Helper, Tree, c_integer, c_truth, c_var, c_negate, c_call, c_not, c_join, c_choice, Statement, assign, only, branch, both, nothing, perform, noted}
use Rattle.lt_c.specs.Meaning.{Store, c_truth_of, of_truth, operator_value, value, store_left}
use Rattle.lt_c.specs.Head.{Number, signed, unsigned, aid_neg, aid_value, helper_value}

-- a number of the type int64_t
abbrev pub int_in : Option Number → Option ℤ
int_in None = None
int_in (Some (signed z)) = Some z
int_in (Some (unsigned n)) = None

-- a call of a function at the head, by its body, whose loop ends within so many turns
abbrev pub sound_call : (turns : ℕ) → Helper → ℤ → ℤ → Option ℤ
sound_call turns h a b = int_in (helper_value turns h (Some (signed a)) (Some (signed b)))

abbrev pub negated : ℤ → Option ℤ
negated z = int_in (aid_value aid_neg (Some (signed z)))

abbrev pub with_two : (ℤ → ℤ → Option ℤ) → Option ℤ → Option ℤ → Option ℤ
with_two f None o = None
with_two f (Some a) None = None
with_two f (Some a) (Some b) = f a b

abbrev pub if_true : Option ℤ → Option ℤ → Option ℤ → Option ℤ
if_true None a b = None
if_true (Some z) a b = if c_truth_of z then a else b

-- the value, where nothing on the way is undefined and each loop ends within so many turns
abbrev pub sound_value : (turns : ℕ) → Store → Tree → Option ℤ
sound_value turns m (c_integer z) = Some z
sound_value turns m (c_truth b) = Some (of_truth b)
sound_value turns m (c_var p) = Some (m p)
sound_value turns m (c_negate a) = option_and_then negated (sound_value turns m a)
sound_value turns m (c_call h a b) = with_two (sound_call turns h) (sound_value turns m a) (sound_value turns m b)
sound_value turns m (c_not a) = option_and_then (λ z. Some (of_truth (not (c_truth_of z)))) (sound_value turns m a)
sound_value turns m (c_join o a b) = with_two (λ x y. Some (operator_value o x y)) (sound_value turns m a) (sound_value turns m b)
sound_value turns m (c_choice c a b) = if_true (sound_value turns m c) (sound_value turns m a) (sound_value turns m b)

-- every variable has a number of 64 bits
abbrev pub Small : Store → Type 0
Small m = (p : CVariable) → FitsSigned w64 (m p)

-- so has every literal
abbrev pub SmallTree : Tree → Type 0
SmallTree (c_integer z) = FitsSigned w64 z
SmallTree (c_truth b) = Unit {0}
SmallTree (c_var p) = Unit {0}
SmallTree (c_negate a) = SmallTree a
SmallTree (c_call h a b) = SmallTree a × SmallTree b
SmallTree (c_not a) = SmallTree a
SmallTree (c_join o a b) = SmallTree a × SmallTree b
SmallTree (c_choice c a b) = SmallTree c × SmallTree a × SmallTree b

-- so has every literal in a statement
abbrev pub SmallStatement : Statement → Type 0
SmallStatement (assign p e) = SmallTree e
SmallStatement (only ck s) = SmallStatement s
SmallStatement (branch e s t) = SmallTree e × SmallStatement s × SmallStatement t
SmallStatement (both s t) = SmallStatement s × SmallStatement t
SmallStatement nothing = Unit {0}
SmallStatement (perform s) = SmallStatement s
SmallStatement (noted t s) = SmallStatement s

-- on numbers of 64 bits nothing in an expression is undefined, and its value has 64 bits; and so all variables keep 64 bits
pub record NothingUndefined : Type 0 where
  pub expressions : (turns : ℕ) → 2 ^ 63 < turns → (m : Store) → Small m → (e : Tree) → SmallTree e → (sound_value turns m e ≡ Some (value m e)) × FitsSigned w64 (value m e)
  pub statements : (s : Statement) → SmallStatement s → (m : Store) → Small m → Small (store_left s m)
