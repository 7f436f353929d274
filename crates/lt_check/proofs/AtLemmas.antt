-- The arguments of a call, one after the other, and what the test of an expression at a clock tells.
use Rattle.std.proofs.Common.{◌≡◌, ℕ, zero, suc, ◌+◌, ◌-◌, ◌<◌, ◌≤◌, Bool, true, false, List, [], ◌∷◌, length, get_or, map, drop, Option, Some, None, All, Vec, Global, refl, sym, ap, ◌∙◌, subst, arith, Bor}
use Rattle.std.specs.Prelude.{◌&&◌, ◌==◌, MatchBool, is_none, nat_eq}
use Rattle.std.specs.Option.{MatchOption}
use Rattle.std.specs.Bool.{Decides}
use Rattle.std.specs.Cmp.{booleans_Decides}
use Rattle.std.proofs.Math.Bool.{beq}
use Rattle.std.proofs.lemmas.Bool.Decides.{Decides-eqb, Decides-and, Decides-like}
use Rattle.std.proofs.lemmas.List.{drop_more, drop_all}
use Rattle.lt_base.specs.declared.function.Decl.{Decl}
use Rattle.lt_base.specs.declared.expression.Expr.{Expr, Call}
use Rattle.lt_base.specs.Expression.{Expression, literal, variable, unary, binary, imported, choose, sampled, merged, delayed, follow, arrow, call, Arguments, no_arguments, argument, shape, arguments_of}
use Rattle.lt_base.specs.Operators.{bool_eq}
use Rattle.lt_base.specs.Program.{Function, GoodFunction, VarsBelow, ArgumentVarsBelow}
use Rattle.lt_base.specs.Meaning.{ClockPairs, clock_of, function_of}
use Rattle.lt_base.specs.Clocking.{WellFormed, EndsIn, FirstOnBase, AnswersOnBase, Clocked, ArgumentsClocked}
use Rattle.lt_base.proofs.Lookups.{function_all}
use Rattle.lt_base.proofs.Shape.{shape-Call}
use Rattle.lt_check.specs.Innermost.{innermost, clock_to, same_pair, first_on_base, answers_on_base, is_at, arguments_at}

pub from_decides : {P : Type 0} (r : Bool) → Decides r P → MatchBool r P (P → ⊥)
from_decides true h = h.0 refl
from_decides false h = λ p. absurd (cc (h.1 p))

pub last_there : (n : ℕ) → false ≡ (n == 0) → n ≡ n - 1 + 1
last_there zero h = absurd (cc)
last_there (suc n) h = omega arith

-- ---- the code's walk over arguments

module _ (fs : List Function) (ds : List Decl) (pair : Option (ℕ × Bool)) where
  pub call_at : (e : Expr) (g : ℕ) (args : Vec Expr Global) → e ≡ Call g args → is_at fs ds (shape e) pair ≡ (answers_on_base (function_of fs g) && arguments_at fs ds (arguments_of (map shape args.items)) pair)
  call_at e g args is = ap (λ x. is_at fs ds (shape x) pair) is ∙ ap (λ x. is_at fs ds x pair) (shape-Call g args)

  abbrev pub rest_at : List Expr → ℕ → Bool
  rest_at items i = arguments_at fs ds (arguments_of (map shape (drop i items))) pair

  at_one : (items : List Expr) (i : ℕ) (a : Expr) → i < length items → a ≡ get_or items i a → rest_at items i ≡ (is_at fs ds (shape a) pair && rest_at items (i + 1))
  at_one items i a l r = ap (λ es. arguments_at fs ds (arguments_of (map shape es)) pair) (drop_more items i a l ∙ ap (λ x. x ∷ drop (i + 1) items) (sym r))

  pub at_goes : (items : List Expr) (i : ℕ) (a : Expr) → i < length items → a ≡ get_or items i a → is_at fs ds (shape a) pair ≡ true → rest_at items i ≡ rest_at items (i + 1)
  at_goes items i a l r t = at_one items i a l r ∙ ap (λ b. b && rest_at items (i + 1)) t

  pub at_fails : (items : List Expr) (i : ℕ) (a : Expr) → i < length items → a ≡ get_or items i a → is_at fs ds (shape a) pair ≡ false → rest_at items i ≡ false
  at_fails items i a l r t = at_one items i a l r ∙ ap (λ b. b && rest_at items (i + 1)) t

  pub at_ends : (items : List Expr) (i : ℕ) → length items ≤ i → rest_at items i ≡ true
  at_ends items i l = ap (λ es. arguments_at fs ds (arguments_of (map shape es)) pair) (drop_all i items l)

pub on_base_told : (o : Option Function) (r : Option (Bor Function)) (b : Bool) → MatchOption r (o ≡ None) (λ f. o ≡ Some f.now) → MatchOption r (b ≡ answers_on_base None) (λ f. b ≡ answers_on_base (Some f.now)) → b ≡ answers_on_base o
on_base_told o None b h k = k ∙ ap answers_on_base (sym h)
on_base_told o (Some f) b h k = k ∙ ap answers_on_base (sym h)

pub and_false : (a b : Bool) → b ≡ false → (a && b) ≡ false
and_false true b h = h
and_false false b h = refl

-- a part, and where it holds the other one
pub both_hold : (p q x y : Bool) → p ≡ true → p ≡ x → q ≡ y → q ≡ (x && y)
both_hold p q x y holds e h = h ∙ ap (λ b. b && y) (sym holds ∙ e)

pub one_fails : (p x y : Bool) → p ≡ false → p ≡ x → p ≡ (x && y)
one_fails p x y fails e = fails ∙ ap (λ b. b && y) (sym fails ∙ e)

-- ---- pairs

pub steps_decide : (a b : ℕ × Bool) → Decides (nat_eq a.0 b.0 && beq a.1 b.1) (a ≡ b)
steps_decide a b = Decides-like (nat_eq a.0 b.0 && beq a.1 b.1) (λ (h : (a.0 ≡ b.0) × (a.1 ≡ b.1)). λ i. (h.0 i, h.1 i)) (λ (h : a ≡ b). (ap (λ (p : ℕ × Bool). p.0) h, ap (λ (p : ℕ × Bool). p.1) h)) (Decides-and (nat_eq a.0 b.0) (beq a.1 b.1) (Decides-eqb a.0 b.0) (booleans_Decides a.1 b.1))

bools_decide : (a b : Bool) → Decides (bool_eq a b) (a ≡ b)
bools_decide true true = (λ _. refl, λ _. refl)
bools_decide true false = (λ h. absurd (cc), λ h. absurd (cc))
bools_decide false true = (λ h. absurd (cc), λ h. absurd (cc))
bools_decide false false = (λ _. refl, λ _. refl)

pair_decides : (a b : ℕ × Bool) → Decides (nat_eq a.0 b.0 && bool_eq a.1 b.1) (a ≡ b)
pair_decides a b = Decides-like (nat_eq a.0 b.0 && bool_eq a.1 b.1) (λ (h : (a.0 ≡ b.0) × (a.1 ≡ b.1)). λ i. (h.0 i, h.1 i)) (λ (h : a ≡ b). (ap (λ (p : ℕ × Bool). p.0) h, ap (λ (p : ℕ × Bool). p.1) h)) (Decides-and (nat_eq a.0 b.0) (bool_eq a.1 b.1) (Decides-eqb a.0 b.0) (bools_decide a.1 b.1))

same_decides : (p q : Option (ℕ × Bool)) → Decides (same_pair p q) (p ≡ q)
same_decides None None = (λ _. refl, λ _. refl)
same_decides None (Some q) = (λ h. absurd (cc), λ h. absurd (cc))
same_decides (Some p) None = (λ h. absurd (cc), λ h. absurd (cc))
same_decides (Some p) (Some q) = Decides-like (nat_eq p.0 q.0 && bool_eq p.1 q.1) (λ (h : p ≡ q). ap Some h) (λ (h : Some p ≡ Some q). cc) (pair_decides p q)

-- ---- what the test of an expression tells

decides_three : {P Q R : Type 0} (a b c : Bool) → Decides a P → Decides b Q → Decides c R → Decides (a && b && c) (P × Q × R)
decides_three {P} {Q} {R} a b c p q r =
    Decides-like (a && b && c) (λ (h : (P × Q) × R). (h.0.0, h.0.1, h.1)) (λ (h : P × Q × R). ((h.0, h.1), h.2)) (Decides-and (a && b) c (Decides-and a b p q) r)

innermost_to : (ds : List Decl) (pair : Option (ℕ × Bool)) → innermost (clock_to ds pair) ≡ pair
innermost_to ds None = refl
innermost_to ds (Some p) = refl

pub to_innermost : (ds : List Decl) (ck : ClockPairs) → WellFormed ds ck → clock_to ds (innermost ck) ≡ ck
to_innermost ds [] w = refl
to_innermost ds (p ∷ ck) w = ap (λ k. p ∷ k) w.1

module _ (fs : List Function) (ds : List Decl) (good : All GoodFunction fs) (clocks : (x : ℕ) → WellFormed ds (clock_of ds x)) where
  -- a declared variable's clock is told by its innermost pair
  declared_decides : (x : ℕ) (pair : Option (ℕ × Bool)) → x < length ds → Decides (same_pair (innermost (clock_of ds x)) pair) ((x < length ds) × (clock_of ds x ≡ clock_to ds pair))
  declared_decides x pair l =
      Decides-like (same_pair (innermost (clock_of ds x)) pair) (λ (h : innermost (clock_of ds x) ≡ pair). (l, sym (to_innermost ds (clock_of ds x) (clocks x)) ∙ ap (clock_to ds) h))
      (λ (h : (x < length ds) × (clock_of ds x ≡ clock_to ds pair)). ap innermost h.1 ∙ innermost_to ds pair) (same_decides (innermost (clock_of ds x)) pair)

  first_decides : (f : Function) → GoodFunction f → (ys : List ℕ) → All (λ y. y < length f.decls) ys → Decides (first_on_base f.decls ys) (FirstOnBase f.decls ys)
  first_decides f g [] a = (λ h. absurd (cc), λ h. absurd h)
  first_decides f g (y ∷ ys) a = go (clock_of f.decls y)
    where
      inside : y < length f.decls
      inside = a 0 0 (omega arith)

      go : (ck : ClockPairs) → Decides (is_none (innermost ck)) ((y < length f.decls) × (ck ≡ []))
      go [] = (λ _. (inside, refl), λ _. refl)
      go (p ∷ ck) = (λ h. absurd (cc), λ h. let e = h.1 in absurd (cc))

  base_decides : (o : Option Function) → ((f : Function) → o ≡ Some f → GoodFunction f) → Decides (answers_on_base o) (AnswersOnBase o)
  base_decides None g = (λ h. absurd (cc), λ h. absurd h)
  base_decides (Some f) g = first_decides f (g f refl) f.outs (g f refl).outs

  sampled_decides : (e : Expression) (c : ℕ) (p : Bool) (q : ℕ × Bool) → c < length ds → (r : Bool) → Decides r (Clocked fs ds e (clock_to ds (innermost (clock_of ds c))))
      → Decides (same_pair (Some q) (Some (c, p)) && r) (EndsIn (clock_to ds (Some q)) c p (λ before. (c < length ds) × (clock_of ds c ≡ before) × Clocked fs ds e before))
  sampled_decides e c p q l r d =
      let inner : clock_to ds (innermost (clock_of ds c)) ≡ clock_of ds c = to_innermost ds (clock_of ds c) (clocks c) in
      Decides-like (same_pair (Some q) (Some (c, p)) && r)
      (λ (h : (Some q ≡ Some (c, p)) × Clocked fs ds e (clock_to ds (innermost (clock_of ds c)))).
      let same : q ≡ (c, p) = let s = h.0 in cc in
      let var = ap (λ (p : ℕ × Bool). p.0) same in (
        var,
        ap (λ (p : ℕ × Bool). p.1) same,
        (l, ap (clock_of ds) (sym var), subst (Clocked fs ds e) (inner ∙ ap (clock_of ds) (sym var)) h.1),
      ))
      (λ (h : EndsIn (clock_to ds (Some q)) c p (λ before. (c < length ds) × (clock_of ds c ≡ before) × Clocked fs ds e before)).
      (λ i. Some (h.0 i, h.1 i), subst (Clocked fs ds e) (sym (inner ∙ h.2.1)) h.2.2))
      (Decides-and (same_pair (Some q) (Some (c, p))) r (same_decides (Some q) (Some (c, p))) d)

  merged_decides : (c : ℕ) (x y : Expression) (pair : Option (ℕ × Bool)) → c < length ds → (r s : Bool) → Decides r (Clocked fs ds x ((c, true) ∷ clock_of ds c)) → Decides s (Clocked fs ds y ((c, false) ∷ clock_of ds c))
      → Decides (same_pair (innermost (clock_of ds c)) pair && r && s) ((c < length ds) × (clock_of ds c ≡ clock_to ds pair) × Clocked fs ds x ((c, true) ∷ clock_to ds pair) × Clocked fs ds y ((c, false) ∷ clock_to ds pair))
  merged_decides c x y pair l r s d e =
      Decides-like (same_pair (innermost (clock_of ds c)) pair && r && s)
      (λ (h : ((c < length ds) × (clock_of ds c ≡ clock_to ds pair)) × Clocked fs ds x ((c, true) ∷ clock_of ds c) × Clocked fs ds y ((c, false) ∷ clock_of ds c)).
      (h.0.0, h.0.1, subst (λ k. Clocked fs ds x ((c, true) ∷ k)) h.0.1 h.1, subst (λ k. Clocked fs ds y ((c, false) ∷ k)) h.0.1 h.2))
      (λ (h : (c < length ds) × (clock_of ds c ≡ clock_to ds pair) × Clocked fs ds x ((c, true) ∷ clock_to ds pair) × Clocked fs ds y ((c, false) ∷ clock_to ds pair)).
      ((h.0, h.1), subst (λ k. Clocked fs ds x ((c, true) ∷ k)) (sym h.1) h.2, subst (λ k. Clocked fs ds y ((c, false) ∷ k)) (sym h.1) h.3))
      (decides_three (same_pair (innermost (clock_of ds c)) pair) r s (declared_decides c pair l) d e)

  mutual
    pub at_decides : (e : Expression) (pair : Option (ℕ × Bool)) → VarsBelow (length ds) e → Decides (is_at fs ds e pair) (Clocked fs ds e (clock_to ds pair))
    at_decides (literal v) pair b = (λ _. tt, λ _. refl)
    at_decides (variable x) pair b = declared_decides x pair b
    at_decides (unary o a) pair b = at_decides a pair b
    at_decides (binary o x y) pair b = Decides-and (is_at fs ds x pair) (is_at fs ds y pair) (at_decides x pair b.0) (at_decides y pair b.1)
    at_decides (imported o x y) pair b = Decides-and (is_at fs ds x pair) (is_at fs ds y pair) (at_decides x pair b.0) (at_decides y pair b.1)
    at_decides (choose c x y) pair b = decides_three (is_at fs ds c pair) (is_at fs ds x pair) (is_at fs ds y pair) (at_decides c pair b.0) (at_decides x pair b.1) (at_decides y pair b.2)
    at_decides (sampled e c p) None b = (λ h. absurd (cc), λ h. absurd h)
    at_decides (sampled e c p) (Some q) b = sampled_decides e c p q b.1 (is_at fs ds e (innermost (clock_of ds c))) (at_decides e (innermost (clock_of ds c)) b.0)
    at_decides (merged c x y) pair b =
        merged_decides c x y pair b.0 (is_at fs ds x (Some (c, true))) (is_at fs ds y (Some (c, false))) (at_decides x (Some (c, true)) b.1) (at_decides y (Some (c, false)) b.2)
    at_decides (delayed v e) pair b = at_decides e pair b
    at_decides (follow x y) pair b = Decides-and (is_at fs ds x pair) (is_at fs ds y pair) (at_decides x pair b.0) (at_decides y pair b.1)
    at_decides (arrow x y) pair b = Decides-and (is_at fs ds x pair) (is_at fs ds y pair) (at_decides x pair b.0) (at_decides y pair b.1)
    at_decides (call g args) pair b =
        Decides-and (answers_on_base (function_of fs g)) (arguments_at fs ds args pair) (base_decides (function_of fs g) (λ f h. function_all GoodFunction fs good g f h)) (arguments_decide args pair b)

    pub arguments_decide : (args : Arguments) (pair : Option (ℕ × Bool)) → ArgumentVarsBelow (length ds) args → Decides (arguments_at fs ds args pair) (ArgumentsClocked fs ds args (clock_to ds pair))
    arguments_decide no_arguments pair b = (λ _. tt, λ _. refl)
    arguments_decide (argument e args) pair b = Decides-and (is_at fs ds e pair) (arguments_at fs ds args pair) (at_decides e pair b.0) (arguments_decide args pair b.1)
