-- Functions that do not call themselves have heights, so that the calls of a program have their meaning.
use Rattle.std.proofs.Common.{◌≡◌, ℕ, zero, suc, ◌-◌, ◌<◌, ◌≤◌, Bool, true, false, List, [], ◌∷◌, ◌++◌, length, Option, Some, None, All, refl, sym, ap, ◌∙◌, arith, ⊎_elim}
use Rattle.std.specs.Prelude.{◌||◌, nat_eq, is_none, if◌then◌else◌}
use Rattle.std.proofs.lemmas.Bool.Decides.{nat_tests}
use Rattle.lt_base.specs.Expression.{Expression, literal, variable, unary, binary, imported, choose, sampled, merged, delayed, follow, arrow, call, Arguments, no_arguments, argument}
use Rattle.lt_base.specs.Program.{Function, CallsBelow, ArgumentCallsBelow}
use Rattle.lt_base.specs.Meaning.{Row, Callee, right_of, function_of, answer, calls}
use Rattle.lt_base.specs.Dependence.{has}
use Rattle.lt_base.specs.Calls.{called, arguments_called, equations_called, function_called, CallsFunction, NotRecursive, EachCall, EachArgumentCall, Layered, Closed}
use Rattle.lt_base.proofs.Lookups.{function_all, right_all, function_below, function_there}
use Rattle.lt_base.proofs.Reading.{has_front, has_back, has_cases, has_one, Members, members_front, members_back, members_first, members_rest}
use Rattle.lt_base.proofs.Graph.{order, before, order_le, order_pos}
use Rattle.lt_base.proofs.Calls.{Agree, environments_callee, calls_closed}

-- ---- a fact of each called function is one of each member of the list

module _ (P : ℕ → Type 0) where
  mutual
    pub each_call_at : (e : Expression) → EachCall P e → (y : ℕ) → has y (called e) ≡ true → P y
    each_call_at (literal v) r y h = absurd (cc)
    each_call_at (variable x) r y h = absurd (cc)
    each_call_at (unary o a) r y h = each_call_at a r y h
    each_call_at (binary o a b) r y h = ⊎_elim (each_call_at a r.0 y) (each_call_at b r.1 y) (has_cases y (called a) (called b) h)
    each_call_at (imported o a b) r y h = ⊎_elim (each_call_at a r.0 y) (each_call_at b r.1 y) (has_cases y (called a) (called b) h)
    each_call_at (choose c a b) r y h =
        ⊎_elim (each_call_at c r.0 y) (λ k. ⊎_elim (each_call_at a r.1 y) (each_call_at b r.2 y) (has_cases y (called a) (called b) k)) (has_cases y (called c) (called a ++ called b) h)
    each_call_at (sampled e c b) r y h = each_call_at e r y h
    each_call_at (merged c a b) r y h = ⊎_elim (each_call_at a r.0 y) (each_call_at b r.1 y) (has_cases y (called a) (called b) h)
    each_call_at (delayed v e) r y h = each_call_at e r y h
    each_call_at (follow a b) r y h = ⊎_elim (each_call_at a r.0 y) (each_call_at b r.1 y) (has_cases y (called a) (called b) h)
    each_call_at (arrow a b) r y h = ⊎_elim (each_call_at a r.0 y) (each_call_at b r.1 y) (has_cases y (called a) (called b) h)
    each_call_at (call g args) r y h = has_one P g (arguments_called args) y h r.0 (each_argument_call_at args r.1 y)

    pub each_argument_call_at : (args : Arguments) → EachArgumentCall P args → (y : ℕ) → has y (arguments_called args) ≡ true → P y
    each_argument_call_at no_arguments r y h = absurd (cc)
    each_argument_call_at (argument e args) r y h = ⊎_elim (each_call_at e r.0 y) (each_argument_call_at args r.1 y) (has_cases y (called e) (arguments_called args) h)

  mutual
    pub each_call_from : (e : Expression) → Members P (called e) → EachCall P e
    each_call_from (literal v) m = tt
    each_call_from (variable x) m = tt
    each_call_from (unary o a) m = each_call_from a m
    each_call_from (binary o a b) m = (each_call_from a (members_front P (called a) (called b) m), each_call_from b (members_back P (called a) (called b) m))
    each_call_from (imported o a b) m = (each_call_from a (members_front P (called a) (called b) m), each_call_from b (members_back P (called a) (called b) m))
    each_call_from (choose c a b) m =
        let n = members_back P (called c) (called a ++ called b) m in
        (each_call_from c (members_front P (called c) (called a ++ called b) m), each_call_from a (members_front P (called a) (called b) n), each_call_from b (members_back P (called a) (called b) n))
    each_call_from (sampled e c b) m = each_call_from e m
    each_call_from (merged c a b) m = (each_call_from a (members_front P (called a) (called b) m), each_call_from b (members_back P (called a) (called b) m))
    each_call_from (delayed v e) m = each_call_from e m
    each_call_from (follow a b) m = (each_call_from a (members_front P (called a) (called b) m), each_call_from b (members_back P (called a) (called b) m))
    each_call_from (arrow a b) m = (each_call_from a (members_front P (called a) (called b) m), each_call_from b (members_back P (called a) (called b) m))
    each_call_from (call g args) m = (members_first P g (arguments_called args) m, each_argument_call_from args (members_rest P g (arguments_called args) m))

    pub each_argument_call_from : (args : Arguments) → Members P (arguments_called args) → EachArgumentCall P args
    each_argument_call_from no_arguments m = tt
    each_argument_call_from (argument e args) m = (each_call_from e (members_front P (called e) (arguments_called args) m), each_argument_call_from args (members_back P (called e) (arguments_called args) m))

mutual
  -- the called functions are below n
  pub below_each : (n : ℕ) (e : Expression) → CallsBelow n e → EachCall (λ g. g < n) e
  below_each n (literal v) h = tt
  below_each n (variable x) h = tt
  below_each n (unary o a) h = below_each n a h
  below_each n (binary o a b) h = (below_each n a h.0, below_each n b h.1)
  below_each n (imported o a b) h = (below_each n a h.0, below_each n b h.1)
  below_each n (choose c a b) h = (below_each n c h.0, below_each n a h.1, below_each n b h.2)
  below_each n (sampled e c b) h = below_each n e h
  below_each n (merged c a b) h = (below_each n a h.0, below_each n b h.1)
  below_each n (delayed v e) h = below_each n e h
  below_each n (follow a b) h = (below_each n a h.0, below_each n b h.1)
  below_each n (arrow a b) h = (below_each n a h.0, below_each n b h.1)
  below_each n (call g args) h = (h.0, arguments_below_each n args h.1)

  pub arguments_below_each : (n : ℕ) (args : Arguments) → ArgumentCallsBelow n args → EachArgumentCall (λ g. g < n) args
  arguments_below_each n no_arguments h = tt
  arguments_below_each n (argument e args) h = (below_each n e h.0, arguments_below_each n args h.1)

-- a variable's equation calls what its function calls
right_called : (eqs : List (ℕ × Expression)) (x : ℕ) (e : Expression) → right_of eqs x ≡ Some e → (h : ℕ) → has h (called e) ≡ true → has h (equations_called eqs) ≡ true
right_called [] x e q h m = absurd (cc)
right_called ((y, a) ∷ eqs) x e q h m =
    let go : (b : Bool) → nat_eq x y ≡ b → (if b then Some a else right_of eqs x) ≡ Some e → has h (called a ++ equations_called eqs) ≡ true =
    elim [
      | true ↦ λ _ k. let same : a ≡ e = cc in has_front h (called a) (equations_called eqs) (ap (λ z. has h (called z)) same ∙ m)
      | false ↦ λ _ k. has_back h (called a) (equations_called eqs) (right_called eqs x e k h m)
    ] in
    go (nat_eq x y) refl q

pub calls_function : (fs : List Function) (g : ℕ) (f : Function) → function_of fs g ≡ Some f → (x : ℕ) (e : Expression) → right_of f.eqs x ≡ Some e → (h : ℕ) → has h (called e) ≡ true → CallsFunction fs g h
calls_function fs g f q x e r h m = ap (λ o. has h (function_called o)) q ∙ right_called f.eqs x e r h m

-- ---- heights

-- the numbers below n
abbrev numbers : ℕ → List ℕ
numbers zero = []
numbers (suc n) = n ∷ numbers n

numbers_length : (n : ℕ) → length (numbers n) ≡ n
numbers_length zero = refl
numbers_length (suc n) = ap suc (numbers_length n)

numbers_have : (n x : ℕ) → x < n → has x (numbers n) ≡ true
numbers_have zero x h = absurd (omega arith)
numbers_have (suc n) x h =
    let go : (b : Bool) → nat_eq x n ≡ b → (b || has x (numbers n)) ≡ true =
    elim [ true ↦ λ _. refl | false ↦ λ e. numbers_have n x (other x n h e) ] in
    go (nat_eq x n) refl
  where
    other : (x n : ℕ) → x < suc n → nat_eq x n ≡ false → x < n
    other x n h e = grind (arith, nat_tests)

module _ (fs : List Function) (not_recursive : NotRecursive fs) where
  abbrev called_by : ℕ → List ℕ
  called_by g = function_called (function_of fs g)

  abbrev is_absent : ℕ → Bool
  is_absent g = is_none (function_of fs g)

  absent_by : (o : Option Function) → is_none o ≡ true → function_called o ≡ []
  absent_by None h = refl
  absent_by (Some f) h = absurd (cc)

  absent : (g : ℕ) → is_absent g ≡ true → called_by g ≡ []
  absent g h = absent_by (function_of fs g) h

  listed_by : (g : ℕ) (o : Option Function) → function_of fs g ≡ o → is_none o ≡ false → has g (numbers (length fs)) ≡ true
  listed_by g None q h = absurd (cc)
  listed_by g (Some f) q h = numbers_have (length fs) g (function_below fs g f q)

  listed : (g : ℕ) → is_absent g ≡ false → has g (numbers (length fs)) ≡ true
  listed g h = listed_by g (function_of fs g) refl h

  level : ℕ → ℕ
  level g = order called_by is_absent absent (numbers (length fs)) listed not_recursive g

  level_lower : (g h : ℕ) → CallsFunction fs g h → level h < level g
  unfolding level
  level_lower g h c = before called_by is_absent absent (numbers (length fs)) listed not_recursive g h c

  level_le : (g : ℕ) → level g ≤ length fs
  unfolding level
  level_le g = let l = order_le called_by is_absent absent (numbers (length fs)) listed not_recursive g in let n = numbers_length (length fs) in omega (arith, l, n)

  level_pos : (g : ℕ) → is_absent g ≡ false → 0 < level g
  unfolding level
  level_pos g h = order_pos called_by is_absent absent (numbers (length fs)) listed not_recursive g h

  -- how many calls can be nested below a function
  pub height_of : ℕ → ℕ
  height_of g = level g - 1

  there : (g : ℕ) → g < length fs → is_absent g ≡ false
  there g h = let f = function_there fs g h in ap is_none f.1

  pub height_low : (g : ℕ) → g < length fs → height_of g < length fs
  unfolding height_of
  height_low g h = let l = level_le g in omega (arith, l, h)

  pub height_lower : (g h : ℕ) → CallsFunction fs g h → h < length fs → height_of h < height_of g
  unfolding height_of
  height_lower g h c l = let a = level_lower g h c in let p = level_pos h (there h l) in omega (arith, a, p)

  module _ (inside : All (λ f. All (λ e. CallsBelow (length fs) e.1) f.eqs) fs) where
    called_below : (g : ℕ) (f : Function) → function_of fs g ≡ Some f → (x : ℕ) (e : Expression) → right_of f.eqs x ≡ Some e → (h : ℕ) → has h (called e) ≡ true → h < length fs
    called_below g f q x e r =
        each_call_at (λ h. h < length fs) e (below_each (length fs) e (right_all (λ e. CallsBelow (length fs) e.1) f.eqs (function_all (λ f. All (λ e. CallsBelow (length fs) e.1) f.eqs) fs inside g f q) x e r))

    pub layered : Layered fs height_of
    layered = record {
      lower = λ g f q x e r. each_call_from (λ h. height_of h < height_of g) e (λ h m. height_lower g h (calls_function fs g f q x e r h m) (called_below g f q x e r h m));
    }

    -- what the calls of a program answer is what its functions mean
    pub closed : Closed fs (calls fs (length fs))
    closed = calls_closed fs height_of layered (length fs) (λ g f q. height_low g (function_below fs g f q))

    -- and nothing else can be what they answer, if calls are to mean what the functions mean
    pub closed_same : (C C' : Callee) → Closed fs C → Closed fs C' → (n g : ℕ) (f : Function) → function_of fs g ≡ Some f → height_of g < n → (rows : List Row) → C g rows ≡ C' g rows
    closed_same C C' c c' zero g f q l rows = absurd (omega arith)
    closed_same C C' c c' (suc n) g f q l rows =
        let low : (h : ℕ) → height_of h < height_of g → h < length fs → Agree C C' h =
        λ h b i rs. let k = function_there fs h i in closed_same C C' c c' n h k.0 k.1 (omega arith) rs in
        let agree : (x : ℕ) (a : Expression) → right_of f.eqs x ≡ Some a → EachCall (Agree C C') a =
        λ x a r. each_call_from (Agree C C') a (λ h m. let b = called_below g f q x a r h m in low h (height_lower g h (calls_function fs g f q x a r h m) b) b) in
        c.calls g f q rows ∙ ap (answer f.outs) (environments_callee C C' f agree rows) ∙ sym (c'.calls g f q rows)
