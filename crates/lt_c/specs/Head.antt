-- The functions at the head of an emitted file: their bodies as trees of C, and what C says of these. What is undefined or left to the
-- compiler has no value.
use Rattle.std.specs.Prelude.{◌≡◌, ℕ, zero, suc, ◌+◌, ◌-◌, ◌*◌, ◌%◌, ◌^◌, ◌<◌, nat_lt, nat_le, Bool, Option, Some, None, ℤ, pos, negsuc, ◌-ℤ◌, neg_ℤ, int_div, int_rem, int_lt, int_le, if◌then◌else◌}
use Rattle.std.specs.Option.{option_and_then}
use Rattle.std.specs.Int.{cast_unsigned}
use Rattle.std.specs.Int.RustNames.{FitsSigned}
use mir.Syntax.{w64}
use Rattle.lt_base.specs.Operators.{int_eq, wrap}
use Rattle.lt_c.specs.Tree.{Helper, h_add, h_sub, h_mul, h_div, h_mod, h_min, h_max, h_gcd}
use Rattle.lt_c.specs.Meaning.{helper}

-- a value of the type int64_t, or of uint64_t
pub data Number : Type 0 where
  signed : ℤ → Number
  unsigned : ℕ → Number

-- a variable of a function at the head: a parameter, or one of its own, of the type uint64_t
pub data Local : Type 0 where
  in_a : Local
  in_b : Local
  own_x : Local
  own_y : Local
  own_z : Local

-- the operators: +, -, * and % of unsigned numbers, and -, / and % of signed ones
pub data Arithmetic : Type 0 where
  bits_add : Arithmetic
  bits_sub : Arithmetic
  bits_mul : Arithmetic
  bits_rest : Arithmetic
  int_sub : Arithmetic
  int_over : Arithmetic
  int_rest : Arithmetic

-- the comparisons: ==, < and <= of signed numbers, and <= of unsigned ones
pub data Comparison : Type 0 where
  ints_equal : Comparison
  ints_less : Comparison
  ints_most : Comparison
  bits_most : Comparison

-- the functions that others at the head call: the number of these bits, the negative of a number, and its distance from 0
pub data Aid : Type 0 where
  aid_signed : Aid
  aid_neg : Aid
  aid_size : Aid

-- an expression
pub data Term : Type 0 where
  t_local : Local → Term
  -- literals
  t_int : ℤ → Term
  t_bits : ℕ → Term
  -- (uint64_t)a and (int64_t)a
  t_to_bits : Term → Term
  t_to_int : Term → Term
  t_join : Arithmetic → Term → Term → Term
  -- (a == b) ? c : d
  t_choice : Comparison → Term → Term → Term → Term → Term
  t_call : Aid → Term → Term

-- a statement
pub data Act : Type 0 where
  a_skip : Act
  -- uint64_t x = e; and x = e;
  a_declare : Local → Term → Act
  a_set : Local → Term → Act
  a_both : Act → Act → Act
  -- while (x != 0) { s }
  a_while : Local → Act → Act

-- a function: what it does, and what it returns
pub record Body : Type 0 where
  pub does : Act
  pub gives : Term

-- ---- what they mean

-- what the variables hold; one that holds nothing has no value
pub record LocalFrame : Type 0 where
  pub for_a : Option Number
  pub for_b : Option Number
  pub for_x : Option Number
  pub for_y : Option Number
  pub for_z : Option Number

abbrev pub held_by : LocalFrame → Local → Option Number
held_by f in_a = f.for_a
held_by f in_b = f.for_b
held_by f own_x = f.for_x
held_by f own_y = f.for_y
held_by f own_z = f.for_z

abbrev pub with_local : LocalFrame → Local → Option Number → LocalFrame
with_local f in_a v = record f { for_a = v }
with_local f in_b v = record f { for_b = v }
with_local f own_x v = record f { for_x = v }
with_local f own_y v = record f { for_y = v }
with_local f own_z v = record f { for_z = v }

-- a number of 64 bits
abbrev pub fits : ℤ → Bool
fits (pos n) = nat_lt n (2 ^ 63)
fits (negsuc n) = nat_lt n (2 ^ 63)

-- an operation overflows, and so is undefined, where its result has more bits
abbrev pub unless_overflow : ℤ → Option Number
unless_overflow z = if fits z then Some (signed z) else None

abbrev pub as_bits : Option Number → Option Number
as_bits None = None
as_bits (Some (signed z)) = Some (unsigned (cast_unsigned w64 z))
as_bits (Some (unsigned n)) = Some (unsigned n)

-- C leaves it to the compiler what a greater number becomes
abbrev pub as_int : Option Number → Option Number
as_int None = None
as_int (Some (signed z)) = Some (signed z)
as_int (Some (unsigned n)) = if nat_lt n (2 ^ 63) then Some (signed (pos n)) else None

abbrev pub on_bits : (ℕ → ℕ → Option Number) → Option Number → Option Number → Option Number
on_bits f (Some (unsigned a)) (Some (unsigned b)) = f a b
on_bits f _ _ = None

abbrev pub on_ints : (ℤ → ℤ → Option Number) → Option Number → Option Number → Option Number
on_ints f (Some (signed a)) (Some (signed b)) = f a b
on_ints f _ _ = None

-- nothing is divided by 0, and neither operator is defined where the quotient overflows
abbrev pub quotient_of : ℤ → ℤ → Option Number
quotient_of a b = if int_eq b (pos 0) then None else unless_overflow (int_div a b)

abbrev pub remainder_of : ℤ → ℤ → Option Number
remainder_of a b = if int_eq b (pos 0) then None else (if fits (int_div a b) then Some (signed (int_rem a b)) else None)

abbrev pub bits_rest_of : ℕ → ℕ → Option Number
bits_rest_of a zero = None
bits_rest_of a (suc b) = Some (unsigned (a % suc b))

abbrev pub arithmetic : Arithmetic → Option Number → Option Number → Option Number
arithmetic bits_add p q = on_bits (λ m n. Some (unsigned ((m + n) % 2 ^ 64))) p q
arithmetic bits_sub p q = on_bits (λ m n. Some (unsigned ((m + (2 ^ 64 - n)) % 2 ^ 64))) p q
arithmetic bits_mul p q = on_bits (λ m n. Some (unsigned ((m * n) % 2 ^ 64))) p q
arithmetic bits_rest p q = on_bits bits_rest_of p q
arithmetic int_sub p q = on_ints (λ m n. unless_overflow (m -ℤ n)) p q
arithmetic int_over p q = on_ints quotient_of p q
arithmetic int_rest p q = on_ints remainder_of p q

abbrev pub chosen : (ℤ → ℤ → Bool) → Option Number → Option Number → Option Number → Option Number → Option Number
chosen f (Some (signed a)) (Some (signed b)) c d = if f a b then c else d
chosen f _ _ c d = None

abbrev pub chosen_bits : (ℕ → ℕ → Bool) → Option Number → Option Number → Option Number → Option Number → Option Number
chosen_bits f (Some (unsigned a)) (Some (unsigned b)) c d = if f a b then c else d
chosen_bits f _ _ c d = None

abbrev pub comparison : Comparison → Option Number → Option Number → Option Number → Option Number → Option Number
comparison ints_equal p q c d = chosen int_eq p q c d
comparison ints_less p q c d = chosen int_lt p q c d
comparison ints_most p q c d = chosen int_le p q c d
comparison bits_most p q c d = chosen_bits nat_le p q c d

-- the value of an expression, where a call gives this
abbrev pub term_value : (Aid → Option Number → Option Number) → LocalFrame → Term → Option Number
term_value call f (t_local x) = held_by f x
term_value call f (t_int z) = Some (signed z)
term_value call f (t_bits n) = Some (unsigned n)
term_value call f (t_to_bits a) = as_bits (term_value call f a)
term_value call f (t_to_int a) = as_int (term_value call f a)
term_value call f (t_join o a b) = arithmetic o (term_value call f a) (term_value call f b)
term_value call f (t_choice o a b c d) = comparison o (term_value call f a) (term_value call f b) (term_value call f c) (term_value call f d)
term_value call f (t_call k a) = call k (term_value call f a)

-- a loop stops where its variable is 0, and else goes on
abbrev pub stops_or : Option Number → (stop more : Option LocalFrame) → Option LocalFrame
stops_or None stop more = None
stops_or (Some (signed z)) stop more = if int_eq z (pos 0) then stop else more
stops_or (Some (unsigned zero)) stop more = stop
stops_or (Some (unsigned (suc n))) stop more = more

-- what a loop leaves, which ends within so many turns; a longer one leaves nothing
abbrev pub after_turns : (turns : ℕ) → (LocalFrame → Option LocalFrame) → Local → LocalFrame → Option LocalFrame
after_turns zero step x f = None
after_turns (suc n) step x f = stops_or (held_by f x) (Some f) (option_and_then (after_turns n step x) (step f))

-- what a statement leaves whose loops end within so many turns
abbrev pub act_after : (turns : ℕ) → (Aid → Option Number → Option Number) → Act → LocalFrame → Option LocalFrame
act_after turns call a_skip f = Some f
act_after turns call (a_declare x e) f = Some (with_local f x (term_value call f e))
act_after turns call (a_set x e) f = Some (with_local f x (term_value call f e))
act_after turns call (a_both s t) f = option_and_then (act_after turns call t) (act_after turns call s f)
act_after turns call (a_while x s) f = after_turns turns (act_after turns call s) x f

-- a function begins with its parameters
abbrev pub with_parameters : (a b : Option Number) → LocalFrame
with_parameters a b = record { for_a = a; for_b = b; for_x = None; for_y = None; for_z = None }

-- what a function returns whose loops end within so many turns
abbrev pub body_value : (turns : ℕ) → (Aid → Option Number → Option Number) → Body → (a b : Option Number) → Option Number
body_value turns call d a b = option_and_then (λ f. term_value call f d.gives) (act_after turns call d.does (with_parameters a b))

-- ---- the bodies

abbrev pub a_is : Term
a_is = t_local in_a

abbrev pub b_is : Term
b_is = t_local in_b

-- (a <= INT64_MAX) ? (int64_t)a : (-1 - (int64_t)(UINT64_MAX - a))
abbrev pub signed_term : Term
signed_term =
    t_choice bits_most a_is (t_bits 9223372036854775807) (t_to_int a_is)
    (t_join int_sub (t_int (negsuc 0)) (t_to_int (t_join bits_sub (t_bits 18446744073709551615) a_is)))

-- 0 - (uint64_t)a
abbrev pub opposite : Term
opposite = t_join bits_sub (t_bits 0) (t_to_bits a_is)

-- what these return
abbrev pub aid_term : Aid → Term
aid_term aid_signed = signed_term
aid_term aid_neg = t_call aid_signed opposite
aid_term aid_size = t_choice ints_less a_is (t_int (pos 0)) opposite (t_to_bits a_is)

abbrev pub aid_body : Aid → Body
aid_body k = record { does = a_skip; gives = aid_term k }

-- of two numbers as bits, the signed number of the result's bits
abbrev pub by_bits : Arithmetic → Term
by_bits o = t_call aid_signed (t_join o (t_to_bits a_is) (t_to_bits b_is))

-- b is 0, or -1, or another number
abbrev pub by_divisor : (none minus other : Term) → Term
by_divisor none minus other = t_choice ints_equal b_is (t_int (pos 0)) none (t_choice ints_equal b_is (t_int (negsuc 0)) minus other)

abbrev pub helper_term : Helper → Term
helper_term h_add = by_bits bits_add
helper_term h_sub = by_bits bits_sub
helper_term h_mul = by_bits bits_mul
helper_term h_div = by_divisor (t_int (pos 0)) (t_call aid_neg a_is) (t_join int_over a_is b_is)
helper_term h_mod = by_divisor a_is (t_int (pos 0)) (t_join int_rest a_is b_is)
helper_term h_min = t_choice ints_most a_is b_is a_is b_is
helper_term h_max = t_choice ints_most a_is b_is b_is a_is
helper_term h_gcd = t_call aid_signed (t_local own_x)

-- Euclid's algorithm
abbrev pub next_pair : Act
next_pair = a_both (a_declare own_z (t_join bits_rest (t_local own_x) (t_local own_y))) (a_both (a_set own_x (t_local own_y)) (a_set own_y (t_local own_z)))

abbrev pub gcd_act : Act
gcd_act = a_both (a_declare own_x (t_call aid_size a_is)) (a_both (a_declare own_y (t_call aid_size b_is)) (a_while own_y next_pair))

abbrev pub helper_act : Helper → Act
helper_act h_add = a_skip
helper_act h_sub = a_skip
helper_act h_mul = a_skip
helper_act h_div = a_skip
helper_act h_mod = a_skip
helper_act h_min = a_skip
helper_act h_max = a_skip
helper_act h_gcd = gcd_act

abbrev pub helper_body : Helper → Body
helper_body h = record { does = helper_act h; gives = helper_term h }

-- ---- calls

-- a function that calls none: that of the bits, and the distance from 0
abbrev pub no_call : Aid → Option Number → Option Number
no_call k p = None

abbrev pub low_value : Aid → Option Number → Option Number
low_value k p = body_value 0 no_call (aid_body k) p None

-- one that calls those
abbrev pub aid_value : Aid → Option Number → Option Number
aid_value k p = body_value 0 low_value (aid_body k) p None

-- what a function gives whose loops end within so many turns
abbrev pub helper_value : (turns : ℕ) → Helper → (a b : Option Number) → Option Number
helper_value turns h a b = body_value turns aid_value (helper_body h) a b

-- on all numbers of 64 bits the functions at the head have a value, where a loop may make more than 2^63 turns: nothing in them is undefined,
-- and they end. It is that of the language's operator
pub record HeadIsSound : Type 0 where
  pub negates : (a : ℤ) → FitsSigned w64 a → aid_value aid_neg (Some (signed a)) ≡ Some (signed (wrap (neg_ℤ a)))
  pub helps : (turns : ℕ) → 2 ^ 63 < turns → (h : Helper) → (a b : ℤ) → FitsSigned w64 a → FitsSigned w64 b → helper_value turns h (Some (signed a)) (Some (signed b)) ≡ Some (signed (helper h a b))
