-- Worked programs.
use Rattle.std.specs.Prelude.{◌≡◌, ℕ, zero, suc, ◌-◌, ◌^◌, true, false, ℤ, pos, negsuc, List, [], ◌∷◌}
use Rattle.std.proofs.Common.{refl}
use Rattle.std.specs.Int.{int_wrap}
use Rattle.lt_base.specs.declared.value.Ty.TheVariants.{Int as IntTy, Bool as BoolTy}
use Rattle.lt_base.specs.declared.value.Value.{Value}
use Rattle.lt_base.specs.declared.value.Value.TheVariants.{Int, Bool as Truth}
use Rattle.lt_base.specs.declared.operators.Bin.TheVariants.{Add, Sub, And, Xor}
use Rattle.lt_base.specs.declared.operators.Un.TheVariants.{Not}
use Rattle.lt_base.specs.declared.operators.Imp.TheVariants.{Min, Max, Gcd}
use Rattle.lt_base.specs.declared.value.Cell.{Cell}
use Rattle.lt_base.specs.declared.value.Cell.TheVariants.{Absent, Here}
use Rattle.lt_base.specs.Expression.{Expression, literal, variable, unary, binary, imported, sampled, merged, delayed, follow, arrow, call, no_arguments, argument}
use Rattle.lt_base.specs.declared.function.Decl.{Decl}
use Rattle.lt_base.specs.Program.{Function}
use Rattle.lt_base.specs.Meaning.{ClockPairs, stream_of}
use Rattle.lt_base.specs.Operators.{quotient, remainder, imp}
use Rattle.lt_base.specs.Graph.{ClosedWalk}
use Rattle.lt_base.specs.Dependence.{dependencies, Depends}
use Rattle.lt_base.specs.Sizes.{nested, weight_with, parts_with}

abbrev pub int_on : ClockPairs → Decl
int_on ck = record { name = []; ty = IntTy; clock = ck }

abbrev pub bool_on : ClockPairs → Decl
bool_on ck = record { name = []; ty = BoolTy; clock = ck }

abbrev pub num : ℕ → Value
num n = Int (pos n)

abbrev pub sampler : Function
sampler = record {
  name = [];
  decls = int_on [] ∷ bool_on [] ∷ int_on ((1, true) ∷ []) ∷ int_on ((1, true) ∷ []) ∷ [];
  n_in = 2;
  outs = 2 ∷ 3 ∷ [];
  eqs = (2, sampled (variable 0) 1 true) ∷ (3, delayed (num 0) (variable 2)) ∷ [];
}

abbrev pub sampler_rows : List (List Value)
sampler_rows = (num 5 ∷ Truth true ∷ []) ∷ (num 6 ∷ Truth false ∷ []) ∷ (num 7 ∷ Truth true ∷ []) ∷ []

pub sampler_y : stream_of (sampler ∷ []) sampler sampler_rows 2 ≡ Here (num 5) ∷ Absent ∷ Here (num 7) ∷ []
sampler_y = refl

pub sampler_w : stream_of (sampler ∷ []) sampler sampler_rows 3 ≡ Here (num 0) ∷ Absent ∷ Here (num 5) ∷ []
sampler_w = refl

-- u = x + (0 fby v); v = 10 + (0 fby u)
abbrev pub pair : Function
pair = record {
  name = [];
  decls = int_on [] ∷ int_on [] ∷ int_on [] ∷ [];
  n_in = 1;
  outs = 1 ∷ 2 ∷ [];
  eqs = (1, binary Add (variable 0) (delayed (num 0) (variable 2))) ∷ (2, binary Add (literal (num 10)) (delayed (num 0) (variable 1))) ∷ [];
}

abbrev pub ones : List (List Value)
ones = (num 1 ∷ []) ∷ (num 1 ∷ []) ∷ (num 1 ∷ []) ∷ []

pub pair_u : stream_of (pair ∷ []) pair ones 1 ≡ Here (num 1) ∷ Here (num 11) ∷ Here (num 12) ∷ []
unfolding int_wrap
pair_u = refl

pub pair_v : stream_of (pair ∷ []) pair ones 2 ≡ Here (num 10) ∷ Here (num 11) ∷ Here (num 21) ∷ []
unfolding int_wrap
pair_v = refl

-- r = max(0, min(v, 100))
abbrev pub limit : Function
limit = record {
  name = [];
  decls = int_on [] ∷ int_on [] ∷ [];
  n_in = 1;
  outs = 1 ∷ [];
  eqs = (1, imported Max (literal (num 0)) (imported Min (variable 0) (literal (num 100)))) ∷ [];
}

abbrev pub on_act : ClockPairs
on_act = (6, true) ∷ []

abbrev pub cruise : Function
cruise = record {
  name = [];
  decls = int_on [] ∷ bool_on [] ∷ bool_on [] ∷ int_on on_act ∷ int_on [] ∷ bool_on [] ∷ bool_on [] ∷ int_on [] ∷ int_on on_act ∷ int_on [] ∷ [];
  n_in = 2;
  outs = 2 ∷ 3 ∷ 4 ∷ [];
  eqs =
      (5, delayed (Truth false) (variable 1))
      ∷ (2, binary Xor (delayed (Truth false) (variable 2)) (binary And (variable 1) (unary Not (variable 5))))
      ∷ (6, delayed (Truth false) (variable 2))
      ∷ (7, delayed (num 0) (variable 0))
      ∷ (8, literal (num 60))
      ∷ (3, binary Sub (variable 8) (sampled (variable 7) 6 true))
      ∷ (9, merged 6 (call 0 (argument (binary Add (variable 3) (delayed (num 0) (variable 3))) no_arguments)) (literal (num 0)))
      ∷ (4, delayed (num 0) (variable 9))
      ∷ [];
}

abbrev pub drive : List (List Value)
drive =
    (num 50 ∷ Truth true ∷ [])
    ∷ (num 52 ∷ Truth false ∷ [])
    ∷ (num 55 ∷ Truth false ∷ [])
    ∷ (num 58 ∷ Truth false ∷ [])
    ∷ (num 59 ∷ Truth false ∷ [])
    ∷ []

pub cruise_on : stream_of (limit ∷ cruise ∷ []) cruise drive 2 ≡ Here (Truth true) ∷ Here (Truth true) ∷ Here (Truth true) ∷ Here (Truth true) ∷ Here (Truth true) ∷ []
unfolding int_wrap
cruise_on = refl

pub cruise_gap : stream_of (limit ∷ cruise ∷ []) cruise drive 3 ≡ Absent ∷ Here (num 10) ∷ Here (num 8) ∷ Here (num 5) ∷ Here (num 2) ∷ []
unfolding int_wrap
cruise_gap = refl

pub cruise_throttle : stream_of (limit ∷ cruise ∷ []) cruise drive 4 ≡ Here (num 0) ∷ Here (num 0) ∷ Here (num 10) ∷ Here (num 18) ∷ Here (num 13) ∷ []
unfolding int_wrap
cruise_throttle = refl

-- y = 0 fby (1 + y + y)
abbrev pub twice : Function
twice = record {
  name = [];
  decls = int_on [] ∷ [];
  n_in = 0;
  outs = 0 ∷ [];
  eqs = (0, delayed (num 0) (binary Add (literal (num 1)) (binary Add (variable 0) (variable 0)))) ∷ [];
}

abbrev pub empty_rows : ℕ → List (List Value)
empty_rows zero = []
empty_rows (suc n) = [] ∷ empty_rows n

abbrev pub last_of : List Cell → Cell
last_of [] = Absent
last_of (c ∷ []) = c
last_of (c ∷ d ∷ cs) = last_of (d ∷ cs)

pub twice_16 : last_of (stream_of (twice ∷ []) twice (empty_rows 16) 0) ≡ Here (num 32767)
unfolding int_wrap
twice_16 = refl

-- ---- a delay with any left side, and the first instant

abbrev pub one_to_three : List (List Value)
one_to_three = (num 1 ∷ []) ∷ (num 2 ∷ []) ∷ (num 3 ∷ []) ∷ []

abbrev pub one_equation : Expression → Function
one_equation e = record { name = []; decls = int_on [] ∷ int_on [] ∷ []; n_in = 1; outs = 1 ∷ []; eqs = (1, e) ∷ [] }

-- y = (x + 1) fby x
abbrev pub followed : Function
followed = one_equation (follow (binary Add (variable 0) (literal (num 1))) (variable 0))

pub followed_y : stream_of (followed ∷ []) followed one_to_three 1 ≡ Here (num 2) ∷ Here (num 1) ∷ Here (num 2) ∷ []
unfolding int_wrap
followed_y = refl

-- y = x -> 10 + (0 fby y)
abbrev pub counted : Function
counted = one_equation (arrow (variable 0) (binary Add (literal (num 10)) (delayed (num 0) (variable 1))))

pub counted_y : stream_of (counted ∷ []) counted one_to_three 1 ≡ Here (num 1) ∷ Here (num 11) ∷ Here (num 21) ∷ []
unfolding int_wrap
counted_y = refl

-- y = y -> x reads y, so it lies on a closed walk
pub first_reads : ClosedWalk (Depends (one_equation (arrow (variable 1) (variable 0)))) (1 ∷ [])
first_reads = refl

-- y = x fby y does not
pub delay_reads : dependencies (one_equation (follow (variable 0) (variable 1))) 1 ≡ 0 ∷ []
delay_reads = refl

-- a delay with an expression on its left weighs two, and a first instant one
pub followed_size : nested weight_with (followed ∷ []) 1 0 ≡ 4
followed_size = refl

pub counted_size : nested weight_with (counted ∷ []) 1 0 ≡ 4
counted_size = refl

pub counted_parts : nested parts_with (counted ∷ []) 1 0 ≡ 6
counted_parts = refl

-- ---- the operators' boundary cases

abbrev pub least : ℤ
least = negsuc (2 ^ 63 - 1)

pub least_div : quotient least (negsuc 0) ≡ least
unfolding int_wrap
least_div = refl

pub least_mod : remainder least (negsuc 0) ≡ pos 0
least_mod = refl

pub cut_div : quotient (negsuc 6) (pos 2) ≡ negsuc 2
unfolding int_wrap
cut_div = refl

pub cut_mod : remainder (negsuc 6) (pos 2) ≡ negsuc 0
cut_mod = refl

pub by_zero : quotient (negsuc 6) (pos 0) ≡ pos 0
by_zero = refl

pub rest_by_zero : remainder (negsuc 6) (pos 0) ≡ negsuc 6
rest_by_zero = refl

pub least_gcd : imp Gcd least (pos 0) ≡ least
unfolding int_wrap
least_gcd = refl

pub no_gcd : imp Gcd (pos 0) (pos 0) ≡ pos 0
unfolding int_wrap
no_gcd = refl
