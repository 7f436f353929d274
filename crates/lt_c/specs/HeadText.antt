-- The text of the functions at the head.
use Rattle.std.specs.Prelude.{ℕ, ◌++◌, ◌||◌, Bool, List, [], codes, decimal, if◌then◌else◌}
use Rattle.lt_c.specs.declared.calls.Calls.{Calls}
use Rattle.lt_c.specs.Tree.{Helper, h_add, h_sub, h_mul, h_div, h_mod, h_min, h_max, h_gcd}
use Rattle.lt_c.specs.Text.{helper_text, integer_text}
use Rattle.lt_c.specs.Head.{Local, in_a, in_b, own_x, own_y, own_z, Arithmetic, bits_add, bits_sub, bits_mul, bits_rest, int_sub, int_over, int_rest, Comparison, ints_equal, ints_less, ints_most, bits_most, Aid, aid_signed, aid_neg, aid_size, Term, t_local, t_int, t_bits, t_to_bits, t_to_int, t_join, t_choice, t_call, Act, a_skip, a_declare, a_set, a_both, a_while, Body, aid_body, helper_body}

abbrev pub local_text : Local → List ℕ
local_text in_a = codes "a"
local_text in_b = codes "b"
local_text own_x = codes "x"
local_text own_y = codes "y"
local_text own_z = codes "z"

abbrev pub arithmetic_text : Arithmetic → List ℕ
arithmetic_text bits_add = codes " + "
arithmetic_text bits_sub = codes " - "
arithmetic_text bits_mul = codes " * "
arithmetic_text bits_rest = codes " % "
arithmetic_text int_sub = codes " - "
arithmetic_text int_over = codes " / "
arithmetic_text int_rest = codes " % "

abbrev pub comparison_text : Comparison → List ℕ
comparison_text ints_equal = codes " == "
comparison_text ints_less = codes " < "
comparison_text ints_most = codes " <= "
comparison_text bits_most = codes " <= "

-- the name of a function, up to its argument
abbrev pub aid_text : Aid → List ℕ
aid_text aid_signed = codes "lt_signed("
aid_text aid_neg = codes "lt_neg("
aid_text aid_size = codes "lt_size("

abbrev pub term_text : Term → List ℕ
term_text (t_local x) = local_text x
term_text (t_int z) = integer_text z
term_text (t_bits n) = codes "UINT64_C(" ++ (decimal n ++ codes ")")
term_text (t_to_bits a) = codes "(uint64_t)" ++ term_text a
term_text (t_to_int a) = codes "(int64_t)" ++ term_text a
term_text (t_join o a b) = codes "(" ++ (term_text a ++ (arithmetic_text o ++ (term_text b ++ codes ")")))
term_text (t_choice o a b c d) = codes "((" ++ (term_text a ++ (comparison_text o ++ (term_text b ++ (codes ") ? " ++ (term_text c ++ (codes " : " ++ (term_text d ++ codes ")")))))))
term_text (t_call k a) = aid_text k ++ (term_text a ++ codes ")")

-- a statement, with so much before each of its lines
abbrev pub act_text : List ℕ → Act → List ℕ
act_text before a_skip = []
act_text before (a_declare x e) = before ++ (codes "uint64_t " ++ (local_text x ++ (codes " = " ++ (term_text e ++ codes ";\n"))))
act_text before (a_set x e) = before ++ (local_text x ++ (codes " = " ++ (term_text e ++ codes ";\n")))
act_text before (a_both s t) = act_text before s ++ act_text before t
act_text before (a_while x s) = before ++ (codes "while (" ++ (local_text x ++ (codes " != UINT64_C(0)) {\n" ++ (act_text (codes "    " ++ before) s ++ (before ++ codes "}\n")))))

-- a function behind its parameters
abbrev pub head_body_text : Body → List ℕ
head_body_text d = codes ")\n{\n" ++ (act_text (codes "    ") d.does ++ (codes "    return " ++ (term_text d.gives ++ codes ";\n}\n")))

-- the type of what a function returns, and its parameter
abbrev pub aid_type : Aid → List ℕ
aid_type aid_signed = codes "\nstatic inline int64_t "
aid_type aid_neg = codes "\nstatic inline int64_t "
aid_type aid_size = codes "\nstatic inline uint64_t "

abbrev pub aid_parameter : Aid → List ℕ
aid_parameter aid_signed = codes "uint64_t a"
aid_parameter aid_neg = codes "int64_t a"
aid_parameter aid_size = codes "int64_t a"

abbrev pub aid_function : Aid → List ℕ
aid_function k = aid_type k ++ (aid_text k ++ (aid_parameter k ++ head_body_text (aid_body k)))

abbrev pub helper_function : Helper → List ℕ
helper_function h = codes "\nstatic inline int64_t " ++ (helper_text h ++ (codes "int64_t a, int64_t b" ++ head_body_text (helper_body h)))

-- where it is wanted
abbrev pub aid_if : Bool → Aid → List ℕ
aid_if b k = if b then aid_function k else []

abbrev pub helper_if : Bool → Helper → List ℕ
helper_if b h = if b then helper_function h else []

-- a file that makes these calls needs the number of bits where numbers are negated, added, multiplied or divided, or have a common divisor
abbrev pub needs_signed : Calls → Bool
needs_signed c = (c.negate || (c.add || c.sub)) || (c.mul || (c.div || c.gcd))

abbrev pub aids_text : Calls → List ℕ
aids_text c = aid_if (needs_signed c) aid_signed ++ (aid_if (c.negate || c.div) aid_neg ++ aid_if c.gcd aid_size)

abbrev pub sums_text : Calls → List ℕ
sums_text c = helper_if c.add h_add ++ (helper_if c.sub h_sub ++ (helper_if c.mul h_mul ++ helper_if c.div h_div))

abbrev pub others_text : Calls → List ℕ
others_text c = helper_if c.rest h_mod ++ (helper_if c.min h_min ++ (helper_if c.max h_max ++ helper_if c.gcd h_gcd))

-- the head of a file that makes these calls
abbrev pub file_head_text : Calls → List ℕ
file_head_text c = codes "#include <stdbool.h>\n#include <stdint.h>\n" ++ (aids_text c ++ (sums_text c ++ others_text c))
