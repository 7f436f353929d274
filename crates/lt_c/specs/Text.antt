-- The text of C trees.
use Rattle.std.specs.Prelude.{ℕ, zero, suc, ◌++◌, Bool, true, false, List, [], ◌∷◌, codes, decimal, ℤ, pos, negsuc, nat_eq, if◌then◌else◌}
use Rattle.lt_base.specs.declared.function.Decl.{Decl}
use Rattle.lt_base.specs.Meaning.{ClockPairs}
use Rattle.lt_c.specs.Tree.{CVariable, slot, Helper, h_add, h_sub, h_mul, h_div, h_mod, h_min, h_max, h_gcd, Operator, o_eq, o_ne, o_lt, o_le, o_gt, o_ge, o_and, o_or, Tree, c_integer, c_truth, c_var, c_negate, c_call, c_not, c_join, c_choice, Statement, assign, only, branch, both, nothing, perform, noted}

-- how a variable is written
abbrev pub Spelling : Type 0
Spelling = CVariable → List ℕ

-- the name of a declared variable, and of another number nothing
abbrev pub name_at : List Decl → ℕ → List ℕ
name_at [] x = []
name_at (d ∷ ds) zero = d.name
name_at (d ∷ ds) (suc x) = name_at ds x

-- behind the number stands the name, where there is one
abbrev pub behind : List ℕ → List ℕ
behind [] = []
behind (b ∷ bs) = codes "_" ++ (b ∷ bs)

-- v, the variable's number and its name: two variables differ in their numbers, and no word of C begins so
abbrev pub spelled : List Decl → Spelling
spelled ds (slot x) = codes "v" ++ (decimal x ++ behind (name_at ds x))
spelled ds p = []

abbrev pub helper_text : Helper → List ℕ
helper_text h_add = codes "lt_add("
helper_text h_sub = codes "lt_sub("
helper_text h_mul = codes "lt_mul("
helper_text h_div = codes "lt_div("
helper_text h_mod = codes "lt_mod("
helper_text h_min = codes "lt_min("
helper_text h_max = codes "lt_max("
helper_text h_gcd = codes "lt_gcd("

abbrev pub operator_text : Operator → List ℕ
operator_text o_eq = codes " == "
operator_text o_ne = codes " != "
operator_text o_lt = codes " < "
operator_text o_le = codes " <= "
operator_text o_gt = codes " > "
operator_text o_ge = codes " >= "
operator_text o_and = codes " && "
operator_text o_or = codes " || "

-- a number of 64 bits. C has no literal of the least one
abbrev pub integer_text : ℤ → List ℕ
integer_text (pos n) = codes "INT64_C(" ++ (decimal n ++ codes ")")
integer_text (negsuc n) = if nat_eq n 9223372036854775807 then codes "INT64_MIN" else codes "(-INT64_C(" ++ (decimal (suc n) ++ codes "))")

abbrev pub c_truth_text : Bool → List ℕ
c_truth_text true = codes "true"
c_truth_text false = codes "false"

abbrev pub tree_text : Spelling → Tree → List ℕ
tree_text nm (c_integer z) = integer_text z
tree_text nm (c_truth b) = c_truth_text b
tree_text nm (c_var x) = nm x
tree_text nm (c_negate a) = codes "lt_neg(" ++ (tree_text nm a ++ codes ")")
tree_text nm (c_call h a b) = helper_text h ++ (tree_text nm a ++ (codes ", " ++ (tree_text nm b ++ codes ")")))
tree_text nm (c_not a) = codes "(!" ++ (tree_text nm a ++ codes ")")
tree_text nm (c_join o a b) = codes "(" ++ (tree_text nm a ++ (operator_text o ++ (tree_text nm b ++ codes ")")))
tree_text nm (c_choice c a b) = codes "(" ++ (tree_text nm c ++ (codes " ? " ++ (tree_text nm a ++ (codes " : " ++ (tree_text nm b ++ codes ")")))))

-- a variable with what it is to be
abbrev pub condition_text : Spelling → ℕ → Bool → List ℕ
condition_text nm c true = nm (slot c)
condition_text nm c false = codes "!" ++ nm (slot c)

-- conditions, the last of the list first
abbrev pub conditions_text : Spelling → ClockPairs → List ℕ
conditions_text nm [] = codes "true"
conditions_text nm ((c, b) ∷ []) = condition_text nm c b
conditions_text nm ((c, b) ∷ p ∷ ck) = conditions_text nm (p ∷ ck) ++ (codes " && " ++ condition_text nm c b)

-- the same where C has parentheses of its own around it
abbrev pub open_text : Spelling → Tree → List ℕ
open_text nm (c_join o a b) = tree_text nm a ++ (operator_text o ++ tree_text nm b)
open_text nm e = tree_text nm e

-- whether a branch has an else
abbrev pub has_else : Statement → Bool
has_else (assign x e) = true
has_else (only ck s) = true
has_else (branch e s t) = true
has_else (both s t) = true
has_else nothing = false
has_else (perform s) = true
has_else (noted t s) = true

-- the end of a branch behind its indentation, and what it does otherwise, whose text is given
abbrev pub closing_text : (otherwise : Bool) → (before tree_text : List ℕ) → List ℕ
closing_text true before t = codes "} else {\n" ++ (t ++ (before ++ codes "}\n"))
closing_text false before t = codes "}\n"

-- a statement, with so much before each of its lines
abbrev pub statement_text : Spelling → List ℕ → Statement → List ℕ
statement_text nm before (assign x e) = before ++ (nm x ++ (codes " = " ++ (tree_text nm e ++ codes ";\n")))
statement_text nm before (only ck s) = before ++ (codes "if (" ++ (conditions_text nm ck ++ (codes ") {\n" ++ (statement_text nm (codes "    " ++ before) s ++ (before ++ codes "}\n")))))
statement_text nm before (branch e s t) =
    before ++ (codes "if (" ++ (open_text nm e ++ (codes ") {\n" ++ (statement_text nm (codes "    " ++ before) s
    ++ (before ++ closing_text (has_else t) before (statement_text nm (codes "    " ++ before) t))))))
statement_text nm before (both s t) = statement_text nm before s ++ statement_text nm before t
statement_text nm before nothing = []
-- the call of the step of a part
statement_text nm before (perform s) = before ++ codes "execute();\n"
statement_text nm before (noted t s) = before ++ (codes "/* " ++ (t ++ (codes " */\n" ++ statement_text nm before s)))
