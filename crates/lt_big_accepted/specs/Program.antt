-- The program of the large input: the tree that its text spells.
use Rattle.std.specs.Prelude.{◌≤◌, ℕ, pos, List, [], ◌∷◌, map, length, codes, Ok}
use Rattle.lt_base.specs.declared.function.Decl.{Decl}
use Rattle.lt_base.specs.Expression.{Expression, literal, variable, binary, delayed}
use Rattle.lt_base.specs.Limits.{greatest_height, most_program_bytes}
use Rattle.lt_base.specs.Program.{Function, WholeProgram}
use Rattle.lt_base.specs.declared.operators.Bin.TheVariants.{Add}
use Rattle.lt_base.specs.declared.value.Ty.TheVariants as ty
use Rattle.lt_base.specs.declared.value.Value.TheVariants.{Int}
use Rattle.lt_syntax.specs.declared.tree.DeclText.{DeclText}
use Rattle.lt_syntax.specs.declared.tree.NodeText.{NodeText}
use Rattle.lt_syntax.specs.Tree.{Tm, Lit, Var, Binary, Delayed}
use Rattle.lt_syntax.specs.Program.{Spells}
use Rattle.lt_front.specs.Examined.{ExaminedText}
use Rattle.lt_front.specs.Front.{examine_verdict}
use Rattle.lt_big_texts.specs.Texts.{program_text}

-- an int of this name
abbrev pub int_text : (name : List ℕ) → DeclText
int_text name = record { name = name; ty = ty.Int; clock = [] }

-- what is added to a variable's value at the instant before
abbrev pub after_zero : (added : Tm) (name : List ℕ) → Tm
after_zero added name = Binary Add added (Delayed (Int (pos 0)) (Var name))

-- 1 and a variable's value at the instant before
abbrev pub one_more : (name : List ℕ) → Tm
one_more name = after_zero (Lit (Int (pos 1))) name

-- the names of the outputs
abbrev pub ring_names : List (List ℕ)
ring_names = codes "y0" ∷ codes "y1" ∷ codes "y2" ∷ codes "y3" ∷ codes "y4" ∷ codes "y5" ∷ codes "y6" ∷ codes "y7" ∷ []

-- the equations
abbrev pub large_equations : List (List ℕ × Tm)
large_equations =
    (codes "y0", after_zero (Var (codes "x")) (codes "y7"))
    ∷ (codes "y1", one_more (codes "y0"))
    ∷ (codes "y2", one_more (codes "y1"))
    ∷ (codes "y3", one_more (codes "y2"))
    ∷ (codes "y4", one_more (codes "y3"))
    ∷ (codes "y5", one_more (codes "y4"))
    ∷ (codes "y6", one_more (codes "y5"))
    ∷ (codes "y7", one_more (codes "y6"))
    ∷ []

-- the only function
abbrev pub large_node : NodeText
large_node = record { name = codes "main"; ins = int_text (codes "x") ∷ []; outs = map int_text ring_names; locals = []; eqs = large_equations }

abbrev pub large_tree : List NodeText
large_tree = large_node ∷ []

-- ---- the program that the tree names

abbrev pub int_decl : (name : List ℕ) → Decl
int_decl name = record { name = name; ty = ty.Int; clock = [] }

abbrev pub sum_with_last : (added : Expression) (x : ℕ) → Expression
sum_with_last added x = binary Add added (delayed (Int (pos 0)) (variable x))

abbrev pub last_and_one : (x : ℕ) → Expression
last_and_one x = sum_with_last (literal (Int (pos 1))) x

-- the input has number 0, and the outputs the next ones
abbrev pub large_rights : List (ℕ × Expression)
large_rights =
    (1, sum_with_last (variable 0) 8)
    ∷ (2, last_and_one 1)
    ∷ (3, last_and_one 2)
    ∷ (4, last_and_one 3)
    ∷ (5, last_and_one 4)
    ∷ (6, last_and_one 5)
    ∷ (7, last_and_one 6)
    ∷ (8, last_and_one 7)
    ∷ []

abbrev pub large_function : Function
large_function = record {
  name = codes "main";
  decls = map int_decl (codes "x" ∷ ring_names);
  n_in = 1;
  outs = 1 ∷ 2 ∷ 3 ∷ 4 ∷ 5 ∷ 6 ∷ 7 ∷ 8 ∷ [];
  eqs = large_rights;
}

abbrev pub large_program : WholeProgram
large_program = record { funcs = large_function ∷ []; main = 0 }

abbrev pub large_examined : ExaminedText
large_examined = record { tree = large_tree; program = large_program }

-- the text of the program spells this tree
abbrev pub ProgramSpelled : Type 0
ProgramSpelled = Spells greatest_height program_text large_tree

-- the text, which is not too long, passes every check, as this tree and this program
abbrev pub ProgramAccepted : Type 0
ProgramAccepted = (length program_text ≤ most_program_bytes) × examine_verdict program_text (Ok large_examined)
