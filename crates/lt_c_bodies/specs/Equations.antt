-- Equations in the language's own notation, which stand as comments above their statements.
use Rattle.std.specs.Prelude.{◌≡◌, ℕ, suc, ◌++◌, Bool, true, false, List, [], ◌∷◌, codes, decimal, ℤ, pos, negsuc}
use Rattle.lt_base.specs.declared.value.Value.{Value}
use Rattle.lt_base.specs.declared.value.Value.TheVariants.{Int, Bool as Truth}
use Rattle.lt_base.specs.declared.function.Decl.{Decl}
use Rattle.lt_base.specs.declared.operators.Un.{Un}
use Rattle.lt_base.specs.declared.operators.Un.TheVariants.{Neg, Not}
use Rattle.lt_base.specs.declared.operators.Bin.{Bin}
use Rattle.lt_base.specs.declared.operators.Bin.TheVariants.{Add, Sub, Mul, Div, Mod, Eq, Ne, Lt, Le, Gt, Ge, And, Or, Xor, Implies}
use Rattle.lt_base.specs.declared.operators.Imp.{Imp}
use Rattle.lt_base.specs.declared.operators.Imp.TheVariants.{Min, Max, Gcd}
use Rattle.lt_base.specs.Expression.{Expression, literal, variable, unary, binary, imported, choose, sampled, merged, delayed, follow, arrow, call}
use Rattle.lt_step.specs.Code.{LetForm}
use Rattle.lt_c.specs.Tree.{Statement, both, nothing, noted}
use Rattle.lt_c.specs.Text.{name_at}
use Rattle.lt_c.specs.Meaning.{Store, store_left}
use Rattle.lt_c_step.specs.Translate.{of_let, of_lets}

-- a variable by its name; one that the compiler made has a v and its number
abbrev pub named_or_numbered : List ℕ → ℕ → List ℕ
named_or_numbered [] x = codes "v" ++ decimal x
named_or_numbered (b ∷ bs) x = b ∷ bs

abbrev pub told_variable : List Decl → ℕ → List ℕ
told_variable ds x = named_or_numbered (name_at ds x) x

-- a literal
abbrev pub told_integer : ℤ → List ℕ
told_integer (pos n) = decimal n
told_integer (negsuc n) = codes "-" ++ decimal (suc n)

abbrev pub told_value : Value → List ℕ
told_value (Int z) = told_integer z
told_value (Truth true) = codes "true"
told_value (Truth false) = codes "false"

-- operators
abbrev pub told_unary : Un → List ℕ
told_unary Neg = codes "(-"
told_unary Not = codes "(not "

abbrev pub told_binary : Bin → List ℕ
told_binary Add = codes " + "
told_binary Sub = codes " - "
told_binary Mul = codes " * "
told_binary Div = codes " div "
told_binary Mod = codes " mod "
told_binary Eq = codes " = "
told_binary Ne = codes " <> "
told_binary Lt = codes " < "
told_binary Le = codes " <= "
told_binary Gt = codes " > "
told_binary Ge = codes " >= "
told_binary And = codes " and "
told_binary Or = codes " or "
told_binary Xor = codes " xor "
told_binary Implies = codes " => "

abbrev pub told_imported : Imp → List ℕ
told_imported Min = codes "min("
told_imported Max = codes "max("
told_imported Gcd = codes "gcd("

-- the clock of a sample
abbrev pub told_clock : List Decl → ℕ → Bool → List ℕ
told_clock ds c true = codes " when " ++ (told_variable ds c ++ codes ")")
told_clock ds c false = codes " when not " ++ (told_variable ds c ++ codes ")")

-- an expression. Step code has neither delays nor calls
abbrev pub told_expression : List Decl → Expression → List ℕ
told_expression ds (literal v) = told_value v
told_expression ds (variable x) = told_variable ds x
told_expression ds (unary o a) = told_unary o ++ (told_expression ds a ++ codes ")")
told_expression ds (binary o a b) = codes "(" ++ (told_expression ds a ++ (told_binary o ++ (told_expression ds b ++ codes ")")))
told_expression ds (imported o a b) = told_imported o ++ (told_expression ds a ++ (codes ", " ++ (told_expression ds b ++ codes ")")))
told_expression ds (choose c a b) = codes "(if " ++ (told_expression ds c ++ (codes " then " ++ (told_expression ds a ++ (codes " else " ++ (told_expression ds b ++ codes ")")))))
told_expression ds (sampled e c b) = codes "(" ++ (told_expression ds e ++ told_clock ds c b)
told_expression ds (merged c a b) = (codes "(merge " ++ told_variable ds c) ++ (codes " " ++ (told_expression ds a ++ (codes " " ++ (told_expression ds b ++ codes ")"))))
told_expression ds (delayed v e) = []
told_expression ds (follow a b) = []
told_expression ds (arrow a b) = []
told_expression ds (call g args) = []

-- an equation, by the let that it became
abbrev pub told_equation : List Decl → LetForm → List ℕ
told_equation ds l = told_variable ds l.slot ++ (codes " = " ++ told_expression ds l.operand)

-- each let under its equation
abbrev pub told_lets : List Decl → List LetForm → Statement
told_lets ds [] = nothing
told_lets ds (l ∷ ls) = both (noted (told_equation ds l) (of_let l)) (told_lets ds ls)

-- comments change nothing: the statements leave what those of the lets leave
abbrev pub CommentsChangeNothing : Type 0
CommentsChangeNothing = (ds : List Decl) (ls : List LetForm) (m : Store) → store_left (told_lets ds ls) m ≡ store_left (of_lets ls) m
