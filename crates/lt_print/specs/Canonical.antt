-- The canonical text of a tree.
use Rattle.std.specs.Prelude.{ℕ, ◌++◌, Bool, true, false, List, [], ◌∷◌, codes, decimal, nat_le, Option, Some, None, pos, negsuc, nat_abs, if◌then◌else◌}
use Rattle.lt_base.specs.declared.operators.Bin.TheVariants.{Add, Sub, Mul, Div, Mod, Eq, Ne, Lt, Le, Gt, Ge, And, Or, Xor, Implies}
use Rattle.lt_base.specs.declared.operators.Un.TheVariants.{Neg, Not}
use Rattle.lt_base.specs.declared.value.Ty.{Ty}
use Rattle.lt_base.specs.declared.value.Ty.TheVariants as ty
use Rattle.lt_base.specs.declared.value.Value.{Value}
use Rattle.lt_base.specs.declared.value.Value.TheVariants.{Int, Bool as Truth}
use Rattle.lt_tokens.specs.declared.token.Infix.{Infix}
use Rattle.lt_tokens.specs.declared.token.Infix.TheVariants.{Operator, Fby, Arrow}
use Rattle.lt_syntax.specs.declared.tree.DeclText.{DeclText}
use Rattle.lt_syntax.specs.declared.tree.NodeText.{NodeText}
use Rattle.lt_syntax.specs.Tree as tree
use Rattle.lt_syntax.specs.Tree.{Tm, Tms}
use Rattle.lt_syntax.specs.Levels.{infix_line, level, left_level, right_level}
use Rattle.lt_syntax.specs.Grammar.{Form, Forms, number, truth, name, paren, minus, negated, binary, choice, sampled, merged, call, nil, cons, literal}
use Rattle.lt_base.specs.TypeText.{ty_text}

-- the form where the place asks for level l: in parentheses where its own level is lower
abbrev pub parenthesized : ℕ → ℕ → Form → Form
parenthesized l own a = if nat_le l own then a else paren a

-- a literal, with - before a negative number
abbrev pub value_form : Value → Form
value_form (Int (pos n)) = number n
value_form (Int (negsuc n)) = minus (number (nat_abs (negsuc n)))
value_form (Truth b) = truth b

-- a left side of `fby` or `->` that is no literal, but would be read as one, is in parentheses
abbrev pub guarded_literal : Option Value → Form → Form
guarded_literal (Some v) a = paren a
guarded_literal None a = a

abbrev pub led : Form → Form
led a = guarded_literal (literal a) a

-- the left side of `->`: a literal is one value
abbrev pub arrow_left : Tm → Form → Form
arrow_left (tree.Lit v) a = value_form v
arrow_left t a = led a

-- the level of a term's own form
abbrev pub level_of : Tm → ℕ
level_of (tree.Lit v) = 12
level_of (tree.Var x) = 12
level_of (tree.Unary Neg a) = 10
level_of (tree.Unary Not a) = 5
level_of (tree.Binary o a b) = level (infix_line (Operator o))
level_of (tree.Choice c a b) = 1
level_of (tree.Sampled a c b) = 9
level_of (tree.Merged c a b) = 11
level_of (tree.Delayed v b) = 1
level_of (tree.Followed a b) = 1
level_of (tree.Arrow a b) = 1
level_of (tree.Call f xs) = 11

-- the canonical form, without parentheses around it
abbrev mutual
  pub bare : Tm → Form
  bare (tree.Lit v) = value_form v
  bare (tree.Var x) = name x
  bare (tree.Unary Neg a) = minus (parenthesized 11 (level_of a) (bare a))
  bare (tree.Unary Not a) = negated (parenthesized 5 (level_of a) (bare a))
  bare (tree.Binary o a b) = binary (Operator o) (parenthesized (left_level (infix_line (Operator o))) (level_of a) (bare a)) (parenthesized (right_level (infix_line (Operator o))) (level_of b) (bare b))
  bare (tree.Choice c a b) = choice (parenthesized 1 (level_of c) (bare c)) (parenthesized 1 (level_of a) (bare a)) (parenthesized 1 (level_of b) (bare b))
  bare (tree.Sampled a c b) = sampled (parenthesized 9 (level_of a) (bare a)) c b
  bare (tree.Merged c a b) = merged c (parenthesized 12 (level_of a) (bare a)) (parenthesized 12 (level_of b) (bare b))
  bare (tree.Delayed v b) = binary Fby (value_form v) (parenthesized 1 (level_of b) (bare b))
  bare (tree.Followed a b) = binary Fby (led (parenthesized 2 (level_of a) (bare a))) (parenthesized 1 (level_of b) (bare b))
  bare (tree.Arrow a b) = binary Arrow (arrow_left a (parenthesized 2 (level_of a) (bare a))) (parenthesized 1 (level_of b) (bare b))
  bare (tree.Call f xs) = call f (all_bare xs)

  pub all_bare : Tms → Forms
  all_bare tree.Nil = nil
  all_bare (tree.Cons a xs) = cons (parenthesized 1 (level_of a) (bare a)) (all_bare xs)

-- the canonical form of a term where the grammar asks for level l
abbrev pub placed : ℕ → Tm → Form
placed l t = parenthesized l (level_of t) (bare t)

abbrev pub operator : Infix → List ℕ
operator Fby = codes "fby"
operator Arrow = codes "->"
operator (Operator Add) = codes "+"
operator (Operator Sub) = codes "-"
operator (Operator Mul) = codes "*"
operator (Operator Div) = codes "div"
operator (Operator Mod) = codes "mod"
operator (Operator Eq) = codes "="
operator (Operator Ne) = codes "<>"
operator (Operator Lt) = codes "<"
operator (Operator Le) = codes "<="
operator (Operator Gt) = codes ">"
operator (Operator Ge) = codes ">="
operator (Operator And) = codes "and"
operator (Operator Or) = codes "or"
operator (Operator Xor) = codes "xor"
operator (Operator Implies) = codes "=>"

abbrev pub truth_text : Bool → List ℕ
truth_text true = codes "true"
truth_text false = codes "false"

-- a clock's variable behind `when`
abbrev pub when_text : List ℕ → Bool → List ℕ
when_text c true = codes " when " ++ c
when_text c false = codes " when not " ++ c

-- the bytes of a form
abbrev mutual
  pub text : Form → List ℕ
  text (number n) = decimal n
  text (truth b) = truth_text b
  text (name x) = x
  text (paren a) = codes "(" ++ (text a ++ codes ")")
  text (minus a) = codes "-" ++ text a
  text (negated a) = codes "not " ++ text a
  text (binary o a b) = text a ++ (codes " " ++ (operator o ++ (codes " " ++ text b)))
  text (choice c a b) = codes "if " ++ (text c ++ (codes " then " ++ (text a ++ (codes " else " ++ text b))))
  text (sampled a c b) = text a ++ when_text c b
  text (merged c a b) = codes "merge " ++ (c ++ (codes " " ++ (text a ++ (codes " " ++ text b))))
  text (call f xs) = f ++ (codes "(" ++ (texts xs ++ codes ")"))

  -- separated by a comma and a space
  pub texts : Forms → List ℕ
  texts nil = []
  texts (cons a nil) = text a
  texts (cons a (cons b xs)) = text a ++ (codes ", " ++ texts (cons b xs))

abbrev pub clocks_text : List (List ℕ × Bool) → List ℕ
clocks_text [] = []
clocks_text (c ∷ cs) = when_text c.0 c.1 ++ clocks_text cs

-- a declaration: the name, the type and the clock
abbrev pub decl_text : DeclText → List ℕ
decl_text d = d.name ++ (codes ": " ++ (ty_text d.ty ++ clocks_text d.clock))

-- declarations separated by a semicolon and a space
abbrev pub decls_text : List DeclText → List ℕ
decls_text [] = []
decls_text (d ∷ []) = decl_text d
decls_text (d ∷ e ∷ ds) = decl_text d ++ (codes "; " ++ decls_text (e ∷ ds))

-- a line for each local
abbrev pub local_lines : List DeclText → List ℕ
local_lines [] = []
local_lines (d ∷ ds) = codes "  " ++ (decl_text d ++ (codes ";\n" ++ local_lines ds))

-- and `var` before them, where there are any
abbrev pub locals_text : List DeclText → List ℕ
locals_text [] = []
locals_text (d ∷ ds) = codes "var\n" ++ local_lines (d ∷ ds)

-- a line for each equation
abbrev pub equation_lines : List (List ℕ × Tm) → List ℕ
equation_lines [] = []
equation_lines (e ∷ es) = codes "  " ++ (e.0 ++ (codes " = " ++ (text (placed 1 e.1) ++ (codes ";\n" ++ equation_lines es))))

abbrev pub node_layout : NodeText → List ℕ
node_layout n =
    codes "node " ++ (n.name ++ (codes "(" ++ (decls_text n.ins ++ (codes ") returns (" ++ (decls_text n.outs ++ (codes ")\n"
    ++ (locals_text n.locals ++ (codes "let\n" ++ (equation_lines n.eqs ++ codes "tel\n")))))))))

-- the canonical text of a tree
abbrev pub canonical : List NodeText → List ℕ
canonical [] = []
canonical (n ∷ ns) = node_layout n ++ canonical ns
