-- Words of the printer's contracts.
use Rattle.std.specs.Prelude.{ℕ, Bool, true, false, List, [], ◌++◌, codes, pos, nat_lt, is_some, if◌then◌else◌}
use Rattle.lt_base.specs.declared.value.Value.TheVariants.{Int}
use Rattle.lt_syntax.specs.declared.tree.DeclText.{DeclText}
use Rattle.lt_syntax.specs.declared.tree.NodeText.{NodeText}
use Rattle.lt_syntax.specs.Tree as tree
use Rattle.lt_syntax.specs.Tree.{Tm}
use Rattle.lt_syntax.specs.Grammar.{literal}
use Rattle.lt_print.specs.Canonical.{placed, text, decl_text, decls_text, locals_text, equation_lines}

-- a term would be read as a literal to the left of `fby` or `->`
abbrev pub looks_led : Tm → Bool
looks_led t = is_some (literal (placed 2 t))

-- what stands before the item at this place
abbrev pub comma_before : ℕ → List ℕ
comma_before i = if nat_lt 0 i then codes ", " else []

abbrev pub semicolon_before : ℕ → List ℕ
semicolon_before i = if nat_lt 0 i then codes "; " else []

-- a number as a text writes it
abbrev pub is_number_term : Tm → Bool
is_number_term (tree.Lit (Int (pos n))) = true
is_number_term _ = false

-- a literal
abbrev pub is_literal : Tm → Bool
is_literal (tree.Lit v) = true
is_literal _ = false

-- the text before the outputs, and behind them
abbrev pub head_text : NodeText → List ℕ
head_text n = codes "node " ++ (n.name ++ (codes "(" ++ decls_text n.ins))

abbrev pub body_text : NodeText → List ℕ
body_text n = locals_text n.locals ++ (codes "let\n" ++ (equation_lines n.eqs ++ codes "tel\n"))

-- the line of a local, and of an equation
abbrev pub local_line : DeclText → List ℕ
local_line d = codes "  " ++ (decl_text d ++ codes ";\n")

abbrev pub equation_line : List ℕ × Tm → List ℕ
equation_line e = codes "  " ++ (e.0 ++ (codes " = " ++ (text (placed 1 e.1) ++ codes ";\n")))
