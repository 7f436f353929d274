-- Expressions over cells: what is left of a right side when its delays and calls have cells of their own.
use Rattle.std.specs.Prelude.{ℕ, Option, Some}
use Rattle.std.specs.Option.{option_and_then}
use Rattle.lt_base.specs.declared.value.Value.{Value}
use Rattle.lt_base.specs.declared.operators.Un.{Un}
use Rattle.lt_base.specs.declared.operators.Bin.{Bin}
use Rattle.lt_base.specs.declared.operators.Imp.{Imp}
use Rattle.lt_base.specs.Operators.{op1, op2, imp_value}
use Rattle.lt_base.specs.Meaning.{Environment, both, pick}
use Rattle.lt_meaning.specs.declared.node.Node.{Node, Literal, Cell, Kept, Unary', Binary', Imported', Choose', Merge'}

-- a node without pointers
pub data NodeForm : Type 0 where
  constant : Value → NodeForm
  at : ℕ → NodeForm
  kept : ℕ → NodeForm
  one : Un → NodeForm → NodeForm
  two : Bin → NodeForm → NodeForm → NodeForm
  named : Imp → NodeForm → NodeForm → NodeForm
  either : NodeForm → NodeForm → NodeForm → NodeForm
  joined : ℕ → NodeForm → NodeForm → NodeForm

abbrev pub node_form : Node → NodeForm
node_form (Literal v) = constant v
node_form (Cell x) = at x
node_form (Kept k) = kept k
node_form (Unary' o p a) = one o (node_form a)
node_form (Binary' o p a q b) = two o (node_form a) (node_form b)
node_form (Imported' o p a q b) = named o (node_form a) (node_form b)
node_form (Choose' p c q a r b) = either (node_form c) (node_form a) (node_form b)
node_form (Merge' c p a q b) = joined c (node_form a) (node_form b)

-- its value over the cells and over what the delays kept
abbrev pub value_in : Environment → Environment → NodeForm → Option Value
value_in env old (constant v) = Some v
value_in env old (at x) = env x
value_in env old (kept k) = old k
value_in env old (one o a) = option_and_then (op1 o) (value_in env old a)
value_in env old (two o a b) = both (op2 o) (value_in env old a) (value_in env old b)
value_in env old (named o a b) = both (imp_value o) (value_in env old a) (value_in env old b)
value_in env old (either c a b) = pick (value_in env old c) (value_in env old a) (value_in env old b)
value_in env old (joined c a b) = pick (env c) (value_in env old a) (value_in env old b)
