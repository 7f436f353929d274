-- Trees without pointers.
use Rattle.lt_c.specs.declared.trees.Variable.{Variable}
use Rattle.lt_c.specs.declared.trees.Variable.TheVariants.{Slot, Did, More, Phase, Left, Sent, Executed, Bit, Read, Payload, Ack, Seen, Input, Output, Has, MessageBit, Message, AnswerBit, Executions, Sendings, Newest, Answered, MessageNumber, AnswerNumber, Posted}
use Rattle.lt_c.specs.declared.trees.Function.{Function}
use Rattle.lt_c.specs.declared.trees.Function.TheVariants.{Add, Sub, Mul, Div, Mod, Min, Max, Gcd}
use Rattle.lt_c.specs.declared.trees.Symbol.{Symbol}
use Rattle.lt_c.specs.declared.trees.Symbol.TheVariants.{Eq, Ne, Lt, Le, Gt, Ge, And, Or}
use Rattle.lt_c.specs.declared.trees.Expression as f
use Rattle.lt_c.specs.declared.trees.Expression.{Expression}
use Rattle.lt_c.specs.declared.trees.Action as a
use Rattle.lt_c.specs.declared.trees.Action.{Action}
use Rattle.lt_c.specs.Tree.{CVariable, slot, did, more, phase, left, sent, executed, bit, read, payload, ack, seen, input, output, has, message_bit, message, answer_bit, executions, sendings, newest, answered, message_number, answer_number, posted, Helper, h_add, h_sub, h_mul, h_div, h_mod, h_min, h_max, h_gcd, Operator, o_eq, o_ne, o_lt, o_le, o_gt, o_ge, o_and, o_or, Tree, c_integer, c_truth, c_var, c_negate, c_call, c_not, c_join, c_choice, Statement, assign, branch, both, nothing, perform, noted}

abbrev pub place_in : Variable → CVariable
place_in (Slot x) = slot x
place_in Did = did
place_in More = more
place_in Phase = phase
place_in Left = left
place_in Sent = sent
place_in Executed = executed
place_in (Bit j) = bit j
place_in (Read j) = read j
place_in (Payload j k) = payload j k
place_in (Ack j) = ack j
place_in (Seen j) = seen j
place_in (Input i) = input i
place_in (Output y) = output y
place_in (Has y) = has y
place_in MessageBit = message_bit
place_in (Message k) = message k
place_in AnswerBit = answer_bit
place_in Executions = executions
place_in Sendings = sendings
place_in (Newest j) = newest j
place_in (Answered j) = answered j
place_in MessageNumber = message_number
place_in AnswerNumber = answer_number
place_in (Posted j k) = posted j k

abbrev pub helper_of : Function → Helper
helper_of Add = h_add
helper_of Sub = h_sub
helper_of Mul = h_mul
helper_of Div = h_div
helper_of Mod = h_mod
helper_of Min = h_min
helper_of Max = h_max
helper_of Gcd = h_gcd

abbrev pub viewed_operator : Symbol → Operator
viewed_operator Eq = o_eq
viewed_operator Ne = o_ne
viewed_operator Lt = o_lt
viewed_operator Le = o_le
viewed_operator Gt = o_gt
viewed_operator Ge = o_ge
viewed_operator And = o_and
viewed_operator Or = o_or

abbrev pub tree_of : Expression → Tree
tree_of (f.Number z) = c_integer z
tree_of (f.Truth b) = c_truth b
tree_of (f.Var p) = c_var (place_in p)
tree_of (f.Negate' p a) = c_negate (tree_of a)
tree_of (f.Call' h p a q b) = c_call (helper_of h) (tree_of a) (tree_of b)
tree_of (f.Not' p a) = c_not (tree_of a)
tree_of (f.Join' o p a q b) = c_join (viewed_operator o) (tree_of a) (tree_of b)
tree_of (f.Choice' p c q a r b) = c_choice (tree_of c) (tree_of a) (tree_of b)

-- where the step of the part is this statement
abbrev pub statement_of : Statement → Action → Statement
statement_of run a.Nothing = nothing
statement_of run (a.Assign p e) = assign (place_in p) (tree_of e)
statement_of run (a.Branch' e p s q t) = branch (tree_of e) (statement_of run s) (statement_of run t)
statement_of run (a.Both' p s q t) = both (statement_of run s) (statement_of run t)
statement_of run a.Run = perform run
statement_of run (a.Noted' t p s) = noted t (statement_of run s)
