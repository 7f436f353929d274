-- The subset of C that is emitted, as trees.
use Rattle.std.specs.Prelude.{ℕ, ◌&&◌, Bool, ℤ, List, nat_eq}
use Rattle.lt_base.specs.Meaning.{ClockPairs}

-- a variable of an emitted file
pub data CVariable : Type 0 where
  -- a slot of the step code
  slot : ℕ → CVariable
  -- what this activation did, and whether an instant's inputs are at hand
  did : CVariable
  more : CVariable
  -- the controller's phase, and what is left of its countdown
  phase : CVariable
  left : CVariable
  -- the bit of the messages that were sent last, and of the last acknowledgements
  sent : CVariable
  executed : CVariable
  -- of the inbox for data of a node, by its number: the bit, the bit that was read last, and the value at a place of the payload
  bit : ℕ → CVariable
  read : ℕ → CVariable
  payload : ℕ → ℕ → CVariable
  -- of the inbox for a node's acknowledgements: the bit, and the bit that was read last
  ack : ℕ → CVariable
  seen : ℕ → CVariable
  -- an input of the program at this activation
  input : ℕ → CVariable
  -- an output of the program: its value, and whether it has one at this instant
  output : ℕ → CVariable
  has : ℕ → CVariable
  -- a message that comes or goes: its bit, and the value at a place of its payload
  message_bit : CVariable
  message : ℕ → CVariable
  -- the bit of an acknowledgement that comes
  answer_bit : CVariable
  -- where links lose messages: how many instants were executed and how many messages were sent, the greatest number in the inbox for data
  -- of a node and in that for its acknowledgements, and the number of a message and of an acknowledgement that comes or goes
  executions : CVariable
  sendings : CVariable
  newest : ℕ → CVariable
  answered : ℕ → CVariable
  message_number : CVariable
  answer_number : CVariable
  -- the value at a place of the last message to a node, which is sent again
  posted : ℕ → ℕ → CVariable

-- the kind of a variable, as a number
abbrev pub tag : CVariable → ℕ
tag (slot x) = 0
tag did = 1
tag more = 2
tag phase = 3
tag left = 4
tag sent = 5
tag executed = 6
tag (bit j) = 7
tag (read j) = 8
tag (payload j k) = 9
tag (ack j) = 10
tag (seen j) = 11
tag (input i) = 12
tag (output y) = 13
tag (has y) = 14
tag message_bit = 15
tag (message k) = 16
tag answer_bit = 17
tag executions = 18
tag sendings = 19
tag (newest j) = 20
tag (answered j) = 21
tag message_number = 22
tag answer_number = 23
tag (posted j k) = 24

-- the numbers in it; 0 where it has none
abbrev pub variable_number : CVariable → ℕ
variable_number (slot x) = x
variable_number did = 0
variable_number more = 0
variable_number phase = 0
variable_number left = 0
variable_number sent = 0
variable_number executed = 0
variable_number (bit j) = j
variable_number (read j) = j
variable_number (payload j k) = j
variable_number (ack j) = j
variable_number (seen j) = j
variable_number (input i) = i
variable_number (output y) = y
variable_number (has y) = y
variable_number message_bit = 0
variable_number (message k) = k
variable_number answer_bit = 0
variable_number executions = 0
variable_number sendings = 0
variable_number (newest j) = j
variable_number (answered j) = j
variable_number message_number = 0
variable_number answer_number = 0
variable_number (posted j k) = j

abbrev pub second_in : CVariable → ℕ
second_in (slot x) = 0
second_in did = 0
second_in more = 0
second_in phase = 0
second_in left = 0
second_in sent = 0
second_in executed = 0
second_in (bit j) = 0
second_in (read j) = 0
second_in (payload j k) = k
second_in (ack j) = 0
second_in (seen j) = 0
second_in (input i) = 0
second_in (output y) = 0
second_in (has y) = 0
second_in message_bit = 0
second_in (message k) = 0
second_in answer_bit = 0
second_in executions = 0
second_in sendings = 0
second_in (newest j) = 0
second_in (answered j) = 0
second_in message_number = 0
second_in answer_number = 0
second_in (posted j k) = k

-- the two are one
abbrev pub same : CVariable → CVariable → Bool
same a b = nat_eq (tag a) (tag b) && (nat_eq (second_in a) (second_in b) && nat_eq (variable_number a) (variable_number b))

-- the functions of two 64-bit numbers that stand at the head of an emitted file
pub data Helper : Type 0 where
  h_add : Helper
  h_sub : Helper
  h_mul : Helper
  h_div : Helper
  h_mod : Helper
  h_min : Helper
  h_max : Helper
  h_gcd : Helper

-- the operators of C that are used: ==, !=, <, <=, >, >=, && and ||
pub data Operator : Type 0 where
  o_eq : Operator
  o_ne : Operator
  o_lt : Operator
  o_le : Operator
  o_gt : Operator
  o_ge : Operator
  o_and : Operator
  o_or : Operator

-- an expression
pub data Tree : Type 0 where
  c_integer : ℤ → Tree
  c_truth : Bool → Tree
  c_var : CVariable → Tree
  -- a call of the function that negates, and of one of the others
  c_negate : Tree → Tree
  c_call : Helper → Tree → Tree → Tree
  -- ! a
  c_not : Tree → Tree
  c_join : Operator → Tree → Tree → Tree
  -- c ? a : b
  c_choice : Tree → Tree → Tree → Tree

-- a statement
pub data Statement : Type 0 where
  -- x = e;
  assign : CVariable → Tree → Statement
  -- if (c1 && !c2 ..) { s }, where the conditions are slots with what they are to be, the first of them last
  only : ClockPairs → Statement → Statement
  -- if (e) { s } else { t }, or if (e) { s } where t is nothing
  branch : Tree → Statement → Statement → Statement
  -- s t
  both : Statement → Statement → Statement
  nothing : Statement
  -- a call of the function that does s
  perform : Statement → Statement
  -- s, with a comment before it
  noted : List ℕ → Statement → Statement
