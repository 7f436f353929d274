-- The types of an emitted file's variables, and that those of the type bool hold 0 or 1: what C keeps in a bool is the number that was assigned.
use Rattle.std.specs.Prelude.{◌≡◌, ℕ, ℤ}
use Rattle.lt_base.specs.declared.value.Ty.{Ty}
use Rattle.lt_base.specs.declared.value.Ty.TheVariants.{Int, Bool as Truth}
use Rattle.lt_c.specs.Tree.{CVariable, slot, did, more, phase, left, sent, executed, bit, read, payload, ack, seen, input, output, has, message_bit, message, answer_bit, executions, sendings, newest, answered, message_number, answer_number, posted, Tree, c_integer, c_truth, c_var, c_negate, c_call, c_not, c_join, c_choice, Statement, assign, only, branch, both, nothing, perform, noted}
use Rattle.lt_c.specs.Meaning.{Store, c_truth_of, of_truth, store_left}

-- the types of what a program declares: slots, values of messages that came, of one that comes or goes and of those that are sent again, inputs and outputs
pub record Types : Type 0 where
  pub slot_type : ℕ → Ty
  pub payload_type : ℕ → ℕ → Ty
  pub message_type : ℕ → Ty
  pub posted_type : ℕ → ℕ → Ty
  pub input_type : ℕ → Ty
  pub output_type : ℕ → Ty

-- the type of a variable: int64_t, or bool
abbrev pub c_type_of : Types → CVariable → Ty
c_type_of ts (slot x) = ts.slot_type x
c_type_of ts did = Int
c_type_of ts more = Truth
c_type_of ts phase = Int
c_type_of ts left = Int
c_type_of ts sent = Truth
c_type_of ts executed = Truth
c_type_of ts (bit j) = Truth
c_type_of ts (read j) = Truth
c_type_of ts (payload j k) = ts.payload_type j k
c_type_of ts (ack j) = Truth
c_type_of ts (seen j) = Truth
c_type_of ts (input i) = ts.input_type i
c_type_of ts (output y) = ts.output_type y
c_type_of ts (has y) = Truth
c_type_of ts message_bit = Truth
c_type_of ts (message k) = ts.message_type k
c_type_of ts answer_bit = Truth
c_type_of ts executions = Int
c_type_of ts sendings = Int
c_type_of ts (newest j) = Int
c_type_of ts (answered j) = Int
c_type_of ts message_number = Int
c_type_of ts answer_number = Int
c_type_of ts (posted j k) = ts.posted_type j k

-- the number is 0 or 1
abbrev pub IsTruthNumber : ℤ → Type 0
IsTruthNumber z = of_truth (c_truth_of z) ≡ z

-- every bool holds 0 or 1
abbrev pub HoldsTruths : Types → Store → Type 0
HoldsTruths ts m = (p : CVariable) → c_type_of ts p ≡ Truth → IsTruthNumber (m p)

-- the expression has a truth value: a literal, a bool, a comparison or a connection of others, or a choice of two such
abbrev pub IsTruthTree : Types → Tree → Type 0
IsTruthTree ts (c_integer z) = ⊥
IsTruthTree ts (c_truth b) = Unit {0}
IsTruthTree ts (c_var p) = c_type_of ts p ≡ Truth
IsTruthTree ts (c_negate a) = ⊥
IsTruthTree ts (c_call h a b) = ⊥
IsTruthTree ts (c_not a) = Unit {0}
IsTruthTree ts (c_join o a b) = Unit {0}
IsTruthTree ts (c_choice c a b) = IsTruthTree ts a × IsTruthTree ts b

-- what is assigned to a bool has a truth value
abbrev pub AssignsTruths : Types → Statement → Type 0
AssignsTruths ts (assign p e) = c_type_of ts p ≡ Truth → IsTruthTree ts e
AssignsTruths ts (only ck s) = AssignsTruths ts s
AssignsTruths ts (branch e s t) = AssignsTruths ts s × AssignsTruths ts t
AssignsTruths ts (both s t) = AssignsTruths ts s × AssignsTruths ts t
AssignsTruths ts nothing = Unit {0}
AssignsTruths ts (perform s) = AssignsTruths ts s
AssignsTruths ts (noted t s) = AssignsTruths ts s

-- then a bool goes on to hold 0 or 1
abbrev pub TruthsStay : Type 0
TruthsStay = (ts : Types) (s : Statement) → AssignsTruths ts s → (m : Store) → HoldsTruths ts m → HoldsTruths ts (store_left s m)
