-- How all variables of a node's file are written.
use Rattle.std.specs.Prelude.{ℕ, zero, suc, ◌++◌, List, [], ◌∷◌, codes, decimal}
use Rattle.lt_base.specs.declared.function.Decl.{Decl}
use Rattle.lt_c.specs.Tree.{slot, did, more, phase, left, sent, executed, bit, read, payload, ack, seen, input, output, has, message_bit, message, answer_bit, executions, sendings, newest, answered, message_number, answer_number, posted}
use Rattle.lt_c.specs.Text.{Spelling, name_at, spelled}

-- the name of a node, and of another number nothing
abbrev pub node_at : List (List ℕ) → ℕ → List ℕ
node_at [] j = []
node_at (n ∷ ns) zero = n
node_at (n ∷ ns) (suc j) = node_at ns j

-- by the part's variables, the program's and the nodes' names
abbrev pub spelled_in : List Decl → List Decl → List (List ℕ) → Spelling
spelled_in ds main ns (slot x) = spelled ds (slot x)
spelled_in ds main ns did = codes "did"
spelled_in ds main ns more = codes "more"
spelled_in ds main ns phase = codes "phase"
spelled_in ds main ns left = codes "left"
spelled_in ds main ns sent = codes "sent"
spelled_in ds main ns executed = codes "executed"
spelled_in ds main ns (bit j) = codes "data_" ++ (node_at ns j ++ codes ".bit")
spelled_in ds main ns (read j) = codes "read_" ++ node_at ns j
spelled_in ds main ns (payload j k) = codes "data_" ++ (node_at ns j ++ (codes ".m" ++ decimal k))
spelled_in ds main ns (ack j) = codes "ack_" ++ node_at ns j
spelled_in ds main ns (seen j) = codes "seen_" ++ node_at ns j
spelled_in ds main ns (input i) = codes "in->in_" ++ name_at main i
spelled_in ds main ns (output y) = codes "out->out_" ++ name_at main y
spelled_in ds main ns (has y) = codes "out->has_" ++ name_at main y
spelled_in ds main ns message_bit = codes "message->bit"
spelled_in ds main ns (message k) = codes "message->m" ++ decimal k
spelled_in ds main ns answer_bit = codes "bit"
spelled_in ds main ns executions = codes "executions"
spelled_in ds main ns sendings = codes "sendings"
spelled_in ds main ns (newest j) = codes "data_" ++ (node_at ns j ++ codes ".number")
spelled_in ds main ns (answered j) = codes "answered_" ++ node_at ns j
spelled_in ds main ns message_number = codes "message->number"
spelled_in ds main ns answer_number = codes "number"
spelled_in ds main ns (posted j k) = codes "posted_" ++ (node_at ns j ++ (codes ".m" ++ decimal k))
