-- One more inbox before others.
use Rattle.std.specs.Prelude.{ℕ}
use Rattle.lt_c_control.specs.declared.posts.Post.{Post}
use Rattle.lt_c.specs.Tree.{Tree, slot, bit, read, ack, seen, executions, newest, answered, posted, c_var, c_join, o_and, o_or, o_ne, o_le, Statement, assign, both}

abbrev pub data_step : ℕ → Tree → Tree
data_step j rest = c_join o_and (c_join o_ne (c_var (bit j)) (c_var (read j))) rest

abbrev pub some_step : ℕ → Tree → Tree
some_step j rest = c_join o_or (c_join o_ne (c_var (bit j)) (c_var (read j))) rest

abbrev pub ack_step : ℕ → Tree → Tree
ack_step j rest = c_join o_and (c_join o_ne (c_var (ack j)) (c_var (seen j))) rest

abbrev pub read_step : ℕ → Statement → Statement
read_step j rest = both (assign (read j) (c_var (bit j))) rest

abbrev pub seen_step : ℕ → Statement → Statement
seen_step j rest = both (assign (seen j) (c_var (ack j))) rest

abbrev pub new_step : ℕ → Tree → Tree
new_step j rest = c_join o_and (c_join o_le (c_var executions) (c_var (newest j))) rest

abbrev pub answer_step : ℕ → Tree → Tree
answer_step j rest = c_join o_and (c_join o_le (c_var executions) (c_var (answered j))) rest

-- one more value that is posted
abbrev pub post_step : Post → Statement → Statement
post_step p rest = both (assign (posted p.to_node p.at_place) (c_var (slot p.from_slot))) rest
