-- What crosses between nodes, by the whole program.
use Rattle.std.specs.Prelude.{ℕ, zero, suc, List, [], length, map, filter, Option, unwrap_or}
use Rattle.lt_base.specs.declared.value.Value.{Value}
use Rattle.lt_base.specs.Program.{Function}
use Rattle.lt_base.specs.Meaning.{calls}
use Rattle.lt_arch.specs.declared.shape.Shape.{Shape}
use Rattle.lt_place_reads.specs.declared.crossing.Crossing.{Crossing}
use Rattle.lt_place.specs.declared.layout.Layout.{Layout}
use Rattle.lt_place.specs.Layout.{crossing_of}
use Rattle.lt_net_node.specs.Layout.{joins}
use Rattle.lt_net_node.specs.Local.{Messages, fed_row, firsts, newest, runs}
use Rattle.lt_net_node.specs.Payloads.{row_at, channel_between}

-- the value of a variable at instant k of the whole program on these rows
abbrev pub whole_value : Function → (rows : List (List Value)) → (v k : ℕ) → Option Value
whole_value f rows v k = newest (runs (calls [] 0) f (row_at rows) (suc k)) v

-- what a crossing has in a message, by the message's number: the literal in number 0, which stands for no message, and the value of instant k
-- in number k + 1
abbrev pub crossing_value : Function → (rows : List (List Value)) → Crossing → (number : ℕ) → Value
crossing_value f rows cr zero = cr.first
crossing_value f rows cr (suc k) = unwrap_or (whole_value f rows cr.var k) cr.first

-- the channel of a crossing
abbrev pub crossing_channel : Layout → Shape → (x : ℕ) → ℕ
crossing_channel l s x = channel_between s (crossing_of l x).from (crossing_of l x).to

-- the messages between two nodes, one of each instant
abbrev pub whole_payload : Function → Layout → (rows : List (List Value)) → (i j k : ℕ) → List Value
whole_payload f l rows i j k = map (λ cr. crossing_value f rows cr (suc k)) (filter (joins i j) l.cross)

abbrev pub whole_messages : Function → Layout → (rows : List (List Value)) → Messages
whole_messages f l rows i j = firsts (whole_payload f l rows i j) (length rows)

-- what the part of node n is fed with at instant k, where every message came
abbrev pub whole_row : Function → Layout → (rows : List (List Value)) → (n k : ℕ) → List Value
whole_row f l rows n k = fed_row l (whole_messages f l rows) n (row_at rows k) k
