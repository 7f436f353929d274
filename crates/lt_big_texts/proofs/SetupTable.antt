-- The table of the setup's text, line by line.
use Rattle.std.proofs.Common.{◌≡◌, ◌==◌, ◌∷◌, ◌++◌, [], ℕ, suc, List, Bool, false, Some, codes, pos, refl, ap, ◌∙◌, length}
use Rattle.std.specs.Prelude.{Option, option_and_then, option_map, if◌then◌else◌}
use Rattle.toml.specs.Data.{Data, Members, integer, string, array, table, item, no_items}
use Rattle.toml.specs.Tables.{Document, Expression, Nodes, close, define, key_value, std_table, no_nodes, node, value, open_table, header}
use Rattle.toml.specs.Parse.{parse_document, lines, line, skip_bom}
use Rattle.toml_parser.specs.Lexical.{skip_blank}
use Rattle.toml.proofs.OnLiterals.{toml_on_literals}
use Rattle.lt_big_texts.specs.Texts.{setup_text, with_line_feed}

-- one line of a document, from what it reads as
line_step : (n : ℕ) (doc next : Document) (text start rest : List ℕ) (e : Expression) → skip_blank text ≡ start → (length start == 0) ≡ false → line start ≡ Some (e, rest) → define doc e ≡ Some next
    → lines (suc n) doc text ≡ lines n next rest
unfolding lines
line_step n doc next text start rest e is some read defines =
    let reads : List ℕ → Option Document = λ s. option_and_then (λ r. option_and_then (λ d. lines n d r.1) (define doc r.0)) (line s) in
    let goes : List ℕ → Option Document = λ s. if length s == 0 then Some doc else reads s in
    ap goes is
    ∙ ap (λ (b : Bool). if b then Some doc else reads start) some
    ∙ ap (λ (o : Option (Expression × List ℕ)). option_and_then (λ r. option_and_then (λ d. lines n d r.1) (define doc r.0)) o) read
    ∙ ap (λ (o : Option Document). option_and_then (λ d. lines n d rest) o) defines

-- the values of the lines
abbrev pair_data : ℕ → ℕ → Data
pair_data low high = array (item (integer (pos low)) (item (integer (pos high)) no_items))

abbrev name_data : List ℕ → Data
name_data y = array (item (string y) no_items)

abbrev names_data : List ℕ → List ℕ → Data
names_data x y = array (item (string x) (item (string y) no_items))

-- the text from each line on
abbrev from_n7 : List ℕ
from_n7 = with_line_feed (codes "n7 = ['y7']")

abbrev from_n6 : List ℕ
from_n6 = with_line_feed (codes "n6 = ['y6']") ++ from_n7

abbrev from_n5 : List ℕ
from_n5 = with_line_feed (codes "n5 = ['y5']") ++ from_n6

abbrev from_n4 : List ℕ
from_n4 = with_line_feed (codes "n4 = ['y4']") ++ from_n5

abbrev from_n3 : List ℕ
from_n3 = with_line_feed (codes "n3 = ['y3']") ++ from_n4

abbrev from_n2 : List ℕ
from_n2 = with_line_feed (codes "n2 = ['y2']") ++ from_n3

abbrev from_n1 : List ℕ
from_n1 = with_line_feed (codes "n1 = ['y1']") ++ from_n2

abbrev from_n0 : List ℕ
from_n0 = with_line_feed (codes "n0 = ['x', 'y0']") ++ from_n1

abbrev from_nodes : List ℕ
from_nodes = with_line_feed (codes "[nodes]") ++ from_n0

abbrev from_delay : List ℕ
from_delay = with_line_feed (codes "delay = [1, 4]") ++ from_nodes

abbrev from_period : List ℕ
from_period = with_line_feed (codes "period = [9, 11]") ++ from_delay

abbrev from_protocol : List ℕ
from_protocol = with_line_feed (codes "protocol = 'backpressure'") ++ from_period

-- what each line reads as
protocol_read : line from_protocol ≡ Some ((([], codes "protocol"), key_value (string (codes "backpressure"))), 10 ∷ from_period)
unfolding toml_on_literals
protocol_read = refl

period_read : line from_period ≡ Some ((([], codes "period"), key_value (pair_data 9 11)), 10 ∷ from_delay)
unfolding toml_on_literals
period_read = refl

delay_read : line from_delay ≡ Some ((([], codes "delay"), key_value (pair_data 1 4)), 10 ∷ from_nodes)
unfolding toml_on_literals
delay_read = refl

nodes_read : line from_nodes ≡ Some ((([], codes "nodes"), std_table), 10 ∷ from_n0)
unfolding toml_on_literals
nodes_read = refl

n0_read : line from_n0 ≡ Some ((([], codes "n0"), key_value (names_data (codes "x") (codes "y0"))), 10 ∷ from_n1)
unfolding toml_on_literals
n0_read = refl

n1_read : line from_n1 ≡ Some ((([], codes "n1"), key_value (name_data (codes "y1"))), 10 ∷ from_n2)
unfolding toml_on_literals
n1_read = refl

n2_read : line from_n2 ≡ Some ((([], codes "n2"), key_value (name_data (codes "y2"))), 10 ∷ from_n3)
unfolding toml_on_literals
n2_read = refl

n3_read : line from_n3 ≡ Some ((([], codes "n3"), key_value (name_data (codes "y3"))), 10 ∷ from_n4)
unfolding toml_on_literals
n3_read = refl

n4_read : line from_n4 ≡ Some ((([], codes "n4"), key_value (name_data (codes "y4"))), 10 ∷ from_n5)
unfolding toml_on_literals
n4_read = refl

n5_read : line from_n5 ≡ Some ((([], codes "n5"), key_value (name_data (codes "y5"))), 10 ∷ from_n6)
unfolding toml_on_literals
n5_read = refl

n6_read : line from_n6 ≡ Some ((([], codes "n6"), key_value (name_data (codes "y6"))), 10 ∷ from_n7)
unfolding toml_on_literals
n6_read = refl

n7_read : line from_n7 ≡ Some ((([], codes "n7"), key_value (name_data (codes "y7"))), 10 ∷ [])
unfolding toml_on_literals
n7_read = refl

-- what the document is after so many lines
abbrev doc_protocol : Nodes
doc_protocol = node (codes "protocol") (value (string (codes "backpressure"))) no_nodes

abbrev doc_period : Nodes
doc_period = node (codes "period") (value (pair_data 9 11)) doc_protocol

abbrev doc_delay : Nodes
doc_delay = node (codes "delay") (value (pair_data 1 4)) doc_period

abbrev doc_nodes : Nodes → Nodes
doc_nodes ns = node (codes "delay") (value (pair_data 1 4)) (node (codes "nodes") (open_table header ns) doc_period)

abbrev in_nodes : Nodes → Document
in_nodes ns = (doc_nodes ns, codes "nodes" ∷ [])

abbrev nodes_1 : Nodes
nodes_1 = node (codes "n0") (value (names_data (codes "x") (codes "y0"))) no_nodes

abbrev nodes_2 : Nodes
nodes_2 = node (codes "n0") (value (names_data (codes "x") (codes "y0"))) (node (codes "n1") (value (name_data (codes "y1"))) no_nodes)

abbrev nodes_3 : Nodes
nodes_3 = node (codes "n0") (value (names_data (codes "x") (codes "y0"))) (node (codes "n1") (value (name_data (codes "y1"))) (node (codes "n2") (value (name_data (codes "y2"))) no_nodes))

abbrev nodes_4 : Nodes
nodes_4 = node (codes "n0") (value (names_data (codes "x") (codes "y0"))) (node (codes "n1") (value (name_data (codes "y1"))) (node (codes "n2") (value (name_data (codes "y2"))) (node (codes "n3") (value (name_data (codes "y3"))) no_nodes)))

abbrev nodes_5 : Nodes
nodes_5 = node (codes "n0") (value (names_data (codes "x") (codes "y0"))) (node (codes "n1") (value (name_data (codes "y1"))) (node (codes "n2") (value (name_data (codes "y2"))) (node (codes "n3") (value (name_data (codes "y3"))) (node (codes "n4") (value (name_data (codes "y4"))) no_nodes))))

abbrev nodes_6 : Nodes
nodes_6 = node (codes "n0") (value (names_data (codes "x") (codes "y0"))) (node (codes "n1") (value (name_data (codes "y1"))) (node (codes "n2") (value (name_data (codes "y2"))) (node (codes "n3") (value (name_data (codes "y3"))) (node (codes "n4") (value (name_data (codes "y4"))) (node (codes "n5") (value (name_data (codes "y5"))) no_nodes)))))

abbrev nodes_7 : Nodes
nodes_7 = node (codes "n0") (value (names_data (codes "x") (codes "y0"))) (node (codes "n1") (value (name_data (codes "y1"))) (node (codes "n2") (value (name_data (codes "y2"))) (node (codes "n3") (value (name_data (codes "y3"))) (node (codes "n4") (value (name_data (codes "y4"))) (node (codes "n5") (value (name_data (codes "y5"))) (node (codes "n6") (value (name_data (codes "y6"))) no_nodes))))))

abbrev nodes_8 : Nodes
nodes_8 = node (codes "n0") (value (names_data (codes "x") (codes "y0"))) (node (codes "n1") (value (name_data (codes "y1"))) (node (codes "n2") (value (name_data (codes "y2"))) (node (codes "n3") (value (name_data (codes "y3"))) (node (codes "n4") (value (name_data (codes "y4"))) (node (codes "n5") (value (name_data (codes "y5"))) (node (codes "n6") (value (name_data (codes "y6"))) (node (codes "n7") (value (name_data (codes "y7"))) no_nodes)))))))

-- and each line leads from one to the next
protocol_defines : define ((no_nodes, [])) (([], codes "protocol"), key_value (string (codes "backpressure"))) ≡ Some ((doc_protocol, []))
unfolding toml_on_literals
protocol_defines = refl

period_defines : define ((doc_protocol, [])) (([], codes "period"), key_value (pair_data 9 11)) ≡ Some ((doc_period, []))
unfolding toml_on_literals
period_defines = refl

delay_defines : define ((doc_period, [])) (([], codes "delay"), key_value (pair_data 1 4)) ≡ Some ((doc_delay, []))
unfolding toml_on_literals
delay_defines = refl

nodes_defines : define ((doc_delay, [])) (([], codes "nodes"), std_table) ≡ Some (in_nodes no_nodes)
unfolding toml_on_literals
nodes_defines = refl

n0_defines : define (in_nodes no_nodes) (([], codes "n0"), key_value (names_data (codes "x") (codes "y0"))) ≡ Some (in_nodes nodes_1)
unfolding toml_on_literals
n0_defines = refl

n1_defines : define (in_nodes nodes_1) (([], codes "n1"), key_value (name_data (codes "y1"))) ≡ Some (in_nodes nodes_2)
unfolding toml_on_literals
n1_defines = refl

n2_defines : define (in_nodes nodes_2) (([], codes "n2"), key_value (name_data (codes "y2"))) ≡ Some (in_nodes nodes_3)
unfolding toml_on_literals
n2_defines = refl

n3_defines : define (in_nodes nodes_3) (([], codes "n3"), key_value (name_data (codes "y3"))) ≡ Some (in_nodes nodes_4)
unfolding toml_on_literals
n3_defines = refl

n4_defines : define (in_nodes nodes_4) (([], codes "n4"), key_value (name_data (codes "y4"))) ≡ Some (in_nodes nodes_5)
unfolding toml_on_literals
n4_defines = refl

n5_defines : define (in_nodes nodes_5) (([], codes "n5"), key_value (name_data (codes "y5"))) ≡ Some (in_nodes nodes_6)
unfolding toml_on_literals
n5_defines = refl

n6_defines : define (in_nodes nodes_6) (([], codes "n6"), key_value (name_data (codes "y6"))) ≡ Some (in_nodes nodes_7)
unfolding toml_on_literals
n6_defines = refl

n7_defines : define (in_nodes nodes_7) (([], codes "n7"), key_value (name_data (codes "y7"))) ≡ Some (in_nodes nodes_8)
unfolding toml_on_literals
n7_defines = refl

protocol_step : lines (suc 167) ((no_nodes, [])) (from_protocol) ≡ lines 167 ((doc_protocol, [])) (10 ∷ from_period)
unfolding toml_on_literals
protocol_step = line_step 167 ((no_nodes, [])) ((doc_protocol, [])) (from_protocol) from_protocol (10 ∷ from_period) (([], codes "protocol"), key_value (string (codes "backpressure"))) refl refl protocol_read protocol_defines

period_step : lines (suc 166) ((doc_protocol, [])) (10 ∷ from_period) ≡ lines 166 ((doc_period, [])) (10 ∷ from_delay)
unfolding toml_on_literals
period_step = line_step 166 ((doc_protocol, [])) ((doc_period, [])) (10 ∷ from_period) from_period (10 ∷ from_delay) (([], codes "period"), key_value (pair_data 9 11)) refl refl period_read period_defines

delay_step : lines (suc 165) ((doc_period, [])) (10 ∷ from_delay) ≡ lines 165 ((doc_delay, [])) (10 ∷ from_nodes)
unfolding toml_on_literals
delay_step = line_step 165 ((doc_period, [])) ((doc_delay, [])) (10 ∷ from_delay) from_delay (10 ∷ from_nodes) (([], codes "delay"), key_value (pair_data 1 4)) refl refl delay_read delay_defines

nodes_step : lines (suc 164) ((doc_delay, [])) (10 ∷ from_nodes) ≡ lines 164 (in_nodes no_nodes) (10 ∷ from_n0)
unfolding toml_on_literals
nodes_step = line_step 164 ((doc_delay, [])) (in_nodes no_nodes) (10 ∷ from_nodes) from_nodes (10 ∷ from_n0) (([], codes "nodes"), std_table) refl refl nodes_read nodes_defines

n0_step : lines (suc 163) (in_nodes no_nodes) (10 ∷ from_n0) ≡ lines 163 (in_nodes nodes_1) (10 ∷ from_n1)
unfolding toml_on_literals
n0_step = line_step 163 (in_nodes no_nodes) (in_nodes nodes_1) (10 ∷ from_n0) from_n0 (10 ∷ from_n1) (([], codes "n0"), key_value (names_data (codes "x") (codes "y0"))) refl refl n0_read n0_defines

n1_step : lines (suc 162) (in_nodes nodes_1) (10 ∷ from_n1) ≡ lines 162 (in_nodes nodes_2) (10 ∷ from_n2)
unfolding toml_on_literals
n1_step = line_step 162 (in_nodes nodes_1) (in_nodes nodes_2) (10 ∷ from_n1) from_n1 (10 ∷ from_n2) (([], codes "n1"), key_value (name_data (codes "y1"))) refl refl n1_read n1_defines

n2_step : lines (suc 161) (in_nodes nodes_2) (10 ∷ from_n2) ≡ lines 161 (in_nodes nodes_3) (10 ∷ from_n3)
unfolding toml_on_literals
n2_step = line_step 161 (in_nodes nodes_2) (in_nodes nodes_3) (10 ∷ from_n2) from_n2 (10 ∷ from_n3) (([], codes "n2"), key_value (name_data (codes "y2"))) refl refl n2_read n2_defines

n3_step : lines (suc 160) (in_nodes nodes_3) (10 ∷ from_n3) ≡ lines 160 (in_nodes nodes_4) (10 ∷ from_n4)
unfolding toml_on_literals
n3_step = line_step 160 (in_nodes nodes_3) (in_nodes nodes_4) (10 ∷ from_n3) from_n3 (10 ∷ from_n4) (([], codes "n3"), key_value (name_data (codes "y3"))) refl refl n3_read n3_defines

n4_step : lines (suc 159) (in_nodes nodes_4) (10 ∷ from_n4) ≡ lines 159 (in_nodes nodes_5) (10 ∷ from_n5)
unfolding toml_on_literals
n4_step = line_step 159 (in_nodes nodes_4) (in_nodes nodes_5) (10 ∷ from_n4) from_n4 (10 ∷ from_n5) (([], codes "n4"), key_value (name_data (codes "y4"))) refl refl n4_read n4_defines

n5_step : lines (suc 158) (in_nodes nodes_5) (10 ∷ from_n5) ≡ lines 158 (in_nodes nodes_6) (10 ∷ from_n6)
unfolding toml_on_literals
n5_step = line_step 158 (in_nodes nodes_5) (in_nodes nodes_6) (10 ∷ from_n5) from_n5 (10 ∷ from_n6) (([], codes "n5"), key_value (name_data (codes "y5"))) refl refl n5_read n5_defines

n6_step : lines (suc 157) (in_nodes nodes_6) (10 ∷ from_n6) ≡ lines 157 (in_nodes nodes_7) (10 ∷ from_n7)
unfolding toml_on_literals
n6_step = line_step 157 (in_nodes nodes_6) (in_nodes nodes_7) (10 ∷ from_n6) from_n6 (10 ∷ from_n7) (([], codes "n6"), key_value (name_data (codes "y6"))) refl refl n6_read n6_defines

n7_step : lines (suc 156) (in_nodes nodes_7) (10 ∷ from_n7) ≡ lines 156 (in_nodes nodes_8) (10 ∷ [])
unfolding toml_on_literals
n7_step = line_step 156 (in_nodes nodes_7) (in_nodes nodes_8) (10 ∷ from_n7) from_n7 (10 ∷ []) (([], codes "n7"), key_value (name_data (codes "y7"))) refl refl n7_read n7_defines

last_step : lines 156 (in_nodes nodes_8) (10 ∷ []) ≡ Some (in_nodes nodes_8)
unfolding toml_on_literals
last_step = refl

abbrev pub setup_table : Members
setup_table = close (doc_nodes nodes_8)

lines_read : lines (suc 167) (no_nodes, []) from_protocol ≡ Some (in_nodes nodes_8)
lines_read = protocol_step ∙ period_step ∙ delay_step ∙ nodes_step ∙ n0_step ∙ n1_step ∙ n2_step ∙ n3_step ∙ n4_step ∙ n5_step ∙ n6_step ∙ n7_step ∙ last_step

text_size : length from_protocol ≡ 167
text_size = refl

unmarked_setup : skip_bom from_protocol ≡ from_protocol
unfolding toml_on_literals
unmarked_setup = refl

pub setup_parsed : parse_document setup_text ≡ Some setup_table
unfolding parse_document
setup_parsed =
    ap (λ (text : List ℕ). option_map (λ (doc : Document). close doc.0) (lines (suc (length from_protocol)) (no_nodes, []) text)) unmarked_setup
    ∙ ap (λ (n : ℕ). option_map (λ (doc : Document). close doc.0) (lines (suc n) (no_nodes, []) from_protocol)) text_size
    ∙ ap (λ (o : Option Document). option_map (λ (doc : Document). close doc.0) o) lines_read
