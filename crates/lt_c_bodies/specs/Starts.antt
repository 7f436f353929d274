-- What a node begins with.
use Rattle.std.specs.Prelude.{ℕ, ◌++◌, true, false, List, [], ◌∷◌, codes, pos, map}
use Rattle.lt_base.specs.declared.value.Value.{Value}
use Rattle.lt_c.specs.Tree.{phase, executions, sendings, newest, answered, c_integer, Statement, assign, both, nothing}
use Rattle.lt_c.specs.Text.{spelled, statement_text}
use Rattle.lt_c_step.specs.Translate.{of_firsts}
use Rattle.lt_c_control.specs.Inboxes.{FirstData, filling, starting}
use Rattle.lt_c_heads.specs.declared.file.Carried.{Carried}
use Rattle.lt_c_heads.specs.declared.file.Peer.{Peer}
use Rattle.lt_c_heads.specs.declared.file.Regime.{Regime}
use Rattle.lt_c_heads.specs.declared.file.Regime.TheVariants.{Pressing, Counting, Losing}
use Rattle.lt_c_heads.specs.declared.file.NodeFile.{NodeFile}
use Rattle.lt_c_heads.specs.Words.{spelling, indent}
use Rattle.lt_c_heads.specs.Heads.{init_head}

-- what an inbox for data begins with
abbrev pub first_values : List Carried → List Value
first_values vs = map (λ v. v.first) vs

abbrev pub first_of : Peer → FirstData
first_of p = record { from_node = p.number; firsts = first_values p.values }

abbrev pub first_data : List Peer → List FirstData
first_data ps = map first_of ps

-- where links lose messages: inboxes hold no message of a number above 0, no instant was executed and no message sent
abbrev pub starting_number : FirstData → Statement
starting_number d = both (assign (newest d.from_node) (c_integer (pos 0))) (filling d.from_node 0 d.firsts)

abbrev pub starting_numbers : List FirstData → Statement
starting_numbers [] = nothing
starting_numbers (d ∷ ds) = both (starting_number d) (starting_numbers ds)

abbrev pub starting_answers : List ℕ → Statement
starting_answers [] = nothing
starting_answers (j ∷ js) = both (assign (answered j) (c_integer (pos 0))) (starting_answers js)

abbrev pub starting_counts : Statement
starting_counts = both (assign phase (c_integer (pos 0))) (both (assign executions (c_integer (pos 0))) (assign sendings (c_integer (pos 0))))

abbrev pub starting_losing : List FirstData → List ℕ → Statement
starting_losing ds js = both (starting_numbers ds) (both (starting_answers js) starting_counts)

-- by the controller
abbrev pub starting_by : Regime → List FirstData → List ℕ → Statement
starting_by Pressing ds js = starting ds js false
starting_by (Counting n) ds js = starting ds js true
starting_by Losing ds js = starting_losing ds js

-- the function that begins, with what delays hold before the first instant
abbrev pub init_text : (t : List ℕ) → NodeFile → List ℕ
init_text t f =
    (codes "\n" ++ (init_head t ++ codes "\n{\n"))
    ++ (statement_text (spelled f.part.decls) indent (of_firsts f.part.code.keeps) ++ (statement_text (spelling f) indent (starting_by f.regime (first_data f.links.senders) f.links.answerers) ++ codes "}\n"))
