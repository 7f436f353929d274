-- The types that an emitted file declares. In all of them t is what begins the node's names.
use Rattle.std.specs.Prelude.{ℕ, ◌++◌, Bool, true, false, List, [], ◌∷◌, codes, decimal}
use Rattle.std.specs.List.{flat_map, list_any}
use Rattle.lt_base.specs.Value.{ty_of}
use Rattle.lt_base.specs.declared.function.Decl.{Decl}
use Rattle.lt_base.specs.Meaning.{ClockPairs}
use Rattle.lt_c.specs.Text.{name_at}
use Rattle.lt_c.specs.Spelled.{node_at}
use Rattle.lt_c_step.specs.declared.sources.Source.{Source}
use Rattle.lt_c_step.specs.declared.sources.Source.TheVariants.{Given, Arrived}
use Rattle.lt_c_step.specs.declared.sources.Output.{Output}
use Rattle.lt_c_heads.specs.declared.file.Carried.{Carried}
use Rattle.lt_c_heads.specs.declared.file.Peer.{Peer}
use Rattle.lt_c_heads.specs.declared.file.Regime.{Regime}
use Rattle.lt_c_heads.specs.declared.file.Regime.TheVariants.{Pressing, Counting, Losing}
use Rattle.lt_c_heads.specs.declared.file.NodeFile.{NodeFile}
use Rattle.lt_c_heads.specs.Words.{texts_from, text_if, type_word, type_word_at}

-- what an activation did
abbrev pub deed_type_text : (t : List ℕ) → List ℕ
deed_type_text t =
    (codes "\n/* What an activation did. */\ntypedef enum {\n    " ++ (t ++ codes "_did_nothing = 0,\n    "))
    ++ ((t ++ codes "_did_execute = 1,\n    ") ++ ((t ++ codes "_did_send = 2\n} ") ++ (t ++ codes "_deed;\n")))

-- whether an input of a part is one of the program
abbrev pub is_given : Source → Bool
is_given (Given x) = true
is_given (Arrived j k) = false

abbrev pub has_inputs : List Source → Bool
has_inputs ss = list_any is_given ss

-- whether something stands in a list
abbrev pub has_items : {A : Type 0} → List A → Bool
has_items [] = false
has_items (x ∷ xs) = true

-- the inputs of an instant
abbrev pub input_member_text : List Decl → Source → List ℕ
input_member_text ds (Given x) = codes "    " ++ (type_word_at ds x ++ (codes "in_" ++ (name_at ds x ++ codes ";\n")))
input_member_text ds (Arrived j k) = []

abbrev pub inputs_struct_text : (t : List ℕ) → List Decl → List Source → List ℕ
inputs_struct_text t ds ss = codes "\n/* The inputs of an instant. */\ntypedef struct {\n" ++ (flat_map (input_member_text ds) ss ++ (codes "} " ++ (t ++ codes "_inputs;\n")))

abbrev pub inputs_type_text : (t : List ℕ) → List Decl → List Source → List ℕ
inputs_type_text t ds ss = text_if (has_inputs ss) (inputs_struct_text t ds ss)

-- its outputs, of which one with a clock has a flag
abbrev pub flag_member_text : ClockPairs → List ℕ → List ℕ
flag_member_text [] name = []
flag_member_text (p ∷ ck) name = codes "    bool has_" ++ (name ++ codes ";\n")

abbrev pub output_member_text : List Decl → Output → List ℕ
output_member_text ds o =
    flag_member_text o.guard (name_at ds o.output_number) ++ (codes "    " ++ (type_word_at ds o.from_slot ++ (codes "out_" ++ (name_at ds o.output_number ++ codes ";\n"))))

abbrev pub outputs_struct_text : (t : List ℕ) → List Decl → List Output → List ℕ
outputs_struct_text t ds os =
    codes "\n/* The outputs of an instant. One that has no value at each instant has one where its has_ is true. */\ntypedef struct {\n"
    ++ (flat_map (output_member_text ds) os ++ (codes "} " ++ (t ++ codes "_outputs;\n")))

abbrev pub outputs_type_text : (t : List ℕ) → List Decl → List Output → List ℕ
outputs_type_text t ds os = text_if (has_items os) (outputs_struct_text t ds os)

-- what tells a message from the one before: a bit, or a number where links lose messages
abbrev pub mark_text : Regime → List ℕ
mark_text Pressing = codes "    bool bit;\n"
mark_text (Counting n) = codes "    bool bit;\n"
mark_text Losing = codes "    int64_t number;\n"

-- behind a value stands the name of what it is, where it has one
abbrev pub meant_text : List ℕ → List ℕ
meant_text [] = codes ";\n"
meant_text (b ∷ bs) = codes "; /* " ++ ((b ∷ bs) ++ codes " */\n")

abbrev pub carried_text : ℕ → Carried → List ℕ
carried_text k v = codes "    " ++ (type_word (ty_of v.first) ++ (codes "m" ++ (decimal k ++ meant_text v.meant)))

-- a message, to a node by its name or from it
abbrev pub message_struct_text : Regime → List Carried → List ℕ
message_struct_text r vs = codes "typedef struct {\n" ++ (mark_text r ++ (texts_from carried_text 0 vs ++ codes "} "))

abbrev pub sent_type_text : (t : List ℕ) → Regime → List (List ℕ) → Peer → List ℕ
sent_type_text t r ns p =
    (codes "\n/* A message to " ++ (node_at ns p.number ++ codes ". */\n"))
    ++ (message_struct_text r p.values ++ (t ++ (codes "_to_" ++ (node_at ns p.number ++ codes ";\n"))))

abbrev pub got_type_text : (t : List ℕ) → Regime → List (List ℕ) → Peer → List ℕ
got_type_text t r ns p =
    (codes "\n/* A message from " ++ (node_at ns p.number ++ codes ". */\n"))
    ++ (message_struct_text r p.values ++ (t ++ (codes "_from_" ++ (node_at ns p.number ++ codes ";\n"))))

-- all of them
abbrev pub file_types_text : (t : List ℕ) → NodeFile → List ℕ
file_types_text t f =
    deed_type_text t
    ++ (inputs_type_text t f.part.decls f.part.sources
    ++ (outputs_type_text t f.part.decls f.part.outputs
    ++ (flat_map (sent_type_text t f.regime f.names) f.links.receivers ++ flat_map (got_type_text t f.regime f.names) f.links.senders)))
