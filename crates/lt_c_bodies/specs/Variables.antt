-- The variables that an emitted file keeps.
use Rattle.std.specs.Prelude.{ℕ, ◌++◌, List, [], codes}
use Rattle.std.specs.List.{flat_map}
use Rattle.lt_base.specs.Value.{ty_of}
use Rattle.lt_base.specs.declared.function.Decl.{Decl}
use Rattle.lt_step.specs.Code.{KeepForm}
use Rattle.lt_c.specs.Tree.{slot}
use Rattle.lt_c.specs.Text.{spelled}
use Rattle.lt_c.specs.Spelled.{node_at}
use Rattle.lt_c_heads.specs.declared.file.Peer.{Peer}
use Rattle.lt_c_heads.specs.declared.file.Regime.{Regime}
use Rattle.lt_c_heads.specs.declared.file.Regime.TheVariants.{Pressing, Counting, Losing}
use Rattle.lt_c_heads.specs.declared.file.NodeFile.{NodeFile}
use Rattle.lt_c_heads.specs.Words.{texts_from, text_if, type_word}
use Rattle.lt_c_heads.specs.Types.{has_inputs, has_items}

-- the variables of the step: one for each that is declared, and one for each delay
abbrev pub slot_text : List Decl → ℕ → Decl → List ℕ
slot_text ds x d = codes "static " ++ (type_word d.ty ++ (spelled ds (slot x) ++ codes ";\n"))

abbrev pub delay_text : List Decl → KeepForm → List ℕ
delay_text ds k = codes "static " ++ (type_word (ty_of k.first) ++ (spelled ds (slot k.slot) ++ codes ";\n"))

-- an inbox for data, with the bit that was read last, or with the greatest number in it
abbrev pub read_text : Regime → List ℕ → List ℕ
read_text Pressing n = codes "static bool read_" ++ (n ++ codes ";\n")
read_text (Counting t) n = codes "static bool read_" ++ (n ++ codes ";\n")
read_text Losing n = []

abbrev pub inbox_text : (t : List ℕ) → Regime → List (List ℕ) → Peer → List ℕ
inbox_text t r ns p =
    (codes "static " ++ (t ++ (codes "_from_" ++ node_at ns p.number))) ++ ((codes " data_" ++ (node_at ns p.number ++ codes ";\n")) ++ read_text r (node_at ns p.number))

-- an inbox for acknowledgements
abbrev pub answers_text : Regime → List ℕ → List ℕ
answers_text Pressing n = (codes "static bool ack_" ++ (n ++ codes ";\n")) ++ (codes "static bool seen_" ++ (n ++ codes ";\n"))
answers_text (Counting t) n = (codes "static bool ack_" ++ (n ++ codes ";\n")) ++ (codes "static bool seen_" ++ (n ++ codes ";\n"))
answers_text Losing n = codes "static int64_t answered_" ++ (n ++ codes ";\n")

-- the last message to a node, where it is sent again
abbrev pub posted_text : (t : List ℕ) → List (List ℕ) → Peer → List ℕ
posted_text t ns p =
    (codes "static " ++ (t ++ (codes "_to_" ++ node_at ns p.number))) ++ (codes " posted_" ++ (node_at ns p.number ++ codes ";\n"))

abbrev pub posted_texts : (t : List ℕ) → Regime → List (List ℕ) → List Peer → List ℕ
posted_texts t Pressing ns ps = []
posted_texts t (Counting n) ns ps = []
posted_texts t Losing ns ps = flat_map (posted_text t ns) ps

-- the controller
abbrev pub control_text : Regime → List ℕ
control_text Pressing = codes "static bool sent;\nstatic bool executed;\n"
control_text (Counting n) = codes "static int64_t left;\nstatic bool sent;\nstatic bool executed;\n"
control_text Losing = codes "static int64_t executions;\nstatic int64_t sendings;\n"

-- where the inputs of an activation stand, and where its outputs go
abbrev pub pointers_text : (t : List ℕ) → NodeFile → List ℕ
pointers_text t f =
    text_if (has_inputs f.part.sources) (codes "static const " ++ (t ++ codes "_inputs *in;\n")) ++ text_if (has_items f.part.outputs) (codes "static " ++ (t ++ codes "_outputs *out;\n"))

abbrev pub slots_text : NodeFile → List ℕ
slots_text f = codes "\n/* The variables of the step. */\n" ++ (texts_from (slot_text f.part.decls) 0 f.part.decls ++ flat_map (delay_text f.part.decls) f.part.code.keeps)

abbrev pub inboxes_text : (t : List ℕ) → NodeFile → List ℕ
inboxes_text t f =
    codes "\n/* The inboxes, and what was read of them. */\n"
    ++ (flat_map (inbox_text t f.regime f.names) f.links.senders ++ (flat_map (λ j. answers_text f.regime (node_at f.names j)) f.links.answerers ++ posted_texts t f.regime f.names f.links.receivers))

abbrev pub controller_text : (t : List ℕ) → NodeFile → List ℕ
controller_text t f = codes "\n/* The controller. */\nstatic int64_t did;\nstatic bool more;\nstatic int64_t phase;\n" ++ (control_text f.regime ++ pointers_text t f)

abbrev pub variables_text : (t : List ℕ) → NodeFile → List ℕ
variables_text t f = slots_text f ++ (inboxes_text t f ++ controller_text t f)
