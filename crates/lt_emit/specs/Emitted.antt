-- The C of a node of a placed program, by the node's name.
use Rattle.std.specs.Prelude.{◌≡◌, ◌↔◌, ℕ, Bool, List, Option, Some, None, Result, Ok, Err, bytes_eq, position}
use Rattle.lt_base.specs.declared.memory.Or.{Or}
use Rattle.lt_base.specs.declared.memory.Or.TheVariants.{Fault, Memory}
use Rattle.lt_io.specs.FilesState.{FilesState}
use Rattle.lt_answer.specs.Alone.{AnsweredOnFiles}
use Rattle.lt_answer.specs.Answered.{Verdict, AndThen, Settles}
use Rattle.lt_answer.specs.Rules.{Raised}
use Rattle.lt_answer.specs.World.{Blame, Content}
use Rattle.lt_c_node.specs.NodeOf.{IsEmitted}
use Rattle.lt_compile.specs.declared.site.Site.{Site}
use Rattle.lt_load_fit.specs.declared.fault.CommandFault.{CommandFault}
use Rattle.lt_load.specs.Blamed.{command_blame}
use Rattle.lt_load.specs.Errands.{check_errands}
use Rattle.lt_load.specs.Setups.{check_verdict}
use Rattle.lt_emit.specs.declared.fault.EmitFault.{EmitFault}
use Rattle.lt_emit.specs.declared.fault.EmitFault.TheVariants.{Command, NoNode}
use Rattle.lt_emit.specs.Loading.{load_site_verdict}

-- the number of a site's node of this name
abbrev pub site_node : Site → (name : List ℕ) → Option ℕ
site_node s name = position (λ node. bytes_eq node name) s.layout.names

-- the C of the node of this name at a site, or its header alone; or that there is no such node
abbrev pub emitted_node_verdict : (header : Bool) (name : List ℕ) → Site → Verdict (List ℕ) EmitFault
emitted_node_verdict header name s (Ok text) = (n : ℕ) × (site_node s name ≡ Some n) × IsEmitted s.layout s.shape s.timing s.pace n header text
emitted_node_verdict header name s (Err e) = (site_node s name ≡ None) × (e ≡ NoNode name)

-- the program, the setup, the placement, the timing and the window, as in a check, and then the name of the node
unfoldable pub emit_verdict : (named : List ℕ → Option (List ℕ)) (header : Bool) (program config node : List ℕ) → Verdict (List ℕ) EmitFault
emit_verdict named header program config node = AndThen (Raised (λ f. Command f) (load_site_verdict named program config)) (λ s. emitted_node_verdict header node s)

-- whose fault it is
abbrev pub emit_blame : EmitFault → Blame
emit_blame (Command f) = command_blame f
emit_blame (NoNode name) = Content

-- the C of the node of this name is emitted
abbrev pub EmitsNode : (header : Bool) (program config node : List ℕ) (old new : FilesState) → Result (List ℕ) (Or EmitFault) → Type 0
EmitsNode header program config node old new result = AnsweredOnFiles emit_blame (check_errands program (Some config)) (emit_verdict old.named header program config node) old new result

-- the same behind what was loaded
abbrev pub EmitsAt : (header : Bool) (node : List ℕ) → Result Site (Or CommandFault) → Result (List ℕ) (Or EmitFault) → Type 0
EmitsAt header node (Ok s) result = Settles (emitted_node_verdict header node s) result
EmitsAt header node (Err (Fault f)) result = result ≡ Err (Fault (Command f))
EmitsAt header node (Err Memory) result = result ≡ Err Memory

-- that there is no node of this name; memory may be wanting for the copy of the name
abbrev pub IsNoNodeFault : (name : List ℕ) → Or EmitFault → Type 0
IsNoNodeFault name (Fault e) = e ≡ NoNode name
IsNoNodeFault name Memory = Unit {0}

-- the files of a program and of its setup are refused exactly as in a check of both, whichever node is asked for, and whether or not the header alone is
abbrev pub SameRefusals : Type 0
SameRefusals = (named : List ℕ → Option (List ℕ)) (header : Bool) (program config node : List ℕ) (e : CommandFault) → emit_verdict named header program config node (Err (Command e)) ↔ check_verdict named program (Some config) (Err e)
