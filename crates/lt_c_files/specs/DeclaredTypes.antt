-- The types that a file declares for its variables, and that those of the type bool hold 0 or 1 along a run.
use Rattle.std.specs.Prelude.{◌≡◌, ℕ, zero, suc, ◌<◌, ◌==◌, List, [], ◌∷◌, length, Option, Some, None, slice_get, if◌then◌else◌}
use Rattle.std.specs.List.{AllByRecursion}
use Rattle.lt_base.specs.declared.value.Ty.{Ty}
use Rattle.lt_base.specs.declared.value.Ty.TheVariants.{Int, Bool as Truth}
use Rattle.lt_base.specs.declared.function.Decl.{Decl}
use Rattle.lt_base.specs.Value.{ty_of}
use Rattle.lt_base.specs.Typing.{ty_at}
use Rattle.lt_arch.specs.declared.event.Event.{Event}
use Rattle.lt_arch.specs.declared.pace.Pace.{Pace}
use Rattle.lt_arch.specs.declared.shape.Shape.{Shape}
use Rattle.lt_arch.specs.declared.timing.Timing.{Timing}
use Rattle.lt_arch.specs.Readers.{node_count, chan_count, from_of, to_of}
use Rattle.lt_arch.specs.Schedule.{IsEventOf}
use Rattle.lt_norm.specs.Flat.{Originated}
use Rattle.lt_place.specs.declared.layout.Layout.{Layout}
use Rattle.lt_step.specs.Code.{KeepForm}
use Rattle.lt_c.specs.Tree.{slot, payload, input, output}
use Rattle.lt_c.specs.Meaning.{Store}
use Rattle.lt_c.specs.Truths.{Types, c_type_of, IsTruthNumber, HoldsTruths}
use Rattle.lt_c_net.specs.Stands.{Packet}
use Rattle.lt_c_net.specs.Runs.{Deployment, NodesRunning, emitted_run}
use Rattle.lt_c_heads.specs.declared.file.Carried.{Carried}
use Rattle.lt_c_heads.specs.declared.file.Peer.{Peer}
use Rattle.lt_c_heads.specs.declared.file.NodeFile.{NodeFile}
use Rattle.lt_c_heads.specs.Words.{type_word, type_word_at}
use Rattle.lt_c_node.specs.NodeOf.{values_between, IsFileOfNode}
use Rattle.lt_c_files.specs.FileRuns.{RunsTexts}

-- a type that is known, or this one
abbrev pub type_or : Option Ty → Ty → Ty
type_or None u = u
type_or (Some t) u = t

-- the type of the slot of a delay: that of what it begins with
abbrev pub delay_type : List KeepForm → (x : ℕ) → Ty
delay_type [] x = Int
delay_type (k ∷ ks) x = if x == k.slot then ty_of k.first else delay_type ks x

-- the type of a slot: that of the variable with its number, or of the delay
abbrev pub slot_type_of : List Decl → List KeepForm → (x : ℕ) → Ty
slot_type_of ds ks x = type_or (ty_at ds x) (delay_type ks x)

-- the type of an input or an output
abbrev pub member_type : List Decl → (x : ℕ) → Ty
member_type ds x = type_or (ty_at ds x) Int

-- the type of the value at a place of a message
abbrev pub value_type : List Carried → (k : ℕ) → Ty
value_type [] k = Int
value_type (v ∷ vs) zero = ty_of v.first
value_type (v ∷ vs) (suc k) = value_type vs k

-- the values of the messages of node j
abbrev pub values_of_peer : (j : ℕ) → List Peer → List Carried
values_of_peer j [] = []
values_of_peer j (p ∷ ps) = if j == p.number then p.values else values_of_peer j ps

-- the types of a file's variables. A message that comes or goes is an argument of a function and none of them, and none keeps a message where
-- links lose nothing
abbrev pub declared_types : NodeFile → Types
declared_types f = record {
  slot_type = slot_type_of f.part.decls f.part.code.keeps;
  payload_type = λ j. value_type (values_of_peer j f.links.senders);
  message_type = λ k. Int;
  posted_type = λ j k. Int;
  input_type = member_type f.part.decls;
  output_type = member_type f.part.decls;
}

-- they are those whose words stand in its declarations: of variables, of delays, of what comes, and of inputs and outputs
pub record DeclaresTypes (f : NodeFile) : Type 0 where
  pub variables : (x : ℕ) (v : Decl) → slice_get f.part.decls x ≡ Some v → c_type_of (declared_types f) (slot x) ≡ v.ty
  pub delays : AllByRecursion (λ k. c_type_of (declared_types f) (slot k.slot) ≡ ty_of k.first) f.part.code.keeps
  pub got : (i k : ℕ) (p : Peer) (v : Carried) → slice_get f.links.senders i ≡ Some p → slice_get p.values k ≡ Some v → c_type_of (declared_types f) (payload p.number k) ≡ ty_of v.first
  pub inputs : (x : ℕ) → x < length f.part.decls → type_word_at f.part.decls x ≡ type_word (c_type_of (declared_types f) (input x))
  pub outputs : (y : ℕ) → y < length f.part.decls → type_word_at f.part.decls y ≡ type_word (c_type_of (declared_types f) (output y))
  -- an output is declared by its slot, which has its number
  pub same_numbers : AllByRecursion (λ o. o.from_slot ≡ o.output_number) f.part.outputs

-- so it is in the file of each node
abbrev pub FilesDeclareTypes : Type 0
FilesDeclareTypes = (l : Layout) (s : Shape) (t : Timing) (pace : Pace) (n : ℕ) (file : NodeFile) → IsFileOfNode l s t pace n file → DeclaresTypes file

-- ---- along a run

-- every variable of node n that its file declares as bool holds 0 or 1
abbrev pub HoldsDeclared : {f : Originated} {pace : Pace} {d : Deployment} {texts : ℕ → List ℕ} → RunsTexts f pace d texts → (ℕ → Store) → Type 0
HoldsDeclared {f} {pace} {d} {texts} is stores = (n : ℕ) (lt : n < node_count d.shape) → HoldsTruths (declared_types (is.texts_are n lt).emitted.file) (stores n)

-- what is on its way on channel c has a bit, and where messages between its ends have a bool a value, that is 0 or 1
abbrev pub IsTruthful : Deployment → (c : ℕ) → Packet → Type 0
IsTruthful d c k = IsTruthNumber k.mark × ((i : ℕ) → value_type (values_between d.layout (from_of d.shape c) (to_of d.shape c)) i ≡ Truth → IsTruthNumber (k.values i))

-- so it is of all variables of nodes and of all that is on its way
pub record HoldsBools {f : Originated} {pace : Pace} {d : Deployment} {texts : ℕ → List ℕ} (is : RunsTexts f pace d texts) (w : NodesRunning) : Type 0 where
  pub variables : HoldsDeclared is w.stores
  pub on_way : (c : ℕ) → c < chan_count d.shape → AllByRecursion (IsTruthful d c) (w.under_way c)

-- along every list of events, where the memory of each node held 0 or 1 in its variables of the type bool before, as C has it
abbrev pub BoolsHoldTruths : Type 0
BoolsHoldTruths =
    (f : Originated) (pace : Pace) (d : Deployment) (texts : ℕ → List ℕ) (is : RunsTexts f pace d texts) (memory : ℕ → Store) → HoldsDeclared is memory → (events : List Event) → AllByRecursion (IsEventOf d.shape) events →
    HoldsBools is (emitted_run d memory events)
