-- What the passes give together, from the bytes of a program to a machine on each node.
use Rattle.std.specs.Prelude.{◌≡◌, ℕ, ◌<◌, Some, List, [], ◌∷◌, ◌++◌, Ok, length, map, get_or, slice_get}
use Rattle.lt_base.specs.declared.value.Value.{Value}
use Rattle.lt_base.specs.declared.value.Cell.{Cell}
use Rattle.lt_base.specs.declared.value.Cell.TheVariants.{Absent}
use Rattle.lt_base.specs.Program.{Function}
use Rattle.lt_base.specs.Meaning.{stream_of}
use Rattle.lt_base.specs.Typing.{TypedProgram}
use Rattle.lt_base.specs.Clocking.{ClockedProgram}
use Rattle.lt_base.specs.Dependence.{CausalProgram}
use Rattle.lt_syntax.specs.Program.{Spells}
use Rattle.lt_resolve.specs.Resolves.{Resolves}
use Rattle.lt_timing.specs.Accepts.{Accepts}
use Rattle.lt_place.specs.Layout.{IsLayoutOf, part_of}
use Rattle.lt_place.specs.Legal.{Legal}
use Rattle.lt_net_bench.specs.Starts.{AreReady}
use Rattle.lt_machine.specs.declared.machine.Machine.{Ghosts as Machines}
use Rattle.lt_machine.specs.Follows.{Follows}
use Rattle.lt_config.specs.declared.config.Config.{Config}
use Rattle.lt_expand.specs.Expansion.{WithinLimits}
use Rattle.lt_front.specs.Examined.{ExaminedText}
use Rattle.lt_front.specs.Checked.{CheckedText, IsChecked, examined_part, front_verdict}
use Rattle.lt_front.specs.Flattened.{main_function}
use Rattle.lt_load_fit.specs.Fits.{HasWindowBy}
use Rattle.lt_compile.specs.declared.site.Site.{Site}
use Rattle.lt_compile.specs.Sites.{IsSiteOf, site_verdict}
use Rattle.lt_compile.specs.Ready.{MachineIsReady}

-- a program that passed the checks is what the bytes say
pub record IsProgramOf (bytes : List ℕ) (x : ExaminedText) : Type 0 where
  pub spelled : Spells 200 bytes x.tree
  pub named : Resolves x.tree (Ok x.program)
  pub typed : TypedProgram x.program
  pub clocked : ClockedProgram x.program
  pub causal : CausalProgram x.program
  pub within : WithinLimits x.program

-- what steps on these rows have shown, after those before them: each row its cells, by the contract of a step
abbrev pub ShowsOnRows : Function → (before rows : List (List Value)) → (shown : List (List Cell)) → Type 0
ShowsOnRows f before [] [] = Unit {0}
ShowsOnRows f before [] (outs ∷ shown) = ⊥
ShowsOnRows f before (row ∷ rows) [] = ⊥
ShowsOnRows f before (row ∷ rows) (outs ∷ shown) = (length outs ≡ length f.outs) × Follows f before row outs × ShowsOnRows f (before ++ row ∷ []) rows shown

-- the cells that the output at a place has shown
abbrev pub cells_shown : (place : ℕ) → List (List Cell) → List Cell
cells_shown place shown = map (λ outs. get_or outs place Absent) shown

-- what is shown on rows from the first on are the streams of the outputs
abbrev pub ShowsStreams : Function → Type 0
ShowsStreams f =
    (rows : List (List Value)) (shown : List (List Cell)) (place y : ℕ) → ShowsOnRows f [] rows shown → slice_get f.outs place ≡ Some y → stream_of [] f rows y ≡ cells_shown place shown

-- a program, its parts on the nodes of a setup and a machine of each part, as the passes make them
pub record IsCompiled {M : Type 0} (mch : Machines M) (bytes : List ℕ) (setup : Config) (rows : ℕ) (c : CheckedText) (s : Site) (ms : List M) : Type 0 where
  -- the bytes spell a tree, which names a program that passes all checks
  pub program : IsProgramOf bytes (examined_part c)
  -- every variable of `main` has its stream in the flat form too
  pub streams : (ins : List (List Value)) (x : ℕ) → x < length (main_function c.program).decls → stream_of [] c.flat.func ins x ≡ stream_of c.program.funcs (main_function c.program) ins x
  -- the flat form is placed by the setup, whose timing is accepted, with the channels of its protocol
  pub legal : Legal c.flat setup.placement
  pub layout : IsLayoutOf c.flat setup.placement s.layout
  pub accepted : Accepts setup.timing
  pub windowed : HasWindowBy setup.pace setup.timing
  pub site : IsSiteOf s.layout setup s
  -- each node has a machine that runs its part, which has made no step and has one left for each row
  pub count : length ms ≡ length s.layout.nodes
  pub ready : (n : ℕ) (m : M) → slice_get ms n ≡ Some m → MachineIsReady mch (part_of s.layout n).flat.func rows m
  -- and what its steps show are the streams of its part
  pub shows : (n : ℕ) → ShowsStreams (part_of s.layout n).flat.func

-- what the passes answer is compiled so
abbrev pub ChainHolds : {M : Type 0} → Machines M → Type 0
ChainHolds {M} mch =
    (bytes : List ℕ) (setup : Config) (rows : ℕ) (c : CheckedText) (s : Site) (ms : List M) → IsChecked c → front_verdict bytes (Ok c) → site_verdict (examined_part c) setup (Ok s)
    → AreReady mch s.layout rows ms → IsCompiled mch bytes setup rows c s ms
