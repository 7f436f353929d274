-- What nodes and channels do where node n acts, and what its part is fed with.
use Rattle.std.specs.Prelude.{◌≡◌, ℕ, suc, true, false, List, [], ◌∷◌, length, map}
use Rattle.lt_base.specs.declared.value.Value.{Value}
use Rattle.lt_base.specs.declared.value.Value.TheVariants.{Bool as Truth}
use Rattle.lt_arch.specs.declared.shape.Shape.{Shape}
use Rattle.lt_c_control.specs.Inboxes.{payload_value}
use Rattle.lt_arch.specs.declared.event.Deed.{Deed}
use Rattle.lt_arch.specs.declared.event.Deed.TheVariants.{Nothing, Execute, Send}
use Rattle.lt_net_node.specs.Freshness.{TakenUpTo}
use Rattle.lt_link.specs.Ports.{is_to}
use Rattle.lt_net_node.specs.Layout.{crossing_place}
use Rattle.lt_place.specs.declared.layout.Feed.{Feed}
use Rattle.lt_place.specs.declared.layout.Feed.TheVariants.{Input, Cross}
use Rattle.lt_place.specs.declared.layout.Layout.{Layout}
use Rattle.lt_place.specs.Layout.{part_of, crossing_of}
use Rattle.lt_net_bench.specs.Bench.{BenchState}
use Rattle.lt_net_bench.specs.Executes.{Executes, ins_of}
use Rattle.lt_step.specs.Code.{StepCode}
use Rattle.lt_step.specs.Compile.{CodeOf}
use Rattle.lt_c_step.specs.declared.sources.Source.{Source}
use Rattle.lt_c_step.specs.declared.sources.Output.{Output}
use Rattle.lt_c_step.specs.declared.sources.Source.TheVariants.{Given, Arrived}
use Rattle.lt_c_step.specs.Part.{Differ}
use Rattle.lt_c_net.specs.Stands.{ListsSenders}
use Rattle.lt_machine.specs.declared.machine.Machine.{Ghosts as Machines}

-- where input x of a part comes from: from outside, or with the messages of a node, at the place of its crossing
abbrev pub feed_source : Layout → (x : ℕ) → Feed → Source
feed_source l x (Input i) = Given x
feed_source l x (Cross c) = Arrived (crossing_of l c).from (crossing_place l c)

-- so for those from number x on
abbrev pub feed_sources : Layout → (x : ℕ) → List Feed → List Source
feed_sources l x [] = []
feed_sources l x (d ∷ ds) = feed_source l x d ∷ feed_sources l (suc x) ds

-- what an input of a part is from outside, where the program has this input row
abbrev pub given_by : (row : List Value) → Feed → Value
given_by row (Input i) = payload_value row i
given_by row (Cross c) = Truth false

-- what node n is given of it, in the order of its part's inputs
abbrev pub own_row : Layout → (n : ℕ) → (row : List Value) → List Value
own_row l n row = map (given_by row) (part_of l n).feeds

-- what the file of node n is made of
pub record IsCodeOfNode (l : Layout) (s : Shape) (n : ℕ) (code : StepCode) (ins acks : List ℕ) (ss : List Source) (os : List Output) : Type 0 where
  pub code_of : CodeOf (part_of l n).flat.func code
  pub ins_are : ListsSenders s.channels n true ins
  pub acks_are : ListsSenders s.channels n false acks
  pub sources_are : ss ≡ feed_sources l 0 (part_of l n).feeds
  pub differ : Differ os

-- node n did this, beside its controller
abbrev pub Moves : {C M : Type 0} → (mch : Machines M) → (old new : BenchState C M) → (n : ℕ) → (row : List Value) → Deed → Type 0
Moves mch old new n row Nothing = (new.inboxes ≡ old.inboxes) × (new.executed ≡ old.executed)
Moves mch old new n row Send = TakenUpTo (length old.shape.channels) (is_to old.shape.channels n false) old.inboxes new.inboxes × (new.executed ≡ old.executed)
Moves mch old new n row Execute = Executes mch old new n row

-- the rows that its part has run on then
abbrev pub rows_after : {C M : Type 0} → BenchState C M → (n : ℕ) → (row : List Value) → Deed → (rows : List (List Value)) → List (List Value)
rows_after p n row Nothing rows = rows
rows_after p n row Send rows = rows
rows_after p n row Execute rows = ins_of p n row ∷ rows
