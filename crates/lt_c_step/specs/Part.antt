-- The step of a node's part: what it is fed with, its lets and its keeps.
use Rattle.std.specs.Prelude.{◌≡◌, ℕ, suc, ◌<◌, Bool, true, false, nat_eq, List, [], ◌∷◌, length, map, Some}
use Rattle.std.specs.List.{AllByRecursion}
use Rattle.lt_base.specs.declared.value.Value.{Value}
use Rattle.lt_base.specs.Program.{Function}
use Rattle.lt_base.specs.Meaning.{ClockPairs, clock_of, cell}
use Rattle.lt_base.specs.Typing.{input_types, AllFit}
use Rattle.lt_c_step.specs.declared.sources.Source.{Source}
use Rattle.lt_c_step.specs.declared.sources.Source.TheVariants.{Given, Arrived}
use Rattle.lt_c_step.specs.declared.sources.Output.{Output}
use Rattle.lt_step.specs.Code.{StepCode}
use Rattle.lt_step.specs.Run.{at_instant, slots_after}
use Rattle.lt_step.specs.Compile.{CodeOf}
use Rattle.lt_c.specs.Tree.{CVariable, slot, payload, input, output, has, o_and, Tree, c_truth, c_var, c_not, c_join, Statement, assign, both, nothing}
use Rattle.lt_c.specs.Meaning.{Store, c_truth_of, holds, store_left, WritesStep}
use Rattle.lt_c_step.specs.Translate.{of_lets, of_keeps}
use Rattle.lt_c_step.specs.Laws.{Matches, shown}
use Rattle.lt_c.specs.Literals.{c_number}

-- the variable from which an input of a part comes
abbrev pub source_variable : Source → CVariable
source_variable (Given i) = input i
source_variable (Arrived j k) = payload j k

-- the inputs from number x on are fed
abbrev pub feeding : ℕ → List Source → Statement
feeding x [] = nothing
feeding x (s ∷ ss) = both (assign (slot x) (c_var (source_variable s))) (feeding (suc x) ss)

-- a condition, and whether all conditions of a clock hold
abbrev pub of_condition : ℕ → Bool → Tree
of_condition c true = c_var (slot c)
of_condition c false = c_not (c_var (slot c))

abbrev pub clock_tree : ClockPairs → Tree
clock_tree [] = c_truth true
clock_tree ((c, b) ∷ []) = of_condition c b
clock_tree ((c, b) ∷ p ∷ ck) = c_join o_and (clock_tree (p ∷ ck)) (of_condition c b)

-- whether an output has a value is told where it need not have one
abbrev pub telling : ℕ → ClockPairs → Statement
telling y [] = nothing
telling y (p ∷ ck) = assign (has y) (clock_tree (p ∷ ck))

-- the outputs show their slots
abbrev pub showing : List Output → Statement
showing [] = nothing
showing (o ∷ os) = both (both (telling o.output_number o.guard) (assign (output o.output_number) (c_var (slot o.from_slot)))) (showing os)

-- the outputs are read between lets and keeps
abbrev pub before_outputs : List Source → StepCode → Statement
before_outputs ss c = both (feeding 0 ss) (of_lets c.lets)

abbrev pub part_step : List Source → List Output → StepCode → Statement
part_step ss os c = both (both (before_outputs ss c) (showing os)) (of_keeps c.keeps)

-- the store has these values where they come from
abbrev pub Offers : Store → List Source → List Value → Type 0
Offers m [] [] = Unit {0}
Offers m [] (v ∷ vs) = ⊥
Offers m (s ∷ ss) [] = ⊥
Offers m (s ∷ ss) (v ∷ vs) = (m (source_variable s) ≡ c_number v) × Offers m ss vs

-- the clock has conditions
abbrev pub HasConditions : ClockPairs → Type 0
HasConditions [] = ⊥
HasConditions (p ∷ ck) = Unit {0}

-- the output has the number of its slot in another store, and is told to have a value where its clock's conditions hold there
pub record ShowsSlot (new old : Store) (o : Output) : Type 0 where
  pub value_is : new (output o.output_number) ≡ old (slot o.from_slot)
  pub told : HasConditions o.guard → c_truth_of (new (has o.output_number)) ≡ holds old o.guard

-- outputs that differ in their numbers
abbrev pub Differ : List Output → Type 0
Differ [] = Unit {0}
Differ (o ∷ os) = AllByRecursion (λ p. nat_eq o.output_number p.output_number ≡ false) os × Differ os

-- one execution: a store that has the slots after some instants, and offers the values of a row, has the slots after one more; before the
-- outputs are read a variable shows its cell, and each output is what its slot was then
pub record ExecutesPart (f : Function) (c : StepCode) (ss : List Source) (os : List Output) (rows : List (List Value)) (row : List Value) (m : Store) : Type 0 where
  pub matches : Matches (slots_after c (map (map Some) (row ∷ rows))) (store_left (part_step ss os c) m)
  pub shows : (y : ℕ) → y < length f.decls → shown f.decls y (store_left (before_outputs ss c) m) ≡ cell (at_instant c (map Some row) (slots_after c (map (map Some) rows))) (clock_of f.decls y) y
  pub gives : AllByRecursion (ShowsSlot (store_left (part_step ss os c) m) (store_left (before_outputs ss c) m)) os

abbrev pub PartsExecute : Type 0
PartsExecute =
    (f : Function) (c : StepCode) → CodeOf f c → (ss : List Source) (os : List Output) → Differ os → (rows : List (List Value)) (row : List Value) → AllFit (input_types f) (map (map Some) (row ∷ rows)) → (m : Store)
    → Matches (slots_after c (map (map Some) rows)) m → Offers m ss row → ExecutesPart f c ss os rows row m

-- and it writes nothing but slots and outputs
abbrev pub PartsWriteSlots : Type 0
PartsWriteSlots = (ss : List Source) (os : List Output) (c : StepCode) → WritesStep (part_step ss os c)
