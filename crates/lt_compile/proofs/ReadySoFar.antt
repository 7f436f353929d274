-- The machines of the first nodes, and one more.
use Rattle.std.proofs.Common.{◌≡◌, ◌<◌, ℕ, List, [], ◌∷◌, ◌++◌, length, get_or, Some, sym, subst}
use Rattle.std.specs.Prelude.{slice_get}
use Rattle.lt_base.specs.declared.value.Value.{Value}
use Rattle.lt_base.specs.Program.{Function}
use Rattle.lt_place.specs.declared.layout.Part.{Part}
use Rattle.lt_place.specs.declared.layout.Layout.{Layout}
use Rattle.lt_place.specs.Layout.{part_of}
use Rattle.lt_net_bench.specs.Starts.{AreReady}
use Rattle.lt_lead.proofs.OneMore.{one_more}
use Rattle.lt_compile.specs.Ready.{MachineIsReady, AreReadySoFar}
use Rattle.lt_compile.proofs.PartRead.{part_read}
use Rattle.lt_machine.specs.declared.machine.Machine.{Ghosts as Machines}

module _ {M : Type 0} (mch : Machines M) (l : Layout) (rows : ℕ) (ms : List M) where
  -- one for each node
  pub all_ready : length ms ≡ length l.nodes → AreReadySoFar mch l rows ms → AreReady mch l rows ms
  all_ready count ready = record {
    count = count;
    stand = λ n m is. (ready n m is).stand;
    unmade = λ n m is. (ready n m is).unmade;
    enough = λ n m is. (ready n m is).enough;
  }

  -- the machine of the next node, whose part was read by its place
  pub next_machine : (parts : List Part) (n : ℕ) (q : Part) (more : List M) (m : M) → parts ≡ l.nodes → n ≡ length ms → n < length l.nodes → q ≡ get_or parts n q → more ≡ ms ++ m ∷ [] →
      AreReadySoFar mch l rows ms → MachineIsReady mch q.flat.func rows m → AreReadySoFar mch l rows more
  next_machine parts n q more m same count low read is ready last =
      subst (AreReadySoFar mch l rows) (sym is) (one_more (λ k d. MachineIsReady mch (part_of l k).flat.func rows d) ms m ready
      (subst (λ k. MachineIsReady mch (part_of l k).flat.func rows m) count
      (subst (λ (p : Part). MachineIsReady mch p.flat.func rows m) (sym (part_read l parts n q same low read)) last)))
