-- A node that runs an instant, by what code has.
use Rattle.std.proofs.Common.{◌≡◌, ℕ, zero, suc, ◌<◌, Bool, List, [], ◌∷◌, length, map, set, Some, refl, sym, ap, ◌∙◌, subst}
use Rattle.lt_arch.specs.declared.chan.Chan.{Chan}
use Rattle.lt_net_node.specs.Freshness.{TakenUpTo}
use Rattle.lt_link.specs.Ports.{is_to}
use Rattle.std.specs.Prelude.{slice_index_or}
use Rattle.std.specs.List.{slice_get}
use Rattle.std.proofs.lemmas.List.{get_or_default}
use Rattle.std.proofs.lemmas.Option.{slice_get-get_or}
use Rattle.lt_base.specs.declared.value.Value.{Value}
use Rattle.lt_link.specs.Inbox.{InboxState}
use Rattle.lt_place_reads.specs.declared.crossing.Crossing.{Crossing}
use Rattle.lt_net_node.specs.declared.route.Route.{Route}
use Rattle.lt_net_bench.specs.declared.exit.Exit.{Exit}
use Rattle.lt_net_bench.specs.Track.{TrackState}
use Rattle.lt_net_node.specs.Fed.{fed_by}
use Rattle.lt_net_bench.specs.Executes.{MachineRuns, CanExecute, Executes}
use Rattle.lt_net_bench.specs.Bench.{BenchState}
use Rattle.lt_place.specs.declared.layout.Layout.{Layout}
use Rattle.lt_place.specs.declared.layout.Part.{Part}
use Rattle.lt_place.specs.Layout.{part_of, no_part}
use Rattle.lt_machine.specs.declared.machine.Machine.{Ghosts as Machines}

-- the part that code reads
pub part_read : (l : Layout) (nodes : List Part) (n : ℕ) (q : Part) → nodes ≡ l.nodes → n < length l.nodes → q ≡ slice_index_or nodes n q → q ≡ part_of l n
unfolding part_of
part_read l nodes n q same lt is =
    is ∙ ap (λ xs. slice_index_or xs n q) same ∙ get_or_default l.nodes n q no_part lt

pub executes_by : {C M : Type 0} (mch : Machines M) (old now new : BenchState C M) (n : ℕ) (row : List Value) → old ≡ now → Executes mch old new n row → Executes mch now new n row
executes_by mch old now new n row is e = subst (λ z. Executes mch z new n row) is e

pub can_by : {C M : Type 0} (mch : Machines M) (old now : BenchState C M) (n : ℕ) (row : List Value) → old ≡ now → CanExecute mch now n row → CanExecute mch old n row
can_by mch old now n row is e = subst (λ z. CanExecute mch z n row) (sym is) e

pub machine_at : {M : Type 0} (ms : List M) (n : ℕ) (m : M) → n < length ms → m ≡ slice_index_or ms n m → slice_get ms n ≡ Some m
machine_at ms n m lt is = slice_get-get_or ms n m lt ∙ ap (λ x. Some x) (sym is)

pub same_machine : {M : Type 0} (ms : List M) (n : ℕ) (a b : M) → slice_get ms n ≡ Some a → slice_get ms n ≡ Some b → a ≡ b
same_machine ms n a b x y = let e : Some a ≡ Some b = sym x ∙ y in cc

module _ {M : Type 0} (mch : Machines M) (m m' : M) (row : List Value) (i : ℕ) (ps ps' : List (List Value)) (ts ts' : List TrackState) where
  pub runs_by : (q q' : Part) → q' ≡ q → (cs cs' : List Crossing) → cs' ≡ cs → (rs rs' : List Route) → rs' ≡ rs → (es es' : List Exit) → es' ≡ es → (bs bs' : List InboxState) → bs' ≡ bs →
      MachineRuns mch m m' (map (fed_by rs' bs' row) q'.feeds) (length q'.outs) cs' rs' es' i ps ps' ts ts' → MachineRuns mch m m' (map (fed_by rs bs row) q.feeds) (length q.outs) cs rs es i ps ps' ts ts'
  runs_by q q' a cs cs' b rs rs' c es es' d bs bs' e r =
      subst (λ q. MachineRuns mch m m' (map (fed_by rs bs row) q.feeds) (length q.outs) cs rs es i ps ps' ts ts') a
      (subst (λ cs. MachineRuns mch m m' (map (fed_by rs bs row) q'.feeds) (length q'.outs) cs rs es i ps ps' ts ts') b
      (subst (λ rs. MachineRuns mch m m' (map (fed_by rs bs row) q'.feeds) (length q'.outs) cs' rs es i ps ps' ts ts') c
      (subst (λ es. MachineRuns mch m m' (map (fed_by rs' bs row) q'.feeds) (length q'.outs) cs' rs' es i ps ps' ts ts') d
      (subst (λ bs. MachineRuns mch m m' (map (fed_by rs' bs row) q'.feeds) (length q'.outs) cs' rs' es' i ps ps' ts ts') e r))))

pub taken_of : (cs cs' : List Chan) → cs' ≡ cs → (n : ℕ) (kind : Bool) (old new : List InboxState) → TakenUpTo (length cs') (is_to cs' n kind) old new → TakenUpTo (length cs) (is_to cs n kind) old new
taken_of cs cs' a n kind old new t = subst (λ cs. TakenUpTo (length cs) (is_to cs n kind) old new) a t

-- a machine that was replaced by one whose steps cost as much
map_set : {A : Type 0} (f : A → ℕ) (xs : List A) (n : ℕ) (a b : A) → slice_get xs n ≡ Some b → f a ≡ f b → map f (set xs n a) ≡ map f xs
map_set f [] n a b there same = refl
map_set f (x ∷ xs) zero a b there same = ap (λ v. v ∷ map f xs) (same ∙ ap f (let e : Some x ≡ Some b = there in cc))
map_set f (x ∷ xs) (suc n) a b there same = ap (λ r. f x ∷ r) (map_set f xs n a b there same)

pub same_sizes : {C M : Type 0} (size : M → ℕ) (old now : BenchState C M) → old ≡ now → (n : ℕ) (before after : M) → slice_get old.machines n ≡ Some before → size after ≡ size before → map size (set old.machines n after) ≡ map size now.machines
same_sizes size old now is n before after there same = map_set size old.machines n after before there same ∙ ap (λ (z : BenchState _ _). map size z.machines) is
