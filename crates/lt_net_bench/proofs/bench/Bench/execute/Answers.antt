use Rattle.std.proofs.Common.{◌≡◌, ◌<◌, ◌≤◌, ◌+◌, length, Some, true, sym, ap, refl, subst, ◌∙◌, arith, set}
use Rattle.std.specs.Prelude.{slice_index_or, ◌==◌, slice_get}
use Rattle.std.proofs.lemmas.List.{get_or_default}
use Rattle.lt_place.specs.declared.layout.Part.{Part}
use Rattle.lt_place.specs.Layout.{part_of, no_crossing}
use Rattle.lt_net_node.specs.Fed.{CanFeed, route_of}
use Rattle.lt_net_bench.specs.Routes.{exit_of}
use Rattle.lt_net_bench.proofs.RunByCode.{part_read, can_by, executes_by, machine_at, same_machine, runs_by, taken_of, same_sizes}
use Rattle.lt_net_bench.proofs.bench.Bench.execute.Goals as goal

pub instant-requires-clause-room : goal.instant-requires-clause-room
instant-requires-clause-room g c =
    let pe = (part_read c.self.inside.layout c.deref.result.now c.args.node c.index-deref-node.result c.deref.ensures (can_by g.M.Machine _ _ c.args.node c.args.row.now c.self.view_is c.requires.can).node c.index-deref-node.is) in subst (λ (q : Part). length q.feeds ≤ length c.self.inside.values.items) (sym pe) (can_by g.M.Machine _ _ c.args.node c.args.row.now c.self.view_is c.requires.can).room

pub instant-requires-clause-room_out : goal.instant-requires-clause-room_out
instant-requires-clause-room_out g c =
    let pe = (part_read c.self.inside.layout c.deref.result.now c.args.node c.index-deref-node.result c.deref.ensures (can_by g.M.Machine _ _ c.args.node c.args.row.now c.self.view_is c.requires.can).node c.index-deref-node.is) in subst (λ (q : Part). length q.outs ≤ length c.self.inside.outs.items) (sym pe) (can_by g.M.Machine _ _ c.args.node c.args.row.now c.self.view_is c.requires.can).room_out

pub instant-requires-clause-there : goal.instant-requires-clause-there
instant-requires-clause-there g c =
    λ x d h. let pe = (part_read c.self.inside.layout c.deref.result.now c.args.node c.index-deref-node.result c.deref.ensures (can_by g.M.Machine _ _ c.args.node c.args.row.now c.self.view_is c.requires.can).node c.index-deref-node.is) in
    subst (λ rs. CanFeed rs c.deref-5.result.now c.args.row.now d) (sym c.deref-3.ensures.value) (subst (λ bs. CanFeed c.self.inside.routes.items bs c.args.row.now d) (sym c.deref-5.ensures.value) ((can_by g.M.Machine _ _ c.args.node c.args.row.now c.self.view_is c.requires.can).feeds x d (subst (λ (q : Part). slice_get q.feeds x ≡ Some d) pe h)))

pub instant-requires-clause-left : goal.instant-requires-clause-left
instant-requires-clause-left g c =
    (can_by g.M.Machine _ _ c.args.node c.args.row.now c.self.view_is c.requires.can).has_left c.index_mut.result.now (machine_at c.self.inside.machines.items c.args.node c.index_mut.result.now (can_by g.M.Machine _ _ c.args.node c.args.row.now c.self.view_is c.requires.can).machine c.index_mut.ensures.value)

pub instant-requires-clause-wide : goal.instant-requires-clause-wide
instant-requires-clause-wide g c =
    let pe = (part_read c.self.inside.layout c.deref.result.now c.args.node c.index-deref-node.result c.deref.ensures (can_by g.M.Machine _ _ c.args.node c.args.row.now c.self.view_is c.requires.can).node c.index-deref-node.is) in (can_by g.M.Machine _ _ c.args.node c.args.row.now c.self.view_is c.requires.can).wide c.index_mut.result.now (machine_at c.self.inside.machines.items c.args.node c.index_mut.result.now (can_by g.M.Machine _ _ c.args.node c.args.row.now c.self.view_is c.requires.can).machine c.index_mut.ensures.value) ∙ ap (λ (q : Part). length q.feeds) (sym pe)

pub instant-requires-clause-long : goal.instant-requires-clause-long
instant-requires-clause-long g c =
    let pe = (part_read c.self.inside.layout c.deref.result.now c.args.node c.index-deref-node.result c.deref.ensures (can_by g.M.Machine _ _ c.args.node c.args.row.now c.self.view_is c.requires.can).node c.index-deref-node.is) in (can_by g.M.Machine _ _ c.args.node c.args.row.now c.self.view_is c.requires.can).long c.index_mut.result.now (machine_at c.self.inside.machines.items c.args.node c.index_mut.result.now (can_by g.M.Machine _ _ c.args.node c.args.row.now c.self.view_is c.requires.can).machine c.index_mut.ensures.value) ∙ ap (λ (q : Part). length q.outs) (sym pe)

pub instant-requires-clause-crossing_outs : goal.instant-requires-clause-crossing_outs
instant-requires-clause-crossing_outs g c =
    λ k lt on. let pe = (part_read c.self.inside.layout c.deref.result.now c.args.node c.index-deref-node.result c.deref.ensures (can_by g.M.Machine _ _ c.args.node c.args.row.now c.self.view_is c.requires.can).node c.index-deref-node.is) in
    subst (λ (q : Part). (route_of c.deref-3.result.now k).out < length q.outs) (sym pe) (subst (λ rs. (route_of rs k).out < length (part_of c.self.inside.layout c.args.node).outs) (sym c.deref-3.ensures.value)
    ((can_by g.M.Machine _ _ c.args.node c.args.row.now c.self.view_is c.requires.can).crossing_outs k (subst (λ xs. k < length xs) c.deref-2.ensures lt) (subst (λ xs. ((slice_index_or xs k no_crossing).from == c.args.node) ≡ true) c.deref-2.ensures on)))

pub instant-requires-clause-exit_outs : goal.instant-requires-clause-exit_outs
instant-requires-clause-exit_outs g c =
    λ y lt on. let pe = (part_read c.self.inside.layout c.deref.result.now c.args.node c.index-deref-node.result c.deref.ensures (can_by g.M.Machine _ _ c.args.node c.args.row.now c.self.view_is c.requires.can).node c.index-deref-node.is) in
    subst (λ (q : Part). (exit_of c.deref-4.result.now y).out < length q.outs) (sym pe) (subst (λ es. (exit_of es y).out < length (part_of c.self.inside.layout c.args.node).outs) (sym c.deref-4.ensures.value)
    ((can_by g.M.Machine _ _ c.args.node c.args.row.now c.self.view_is c.requires.can).exit_outs y (subst (λ es. y < length es) c.deref-4.ensures.value lt) (subst (λ es. ((exit_of es y).node == c.args.node) ≡ true) c.deref-4.ensures.value on)))

pub overflow_add-index_mut : goal.overflow_add-index_mut
overflow_add-index_mut g c =
    let req = (can_by g.M.Machine _ _ c.args.node c.args.row.now c.self.view_is c.requires.can) in let e = (c.index_mut-2.ensures.value ∙ get_or_default c.self.inside.executed.items c.args.node c.index_mut-2.result.now 0 (can_by g.M.Machine _ _ c.args.node c.args.row.now c.self.view_is c.requires.can).count) in let m : slice_index_or c.self.inside.executed.items c.args.node 0 < c.self.inside.rows = req.more in let r : c.args.rows ≡ c.self.inside.rows = c.requires.rows ∙ ap (λ z. z.rows) (sym c.self.view_is) in record { fits = omega (arith, e, m, r, c.ranges.rows.fits) }

pub returns-clause-runs : goal.returns-clause-runs
returns-clause-runs g c =
    let pe = (part_read c.self.inside.layout c.deref.result.now c.args.node c.index-deref-node.result c.deref.ensures (can_by g.M.Machine _ _ c.args.node c.args.row.now c.self.view_is c.requires.can).node c.index-deref-node.is) in
    let runs = runs_by g.M.Machine _ _ c.args.row.now c.args.node _ _ _ _ (part_of c.self.inside.layout c.args.node) c.index-deref-node.result pe _ _ c.deref-2.ensures _ _ c.deref-3.ensures.value _ _ c.deref-4.ensures.value _ _ c.deref-5.ensures.value c.instant.ensures.runs in
    executes_by g.M.Machine _ _ _ c.args.node c.args.row.now c.self.view_is (record {
      before = c.index_mut.result.now;
      there = (machine_at c.self.inside.machines.items c.args.node c.index_mut.result.now (can_by g.M.Machine _ _ c.args.node c.args.row.now c.self.view_is c.requires.can).machine c.index_mut.ensures.value);
      after = c.instant.new.machine;
      outs = runs.outs;
      count = runs.count;
      steps = runs.steps;
      machines = refl;
      executed = ap (λ k. set c.self.inside.executed.items c.args.node (k + 1)) (c.index_mut-2.ensures.value ∙ get_or_default c.self.inside.executed.items c.args.node c.index_mut-2.result.now 0 (can_by g.M.Machine _ _ c.args.node c.args.row.now c.self.view_is c.requires.can).count);
      buffers = runs.buffers_are;
      tracks = runs.tracks_are;
      taken = taken_of _ _ c.deref-6.ensures c.args.node true _ _ c.take_all.ensures;
    })

pub returns-clause-cost : goal.returns-clause-cost
returns-clause-cost g c =
    λ m h. subst (λ z. c.instant.new.steps ≤ c.args.steps.now + g.M.Machine.size z) (same_machine c.self.inside.machines.items c.args.node c.index_mut.result.now m (machine_at c.self.inside.machines.items c.args.node c.index_mut.result.now (can_by g.M.Machine _ _ c.args.node c.args.row.now c.self.view_is c.requires.can).machine c.index_mut.ensures.value) (ap (λ z. slice_get z.machines c.args.node) c.self.view_is ∙ h)) c.instant.ensures.cost

pub returns-clause-sizes : goal.returns-clause-sizes
returns-clause-sizes g c =
    same_sizes g.M.Machine.size _ _ c.self.view_is c.args.node c.index_mut.result.now c.instant.new.machine (machine_at c.self.inside.machines.items c.args.node c.index_mut.result.now (can_by g.M.Machine _ _ c.args.node c.args.row.now c.self.view_is c.requires.can).machine c.index_mut.ensures.value) c.instant.ensures.size
