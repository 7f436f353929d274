use Rattle.std.proofs.Common.{◌≡◌, refl, rules}
use Rattle.lt_base.specs.Expression.{shape, binary, imported}
use Rattle.lt_norm.proofs.Sides.{root_choose, root_merged, root_delayed}
use Rattle.lt_norm.proofs.Steps.{lift_binary, lift_imported, lift_choose, lift_merged_from, lift_named, moved, on_ok, on_ok_three}
use Rattle.lt_norm.proofs.lift.+lift.Goals as goal

pub lift-returns-in-Bin-clause-all : goal.lift-returns-in-Bin-clause-all
lift-returns-in-Bin-clause-all t c =
    let o = c.in-Bin.op in
    let root : shape c.args.e.now ≡ binary o (shape c.deref_mut-in-Bin.result.now) (shape c.deref_mut-in-Bin-2.result.now) = search rules in
    on_ok _ _ _
    (λ l. moved _ _ _ _ _ _ _ _ (binary o (shape c.lift_two.new.a) (shape c.lift_two.new.b)) root (search rules) (lift_binary _ o _ _ _ _ _ _ _ _ _ _ l.2 l.3))
    c.lift_two.ensures.all

pub lift-returns-in-Imported-clause-all : goal.lift-returns-in-Imported-clause-all
lift-returns-in-Imported-clause-all t c =
    let o = c.in-Imported.op in
    let root : shape c.args.e.now ≡ imported o (shape c.deref_mut-in-Imported.result.now) (shape c.deref_mut-in-Imported-2.result.now) = search rules in
    on_ok _ _ _
    (λ l. moved _ _ _ _ _ _ _ _ (imported o (shape c.lift_two-in-Imported.new.a) (shape c.lift_two-in-Imported.new.b)) root (search rules) (lift_imported _ o _ _ _ _ _ _ _ _ _ _ l.2 l.3))
    c.lift_two-in-Imported.ensures.all

pub lift-returns-in_ok-lift-in-If-clause-all : goal.lift-returns-in_ok-lift-in-If-clause-all
lift-returns-in_ok-lift-in-If-clause-all t c =
    on_ok _ _ _
    (λ l. moved _ _ _ _ _ _ _ _ _
    (root_choose _ _ _ _ _ _ _ _ _ _ c.in-If.is c.in-If.c-is c.in-If.a-is c.in-If.b-is c.deref_mut-in-If.ensures.value c.deref_mut-in-If-2.ensures.value c.deref_mut-in-If-3.ensures.value)
    refl
    (lift_choose _ _ _ _ _ _ _ _ _ _ _ _ _ _ _ c.in_ok-lift-in-If.ensures.all l.2 l.3))
    c.lift_two-in-If.ensures.all

pub lift-returns-in_ok-lift_branch-in-Merge-clause-all : goal.lift-returns-in_ok-lift_branch-in-Merge-clause-all
lift-returns-in_ok-lift_branch-in-Merge-clause-all t c =
    on_ok _ _ _
    (λ l. moved _ _ _ _ _ _ _ _ _
    (root_merged _ _ _ _ _ _ _ _ _ c.in-Merge.is c.in-Merge.x-is c.in-Merge.a-is c.in-Merge.b-is c.deref_mut-in-Merge.ensures.value c.deref_mut-in-Merge-2.ensures.value)
    refl
    (lift_merged_from _ _ _ _ _ _ _ _ _ _ _ _ _ _ _ _ c.in_ok-lift_branch-in-Merge.ensures.all l refl refl (let h = c.in-Merge.x-is in cc) (let h = c.in-Merge.x-is in cc)))
    c.lift_branch-in-Merge.ensures.all

pub lift-returns-in_ok-lift-in-Fby-clause-all : goal.lift-returns-in_ok-lift-in-Fby-clause-all
lift-returns-in_ok-lift-in-Fby-clause-all t c =
    on_ok_three _ _ _ _ _
    (λ p d e. moved _ _ _ _ _ _ _ _ _
    (root_delayed _ _ _ _ _ _ c.in-Fby.is c.in-Fby.first-is c.in-Fby.a-is c.deref_mut-in-Fby.ensures.value)
    p
    (lift_named _ _ _ _ _ _ _ _ _ _ _ _ c.in_ok-lift-in-Fby.ensures.all d e (let h = c.in-Fby.first-is in cc) refl))
    c.name.ensures.place c.name.ensures.decls c.name.ensures.delays
