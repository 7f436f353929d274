use Rattle.std.proofs.Common.{◌≡◌, ◌+◌, ◌++◌, ◌∷◌, [], drop, None, subst, sym, if◌then◌else◌}
use Rattle.lt_resolve.specs.Names.{Name, among, repeated_name}
use Rattle.lt_resolve.proofs.Located.{one_more}
use Rattle.lt_resolve.proofs.Repeats.{next_is_new, later_are_new, put_last}
use Rattle.lt_resolve.proofs.taking.insert_all.Goals as goal

pub names-preserved : goal.names-preserved
names-preserved c =
    let xs = c.deref-name-items.result.now in
    let i = c.names.name-index in
    let x = c.name-item.result in
    let l = c.names-test.true in
    let e = c.name-item.is in
    let new : c.insert.new.self ≡ c.names.table ++ x ∷ [] =
    put_last c.names.table c.insert.new.self x (next_is_new c.names.table xs i x l e c.names.invariant.rest)
    (subst (λ (y : Name). c.insert.new.self ≡ (if among c.names.table y then c.names.table else c.names.table ++ y ∷ [])) c.as_str.ensures c.in_ok-insert.ensures.names) in
    record {
      all = one_more xs c.names.table c.insert.new.self i x x l e c.names.invariant.all (λ j. x) new;
      rest = subst (λ t. repeated_name t (drop (i + 1) xs) ≡ None) (sym new) (later_are_new c.names.table xs i x l e c.names.invariant.rest);
    }
