use Rattle.std.proofs.Common.{◌≡◌, ◌≤◌, ◌∙◌, OnOk, arith, length, ap, sym, subst, refl, rules, Vec, Global}
use Rattle.std.specs.Vec.Iter.{into_iter_len}
use Rattle.std.proofs.lemmas.Iterator.Adapters.{YieldsList-from_vec}
use Rattle.std.proofs.lemmas.Iterator.Consumers.{YieldsList-turn, YieldsList-so_far, YieldsList-end}
use Rattle.lt_base.specs.declared.expression.Expr.{Expr, Call}
use Rattle.lt_base.specs.Expression.{shape, binary, imported}
use Rattle.lt_expand.specs.Walk.{library_of, InlinedTo}
use Rattle.lt_expand.proofs.Lower.{argument_lower}
use Rattle.lt_expand.proofs.Sides.{root_choose, root_merged, root_follow, root_arrow, on_ok}
use Rattle.lt_expand.proofs.Steps.{inline_binary, inline_imported, inline_choose, inline_merged_from, inline_follow, inline_arrow, moved}
use Rattle.lt_expand.proofs.Calling.{argument_ready, argument_room, taken_turn, of_taken, arguments_begin, call_copyable, call_room, call_inlined, call_length}
use Rattle.lt_expand.proofs.inline.+inlining.Goals as goal

pub inline-returns-in_ok-inline-in-Bin-clause-all : goal.inline-returns-in_ok-inline-in-Bin-clause-all
inline-returns-in_ok-inline-in-Bin-clause-all t c =
    let o = c.in-Bin.op in
    let root : shape c.args.e.now ≡ binary o (shape c.deref_mut-in-Bin.result.now) (shape c.deref_mut-in-Bin-2.result.now) = search rules in
    on_ok _ _ _
    (λ l. moved _ _ _ _ _ _ _ _ _ (binary o (shape c.inline-in-Bin.new.e) (shape c.inline-in-Bin-2.new.e)) root (search rules) (inline_binary _ _ o _ _ _ _ _ _ _ _ _ _ c.in_ok-inline-in-Bin.ensures.all l))
    c.inline-in-Bin-2.ensures.all

pub inline-returns-in_ok-inline-in-Imported-clause-all : goal.inline-returns-in_ok-inline-in-Imported-clause-all
inline-returns-in_ok-inline-in-Imported-clause-all t c =
    let o = c.in-Imported.op in
    let root : shape c.args.e.now ≡ imported o (shape c.deref_mut-in-Imported.result.now) (shape c.deref_mut-in-Imported-2.result.now) = search rules in
    on_ok _ _ _
    (λ l. moved _ _ _ _ _ _ _ _ _ (imported o (shape c.inline-in-Imported.new.e) (shape c.inline-in-Imported-2.new.e)) root (search rules) (inline_imported _ _ o _ _ _ _ _ _ _ _ _ _ c.in_ok-inline-in-Imported.ensures.all l))
    c.inline-in-Imported-2.ensures.all

pub inline-returns-in_ok-inline-in-Follow-clause-all : goal.inline-returns-in_ok-inline-in-Follow-clause-all
inline-returns-in_ok-inline-in-Follow-clause-all t c =
    on_ok _ _ _
    (λ l. moved _ _ _ _ _ _ _ _ _ _
    (root_follow _ _ _ _ _ _ _ c.in-Follow.is c.in-Follow.a-is c.in-Follow.b-is c.deref_mut-in-Follow.ensures.value c.deref_mut-in-Follow-2.ensures.value)
    refl
    (inline_follow _ _ _ _ _ _ _ _ _ _ _ _ c.in_ok-inline-in-Follow.ensures.all l))
    c.inline-in-Follow-2.ensures.all

pub inline-returns-in_ok-inline-in-Arrow-clause-all : goal.inline-returns-in_ok-inline-in-Arrow-clause-all
inline-returns-in_ok-inline-in-Arrow-clause-all t c =
    on_ok _ _ _
    (λ l. moved _ _ _ _ _ _ _ _ _ _
    (root_arrow _ _ _ _ _ _ _ c.in-Arrow.is c.in-Arrow.a-is c.in-Arrow.b-is c.deref_mut-in-Arrow.ensures.value c.deref_mut-in-Arrow-2.ensures.value)
    refl
    (inline_arrow _ _ _ _ _ _ _ _ _ _ _ _ c.in_ok-inline-in-Arrow.ensures.all l))
    c.inline-in-Arrow-2.ensures.all

pub inline-returns-in_ok-inline-in-If-2-clause-all : goal.inline-returns-in_ok-inline-in-If-2-clause-all
inline-returns-in_ok-inline-in-If-2-clause-all t c =
    on_ok _ _ _
    (λ l. moved _ _ _ _ _ _ _ _ _ _
    (root_choose _ _ _ _ _ _ _ _ _ _ c.in-If.is c.in-If.c-is c.in-If.a-is c.in-If.b-is c.deref_mut-in-If.ensures.value c.deref_mut-in-If-2.ensures.value c.deref_mut-in-If-3.ensures.value)
    refl
    (inline_choose _ _ _ _ _ _ _ _ _ _ _ _ _ _ _ _ c.in_ok-inline-in-If.ensures.all c.in_ok-inline-in-If-2.ensures.all l))
    c.inline-in-If-3.ensures.all

pub inline-returns-in_ok-inline_branch-in-Merge-clause-all : goal.inline-returns-in_ok-inline_branch-in-Merge-clause-all
inline-returns-in_ok-inline_branch-in-Merge-clause-all t c =
    on_ok _ _ _
    (λ l. moved _ _ _ _ _ _ _ _ _ _
    (root_merged _ _ _ _ _ _ _ _ _ c.in-Merge.is c.in-Merge.x-is c.in-Merge.a-is c.in-Merge.b-is c.deref_mut-in-Merge.ensures.value c.deref_mut-in-Merge-2.ensures.value)
    refl
    (inline_merged_from _ _ _ _ _ _ _ _ _ _ _ _ _ _ _ _ _ c.in_ok-inline_branch-in-Merge.ensures.all l refl refl (let h = c.in-Merge.x-is in cc) (let h = c.in-Merge.x-is in cc)))
    c.inline_branch-in-Merge.ensures.all

pub inline-returns-in_ok-y-in-Call-clause-all : goal.inline-returns-in_ok-y-in-Call-clause-all
inline-returns-in_ok-y-in-Call-clause-all t c =
    let root = ap shape c.in-Call.is ∙ (λ i. shape (Call (sym c.in-Call.g-is i) (sym c.in-Call.args-is i))) in
    moved _ _ _ _ _ _ _ _ _ _ root refl c.in_ok-y-in-Call.ensures.all

pub inline_call-loop-a-init : goal.inline_call-loop-a-init
inline_call-loop-a-init t c =
    let items = c.replace-taken.result.items in
    let are : items ≡ c.args.args.now.items = ap (λ (v : Vec Expr Global). v.items) c.replace-taken.ensures.value in
    arguments_begin c.args.versions.now (Call c.args.g c.args.args.now) c.args.g c.args.args.now refl items are c.args.clock.now _ _ _ c.in_ok-inputs.ensures.items

pub inline_call-inline-requires : goal.inline_call-inline-requires
inline_call-inline-requires t c =
    let items = c.replace-taken.result.items in
    let are : items ≡ c.args.args.now.items = ap (λ (v : Vec Expr Global). v.items) c.replace-taken.ensures.value in
    let many : into_iter_len c.into_iter-a-iterator.result ≡ length items = (let ok = c.replace-taken.result.ok in let g = c.into_iter-a-iterator.ensures.into_iter_gives.1 in omega (arith, ok, g)) in
    let yields = YieldsList-from_vec {s = c.into_iter-a-iterator.result} items c.into_iter-a-iterator.ensures.into_iter_gives.0 many in
    let front = YieldsList-so_far yields c.loop-a.yielded c.loop-a.a-iterator c.loop-a.yielded_by in
    let turn = YieldsList-turn yields c.loop-a.yielded c.loop-a.a-iterator c.loop-a.yielded_by c.next.result c.next.new.self c.in-Some.a c.in-Some.is c.next.ensures.steps in (
      (let low = argument_lower (Call c.args.g c.args.args.now) c.args.g c.args.args.now refl items are (length c.loop-a.yielded) c.in-Some.a turn.0 turn.1 in omega (arith, low, c.decreases)),
      (
        argument_ready c.args.versions.now (Call c.args.g c.args.args.now) c.args.g c.args.args.now refl items are (length c.loop-a.yielded) c.in-Some.a turn.0 turn.1 c.requires.ready,
        argument_room c.args.versions.now (Call c.args.g c.args.args.now) c.args.g c.args.args.now refl items are (length c.loop-a.yielded) c.in-Some.a turn.0 turn.1 c.args.clock.now _ _ _ _ _ (of_taken c.args.versions.now (Call c.args.g c.args.args.now) c.args.g c.args.args.now refl items are c.loop-a.yielded front c.args.clock.now _ _ _ _ _ c.loop-a.invariant) c.requires.room,
      ),
    )

pub inline_call-loop-a-preserved : goal.inline_call-loop-a-preserved
inline_call-loop-a-preserved t c =
    let items = c.replace-taken.result.items in
    let are : items ≡ c.args.args.now.items = ap (λ (v : Vec Expr Global). v.items) c.replace-taken.ensures.value in
    let many : into_iter_len c.into_iter-a-iterator.result ≡ length items = (let ok = c.replace-taken.result.ok in let g = c.into_iter-a-iterator.ensures.into_iter_gives.1 in omega (arith, ok, g)) in
    let yields = YieldsList-from_vec {s = c.into_iter-a-iterator.result} items c.into_iter-a-iterator.ensures.into_iter_gives.0 many in
    let front = YieldsList-so_far yields c.loop-a.yielded c.loop-a.a-iterator c.loop-a.yielded_by in
    let turn = YieldsList-turn yields c.loop-a.yielded c.loop-a.a-iterator c.loop-a.yielded_by c.next.result c.next.new.self c.in-Some.a c.in-Some.is c.next.ensures.steps in
    taken_turn c.args.versions.now (Call c.args.g c.args.args.now) c.args.g c.args.args.now refl items are c.loop-a.yielded front c.in-Some.a turn.0 turn.1 c.args.clock.now _ _ _ _ _ _ _ _ _ c.loop-a.invariant c.in_ok-inline.ensures.all c.in_ok-push.ensures.items

pub inline_call-copy_for_call-requires-clause-ready : goal.inline_call-copy_for_call-requires-clause-ready
inline_call-copy_for_call-requires-clause-ready t c =
    let items = c.replace-taken.result.items in
    let are : items ≡ c.args.args.now.items = ap (λ (v : Vec Expr Global). v.items) c.replace-taken.ensures.value in
    let many : into_iter_len c.into_iter-a-iterator.result ≡ length items = (let ok = c.replace-taken.result.ok in let g = c.into_iter-a-iterator.ensures.into_iter_gives.1 in omega (arith, ok, g)) in
    let yields = YieldsList-from_vec {s = c.into_iter-a-iterator.result} items c.into_iter-a-iterator.ensures.into_iter_gives.0 many in
    let front = YieldsList-so_far yields c.loop-a.yielded c.loop-a.a-iterator c.loop-a.yielded_by in
    let end = YieldsList-end yields c.loop-a.yielded c.loop-a.a-iterator c.loop-a.yielded_by c.next.result c.next.new.self c.in-None.is c.next.ensures.steps in
    let whole = of_taken c.args.versions.now (Call c.args.g c.args.args.now) c.args.g c.args.args.now refl items are c.loop-a.yielded front c.args.clock.now _ _ _ _ _ c.loop-a.invariant in
    let n : length c.loop-a.yielded ≡ length items = end.1 in
    let past : length items ≤ length c.loop-a.yielded = omega (arith, n) in
    call_copyable c.args.versions.now (Call c.args.g c.args.args.now) c.args.g c.args.args.now refl items are (length c.loop-a.yielded) past c.args.clock.now _ _ _ _ _ whole _ refl c.requires.ready

pub inline_call-copy_for_call-requires-clause-room : goal.inline_call-copy_for_call-requires-clause-room
inline_call-copy_for_call-requires-clause-room t c =
    let items = c.replace-taken.result.items in
    let are : items ≡ c.args.args.now.items = ap (λ (v : Vec Expr Global). v.items) c.replace-taken.ensures.value in
    let many : into_iter_len c.into_iter-a-iterator.result ≡ length items = (let ok = c.replace-taken.result.ok in let g = c.into_iter-a-iterator.ensures.into_iter_gives.1 in omega (arith, ok, g)) in
    let yields = YieldsList-from_vec {s = c.into_iter-a-iterator.result} items c.into_iter-a-iterator.ensures.into_iter_gives.0 many in
    let front = YieldsList-so_far yields c.loop-a.yielded c.loop-a.a-iterator c.loop-a.yielded_by in
    let end = YieldsList-end yields c.loop-a.yielded c.loop-a.a-iterator c.loop-a.yielded_by c.next.result c.next.new.self c.in-None.is c.next.ensures.steps in
    let whole = of_taken c.args.versions.now (Call c.args.g c.args.args.now) c.args.g c.args.args.now refl items are c.loop-a.yielded front c.args.clock.now _ _ _ _ _ c.loop-a.invariant in
    let n : length c.loop-a.yielded ≡ length items = end.1 in
    let past : length items ≤ length c.loop-a.yielded = omega (arith, n) in
    call_room c.args.versions.now (Call c.args.g c.args.args.now) c.args.g c.args.args.now refl items are (length c.loop-a.yielded) past c.args.clock.now _ _ _ _ _ whole _ refl c.requires.room

pub inline_call-returns-clause-room : goal.inline_call-returns-clause-room
inline_call-returns-clause-room t c =
    let items = c.replace-taken.result.items in
    let are : items ≡ c.args.args.now.items = ap (λ (v : Vec Expr Global). v.items) c.replace-taken.ensures.value in
    let many : into_iter_len c.into_iter-a-iterator.result ≡ length items = (let ok = c.replace-taken.result.ok in let g = c.into_iter-a-iterator.ensures.into_iter_gives.1 in omega (arith, ok, g)) in
    let yields = YieldsList-from_vec {s = c.into_iter-a-iterator.result} items c.into_iter-a-iterator.ensures.into_iter_gives.0 many in
    let front = YieldsList-so_far yields c.loop-a.yielded c.loop-a.a-iterator c.loop-a.yielded_by in
    let end = YieldsList-end yields c.loop-a.yielded c.loop-a.a-iterator c.loop-a.yielded_by c.next.result c.next.new.self c.in-None.is c.next.ensures.steps in
    let whole = of_taken c.args.versions.now (Call c.args.g c.args.args.now) c.args.g c.args.args.now refl items are c.loop-a.yielded front c.args.clock.now _ _ _ _ _ c.loop-a.invariant in
    let n : length c.loop-a.yielded ≡ length items = end.1 in
    let past : length items ≤ length c.loop-a.yielded = omega (arith, n) in
    call_length c.args.versions.now (Call c.args.g c.args.args.now) c.args.g c.args.args.now refl items are (length c.loop-a.yielded) past c.args.clock.now _ _ _ _ _ whole _ refl _ _ _ c.in_ok-output.ensures.output c.in_ok-output.ensures.adds

pub inline_call-returns-clause-all : goal.inline_call-returns-clause-all
inline_call-returns-clause-all t c =
    let items = c.replace-taken.result.items in
    let are : items ≡ c.args.args.now.items = ap (λ (v : Vec Expr Global). v.items) c.replace-taken.ensures.value in
    let many : into_iter_len c.into_iter-a-iterator.result ≡ length items = (let ok = c.replace-taken.result.ok in let g = c.into_iter-a-iterator.ensures.into_iter_gives.1 in omega (arith, ok, g)) in
    let yields = YieldsList-from_vec {s = c.into_iter-a-iterator.result} items c.into_iter-a-iterator.ensures.into_iter_gives.0 many in
    let front = YieldsList-so_far yields c.loop-a.yielded c.loop-a.a-iterator c.loop-a.yielded_by in
    let end = YieldsList-end yields c.loop-a.yielded c.loop-a.a-iterator c.loop-a.yielded_by c.next.result c.next.new.self c.in-None.is c.next.ensures.steps in
    let whole = of_taken c.args.versions.now (Call c.args.g c.args.args.now) c.args.g c.args.args.now refl items are c.loop-a.yielded front c.args.clock.now _ _ _ _ _ c.loop-a.invariant in
    let n : length c.loop-a.yielded ≡ length items = end.1 in
    let past : length items ≤ length c.loop-a.yielded = omega (arith, n) in
    call_inlined c.args.versions.now (Call c.args.g c.args.args.now) c.args.g c.args.args.now refl items are (length c.loop-a.yielded) past c.args.clock.now _ _ _ _ _ whole _ refl _ _ _ c.in_ok-output.ensures.output c.in_ok-output.ensures.adds

pub inline_outside-returns-clause-all : goal.inline_outside-returns-clause-all
inline_outside-returns-clause-all t c =
    subst (λ ck. OnOk c.inline.result (InlinedTo (library_of c.args.versions.now) ck (shape c.args.e.now) c.args.into.now.decls.items c.args.into.now.eqs.items c.inline.new.into.decls.items c.inline.new.into.eqs.items (shape c.inline.new.e))) c.in_ok-before.ensures c.inline.ensures.all

pub inline_branch-returns-clause-all : goal.inline_branch-returns-clause-all
inline_branch-returns-clause-all t c =
    subst (λ ck. OnOk c.inline.result (InlinedTo (library_of c.args.versions.now) ck (shape c.args.e.now) c.args.into.now.decls.items c.args.into.now.eqs.items c.inline.new.into.decls.items c.inline.new.into.eqs.items (shape c.inline.new.e))) c.in_ok-branch.ensures c.inline.ensures.all
