use Rattle.std.proofs.Common.{◌≡◌, Some, length, sym, subst, arith}
use Rattle.std.specs.Vec.Iter.{into_iter_len}
use Rattle.std.proofs.lemmas.Iterator.Adapters.{YieldsList-from_vec}
use Rattle.std.proofs.lemmas.Iterator.Consumers.{YieldsList-turn, YieldsList-end}
use Rattle.lt_base.specs.Program.{Function}
use Rattle.lt_resolve.specs.Names.{number_of_name}
use Rattle.lt_resolve.specs.Scopes.{functions}
use Rattle.lt_resolve.specs.Named.{IsFunction, main}
use Rattle.lt_resolve.proofs.Good.{is_completed, good_draft, room_of_draft}
use Rattle.lt_resolve.proofs.Programs.{good_program, draft_at, right_at, along_next, along_whole}
use Rattle.lt_resolve.proofs.program.program.Goals as goal

pub function-requires-clause-room : goal.function-requires-clause-room
function-requires-clause-room c =
    let t = c.args.tables.now in
    let ds = c.args.drafts.items in
    let d = c.in-Some.draft in
    let many : into_iter_len c.into_iter-draft-iterator.result ≡ length ds = (let ok = c.args.drafts.ok in let g = c.into_iter-draft-iterator.ensures.into_iter_gives.1 in omega (arith, ok, g)) in
    let turn = YieldsList-turn (YieldsList-from_vec {s = c.into_iter-draft-iterator.result} ds c.into_iter-draft-iterator.ensures.into_iter_gives.0 many) c.drafts.yielded c.drafts.draft-iterator c.drafts.yielded_by c.next.result c.next.new.self d c.in-Some.is c.next.ensures.steps in
    let k = length c.drafts.yielded in
    room_of_draft (functions t) d.node.now (right_at t ds c.requires.drafts c.requires.right k d turn.0 turn.1)

pub function-requires-clause-good : goal.function-requires-clause-good
function-requires-clause-good c =
    let t = c.args.tables.now in
    let ds = c.args.drafts.items in
    let d = c.in-Some.draft in
    let many : into_iter_len c.into_iter-draft-iterator.result ≡ length ds = (let ok = c.args.drafts.ok in let g = c.into_iter-draft-iterator.ensures.into_iter_gives.1 in omega (arith, ok, g)) in
    let turn = YieldsList-turn (YieldsList-from_vec {s = c.into_iter-draft-iterator.result} ds c.into_iter-draft-iterator.ensures.into_iter_gives.0 many) c.drafts.yielded c.drafts.draft-iterator c.drafts.yielded_by c.next.result c.next.new.self d c.in-Some.is c.next.ensures.steps in
    let k = length c.drafts.yielded in
    good_draft (functions t) d (draft_at t ds c.requires.drafts c.requires.right k d turn.0 turn.1) (right_at t ds c.requires.drafts c.requires.right k d turn.0 turn.1)

pub drafts-preserved : goal.drafts-preserved
drafts-preserved c =
    let t = c.args.tables.now in
    let ds = c.args.drafts.items in
    let d = c.in-Some.draft in
    let many : into_iter_len c.into_iter-draft-iterator.result ≡ length ds = (let ok = c.args.drafts.ok in let g = c.into_iter-draft-iterator.ensures.into_iter_gives.1 in omega (arith, ok, g)) in
    let turn = YieldsList-turn (YieldsList-from_vec {s = c.into_iter-draft-iterator.result} ds c.into_iter-draft-iterator.ensures.into_iter_gives.0 many) c.drafts.yielded c.drafts.draft-iterator c.drafts.yielded_by c.next.result c.next.new.self d c.in-Some.is c.next.ensures.steps in
    let k = length c.drafts.yielded in
    let is = is_completed (functions t) d (draft_at t ds c.requires.drafts c.requires.right k d turn.0 turn.1) (right_at t ds c.requires.drafts c.requires.right k d turn.0 turn.1) in
    along_next (functions t) c.drafts.yielded c.drafts.funcs.items c.push.new.self.items d c.in_ok-function.field-0 c.drafts.invariant (subst (λ (f : Function). IsFunction (functions t) d.node.now f) (sym c.in_ok-function.ensures) is) c.in_ok-push.ensures.items

pub new-requires : goal.new-requires
new-requires c =
    let t = c.args.tables.now in
    let ds = c.args.drafts.items in
    let many : into_iter_len c.into_iter-draft-iterator.result ≡ length ds = (let ok = c.args.drafts.ok in let g = c.into_iter-draft-iterator.ensures.into_iter_gives.1 in omega (arith, ok, g)) in
    let end = YieldsList-end (YieldsList-from_vec {s = c.into_iter-draft-iterator.result} ds c.into_iter-draft-iterator.ensures.into_iter_gives.0 many) c.drafts.yielded c.drafts.draft-iterator c.drafts.yielded_by c.next.result c.next.new.self c.in-None.is c.next.ensures.steps in
    good_program t c.of.result c.main_of.result (along_whole t ds c.drafts.yielded c.drafts.funcs.items c.of.result end.0 c.requires.drafts c.of.ensures c.drafts.invariant)
    (subst (λ ns. number_of_name ns main ≡ Some c.main_of.result) c.functions.ensures c.main_of.ensures) c.requires.right
