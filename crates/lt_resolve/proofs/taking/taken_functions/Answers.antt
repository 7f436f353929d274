use Rattle.std.proofs.Common.{◌≡◌, ◌≤◌, ℕ, Option, length, take, drop, sym, subst, arith}
use Rattle.std.specs.Vec.Iter.{into_iter_len}
use Rattle.std.proofs.lemmas.Iterator.Adapters.{YieldsList-from_vec}
use Rattle.std.proofs.lemmas.Iterator.Consumers.{YieldsList-turn, YieldsList-end}
use Rattle.lt_syntax.specs.declared.tree.NodeText.{NodeText}
use Rattle.lt_resolve.specs.declared.fault.NameKind.TheVariants.{Unknown}
use Rattle.lt_resolve.specs.Names.{Name}
use Rattle.lt_resolve.specs.Faults.{first_in, unknown_in}
use Rattle.lt_resolve.specs.Named.{Along, IsFunction}
use Rattle.lt_resolve.proofs.Lists.{in_next, in_none}
use Rattle.lt_resolve.proofs.Pairs.{along_more, along_all}
use Rattle.lt_resolve.proofs.Taken.{Standing, none_standing, one_longer, shows_on, in_function, taken_length}
use Rattle.lt_resolve.proofs.taking.taken_functions.Goals as goal

pub taken_function-requires-clause-place : goal.taken_function-requires-clause-place
taken_function-requires-clause-place c =
    let all = c.args.nodes.items in
    let node = c.in-Some.node in
    let many : into_iter_len c.into_iter-node-iterator.result ≡ length all = (let ok = c.args.nodes.ok in let g = c.into_iter-node-iterator.ensures.into_iter_gives.1 in omega (arith, ok, g)) in
    let turn = YieldsList-turn (YieldsList-from_vec {s = c.into_iter-node-iterator.result} all c.into_iter-node-iterator.ensures.into_iter_gives.0 many) c.nodes.yielded c.nodes.node-iterator c.nodes.yielded_by c.next.result c.next.new.self node c.in-Some.is c.next.ensures.steps in
    let at = taken_length (IsFunction c.args.functions.now) all (length c.nodes.yielded) c.nodes.funcs.items turn.0 c.nodes.invariant.along in
    let ok = c.nodes.funcs.ok in
    let less = turn.0 in
    omega (arith, at, ok, less, c.len-place.ensures, c.requires.room)

pub returns-in_err-taken_function-clause-shown : goal.returns-in_err-taken_function-clause-shown
returns-in_err-taken_function-clause-shown c =
    let f : ℕ → NodeText → Option Name = λ i n. unknown_in c.args.functions.now n in
    let all = c.args.nodes.items in
    let k = length c.nodes.yielded in
    let node = c.in-Some.node in
    let many : into_iter_len c.into_iter-node-iterator.result ≡ length all = (let ok = c.args.nodes.ok in let g = c.into_iter-node-iterator.ensures.into_iter_gives.1 in omega (arith, ok, g)) in
    let turn = YieldsList-turn (YieldsList-from_vec {s = c.into_iter-node-iterator.result} all c.into_iter-node-iterator.ensures.into_iter_gives.0 many) c.nodes.yielded c.nodes.node-iterator c.nodes.yielded_by c.next.result c.next.new.self node c.in-Some.is c.next.ensures.steps in
    let at = taken_length (IsFunction c.args.functions.now) all k c.nodes.funcs.items turn.0 c.nodes.invariant.along in
    let ok = c.nodes.funcs.ok in
    let same : c.len-place.result ≡ k = omega (arith, at, ok, c.len-place.ensures) in
    shows_on Unknown (Standing c.len-place.result (unknown_in c.args.functions.now node)) (λ o. o ≡ first_in f 0 all) c.in_err-taken_function.field-0.0 _ c.from_residual-in_err-taken_function.ensures.1
    (in_function f all k c.len-place.result node turn.0 turn.1 same c.nodes.invariant.rest) c.in_err-taken_function.ensures.shown

pub nodes-preserved : goal.nodes-preserved
nodes-preserved c =
    let f : ℕ → NodeText → Option Name = λ i n. unknown_in c.args.functions.now n in
    let R = IsFunction c.args.functions.now in
    let all = c.args.nodes.items in
    let k = length c.nodes.yielded in
    let node = c.in-Some.node in
    let many : into_iter_len c.into_iter-node-iterator.result ≡ length all = (let ok = c.args.nodes.ok in let g = c.into_iter-node-iterator.ensures.into_iter_gives.1 in omega (arith, ok, g)) in
    let turn = YieldsList-turn (YieldsList-from_vec {s = c.into_iter-node-iterator.result} all c.into_iter-node-iterator.ensures.into_iter_gives.0 many) c.nodes.yielded c.nodes.node-iterator c.nodes.yielded_by c.next.result c.next.new.self node c.in-Some.is c.next.ensures.steps in
    let longer = sym (one_longer c.nodes.yielded node) in
    record {
      rest = subst (λ m. first_in f m (drop m all) ≡ first_in f 0 all) longer (in_next f all k node turn.0 turn.1 (none_standing c.len-place.result (unknown_in c.args.functions.now node) c.in_ok-taken_function.ensures.shown) c.nodes.invariant.rest);
      along = subst (λ m. Along R (take m all) c.push.new.self.items) longer (along_more R all k node c.nodes.funcs.items c.push.new.self.items c.in_ok-taken_function.field-0 turn.0 turn.1 c.nodes.invariant.along c.in_ok-taken_function.ensures.function c.in_ok-push.ensures.items);
    }

pub returns-clause-shown : goal.returns-clause-shown
returns-clause-shown c =
    let f : ℕ → NodeText → Option Name = λ i n. unknown_in c.args.functions.now n in
    let all = c.args.nodes.items in
    let many : into_iter_len c.into_iter-node-iterator.result ≡ length all = (let ok = c.args.nodes.ok in let g = c.into_iter-node-iterator.ensures.into_iter_gives.1 in omega (arith, ok, g)) in
    let end = YieldsList-end (YieldsList-from_vec {s = c.into_iter-node-iterator.result} all c.into_iter-node-iterator.ensures.into_iter_gives.0 many) c.nodes.yielded c.nodes.node-iterator c.nodes.yielded_by c.next.result c.next.new.self c.in-None.is c.next.ensures.steps in
    let whole : length all ≤ length c.nodes.yielded = (let e = end.1 in omega (arith, e)) in
    sym (in_none f all (length c.nodes.yielded) whole c.nodes.invariant.rest)

pub returns-clause-functions : goal.returns-clause-functions
returns-clause-functions c =
    let all = c.args.nodes.items in
    let many : into_iter_len c.into_iter-node-iterator.result ≡ length all = (let ok = c.args.nodes.ok in let g = c.into_iter-node-iterator.ensures.into_iter_gives.1 in omega (arith, ok, g)) in
    let end = YieldsList-end (YieldsList-from_vec {s = c.into_iter-node-iterator.result} all c.into_iter-node-iterator.ensures.into_iter_gives.0 many) c.nodes.yielded c.nodes.node-iterator c.nodes.yielded_by c.next.result c.next.new.self c.in-None.is c.next.ensures.steps in
    along_all (IsFunction c.args.functions.now) all (length c.nodes.yielded) c.nodes.funcs.items (let e = end.1 in omega (arith, e)) c.nodes.invariant.along
