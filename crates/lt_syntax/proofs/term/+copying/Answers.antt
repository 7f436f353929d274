use Rattle.lt_syntax.specs.Views.{tm_of}
use Rattle.lt_syntax.proofs.Copies.{copied, var_shape, unary_shape, binary_shape, choice_shape, sampled_shape, merged_shape, delayed_shape, followed_shape, arrow_shape}
use Rattle.lt_syntax.proofs.term.+copying.Goals as goal

pub Term::copy-returns-in-Var : goal.Term::copy-returns-in-Var
Term::copy-returns-in-Var t c = let i = c.in-Var in copied _ _ _ _ i.is (var_shape i.x) (c.variable.ensures i.x c.copy.ensures)

pub Term::copy-returns-in-Un : goal.Term::copy-returns-in-Un
Term::copy-returns-in-Un t c = let i = c.in-Un in copied _ _ _ _ i.is (unary_shape i.o i.a) (c.unary.ensures (tm_of i.a.value) c.twin.ensures)

pub Term::copy-returns-in-Bin : goal.Term::copy-returns-in-Bin
Term::copy-returns-in-Bin t c =
    let i = c.in-Bin in
    let x = tm_of i.a.value in
    let y = tm_of i.b.value in
    copied _ _ _ _ i.is (binary_shape i.o i.a i.b) (c.binary.ensures x y (c.both.ensures x y c.twin-in-Bin.ensures c.twin-in-Bin-2.ensures))

pub Term::copy-returns-in-If : goal.Term::copy-returns-in-If
Term::copy-returns-in-If t c =
    let i = c.in-If in
    let x = tm_of i.a.value in
    let y = tm_of i.b.value in
    copied _ _ _ _ i.is (choice_shape i.c i.a i.b) (c.choice.ensures (tm_of i.c.value) x y c.twin-in-If.ensures (c.both-in-If.ensures x y c.twin-in-If-2.ensures c.twin-in-If-3.ensures))

pub Term::copy-returns-in-When : goal.Term::copy-returns-in-When
Term::copy-returns-in-When t c =
    let i = c.in-When in
    copied _ _ _ _ i.is (sampled_shape i.a i.c i.polarity) (c.sample_term.ensures (tm_of i.a.value) i.c c.twin-in-When.ensures c.copy-in-When.ensures)

pub Term::copy-returns-in-Merge : goal.Term::copy-returns-in-Merge
Term::copy-returns-in-Merge t c =
    let i = c.in-Merge in
    let x = tm_of i.a.value in
    let y = tm_of i.b.value in
    copied _ _ _ _ i.is (merged_shape i.c i.a i.b) (c.merge_terms.ensures i.c x y c.copy-in-Merge.ensures (c.both-in-Merge.ensures x y c.twin-in-Merge.ensures c.twin-in-Merge-2.ensures))

pub Term::copy-returns-in-Fby : goal.Term::copy-returns-in-Fby
Term::copy-returns-in-Fby t c = let i = c.in-Fby in copied _ _ _ _ i.is (delayed_shape i.v i.a) (c.delay_term.ensures (tm_of i.a.value) c.twin-in-Fby.ensures)

pub Term::copy-returns-in-Follow : goal.Term::copy-returns-in-Follow
Term::copy-returns-in-Follow t c =
    let i = c.in-Follow in
    let x = tm_of i.a.value in
    let y = tm_of i.b.value in
    copied _ _ _ _ i.is (followed_shape i.a i.b) (c.follow_terms.ensures x y (c.both-in-Follow.ensures x y c.twin-in-Follow.ensures c.twin-in-Follow-2.ensures))

pub Term::copy-returns-in-Arrow : goal.Term::copy-returns-in-Arrow
Term::copy-returns-in-Arrow t c =
    let i = c.in-Arrow in
    let x = tm_of i.a.value in
    let y = tm_of i.b.value in
    copied _ _ _ _ i.is (arrow_shape i.a i.b) (c.arrow.ensures x y (c.both-in-Arrow.ensures x y c.twin-in-Arrow.ensures c.twin-in-Arrow-2.ensures))
