use Rattle.std.proofs.Common.{◌≡◌, ℕ, ◌+◌, ◌^◌, ◌-◌, min, refl, ap, sym, ◌∙◌, arith}
use Rattle.std.specs.List.{sum_by}
use Rattle.std.proofs.lemmas.List.{take_all}
use Rattle.lt_syntax.specs.Views.{tm_of}
use Rattle.lt_resolve.specs.Uses.{term_delays}
use Rattle.lt_resolve.proofs.Terms.{argument_delays_are}
use Rattle.lt_resolve.proofs.Forms.{bin_is, if_is, fby_is, follow_is, arrow_is}
use Rattle.lt_resolve.proofs.delays.+delays.Goals as goal

-- the sum of two quantities that are cut at the greatest number, cut again
sum_is : (a b x y r n : ℕ) → x ≡ min a (2 ^ 64 - 1) → y ≡ min b (2 ^ 64 - 1) → r ≡ min (x + y) (2 ^ 64 - 1) → a + b ≡ n → r ≡ min n (2 ^ 64 - 1)
sum_is a b x y r n first second sum whole = omega arith

pub argument_delays-returns : goal.argument_delays-returns
argument_delays-returns t c =
    c.arguments.invariant
    ∙ ap (λ l. min (sum_by (λ a. term_delays (tm_of a)) l) (2 ^ 64 - 1)) (take_all c.arguments.a-index c.args.args.now (omega arith))
    ∙ ap (λ n. min n (2 ^ 64 - 1)) (sym (argument_delays_are c.args.args.now))

pub delays-returns-in-Bin : goal.delays-returns-in-Bin
delays-returns-in-Bin t c =
    sum_is (term_delays (tm_of c.deref-in-Bin.result.now)) (term_delays (tm_of c.deref-in-Bin-2.result.now)) c.delays-in-Bin.result c.delays-in-Bin-2.result c.saturating_add.result _ c.delays-in-Bin.ensures c.delays-in-Bin-2.ensures c.saturating_add.ensures refl
    ∙ ap (λ s. min (term_delays s) (2 ^ 64 - 1)) (bin_is c.args.term.now c.in-Bin.field-0 c.in-Bin.a c.in-Bin.b c.deref-in-Bin.result.now c.deref-in-Bin-2.result.now c.in-Bin.is c.deref-in-Bin.ensures c.deref-in-Bin-2.ensures)

pub delays-returns-in-If : goal.delays-returns-in-If
delays-returns-in-If t c =
    let x = term_delays (tm_of c.deref-in-If.result.now) in
    let y = term_delays (tm_of c.deref-in-If-2.result.now) in
    let z = term_delays (tm_of c.deref-in-If-3.result.now) in
    sum_is (x + y) z c.saturating_add-in-If.result c.delays-in-If-3.result c.saturating_add-in-If-2.result (x + y + z)
    (sum_is x y c.delays-in-If.result c.delays-in-If-2.result c.saturating_add-in-If.result (x + y) c.delays-in-If.ensures c.delays-in-If-2.ensures c.saturating_add-in-If.ensures refl) c.delays-in-If-3.ensures c.saturating_add-in-If-2.ensures refl
    ∙ ap (λ s. min (term_delays s) (2 ^ 64 - 1)) (if_is c.args.term.now c.in-If.c c.in-If.a c.in-If.b c.deref-in-If.result.now c.deref-in-If-2.result.now c.deref-in-If-3.result.now c.in-If.is c.deref-in-If.ensures c.deref-in-If-2.ensures c.deref-in-If-3.ensures)

pub delays-returns-in-Fby : goal.delays-returns-in-Fby
delays-returns-in-Fby t c =
    let x = term_delays (tm_of c.deref-in-Fby.result.now) in
    sum_is x 1 c.delays-in-Fby.result 1 c.saturating_add-in-Fby.result (1 + x) c.delays-in-Fby.ensures (omega arith) c.saturating_add-in-Fby.ensures (omega arith)
    ∙ ap (λ s. min (term_delays s) (2 ^ 64 - 1)) (fby_is c.args.term.now c.in-Fby.field-0 c.in-Fby.a c.deref-in-Fby.result.now c.in-Fby.is c.deref-in-Fby.ensures)

pub delays-returns-in-Follow : goal.delays-returns-in-Follow
delays-returns-in-Follow t c =
    let x = term_delays (tm_of c.deref-in-Follow.result.now) in
    let y = term_delays (tm_of c.deref-in-Follow-2.result.now) in
    sum_is (x + y) 2 c.saturating_add-in-Follow.result 2 c.saturating_add-in-Follow-2.result (2 + x + y)
    (sum_is x y c.delays-in-Follow.result c.delays-in-Follow-2.result c.saturating_add-in-Follow.result (x + y) c.delays-in-Follow.ensures c.delays-in-Follow-2.ensures c.saturating_add-in-Follow.ensures refl) (omega arith) c.saturating_add-in-Follow-2.ensures (omega arith)
    ∙ ap (λ s. min (term_delays s) (2 ^ 64 - 1)) (follow_is c.args.term.now c.in-Follow.a c.in-Follow.b c.deref-in-Follow.result.now c.deref-in-Follow-2.result.now c.in-Follow.is c.deref-in-Follow.ensures c.deref-in-Follow-2.ensures)

pub delays-returns-in-Arrow : goal.delays-returns-in-Arrow
delays-returns-in-Arrow t c =
    let x = term_delays (tm_of c.deref-in-Arrow.result.now) in
    let y = term_delays (tm_of c.deref-in-Arrow-2.result.now) in
    sum_is (x + y) 1 c.saturating_add-in-Arrow.result 1 c.saturating_add-in-Arrow-2.result (1 + x + y)
    (sum_is x y c.delays-in-Arrow.result c.delays-in-Arrow-2.result c.saturating_add-in-Arrow.result (x + y) c.delays-in-Arrow.ensures c.delays-in-Arrow-2.ensures c.saturating_add-in-Arrow.ensures refl) (omega arith) c.saturating_add-in-Arrow-2.ensures (omega arith)
    ∙ ap (λ s. min (term_delays s) (2 ^ 64 - 1)) (arrow_is c.args.term.now c.in-Arrow.a c.in-Arrow.b c.deref-in-Arrow.result.now c.deref-in-Arrow-2.result.now c.in-Arrow.is c.deref-in-Arrow.ensures c.deref-in-Arrow-2.ensures)
