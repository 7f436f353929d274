use Rattle.std.proofs.Common.{◌≡◌, ◌+◌, ◌<◌, ◌∙◌, ℕ, List, [], length, ap, sym, subst, arith, slice_index_or}
use Rattle.std.proofs.lemmas.List.{get_or_read}
use Rattle.lt_arch.specs.Deadline.{least_below}
use Rattle.lt_lossy.specs.Times.{oldest_in}
use Rattle.lt_losing.proofs.Least.{least_next}
use Rattle.lt_losing.proofs.pending.first_arrival.Goals as goal

pub loop-c-init : goal.loop-c-init
loop-c-init c f is each = is ∙ ap (least_below f) (let same : c.args.places ≡ c.args.places + 0 = omega arith in same)

pub loop-c-preserved : goal.loop-c-preserved
loop-c-preserved c f is each =
    let i = c.loop-c.c in
    let places = c.args.places in
    let value = c.deref-queue-items.ensures.value in
    let test = c.loop-c-test.true in
    let within : i < length c.args.arrivals.now.items = subst (λ (xs : List (List ℕ)). i < length xs) value test in
    let read = get_or_read c.deref-queue-items.result.now i c.queue-item.result test c.queue-item.is [] in
    let oldest = c.oldest.ensures ∙ (ap oldest_in read ∙ (ap (λ (xs : List (List ℕ)). oldest_in (slice_index_or xs i [])) value ∙ sym (each i within))) in
    let next = least_next f (places + i) c.loop-c.first c.oldest.result c.sooner-first.result (c.loop-c.invariant f is each) oldest c.sooner-first.ensures in
    next ∙ ap (least_below f) (let same : places + i + 1 ≡ places + (i + 1) = omega arith in same)

pub returns : goal.returns
returns c f is each =
    let size = ap (λ (xs : List (List ℕ)). length xs) c.deref-queue-items.ensures.value in
    let low = c.loop-c-test.false in
    let high = c.loop-c.auto.c-end in
    c.loop-c.invariant f is each ∙ ap (least_below f) (let same : c.args.places + c.loop-c.c ≡ c.args.places + length c.args.arrivals.now.items = omega (arith, size, low, high) in same)
