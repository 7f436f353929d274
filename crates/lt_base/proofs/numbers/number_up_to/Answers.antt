use Rattle.std.proofs.Common.{◌≡◌, ℕ, ◌+◌, ◌-◌, ◌*◌, ◌<◌, List, ◌∷◌, length, drop, get_or, sym, ap, ◌∙◌, arith, drop-cons, add-one}
use Rattle.lt_base.specs.Digits.{up_to}
use Rattle.lt_base.proofs.Digits.{at_start, is_digit-true, is_digit-low, is_digit-high, one_more, no_digit, too_large, read_rest}
use Rattle.lt_base.proofs.numbers.number_up_to.Goals as goal
use Rattle.lt_base.proofs.numbers.number_up_to.Goals.{then-byte-lt48-via-then-byte-lt48, then-byte-lt48-via-else-byte-lt48+then-byte-gt57}

-- the rest at a place of the list
rest_at : (s : List ℕ) (i : ℕ) → i < length s → drop i s ≡ get_or s i 0 ∷ drop (i + 1) s
rest_at s i h = drop-cons s i 0 h ∙ ap (λ k. get_or s i 0 ∷ drop k s) (sym (add-one i))

pub loop-byte-init : goal.loop-byte-init
loop-byte-init c = record { bound = omega arith; rest = ap (up_to c.args.most) (at_start c.args.digits.now (grind arith)) }

pub loop-byte-preserved : goal.loop-byte-preserved
loop-byte-preserved c =
    let s = c.args.digits.now in
    let i = c.loop-byte.byte-index in
    let here = rest_at s i c.loop-byte-test.true in
    let digit = is_digit-true (get_or s i 0) c.if-byte-lt48.false c.if-byte-gt57.false in
    record {
      bound = omega arith;
      rest = c.loop-byte.invariant.rest ∙ ap (λ t. up_to c.args.most (read_rest c.loop-byte.number t)) here ∙ ap (up_to c.args.most) (one_more c.loop-byte.number (get_or s i 0) (drop (i + 1) s) digit);
    }

pub returns-then-byte-lt48 : goal.returns-then-byte-lt48
returns-then-byte-lt48 c =
    let s = c.args.digits.now in
    let i = c.loop-byte.byte-index in
    let here = c.loop-byte.invariant.rest ∙ ap (λ t. up_to c.args.most (read_rest c.loop-byte.number t)) (rest_at s i c.loop-byte-test.true) in
    elim c.then-byte-lt48.branch [
      | then-byte-lt48-via-then-byte-lt48 w ↦ sym (here ∙ no_digit c.args.most c.loop-byte.number (get_or s i 0) (drop (i + 1) s) (is_digit-low (get_or s i 0) w.if-byte-lt48.true))
      | then-byte-lt48-via-else-byte-lt48+then-byte-gt57 w ↦ sym (here ∙ no_digit c.args.most c.loop-byte.number (get_or s i 0) (drop (i + 1) s) (is_digit-high (get_or s i 0) w.if-byte-gt57.true))
    ]

pub returns-then-most-digit : goal.returns-then-most-digit
returns-then-most-digit c =
    let s = c.args.digits.now in
    let i = c.loop-byte.byte-index in
    let digit = is_digit-true (get_or s i 0) c.if-byte-lt48.false c.if-byte-gt57.false in
    let past : c.args.most < c.loop-byte.number * 10 + (get_or s i 0 - 48) = omega arith in
    sym (c.loop-byte.invariant.rest ∙ ap (λ t. up_to c.args.most (read_rest c.loop-byte.number t)) (rest_at s i c.loop-byte-test.true)
    ∙ ap (up_to c.args.most) (one_more c.loop-byte.number (get_or s i 0) (drop (i + 1) s) digit)
    ∙ too_large c.args.most (c.loop-byte.number * 10 + (get_or s i 0 - 48)) (drop (i + 1) s) past)
