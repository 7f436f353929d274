use Rattle.std.proofs.Common.{◌≡◌, ◌≤◌, ◌++◌, ◌+◌, ◌∙◌, ap, drop, length, arith}
use Rattle.lt_svg.specs.Pieces.{filled_template}
use Rattle.lt_svg.proofs.Filled.{number_more, byte_more, past_more, all_filled}
use Rattle.lt_svg.proofs.template.fill.Goals as goal
use Rattle.lt_svg.proofs.template.fill.Goals.{then-byte-eq37+then-next-numbers+in_ok-append_number, else-byte-eq37+in_ok-push, else-byte-eq37-via-then-byte-eq37+else-next-numbers, else-byte-eq37-via-else-byte-eq37}

pub bytes-preserved : goal.bytes-preserved
bytes-preserved c =
    let t = c.args.template.now in
    let ns = c.args.numbers.now in
    let i = c.bytes.byte-index in
    let after = c.if-byte-eq37.out in
    let whole = c.args.out.now ++ filled_template t ns in
    elim c.if-byte-eq37.branch [
      | then-byte-eq37+then-next-numbers+in_ok-append_number w ↦ record {
        text =
            ap (λ k. after ++ filled_template (drop (i + 1) t) (drop k ns)) w.next-is
            ∙ number_more t ns c.bytes.out after whole i c.bytes.next c.bytes-test.true w.if-next-numbers.true w.if-byte-eq37.true (w.out-is ∙ w.in_ok-append_number.ensures.ok) c.bytes.invariant.text;
        taken = let more = w.if-next-numbers.true in let is = w.next-is in omega arith;
      }
      | else-byte-eq37+in_ok-push w ↦ elim w.else-byte-eq37.branch [
        | else-byte-eq37-via-then-byte-eq37+else-next-numbers w' ↦ record {
          text =
              ap (λ k. after ++ filled_template (drop (i + 1) t) (drop k ns)) w.next-is
              ∙ past_more t ns c.bytes.out after whole i c.bytes.next c.bytes-test.true w'.if-next-numbers.false (w.out-is ∙ w.in_ok-push.ensures.ok) c.bytes.invariant.text;
          taken = let same = c.bytes.invariant.taken in let is = w.next-is in omega arith;
        }
        | else-byte-eq37-via-else-byte-eq37 w' ↦ record {
          text =
              ap (λ k. after ++ filled_template (drop (i + 1) t) (drop k ns)) w.next-is
              ∙ byte_more t ns c.bytes.out after whole i c.bytes.next c.bytes-test.true w'.if-byte-eq37.false (w.out-is ∙ w.in_ok-push.ensures.ok) c.bytes.invariant.text;
          taken = let same = c.bytes.invariant.taken in let is = w.next-is in omega arith;
        }
      ]
    ]

pub returns : goal.returns
returns c = all_filled c.args.template.now c.args.numbers.now c.bytes.out (c.args.out.now ++ filled_template c.args.template.now c.args.numbers.now) c.bytes.byte-index c.bytes.next (omega arith) c.bytes.invariant.text
