use Rattle.std.proofs.Common.{◌+◌, ◌<◌, [], length, drop, get_or, sym, ap, ap₂, ◌∙◌, arith, map, codes}
use Rattle.std.proofs.lemmas.List.{drop_all}
use Rattle.csv.specs.Records.{fields_of}
use Rattle.lt_inputs.specs.Inputs.{same_fields, header_of}
use Rattle.lt_inputs.proofs.Header.{rest_at, of_not, of_not-false, agrees, differs, unequal, name_of, name_at, names-length}
use Rattle.lt_inputs.proofs.rows.is_header.Goals as goal
use Rattle.lt_inputs.proofs.rows.is_header.Goals.{then-len-ins-via-then-len-ins, then-len-ins-via-else-len-ins+then-ne}

pub returns-then-len-ins : goal.returns-then-len-ins
returns-then-len-ins c =
    let fields = fields_of c.args.row.now in
    let names = map name_of c.args.ins.now in
    elim c.then-len-ins.branch [
      | then-len-ins-via-then-len-ins w ↦ sym (unequal fields (header_of c.args.ins.now) (λ e. w.if-len-ins.true (omega (arith, e, c.len.ensures, names-length c.args.ins.now))))
      | then-len-ins-via-else-len-ins+then-ne w ↦
          let some : 0 < length fields = omega (arith, c.len.ensures, w.if-len-ins.false) in
          let ne = of_not _ w.ne.result (rw (w.field.ensures, w.as_slice.ensures) at w.ne.ensures) w.if-ne.true in
          sym (ap (λ t. same_fields t (header_of c.args.ins.now)) (rest_at fields 0 [] some) ∙ differs (get_or fields 0 []) (codes "instant") (drop (0 + 1) fields) names ne)
    ]

pub loop-i-init : goal.loop-i-init
loop-i-init c =
    let fields = fields_of c.args.row.now in
    let names = map name_of c.args.ins.now in
    let some : 0 < length fields = omega (arith, c.len.ensures, c.if-len-ins.false) in
    let eq = of_not-false _ c.ne.result (rw (c.field.ensures, c.as_slice.ensures) at c.ne.ensures) c.if-ne.false in
    ap (λ t. same_fields t (header_of c.args.ins.now)) (rest_at fields 0 [] some) ∙ agrees (get_or fields 0 []) (codes "instant") (drop (0 + 1) fields) names eq

pub returns-then-ne-2 : goal.returns-then-ne-2
returns-then-ne-2 c =
    let fields = fields_of c.args.row.now in
    let names = map name_of c.args.ins.now in
    let i = c.loop-i.i in
    let here : i + 1 < length fields = omega (arith, c.len.ensures, c.if-len-ins.false, c.loop-i-test.true) in
    let there : i < length names = omega (arith, names-length c.args.ins.now, c.loop-i-test.true) in
    let name = name_at c.args.ins.now i c.index-ins-i.result c.loop-i-test.true c.index-ins-i.is in
    let ne = of_not _ c.ne-in-loop-i.result (rw (c.field-in-loop-i.ensures, c.as_bytes.ensures.value, c.as_str.ensures, ← name) at c.ne-in-loop-i.ensures) c.if-ne-2.true in
    sym (c.loop-i.invariant ∙ ap₂ same_fields (rest_at fields (i + 1) [] here) (rest_at names i [] there)
    ∙ differs (get_or fields (i + 1) []) (get_or names i []) (drop (i + 1 + 1) fields) (drop (i + 1) names) ne)

pub loop-i-preserved : goal.loop-i-preserved
loop-i-preserved c =
    let fields = fields_of c.args.row.now in
    let names = map name_of c.args.ins.now in
    let i = c.loop-i.i in
    let here : i + 1 < length fields = omega (arith, c.len.ensures, c.if-len-ins.false, c.loop-i-test.true) in
    let there : i < length names = omega (arith, names-length c.args.ins.now, c.loop-i-test.true) in
    let name = name_at c.args.ins.now i c.index-ins-i.result c.loop-i-test.true c.index-ins-i.is in
    let eq = of_not-false _ c.ne-in-loop-i.result (rw (c.field-in-loop-i.ensures, c.as_bytes.ensures.value, c.as_str.ensures, ← name) at c.ne-in-loop-i.ensures) c.if-ne-2.false in
    c.loop-i.invariant ∙ ap₂ same_fields (rest_at fields (i + 1) [] here) (rest_at names i [] there)
    ∙ agrees (get_or fields (i + 1) []) (get_or names i []) (drop (i + 1 + 1) fields) (drop (i + 1) names) eq

pub returns : goal.returns
returns c =
    let fields = fields_of c.args.row.now in
    let names = map name_of c.args.ins.now in
    let i = c.loop-i.i in
    sym (c.loop-i.invariant ∙ ap₂ same_fields
    (drop_all (i + 1) fields (omega (arith, c.len.ensures, c.if-len-ins.false, c.loop-i-test.false)))
    (drop_all i names (omega (arith, names-length c.args.ins.now, c.loop-i-test.false))))
