use Rattle.std.proofs.Common.{rules, ◌≡◌, ◌<◌, ◌^◌, ap, sym, ◌∙◌, pos, FitsSigned, w64, nat_abs}
use Rattle.std.proofs.lemmas.Int.{to_z-of_z}
use Rattle.lt_base.specs.Operators.{imp as imp_table, wrap, gcd}
use Rattle.lt_base.proofs.Wrapping.{wrap_pos, gcd_is}
use Rattle.lt_base.proofs.tables.imp.Goals as goal

pub returns-in-Gcd-clause-value : goal.returns-in-Gcd-clause-value
returns-in-Gcd-clause-value c =
    let f : FitsSigned w64 c.cast_signed.result = search rules in
    let g : c.gcd.result < 2 ^ 64 = search rules in
    let p = c.unsigned_abs.ensures.value ∙ ap nat_abs (to_z-of_z w64 c.args.a c.ranges.a) in
    let q = c.unsigned_abs-in-Gcd.ensures.value ∙ ap nat_abs (to_z-of_z w64 c.args.b c.ranges.b) in
    let e : c.gcd.result ≡ gcd (nat_abs c.args.a) (nat_abs c.args.b) =
    c.gcd.ensures ∙ (λ i. gcd (p i) (q i)) in
    to_z-of_z w64 c.cast_signed.result f
    ∙ c.cast_signed.ensures
    ∙ wrap_pos c.gcd.result g
    ∙ ap (λ n. wrap (pos n)) e
    ∙ ap (λ o. imp_table o c.args.a c.args.b) (sym c.in-Gcd.is)

pub returns-in-Gcd-clause-divisor : goal.returns-in-Gcd-clause-divisor
returns-in-Gcd-clause-divisor c = gcd_is _ _

pub returns-in-Min-clause-divisor : goal.returns-in-Min-clause-divisor
returns-in-Min-clause-divisor c = gcd_is _ _

pub returns-in-Max-clause-divisor : goal.returns-in-Max-clause-divisor
returns-in-Max-clause-divisor c = gcd_is _ _
