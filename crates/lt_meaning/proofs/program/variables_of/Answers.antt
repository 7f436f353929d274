use Rattle.std.proofs.Common.{◌∙◌, ◌+◌, ◌∷◌, [], ℕ, List, length, get_or, sym, ap, arith}
use Rattle.std.proofs.lemmas.List.{length-append}
use Rattle.lt_meaning.proofs.Columns.{numbers_next}
use Rattle.lt_meaning.proofs.program.variables_of.Goals as goal

pub loop-x-preserved : goal.loop-x-preserved
loop-x-preserved c =
    let xs = c.loop-x.variables.items in
    let x = c.loop-x.x in
    let number = c.loop-x.invariant.number in
    record {
      number = ap length c.in_ok-push.ensures.items ∙ length-append xs (x ∷ []) ∙ ap (λ n. n + 1) number;
      each = λ y m.
          ap (λ (l : List ℕ). get_or l y 0) c.in_ok-push.ensures.items
          ∙ numbers_next (λ y. y) xs x (λ k n. c.loop-x.invariant.each k (omega (arith, n, number))) (sym number) y (omega (arith, m, number));
    }
