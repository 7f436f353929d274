use Rattle.std.proofs.Common.{◌≡◌, ◌∙◌, ◌+◌, ◌∷◌, [], ℕ, List, sym, ap, subst, length, get_or}
use Rattle.std.proofs.lemmas.List.{length-append}
use Rattle.lt_base.specs.declared.value.Cell.{Cell}
use Rattle.lt_meaning.proofs.Columns.{empty_next}
use Rattle.lt_meaning.proofs.program.empty_columns.Goals as goal

pub loop-column-preserved : goal.loop-column-preserved
loop-column-preserved c =
    let pushed = c.in_ok-push.ensures.items in
    record {
      number = ap length pushed ∙ length-append c.loop-column.columns.items (c.of.result ∷ []) ∙ ap (λ n. n + 1) c.loop-column.invariant.number;
      empty = subst (λ (l : List (List Cell)). (x : ℕ) → get_or l x [] ≡ []) (sym pushed) (empty_next c.loop-column.columns.items c.of.result c.loop-column.invariant.empty (c.of.ensures ∙ c.in_ok-with_capacity.ensures.items));
    }
