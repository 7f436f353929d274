use Rattle.std.proofs.Common.{◌+◌, ◌∙◌, ◌<◌, ℕ, false, sym, ap, length, subst, refl, get_or}
use Rattle.std.specs.Prelude.{MatchBool}
use Rattle.std.proofs.lemmas.List.{length_push}
use Rattle.lt_base.specs.Meaning.{clock_of}
use Rattle.lt_check.specs.Innermost.{Linked}
use Rattle.lt_check.proofs.Found.{clock_read}
use Rattle.lt_check.proofs.ClockLemmas.{tells_more}
use Rattle.lt_check.proofs.innermost.links.Goals as goal

pub loop-decl-preserved : goal.loop-decl-preserved
loop-decl-preserved c =
    let ds = c.args.decls.now in
    let i = c.loop-decl.decl-index in
    let clock = clock_read ds ds c.deref-decl-items.result.now i c.decl-item.result c.deref-decl-items.ensures refl c.loop-decl-test.true c.decl-item.is in
    let pushed = c.in_ok-push.ensures.items in
    let size = c.loop-decl.invariant.size in
    record {
      size = ap length pushed ∙ length_push c.loop-decl.table.items c.is_linked.result ∙ ap (λ n. n + 1) size;
      tells = subst (λ items. (x : ℕ) → x < i + 1 → MatchBool (get_or items x false) (Linked ds (clock_of ds x)) (Linked ds (clock_of ds x) → ⊥)) (sym pushed)
          (tells_more ds c.loop-decl.table.items i c.is_linked.result size (subst (λ ck. MatchBool c.is_linked.result (Linked ds ck) (Linked ds ck → ⊥)) clock c.is_linked.ensures) c.loop-decl.invariant.tells);
    }
