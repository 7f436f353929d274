use Rattle.std.proofs.Common.{◌≡◌, ◌∙◌, ◌<◌, ◌++◌, ◌∷◌, [], ℕ, List, length, get_or, sym, ap, arith}
use Rattle.std.proofs.lemmas.List.Elements.{All-get_or}
use Rattle.lt_base.specs.declared.value.Cell.{Cell}
use Rattle.lt_base.specs.Meaning.{ClockPairs, entry, clock_of, cell}
use Rattle.lt_meaning.specs.Ready.{cell_at_place}
use Rattle.lt_meaning.proofs.Setting.{clock_of_is}
use Rattle.lt_meaning.proofs.Columns.{Put, put_next}
use Rattle.lt_meaning.proofs.showing.show.Goals as goal

pub loop-i-preserved : goal.loop-i-preserved
loop-i-preserved c =
    let env = entry c.args.cells.now in
    let decls = c.args.decls.now in
    let xs = c.args.variables.now in
    let i = c.loop-i.i in
    let x = get_or xs i 0 in
    let more : ℕ → List Cell = λ j. cell_at_place decls env xs j ∷ [] in
    let s : Put more c.args.columns.now.items c.loop-i.columns.items i = record { size = c.loop-i.invariant.size; put = c.loop-i.invariant.put; rest = c.loop-i.invariant.rest } in
    let below : x < length decls = All-get_or (λ x. x < length decls) xs i 0 c.loop-i-test.true c.requires.variables in
    let clock : (get_or decls x c.index-decls-x.result).clock ≡ clock_of decls x = sym (clock_of_is decls x c.index-decls-x.result below) in
    let shown : c.cell_at-cell.result ≡ cell_at_place decls env xs i = c.cell_at-cell.ensures ∙ ap (λ (ck : ClockPairs). cell env ck x) clock in
    let size = c.loop-i.invariant.size in
    let width = c.requires.columns in
    let l = c.loop-i-test.true in
    let pushed = c.in_ok-push.ensures.ok ∙ ap (λ v. c.index_mut.result.now ++ v ∷ []) shown in
    let next = put_next more c.args.columns.now.items c.loop-i.columns.items i c.index_mut.result.now c.push.new.self s (omega (arith, l, size, width)) c.index_mut.ensures.value pushed in
    record { size = next.size; put = next.put; rest = next.rest }
