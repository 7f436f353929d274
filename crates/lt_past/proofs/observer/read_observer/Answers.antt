use Rattle.std.proofs.Common.{◌≡◌, ◌≤◌, ◌∙◌, ℕ, Bool, List, Ok, Err, false, length, get_or, ap, subst, arith}
use Rattle.std.proofs.lemmas.List.{with_items_is}
use Rattle.lt_base.specs.declared.memory.Or.TheVariants as or
use Rattle.lt_base.specs.Program.{Function}
use Rattle.lt_past.specs.Formula.{Formula}
use Rattle.lt_past.specs.Views.{formula_of}
use Rattle.lt_past.specs.Naming.{output_number}
use Rattle.lt_past.specs.Marking.{IsMarked, marked_below}
use Rattle.lt_past.specs.Parsed.{IsFormulaOf}
use Rattle.lt_past.specs.Faults.{IsObserverOf}
use Rattle.lt_past.proofs.Places.{output_low}
use Rattle.lt_past.proofs.Outs.{filter_short}
use Rattle.lt_past.proofs.Observed.{observed, is_observer, bad_name, only_read, refused_answers}
use Rattle.lt_past.proofs.observer.read_observer.Goals as goal

pub read_formula-requires : goal.read_formula-requires
read_formula-requires c =
    let seen = c.deref.result.now in
    let vs = c.mark_names-bad.new.marks in
    let main : length c.main.inside.outs ≡ length c.args.main.now.outs = ap (λ (f : Function). length f.outs) c.main.view_is in
    let filled = with_items_is c.in_ok-marks.marks vs (c.mark_names-bad.auto.marks ∙ c.deref_mut.ensures.len) in
    let size : length seen ≡ length c.args.main.now.outs = ap length (c.deref.ensures.value ∙ filled) ∙ c.mark_names-bad.auto.marks ∙ c.deref_mut.ensures.len ∙ c.in_ok-marks.ensures.size ∙ c.len.ensures ∙ main in
    let few : length (marked_below seen (length seen)) ≤ length seen = filter_short (λ place. get_or seen place false) (length seen) in
    omega (arith, c.requires, size, few, ap length c.deref-2.ensures, ap length c.in_ok-outs.ensures)

pub returns-in_err-formula-clause-only : goal.returns-in_err-formula-clause-only
returns-in_err-formula-clause-only c = λ o is.
    only_read c.args.main.now 200 (omega arith) c.args.bytes.now _ (refused_answers 200 c.args.main.now (output_number c.args.main.now c.deref-2.result.now) c.args.bytes.now _ _ c.from_residual-in_err-formula.ensures.1 c.in_err-formula.ensures) o is

pub returns-in-Some-clause-only : goal.returns-in-Some-clause-only
returns-in-Some-clause-only c = λ o is.
    only_read c.args.main.now 200 (omega arith) c.args.bytes.now (Err (or.Fault c.in-Some.fault)) (bad_name c.args.main.now 200 c.args.bytes.now (output_number c.args.main.now c.deref-2.result.now) (formula_of c.in_ok-formula.formula) c.in-Some.fault c.in-Some.ensures c.in_ok-formula.ensures) o is

read_as : (main : Function) (bytes : List ℕ) (olds vs items seen : List Bool) (slice outs : List ℕ) (f : Formula) → olds ≡ items → ((p : ℕ) → get_or items p false ≡ false) → IsMarked main bytes olds vs → seen ≡ vs → length vs ≡ length main.outs → outs ≡ marked_below seen (length seen) → slice ≡ outs
    → IsFormulaOf 200 (output_number main slice) bytes f → IsObserverOf 200 main bytes (record { outs = outs; formula = f })
read_as main bytes olds vs items seen slice outs f value none marked same size outs_is sliced read =
    let outs_are : outs ≡ marked_below vs (length main.outs) = outs_is ∙ ap (λ z. marked_below z (length z)) same ∙ ap (marked_below vs) size in
    observed main 200 bytes olds vs outs f (λ p. ap (λ z. get_or z p false) value ∙ none p) marked outs_are (subst (λ z. IsFormulaOf 200 (output_number main z) bytes f) sliced read)

pub returns-clause-exact : goal.returns-clause-exact
returns-clause-exact c =
    let vs = c.mark_names-bad.new.marks in
    let sized : length c.main.inside.outs ≡ length c.args.main.now.outs = ap (λ (f : Function). length f.outs) c.main.view_is in
    let filled = with_items_is c.in_ok-marks.marks vs (c.mark_names-bad.auto.marks ∙ c.deref_mut.ensures.len) in
    read_as c.args.main.now c.args.bytes.now c.deref_mut.result.now vs c.in_ok-marks.marks.items c.deref.result.now c.deref-2.result.now c.in_ok-outs.outs (formula_of c.in_ok-formula.formula) c.deref_mut.ensures.value c.in_ok-marks.ensures.none c.in-None.ensures
    (c.deref.ensures.value ∙ filled) (c.mark_names-bad.auto.marks ∙ c.deref_mut.ensures.len ∙ c.in_ok-marks.ensures.size ∙ c.len.ensures ∙ sized) c.in_ok-outs.ensures c.deref-2.ensures c.in_ok-formula.ensures

pub returns-clause-only : goal.returns-clause-only
returns-clause-only c = λ o is. only_read c.args.main.now 200 (omega arith) c.args.bytes.now (Ok _) (returns-clause-exact c) o is

pub invariant_of-result : goal.invariant_of-result
invariant_of-result c =
    let vs = c.mark_names-bad.new.marks in
    let sized : length c.main.inside.outs ≡ length c.args.main.now.outs = ap (λ (f : Function). length f.outs) c.main.view_is in
    let filled = with_items_is c.in_ok-marks.marks vs (c.mark_names-bad.auto.marks ∙ c.deref_mut.ensures.len) in
    is_observer c.args.main.now (output_low c.args.main.now) 200 c.args.bytes.now _
    (read_as c.args.main.now c.args.bytes.now c.deref_mut.result.now vs c.in_ok-marks.marks.items c.deref.result.now c.deref-2.result.now c.in_ok-outs.outs (formula_of c.in_ok-formula.formula) c.deref_mut.ensures.value c.in_ok-marks.ensures.none c.in-None.ensures
    (c.deref.ensures.value ∙ filled) (c.mark_names-bad.auto.marks ∙ c.deref_mut.ensures.len ∙ c.in_ok-marks.ensures.size ∙ c.len.ensures ∙ sized) c.in_ok-outs.ensures c.deref-2.ensures c.in_ok-formula.ensures)
