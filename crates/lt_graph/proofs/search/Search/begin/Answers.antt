use Rattle.std.proofs.Common.{◌≡◌, ◌<◌, ◌∷◌, [], ◌++◌, ℕ, length, get_or, set, ap, ◌∙◌, arith}
use Rattle.std.proofs.lemmas.List.{length-set}
use Rattle.lt_graph.specs.declared.search.Mark.TheVariants.{New, Open}
use Rattle.lt_graph.specs.Search.{mark}
use Rattle.lt_graph.specs.Reach.{IsOrReaches}
use Rattle.lt_graph.specs.Tables.{Leads}
use Rattle.lt_graph.proofs.Standing.{mark_read, added, added_path, added_starts, moved, on_ok, both_ok, idle_stack}
use Rattle.lt_graph.proofs.search.Search.begin.Goals as goal

pub returns-in-New-clause-stands : goal.returns-in-New-clause-stands
returns-in-New-clause-stands c =
    let s = c.args.self.now in
    let n = c.add.new.self in
    let y = c.args.root in
    let h = length s.stack.items in
    let a = c.add.ensures in
    let within = c.requires.root in
    let new' : mark s.marks.items y ≡ New = mark_read s.marks.items y c.index.result.now within c.index.ensures ∙ c.in-New.is in
    on_ok _ _ c.add.result (both_ok _ _ c.add.result a.marks (both_ok _ _ c.add.result a.stack (both_ok _ _ c.add.result a.starts a.path)))
    (λ e g i.
    let empty = idle_stack g s.marks.items s.rest.items s.stack.items s.starts.items s.path.items i c.requires.idle in
    let sized = i.marks_size in
    let inside : y < length g = omega (arith, within, sized) in
    let reach : (k : ℕ) → k < h → IsOrReaches (Leads g) (get_or s.stack.items k 0) y = λ k l. absurd (omega (arith, l, empty)) in
    moved g (set s.marks.items y (Open h)) n.marks.items s.rest.items n.rest.items (s.stack.items ++ y ∷ []) n.stack.items (s.starts.items ++ h ∷ []) n.starts.items (s.path.items ++ h ∷ []) n.path.items e.0 (ap (λ v. v.items) a.rest) e.1.0 e.1.1.0 e.1.1.1
    record {
      marks_size = length-set s.marks.items y (Open h) ∙ i.marks_size;
      rest_size = i.rest_size;
      searching = added g s.marks.items s.rest.items s.stack.items s.starts.items s.path.items i.searching i.marks_size i.rest_size i.rising_path i.rising_starts y inside new' reach;
      rising_path = added_path g s.marks.items s.rest.items s.stack.items s.starts.items s.path.items i.searching i.marks_size i.rest_size i.rising_path i.rising_starts y inside new' reach;
      rising_starts = added_starts g s.marks.items s.rest.items s.stack.items s.starts.items s.path.items i.searching i.marks_size i.rest_size i.rising_path i.rising_starts y inside new' reach;
    })
