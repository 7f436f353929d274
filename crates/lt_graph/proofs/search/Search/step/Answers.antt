use Rattle.std.proofs.Common.{◌≡◌, ◌<◌, ◌∷◌, [], ◌++◌, ◌-◌, ℕ, zero, suc, length, get_or, set, sym, ap, ◌∙◌, refl, subst, arith}
use Rattle.std.proofs.lemmas.List.{length-set, length_push}
use Rattle.lt_graph.specs.declared.search.Mark.TheVariants.{New, Open, Done}
use Rattle.std.specs.List.{sum}
use Rattle.lt_graph.specs.Search.{EndsWith, closed_mark, mark}
use Rattle.lt_graph.proofs.Standing.{top_of, end_taken, top_in, rising_left, rising_front_starts, left_only, closed_part, x_rest, x_inside, none_left, place_inside, y_inside, fewer, mark_read, to_new, to_open, to_done, added_path, added_starts, kept_rising, here, reach_y, moved, on_ok, both_ok}
use Rattle.lt_graph.proofs.search.Search.step.Goals as goal

positive : (n : ℕ) → (n ≡ 0 → ⊥) → 0 < n
positive zero h = absurd (h refl)
positive (suc n) h = omega arith

pub index-x-requires : goal.index-x-requires
index-x-requires c =
    let s = c.args.self.now in
    let g = c.args.table.now in
    let i = c.requires.stands in
    let q = c.index-place.result.now in
    let end' = top_of s.path.items c.len.result q c.requires.busy (c.len.ensures ∙ s.path.ok.0) c.index-place.ensures in
    let l = top_in g s.marks.items s.rest.items s.stack.items s.starts.items s.path.items i.searching i.rising_path i.rising_starts end'.0 q end'.1 in
    let k = s.stack.ok.0 in
    omega (arith, l, k)

pub index-left-requires : goal.index-left-requires
index-left-requires c =
    let s = c.args.self.now in
    let g = c.args.table.now in
    let i = c.requires.stands in
    let q = c.index-place.result.now in
    let end' = top_of s.path.items c.len.result q c.requires.busy (c.len.ensures ∙ s.path.ok.0) c.index-place.ensures in
    let x = c.index-x.result.now in
    let l = x_rest g s.marks.items s.rest.items s.stack.items s.starts.items s.path.items i.searching i.marks_size i.rest_size i.rising_path i.rising_starts c.requires.table q end'.0 end'.1 x c.index-x.ensures in
    let k = s.rest.ok.0 in
    omega (arith, l, k)

pub close-requires-clause-place : goal.close-requires-clause-place
close-requires-clause-place c =
    let s = c.args.self.now in
    let g = c.args.table.now in
    let i = c.requires.stands in
    let q = c.index-place.result.now in
    let end' = top_of s.path.items c.len.result q c.requires.busy (c.len.ensures ∙ s.path.ok.0) c.index-place.ensures in
    let l = top_in g s.marks.items s.rest.items s.stack.items s.starts.items s.path.items i.searching i.rising_path i.rising_starts end'.0 q end'.1 in
    omega (arith, l)

pub returns-then-ends_with-clause-stands : goal.returns-then-ends_with-clause-stands
returns-then-ends_with-clause-stands c =
    let s = c.args.self.now in
    let g = c.args.table.now in
    let i = c.requires.stands in
    let q = c.index-place.result.now in
    let end' = top_of s.path.items c.len.result q c.requires.busy (c.len.ensures ∙ s.path.ok.0) c.index-place.ensures in
    let x = c.index-x.result.now in
    let left = c.index-left.result.now in
    let p = c.pop.new.self.items in
    let front = c.pop-then-ends_with.new.self.items in
    let cut : p ≡ end'.0 = c.pop.ensures.rest ∙ end_taken s.path.items end'.0 q _ end'.1 s.path.ok.0 in
    let top : s.path.items ≡ p ++ q ∷ [] = end'.1 ∙ ap (λ xs. xs ++ q ∷ []) (sym cut) in
    let ends : EndsWith s.starts.items q = subst (λ xs. EndsWith xs q) c.deref.ensures.value (c.if-ends_with.ensures {u = tt}) in
    let cut_start : front ≡ ends.0 = c.pop-then-ends_with.ensures.rest ∙ end_taken s.starts.items ends.0 q _ ends.1 s.starts.ok.0 in
    let begins : s.starts.items ≡ front ++ q ∷ [] = ends.1 ∙ ap (λ xs. xs ++ q ∷ []) (sym cut_start) in
    let over = none_left g s.marks.items s.rest.items s.stack.items s.starts.items s.path.items i.searching i.marks_size i.rest_size i.rising_path i.rising_starts c.requires.table q end'.0 end'.1 x c.index-x.ensures left c.index-left.ensures c.if-left-eq0.true in
    let e = c.close.ensures in
    let n = c.close.new.self in
    let named : (z : ℕ) → mark n.marks.items z ≡ closed_mark q (get_or s.stack.items q 0) (mark s.marks.items z) = λ z. e.marks z ∙ ap (λ w. closed_mark q w (mark s.marks.items z)) (sym (here g s.marks.items s.rest.items s.stack.items s.starts.items s.path.items i.searching i.marks_size i.rest_size i.rising_path i.rising_starts c.requires.table q end'.0 end'.1 x c.index-x.ensures)) in
    moved g n.marks.items n.marks.items s.rest.items n.rest.items n.stack.items n.stack.items front n.starts.items p n.path.items refl (ap (λ v. v.items) e.rest) refl (ap (λ v. v.items) e.starts) (ap (λ v. v.items) e.path)
    record {
      marks_size = e.size ∙ i.marks_size;
      rest_size = i.rest_size;
      searching = closed_part g s.marks.items s.rest.items s.stack.items s.starts.items s.path.items i.searching i.rising_path i.rising_starts p q top over front begins n.marks.items named n.stack.items e.stack;
      rising_path = rising_left g s.marks.items s.rest.items s.stack.items s.starts.items s.path.items i.searching i.rising_path i.rising_starts p q top;
      rising_starts = rising_front_starts g s.marks.items s.rest.items s.stack.items s.starts.items s.path.items i.searching i.rising_path i.rising_starts p q top over front begins;
    }

pub returns-else-ends_with-clause-stands : goal.returns-else-ends_with-clause-stands
returns-else-ends_with-clause-stands c =
    let s = c.args.self.now in
    let g = c.args.table.now in
    let i = c.requires.stands in
    let q = c.index-place.result.now in
    let end' = top_of s.path.items c.len.result q c.requires.busy (c.len.ensures ∙ s.path.ok.0) c.index-place.ensures in
    let x = c.index-x.result.now in
    let left = c.index-left.result.now in
    let p = c.pop.new.self.items in
    let cut : p ≡ end'.0 = c.pop.ensures.rest ∙ end_taken s.path.items end'.0 q _ end'.1 s.path.ok.0 in
    let top : s.path.items ≡ p ++ q ∷ [] = end'.1 ∙ ap (λ xs. xs ++ q ∷ []) (sym cut) in
    let over = none_left g s.marks.items s.rest.items s.stack.items s.starts.items s.path.items i.searching i.marks_size i.rest_size i.rising_path i.rising_starts c.requires.table q end'.0 end'.1 x c.index-x.ensures left c.index-left.ensures c.if-left-eq0.true in
    let never : EndsWith s.starts.items q → ⊥ = subst (λ xs. EndsWith xs q → ⊥) c.deref.ensures.value (c.if-ends_with.ensures {u = tt}) in
    record {
      marks_size = i.marks_size;
      rest_size = i.rest_size;
      searching = left_only g s.marks.items s.rest.items s.stack.items s.starts.items s.path.items i.searching i.rising_path i.rising_starts p q top over never;
      rising_path = rising_left g s.marks.items s.rest.items s.stack.items s.starts.items s.path.items i.searching i.rising_path i.rising_starts p q top;
      rising_starts = i.rising_starts;
    }

pub index_mut-requires : goal.index_mut-requires
index_mut-requires c =
    let s = c.args.self.now in
    let g = c.args.table.now in
    let i = c.requires.stands in
    let q = c.index-place.result.now in
    let end' = top_of s.path.items c.len.result q c.requires.busy (c.len.ensures ∙ s.path.ok.0) c.index-place.ensures in
    let x = c.index-x.result.now in
    let l = x_rest g s.marks.items s.rest.items s.stack.items s.starts.items s.path.items i.searching i.marks_size i.rest_size i.rising_path i.rising_starts c.requires.table q end'.0 end'.1 x c.index-x.ensures in
    let k = s.rest.ok.0 in
    omega (arith, l, k)

pub leads_to-y-requires-clause-number : goal.leads_to-y-requires-clause-number
leads_to-y-requires-clause-number c =
    let s = c.args.self.now in
    let g = c.args.table.now in
    let i = c.requires.stands in
    let q = c.index-place.result.now in
    let end' = top_of s.path.items c.len.result q c.requires.busy (c.len.ensures ∙ s.path.ok.0) c.index-place.ensures in
    let x = c.index-x.result.now in
    x_inside g s.marks.items s.rest.items s.stack.items s.starts.items s.path.items i.searching i.marks_size i.rest_size i.rising_path i.rising_starts c.requires.table q end'.0 end'.1 x c.index-x.ensures

pub leads_to-y-requires-clause-place : goal.leads_to-y-requires-clause-place
leads_to-y-requires-clause-place c =
    let s = c.args.self.now in
    let g = c.args.table.now in
    let i = c.requires.stands in
    let q = c.index-place.result.now in
    let end' = top_of s.path.items c.len.result q c.requires.busy (c.len.ensures ∙ s.path.ok.0) c.index-place.ensures in
    let x = c.index-x.result.now in
    let left = c.index-left.result.now in
    let some = positive left c.if-left-eq0.false in
    place_inside g s.marks.items s.rest.items s.stack.items s.starts.items s.path.items i.searching i.marks_size i.rest_size i.rising_path i.rising_starts c.requires.table q end'.0 end'.1 x c.index-x.ensures left c.index-left.ensures some

pub index-requires : goal.index-requires
index-requires c =
    let s = c.args.self.now in
    let g = c.args.table.now in
    let i = c.requires.stands in
    let q = c.index-place.result.now in
    let end' = top_of s.path.items c.len.result q c.requires.busy (c.len.ensures ∙ s.path.ok.0) c.index-place.ensures in
    let x = c.index-x.result.now in
    let left = c.index-left.result.now in
    let some = positive left c.if-left-eq0.false in
    let y = c.leads_to-y.result in
    let y_in = y_inside g s.marks.items s.rest.items s.stack.items s.starts.items s.path.items i.searching i.marks_size i.rest_size i.rising_path i.rising_starts c.requires.table q end'.0 end'.1 x c.index-x.ensures left c.index-left.ensures some y c.leads_to-y.ensures in
    let sized = i.marks_size in
    let counted = s.marks.ok.0 in
    omega (arith, y_in, sized, counted)

pub add-requires : goal.add-requires
add-requires c =
    let s = c.args.self.now in
    let g = c.args.table.now in
    let i = c.requires.stands in
    let q = c.index-place.result.now in
    let end' = top_of s.path.items c.len.result q c.requires.busy (c.len.ensures ∙ s.path.ok.0) c.index-place.ensures in
    let x = c.index-x.result.now in
    let left = c.index-left.result.now in
    let some = positive left c.if-left-eq0.false in
    let y = c.leads_to-y.result in
    let y_in = y_inside g s.marks.items s.rest.items s.stack.items s.starts.items s.path.items i.searching i.marks_size i.rest_size i.rising_path i.rising_starts c.requires.table q end'.0 end'.1 x c.index-x.ensures left c.index-left.ensures some y c.leads_to-y.ensures in
    let sized = i.marks_size in
    let counted = s.marks.ok.0 in
    record { within = omega (arith, y_in, sized) }

pub returns-in-New-clause-stands : goal.returns-in-New-clause-stands
returns-in-New-clause-stands c =
    let s = c.args.self.now in
    let g = c.args.table.now in
    let i = c.requires.stands in
    let q = c.index-place.result.now in
    let end' = top_of s.path.items c.len.result q c.requires.busy (c.len.ensures ∙ s.path.ok.0) c.index-place.ensures in
    let x = c.index-x.result.now in
    let left = c.index-left.result.now in
    let some = positive left c.if-left-eq0.false in
    let y = c.leads_to-y.result in
    let y_in = y_inside g s.marks.items s.rest.items s.stack.items s.starts.items s.path.items i.searching i.marks_size i.rest_size i.rising_path i.rising_starts c.requires.table q end'.0 end'.1 x c.index-x.ensures left c.index-left.ensures some y c.leads_to-y.ensures in
    let sized = i.marks_size in
    let counted = s.marks.ok.0 in
    let new' : mark s.marks.items y ≡ New = mark_read s.marks.items y c.index.result.now (omega (arith, y_in, sized)) c.index.ensures ∙ c.in-New.is in
    let t = to_new g s.marks.items s.rest.items s.stack.items s.starts.items s.path.items i.searching i.marks_size i.rest_size i.rising_path i.rising_starts c.requires.table q end'.0 end'.1 x c.index-x.ensures left c.index-left.ensures some y c.leads_to-y.ensures new' in
    let a = c.add.ensures in
    let n = c.add.new.self in
    let h = length s.stack.items in
    let reach = reach_y g s.marks.items s.rest.items s.stack.items s.starts.items s.path.items i.searching i.marks_size i.rest_size i.rising_path i.rising_starts c.requires.table q end'.0 end'.1 x c.index-x.ensures left c.index-left.ensures some y c.leads_to-y.ensures in
    let rest_now = ap (λ v. v.items) a.rest in
    on_ok _ _ c.add.result (both_ok _ _ c.add.result a.marks (both_ok _ _ c.add.result a.stack (both_ok _ _ c.add.result a.starts a.path)))
    (λ e.
    moved g (set s.marks.items y (Open h)) n.marks.items (set s.rest.items x (left - 1)) n.rest.items (s.stack.items ++ y ∷ []) n.stack.items (s.starts.items ++ h ∷ []) n.starts.items (s.path.items ++ h ∷ []) n.path.items e.0 rest_now e.1.0 e.1.1.0 e.1.1.1
    record {
      marks_size = length-set s.marks.items y (Open h) ∙ i.marks_size;
      rest_size = length-set s.rest.items x (left - 1) ∙ i.rest_size;
      searching = t;
      rising_path = added_path g s.marks.items s.rest.items s.stack.items s.starts.items s.path.items i.searching i.marks_size i.rest_size i.rising_path i.rising_starts y y_in new' reach;
      rising_starts = added_starts g s.marks.items s.rest.items s.stack.items s.starts.items s.path.items i.searching i.marks_size i.rest_size i.rising_path i.rising_starts y y_in new' reach;
    })

pub returns-in-New-clause-shorter : goal.returns-in-New-clause-shorter
returns-in-New-clause-shorter c =
    let s = c.args.self.now in
    let g = c.args.table.now in
    let i = c.requires.stands in
    let q = c.index-place.result.now in
    let end' = top_of s.path.items c.len.result q c.requires.busy (c.len.ensures ∙ s.path.ok.0) c.index-place.ensures in
    let x = c.index-x.result.now in
    let left = c.index-left.result.now in
    let some = positive left c.if-left-eq0.false in
    let y = c.leads_to-y.result in
    let y_in = y_inside g s.marks.items s.rest.items s.stack.items s.starts.items s.path.items i.searching i.marks_size i.rest_size i.rising_path i.rising_starts c.requires.table q end'.0 end'.1 x c.index-x.ensures left c.index-left.ensures some y c.leads_to-y.ensures in
    let sized = i.marks_size in
    let counted = s.marks.ok.0 in
    let less = fewer g s.marks.items s.rest.items s.stack.items s.starts.items s.path.items i.searching i.marks_size i.rest_size i.rising_path i.rising_starts c.requires.table q end'.0 end'.1 x c.index-x.ensures left c.index-left.ensures some in
    let a = c.add.ensures in
    on_ok _ _ c.add.result a.path (λ e. let n = ap length e ∙ length_push s.path.items (length s.stack.items) in let r = ap (λ v. sum v.items) a.rest in omega (arith, less, n, r))

pub returns-in-Open-clause-stands : goal.returns-in-Open-clause-stands
returns-in-Open-clause-stands c =
    let s = c.args.self.now in
    let g = c.args.table.now in
    let i = c.requires.stands in
    let q = c.index-place.result.now in
    let end' = top_of s.path.items c.len.result q c.requires.busy (c.len.ensures ∙ s.path.ok.0) c.index-place.ensures in
    let x = c.index-x.result.now in
    let left = c.index-left.result.now in
    let some = positive left c.if-left-eq0.false in
    let y = c.leads_to-y.result in
    let y_in = y_inside g s.marks.items s.rest.items s.stack.items s.starts.items s.path.items i.searching i.marks_size i.rest_size i.rising_path i.rising_starts c.requires.table q end'.0 end'.1 x c.index-x.ensures left c.index-left.ensures some y c.leads_to-y.ensures in
    let sized = i.marks_size in
    let counted = s.marks.ok.0 in
    let opened : mark s.marks.items y ≡ Open c.in-Open.at = mark_read s.marks.items y c.index.result.now (omega (arith, y_in, sized)) c.index.ensures ∙ c.in-Open.is in
    let a = c.join.ensures in
    let t = to_open g s.marks.items s.rest.items s.stack.items s.starts.items s.path.items i.searching i.marks_size i.rest_size i.rising_path i.rising_starts c.requires.table q end'.0 end'.1 x c.index-x.ensures left c.index-left.ensures some y c.leads_to-y.ensures c.in-Open.at opened c.join.new.self.starts.items c.join.ensures.starts in
    let n = c.join.new.self in
    moved g s.marks.items n.marks.items (set s.rest.items x (left - 1)) n.rest.items s.stack.items n.stack.items n.starts.items n.starts.items s.path.items n.path.items (ap (λ v. v.items) a.marks) (ap (λ v. v.items) a.rest) (ap (λ v. v.items) a.stack) refl (ap (λ v. v.items) a.path)
    record {
      marks_size = i.marks_size;
      rest_size = length-set s.rest.items x (left - 1) ∙ i.rest_size;
      searching = t;
      rising_path = i.rising_path;
      rising_starts = kept_rising c.in-Open.at s.starts.items n.starts.items a.starts i.rising_starts;
    }

pub returns-in-Open-clause-shorter : goal.returns-in-Open-clause-shorter
returns-in-Open-clause-shorter c =
    let s = c.args.self.now in
    let g = c.args.table.now in
    let i = c.requires.stands in
    let q = c.index-place.result.now in
    let end' = top_of s.path.items c.len.result q c.requires.busy (c.len.ensures ∙ s.path.ok.0) c.index-place.ensures in
    let x = c.index-x.result.now in
    let left = c.index-left.result.now in
    let some = positive left c.if-left-eq0.false in
    let y = c.leads_to-y.result in
    let y_in = y_inside g s.marks.items s.rest.items s.stack.items s.starts.items s.path.items i.searching i.marks_size i.rest_size i.rising_path i.rising_starts c.requires.table q end'.0 end'.1 x c.index-x.ensures left c.index-left.ensures some y c.leads_to-y.ensures in
    let sized = i.marks_size in
    let counted = s.marks.ok.0 in
    let less = fewer g s.marks.items s.rest.items s.stack.items s.starts.items s.path.items i.searching i.marks_size i.rest_size i.rising_path i.rising_starts c.requires.table q end'.0 end'.1 x c.index-x.ensures left c.index-left.ensures some in
    let a = c.join.ensures in
    let n = ap (λ v. length v.items) a.path in let r = ap (λ v. sum v.items) a.rest in omega (arith, less, n, r)

pub returns-in-Done-clause-stands : goal.returns-in-Done-clause-stands
returns-in-Done-clause-stands c =
    let s = c.args.self.now in
    let g = c.args.table.now in
    let i = c.requires.stands in
    let q = c.index-place.result.now in
    let end' = top_of s.path.items c.len.result q c.requires.busy (c.len.ensures ∙ s.path.ok.0) c.index-place.ensures in
    let x = c.index-x.result.now in
    let left = c.index-left.result.now in
    let some = positive left c.if-left-eq0.false in
    let y = c.leads_to-y.result in
    let y_in = y_inside g s.marks.items s.rest.items s.stack.items s.starts.items s.path.items i.searching i.marks_size i.rest_size i.rising_path i.rising_starts c.requires.table q end'.0 end'.1 x c.index-x.ensures left c.index-left.ensures some y c.leads_to-y.ensures in
    let sized = i.marks_size in
    let counted = s.marks.ok.0 in
    let done : mark s.marks.items y ≡ Done c.in-Done.field-0 = mark_read s.marks.items y c.index.result.now (omega (arith, y_in, sized)) c.index.ensures ∙ c.in-Done.is in
    record {
      marks_size = i.marks_size;
      rest_size = length-set s.rest.items x _ ∙ i.rest_size;
      searching = to_done g s.marks.items s.rest.items s.stack.items s.starts.items s.path.items i.searching i.marks_size i.rest_size i.rising_path i.rising_starts c.requires.table q end'.0 end'.1 x c.index-x.ensures left c.index-left.ensures some y c.leads_to-y.ensures c.in-Done.field-0 done;
      rising_path = i.rising_path;
      rising_starts = i.rising_starts;
    }

pub returns-in-Done-clause-shorter : goal.returns-in-Done-clause-shorter
returns-in-Done-clause-shorter c =
    let s = c.args.self.now in
    let g = c.args.table.now in
    let i = c.requires.stands in
    let q = c.index-place.result.now in
    let end' = top_of s.path.items c.len.result q c.requires.busy (c.len.ensures ∙ s.path.ok.0) c.index-place.ensures in
    let x = c.index-x.result.now in
    let left = c.index-left.result.now in
    let some = positive left c.if-left-eq0.false in
    let y = c.leads_to-y.result in
    let y_in = y_inside g s.marks.items s.rest.items s.stack.items s.starts.items s.path.items i.searching i.marks_size i.rest_size i.rising_path i.rising_starts c.requires.table q end'.0 end'.1 x c.index-x.ensures left c.index-left.ensures some y c.leads_to-y.ensures in
    let sized = i.marks_size in
    let counted = s.marks.ok.0 in
    let less = fewer g s.marks.items s.rest.items s.stack.items s.starts.items s.path.items i.searching i.marks_size i.rest_size i.rising_path i.rising_starts c.requires.table q end'.0 end'.1 x c.index-x.ensures left c.index-left.ensures some in
    omega (arith, less)
