use Rattle.std.proofs.Common.{◌≡◌, ◌≤◌, ◌+◌, ◌-◌, ◌++◌, ℕ, List, length, take, drop, if◌then◌else◌, ap, ◌∙◌, arith}
use Rattle.std.proofs.lemmas.List.{length-take, length-drop}
use Rattle.lt_rows.proofs.Moving.{held_less, line_more, line_kept, kept_state, length-line_in}
use Rattle.lt_rows.specs.Held.{line_in}
use Rattle.lt_rows.proofs.lines.Lines.append.Goals as goal

pub returns-clause-kept : goal.returns-clause-kept
returns-clause-kept c =
    let s = c.self.inside in
    let held = ap length (ap (λ l. l.held) c.self.view_is) in
    let line = ap length (ap (λ l. l.line) c.self.view_is) in
    let some : c.args.count ≤ s.end - s.start = omega (arith, c.requires.some, held, length-take (s.end - s.start) (drop s.start s.piece.items)) in
    let copied : c.copy_from_slice.new.self ≡ take c.args.count (take (s.end - s.start) (drop s.start s.piece.items)) =
    c.copy_from_slice.ensures.after ∙ ap (λ (xs : List ℕ). take (s.start + c.args.count - s.start) (drop s.start xs)) c.deref-2.ensures.value ∙ line_more s.start s.end c.args.count s.piece.items some in
    let size : length c.copy_from_slice.new.self ≡ c.args.count =
    omega (arith, ap length copied, length-take c.args.count (take (s.end - s.start) (drop s.start s.piece.items)), length-take (s.end - s.start) (drop s.start s.piece.items), length-drop s.start s.piece.items, c.self.invariant.piece, some) in
    let kept = c.own.new.line in
    let owned : take s.len kept.items ≡ line_in s =
    c.own.ensures.owned ∙ ap (λ (xs : List ℕ). if s.lent then take s.len (drop s.from xs) else take s.len s.line.items) c.deref.ensures.value in
    let room : s.len + c.args.count ≤ length kept.items = omega (arith, c.requires.room, line, length-line_in s c.self.invariant, c.own.ensures.room, c.self.invariant.room) in
    kept_state _ _ _ _ c.args.count c.self.view_is (held_less s.start s.end c.args.count s.piece.items some)
    (line_kept kept c.deref_mut.result.now c.copy_from_slice.new.self s.len c.args.count c.deref_mut.ensures.value (omega (arith, kept.ok.0)) size room
    ∙ (λ i. owned i ++ copied i))
