use Rattle.std.proofs.Common.{◌≡◌, ◌≤◌, ◌-◌, ◌++◌, ℕ, List, length, take, drop, ap, sym, ◌∙◌, arith}
use Rattle.std.proofs.lemmas.Grind.{common_steps}
use Rattle.std.proofs.lemmas.List.{length-take}
use Rattle.lt_io.specs.FilesState.{file_left}
use Rattle.lt_rows.specs.Lines.{LinesState}
use Rattle.lt_rows.proofs.lines.Lines.refill.Goals as goal

-- what is held is what was read
held_read : (buf items : List ℕ) (n len : ℕ) → n ≤ length buf → length buf ≤ len → take (n - 0) (take len (buf ++ drop (length buf) items)) ≡ take n buf
held_read buf items n len few room = grind (arith, common_steps)

count_read : (buf items : List ℕ) (n len : ℕ) → n ≤ length buf → length buf ≤ len → length (take (n - 0) (take len (buf ++ drop (length buf) items))) ≡ n
count_read buf items n len few room = ap length (held_read buf items n len few room) ∙ omega (arith, length-take n buf)

pub returns-clause-bytes : goal.returns-clause-bytes
returns-clause-bytes g c = λ told.
    let held = held_read c.read.new.buf c.self.inside.piece.items c.in_ok-self-inside.field-0 c.self.inside.piece.len c.in_ok-self-inside.ensures.bound.0 (grind (arith, common_steps)) in
    (c.in_ok-self-inside.ensures.bytes told).next ∙ ap (λ (xs : List ℕ). xs ++ file_left (g.F.Files.state c.read.new.self)) (sym held)

pub returns-clause-place : goal.returns-clause-place
returns-clause-place g c =
    let count = count_read c.read.new.buf c.self.inside.piece.items c.in_ok-self-inside.field-0 c.self.inside.piece.len c.in_ok-self-inside.ensures.bound.0 (grind (arith, common_steps)) in
    omega (arith, count, ap (λ (l : LinesState). l.place) c.self.view_is)

pub returns-clause-file_place : goal.returns-clause-file_place
returns-clause-file_place g c = λ told.
    let count = count_read c.read.new.buf c.self.inside.piece.items c.in_ok-self-inside.field-0 c.self.inside.piece.len c.in_ok-self-inside.ensures.bound.0 (grind (arith, common_steps)) in
    omega (arith, count, (c.in_ok-self-inside.ensures.bytes told).place)

pub returns-clause-keeps : goal.returns-clause-keeps
returns-clause-keeps g c = c.in_ok-self-inside.ensures.keeps

pub returns-clause-file : goal.returns-clause-file
returns-clause-file g c = c.in_ok-self-inside.ensures.file
