use Rattle.std.proofs.Common.{◌≡◌, ◌+◌, ◌*◌, length, arith}
use Rattle.lt_io.proofs.Repeating.{reads_none, reads_line, next_line}
use Rattle.lt_io.proofs.repeat_files.RepeatFilesFiles.read.Goals as goal

pub returns-then-self : goal.returns-then-self
returns-then-self c =
    let opened = rw (← c.self.view_is) at c.requires.opened in
    rw (← c.self.view_is) (reads_none _ _ _ opened c.self.invariant c.if-self.true c.then-self-inside.ensures)

pub returns-then-self-len : goal.returns-then-self-len
returns-then-self-len c =
    let opened = rw (← c.self.view_is) at c.requires.opened in
    let s = c.self.inside in
    let copied = c.copy_from-count in
    let place : (s.whole + 1) * length s.line + 0 ≡ s.whole * length s.line + s.since + copied.result = next_line s.whole _ _ _ (omega arith) in
    let front = rw c.deref.ensures at copied.ensures.front in
    let count = rw c.deref.ensures at copied.ensures.count in
    rw (← c.self.view_is) (reads_line _ _ _ _ _ c.args.buf.now _ opened c.self.invariant c.if-self.false place front count (omega arith) c.then-self-inside-2.ensures)

pub returns-else-self-len : goal.returns-else-self-len
returns-else-self-len c =
    let opened = rw (← c.self.view_is) at c.requires.opened in
    let s = c.self.inside in
    let copied = c.copy_from-count in
    let place : s.whole * length s.line + (s.since + copied.result) ≡ s.whole * length s.line + s.since + copied.result = omega arith in
    let front = rw c.deref.ensures at copied.ensures.front in
    let count = rw c.deref.ensures at copied.ensures.count in
    rw (← c.self.view_is) (reads_line _ _ _ _ _ c.args.buf.now _ opened c.self.invariant c.if-self.false place front count (omega arith) c.then-self-inside-2.ensures)
