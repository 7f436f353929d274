use Rattle.std.proofs.Common.{◌≡◌, ◌-◌, ℕ, List, refl, subst, arith}
use Rattle.lt_losing.specs.Losing.{last_or}
use Rattle.lt_losing.proofs.Least.{last_at}
use Rattle.lt_losing.proofs.queue.Queue.last.Goals as goal

pub returns-in-Some : goal.returns-in-Some
returns-in-Some c =
    let q = c.self.inside.entries in
    let some = c.in-Some.ensures.variant.0 refl in
    let size = q.ok.0 in
    subst (λ (xs : List ℕ). c.in-Some.entry.now ≡ last_or 0 xs) c.self.view_is
    (last_at 0 q.items c.in-Some.entry.now (q.len - 1) (omega (arith, size, some)) c.in-Some.ensures.lookup)
