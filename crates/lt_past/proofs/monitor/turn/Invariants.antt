use Rattle.std.proofs.Common.{◌≡◌, ℕ, ◌≤◌}
use Rattle.lt_past.specs.Turn.{Turned, at, prior}
use Rattle.lt_past.proofs.monitor.turn.Given as goal

abbrev pub invariant-parts : goal.invariant-parts
invariant-parts l = record {
  turned : Turned l.parts l.began l.now l.initial.values l.values l.k;
  rest : (q : ℕ) → l.k ≤ q → at l.values q ≡ at l.initial.values q;
  before : l.before ≡ prior l.initial.values l.k;
  newest : l.newest ≡ prior l.values l.k;
}
