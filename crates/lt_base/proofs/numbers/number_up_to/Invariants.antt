use Rattle.std.proofs.Common.{◌≡◌, ◌≤◌, drop}
use Rattle.lt_base.specs.Digits.{number_of, up_to}
use Rattle.lt_base.proofs.Digits.{read_rest}
use Rattle.lt_base.proofs.numbers.number_up_to.Given as goal

abbrev pub invariant-loop-byte : goal.invariant-loop-byte
invariant-loop-byte l = record {
  bound : l.number ≤ l.most;
  rest : up_to l.most (number_of l.digits) ≡ up_to l.most (read_rest l.number (drop l.byte-index l.digits));
}
