use Rattle.std.proofs.Common.{◌≡◌, ◌≤◌, ◌++◌, drop, length}
use Rattle.lt_svg.specs.Pieces.{filled_template}
use Rattle.lt_svg.proofs.template.fill.Given as goal

-- what is left to be filled, with the numbers that are left
abbrev pub invariant-bytes : goal.invariant-bytes
invariant-bytes l = record {
  text : l.out ++ filled_template (drop l.byte-index l.template) (drop l.next l.numbers) ≡ l.initial.out ++ filled_template l.template l.numbers;
  taken : l.next ≤ length l.numbers;
}
