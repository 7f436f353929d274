use Rattle.std.proofs.Common.{◌≡◌, ◌≤◌, take, drop}
use Rattle.lt_svg.specs.Paths.{base_name}
use Rattle.lt_svg.proofs.paths.base_name.Given as goal

-- behind the last slash so far
abbrev pub invariant-letters : goal.invariant-letters
invariant-letters l = record {
  within : l.start ≤ l.place;
  so_far : drop l.start (take l.place l.path) ≡ base_name (take l.place l.path);
}
