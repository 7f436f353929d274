use Rattle.std.proofs.Common.{◌≡◌, take, map}
use Rattle.std.specs.List.{All}
use Rattle.lt_check.specs.Shares.{IsShare}
use Rattle.lt_check.proofs.sizing.shares.Given as goal

abbrev pub invariant-functions : goal.invariant-functions
invariant-functions l = record {
  done : map (λ s. s.function.now) l.shares.items ≡ take l.function-index l.functions;
  all : All IsShare l.shares.items;
}
