use Rattle.std.proofs.Common.{◌≡◌, ◌++◌, take}
use Rattle.lt_c_bodies.specs.Variables.{delay_text}
use Rattle.std.specs.List.{flat_map}
use Rattle.lt_c_bodies.proofs.keeping.delays.Given as goal

abbrev pub invariant-keeps : goal.invariant-keeps
invariant-keeps l = l.out ≡ l.initial.out ++ flat_map (delay_text l.decls) (take l.keep-index l.keeps)
