use Rattle.std.proofs.Common.{◌≡◌, ◌++◌, take}
use Rattle.lt_c_heads.specs.Types.{carried_text}
use Rattle.lt_c_heads.specs.Words.{texts_from}
use Rattle.lt_c_heads.proofs.types.carried_all.Given as goal

abbrev pub invariant-values : goal.invariant-values
invariant-values l = l.out ≡ l.initial.out ++ texts_from (carried_text) 0 (take l.k l.values)
