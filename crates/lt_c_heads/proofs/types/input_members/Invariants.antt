use Rattle.std.proofs.Common.{◌≡◌, ◌++◌, take}
use Rattle.lt_c_heads.specs.Types.{input_member_text}
use Rattle.std.specs.List.{flat_map}
use Rattle.lt_c_heads.proofs.types.input_members.Given as goal

abbrev pub invariant-sources : goal.invariant-sources
invariant-sources l = l.out ≡ l.initial.out ++ flat_map (input_member_text l.decls) (take l.source-index l.sources)
