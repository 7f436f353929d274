use Rattle.std.proofs.Common.{◌≡◌, ◌++◌, take}
use Rattle.lt_c_heads.specs.Types.{output_member_text}
use Rattle.std.specs.List.{flat_map}
use Rattle.lt_c_heads.proofs.types.output_members.Given as goal

abbrev pub invariant-outputs : goal.invariant-outputs
invariant-outputs l = l.out ≡ l.initial.out ++ flat_map (output_member_text l.decls) (take l.output-index l.outputs)
