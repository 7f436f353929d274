use Rattle.std.proofs.Common.{◌<◌, ◌^◌, List, length, sym, ap, ◌∙◌, subst, arith}
use Rattle.lt_base.specs.declared.function.Decl.{Decl}
use Rattle.lt_c_node.specs.NodeOf.{source_of}
use Rattle.lt_c_heads.proofs.Growing.{made_length}
use Rattle.lt_c_node.proofs.building.part_code.Goals as goal

pub invariant_of-result : goal.invariant_of-result
invariant_of-result c =
    let most = c.requires.fed in
    let declared = ap length c.in_ok-decls.ensures in
    let fed = ap length c.in_ok-sources.ensures ∙ made_length (source_of c.args.layout.now) 0 c.args.part.now.feeds in
    record { numbered = subst (λ (ds : List Decl). length ds < 2 ^ 32) (sym c.in_ok-decls.ensures) c.requires.few; fed = omega (arith, most, declared, fed) }
