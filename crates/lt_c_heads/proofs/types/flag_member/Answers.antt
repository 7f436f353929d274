use Rattle.std.proofs.Common.{◌≡◌, ◌≢◌, [], ◌∷◌, List, ℕ, ◌++◌, codes, OnOk, Result, sym, ◌∙◌, ap, refl, true, false, reverse}
use Rattle.lt_base.specs.declared.memory.Memory.{Memory}
use Rattle.lt_base.specs.Meaning.{ClockPairs}
use Rattle.lt_c_step.proofs.Pieces.{not_none}
use Rattle.lt_c_heads.specs.Types.{flag_member_text}
use Rattle.lt_c_heads.proofs.types.flag_member.Goals as goal

flagged : (r : Result (Unit {0}) Memory) (ck : ClockPairs) (name o n : List ℕ) → ck ≢ [] → OnOk r (n ≡ o ++ (codes "    bool has_" ++ (name ++ codes ";\n"))) → OnOk r (n ≡ o ++ flag_member_text ck name)
flagged r [] name o n h g = absurd (h refl)
flagged r (p ∷ ck) name o n h g = g

none : (steps ck : ClockPairs) → ck ≡ reverse steps → steps ≡ [] → ck ≡ []
none steps ck e h = e ∙ ap reverse h

pub returns : goal.returns
returns c =
    let some : c.clock.inside.steps ≢ [] = λ h. let t : false ≡ true = sym c.if-is_empty.false ∙ c.is_empty.ensures.1 h in absurd (cc) in
    flagged c.three.result c.args.clock.now c.args.name.now c.args.out.now c.three.new.out (not_none c.clock.inside.steps c.args.clock.now (sym c.clock.view_is) some) c.three.ensures
