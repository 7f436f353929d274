use Rattle.std.proofs.Common.{◌≡◌, ◌++◌, take}
use Rattle.lt_c_bodies.specs.Variables.{slot_text}
use Rattle.lt_c_heads.specs.Words.{texts_from}
use Rattle.lt_c_bodies.proofs.keeping.declared_slots.Given as goal

abbrev pub invariant-decls : goal.invariant-decls
invariant-decls l = l.out ≡ l.initial.out ++ texts_from (slot_text l.decls) 0 (take l.x l.decls)
