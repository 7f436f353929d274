-- Each part of a placed function compiles, where the function has room for its code.
use Rattle.std.proofs.Common.{arith}
use Rattle.lt_place.specs.Layout.{PartsCompile}

pub parts_compile : PartsCompile
parts_compile f l n placed room b =
    let q = placed.layout.parts n b in
    let z = q.no_larger in
    record {
      typed = q.typed;
      clocked = q.clocked;
      causal = q.causal;
      room = record {
        variables = (let m = z.variables in let r = room.variables in omega (arith, m, r));
        equations = (let m = z.equations in let r = room.equations in omega (arith, m, r));
        slots = (let m = z.variables in let d = z.delays in let r = room.slots in omega (arith, m, d, r));
        size = (let m = z.variables in let e = z.parts in let k = z.pairs in let r = room.size in omega (arith, m, e, k, r));
      };
    }
