use Rattle.std.proofs.Common.{◌≡◌, None, take, drop}
use Rattle.lt_resolve.specs.Names.{repeated_name}
use Rattle.lt_resolve.proofs.taking.insert_all.Given as goal

abbrev pub invariant-names : goal.invariant-names
invariant-names l = record {
  all : l.table ≡ take l.name-index l.name-items;
  rest : repeated_name l.table (drop l.name-index l.name-items) ≡ None;
}
