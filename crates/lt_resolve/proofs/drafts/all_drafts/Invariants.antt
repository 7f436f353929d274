use Rattle.std.proofs.Common.{◌≡◌, take, drop, map}
use Rattle.std.specs.List.{All}
use Rattle.lt_resolve.specs.Scopes.{functions}
use Rattle.lt_resolve.specs.Faults.{first_in, unknown_in}
use Rattle.lt_resolve.specs.Drafts.{IsDraft}
use Rattle.lt_resolve.proofs.drafts.all_drafts.Given as goal

abbrev pub invariant-scopes : goal.invariant-scopes
invariant-scopes l = record {
  nodes : map (λ d. d.node.now) l.drafts.items ≡ take l.i l.tables;
  all : All (IsDraft (functions l.tables)) l.drafts.items;
  rest : first_in (λ _. unknown_in (functions l.tables)) l.i (drop l.i l.tables) ≡ first_in (λ _. unknown_in (functions l.tables)) 0 l.tables;
}
