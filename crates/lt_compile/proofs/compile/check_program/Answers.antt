use Rattle.lt_base.specs.Typing.{TypedProgram}
use Rattle.lt_base.specs.Clocking.{ClockedProgram}
use Rattle.lt_base.specs.Dependence.{CausalProgram}
use Rattle.lt_compile.proofs.Checking.{no_tree, from_tree, no_names, from_names, untyped, from_types, unclocked, from_clocks, cyclic, from_causality, resolved_by, resolved_on, holds_on}
use Rattle.lt_compile.proofs.compile.check_program.Goals as goal

pub returns-in_err-tree : goal.returns-in_err-tree
returns-in_err-tree c = no_tree c.args.bytes.now _ c.from_residual.result c.from_residual.ensures.1 c.in_err-tree.ensures.answered

pub returns-in_err-named : goal.returns-in_err-named
returns-in_err-named c =
    let r = c.from_residual-in_err-named.result in
    let t = c.in_ok-tree.tree in
    from_tree c.args.bytes.now t r c.in_ok-tree.ensures.answered (no_names t _ r c.from_residual-in_err-named.ensures.1 c.in_err-named.ensures)

pub returns-in_err-typed : goal.returns-in_err-typed
returns-in_err-typed c =
    let r = c.from_residual-in_err-typed.result in
    let t = c.in_ok-tree.tree in
    let n = c.in_ok-named.named in
    from_tree c.args.bytes.now t r c.in_ok-tree.ensures.answered (from_names t n r c.in_ok-named.ensures (untyped n _ r c.from_residual-in_err-typed.ensures.1 c.in_err-typed.ensures))

pub returns-in_err-clocked : goal.returns-in_err-clocked
returns-in_err-clocked c =
    let r = c.from_residual-in_err-clocked.result in
    let t = c.in_ok-tree.tree in
    let n = c.in_ok-named.named in
    let typed = c.in_ok-typed.typed in
    from_tree c.args.bytes.now t r c.in_ok-tree.ensures.answered (from_names t n r c.in_ok-named.ensures (from_types n typed r c.in_ok-typed.ensures
    (unclocked typed _ r c.from_residual-in_err-clocked.ensures.1 c.in_err-clocked.ensures)))

pub returns-in_err-causal : goal.returns-in_err-causal
returns-in_err-causal c =
    let r = c.from_residual-in_err-causal.result in
    let t = c.in_ok-tree.tree in
    let n = c.in_ok-named.named in
    let typed = c.in_ok-typed.typed in
    let clocked = c.in_ok-clocked.clocked in
    from_tree c.args.bytes.now t r c.in_ok-tree.ensures.answered (from_names t n r c.in_ok-named.ensures (from_types n typed r c.in_ok-typed.ensures (from_clocks typed clocked r c.in_ok-clocked.ensures
    (cyclic clocked _ r c.from_residual-in_err-causal.ensures.1 c.in_err-causal.ensures))))

pub check_types-requires : goal.check_types-requires
check_types-requires c = resolved_by c.in_ok-tree.tree c.in_ok-named.named c.in_ok-named.ensures

pub check_clocks-requires : goal.check_clocks-requires
check_clocks-requires c = resolved_on c.in_ok-named.named c.in_ok-typed.typed c.in_ok-typed.ensures.1 (resolved_by c.in_ok-tree.tree c.in_ok-named.named c.in_ok-named.ensures)

pub check_causality-requires : goal.check_causality-requires
check_causality-requires c =
    let n = c.in_ok-named.named in
    let typed = c.in_ok-typed.typed in
    let clocked = c.in_ok-clocked.clocked in
    resolved_on typed clocked c.in_ok-clocked.ensures.1 (resolved_on n typed c.in_ok-typed.ensures.1 (resolved_by c.in_ok-tree.tree n c.in_ok-named.ensures))

pub check_sizes-requires-clause-resolved : goal.check_sizes-requires-clause-resolved
check_sizes-requires-clause-resolved c =
    let n = c.in_ok-named.named in
    let typed = c.in_ok-typed.typed in
    let clocked = c.in_ok-clocked.clocked in
    let causal = c.in_ok-causal.causal in
    resolved_on clocked causal c.in_ok-causal.ensures.1 (resolved_on typed clocked c.in_ok-clocked.ensures.1 (resolved_on n typed c.in_ok-typed.ensures.1 (resolved_by c.in_ok-tree.tree n c.in_ok-named.ensures)))

pub check_sizes-requires-clause-typed : goal.check_sizes-requires-clause-typed
check_sizes-requires-clause-typed c =
    let n = c.in_ok-named.named in
    let typed = c.in_ok-typed.typed in
    let clocked = c.in_ok-clocked.clocked in
    let causal = c.in_ok-causal.causal in
    holds_on TypedProgram clocked causal c.in_ok-causal.ensures.1 (holds_on TypedProgram typed clocked c.in_ok-clocked.ensures.1 (holds_on TypedProgram n typed c.in_ok-typed.ensures.1 c.in_ok-typed.ensures.0))

pub check_sizes-requires-clause-clocked : goal.check_sizes-requires-clause-clocked
check_sizes-requires-clause-clocked c =
    let typed = c.in_ok-typed.typed in
    let clocked = c.in_ok-clocked.clocked in
    let causal = c.in_ok-causal.causal in
    holds_on ClockedProgram clocked causal c.in_ok-causal.ensures.1 (holds_on ClockedProgram typed clocked c.in_ok-clocked.ensures.1 c.in_ok-clocked.ensures.0)

pub check_sizes-requires-clause-causal : goal.check_sizes-requires-clause-causal
check_sizes-requires-clause-causal c = holds_on CausalProgram c.in_ok-clocked.clocked c.in_ok-causal.causal c.in_ok-causal.ensures.1 c.in_ok-causal.ensures.0

pub returns : goal.returns
returns c =
    let r = c.check_sizes.result in
    let t = c.in_ok-tree.tree in
    let n = c.in_ok-named.named in
    let typed = c.in_ok-typed.typed in
    let clocked = c.in_ok-clocked.clocked in
    let causal = c.in_ok-causal.causal in
    from_tree c.args.bytes.now t r c.in_ok-tree.ensures.answered (from_names t n r c.in_ok-named.ensures (from_types n typed r c.in_ok-typed.ensures (from_clocks typed clocked r c.in_ok-clocked.ensures
    (from_causality clocked causal r c.in_ok-causal.ensures c.check_sizes.ensures))))
