-- What keeps the equations keeps the streams.
use Rattle.std.proofs.Common.{◌≡◌, ℕ, ◌<◌, true, List, [], ◌∷◌, length, map, reverse, Option, Some, None, refl, ap, ◌∙◌, arith}
use Rattle.lt_base.specs.Expression.{Expression}
use Rattle.lt_base.specs.Program.{Function}
use Rattle.lt_base.specs.declared.value.Value.{Value}
use Rattle.lt_base.specs.Meaning.{Environment, Row, Callee, clock_of, right_of, entry, present, value_of, environments, calls, cell, stream_of}
use Rattle.lt_base.specs.Solution.{Given, Solves, AllSame}
use Rattle.lt_base.specs.Clocking.{ClockedFunction}
use Rattle.lt_base.specs.Dependence.{Causal}
use Rattle.lt_base.specs.Kept.{Keeps}
use Rattle.lt_base.proofs.Solution.{given_none, given_some, means, environments_solve}
use Rattle.lt_base.proofs.Streams.{stream_is}

module _ (callee : Callee) (F f : Function) (keeps : Keeps callee F f) where
  kept_at : (env : Environment) (past : List Environment) (row : Row) (rows : List Row) → Solves callee F (env ∷ past) (row ∷ rows) → (x : ℕ) → x < length f.decls → (o : Option Expression) → right_of f.eqs x ≡ o → Given o (env x ≡ entry row x) (λ e. present env (clock_of f.decls x) ≡ true → env x ≡ value_of callee e (clock_of f.decls x) past env)
  kept_at env past row rows s x d None q = given_none _ _ (keeps.inputs x d q) (s.0 x (omega (arith, d, keeps.more)))
  kept_at env past row rows s x d (Some e) q = λ here.
      let r = keeps.rights x e d q in
      let k = keeps.clocks x d in
      given_some r.form _ _ r.stands (s.0 x (omega (arith, d, keeps.more))) (ap (present env) k ∙ here)
      ∙ ap (λ c. value_of callee r.form c past env) k
      ∙ (r.tells (env ∷ past) (row ∷ rows) s).0 here

  -- a solution of the new function is one of the old function
  pub kept : (es : List Environment) (rows : List Row) → Solves callee F es rows → Solves callee f es rows
  kept [] [] s = tt
  kept [] (row ∷ rows) s = elim s [ ]
  kept (env ∷ past) [] s = elim s [ ]
  kept (env ∷ past) (row ∷ rows) s = (λ x d. kept_at env past row rows s x d (right_of f.eqs x) refl, kept past rows s.1)

  -- so the new function means the same
  pub kept_means : (fs : List Function) → Causal F → Causal f → ClockedFunction fs f → (rows : List Row) → AllSame f.decls (environments callee F rows) (environments callee f rows)
  kept_means fs o' o c rows = means callee fs f o c rows (environments callee F rows) (kept (environments callee F rows) rows (environments_solve callee F o' rows))

-- and its streams are the same
pub kept_streams : (fs : List Function) (F f : Function) → Keeps (calls fs (length fs)) F f → Causal F → Causal f → ClockedFunction fs f → (rows : List (List Value)) (x : ℕ) → x < length f.decls → stream_of fs F rows x ≡ stream_of fs f rows x
kept_streams fs F f keeps o' o c rows x d =
    let callee = calls fs (length fs) in
    let rs = reverse (map (map Some) rows) in
    let es = environments callee F rs in
    ap (λ k. reverse (map (λ env. cell env k x) es)) (keeps.clocks x d)
    ∙ stream_is fs f o c rows es (kept callee F f keeps es rs (environments_solve callee F o' rs)) x d
