use Rattle.std.proofs.Common.{◌≡◌, ◌≢◌, [], ◌∷◌, ℕ, sym, ap, ◌∙◌, refl, true, false, reverse}
use Rattle.lt_base.specs.Meaning.{ClockPairs}
use Rattle.lt_c.specs.Tree.{Tree, nothing, has, assign}
use Rattle.lt_c.specs.Views.{tree_of}
use Rattle.lt_c_step.specs.Part.{clock_tree, telling}
use Rattle.lt_c_step.proofs.Pieces.{not_none}
use Rattle.lt_c_bodies.proofs.stepping.telling.Goals as goal

told : (y : ℕ) (ck : ClockPairs) (e : Tree) → ck ≢ [] → e ≡ clock_tree ck → assign (has y) e ≡ telling y ck
told y [] e h g = absurd (h refl)
told y (p ∷ ck) e h g = ap (assign (has y)) g

untold : (y : ℕ) (steps ck : ClockPairs) → ck ≡ reverse steps → steps ≡ [] → nothing ≡ telling y ck
untold y steps ck e h = sym (ap (telling y) (e ∙ ap reverse h))

pub returns : goal.returns
returns c run =
    let some : c.clock.inside.steps ≢ [] = λ h. let t : false ≡ true = sym c.if-is_empty.false ∙ c.is_empty.ensures.1 h in absurd (cc) in
    told c.args.y c.args.clock.now (tree_of c.in_ok-holds.holds) (not_none c.clock.inside.steps c.args.clock.now (sym c.clock.view_is) some) c.in_ok-holds.ensures
