-- Comments change nothing of what a step leaves.
use Rattle.std.proofs.Common.{◌≡◌, Bool, true, false, List, ℕ, refl, ap, ◌∙◌, codes}
use Rattle.lt_c.specs.Tree.{Statement}
use Rattle.lt_c.specs.Meaning.{Store, store_left}
use Rattle.lt_c_step.specs.Part.{feeding, showing}
use Rattle.lt_c_step.specs.Translate.{of_lets, of_keeps}
use Rattle.lt_c_bodies.specs.Equations.{told_lets}
use Rattle.lt_c_bodies.proofs.Telling.{same_work}
use Rattle.lt_c_heads.specs.Types.{has_items}
use Rattle.lt_c_files.specs.Bodies.{noted_if, CommentsLeaveAll}

same_left : (b : Bool) (comment : List ℕ) (s : Statement) (m : Store) → store_left (noted_if b comment s) m ≡ store_left s m
same_left true comment s m = refl
same_left false comment s m = refl

pub comments_leave_all : CommentsLeaveAll
comments_leave_all ds ss os c m =
    let fed : Statement = noted_if (has_items ss) (codes "what the instant is fed with") (feeding 0 ss) in
    let lets : Statement = noted_if (has_items c.lets) (codes "the equations") (told_lets ds c.lets) in
    let outputs : Statement = noted_if (has_items os) (codes "the outputs") (showing os) in
    same_left (has_items c.keeps) (codes "what delays keep") (of_keeps c.keeps) (store_left outputs (store_left lets (store_left fed m)))
    ∙ ap (store_left (of_keeps c.keeps))
    (same_left (has_items os) (codes "the outputs") (showing os) (store_left lets (store_left fed m))
    ∙ ap (store_left (showing os))
    (same_left (has_items c.lets) (codes "the equations") (told_lets ds c.lets) (store_left fed m) ∙ same_work ds c.lets (store_left fed m)
    ∙ ap (store_left (of_lets c.lets)) (same_left (has_items ss) (codes "what the instant is fed with") (feeding 0 ss) m)))
