-- Lets under their equations.
use Rattle.std.proofs.Common.{◌≡◌, ℕ, List, [], ◌∷◌, ◌++◌, refl, sym, ap, ◌∙◌, append_assoc, append-nil}
use Rattle.lt_base.specs.declared.function.Decl.{Decl}
use Rattle.lt_step.specs.Code.{LetForm}
use Rattle.lt_c.specs.Tree.{noted}
use Rattle.lt_c.specs.Text.{spelled, statement_text}
use Rattle.lt_c.specs.Meaning.{store_left}
use Rattle.lt_c_step.specs.Translate.{of_let}
use Rattle.lt_c_heads.specs.Words.{indent}
use Rattle.lt_c_bodies.specs.Equations.{told_equation, told_lets, CommentsChangeNothing}

module _ (ds : List Decl) where
  -- one of them
  abbrev pub told_piece : LetForm → List ℕ
  told_piece l = statement_text (spelled ds) indent (noted (told_equation ds l) (of_let l))

  abbrev pub told_text : List LetForm → List ℕ
  told_text ls = statement_text (spelled ds) indent (told_lets ds ls)

  pub told_snoc : (ls : List LetForm) (l : LetForm) → told_text (ls ++ l ∷ []) ≡ told_text ls ++ told_piece l
  told_snoc [] l = append-nil (told_piece l)
  told_snoc (m ∷ ls) l = ap (λ z. told_piece m ++ z) (told_snoc ls l) ∙ sym (append_assoc (told_piece m) (told_text ls) (told_piece l))

pub same_work : CommentsChangeNothing
same_work ds [] m = refl
same_work ds (l ∷ ls) m = same_work ds ls (store_left (of_let l) m)
