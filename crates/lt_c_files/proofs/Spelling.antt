-- Statements of a step are written alike by two spellings that agree on slots.
use Rattle.std.proofs.Common.{◌≡◌, ℕ, ◌++◌, Bool, true, false, List, [], ◌∷◌, codes, refl, ap}
use Rattle.lt_base.specs.declared.value.Value.{Value}
use Rattle.lt_base.specs.declared.value.Value.TheVariants.{Int, Bool as Truth}
use Rattle.lt_base.specs.declared.function.Decl.{Decl}
use Rattle.lt_base.specs.declared.operators.Un.{Un}
use Rattle.lt_base.specs.declared.operators.Un.TheVariants.{Neg, Not}
use Rattle.lt_base.specs.declared.operators.Bin.{Bin}
use Rattle.lt_base.specs.declared.operators.Bin.TheVariants.{Add, Sub, Mul, Div, Mod, Eq, Ne, Lt, Le, Gt, Ge, And, Or, Xor, Implies}
use Rattle.lt_base.specs.Expression.{Expression, literal, variable, unary, binary, imported, choose, sampled, merged, delayed, follow, arrow, call}
use Rattle.lt_base.specs.Meaning.{ClockPairs}
use Rattle.lt_step.specs.Code.{LetForm, KeepForm}
use Rattle.lt_c.specs.Tree.{slot, Tree, assign}
use Rattle.lt_c.specs.Literals.{of_value}
use Rattle.lt_c.specs.Text.{Spelling, helper_text, tree_text, condition_text, conditions_text, statement_text}
use Rattle.lt_c_step.specs.Translate.{of_unary, of_binary, of_imported, of_expression, under, of_keeps, of_firsts}
use Rattle.lt_c_bodies.specs.Equations.{told_equation, told_lets}

module _ (a b : Spelling) (same : (x : ℕ) → a (slot x) ≡ b (slot x)) where
  abbrev Alike : Tree → Type 0
  Alike e = tree_text a e ≡ tree_text b e

  literal_alike : (v : Value) → Alike (of_value v)
  literal_alike (Int z) = refl
  literal_alike (Truth t) = refl

  unary_alike : (o : Un) (e : Tree) → Alike e → Alike (of_unary o e)
  unary_alike Neg e h = ap (λ t. codes "lt_neg(" ++ (t ++ codes ")")) h
  unary_alike Not e h = ap (λ t. codes "(!" ++ (t ++ codes ")")) h

  binary_alike : (o : Bin) (d e : Tree) → Alike d → Alike e → Alike (of_binary o d e)
  binary_alike Add d e g h = λ i. codes "lt_add(" ++ (g i ++ (codes ", " ++ (h i ++ codes ")")))
  binary_alike Sub d e g h = λ i. codes "lt_sub(" ++ (g i ++ (codes ", " ++ (h i ++ codes ")")))
  binary_alike Mul d e g h = λ i. codes "lt_mul(" ++ (g i ++ (codes ", " ++ (h i ++ codes ")")))
  binary_alike Div d e g h = λ i. codes "lt_div(" ++ (g i ++ (codes ", " ++ (h i ++ codes ")")))
  binary_alike Mod d e g h = λ i. codes "lt_mod(" ++ (g i ++ (codes ", " ++ (h i ++ codes ")")))
  binary_alike Eq d e g h = λ i. codes "(" ++ (g i ++ (codes " == " ++ (h i ++ codes ")")))
  binary_alike Ne d e g h = λ i. codes "(" ++ (g i ++ (codes " != " ++ (h i ++ codes ")")))
  binary_alike Lt d e g h = λ i. codes "(" ++ (g i ++ (codes " < " ++ (h i ++ codes ")")))
  binary_alike Le d e g h = λ i. codes "(" ++ (g i ++ (codes " <= " ++ (h i ++ codes ")")))
  binary_alike Gt d e g h = λ i. codes "(" ++ (g i ++ (codes " > " ++ (h i ++ codes ")")))
  binary_alike Ge d e g h = λ i. codes "(" ++ (g i ++ (codes " >= " ++ (h i ++ codes ")")))
  binary_alike And d e g h = λ i. codes "(" ++ (g i ++ (codes " && " ++ (h i ++ codes ")")))
  binary_alike Or d e g h = λ i. codes "(" ++ (g i ++ (codes " || " ++ (h i ++ codes ")")))
  binary_alike Xor d e g h = λ i. codes "(" ++ (g i ++ (codes " != " ++ (h i ++ codes ")")))
  binary_alike Implies d e g h = λ i. codes "(" ++ ((codes "(!" ++ (g i ++ codes ")")) ++ (codes " || " ++ (h i ++ codes ")")))

  -- c ? d : e
  choice_alike : (c d e : List ℕ) (c' d' e' : List ℕ) → c ≡ c' → d ≡ d' → e ≡ e' →
      (codes "(" ++ (c ++ (codes " ? " ++ (d ++ (codes " : " ++ (e ++ codes ")")))))) ≡ (codes "(" ++ (c' ++ (codes " ? " ++ (d' ++ (codes " : " ++ (e' ++ codes ")"))))))
  choice_alike c d e c' d' e' f g h = λ i. codes "(" ++ (f i ++ (codes " ? " ++ (g i ++ (codes " : " ++ (h i ++ codes ")")))))

  alike : (e : Expression) → Alike (of_expression e)
  alike (literal v) = literal_alike v
  alike (variable x) = same x
  alike (unary o d) = unary_alike o (of_expression d) (alike d)
  alike (binary o d e) = binary_alike o (of_expression d) (of_expression e) (alike d) (alike e)
  alike (imported o d e) = let g = alike d in let h = alike e in (λ i. helper_text (of_imported o) ++ (g i ++ (codes ", " ++ (h i ++ codes ")"))))
  alike (choose c d e) =
      choice_alike (tree_text a (of_expression c)) (tree_text a (of_expression d)) (tree_text a (of_expression e)) (tree_text b (of_expression c)) (tree_text b (of_expression d)) (tree_text b (of_expression e))
      (alike c) (alike d) (alike e)
  alike (sampled e c t) = alike e
  alike (merged c d e) =
      choice_alike (a (slot c)) (tree_text a (of_expression d)) (tree_text a (of_expression e)) (b (slot c)) (tree_text b (of_expression d)) (tree_text b (of_expression e)) (same c) (alike d) (alike e)
  alike (delayed v e) = refl
  alike (follow d e) = refl
  alike (arrow d e) = refl
  alike (call g args) = refl

  condition_alike : (c : ℕ) (t : Bool) → condition_text a c t ≡ condition_text b c t
  condition_alike c true = same c
  condition_alike c false = ap (λ z. codes "!" ++ z) (same c)

  conditions_alike : (ck : ClockPairs) → conditions_text a ck ≡ conditions_text b ck
  conditions_alike [] = refl
  conditions_alike ((c, t) ∷ []) = condition_alike c t
  conditions_alike ((c, t) ∷ p ∷ ck) = let rest = conditions_alike (p ∷ ck) in let one = condition_alike c t in (λ i. rest i ++ (codes " && " ++ one i))

  -- an assignment to a slot, at the instants of a clock
  assigned_alike : (before : List ℕ) (x : ℕ) (e : Tree) → Alike e → statement_text a before (assign (slot x) e) ≡ statement_text b before (assign (slot x) e)
  assigned_alike before x e h = let g = same x in (λ i. before ++ (g i ++ (codes " = " ++ (h i ++ codes ";\n"))))

  under_alike : (before : List ℕ) (ck : ClockPairs) (x : ℕ) (e : Tree) → Alike e → statement_text a before (under ck (assign (slot x) e)) ≡ statement_text b before (under ck (assign (slot x) e))
  under_alike before [] x e h = assigned_alike before x e h
  under_alike before (p ∷ ck) x e h =
      let when = conditions_alike (p ∷ ck) in
      let what = assigned_alike (codes "    " ++ before) x e h in
      (λ i. before ++ (codes "if (" ++ (when i ++ (codes ") {\n" ++ (what i ++ (before ++ codes "}\n"))))))

  -- lets under their equations
  pub told_alike : (before : List ℕ) (ds : List Decl) (ls : List LetForm) → statement_text a before (told_lets ds ls) ≡ statement_text b before (told_lets ds ls)
  told_alike before ds [] = refl
  told_alike before ds (l ∷ ls) =
      let one = under_alike before l.guard l.slot (of_expression l.operand) (alike l.operand) in
      let rest = told_alike before ds ls in
      (λ i. (before ++ (codes "/* " ++ (told_equation ds l ++ (codes " */\n" ++ one i)))) ++ rest i)

  pub keeps_alike : (before : List ℕ) (ks : List KeepForm) → statement_text a before (of_keeps ks) ≡ statement_text b before (of_keeps ks)
  keeps_alike before [] = refl
  keeps_alike before (k ∷ ks) = let one = under_alike before k.guard k.slot (of_expression k.operand) (alike k.operand) in let rest = keeps_alike before ks in (λ i. one i ++ rest i)

  pub firsts_alike : (before : List ℕ) (ks : List KeepForm) → statement_text a before (of_firsts ks) ≡ statement_text b before (of_firsts ks)
  firsts_alike before [] = refl
  firsts_alike before (k ∷ ks) = let one = assigned_alike before k.slot (of_value k.first) (literal_alike k.first) in let rest = firsts_alike before ks in (λ i. one i ++ rest i)
