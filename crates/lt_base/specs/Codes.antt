-- How a proof tells two plain expressions apart.
use Rattle.std.specs.Prelude.{◌≡◌}
use Rattle.std.proofs.Common.{ap}
use base.Stored.{Gv, gnil, gnum, gcons, num}
use Rattle.std.specs.Coded.{Coded, coded_bool}
use Rattle.lt_base.specs.contracts.value.Value.{the_row as value_row}
use Rattle.lt_base.specs.contracts.operators.Un.{the_row as un_row}
use Rattle.lt_base.specs.contracts.operators.Bin.{the_row as bin_row}
use Rattle.lt_base.specs.contracts.operators.Imp.{the_row as imp_row}
use Rattle.lt_base.specs.Expression.{Expression, literal, variable, unary, binary, imported, choose, sampled, merged, delayed, follow, arrow, call, Arguments, no_arguments, argument}

-- the first of the parts that are coded, and the rest of them
abbrev pub first : Gv → Gv
first gnil = gnil
first (gnum n) = gnil
first (gcons a b) = a

abbrev pub rest : Gv → Gv
rest gnil = gnil
rest (gnum n) = gnil
rest (gcons a b) = b

abbrev mutual
  pub expression_code : Expression → Gv
  expression_code (literal v) = gcons (gnum 0) (value_row.coded.code v)
  expression_code (variable x) = gcons (gnum 1) (gnum x)
  expression_code (unary o a) = gcons (gnum 2) (gcons (un_row.coded.code o) (expression_code a))
  expression_code (binary o a b) = gcons (gnum 3) (gcons (bin_row.coded.code o) (gcons (expression_code a) (expression_code b)))
  expression_code (imported o a b) = gcons (gnum 4) (gcons (imp_row.coded.code o) (gcons (expression_code a) (expression_code b)))
  expression_code (choose c a b) = gcons (gnum 5) (gcons (expression_code c) (gcons (expression_code a) (expression_code b)))
  expression_code (sampled e c b) = gcons (gnum 6) (gcons (expression_code e) (gcons (gnum c) (coded_bool.code b)))
  expression_code (merged c a b) = gcons (gnum 7) (gcons (gnum c) (gcons (expression_code a) (expression_code b)))
  expression_code (delayed v e) = gcons (gnum 8) (gcons (value_row.coded.code v) (expression_code e))
  expression_code (follow a b) = gcons (gnum 9) (gcons (expression_code a) (expression_code b))
  expression_code (arrow a b) = gcons (gnum 10) (gcons (expression_code a) (expression_code b))
  expression_code (call g args) = gcons (gnum 11) (gcons (gnum g) (arguments_code args))

  pub arguments_code : Arguments → Gv
  arguments_code no_arguments = gnil
  arguments_code (argument e args) = gcons (expression_code e) (arguments_code args)

mutual
  pub expression_inj : (x y : Expression) → expression_code x ≡ expression_code y → x ≡ y
  expression_inj (literal v) (literal w) p = λ i. literal (value_row.coded.inj v w (ap rest p) i)
  expression_inj (variable x) (variable y) p = ap (λ g. variable (num (rest g))) p
  expression_inj (unary o a) (unary o' a') p = λ i. unary (un_row.coded.inj o o' (ap (λ g. first (rest g)) p) i) (expression_inj a a' (ap (λ g. rest (rest g)) p) i)
  expression_inj (binary o a b) (binary o' a' b') p = λ i. binary (bin_row.coded.inj o o' (ap (λ g. first (rest g)) p) i) (expression_inj a a' (ap (λ g. first (rest (rest g))) p) i) (expression_inj b b' (ap (λ g. rest (rest (rest g))) p) i)
  expression_inj (imported o a b) (imported o' a' b') p = λ i. imported (imp_row.coded.inj o o' (ap (λ g. first (rest g)) p) i) (expression_inj a a' (ap (λ g. first (rest (rest g))) p) i) (expression_inj b b' (ap (λ g. rest (rest (rest g))) p) i)
  expression_inj (choose c a b) (choose c' a' b') p = λ i. choose (expression_inj c c' (ap (λ g. first (rest g)) p) i) (expression_inj a a' (ap (λ g. first (rest (rest g))) p) i) (expression_inj b b' (ap (λ g. rest (rest (rest g))) p) i)
  expression_inj (sampled e c b) (sampled e' c' b') p = λ i. sampled (expression_inj e e' (ap (λ g. first (rest g)) p) i) (num (first (rest (rest (p i))))) (coded_bool.inj b b' (ap (λ g. rest (rest (rest g))) p) i)
  expression_inj (merged c a b) (merged c' a' b') p = λ i. merged (num (first (rest (p i)))) (expression_inj a a' (ap (λ g. first (rest (rest g))) p) i) (expression_inj b b' (ap (λ g. rest (rest (rest g))) p) i)
  expression_inj (delayed v e) (delayed v' e') p = λ i. delayed (value_row.coded.inj v v' (ap (λ g. first (rest g)) p) i) (expression_inj e e' (ap (λ g. rest (rest g)) p) i)
  expression_inj (follow a b) (follow a' b') p = λ i. follow (expression_inj a a' (ap (λ g. first (rest g)) p) i) (expression_inj b b' (ap (λ g. rest (rest g)) p) i)
  expression_inj (arrow a b) (arrow a' b') p = λ i. arrow (expression_inj a a' (ap (λ g. first (rest g)) p) i) (expression_inj b b' (ap (λ g. rest (rest g)) p) i)
  expression_inj (call g args) (call g' args') p = λ i. call (num (first (rest (p i)))) (arguments_inj args args' (ap (λ g. rest (rest g)) p) i)
  expression_inj x y p = cc

  pub arguments_inj : (x y : Arguments) → arguments_code x ≡ arguments_code y → x ≡ y
  arguments_inj no_arguments no_arguments p = λ i. no_arguments
  arguments_inj (argument e args) (argument e' args') p = λ i. argument (expression_inj e e' (ap first p) i) (arguments_inj args args' (ap rest p) i)
  arguments_inj x y p = cc

abbrev pub coded_expression : Coded Expression
coded_expression = record { code = expression_code; inj = expression_inj }
