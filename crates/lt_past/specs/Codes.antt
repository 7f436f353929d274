-- How a proof tells two formulas apart.
use Rattle.std.specs.Prelude.{◌≡◌}
use Rattle.std.proofs.Common.{ap}
use base.Stored.{Gv, gnum, gcons, num}
use Rattle.std.specs.Coded.{Coded, coded_bool}
use Rattle.lt_base.specs.Codes.{first, rest}
use Rattle.lt_past.specs.contracts.words.Prefix.{the_row as prefix_row}
use Rattle.lt_past.specs.contracts.words.Infix.{the_row as infix_row}
use Rattle.lt_past.specs.Formula.{Formula, constant, signal, unary, binary}

abbrev pub formula_code : Formula → Gv
formula_code (constant b) = gcons (gnum 0) (coded_bool.code b)
formula_code (signal k) = gcons (gnum 1) (gnum k)
formula_code (unary p f) = gcons (gnum 2) (gcons (prefix_row.coded.code p) (formula_code f))
formula_code (binary o f g) = gcons (gnum 3) (gcons (infix_row.coded.code o) (gcons (formula_code f) (formula_code g)))

pub formula_inj : (x y : Formula) → formula_code x ≡ formula_code y → x ≡ y
formula_inj (constant b) (constant b') p = λ i. constant (coded_bool.inj b b' (ap rest p) i)
formula_inj (signal k) (signal k') p = ap (λ g. signal (num (rest g))) p
formula_inj (unary o f) (unary o' f') p = λ i. unary (prefix_row.coded.inj o o' (ap (λ g. first (rest g)) p) i) (formula_inj f f' (ap (λ g. rest (rest g)) p) i)
formula_inj (binary o f g) (binary o' f' g') p = λ i. binary (infix_row.coded.inj o o' (ap (λ g. first (rest g)) p) i) (formula_inj f f' (ap (λ g. first (rest (rest g))) p) i) (formula_inj g g' (ap (λ g. rest (rest (rest g))) p) i)
formula_inj x y p = cc

abbrev pub coded_formula : Coded Formula
coded_formula = record { code = formula_code; inj = formula_inj }
