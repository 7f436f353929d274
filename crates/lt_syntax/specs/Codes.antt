-- How a proof tells two terms apart.
use Rattle.std.specs.Prelude.{◌≡◌, ℕ, List}
use Rattle.std.proofs.Common.{ap, refl}
use Rattle.std.proofs.lemmas.Bool.{eqb-false}
use base.Stored.{Gv, gnil, gnum, gcons, num}
use Rattle.std.specs.Coded.{Coded, coded_bool, coded_list, coded_ℕ}
use Rattle.lt_base.specs.Codes.{first, rest}
use Rattle.lt_base.specs.contracts.value.Value.{the_row as value_row}
use Rattle.lt_base.specs.contracts.operators.Un.{the_row as un_row}
use Rattle.lt_base.specs.contracts.operators.Bin.{the_row as bin_row}
use Rattle.lt_syntax.specs.Tree.{Tm, Lit, Var, Unary, Binary, Choice, Sampled, Merged, Delayed, Followed, Arrow, Call, Tms, Nil, Cons}

-- the number of a term's form
abbrev form : Gv → ℕ
form g = num (first g)

abbrev name : Coded (List ℕ)
name = coded_list coded_ℕ

abbrev mutual
  pub tm_code : Tm → Gv
  tm_code (Lit v) = gcons (gnum 0) (value_row.coded.code v)
  tm_code (Var x) = gcons (gnum 1) (name.code x)
  tm_code (Unary o a) = gcons (gnum 2) (gcons (un_row.coded.code o) (tm_code a))
  tm_code (Binary o a b) = gcons (gnum 3) (gcons (bin_row.coded.code o) (gcons (tm_code a) (tm_code b)))
  tm_code (Choice c a b) = gcons (gnum 4) (gcons (tm_code c) (gcons (tm_code a) (tm_code b)))
  tm_code (Sampled a c b) = gcons (gnum 5) (gcons (tm_code a) (gcons (name.code c) (coded_bool.code b)))
  tm_code (Merged c a b) = gcons (gnum 6) (gcons (name.code c) (gcons (tm_code a) (tm_code b)))
  tm_code (Delayed v a) = gcons (gnum 7) (gcons (value_row.coded.code v) (tm_code a))
  tm_code (Followed a b) = gcons (gnum 8) (gcons (tm_code a) (tm_code b))
  tm_code (Arrow a b) = gcons (gnum 9) (gcons (tm_code a) (tm_code b))
  tm_code (Call f xs) = gcons (gnum 10) (gcons (name.code f) (tms_code xs))

  pub tms_code : Tms → Gv
  tms_code Nil = gnil
  tms_code (Cons a xs) = gcons (tm_code a) (tms_code xs)

mutual
  pub tm_inj : (x y : Tm) → tm_code x ≡ tm_code y → x ≡ y
  tm_inj (Lit v) (Lit w) p = λ i. Lit (value_row.coded.inj v w (ap rest p) i)
  tm_inj (Var x) (Var y) p = λ i. Var (name.inj x y (ap rest p) i)
  tm_inj (Unary o a) (Unary o' a') p = λ i. Unary (un_row.coded.inj o o' (ap (λ g. first (rest g)) p) i) (tm_inj a a' (ap (λ g. rest (rest g)) p) i)
  tm_inj (Binary o a b) (Binary o' a' b') p = λ i. Binary (bin_row.coded.inj o o' (ap (λ g. first (rest g)) p) i) (tm_inj a a' (ap (λ g. first (rest (rest g))) p) i) (tm_inj b b' (ap (λ g. rest (rest (rest g))) p) i)
  tm_inj (Choice c a b) (Choice c' a' b') p = λ i. Choice (tm_inj c c' (ap (λ g. first (rest g)) p) i) (tm_inj a a' (ap (λ g. first (rest (rest g))) p) i) (tm_inj b b' (ap (λ g. rest (rest (rest g))) p) i)
  tm_inj (Sampled a c b) (Sampled a' c' b') p = λ i. Sampled (tm_inj a a' (ap (λ g. first (rest g)) p) i) (name.inj c c' (ap (λ g. first (rest (rest g))) p) i) (coded_bool.inj b b' (ap (λ g. rest (rest (rest g))) p) i)
  tm_inj (Merged c a b) (Merged c' a' b') p = λ i. Merged (name.inj c c' (ap (λ g. first (rest g)) p) i) (tm_inj a a' (ap (λ g. first (rest (rest g))) p) i) (tm_inj b b' (ap (λ g. rest (rest (rest g))) p) i)
  tm_inj (Delayed v a) (Delayed v' a') p = λ i. Delayed (value_row.coded.inj v v' (ap (λ g. first (rest g)) p) i) (tm_inj a a' (ap (λ g. rest (rest g)) p) i)
  tm_inj (Followed a b) (Followed a' b') p = λ i. Followed (tm_inj a a' (ap (λ g. first (rest g)) p) i) (tm_inj b b' (ap (λ g. rest (rest g)) p) i)
  tm_inj (Arrow a b) (Arrow a' b') p = λ i. Arrow (tm_inj a a' (ap (λ g. first (rest g)) p) i) (tm_inj b b' (ap (λ g. rest (rest g)) p) i)
  tm_inj (Call f xs) (Call f' xs') p = λ i. Call (name.inj f f' (ap (λ g. first (rest g)) p) i) (tms_inj xs xs' (ap (λ g. rest (rest g)) p) i)
  tm_inj x y p = absurd (eqb-false (form (tm_code x)) (form (tm_code y)) refl (ap form p))

  pub tms_inj : (x y : Tms) → tms_code x ≡ tms_code y → x ≡ y
  tms_inj Nil Nil p = λ i. Nil
  tms_inj (Cons a xs) (Cons a' xs') p = λ i. Cons (tm_inj a a' (ap first p) i) (tms_inj xs xs' (ap rest p) i)
  tms_inj x y p = cc

abbrev pub coded_tm : Coded Tm
coded_tm = record { code = tm_code; inj = tm_inj }
