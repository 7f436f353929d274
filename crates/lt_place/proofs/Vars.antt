-- Facts of each variable of an expression without calls, and the expression under other numbers.
use Rattle.std.proofs.Common.{◌≡◌, ℕ, ◌<◌, true, false, List, [], ◌∷◌, ◌++◌, length, Some, Vec, Global, refl, sym, ap, ◌∙◌, subst}
use Rattle.std.specs.Option.{option_and_then}
use Rattle.lt_base.specs.declared.expression.Expr.{Expr, Call}
use Rattle.lt_base.proofs.Shape.{shape-Call}
use Rattle.lt_base.specs.declared.function.Decl.{Decl}
use Rattle.lt_base.specs.Value.{ty_of}
use Rattle.lt_base.specs.Expression.{Expression, shape, literal, variable, unary, binary, imported, choose, sampled, merged, delayed, follow, arrow, call}
use Rattle.lt_base.specs.Program.{VarsBelow}
use Rattle.lt_base.specs.Meaning.{ClockPairs, clock_of}
use Rattle.lt_base.specs.Typing.{ty_at, type_of, un_type, bin_type, imported_type, both_types, shared_type, under_bool}
use Rattle.lt_base.specs.Clocking.{Clocked, WellFormed}
use Rattle.lt_base.specs.Calls.{EachCall}
use Rattle.lt_base.specs.Dependence.{has, reads, clock_vars}
use Rattle.lt_base.specs.Order.{EachRead, EachClockVar}
use Rattle.lt_base.specs.Placed.{renamed, below}
use Rattle.lt_base.proofs.Reading.{has_front, has_back, or_left, or_right}
use Rattle.lt_base.proofs.Lookups.{same_self}
use Rattle.lt_norm.specs.Flat.{Direct, FlatRight}
use Rattle.lt_place_reads.specs.Reads.{whole_read, parts_read, delayed_reads, direct_reads}

-- a fact of each variable of an expression, in which there is no call
abbrev pub EachVar : (ℕ → Type 0) → Expression → Type 0
EachVar P (literal v) = Unit {0}
EachVar P (variable x) = P x
EachVar P (unary o a) = EachVar P a
EachVar P (binary o a b) = EachVar P a × EachVar P b
EachVar P (imported o a b) = EachVar P a × EachVar P b
EachVar P (choose c a b) = EachVar P c × EachVar P a × EachVar P b
EachVar P (sampled e c b) = EachVar P e × P c
EachVar P (merged c a b) = P c × EachVar P a × EachVar P b
EachVar P (delayed v e) = EachVar P e
EachVar P (follow a b) = EachVar P a × EachVar P b
EachVar P (arrow a b) = EachVar P a × EachVar P b
EachVar P (call g args) = ⊥

module _ (P Q : ℕ → Type 0) (h : (y : ℕ) → P y → Q y) where
  pub each_var_map : (e : Expression) → EachVar P e → EachVar Q e
  each_var_map (literal v) k = tt
  each_var_map (variable x) k = h x k
  each_var_map (unary o a) k = each_var_map a k
  each_var_map (binary o a b) k = (each_var_map a k.0, each_var_map b k.1)
  each_var_map (imported o a b) k = (each_var_map a k.0, each_var_map b k.1)
  each_var_map (choose c a b) k = (each_var_map c k.0, each_var_map a k.1, each_var_map b k.2)
  each_var_map (sampled e c b) k = (each_var_map e k.0, h c k.1)
  each_var_map (merged c a b) k = (h c k.0, each_var_map a k.1, each_var_map b k.2)
  each_var_map (delayed v e) k = each_var_map e k
  each_var_map (follow a b) k = (each_var_map a k.0, each_var_map b k.1)
  each_var_map (arrow a b) k = (each_var_map a k.0, each_var_map b k.1)
  each_var_map (call g args) k = elim k [ ]

-- ---- from the list of reads

module _ (P : ℕ → Type 0) where
  direct_vars : (e : Expression) → Direct e → ((y : ℕ) → has y (reads e) ≡ true → P y) → EachVar P e
  direct_vars (literal v) d h = tt
  direct_vars (variable x) d h = h x (or_left _ _ (same_self x))
  direct_vars (unary o a) d h = direct_vars a d h
  direct_vars (binary o a b) d h = (direct_vars a d.0 (λ y k. h y (has_front y (reads a) (reads b) k)), direct_vars b d.1 (λ y k. h y (has_back y (reads a) (reads b) k)))
  direct_vars (imported o a b) d h = (direct_vars a d.0 (λ y k. h y (has_front y (reads a) (reads b) k)), direct_vars b d.1 (λ y k. h y (has_back y (reads a) (reads b) k)))
  direct_vars (choose c a b) d h = (
    direct_vars c d.0 (λ y k. h y (has_front y (reads c) (reads a ++ reads b) k)),
    direct_vars a d.1 (λ y k. h y (has_back y (reads c) (reads a ++ reads b) (has_front y (reads a) (reads b) k))),
    direct_vars b d.2 (λ y k. h y (has_back y (reads c) (reads a ++ reads b) (has_back y (reads a) (reads b) k))),
  )
  direct_vars (sampled e c b) d h = (direct_vars e d (λ y k. h y (has_front y (reads e) (c ∷ []) k)), h c (has_back c (reads e) (c ∷ []) (or_left _ _ (same_self c))))
  direct_vars (merged c a b) d h = (
    h c (or_left _ _ (same_self c)),
    direct_vars a d.0 (λ y k. h y (or_right _ _ (has_front y (reads a) (reads b) k))),
    direct_vars b d.1 (λ y k. h y (or_right _ _ (has_back y (reads a) (reads b) k))),
  )
  direct_vars (delayed v e) d h = elim d [ ]
  direct_vars (follow a b) d h = elim d [ ]
  direct_vars (arrow a b) d h = elim d [ ]
  direct_vars (call g args) d h = elim d [ ]

  operand_vars : (a : Expression) → Direct a → ((y : ℕ) → has y (parts_read a) ≡ true → P y) → ((y : ℕ) → has y (whole_read a) ≡ true → P y) → EachVar P a
  operand_vars (variable x) d h k = k x (or_left _ _ (same_self x))
  operand_vars (literal v) d h k = tt
  operand_vars (unary o a) d h k = direct_vars (unary o a) d h
  operand_vars (binary o a b) d h k = direct_vars (binary o a b) d h
  operand_vars (imported o a b) d h k = direct_vars (imported o a b) d h
  operand_vars (choose c a b) d h k = direct_vars (choose c a b) d h
  operand_vars (sampled e c b) d h k = direct_vars (sampled e c b) d h
  operand_vars (merged c a b) d h k = direct_vars (merged c a b) d h
  operand_vars (delayed v e) d h k = elim d [ ]
  operand_vars (follow a b) d h k = elim d [ ]
  operand_vars (arrow a b) d h k = elim d [ ]
  operand_vars (call g args) d h k = elim d [ ]

  pub flat_vars : (e : Expression) → FlatRight e → ((y : ℕ) → has y (direct_reads e) ≡ true → P y) → ((y : ℕ) → has y (delayed_reads e) ≡ true → P y) → EachVar P e
  flat_vars (delayed v a) d h k = operand_vars a d h k
  flat_vars (literal v) d h k = tt
  flat_vars (variable x) d h k = direct_vars (variable x) d h
  flat_vars (unary o a) d h k = direct_vars (unary o a) d h
  flat_vars (binary o a b) d h k = direct_vars (binary o a b) d h
  flat_vars (imported o a b) d h k = direct_vars (imported o a b) d h
  flat_vars (choose c a b) d h k = direct_vars (choose c a b) d h
  flat_vars (sampled e c b) d h k = direct_vars (sampled e c b) d h
  flat_vars (merged c a b) d h k = direct_vars (merged c a b) d h
  flat_vars (follow a b) d h k = elim d [ ]
  flat_vars (arrow a b) d h k = elim d [ ]
  flat_vars (call g args) d h k = elim d [ ]

  pub clock_vars_each : (ck : ClockPairs) → ((y : ℕ) → has y (clock_vars ck) ≡ true → P y) → EachClockVar P ck
  clock_vars_each [] h = tt
  clock_vars_each ((c, b) ∷ ck) h = (h c (or_left _ _ (same_self c)), clock_vars_each ck (λ y k. h y (or_right _ _ k)))

-- ---- no calls

direct_callless : (e : Expression) → Direct e → EachCall (λ g. ⊥) e
direct_callless (literal v) d = tt
direct_callless (variable x) d = tt
direct_callless (unary o a) d = direct_callless a d
direct_callless (binary o a b) d = (direct_callless a d.0, direct_callless b d.1)
direct_callless (imported o a b) d = (direct_callless a d.0, direct_callless b d.1)
direct_callless (choose c a b) d = (direct_callless c d.0, direct_callless a d.1, direct_callless b d.2)
direct_callless (sampled e c b) d = direct_callless e d
direct_callless (merged c a b) d = (direct_callless a d.0, direct_callless b d.1)
direct_callless (delayed v e) d = elim d [ ]
direct_callless (follow a b) d = elim d [ ]
direct_callless (arrow a b) d = elim d [ ]
direct_callless (call g args) d = elim d [ ]

pub flat_callless : (e : Expression) → FlatRight e → EachCall (λ g. ⊥) e
flat_callless (delayed v a) d = direct_callless a d
flat_callless (literal v) d = tt
flat_callless (variable x) d = tt
flat_callless (unary o a) d = direct_callless (unary o a) d
flat_callless (binary o a b) d = direct_callless (binary o a b) d
flat_callless (imported o a b) d = direct_callless (imported o a b) d
flat_callless (choose c a b) d = direct_callless (choose c a b) d
flat_callless (sampled e c b) d = direct_callless (sampled e c b) d
flat_callless (merged c a b) d = direct_callless (merged c a b) d
flat_callless (follow a b) d = elim d [ ]
flat_callless (arrow a b) d = elim d [ ]
flat_callless (call g args) d = elim d [ ]

-- ---- other numbers

module _ (s : ℕ → ℕ) where
  direct_renamed : (e : Expression) → Direct e → Direct (renamed s e)
  direct_renamed (literal v) d = tt
  direct_renamed (variable x) d = tt
  direct_renamed (unary o a) d = direct_renamed a d
  direct_renamed (binary o a b) d = (direct_renamed a d.0, direct_renamed b d.1)
  direct_renamed (imported o a b) d = (direct_renamed a d.0, direct_renamed b d.1)
  direct_renamed (choose c a b) d = (direct_renamed c d.0, direct_renamed a d.1, direct_renamed b d.2)
  direct_renamed (sampled e c b) d = direct_renamed e d
  direct_renamed (merged c a b) d = (direct_renamed a d.0, direct_renamed b d.1)
  direct_renamed (delayed v e) d = elim d [ ]
  direct_renamed (follow a b) d = elim d [ ]
  direct_renamed (arrow a b) d = elim d [ ]
  direct_renamed (call g args) d = elim d [ ]

  pub flat_renamed : (e : Expression) → FlatRight e → FlatRight (renamed s e)
  flat_renamed (delayed v a) d = direct_renamed a d
  flat_renamed (literal v) d = tt
  flat_renamed (variable x) d = tt
  flat_renamed (unary o a) d = direct_renamed (unary o a) d
  flat_renamed (binary o a b) d = direct_renamed (binary o a b) d
  flat_renamed (imported o a b) d = direct_renamed (imported o a b) d
  flat_renamed (choose c a b) d = direct_renamed (choose c a b) d
  flat_renamed (sampled e c b) d = direct_renamed (sampled e c b) d
  flat_renamed (merged c a b) d = direct_renamed (merged c a b) d
  flat_renamed (follow a b) d = elim d [ ]
  flat_renamed (arrow a b) d = elim d [ ]
  flat_renamed (call g args) d = elim d [ ]

  pub vars_below : (m : ℕ) (e : Expression) → EachVar (λ y. s y < m) e → VarsBelow m (renamed s e)
  vars_below m (literal v) h = tt
  vars_below m (variable x) h = h
  vars_below m (unary o a) h = vars_below m a h
  vars_below m (binary o a b) h = (vars_below m a h.0, vars_below m b h.1)
  vars_below m (imported o a b) h = (vars_below m a h.0, vars_below m b h.1)
  vars_below m (choose c a b) h = (vars_below m c h.0, vars_below m a h.1, vars_below m b h.2)
  vars_below m (sampled e c b) h = (vars_below m e h.0, h.1)
  vars_below m (merged c a b) h = (h.0, vars_below m a h.1, vars_below m b h.2)
  vars_below m (delayed v e) h = vars_below m e h
  vars_below m (follow a b) h = (vars_below m a h.0, vars_below m b h.1)
  vars_below m (arrow a b) h = (vars_below m a h.0, vars_below m b h.1)
  vars_below m (call g args) h = elim h [ ]

  module _ (r : ℕ → ℕ) where
    abbrev Back : ℕ → Type 0
    Back y = r (s y) ≡ y

    pub renamed_back : (e : Expression) → EachVar Back e → renamed r (renamed s e) ≡ e
    renamed_back (literal v) h = refl
    renamed_back (variable x) h = ap variable h
    renamed_back (unary o a) h = ap (unary o) (renamed_back a h)
    renamed_back (binary o a b) h = λ i. binary o (renamed_back a h.0 i) (renamed_back b h.1 i)
    renamed_back (imported o a b) h = λ i. imported o (renamed_back a h.0 i) (renamed_back b h.1 i)
    renamed_back (choose c a b) h = λ i. choose (renamed_back c h.0 i) (renamed_back a h.1 i) (renamed_back b h.2 i)
    renamed_back (sampled e c b) h = λ i. sampled (renamed_back e h.0 i) (h.1 i) b
    renamed_back (merged c a b) h = λ i. merged (h.0 i) (renamed_back a h.1 i) (renamed_back b h.2 i)
    renamed_back (delayed v e) h = ap (delayed v) (renamed_back e h)
    renamed_back (follow a b) h = λ i. follow (renamed_back a h.0 i) (renamed_back b h.1 i)
    renamed_back (arrow a b) h = λ i. arrow (renamed_back a h.0 i) (renamed_back b h.1 i)
    renamed_back (call g args) h = elim h [ ]

    pub below_back : (ck : ClockPairs) → EachClockVar Back ck → below r (below s ck []) [] ≡ ck
    below_back [] h = refl
    below_back ((c, b) ∷ ck) h = λ i. (h.0 i, b) ∷ below_back ck h.1 i

    module _ (P : ℕ → Type 0) where
      pub read_back : (e : Expression) → EachVar Back e → EachRead P e → EachRead (λ j. P (r j)) (renamed s e)
      read_back (literal v) h k = tt
      read_back (variable x) h k = subst P (sym h) k
      read_back (unary o a) h k = read_back a h k
      read_back (binary o a b) h k = (read_back a h.0 k.0, read_back b h.1 k.1)
      read_back (imported o a b) h k = (read_back a h.0 k.0, read_back b h.1 k.1)
      read_back (choose c a b) h k = (read_back c h.0 k.0, read_back a h.1 k.1, read_back b h.2 k.2)
      read_back (sampled e c b) h k = (read_back e h.0 k.0, subst P (sym h.1) k.1)
      read_back (merged c a b) h k = (subst P (sym h.0) k.0, read_back a h.1 k.1, read_back b h.2 k.2)
      read_back (delayed v e) h k = tt
      read_back (follow a b) h k = read_back a h.0 k
      read_back (arrow a b) h k = (read_back a h.0 k.0, read_back b h.1 k.1)
      read_back (call g args) h k = elim h [ ]

      pub clock_back : (ck : ClockPairs) → EachClockVar Back ck → EachClockVar P ck → EachClockVar (λ j. P (r j)) (below s ck [])
      clock_back [] h k = tt
      clock_back ((c, b) ∷ ck) h k = (subst P (sym h.0) k.0, clock_back ck h.1 k.1)

  -- ---- types and clocks

  module _ (ds ds' : List Decl) where
    abbrev SameType : ℕ → Type 0
    SameType y = ty_at ds' (s y) ≡ ty_at ds y

    pub type_renamed : (e : Expression) → EachVar SameType e → type_of [] ds' (renamed s e) ≡ type_of [] ds e
    type_renamed (literal v) h = refl
    type_renamed (variable x) h = h
    type_renamed (unary o a) h = ap (option_and_then (un_type o)) (type_renamed a h)
    type_renamed (binary o a b) h = λ i. both_types (bin_type o) (type_renamed a h.0 i) (type_renamed b h.1 i)
    type_renamed (imported o a b) h = λ i. both_types imported_type (type_renamed a h.0 i) (type_renamed b h.1 i)
    type_renamed (choose c a b) h = λ i. under_bool (type_renamed c h.0 i) (both_types shared_type (type_renamed a h.1 i) (type_renamed b h.2 i))
    type_renamed (sampled e c b) h = λ i. under_bool (h.1 i) (type_renamed e h.0 i)
    type_renamed (merged c a b) h = λ i. under_bool (h.0 i) (both_types shared_type (type_renamed a h.1 i) (type_renamed b h.2 i))
    type_renamed (delayed v e) h = ap (both_types shared_type (Some (ty_of v))) (type_renamed e h)
    type_renamed (follow a b) h = λ i. both_types shared_type (type_renamed a h.0 i) (type_renamed b h.1 i)
    type_renamed (arrow a b) h = λ i. both_types shared_type (type_renamed a h.0 i) (type_renamed b h.1 i)
    type_renamed (call g args) h = elim h [ ]

    abbrev SameClock : ℕ → Type 0
    SameClock y = (s y < length ds') × (clock_of ds' (s y) ≡ below s (clock_of ds y) [])

    abbrev under : ClockPairs → ClockPairs
    under k = below s k []

    pub clocked_renamed : (e : Expression) (k : ClockPairs) → EachVar SameClock e → Clocked [] ds e k → Clocked [] ds' (renamed s e) (under k)
    clocked_renamed (literal v) k h t = tt
    clocked_renamed (variable x) k h t = (h.0, h.1 ∙ ap under t.1)
    clocked_renamed (unary o a) k h t = clocked_renamed a k h t
    clocked_renamed (binary o a b) k h t = (clocked_renamed a k h.0 t.0, clocked_renamed b k h.1 t.1)
    clocked_renamed (imported o a b) k h t = (clocked_renamed a k h.0 t.0, clocked_renamed b k h.1 t.1)
    clocked_renamed (choose c a b) k h t = (clocked_renamed c k h.0 t.0, clocked_renamed a k h.1 t.1, clocked_renamed b k h.2 t.2)
    clocked_renamed (sampled e c b) [] h t = elim t [ ]
    clocked_renamed (sampled e c b) ((d, a) ∷ k) h t = (ap s t.0, t.1, (h.1.0, h.1.1 ∙ ap under t.2.1, clocked_renamed e k h.0 t.2.2))
    clocked_renamed (merged c a b) k h t = (h.0.0, h.0.1 ∙ ap under t.1, clocked_renamed a ((c, true) ∷ k) h.1 t.2, clocked_renamed b ((c, false) ∷ k) h.2 t.3)
    clocked_renamed (delayed v e) k h t = clocked_renamed e k h t
    clocked_renamed (follow a b) k h t = (clocked_renamed a k h.0 t.0, clocked_renamed b k h.1 t.1)
    clocked_renamed (arrow a b) k h t = (clocked_renamed a k h.0 t.0, clocked_renamed b k h.1 t.1)
    clocked_renamed (call g args) k h t = elim h [ ]

    pub well_renamed : (k : ClockPairs) → EachClockVar SameClock k → WellFormed ds k → WellFormed ds' (under k)
    well_renamed [] h w = tt
    well_renamed ((c, b) ∷ k) h w = (h.0.0, h.0.1 ∙ ap under w.1, well_renamed k h.1 w.2)

-- no call is left
pub no_call : (P : ℕ → Type 0) (e : Expr) (g : ℕ) (args : Vec Expr Global) → e ≡ Call g args → EachCall P (shape e) → P g
no_call P e g args is c = (subst (EachCall P) (ap shape is ∙ shape-Call g args) c).0
