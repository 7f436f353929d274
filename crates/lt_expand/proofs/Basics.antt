-- Facts of declarations, clocks and types that each part of the proof uses.
use Rattle.std.proofs.Common.{◌≡◌, ℕ, zero, suc, ◌<◌, ◌≤◌, true, false, List, [], ◌∷◌, length, All, Option, Some, None, refl, ap, ◌∙◌, arith}
use Rattle.std.specs.Option.{option_and_then}
use Rattle.std.proofs.lemmas.List.Elements.{All-nil, All-cons, All-head, All-tail}
use Rattle.lt_base.specs.declared.value.Ty.{Ty}
use Rattle.lt_base.specs.declared.value.Ty.TheVariants.{Int as IntTy, Bool as BoolTy}
use Rattle.lt_base.specs.declared.function.Decl.{Decl}
use Rattle.lt_base.specs.Expression.{Expression, literal, variable, unary, binary, imported, choose, sampled, merged, delayed, follow, arrow, call}
use Rattle.lt_base.specs.Program.{Function, VarsBelow}
use Rattle.lt_base.specs.Meaning.{ClockPairs, clock_of, right_of}
use Rattle.lt_base.specs.Equations.{EquationsIn}
use Rattle.lt_base.specs.Typing.{ty_at, both_types, under_bool}
use Rattle.lt_base.specs.Clocking.{WellFormed, Clocked}
use Rattle.lt_base.specs.Order.{EachClockVar}

-- ---- equations

pub all_equations : (P : ℕ → Expression → Type 0) (f : Function) (eqs : List (ℕ × Expression)) → EquationsIn f eqs → ((x : ℕ) (e : Expression) → right_of f.eqs x ≡ Some e → P x e) → All (λ q. P q.0 q.1) eqs
all_equations P f [] i h = All-nil (λ q. P q.0 q.1)
all_equations P f (q ∷ eqs) i h = All-cons (λ q. P q.0 q.1) q eqs (h q.0 q.1 i.0) (all_equations P f eqs i.1 h)

-- ---- clocks

pub declared_clock : (P : ClockPairs → Type 0) (ds : List Decl) → P [] → All (λ d. P d.clock) ds → (x : ℕ) → P (clock_of ds x)
declared_clock P [] base a x = base
declared_clock P (d ∷ ds) base a zero = All-head (λ d. P d.clock) d ds a
declared_clock P (d ∷ ds) base a (suc x) = declared_clock P ds base (All-tail (λ d. P d.clock) d ds a) x

pub each_clock_all : (P : ℕ → Type 0) (ck : ClockPairs) → EachClockVar P ck → All (λ p. P p.0) ck
each_clock_all P [] e = All-nil (λ p. P p.0)
each_clock_all P ((c, b) ∷ ck) e = All-cons (λ p. P p.0) (c, b) ck e.0 (each_clock_all P ck e.1)

pub all_each_clock : (P : ℕ → Type 0) (ck : ClockPairs) → All (λ p. P p.0) ck → EachClockVar P ck
all_each_clock P [] e = tt
all_each_clock P ((c, b) ∷ ck) e = (All-head (λ p. P p.0) (c, b) ck e, all_each_clock P ck (All-tail (λ p. P p.0) (c, b) ck e))

pub well_below : (ds : List Decl) (ck : ClockPairs) → WellFormed ds ck → EachClockVar (λ c. c < length ds) ck
well_below ds [] w = tt
well_below ds ((c, b) ∷ ck) w = (w.0, well_below ds ck w.2)

pub well_more : (f F : Function) → length f.decls ≤ length F.decls → ((x : ℕ) → x < length f.decls → clock_of F.decls x ≡ clock_of f.decls x) → (ck : ClockPairs) → WellFormed f.decls ck → WellFormed F.decls ck
well_more f F low kept [] w = tt
well_more f F low kept ((c, b) ∷ ck) w = (omega (arith, w.0, low), kept c w.0 ∙ w.1, well_more f F low kept ck w.2)

pub clocked_below : (ds : List Decl) (e : Expression) (ck : ClockPairs) → Clocked [] ds e ck → VarsBelow (length ds) e
clocked_below ds (literal v) ck k = tt
clocked_below ds (variable x) ck k = k.0
clocked_below ds (unary o a) ck k = clocked_below ds a ck k
clocked_below ds (binary o a b) ck k = (clocked_below ds a ck k.0, clocked_below ds b ck k.1)
clocked_below ds (imported o a b) ck k = (clocked_below ds a ck k.0, clocked_below ds b ck k.1)
clocked_below ds (choose c a b) ck k = (clocked_below ds c ck k.0, clocked_below ds a ck k.1, clocked_below ds b ck k.2)
clocked_below ds (sampled e c b) [] k = elim k [ ]
clocked_below ds (sampled e c b) ((d, a) ∷ ck) k = (clocked_below ds e ck k.2.2, k.2.0)
clocked_below ds (merged c a b) ck k = (k.0, clocked_below ds a ((c, true) ∷ ck) k.2, clocked_below ds b ((c, false) ∷ ck) k.3)
clocked_below ds (delayed v e) ck k = clocked_below ds e ck k
clocked_below ds (follow a b) ck k = (clocked_below ds a ck k.0, clocked_below ds b ck k.1)
clocked_below ds (arrow a b) ck k = (clocked_below ds a ck k.0, clocked_below ds b ck k.1)
clocked_below ds (call g args) ck k = elim k.0 [ ]

-- ---- types

abbrev pub HasOne : Option Ty → Type 0
HasOne u = (t : Ty) × (u ≡ Some t)

pub ty_there : (ds : List Decl) (x : ℕ) → x < length ds → (t : Ty) × (ty_at ds x ≡ Some t)
ty_there [] x h = absurd (omega arith)
ty_there (d ∷ ds) zero h = (d.ty, refl)
ty_there (d ∷ ds) (suc x) h = ty_there ds x (omega arith)

-- u' has u's type, where u has one
abbrev pub Has : Option Ty → Option Ty → Type 0
Has u u' = (t : Ty) → u ≡ Some t → u' ≡ Some t

pub both_has : (f : Ty → Ty → Option Ty) (u u' v v' : Option Ty) → Has u u' → Has v v' → Has (both_types f u v) (both_types f u' v')
both_has f None u' v v' p q t h = absurd (cc)
both_has f (Some a) u' None v' p q t h = absurd (cc)
both_has f (Some a) u' (Some b) v' p q t h = (λ i. both_types f (p a refl i) (q b refl i)) ∙ h

pub under_has : (u u' v v' : Option Ty) → Has u u' → Has v v' → Has (under_bool u v) (under_bool u' v')
under_has None u' v v' p q t h = absurd (cc)
under_has (Some IntTy) u' v v' p q t h = absurd (cc)
under_has (Some BoolTy) u' v v' p q t h = ap (λ z. under_bool z v') (p BoolTy refl) ∙ q t h

pub un_has : (f : Ty → Option Ty) (u u' : Option Ty) → Has u u' → Has (option_and_then f u) (option_and_then f u')
un_has f None u' p t h = absurd (cc)
un_has f (Some a) u' p t h = ap (option_and_then f) (p a refl) ∙ h
