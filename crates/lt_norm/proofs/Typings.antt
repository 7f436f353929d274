-- The lifted form of a typed expression has its type.
use Rattle.std.proofs.Common.{◌≡◌, ℕ, ◌+◌, ◌<◌, true, false, [], ◌∷◌, ◌++◌, length, Option, Some, None, refl, ap, ◌∙◌}
use Rattle.std.specs.Option.{option_and_then}
use Rattle.lt_base.specs.declared.value.Ty.{Ty}
use Rattle.lt_base.specs.declared.value.Ty.TheVariants.{Int as IntTy, Bool as BoolTy}
use Rattle.lt_base.specs.Value.{ty_of}
use Rattle.lt_base.specs.Expression.{Expression, literal, variable, unary, binary, imported, choose, sampled, merged, delayed, follow, arrow, call}
use Rattle.lt_base.specs.Program.{Function, VarsBelow}
use Rattle.lt_base.specs.Meaning.{ClockPairs, outer}
use Rattle.lt_base.specs.Typing.{ty_at, un_type, bin_type, imported_type, shared_type, both_types, under_bool, type_of}
use Rattle.lt_norm.specs.Plain.{Simple}
use Rattle.lt_norm.specs.Lift.{delays, lifted, lifted_delays, right_lifted, right_fresh, Stand}
use Rattle.lt_norm.proofs.Told.{stand_left, stand_next}

-- u' has u's type, where u has one
abbrev pub Has : Option Ty → Option Ty → Type 0
Has u u' = (t : Ty) → u ≡ Some t → u' ≡ Some t

pub both_has : (f : Ty → Ty → Option Ty) (u u' v v' : Option Ty) → Has u u' → Has v v' → Has (both_types f u v) (both_types f u' v')
both_has f None u' v v' p q t h = absurd (cc)
both_has f (Some a) u' None v' p q t h = absurd (cc)
both_has f (Some a) u' (Some b) v' p q t h = (λ i. both_types f (p a refl i) (q b refl i)) ∙ h

pub under_has : (u u' v v' : Option Ty) → Has u u' → Has v v' → Has (under_bool u v) (under_bool u' v')
under_has None u' v v' p q t h = absurd (cc)
under_has (Some IntTy) u' v v' p q t h = absurd (cc)
under_has (Some BoolTy) u' v v' p q t h = ap (λ z. under_bool z v') (p BoolTy refl) ∙ q t h

pub un_has : (f : Ty → Option Ty) (u u' : Option Ty) → Has u u' → Has (option_and_then f u) (option_and_then f u')
un_has f None u' p t h = absurd (cc)
un_has f (Some a) u' p t h = ap (option_and_then f) (p a refl) ∙ h

pub shared_left : (a : Ty) (u : Option Ty) (t : Ty) → both_types shared_type (Some a) u ≡ Some t → ◌≡◌ {A = Option Ty} (Some a) (Some t)
shared_left a None t h = absurd (cc)
shared_left IntTy (Some IntTy) t h = h
shared_left BoolTy (Some BoolTy) t h = h
shared_left IntTy (Some BoolTy) t h = absurd (cc)
shared_left BoolTy (Some IntTy) t h = absurd (cc)

-- two parts that share a type have it both
pub shared_both : (u v : Option Ty) (t : Ty) → both_types shared_type u v ≡ Some t → (u ≡ Some t) × (v ≡ Some t)
shared_both None v t h = absurd (cc)
shared_both (Some a) None t h = absurd (cc)
shared_both (Some IntTy) (Some IntTy) t h = (h, h)
shared_both (Some BoolTy) (Some BoolTy) t h = (h, h)
shared_both (Some IntTy) (Some BoolTy) t h = absurd (cc)
shared_both (Some BoolTy) (Some IntTy) t h = absurd (cc)

pub shared_same : (t : Ty) → both_types shared_type (Some t) (Some t) ≡ Some t
shared_same IntTy = refl
shared_same BoolTy = refl

module _ (f F : Function) (kept : (x : ℕ) → x < length f.decls → ty_at F.decls x ≡ ty_at f.decls x) where
  var_has : (x : ℕ) → x < length f.decls → Has (ty_at f.decls x) (ty_at F.decls x)
  var_has x l t h = kept x l ∙ h

  pub lifted_typed : (e : Expression) (n : ℕ) (ck : ClockPairs) → Simple e → VarsBelow (length f.decls) e → Stand F n (lifted_delays n ck e) → Has (type_of [] f.decls e) (type_of [] F.decls (lifted n e))
  lifted_typed (literal v) n ck c b s t h = h
  lifted_typed (variable x) n ck c b s t h = var_has x b t h
  lifted_typed (unary o a) n ck c b s t h = un_has (un_type o) (type_of [] f.decls a) (type_of [] F.decls (lifted n a)) (lifted_typed a n ck c b s) t h
  lifted_typed (binary o x y) n ck c b s t h =
      both_has (bin_type o) (type_of [] f.decls x) (type_of [] F.decls (lifted n x)) (type_of [] f.decls y) (type_of [] F.decls (lifted (n + delays x) y)) (lifted_typed x n ck c.0 b.0 (stand_left F n (lifted_delays n ck x) _ s)) (lifted_typed y (n + delays x) ck c.1 b.1 (stand_next F n ck x _ s)) t h
  lifted_typed (imported o x y) n ck c b s t h =
      both_has imported_type (type_of [] f.decls x) (type_of [] F.decls (lifted n x)) (type_of [] f.decls y) (type_of [] F.decls (lifted (n + delays x) y)) (lifted_typed x n ck c.0 b.0 (stand_left F n (lifted_delays n ck x) _ s)) (lifted_typed y (n + delays x) ck c.1 b.1 (stand_next F n ck x _ s)) t h
  lifted_typed (choose d x y) n ck c b s t h =
      let s' = stand_next F n ck d (lifted_delays (n + delays d) ck x ++ lifted_delays ((n + delays d) + delays x) ck y) s in
      under_has (type_of [] f.decls d) (type_of [] F.decls (lifted n d)) (both_types shared_type (type_of [] f.decls x) (type_of [] f.decls y)) (both_types shared_type (type_of [] F.decls (lifted (n + delays d) x)) (type_of [] F.decls (lifted ((n + delays d) + delays x) y))) (lifted_typed d n ck c.0 b.0 (stand_left F n (lifted_delays n ck d) (lifted_delays (n + delays d) ck x ++ lifted_delays ((n + delays d) + delays x) ck y) s)) (both_has shared_type (type_of [] f.decls x) (type_of [] F.decls (lifted (n + delays d) x)) (type_of [] f.decls y) (type_of [] F.decls (lifted ((n + delays d) + delays x) y)) (lifted_typed x (n + delays d) ck c.1 b.1 (stand_left F (n + delays d) (lifted_delays (n + delays d) ck x) (lifted_delays ((n + delays d) + delays x) ck y) s')) (lifted_typed y ((n + delays d) + delays x) ck c.2 b.2 (stand_next F (n + delays d) ck x (lifted_delays ((n + delays d) + delays x) ck y) s'))) t h
  lifted_typed (sampled e x p) n ck c b s t h = under_has (ty_at f.decls x) (ty_at F.decls x) (type_of [] f.decls e) (type_of [] F.decls (lifted n e)) (var_has x b.1) (lifted_typed e n (outer ck) c b.0 s) t h
  lifted_typed (merged d x y) n ck c b s t h =
      under_has (ty_at f.decls d) (ty_at F.decls d) (both_types shared_type (type_of [] f.decls x) (type_of [] f.decls y)) (both_types shared_type (type_of [] F.decls (lifted n x)) (type_of [] F.decls (lifted (n + delays x) y))) (var_has d b.0) (both_has shared_type (type_of [] f.decls x) (type_of [] F.decls (lifted n x)) (type_of [] f.decls y) (type_of [] F.decls (lifted (n + delays x) y)) (lifted_typed x n ((d, true) ∷ ck) c.0 b.1 (stand_left F n (lifted_delays n ((d, true) ∷ ck) x) _ s)) (lifted_typed y (n + delays x) ((d, false) ∷ ck) c.1 b.2 (stand_next F n ((d, true) ∷ ck) x _ s))) t h
  lifted_typed (delayed v e) n ck c b s t h =
      let r = stand_next F n ck e _ s in
      r.2 ∙ shared_left (ty_of v) (type_of [] f.decls e) t h
  lifted_typed (follow x y) n ck c b s t h = elim c [ ]
  lifted_typed (arrow x y) n ck c b s t h = elim c [ ]
  lifted_typed (call g args) n ck c b s t h = elim c [ ]

  pub right_typed : (e : Expression) (n : ℕ) (ck : ClockPairs) → Simple e → VarsBelow (length f.decls) e → Stand F n (right_fresh n ck e) → Has (type_of [] f.decls e) (type_of [] F.decls (right_lifted n e))
  right_typed (delayed v e) n ck c b s t h =
      both_has shared_type (Some (ty_of v)) (Some (ty_of v)) (type_of [] f.decls e) (type_of [] F.decls (lifted n e)) (λ t h. h) (lifted_typed e n ck c b s) t h
  right_typed (literal v) n ck c b s t h = h
  right_typed (variable x) n ck c b s t h = var_has x b t h
  right_typed (unary o a) n ck c b s t h = lifted_typed (unary o a) n ck c b s t h
  right_typed (binary o x y) n ck c b s t h = lifted_typed (binary o x y) n ck c b s t h
  right_typed (imported o x y) n ck c b s t h = lifted_typed (imported o x y) n ck c b s t h
  right_typed (choose d x y) n ck c b s t h = lifted_typed (choose d x y) n ck c b s t h
  right_typed (sampled e x p) n ck c b s t h = lifted_typed (sampled e x p) n ck c b s t h
  right_typed (merged d x y) n ck c b s t h = lifted_typed (merged d x y) n ck c b s t h
  right_typed (follow x y) n ck c b s t h = elim c [ ]
  right_typed (arrow x y) n ck c b s t h = elim c [ ]
  right_typed (call g args) n ck c b s t h = elim c [ ]
