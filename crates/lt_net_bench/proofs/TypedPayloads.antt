-- What an instant puts into payloads keeps their types.
use Rattle.std.proofs.Common.{inl, inr, ◌≡◌, ℕ, zero, suc, ◌<◌, Bool, true, false, List, [], ◌∷◌, length, map, set, Some, refl, sym, ap, ◌∙◌, subst, arith}
use Rattle.std.specs.Prelude.{slice_index_or, ◌==◌}
use Rattle.std.specs.List.{slice_get}
use Rattle.std.proofs.lemmas.Bool.Decides.{eqb_tells}
use Rattle.std.proofs.lemmas.List.{get_or-set_same, get_or-set_other}
use Rattle.lt_base.specs.declared.value.Value.{Value}
use Rattle.lt_base.specs.declared.value.Cell.{Cell}
use Rattle.lt_base.specs.declared.value.Cell.TheVariants.{Absent, Here}
use Rattle.lt_base.specs.Value.{ty_of}
use Rattle.lt_place_reads.specs.declared.crossing.Crossing.{Crossing}
use Rattle.lt_place.specs.Layout.{no_crossing}
use Rattle.lt_net_node.specs.declared.route.Route.{Route}
use Rattle.lt_net_node.specs.Fed.{route_of}
use Rattle.lt_net_bench.specs.Routes.{put_cell, put_if, filled}
use Rattle.lt_net_bench.proofs.Filling.{filled-size}

set_type : (xs : List Value) (place : ℕ) (v : Value) → slice_get (map ty_of xs) place ≡ Some (ty_of v) → map ty_of (set xs place v) ≡ map ty_of xs
set_type [] place v h = refl
set_type (x ∷ xs) zero v h = let e : ty_of v ≡ ty_of x = cc in ap (λ t. t ∷ map ty_of xs) e
set_type (x ∷ xs) (suc place) v h = ap (λ ts. ty_of x ∷ ts) (set_type xs place v h)

put_types : (cell : Cell) (ch place : ℕ) (ps : List (List Value)) (k : ℕ) → ch < length ps → ((v : Value) → cell ≡ Here v → slice_get (map ty_of (slice_index_or ps ch [])) place ≡ Some (ty_of v)) →
    map ty_of (slice_index_or (put_cell cell ch place ps) k []) ≡ map ty_of (slice_index_or ps k [])
put_types Absent ch place ps k lt h = refl
put_types (Here v) ch place ps k lt h = elim (eqb_tells k ch) [
  | inl e ↦ subst (λ k. map ty_of (slice_index_or (set ps ch (set (slice_index_or ps ch []) place v)) k []) ≡ map ty_of (slice_index_or ps k [])) (sym e.1)
      (ap (map ty_of) (get_or-set_same ps ch _ [] lt) ∙ set_type (slice_index_or ps ch []) place v (h v refl))
  | inr e ↦ ap (map ty_of) (get_or-set_other ps ch k _ [] e.1)
]

put_if_types : (b : Bool) (outs : List Cell) (r : Route) (ps : List (List Value)) (k : ℕ) → (b ≡ true → r.channel < length ps) →
    (b ≡ true → (v : Value) → slice_index_or outs r.out Absent ≡ Here v → slice_get (map ty_of (slice_index_or ps r.channel [])) r.place ≡ Some (ty_of v)) →
    map ty_of (slice_index_or (put_if b outs r ps) k []) ≡ map ty_of (slice_index_or ps k [])
put_if_types true outs r ps k lt h = put_types (slice_index_or outs r.out Absent) r.channel r.place ps k (lt refl) (h refl)
put_if_types false outs r ps k lt h = refl

module _ (cross : List Crossing) (routes : List Route) (i : ℕ) (outs : List Cell) (ps : List (List Value)) where
  abbrev sender : ℕ → Bool
  sender c = (slice_index_or cross c no_crossing).from == i

  pub filled-types : (n : ℕ) → ((c : ℕ) → c < n → sender c ≡ true → (route_of routes c).channel < length ps) →
      ((c : ℕ) → c < n → sender c ≡ true → (v : Value) → slice_index_or outs (route_of routes c).out Absent ≡ Here v → slice_get (map ty_of (slice_index_or ps (route_of routes c).channel [])) (route_of routes c).place ≡ Some (ty_of v)) →
      (k : ℕ) → map ty_of (slice_index_or (filled cross routes i outs n ps) k []) ≡ map ty_of (slice_index_or ps k [])
  filled-types zero lt h k = refl
  filled-types (suc c) lt h k =
      let before = filled-types c (λ b bc. lt b (omega (arith, bc))) (λ b bc. h b (omega (arith, bc))) in
      put_if_types (sender c) outs (route_of routes c) (filled cross routes i outs c ps) k
      (λ on. subst (λ m. (route_of routes c).channel < m) (sym (filled-size cross routes i outs c ps)) (lt c (omega arith) on))
      (λ on v is. ap (λ ts. slice_get ts (route_of routes c).place) (before (route_of routes c).channel) ∙ h c (omega arith) on v is)
      ∙ before k
