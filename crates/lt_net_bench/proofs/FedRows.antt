-- The entries of a row, and their types.
use Rattle.std.proofs.Common.{◌≡◌, ℕ, zero, suc, ◌<◌, true, List, [], ◌∷◌, length, map, filter, take, Some, refl, ap, ◌∙◌, arith, eq-eqb}
use Rattle.std.specs.Prelude.{slice_index_or, ◌==◌, ◌&&◌, if◌then◌else◌}
use Rattle.std.specs.List.{slice_get, count_by}
use Rattle.std.proofs.lemmas.Option.{slice_get-get_or}
use Rattle.lt_base.specs.declared.value.Value.{Value}
use Rattle.lt_base.specs.declared.value.Ty.{Ty}
use Rattle.lt_base.specs.declared.function.Decl.{Decl}
use Rattle.lt_base.specs.Value.{ty_of}
use Rattle.lt_base.specs.Typing.{ty_at, RowFits}
use Rattle.lt_arch.specs.declared.shape.Shape.{Shape}
use Rattle.lt_arch.specs.Readers.{from_of, to_of}
use Rattle.lt_place_reads.specs.declared.crossing.Crossing.{Crossing}
use Rattle.lt_place.specs.declared.layout.Layout.{Layout}
use Rattle.lt_place.specs.Layout.{crossing_of, no_crossing}
use Rattle.lt_net_node.specs.Layout.{joins, crossing_place}
use Rattle.lt_net_node.specs.Payloads.{channel_between, types_for}
use Rattle.lt_net_node.specs.Channels.{HasChannels}
use Rattle.lt_net_bench.proofs.CrossingPlaces.{place_entry}

pub map_same : {A B : Type 0} (f g : A → B) (xs : List A) → ((x : ℕ) (d : A) → slice_get xs x ≡ Some d → f d ≡ g d) → map f xs ≡ map g xs
map_same f g [] h = refl
map_same f g (x ∷ xs) h = let a = h 0 x refl in let b = map_same f g xs (λ k d e. h (suc k) d e) in λ i. a i ∷ b i

pub map_entry : {A B : Type 0} (f : A → B) (xs : List A) (x : ℕ) (v : B) → slice_get (map f xs) x ≡ Some v → (d : A) × (slice_get xs x ≡ Some d) × (f d ≡ v)
map_entry f [] x v h = absurd (cc)
map_entry f (d ∷ xs) zero v h = (d, refl, cc)
map_entry f (d ∷ xs) (suc x) v h = map_entry f xs x v h

pub types_at : (ds : List Decl) (n x : ℕ) (t : Ty) → slice_get (map (λ (d : Decl). d.ty) (take n ds)) x ≡ Some t → ty_at ds x ≡ Some t
types_at [] zero x t h = absurd (cc)
types_at [] (suc n) x t h = absurd (cc)
types_at (d ∷ ds) zero x t h = absurd (cc)
types_at (d ∷ ds) (suc n) zero t h = h
types_at (d ∷ ds) (suc n) (suc x) t h = types_at ds n x t h

pub row_fits : (ts : List Ty) (vs : List Value) → length ts ≡ length vs → ((x : ℕ) (t : Ty) (v : Value) → slice_get ts x ≡ Some t → slice_get vs x ≡ Some v → ty_of v ≡ t) → RowFits ts (map Some vs)
row_fits [] [] same h = tt
row_fits [] (v ∷ vs) same h = absurd (omega (arith, same))
row_fits (t ∷ ts) [] same h = absurd (omega (arith, same))
row_fits (t ∷ ts) (v ∷ vs) same h = (h 0 t v refl refl, row_fits ts vs (omega (arith, same)) (λ x u w a b. h (suc x) u w a b))

same_number : (i : ℕ) → (i == i) ≡ true
same_number i = eq-eqb i i refl

-- the type of a crossing's place in the payloads of its channel
pub type_entry : (l : Layout) (s : Shape) (channels : HasChannels l s) (c : ℕ) → c < length l.cross →
    slice_get (types_for l s (channel_between s (crossing_of l c).from (crossing_of l c).to)) (crossing_place l c) ≡ Some (ty_of (crossing_of l c).first)
unfolding crossing_of crossing_place
type_entry l s channels c lt =
    let cr = slice_index_or l.cross c no_crossing in
    let ch = channel_between s cr.from cr.to in
    let fits : joins cr.from cr.to cr ≡ true = ap (λ b. b && (cr.to == cr.to)) (same_number cr.from) ∙ same_number cr.to in
    let entry = place_entry (joins cr.from cr.to) (λ (z : Crossing). ty_of z.first) l.cross c cr (slice_get-get_or l.cross c no_crossing lt) fits in
    let is : types_for l s ch ≡ map (λ (z : Crossing). ty_of z.first) (filter (joins cr.from cr.to) l.cross) =
    ap (λ b. if b then map (λ (z : Crossing). ty_of z.first) (filter (joins (from_of s ch) (to_of s ch)) l.cross) else []) (channels.carries c lt)
    ∙ (λ i. map (λ (z : Crossing). ty_of z.first) (filter (joins (channels.from c lt i) (channels.to c lt i)) l.cross)) in
    ap (λ ts. slice_get ts (count_by (joins cr.from cr.to) (take c l.cross))) is ∙ entry
