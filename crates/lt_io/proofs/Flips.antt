-- Channels that change what they carry, one of which changes.
use Rattle.std.proofs.Common.{◌≡◌, ℕ, List, [], ◌∷◌, map, get_or, slice_set, refl, ◌∙◌, ap}
use Rattle.std.proofs.Math.ListN.{get_or-map}
use Rattle.std.proofs.Math.Seq.{map-set_same}
use Rattle.lt_base.specs.declared.value.Ty.{Ty}
use Rattle.lt_base.specs.declared.value.Value.{Value}
use Rattle.lt_base.specs.declared.value.Value.TheVariants.{Int, Bool}
use Rattle.lt_base.specs.Value.{ty_of}
use Rattle.lt_io.specs.FlipState.{FlipState, silent, flipped, flip_kinds, flip_at}

pub kinds_of_silent : (kinds : List (List Ty)) → flip_kinds (map silent kinds) ≡ kinds
kinds_of_silent [] = refl
kinds_of_silent (kind ∷ kinds) = ap (λ ks. kind ∷ ks) (kinds_of_silent kinds)

pub at_silent : (kinds : List (List Ty)) (c : ℕ) → flip_at (map silent kinds) c ≡ silent (get_or kinds c [])
at_silent kinds c = get_or-map silent kinds c []

-- a channel with the same types in its place
pub kinds_same : (cs : List FlipState) (i : ℕ) (c d : FlipState) → c ≡ get_or cs i c → d.kind ≡ c.kind → flip_kinds (slice_set cs i d) ≡ flip_kinds cs
kinds_same cs i c d is same = map-set_same (λ (s : FlipState). s.kind) cs i d c (same ∙ ap (λ (s : FlipState). s.kind) is)

-- a flipped value has the same type
pub types_flipped : (values : List Value) → map ty_of (map flipped values) ≡ map ty_of values
types_flipped [] = refl
types_flipped (Int n ∷ values) = ap (λ ts. ty_of (Int n) ∷ ts) (types_flipped values)
types_flipped (Bool b ∷ values) = ap (λ ts. ty_of (Bool b) ∷ ts) (types_flipped values)

-- the types on the channel of this number
pub kind_is : (cs : List FlipState) (c : ℕ) → get_or (flip_kinds cs) c [] ≡ (flip_at cs c).kind
kind_is cs c = get_or-map (λ (s : FlipState). s.kind) cs c (silent [])
