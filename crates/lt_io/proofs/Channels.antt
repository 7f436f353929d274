-- Channels, one of which changes.
use Rattle.std.proofs.Common.{◌≡◌, ℕ, List, [], ◌∷◌, map, get_or, slice_set, refl, ◌∙◌, ap}
use Rattle.std.proofs.Math.ListN.{get_or-map}
use Rattle.std.proofs.Math.Seq.{map-set_same}
use Rattle.lt_base.specs.declared.value.Ty.{Ty}
use Rattle.lt_io.specs.ChannelState.{ChannelState, idle, kinds_of, waiting_at}

pub kinds_of_idle : (kinds : List (List Ty)) → kinds_of (map idle kinds) ≡ kinds
kinds_of_idle [] = refl
kinds_of_idle (kind ∷ kinds) = ap (λ ks. kind ∷ ks) (kinds_of_idle kinds)

pub waiting_idle : (kinds : List (List Ty)) (c : ℕ) → waiting_at (map idle kinds) c ≡ []
waiting_idle kinds c = ap (λ (s : ChannelState). s.waiting) (get_or-map idle kinds c [])

-- a channel with the same types in its place
pub kinds_same : (cs : List ChannelState) (i : ℕ) (c d : ChannelState) → c ≡ get_or cs i c → d.kind ≡ c.kind → kinds_of (slice_set cs i d) ≡ kinds_of cs
kinds_same cs i c d is same = map-set_same (λ (s : ChannelState). s.kind) cs i d c (same ∙ ap (λ (s : ChannelState). s.kind) is)
