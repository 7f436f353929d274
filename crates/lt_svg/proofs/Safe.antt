-- Escaped texts have nothing but harmless bytes and entities.
use Rattle.std.proofs.Common.{◌≡◌, ◌==◌, ℕ, ◌++◌, ◌&&◌, Bool, true, false, List, [], ◌∷◌, codes, nat_lt, if◌then◌else◌, refl, ap, ◌∙◌}
use Rattle.std.specs.List.{flat_map, list_all}
use Rattle.std.proofs.lemmas.List.Folds.{list_all-append}
use Rattle.lt_svg.specs.Pieces.{safe_byte, escaped, is_harmless, entities_alone, EscapedIsSafe}

-- a byte as it is written, by what was tested of it
abbrev pick : (c : ℕ) (amp opens closes ends low : Bool) → List ℕ
pick c amp opens closes ends low =
    if amp then codes "&amp;" else if opens then codes "&lt;" else if closes then codes "&gt;" else if ends then codes "&quot;" else if low then codes "?" else c ∷ []

picked_harmless : (c : ℕ) (amp opens closes ends low : Bool) → (c == 60) ≡ opens → (c == 62) ≡ closes → (c == 34) ≡ ends → nat_lt c 32 ≡ low
    → list_all is_harmless (pick c amp opens closes ends low) ≡ true
picked_harmless c true opens closes ends low o s e l = refl
picked_harmless c false true closes ends low o s e l = refl
picked_harmless c false false true ends low o s e l = refl
picked_harmless c false false false true low o s e l = refl
picked_harmless c false false false false true o s e l = refl
picked_harmless c false false false false false o s e l = simp (l, o, s, e) refl

picked_entity : (c : ℕ) (rest : List ℕ) (amp opens closes ends low : Bool) → (c == 38) ≡ amp → entities_alone (pick c amp opens closes ends low ++ rest) ≡ entities_alone rest
picked_entity c rest true opens closes ends low a = refl
picked_entity c rest false true closes ends low a = refl
picked_entity c rest false false true ends low a = refl
picked_entity c rest false false false true low a = refl
picked_entity c rest false false false false true a = refl
picked_entity c rest false false false false false a = rw a refl

all_harmless : (text : List ℕ) → list_all is_harmless (flat_map safe_byte text) ≡ true
all_harmless [] = refl
all_harmless (c ∷ cs) =
    list_all-append is_harmless (safe_byte c) (flat_map safe_byte cs)
    ∙ (λ i. picked_harmless c (c == 38) (c == 60) (c == 62) (c == 34) (nat_lt c 32) refl refl refl refl i && all_harmless cs i)

all_entities : (text : List ℕ) → entities_alone (flat_map safe_byte text) ≡ true
all_entities [] = refl
all_entities (c ∷ cs) = picked_entity c (flat_map safe_byte cs) (c == 38) (c == 60) (c == 62) (c == 34) (nat_lt c 32) refl ∙ all_entities cs

pub law : EscapedIsSafe
unfolding escaped
law text = (all_harmless text, all_entities text)
