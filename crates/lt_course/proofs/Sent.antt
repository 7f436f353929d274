-- The oldest message in transit, and a list without its last item.
use Rattle.std.proofs.Common.{◌≡◌, ◌∙◌, ℕ, zero, suc, List, [], ◌∷◌, ◌++◌, slice_index_or, Option, Some, None, refl, sym}
use Rattle.std.specs.Prelude.{IsSome, option_to_list, slice_get}
use Rattle.lt_course.specs.Strokes.{first_sent_or}

pub first_some : (none sent : ℕ) (sends : List ℕ) → Some sent ≡ slice_get sends 0 → sent ≡ first_sent_or none sends
first_some none sent [] is = cc
first_some none sent (x ∷ later) is = cc

pub first_none : (none : ℕ) (sends : List ℕ) → None ≡ slice_get sends 0 → none ≡ first_sent_or none sends
first_none none [] is = refl
first_none none (x ∷ later) is = cc

not_pushed : (xs : List ℕ) (x : ℕ) → [] ≡ xs ++ x ∷ [] → ⊥
not_pushed [] x is = cc
not_pushed (a ∷ xs) x is = cc

same_front : (xs ys : List ℕ) (x y : ℕ) → xs ++ x ∷ [] ≡ ys ++ y ∷ [] → xs ≡ ys
same_front [] [] x y is = refl
same_front [] (b ∷ ys) x y is = let rest : [] ≡ ys ++ y ∷ [] = cc in absurd (not_pushed ys y rest)
same_front (a ∷ xs) [] x y is = let rest : xs ++ x ∷ [] ≡ [] = cc in absurd (not_pushed xs x (sym rest))
same_front (a ∷ xs) (b ∷ ys) x y is = let head : a ≡ b = cc in let rest : xs ++ x ∷ [] ≡ ys ++ y ∷ [] = cc in λ i. head i ∷ same_front xs ys x y rest i

-- without its last byte
pub popped : (row front text : List ℕ) (last : ℕ) (o : Option ℕ) → row ≡ front ++ option_to_list o → IsSome o → row ≡ text ++ last ∷ [] → front ≡ text
popped row front text last None is some whole = cc
popped row front text last (Some x) is some whole = same_front front text x last (sym is ∙ whole)

-- the message at a place

pub got_some : (sends : List ℕ) (place sent : ℕ) → Some sent ≡ slice_get sends place → sent ≡ slice_index_or sends place 0
got_some [] zero sent is = cc
got_some [] (suc p) sent is = cc
got_some (x ∷ later) zero sent is = cc
got_some (x ∷ later) (suc p) sent is = got_some later p sent is

pub got_none : (sends : List ℕ) (place : ℕ) → None ≡ slice_get sends place → 0 ≡ slice_index_or sends place 0
got_none [] zero is = refl
got_none [] (suc p) is = refl
got_none (x ∷ later) zero is = cc
got_none (x ∷ later) (suc p) is = got_none later p is
