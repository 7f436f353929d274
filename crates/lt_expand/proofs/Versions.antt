-- The versions that are made, one after the other.
use Rattle.std.proofs.Common.{◌≡◌, ◌≢◌, ℕ, suc, ◌<◌, Bool, true, false, List, [], ◌∷◌, length, set, get_or, Option, Some, None, refl, sym, ap, ◌∙◌, subst, arith, eqb-true}
use Rattle.std.specs.Prelude.{nat_eq}
use Rattle.std.proofs.lemmas.List.{get_or-set_same, get_or-set_other, length-set}
use Rattle.std.proofs.lemmas.Bool.Decides.{nat_tests}
use Rattle.lt_base.specs.Program.{Function}
use Rattle.lt_base.specs.Dependence.{has}
use Rattle.lt_base.proofs.Reading.{has_one}
use Rattle.lt_expand.specs.Copies.{function_or_none, expanded}
use Rattle.lt_expand.specs.Walk.{NestsWithin, made_of, IsMade, AreVersions, KeepsVersions}

some_version : (o : Option Function) (F : Function) → o ≡ Some F → o ≡ Some (function_or_none o)
some_version None F h = absurd (cc)
some_version (Some G) F h = refl

pub is_made : (versions : List (Option Function)) (g : ℕ) (F : Function) → made_of versions g ≡ Some F → IsMade versions g
is_made versions g F h = some_version (made_of versions g) F h

pub made_still : (before after : List (Option Function)) → KeepsVersions before after → (g : ℕ) → IsMade before g → IsMade after g
made_still before after k g m = is_made after g _ (k g _ m)

pub keeps_all : (versions : List (Option Function)) → KeepsVersions versions versions
keeps_all versions g F h = h

pub keeps_more : (a b c : List (Option Function)) → KeepsVersions a b → KeepsVersions b c → KeepsVersions a c
keeps_more a b c p q g F h = q g F (p g F h)

-- ---- one more

module _ (versions : List (Option Function)) (g : ℕ) (F : Function) (inside : g < length versions) where
  abbrev more : List (Option Function)
  more = set versions g (Some F)

  set_here : made_of more g ≡ Some F
  set_here = get_or-set_same versions g (Some F) None inside

  set_there : (h : ℕ) → nat_eq h g ≡ false → made_of more h ≡ made_of versions h
  set_there h t = get_or-set_other versions g h (Some F) None (not_same h g t)
    where
      not_same : (h g : ℕ) → nat_eq h g ≡ false → h ≢ g
      not_same h g t = grind (arith, nat_tests)

  pub set_made : IsMade more g
  set_made = is_made more g F set_here

  pub set_are : (fs : List Function) → AreVersions fs versions → ((n : ℕ) → NestsWithin fs n g → F ≡ expanded fs n g) → AreVersions fs more
  set_are fs a is = record {
    all = length-set versions g (Some F) ∙ a.all;
    are = λ h G e n w. go h G e n w (nat_eq h g) refl;
  }
    where
      go : (h : ℕ) (G : Function) → made_of more h ≡ Some G → (n : ℕ) → NestsWithin fs n h → (t : Bool) → nat_eq h g ≡ t → G ≡ expanded fs n h
      go h G e n w true t =
          let same : h ≡ g = eqb-true h g t in
          let own : made_of more h ≡ Some F = ap (made_of more) same ∙ set_here in
          let equal : F ≡ G = cc in
          sym equal ∙ is n (subst (NestsWithin fs n) same w) ∙ ap (expanded fs n) (sym same)
      go h G e n w false t = a.are h G (sym (set_there h t) ∙ e) n w

-- what was there before the called functions of a function were made is there after that, and after the function too
pub kept_over : (before between after : List (Option Function)) (g : ℕ) (F : Function) → g < length between → KeepsVersions before between → made_of before g ≡ None → after ≡ set between g (Some F) → KeepsVersions before after
kept_over before between after g F inside k none s h G e = go (nat_eq h g) refl
  where
    other : made_of before h ≡ None → ⊥
    other n = absurd (cc)

    go : (t : Bool) → nat_eq h g ≡ t → made_of after h ≡ Some G
    go true t = absurd (other (ap (made_of before) (eqb-true h g t) ∙ none))
    go false t = ap (λ v. made_of v h) s ∙ set_there between g F inside h t ∙ k h G e

-- ---- what the loop over the called functions has made

pub all_made : (versions : List (Option Function)) (hs : List ℕ) → ((k : ℕ) → k < length hs → IsMade versions (get_or hs k 0)) → (h : ℕ) → has h hs ≡ true → IsMade versions h
all_made versions [] m h e = absurd (cc)
all_made versions (x ∷ hs) m h e =
    has_one (IsMade versions) x hs h e (m 0 (omega arith)) (λ k. all_made versions hs (λ i l. m (suc i) (omega (arith, l))) h k)
