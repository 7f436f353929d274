-- The table of left sides, one more at a time.
use Rattle.std.proofs.Common.{◌≡◌, ℕ, ◌+◌, ◌<◌, Bool, true, false, ◌||◌, List, [], ◌∷◌, ◌++◌, length, get_or, take, map, refl, sym, ap, ◌∙◌, if◌then◌else◌}
use Rattle.std.specs.Str.{bytes_eq}
use Rattle.std.proofs.lemmas.List.{take_more, map-append}
use Rattle.lt_syntax.specs.Tree.{Tm}
use Rattle.lt_resolve.specs.Names.{Name, among}
use Rattle.lt_resolve.proofs.Distinct.{same_name, among_append}

or_false : (b : Bool) → (b || false) ≡ b
or_false true = refl
or_false false = refl

-- a name that is put last where it is not there
among_more : (old new : List Name) (y x : Name) → new ≡ (if among old y then old else old ++ y ∷ []) → among new x ≡ (among old x || among (y ∷ []) x)
among_more old new y x h = go (among old y) refl h
  where
    here : (c : Bool) → bytes_eq x y ≡ c → among old y ≡ true → among old x ≡ (among old x || (c || false))
    here true f e = let k : among old x ≡ true = ap (among old) (same_name x y f) ∙ e in k ∙ sym (ap (λ b. b || true) k)
    here false f e = sym (or_false (among old x))

    go : (b : Bool) → among old y ≡ b → new ≡ (if b then old else old ++ y ∷ []) → among new x ≡ (among old x || among (y ∷ []) x)
    go true e k = ap (λ l. among l x) k ∙ here (bytes_eq x y) refl e
    go false e k = ap (λ l. among l x) k ∙ among_append old (y ∷ []) x

pub left_more : (items : List (Name × Tm)) (i : ℕ) (q : Name × Tm) (old new : List Name) (y : Name) → i < length items → q ≡ get_or items i q → y ≡ q.0 → new ≡ (if among old y then old else old ++ y ∷ []) → ((x : Name) → among old x ≡ among (map (λ q. q.0) (take i items)) x)
    → (x : Name) → among new x ≡ among (map (λ q. q.0) (take (i + 1) items)) x
left_more items i q old new y l at same pushed h x =
    let f : Name × Tm → Name = λ q. q.0 in
    let whole : map f (take (i + 1) items) ≡ map f (take i items) ++ q.0 ∷ [] = ap (map f) (take_more items i q l ∙ ap (λ z. take i items ++ z ∷ []) (sym at)) ∙ map-append f (take i items) (q ∷ []) in
    among_more old new y x pushed
    ∙ (λ j. h x j || among (same j ∷ []) x)
    ∙ sym (ap (λ l. among l x) whole ∙ among_append (map f (take i items)) (q.0 ∷ []) x)
