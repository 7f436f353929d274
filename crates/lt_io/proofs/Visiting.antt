-- Visits of files, one after another.
use Rattle.std.proofs.Common.{◌≡◌, ◌≤◌, ◌+◌, ◌++◌, ℕ, Bool, true, false, List, [], ◌∷◌, refl, sym, ap, ◌∙◌, subst, arith, inl, inr}
use Rattle.lt_io.specs.Visits.{Visit, Errand, Visited, opened, took, taken_of, unread}

-- a read changes the last visit alone
pub unread_took : (n : ℕ) (vs : List Visit) → unread (took n vs) ≡ unread vs
unread_took n [] = refl
unread_took n (v ∷ vs) = refl

pub took_most : (n : ℕ) (vs : List Visit) → taken_of (took n vs) ≤ taken_of vs + n
took_most n [] = omega arith
took_most n (v ∷ vs) = omega arith

-- no visits
pub visited_none : (vs : List Visit) (done : Bool) → Visited [] vs vs done
unfolding Visited
visited_none vs done = refl

-- it was stopped at once
pub unvisited : (es : List Errand) (vs : List Visit) → Visited es vs vs false
unfolding Visited
unvisited [] vs = refl
unvisited (e ∷ es) vs = inl (refl, refl)

-- with so many bytes of the last file read
abbrev with_taken : ℕ → List Visit → List Visit
with_taken n [] = []
with_taken n (v ∷ vs) = record { name = v.name; taken = n } ∷ vs

-- one file was opened, and read
pub visited_one : (e : Errand) (old mid new : List Visit) → mid ≡ opened e.name old → unread new ≡ unread mid → taken_of new ≤ e.most → (done : Bool) → Visited (e ∷ []) old new done
unfolding Visited
visited_one e old mid [] begun same few done = let wrong : [] ≡ opened e.name old = same ∙ ap unread begun in absurd cc
visited_one e old mid (v ∷ vs) begun same few done =
    let is : unread (v ∷ vs) ≡ opened e.name old = same ∙ ap unread begun in
    let now : v ∷ vs ≡ record { name = e.name; taken = v.taken } ∷ old = ap (λ (ws : List Visit). with_taken v.taken ws) is in
    inr (v.taken, few, now)

-- one step, and then another
pub visited_then : (es fs : List Errand) (a b c : List Visit) (done : Bool) → Visited es a b true → Visited fs b c done → Visited (es ++ fs) a c done
unfolding Visited
visited_then [] fs a b c done first second = subst (λ (vs : List Visit). Visited fs vs c done) first second
visited_then (e ∷ es) fs a b c done (inl first) second = let wrong : true ≡ false = first.0 in absurd cc
visited_then (e ∷ es) fs a b c done (inr first) second = inr (first.0, first.1, visited_then es fs (record { name = e.name; taken = first.0 } ∷ a) b c done first.2 second)

-- the first step was refused
pub visited_stop : (es fs : List Errand) (a b : List Visit) → Visited es a b false → Visited (es ++ fs) a b false
unfolding Visited
visited_stop [] fs a b first = subst (λ (vs : List Visit). Visited fs a vs false) (sym first) (unvisited fs a)
visited_stop (e ∷ es) fs a b (inl first) = inl first
visited_stop (e ∷ es) fs a b (inr first) = inr (first.0, first.1, visited_stop es fs (record { name = e.name; taken = first.0 } ∷ a) b first.2)

-- a step that was done, of which no more is said than that it may have been
pub visited_any : (es : List Errand) (a b : List Visit) (done : Bool) → Visited es a b true → Visited es a b done
unfolding Visited
visited_any [] a b done whole = whole
visited_any (e ∷ es) a b done (inl first) = let wrong : true ≡ false = first.0 in absurd cc
visited_any (e ∷ es) a b done (inr first) = inr (first.0, first.1, visited_any es (record { name = e.name; taken = first.0 } ∷ a) b done first.2)
