-- Clocks as lists of steps, and the table of links.
use Rattle.std.proofs.Common.{◌≡◌, ◌≢◌, ℕ, zero, suc, ◌+◌, ◌<◌, ◌≤◌, Bool, true, false, List, [], ◌∷◌, ◌++◌, length, get_or, take, reverse, Some, None, refl, sym, ap, ◌∙◌, subst, arith, Bor, below_more}
use Rattle.std.specs.Prelude.{MatchBool}
use Rattle.std.specs.Slice.{IsItemAt}
use Rattle.std.proofs.lemmas.List.{take_all, take_more, reverse-append, reverse-reverse, get_or_append_left, get_or_push}
use Rattle.lt_base.specs.declared.function.Decl.{Decl}
use Rattle.lt_base.specs.Meaning.{ClockPairs, clock_of}
use Rattle.lt_base.specs.Clocking.{WellFormed}
use Rattle.lt_check.specs.Innermost.{innermost, Linked}
use Rattle.lt_check.proofs.Found.{clock_of_is}

pub clock_past : (ds : List Decl) (x : ℕ) → length ds ≤ x → clock_of ds x ≡ []
clock_past [] x l = refl
clock_past (d ∷ ds) zero l = absurd (omega arith)
clock_past (d ∷ ds) (suc x) l = clock_past ds x (omega arith)

-- a declaration that was looked up
pub clock_found : (ds items : List Decl) (x : ℕ) (d : Bor Decl) → items ≡ ds → IsItemAt items x (Some d) → d.now.clock ≡ clock_of ds x
clock_found ds items x d e h = ap (λ (d : Decl). d.clock) h.1 ∙ sym (clock_of_is items x d.now h.3.0) ∙ ap (λ l. clock_of l x) e

pub clock_missing : (ds items : List Decl) (x : ℕ) → items ≡ ds → IsItemAt {X = Decl} items x None → [] ≡ clock_of ds x
clock_missing ds items x e h = sym (clock_past items x h.3) ∙ ap (λ l. clock_of l x) e

-- ---- steps, outermost first

pub reverse_last : (steps : List (ℕ × Bool)) (n : ℕ) (d : ℕ × Bool) → length steps ≡ n + 1 → reverse steps ≡ get_or steps n d ∷ reverse (take n steps)
reverse_last steps n d l =
    let whole : steps ≡ take n steps ++ get_or steps n d ∷ [] = sym (take_all (n + 1) steps (omega (arith, l))) ∙ take_more steps n d (omega (arith, l)) in
    ap reverse whole ∙ reverse-append (take n steps) (get_or steps n d ∷ [])

pub same_reversed : (a b : List (ℕ × Bool)) → reverse a ≡ reverse b → a ≡ b
same_reversed a b h = sym (reverse-reverse a) ∙ ap reverse h ∙ reverse-reverse b

-- the steps before the last one against the declared clock of the last one's variable
module _ (ds : List Decl) (ck : ClockPairs) (steps : List (ℕ × Bool)) (n : ℕ) (d : ℕ × Bool) (size : length steps ≡ n + 1) (is : reverse steps ≡ ck) where
  ends : get_or steps n d ∷ reverse (take n steps) ≡ ck
  ends = sym (reverse_last steps n d size) ∙ is

  pub linked_by : (r : Bool) (other : ClockPairs) → (get_or steps n d).0 < length ds → other ≡ clock_of ds ((get_or steps n d).0) → MatchBool r (other ≡ reverse (take n steps)) (other ≢ reverse (take n steps))
      → MatchBool r (Linked ds ck) (Linked ds ck → ⊥)
  linked_by true other l declared h = subst (Linked ds) ends (l, sym declared ∙ h)
  linked_by false other l declared h = λ k. let k' : Linked ds (get_or steps n d ∷ reverse (take n steps)) = subst (Linked ds) (sym ends) k in h (declared ∙ k'.1)

  pub unlinked_by : length ds ≤ (get_or steps n d).0 → Linked ds ck → ⊥
  unlinked_by l k = let k' : Linked ds (get_or steps n d ∷ reverse (take n steps)) = subst (Linked ds) (sym ends) k in let h = k'.0 in omega (arith, l, h)

-- ---- the table of links

pub tells_more : (ds : List Decl) (table : List Bool) (i : ℕ) (b : Bool) → length table ≡ i → MatchBool b (Linked ds (clock_of ds i)) (Linked ds (clock_of ds i) → ⊥)
    → ((x : ℕ) → x < i → MatchBool (get_or table x false) (Linked ds (clock_of ds x)) (Linked ds (clock_of ds x) → ⊥))
    → (x : ℕ) → x < i + 1 → MatchBool (get_or (table ++ b ∷ []) x false) (Linked ds (clock_of ds x)) (Linked ds (clock_of ds x) → ⊥)
tells_more ds table i b size here before =
    let P : ℕ → Type 0 = λ x. MatchBool (get_or (table ++ b ∷ []) x false) (Linked ds (clock_of ds x)) (Linked ds (clock_of ds x) → ⊥) in
    below_more P i
    (λ x l. subst (λ v. MatchBool v (Linked ds (clock_of ds x)) (Linked ds (clock_of ds x) → ⊥)) (sym (get_or_append_left table (b ∷ []) false x (omega (arith, size, l)))) (before x l))
    (subst (λ v. MatchBool v (Linked ds (clock_of ds i)) (Linked ds (clock_of ds i) → ⊥)) (sym (get_or_push table b false i size)) here)

-- ---- going outwards along a linked clock

module _ (ds : List Decl) (x c : ℕ) (b : Bool) (linked : Linked ds (clock_of ds x)) (inner : innermost (clock_of ds x) ≡ Some (c, b)) where
  outwards_by : (ck : ClockPairs) → Linked ds ck → innermost ck ≡ Some (c, b) → (c < length ds) × (ck ≡ (c, b) ∷ clock_of ds c)
  outwards_by [] l h = absurd (cc)
  outwards_by ((d, a) ∷ ck) l h =
      let pair : ◌≡◌ {A = ℕ × Bool} (d, a) (c, b) = cc in
      let var : d ≡ c = ap (λ (p : ℕ × Bool). p.0) pair in
      (subst (λ k. k < length ds) var l.0, (λ i. pair i ∷ (sym l.1 ∙ ap (clock_of ds) var) i))

  outwards : (c < length ds) × (clock_of ds x ≡ (c, b) ∷ clock_of ds c)
  outwards = outwards_by (clock_of ds x) linked inner

  pub outer_inside : c < length ds
  outer_inside = outwards.0

  pub outer_shorter : length (clock_of ds c) < length (clock_of ds x)
  outer_shorter = let l = ap length outwards.1 in omega (arith, l)

  pub outer_good : WellFormed ds (clock_of ds c) → WellFormed ds (clock_of ds x)
  outer_good w = subst (WellFormed ds) (sym outwards.1) (outwards.0, refl, w)

  pub inner_good : WellFormed ds (clock_of ds x) → WellFormed ds (clock_of ds c)
  inner_good w = let w' : WellFormed ds ((c, b) ∷ clock_of ds c) = subst (WellFormed ds) outwards.1 w in w'.2

-- a well-formed clock is linked
pub good_linked : (ds : List Decl) (ck : ClockPairs) → WellFormed ds ck → Linked ds ck
good_linked ds [] w = tt
good_linked ds (p ∷ ck) w = (w.0, w.1)

-- a base clock is well formed
pub base_good : (ds : List Decl) (ck : ClockPairs) → innermost ck ≡ None → WellFormed ds ck
base_good ds [] h = tt
base_good ds (p ∷ ck) h = absurd (cc)
