-- What the equations of a function, and the functions of a tree, use: one more at a time.
use Rattle.std.proofs.Common.{◌≡◌, ℕ, ◌+◌, ◌-◌, ◌^◌, ◌<◌, min, List, [], ◌∷◌, ◌++◌, length, get_or, take, drop, map, refl, sym, ap, ◌∙◌, arith, add-one, drop-cons}
use Rattle.std.specs.List.{sum_by}
use Rattle.std.proofs.lemmas.List.{append_assoc, map-append, take_more}
use Rattle.std.proofs.lemmas.List.Sums.{sum_by-append, sum_by-cons}
use Rattle.lt_syntax.specs.declared.tree.NodeText.{NodeText}
use Rattle.lt_syntax.specs.Tree.{Tm}
use Rattle.lt_resolve.specs.Names.{Name}
use Rattle.lt_resolve.specs.Uses.{Site, sites_in, equation_sites, sites_from, term_delays, all_delays}

module _ (funcs : List Name) where
  at_equation : (i : ℕ) (items : List (Name × Tm)) (k : ℕ) (q : Name × Tm) → k < length items → q ≡ get_or items k q → equation_sites funcs i (drop k items) ≡ sites_in funcs i q.1 ++ equation_sites funcs i (drop (k + 1) items)
  at_equation i items k q l e =
      ap (equation_sites funcs i) (drop-cons items k q l)
      ∙ (λ j. sites_in funcs i (sym e j).1 ++ equation_sites funcs i (drop (sym (add-one k) j) items))

  -- the calls of one more equation
  pub more_sites : (i : ℕ) (items : List (Name × Tm)) (k : ℕ) (q : Name × Tm) (old mid new : List Site) → k < length items → q ≡ get_or items k q → mid ++ equation_sites funcs i (drop k items) ≡ old ++ equation_sites funcs i items → new ≡ mid ++ sites_in funcs i q.1 → new ++ equation_sites funcs i (drop (k + 1) items) ≡ old ++ equation_sites funcs i items
  more_sites i items k q old mid new l e h p =
      let later = equation_sites funcs i (drop (k + 1) items) in
      ap (λ z. z ++ later) p ∙ append_assoc mid (sites_in funcs i q.1) later ∙ ap (λ z. mid ++ z) (sym (at_equation i items k q l e)) ∙ h

  at_function : (t : List NodeText) (i : ℕ) (n : NodeText) → i < length t → n ≡ get_or t i n → sites_from funcs i (drop i t) ≡ equation_sites funcs i n.eqs ++ sites_from funcs (i + 1) (drop (i + 1) t)
  at_function t i n l e =
      ap (sites_from funcs i) (drop-cons t i n l)
      ∙ (λ j. equation_sites funcs i (sym e j).eqs ++ sites_from funcs (i + 1) (drop (sym (add-one i) j) t))

  -- the calls of one more function
  pub more_calls : (t : List NodeText) (i : ℕ) (n : NodeText) (all mid new : List Site) → i < length t → n ≡ get_or t i n → mid ++ sites_from funcs i (drop i t) ≡ all → new ≡ mid ++ equation_sites funcs i n.eqs → new ++ sites_from funcs (i + 1) (drop (i + 1) t) ≡ all
  more_calls t i n all mid new l e h p =
      let later = sites_from funcs (i + 1) (drop (i + 1) t) in
      ap (λ z. z ++ later) p ∙ append_assoc mid (equation_sites funcs i n.eqs) later ∙ ap (λ z. mid ++ z) (sym (at_function t i n l e)) ∙ h

-- the delays of one more equation
pub more_delays : (items : List (Name × Tm)) (k : ℕ) (q : Name × Tm) (sum d new : ℕ) → k < length items → q ≡ get_or items k q → sum ≡ all_delays (take k items) → d ≡ min (term_delays q.1) (2 ^ 64 - 1) → new ≡ min (sum + d) (2 ^ 64 - 1) → new ≡ all_delays (take (k + 1) items)
more_delays items k q sum d new l e h g p =
    let f : Name × Tm → ℕ = λ q. term_delays q.1 in
    let more : take (k + 1) items ≡ take k items ++ q ∷ [] = take_more items k q l ∙ ap (λ z. take k items ++ z ∷ []) (sym e) in
    let both : sum_by f (take (k + 1) items) ≡ sum_by f (take k items) + sum_by f (q ∷ []) = ap (sum_by f) more ∙ sum_by-append f (take k items) (q ∷ []) in
    let one : sum_by f (q ∷ []) ≡ f q + sum_by f [] = sum_by-cons f q [] in
    let none : sum_by f [] ≡ 0 = refl in
    omega (arith, h, g, p, both, one, none)

-- the delays of one more function
pub more_counts : (t : List NodeText) (i : ℕ) (n : NodeText) (old mid new : List ℕ) → i < length t → n ≡ get_or t i n → mid ≡ old ++ map (λ n. all_delays n.eqs) (take i t) → new ≡ mid ++ all_delays n.eqs ∷ [] → new ≡ old ++ map (λ n. all_delays n.eqs) (take (i + 1) t)
more_counts t i n old mid new l e h p =
    let f : NodeText → ℕ = λ n. all_delays n.eqs in
    let more : take i t ++ n ∷ [] ≡ take (i + 1) t = ap (λ z. take i t ++ z ∷ []) e ∙ sym (take_more t i n l) in
    p ∙ ap (λ z. z ++ f n ∷ []) h ∙ append_assoc old (map f (take i t)) (f n ∷ []) ∙ ap (λ z. old ++ z) (sym (map-append f (take i t) (n ∷ [])) ∙ ap (map f) more)
