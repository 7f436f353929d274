-- The calls of functions as edges.
use Rattle.std.proofs.Common.{◌≡◌, ℕ, ◌+◌, ◌<◌, ◌≤◌, List, [], ◌∷◌, ◌++◌, length, get_or, drop, Option, None, Some, slice_get, refl, sym, ap, ◌∙◌, subst, arith, add-one, drop-cons}
use Rattle.std.proofs.lemmas.List.{append_assoc, length-map, get_or-map}
use Rattle.std.proofs.lemmas.List.Elements.{All-nil, All-cons, All-append}
use Rattle.std.proofs.lemmas.Option.{get_or_from_slice_get, slice_get_within}
use Rattle.lt_base.specs.declared.memory.Or.{Or}
use Rattle.lt_base.specs.declared.memory.Or.TheVariants.{Fault, Memory}
use Rattle.lt_graph.specs.Edges.{AreWithin, IsFirstCircular}
use Rattle.lt_syntax.specs.declared.tree.NodeText.{NodeText}
use Rattle.lt_syntax.specs.Tree.{Tm, Lit, Var, Unary, Binary, Choice, Sampled, Merged, Delayed, Followed, Arrow, Call, Tms, Nil, Cons}
use Rattle.std.specs.Borrow.{Bor}
use Rattle.lt_resolve.specs.declared.fault.NameFault.{NameFault}
use Rattle.lt_resolve.specs.declared.fault.NameKind.TheVariants.{Recursive}
use Rattle.lt_resolve.specs.Names.{Name, number_of_name}
use Rattle.lt_resolve.specs.Scopes.{functions}
use Rattle.lt_resolve.specs.Uses.{Site, term_count, sites_in, argument_sites, equation_sites, sites_from, edge, edges}
use Rattle.lt_resolve.specs.Faults.{Recursion, IsFirstRecursion, sites}
use Rattle.lt_resolve.specs.Told.{BlamesName}
use Rattle.lt_resolve.specs.Checks.{Locates}
use Rattle.lt_resolve.proofs.Numbers.{number_below}

pub edges_append : (xs ys : List Site) → edges (xs ++ ys) ≡ edges xs ++ edges ys
edges_append [] ys = refl
edges_append (s ∷ xs) ys = ap (λ l. edge s.caller s.callee ++ l) (edges_append xs ys) ∙ sym (append_assoc (edge s.caller s.callee) (edges xs) (edges ys))

-- the edges of the calls from one place on, once that of the call there was appended
pub edges_next : (calls : List Site) (i : ℕ) (x : Site) (old new all : List (ℕ × ℕ)) → i < length calls → x ≡ get_or calls i x → new ≡ old ++ edge x.caller x.callee → old ++ edges (drop i calls) ≡ all → new ++ edges (drop (i + 1) calls) ≡ all
edges_next calls i x old new all l e added rest =
    let here : edges (drop i calls) ≡ edge x.caller x.callee ++ edges (drop (i + 1) calls) =
    ap edges (drop-cons calls i x l) ∙ (λ j. edge (sym e j).caller (sym e j).callee ++ edges (drop (sym (add-one i) j) calls)) in
    ap (λ n. n ++ edges (drop (i + 1) calls)) added ∙ append_assoc old (edge x.caller x.callee) (edges (drop (i + 1) calls)) ∙ ap (λ w. old ++ w) (sym here) ∙ rest

-- ---- their ends are functions

module _ (n : ℕ) where
  abbrev Within : ℕ × ℕ → Type 0
  Within e = (e.0 < n) × (e.1 < n)

  both : (xs ys : List Site) → AreWithin n (edges xs) → AreWithin n (edges ys) → AreWithin n (edges (xs ++ ys))
  both xs ys a b = subst (AreWithin n) (sym (edges_append xs ys)) (All-append Within (edges xs) (edges ys) a b)

  one : (i : ℕ) (f : Name) (funcs : List Name) (k : ℕ) → length funcs ≡ n → i < n → AreWithin n (edges (record { caller = i; name = f; callee = number_of_name funcs f; arguments = k } ∷ []))
  one i f funcs k fit l = go (number_of_name funcs f) refl
    where
      go : (o : Option ℕ) → number_of_name funcs f ≡ o → AreWithin n (edge i o ++ [])
      go None e = All-nil Within
      go (Some g) e = let below = number_below funcs f g e in All-cons Within (i, g) [] (l, omega (arith, below, fit)) (All-nil Within)

  module _ (funcs : List Name) (fit : length funcs ≡ n) where
    module _ (i : ℕ) (low : i < n) where
      mutual
        term_within : (t : Tm) → AreWithin n (edges (sites_in funcs i t))
        term_within (Lit v) = All-nil Within
        term_within (Var x) = All-nil Within
        term_within (Unary o a) = term_within a
        term_within (Binary o a b) = both (sites_in funcs i a) (sites_in funcs i b) (term_within a) (term_within b)
        term_within (Choice c a b) = both (sites_in funcs i c) (sites_in funcs i a ++ sites_in funcs i b) (term_within c) (both (sites_in funcs i a) (sites_in funcs i b) (term_within a) (term_within b))
        term_within (Sampled a c t) = term_within a
        term_within (Merged c a b) = both (sites_in funcs i a) (sites_in funcs i b) (term_within a) (term_within b)
        term_within (Delayed v a) = term_within a
        term_within (Followed a b) = both (sites_in funcs i a) (sites_in funcs i b) (term_within a) (term_within b)
        term_within (Arrow a b) = both (sites_in funcs i a) (sites_in funcs i b) (term_within a) (term_within b)
        term_within (Call f args) = both (record { caller = i; name = f; callee = number_of_name funcs f; arguments = term_count args } ∷ []) (argument_sites funcs i args) (one i f funcs (term_count args) fit low) (arguments_within args)

        arguments_within : (args : Tms) → AreWithin n (edges (argument_sites funcs i args))
        arguments_within Nil = All-nil Within
        arguments_within (Cons a args) = both (sites_in funcs i a) (argument_sites funcs i args) (term_within a) (arguments_within args)

      equations_within : (eqs : List (Name × Tm)) → AreWithin n (edges (equation_sites funcs i eqs))
      equations_within [] = All-nil Within
      equations_within (q ∷ eqs) = both (sites_in funcs i q.1) (equation_sites funcs i eqs) (term_within q.1) (equations_within eqs)

    from_within : (i : ℕ) (t : List NodeText) → i + length t ≤ n → AreWithin n (edges (sites_from funcs i t))
    from_within i [] l = All-nil Within
    from_within i (m ∷ t) l = both (equation_sites funcs i m.eqs) (sites_from funcs (i + 1) t) (equations_within i (omega arith) m.eqs) (from_within (i + 1) t (omega arith))

pub sites_within : (t : List NodeText) → AreWithin (length t) (edges (sites t))
sites_within t = from_within (length t) (functions t) (length-map t (λ (n : NodeText). n.name)) 0 t (omega arith)

-- ---- the fault at the first edge that lies on a closed walk

module _ (t : List NodeText) (es : List (ℕ × ℕ)) (is : es ≡ edges (sites t)) (place : ℕ) (e : ℕ × ℕ) (n : NodeText) (x : Bor Name)
    (first : IsFirstCircular es place) (at : e ≡ get_or es place e) (within : AreWithin (length t) es) (node : n ≡ get_or t e.1 n) (named : x.now ≡ n.name) where
  below : e.1 < length t
  below = subst (λ (p : ℕ × ℕ). p.1 < length t) (sym at) (within place e (slice_get_within es place first.circular.0 first.circular.1)).1

  first_recursion : IsFirstRecursion t (e.0, x.now)
  first_recursion = record {
    place = place;
    circular = subst (λ l. IsFirstCircular l place) is first;
    callee = e.1;
    stands = ap (λ l. slice_get l place) (sym is) ∙ first.circular.1 ∙ ap Some (sym (get_or_from_slice_get es place first.circular.0 e first.circular.1) ∙ sym at);
    called = get_or-map (λ (m : NodeText). m.name) t e.1 n [] below ∙ ap (λ (m : NodeText). m.name) (sym node) ∙ sym named;
  }

  pub blames_recursion : (r : Or NameFault) → Locates Recursive e.0 (Fault x) r → BlamesName Recursive (Recursion t) r
  blames_recursion (Fault f) h = (h.0, subst (IsFirstRecursion t) (λ j. (sym h.1 j, sym h.2 j)) first_recursion)
  blames_recursion Memory h = tt
