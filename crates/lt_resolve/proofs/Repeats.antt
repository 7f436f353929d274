-- Names that stand a second time.
use Rattle.std.proofs.Common.{◌≡◌, ℕ, ◌+◌, ◌<◌, Bool, true, false, List, [], ◌∷◌, ◌++◌, length, get_or, drop, Option, None, Some, refl, sym, ap, ◌∙◌, add-one, drop-cons, if◌then◌else◌}
use Rattle.std.specs.Option.{option_or}
use Rattle.std.proofs.lemmas.List.{append_assoc, append-nil, map-append}
use Rattle.lt_syntax.specs.declared.tree.DeclText.{DeclText}
use Rattle.lt_syntax.specs.declared.tree.NodeText.{NodeText}
use Rattle.lt_resolve.specs.Names.{Name, among, repeated_name}
use Rattle.lt_resolve.specs.Scopes.{declared_names, variables}

pub repeated_append : (before xs ys : List Name) → repeated_name before (xs ++ ys) ≡ option_or (repeated_name before xs) (repeated_name (before ++ xs) ys)
repeated_append before [] ys = ap (λ b. repeated_name b ys) (sym (append-nil before))
repeated_append before (x ∷ xs) ys = go (repeated_append (before ++ x ∷ []) xs ys) (among before x)
  where
    go : repeated_name (before ++ x ∷ []) (xs ++ ys) ≡ option_or (repeated_name (before ++ x ∷ []) xs) (repeated_name ((before ++ x ∷ []) ++ xs) ys) → (b : Bool) → (if b then Some x else repeated_name (before ++ x ∷ []) (xs ++ ys)) ≡ option_or (if b then Some x else repeated_name (before ++ x ∷ []) xs) (repeated_name (before ++ x ∷ xs) ys)
    go ih true = refl
    go ih false = ih ∙ ap (λ b. option_or (repeated_name (before ++ x ∷ []) xs) (repeated_name b ys)) (append_assoc before (x ∷ []) xs)

pub variables_are : (n : NodeText) → variables n ≡ declared_names n.ins ++ (declared_names n.outs ++ declared_names n.locals)
variables_are n =
    map-append (λ (d : DeclText). d.name) n.ins (n.outs ++ n.locals)
    ∙ ap (λ l. declared_names n.ins ++ l) (map-append (λ (d : DeclText). d.name) n.outs n.locals)

-- the variables of a function, declared in three parts
pub repeated_variables : (n : NodeText) (v0 v1 v2 : List Name) → v0 ≡ [] → v1 ≡ v0 ++ declared_names n.ins → v2 ≡ v1 ++ declared_names n.outs
    → repeated_name [] (variables n) ≡ option_or (repeated_name v0 (declared_names n.ins)) (option_or (repeated_name v1 (declared_names n.outs)) (repeated_name v2 (declared_names n.locals)))
repeated_variables n v0 v1 v2 e0 e1 e2 =
    ap (repeated_name []) (variables_are n)
    ∙ repeated_append [] (declared_names n.ins) (declared_names n.outs ++ declared_names n.locals)
    ∙ (λ i. option_or (repeated_name (sym e0 i) (declared_names n.ins)) (repeated_name (sym one i) (declared_names n.outs ++ declared_names n.locals)))
    ∙ ap (option_or (repeated_name v0 (declared_names n.ins))) (repeated_append v1 (declared_names n.outs) (declared_names n.locals) ∙ ap (λ b. option_or (repeated_name v1 (declared_names n.outs)) (repeated_name b (declared_names n.locals))) (sym e2))
  where
    one : v1 ≡ [] ++ declared_names n.ins
    one = e1 ∙ ap (λ v. v ++ declared_names n.ins) e0

module _ (before xs : List Name) (i : ℕ) (x : Name) (l : i < length xs) (e : x ≡ get_or xs i x) (h : repeated_name before (drop i xs) ≡ None) where
  next_repeats : repeated_name before (x ∷ drop (i + 1) xs) ≡ None
  next_repeats = sym (ap (repeated_name before) (drop-cons xs i x l ∙ (λ j. sym e j ∷ drop (sym (add-one i) j) xs))) ∙ h

  -- the next name is not one of those before it
  pub next_is_new : among before x ≡ false
  next_is_new = go (among before x) refl next_repeats
    where
      go : (b : Bool) → among before x ≡ b → ◌≡◌ {A = Option Name} (if b then Some x else repeated_name (before ++ x ∷ []) (drop (i + 1) xs)) None → among before x ≡ false
      go true p k = absurd (cc)
      go false p k = p

  pub later_are_new : repeated_name (before ++ x ∷ []) (drop (i + 1) xs) ≡ None
  later_are_new = go (among before x) next_repeats
    where
      go : (b : Bool) → ◌≡◌ {A = Option Name} (if b then Some x else repeated_name (before ++ x ∷ []) (drop (i + 1) xs)) None → repeated_name (before ++ x ∷ []) (drop (i + 1) xs) ≡ None
      go true k = absurd (cc)
      go false k = k

-- a new name is put last
pub put_last : (before now : List Name) (x : Name) → among before x ≡ false → now ≡ (if among before x then before else before ++ x ∷ []) → now ≡ before ++ x ∷ []
put_last before now x p h = h ∙ ap (λ b. if b then before else before ++ x ∷ []) p
