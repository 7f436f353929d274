-- A call and its arguments, as the walk reads them.
use Rattle.std.proofs.Common.{◌≡◌, ℕ, ◌+◌, ◌^◌, ◌<◌, ◌≤◌, List, [], ◌∷◌, ◌++◌, length, map, take, get_or, Vec, Global, Option, refl, sym, ap, ◌∙◌, subst, arith}
use Rattle.std.proofs.lemmas.List.{length-map, map-append, map-id, take_more, take_all, take-map}
use Rattle.std.proofs.Math.ListN.{get_or-map}
use Rattle.lt_base.specs.declared.function.Decl.{Decl}
use Rattle.lt_base.specs.declared.expression.Expr.{Expr, Call}
use Rattle.lt_base.specs.Expression.{Expression, call, variable, arguments_of, shape}
use Rattle.lt_base.specs.Program.{Function}
use Rattle.lt_base.specs.Meaning.{ClockPairs}
use Rattle.lt_base.specs.Checked.{EachUse}
use Rattle.lt_base.proofs.Shape.{shape-Call}
use Rattle.lt_expand.specs.Copies.{Library, grown, arguments_grown, first_or_zero}
use Rattle.lt_expand.specs.Walk.{library_of, Copyable, AddsCopies, InlinedTo}
use Rattle.lt_expand.proofs.Steps.{ArgumentsTo, arguments_none, arguments_length, arguments_next, inline_call, inline_length, moved}
use Rattle.lt_expand.proofs.Loops.{argument_uses, count_of, grown_room}

module _ (versions : List (Option Function)) (e : Expr) (g : ℕ) (args : Vec Expr Global) (is : e ≡ Call g args) (items : List Expr) (are : items ≡ args.items) where
  abbrev lib : Library
  lib = library_of versions

  abbrev P : ℕ → ℕ → Type 0
  P h k = Copyable versions h k

  abbrev xs : List Expression
  xs = map shape items

  call_is : shape e ≡ call g (arguments_of xs)
  call_is = ap shape is ∙ shape-Call g args ∙ ap (λ l. call g (arguments_of (map shape l))) (sym are)

  uses : EachUse P (shape e) → EachUse P (call g (arguments_of xs))
  uses u = subst (EachUse P) call_is u

  module _ (i : ℕ) (a : Expr) (inside : i < length items) (read : a ≡ get_or items i a) where
    there : i < length xs
    there = let l = length-map items shape in omega (arith, l)

    shape_read : get_or xs i (shape a) ≡ shape a
    shape_read = get_or-map shape items i a ∙ ap shape (sym read)

    pub argument_ready : EachUse P (shape e) → EachUse P (shape a)
    argument_ready u = subst (EachUse P) shape_read (argument_uses P xs (uses u).1 i (shape a) there)

    pub argument_room : (ck : ClockPairs) (ds ds' : List Decl) (es es' : List (ℕ × Expression)) (ys : List Expression) → ArgumentsTo lib ck (map shape (take i items)) ds es ds' es' ys → length ds + grown lib (shape e) < 2 ^ 32 → length ds' + grown lib (shape a) < 2 ^ 32
    argument_room ck ds ds' es es' ys t r =
        let n = arguments_length lib ck (map shape (take i items)) ds es ds' es' ys t in
        let f : arguments_grown lib (arguments_of (map shape (take i items))) ≡ arguments_grown lib (arguments_of (take i xs)) = ap (λ l. arguments_grown lib (arguments_of l)) (sym (take-map shape i items)) in
        let s = grown_room lib xs i (shape a) there in
        let q = ap (grown lib) shape_read in
        let w = ap (grown lib) call_is in
        omega (arith, n, f, s, q, w, r)

    pub argument_turn : (ck : ClockPairs) (ds ds1 ds2 : List Decl) (es es1 es2 : List (ℕ × Expression)) (old new : List Expr) (r : Expr) → ArgumentsTo lib ck (map shape (take i items)) ds es ds1 es1 (map shape old) → InlinedTo lib ck (shape a) ds1 es1 ds2 es2 (shape r) → new ≡ old ++ r ∷ [] → ArgumentsTo lib ck (map shape (take (i + 1) items)) ds es ds2 es2 (map shape new)
    argument_turn ck ds ds1 ds2 es es1 es2 old new r t l p =
        let next = arguments_next lib ck (map shape (take i items)) (shape a) (shape r) ds ds1 ds2 es es1 es2 (map shape old) t l in
        let left : map shape (take i items) ++ shape a ∷ [] ≡ map shape (take (i + 1) items) =
        sym (ap (map shape) (take_more items i a inside) ∙ map-append shape (take i items) (get_or items i a ∷ []) ∙ ap (λ b. map shape (take i items) ++ shape b ∷ []) (sym read)) in
        let right : map shape old ++ shape r ∷ [] ≡ map shape new = sym (ap (map shape) p ∙ map-append shape old (r ∷ [])) in
        subst (λ l. ArgumentsTo lib ck l ds es ds2 es2 (map shape new)) left (subst (λ l. ArgumentsTo lib ck (map shape (take i items) ++ shape a ∷ []) ds es ds2 es2 l) right next)

  pub arguments_begin : (ck : ClockPairs) (ds : List Decl) (es : List (ℕ × Expression)) (new : List Expr) → new ≡ [] → ArgumentsTo lib ck [] ds es ds es (map shape new)
  arguments_begin ck ds es new p = subst (λ l. ArgumentsTo lib ck [] ds es ds es (map shape l)) (sym p) (arguments_none lib ck ds es)

  -- the arguments that a loop has taken
  module _ (taken : List Expr) (front : map (λ (z : Expr). z) taken ≡ take (length taken) items) where
    so_far : taken ≡ take (length taken) items
    so_far = sym (map-id taken) ∙ front

    pub of_taken : (ck : ClockPairs) (ds ds' : List Decl) (es es' : List (ℕ × Expression)) (ys : List Expression) → ArgumentsTo lib ck (map shape taken) ds es ds' es' ys → ArgumentsTo lib ck (map shape (take (length taken) items)) ds es ds' es' ys
    of_taken ck ds ds' es es' ys t = subst (λ (l : List Expr). ArgumentsTo lib ck (map shape l) ds es ds' es' ys) so_far t

    pub taken_turn : (a : Expr) → length taken < length items → a ≡ get_or items (length taken) a → (ck : ClockPairs) (ds ds1 ds2 : List Decl) (es es1 es2 : List (ℕ × Expression)) (old new : List Expr) (r : Expr) → ArgumentsTo lib ck (map shape taken) ds es ds1 es1 (map shape old) → InlinedTo lib ck (shape a) ds1 es1 ds2 es2 (shape r) → new ≡ old ++ r ∷ [] → ArgumentsTo lib ck (map shape (taken ++ a ∷ [])) ds es ds2 es2 (map shape new)
    taken_turn a inside read ck ds ds1 ds2 es es1 es2 old new r t l p =
        let next = argument_turn (length taken) a inside read ck ds ds1 ds2 es es1 es2 old new r (of_taken ck ds ds1 es es1 (map shape old) t) l p in
        subst (λ (xs : List Expr). ArgumentsTo lib ck (map shape xs) ds es ds2 es2 (map shape new))
        (take_more items (length taken) a inside ∙ (λ i. sym so_far i ++ sym read i ∷ []))
        next

  -- after the last argument
  module _ (i : ℕ) (all : length items ≤ i) (ck : ClockPairs) (ds ds' : List Decl) (es es' : List (ℕ × Expression)) (inputs : List Expr) (t : ArgumentsTo lib ck (map shape (take i items)) ds es ds' es' (map shape inputs)) (h : ℕ) (same : h ≡ g) where
    whole : ArgumentsTo lib ck xs ds es ds' es' (map shape inputs)
    whole = subst (λ l. ArgumentsTo lib ck (map shape l) ds es ds' es' (map shape inputs)) (take_all i items all) t

    pub call_copyable : EachUse P (shape e) → Copyable versions h (length inputs)
    call_copyable u =
        let c = whole.count in
        let l = length-map inputs shape in
        let n = count_of xs in
        subst (λ k. Copyable versions k (length inputs)) (sym same) (subst (Copyable versions g) (omega (arith, c, l, n)) (uses u).0)

    pub call_room : length ds + grown lib (shape e) < 2 ^ 32 → length ds' + length (lib h).decls < 2 ^ 32
    call_room r =
        let n = arguments_length lib ck xs ds es ds' es' (map shape inputs) whole in
        let w = ap (grown lib) call_is in
        let s = ap (λ k. length (lib k).decls) same in
        omega (arith, n, w, s, r)

    pub call_inlined : (ds2 : List Decl) (es2 : List (ℕ × Expression)) (y : ℕ) → y ≡ first_or_zero (lib h).outs + length ds' → AddsCopies (record { from = length ds'; clock = ck; source = lib h; inputs = arguments_of (map shape inputs) } ∷ []) ds' es' ds2 es2 → InlinedTo lib ck (shape e) ds es ds2 es2 (variable y)
    call_inlined ds2 es2 y o r =
        moved lib ck (shape e) (call g (arguments_of xs)) ds es ds2 es2 (variable y) (variable y) call_is refl (inline_call lib ck g xs ds ds' ds2 es es' es2 (map shape inputs) y whole
        (o ∙ ap (λ k. first_or_zero (lib k).outs + length ds') same)
        (subst (λ k. AddsCopies (record { from = length ds'; clock = ck; source = lib k; inputs = arguments_of (map shape inputs) } ∷ []) ds' es' ds2 es2) same r))

    pub call_length : (ds2 : List Decl) (es2 : List (ℕ × Expression)) (y : ℕ) → y ≡ first_or_zero (lib h).outs + length ds' → AddsCopies (record { from = length ds'; clock = ck; source = lib h; inputs = arguments_of (map shape inputs) } ∷ []) ds' es' ds2 es2 → length ds2 ≡ length ds + grown lib (shape e)
    call_length ds2 es2 y o r = inline_length lib ck (shape e) ds es ds2 es2 (variable y) (call_inlined ds2 es2 y o r)
