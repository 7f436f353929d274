-- The types of a call's arguments, one after the other.
use Rattle.std.proofs.Common.{◌≡◌, ℕ, ◌+◌, ◌<◌, ◌≤◌, ◌≢◌, List, [], ◌∷◌, length, map, take, drop, get_or, Option, Some, None, Vec, Global, refl, sym, ap, ◌∙◌, arith}
use Rattle.std.specs.Option.{option_and_then}
use Rattle.std.specs.List.{slice_get}
use Rattle.std.proofs.lemmas.List.{length-map, length-take, drop_more, drop_all, get_or-map}
use Rattle.std.proofs.lemmas.Option.{get_or_from_slice_get, slice_get_within}
use Rattle.lt_base.specs.declared.value.Ty.{Ty}
use Rattle.lt_base.specs.declared.value.Ty.TheVariants.{Int, Bool}
use Rattle.lt_base.specs.declared.expression.Expr.{Expr, Call}
use Rattle.lt_base.specs.declared.function.Decl.{Decl}
use Rattle.lt_base.specs.Expression.{shape, arguments_of}
use Rattle.lt_base.specs.Program.{Function}
use Rattle.lt_base.specs.Meaning.{function_of}
use Rattle.lt_base.specs.Typing.{type_of, arguments_types, arguments_fit, call_type, answer_type, both_types, shared_type, input_types}
use Rattle.lt_base.proofs.Shape.{shape-Call}

pub arguments_types-map : (fs : List Function) (ds : List Decl) (es : List Expr) → arguments_types fs ds (arguments_of (map shape es)) ≡ map (λ e. type_of fs ds (shape e)) es
arguments_types-map fs ds [] = refl
arguments_types-map fs ds (e ∷ es) = ap (λ l. type_of fs ds (shape e) ∷ l) (arguments_types-map fs ds es)

nothing : (o : Option Ty) (r : Option Ty) → r ≡ None → option_and_then (λ a. r) o ≡ None
nothing None r e = refl
nothing (Some a) r e = e

-- as many arguments as inputs, or no type
pub misfit : (ws : List Ty) (us : List (Option Ty)) (t : Option Ty) → length us ≢ length ws → arguments_fit ws us t ≡ None
misfit [] [] t h = absurd (h refl)
misfit [] (u ∷ us) t h = refl
misfit (w ∷ ws) [] t h = refl
misfit (w ∷ ws) (u ∷ us) t h = nothing (both_types shared_type (Some w) u) (arguments_fit ws us t) (misfit ws us t (λ e. h (omega (arith, e))))

pub input_types_length : (f : Function) → f.n_in ≤ length f.decls → length (input_types f) ≡ f.n_in
input_types_length f h = length-map (take f.n_in f.decls) (λ (d : Decl). d.ty) ∙ length-take f.n_in f.decls ∙ omega (arith, h)

-- what a call's type is
pub call_typed : (fs : List Function) (ds : List Decl) (e : Expr) (g : ℕ) (args : Vec Expr Global) (f : Function) → e ≡ Call g args → function_of fs g ≡ Some f
    → type_of fs ds (shape e) ≡ arguments_fit (input_types f) (map (λ a. type_of fs ds (shape a)) args.items) (answer_type f.decls f.outs)
call_typed fs ds e g args f is there =
    ap (λ x. type_of fs ds (shape x)) is
    ∙ ap (type_of fs ds) (shape-Call g args)
    ∙ (λ i. call_type (there i) (arguments_types-map fs ds args.items i))

-- another number of arguments
pub fit_misfit : (fs : List Function) (ds : List Decl) (f : Function) (items : List Expr) → length items ≢ f.n_in → f.n_in ≤ length f.decls
    → None ≡ arguments_fit (input_types f) (map (λ e. type_of fs ds (shape e)) items) (answer_type f.decls f.outs)
fit_misfit fs ds f items differ inside =
    let T : Expr → Option Ty = λ e. type_of fs ds (shape e) in
    let n = input_types_length f inside in
    let m = length-map items T in
    sym (misfit (input_types f) (map T items) (answer_type f.decls f.outs) (λ h. differ (sym m ∙ h ∙ n)))

same_shared : (w : Ty) → shared_type w w ≡ Some w
same_shared Int = refl
same_shared Bool = refl

other_shared : (w : Ty) (u : Option Ty) → (u ≡ Some w → ⊥) → both_types shared_type (Some w) u ≡ None
other_shared w None h = refl
other_shared Int (Some Int) h = absurd (h refl)
other_shared Int (Some Bool) h = refl
other_shared Bool (Some Int) h = refl
other_shared Bool (Some Bool) h = absurd (h refl)

-- the arguments from one on
module _ (fs : List Function) (ds : List Decl) (f : Function) (items : List Expr) where
  abbrev pub rest_fits : ℕ → Option Ty
  rest_fits i = arguments_fit (drop i (input_types f)) (drop i (map (λ e. type_of fs ds (shape e)) items)) (answer_type f.decls f.outs)

  fit_one : (i : ℕ) (a : Expr) (w : Ty) → slice_get (input_types f) i ≡ Some w → i < length items → a ≡ get_or items i a
      → rest_fits i ≡ option_and_then (λ _. rest_fits (i + 1)) (both_types shared_type (Some w) (type_of fs ds (shape a)))
  fit_one i a w h l r =
      let ws = input_types f in
      let T : Expr → Option Ty = λ e. type_of fs ds (shape e) in
      let us = map T items in
      let front : drop i ws ≡ w ∷ drop (i + 1) ws = drop_more ws i w (slice_get_within ws i w h) ∙ ap (λ x. x ∷ drop (i + 1) ws) (get_or_from_slice_get ws i w w h) in
      let here : get_or us i (T a) ≡ T a = get_or-map T items i a (T a) l ∙ ap T (sym r) in
      let long : i < length us = rw (length-map items T) l in
      let front' : drop i us ≡ T a ∷ drop (i + 1) us = drop_more us i (T a) long ∙ ap (λ x. x ∷ drop (i + 1) us) here in
      λ k. arguments_fit (front k) (front' k) (answer_type f.decls f.outs)

  -- an argument of its input's type
  pub fit_goes : (i : ℕ) (a : Expr) (w : Ty) → slice_get (input_types f) i ≡ Some w → i < length items → a ≡ get_or items i a → type_of fs ds (shape a) ≡ Some w → rest_fits i ≡ rest_fits (i + 1)
  fit_goes i a w h l r t = fit_one i a w h l r ∙ ap (λ o. option_and_then (λ _. rest_fits (i + 1)) o) (ap (both_types shared_type (Some w)) t ∙ same_shared w)

  -- an argument of another type
  pub fit_fails : (i : ℕ) (a : Expr) (w : Ty) → slice_get (input_types f) i ≡ Some w → i < length items → a ≡ get_or items i a → (type_of fs ds (shape a) ≡ Some w → ⊥) → rest_fits i ≡ None
  fit_fails i a w h l r t = fit_one i a w h l r ∙ ap (λ o. option_and_then (λ _. rest_fits (i + 1)) o) (other_shared w (type_of fs ds (shape a)) t)

  -- no argument is left
  pub fit_ends : (i : ℕ) → length items ≤ i → length items ≡ f.n_in → f.n_in ≤ length f.decls → rest_fits i ≡ answer_type f.decls f.outs
  fit_ends i past same inside =
      let T : Expr → Option Ty = λ e. type_of fs ds (shape e) in
      let n = input_types_length f inside in
      let m = length-map items T in
      let a : drop i (input_types f) ≡ [] = drop_all i (input_types f) (omega (arith, n, same, past)) in
      let b : drop i (map T items) ≡ [] = drop_all i (map T items) (omega (arith, m, past)) in
      λ k. arguments_fit (a k) (b k) (answer_type f.decls f.outs)
