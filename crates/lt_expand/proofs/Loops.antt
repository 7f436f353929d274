-- One turn of each loop.
use Rattle.std.proofs.Common.{◌≡◌, ℕ, zero, suc, ◌+◌, ◌-◌, ◌<◌, ◌≤◌, List, [], ◌∷◌, ◌++◌, length, take, get_or, replicate, All, refl, sym, ap, ◌∙◌, arith, length-append}
use Rattle.std.specs.List.{range_with_len}
use Rattle.std.proofs.lemmas.List.FromFn.{length-range_with_len}
use Rattle.std.proofs.lemmas.List.{map-append, append_assoc, append-nil, take_more, take_all, length-replicate}
use Rattle.std.proofs.lemmas.List.Elements.{All-nil, All-cons}
use Rattle.lt_base.specs.declared.function.Decl.{Decl}
use Rattle.lt_base.specs.Expression.{Expression, arguments_of}
use Rattle.lt_base.specs.Checked.{argument_count, EachUse, EachArgumentUse}
use Rattle.lt_base.specs.Meaning.{ClockPairs, clock_of}
use Rattle.lt_expand.specs.Copies.{Library, Copy, grown, arguments_grown, inlined, copies, copy_decl, copy_decls, copy_equation, copy_equations, input_equations, copied_decls, copied_equations, equations_grown, equations_inlined, equations_copies}
use Rattle.lt_expand.specs.Walk.{InlinedTo, AllInlined, owners}
use Rattle.lt_expand.proofs.Filled.{equations_filled, copied_length}
use Rattle.lt_expand.proofs.Steps.{inline_length, decls_append, equations_append}

-- ---- declarations

pub decls_more : (m : ℕ) (place : ClockPairs) (ds before : List Decl) (i : ℕ) (d : Decl) → i < length ds → (before ++ copy_decls m place (take i ds)) ++ copy_decl m place (get_or ds i d) ∷ [] ≡ before ++ copy_decls m place (take (i + 1) ds)
decls_more m place ds before i d l =
    append_assoc before (copy_decls m place (take i ds)) (copy_decl m place (get_or ds i d) ∷ [])
    ∙ ap (λ s. before ++ s) (sym (ap (copy_decls m place) (take_more ds i d l) ∙ map-append (copy_decl m place) (take i ds) (get_or ds i d ∷ [])))

-- ---- inputs

inputs_snoc : (m : ℕ) (xs : List Expression) (x : Expression) → input_equations m (arguments_of (xs ++ x ∷ [])) ≡ input_equations m (arguments_of xs) ++ (m + length xs, x) ∷ []
inputs_snoc m [] x = ap (λ k. (k, x) ∷ []) (omega arith)
inputs_snoc m (y ∷ xs) x = ap (λ l. (m, y) ∷ l) (inputs_snoc (suc m) xs x ∙ ap (λ k. input_equations (suc m) (arguments_of xs) ++ (k, x) ∷ []) (omega arith))

pub inputs_more : (m : ℕ) (before : List (ℕ × Expression)) (xs : List Expression) (x : Expression) → (before ++ input_equations m (arguments_of xs)) ++ (m + length xs, x) ∷ [] ≡ before ++ input_equations m (arguments_of (xs ++ x ∷ []))
inputs_more m before xs x =
    append_assoc before (input_equations m (arguments_of xs)) ((m + length xs, x) ∷ []) ∙ ap (λ s. before ++ s) (sym (inputs_snoc m xs x))

-- ---- equations

pub equations_more : (m : ℕ) (before qs : List (ℕ × Expression)) (i : ℕ) (d : ℕ × Expression) → i < length qs → (before ++ copy_equations m (take i qs)) ++ copy_equation m (get_or qs i d) ∷ [] ≡ before ++ copy_equations m (take (i + 1) qs)
equations_more m before qs i d l =
    append_assoc before (copy_equations m (take i qs)) (copy_equation m (get_or qs i d) ∷ [])
    ∙ ap (λ s. before ++ s) (sym (ap (copy_equations m) (take_more qs i d l) ∙ map-append (copy_equation m) (take i qs) (get_or qs i d ∷ [])))

-- ---- numbers

numbers_snoc : (a n : ℕ) → range_with_len a n ++ (a + n) ∷ [] ≡ range_with_len a (suc n)
numbers_snoc a zero = ap (λ k. k ∷ []) (omega arith)
numbers_snoc a (suc n) = ap (λ l. a ∷ l) (ap (λ k. range_with_len (a + 1) n ++ k ∷ []) (omega arith) ∙ numbers_snoc (a + 1) n)

pub numbers_more : (n : ℕ) → range_with_len 0 n ++ n ∷ [] ≡ range_with_len 0 (n + 1)
numbers_more n =
    let e : n ≡ 0 + n = omega arith in
    let f : suc n ≡ n + 1 = omega arith in
    ap (λ k. range_with_len 0 n ++ k ∷ []) e ∙ numbers_snoc 0 n ∙ ap (range_with_len 0) f

-- ---- uses of arguments

pub argument_uses : (P : ℕ → ℕ → Type 0) (xs : List Expression) → EachArgumentUse P (arguments_of xs) → All (λ x. EachUse P x) xs
argument_uses P [] u = All-nil (λ x. EachUse P x)
argument_uses P (x ∷ xs) u = All-cons (λ x. EachUse P x) x xs u.0 (argument_uses P xs u.1)

pub count_of : (xs : List Expression) → argument_count (arguments_of xs) ≡ length xs
count_of [] = refl
count_of (x ∷ xs) = let h = count_of xs in omega (arith, h)

pub grown_room : (lib : Library) (xs : List Expression) (i : ℕ) (d : Expression) → i < length xs → arguments_grown lib (arguments_of (take i xs)) + grown lib (get_or xs i d) ≤ arguments_grown lib (arguments_of xs)
grown_room lib [] i d l = absurd (omega arith)
grown_room lib (x ∷ xs) zero d l = omega arith
grown_room lib (x ∷ xs) (suc i) d l = let h = grown_room lib xs i d (omega arith) in omega (arith, h)

-- ---- equations with copies

module _ (lib : Library) where
  inlined_snoc : (n : ℕ) (qs : List (ℕ × Expression)) (q : ℕ × Expression) → equations_inlined lib n (qs ++ q ∷ []) ≡ equations_inlined lib n qs ++ (q.0, inlined lib (n + equations_grown lib qs) q.1) ∷ []
  inlined_snoc n [] q = ap (λ m. (q.0, inlined lib m q.1) ∷ []) (omega arith)
  inlined_snoc n (p ∷ qs) q =
      ap (λ l. (p.0, inlined lib n p.1) ∷ l) (inlined_snoc (n + grown lib p.1) qs q ∙ ap (λ m. equations_inlined lib (n + grown lib p.1) qs ++ (q.0, inlined lib m q.1) ∷ []) (omega arith))

  copies_snoc : (ds : List Decl) (n : ℕ) (qs : List (ℕ × Expression)) (q : ℕ × Expression) → equations_copies lib ds n (qs ++ q ∷ []) ≡ equations_copies lib ds n qs ++ copies lib (n + equations_grown lib qs) (clock_of ds q.0) q.1
  copies_snoc ds n [] q = append-nil (copies lib n (clock_of ds q.0) q.1) ∙ ap (λ m. copies lib m (clock_of ds q.0) q.1) (omega arith)
  copies_snoc ds n (p ∷ qs) q =
      ap (λ l. copies lib n (clock_of ds p.0) p.1 ++ l) (copies_snoc ds (n + grown lib p.1) qs q)
      ∙ sym (append_assoc (copies lib n (clock_of ds p.0) p.1) (equations_copies lib ds (n + grown lib p.1) qs) (copies lib ((n + grown lib p.1) + equations_grown lib qs) (clock_of ds q.0) q.1))
      ∙ ap (λ m. (copies lib n (clock_of ds p.0) p.1 ++ equations_copies lib ds (n + grown lib p.1) qs) ++ copies lib m (clock_of ds q.0) q.1) (omega arith)

  owners_snoc : (qs : List (ℕ × Expression)) (q : ℕ × Expression) → owners lib (qs ++ q ∷ []) ≡ owners lib qs ++ replicate (grown lib q.1) q.0
  owners_snoc [] q = append-nil (replicate (grown lib q.1) q.0)
  owners_snoc (p ∷ qs) q =
      ap (λ l. replicate (grown lib p.1) p.0 ++ l) (owners_snoc qs q) ∙ sym (append_assoc (replicate (grown lib p.1) p.0) (owners lib qs) (replicate (grown lib q.1) q.0))

  module _ (known : List Decl) where
    abbrev N : ℕ
    N = length known

    abbrev Eqs : Type 0
    Eqs = List (ℕ × Expression)

    module _ (qs : Eqs) (ds : List Decl) (eqs copied : Eqs) (origins : List ℕ) (a : AllInlined lib known qs ds eqs copied origins) where
      abbrev cs : List Copy
      cs = equations_copies lib known N qs

      pub all_length : length ds ≡ N + equations_grown lib qs
      all_length = ap length a.decls ∙ length-append known (copied_decls cs) ∙ ap (λ k. N + k) (copied_length cs ∙ (equations_filled lib known N qs).all)

      owners_length : (qs : Eqs) → length (owners lib qs) ≡ equations_grown lib qs
      owners_length [] = refl
      owners_length (q ∷ qs) =
          let l = length-append (replicate (grown lib q.1) q.0) (owners lib qs) in
          let r = length-replicate (grown lib q.1) q.0 in
          let h = owners_length qs in
          omega (arith, l, r, h)

      origins_length : length origins ≡ length ds
      origins_length =
          let l = ap length a.origins_are ∙ length-append (range_with_len 0 N) (owners lib qs) in
          let r = length-range_with_len 0 N in
          let o = owners_length qs in
          omega (arith, l, r, o, all_length)

      -- one equation more
      pub all_more : (q : ℕ × Expression) (ds' : List Decl) (eqs' copied' : Eqs) (origins' : List ℕ) (r : Expression) → InlinedTo lib (clock_of known q.0) q.1 ds copied ds' copied' r → eqs' ≡ eqs ++ (q.0, r) ∷ [] → (n m : ℕ) (o : ℕ) → n ≡ length ds' → m ≡ length origins → o ≡ q.0 → origins' ≡ take n origins ++ replicate (n - m) o → AllInlined lib known (qs ++ q ∷ []) ds' eqs' copied' origins'
      all_more q ds' eqs' copied' origins' r t e n m o k j h s =
          let ck = clock_of known q.0 in
          let new = copies lib (length ds) ck q.1 in
          let at : copies lib (length ds) ck q.1 ≡ copies lib (N + equations_grown lib qs) ck q.1 = ap (λ i. copies lib i ck q.1) all_length in
          let all : equations_copies lib known N (qs ++ q ∷ []) ≡ cs ++ new = copies_snoc known N qs q ∙ ap (λ l. cs ++ l) (sym at) in
          let g = inline_length lib ck q.1 ds copied ds' copied' r t in
          let l = origins_length in
          let front : take n origins ≡ origins = take_all n origins (omega (arith, g, l, k)) in
          let argument_count : n - m ≡ grown lib q.1 = omega (arith, g, l, k, j) in
          record {
            decls = t.adds.decls
                ∙ ap (λ l. l ++ copied_decls new) a.decls
                ∙ append_assoc known (copied_decls cs) (copied_decls new)
                ∙ ap (λ l. known ++ l) (sym (decls_append cs new) ∙ ap copied_decls (sym all));
            eqs_are = e ∙ (λ i. a.eqs_are i ++ (q.0, (t.form ∙ ap (λ i. inlined lib i q.1) all_length) i) ∷ []) ∙ sym (inlined_snoc N qs q);
            copied_are = t.adds.eqs ∙ ap (λ l. l ++ copied_equations new) a.copied_are ∙ sym (equations_append cs new) ∙ ap copied_equations (sym all);
            origins_are = s
                ∙ (λ i. front i ++ replicate (argument_count i) (h i))
                ∙ ap (λ l. l ++ replicate (grown lib q.1) q.0) a.origins_are
                ∙ append_assoc (range_with_len 0 N) (owners lib qs) (replicate (grown lib q.1) q.0)
                ∙ ap (λ l. range_with_len 0 N ++ l) (sym (owners_snoc qs q));
          }

    pub room_more : (qs : Eqs) (i : ℕ) (d : ℕ × Expression) → i < length qs → equations_grown lib (take i qs) + grown lib (get_or qs i d).1 ≤ equations_grown lib qs
    room_more [] i d l = absurd (omega arith)
    room_more (q ∷ qs) zero d l = omega arith
    room_more (q ∷ qs) (suc i) d l = let h = room_more qs i d (omega arith) in omega (arith, h)
