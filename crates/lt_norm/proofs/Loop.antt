-- Right sides, and the loop over the equations.
use Rattle.std.proofs.Common.{◌≡◌, ℕ, zero, suc, ◌+◌, ◌-◌, ◌^◌, ◌<◌, ◌≤◌, List, [], ◌∷◌, ◌++◌, length, map, take, get_or, replicate, All, refl, sym, ap, ◌∙◌, subst, arith, length-append}
use Rattle.std.specs.List.{sum_by}
use Rattle.std.specs.Prelude.{true, false, Result, OnOk}
use Rattle.std.proofs.lemmas.List.{length-map, map-append, append_assoc, append-nil, take_all, length-replicate, map-id}
use Rattle.std.proofs.lemmas.List.Sums.{sum_by-cons, sum_by_more_le}
use Rattle.lt_base.specs.declared.value.Value.{Value}
use Rattle.lt_base.specs.declared.function.Decl.{Decl}
use Rattle.lt_base.specs.Expression.{Expression, literal, variable, unary, binary, imported, choose, sampled, merged, delayed, follow, arrow, call}
use Rattle.lt_base.specs.Program.{Function, GoodFunction}
use Rattle.lt_base.specs.Meaning.{ClockPairs, clock_of}
use Rattle.lt_base.specs.Sizes.{cost}
use Rattle.lt_base.proofs.Lookups.{all_found, left_below}
use Rattle.lt_norm.specs.Plain.{plain, plain_equations}
use Rattle.lt_norm.specs.Lift.{delays, right_delays, right_lifted, right_fresh, equations_delays, equations_lifted, equations_fresh, new_decl, new_equations, normal_form}
use Rattle.lt_norm.specs.NormalForm.{right_places, lifted_origins}
use Rattle.lt_norm.specs.Walk.{LiftedTo, RightTo, AllLifted, is_delay}
use Rattle.lt_norm.proofs.Stands.{right_length, equations_length}
use Rattle.lt_norm.proofs.Lifted.{all_equations}
use Rattle.lt_norm.proofs.NormalForms.{right_count, right_cost}
use Rattle.lt_norm.proofs.Steps.{new_equations-append, grown_by, on_ok}

abbrev Decls : Type 0
Decls = List Decl

abbrev Eqs : Type 0
Eqs = List (ℕ × Expression)

-- ---- right sides

pub other_delays : (e : Expression) → is_delay e ≡ false → right_delays e ≡ delays e
other_delays (delayed v e) n = let wrong : true ≡ false = n in absurd cc
other_delays (literal v) n = refl
other_delays (variable x) n = refl
other_delays (unary o a) n = refl
other_delays (binary o a b) n = refl
other_delays (imported o a b) n = refl
other_delays (choose c a b) n = refl
other_delays (sampled e c b) n = refl
other_delays (merged c a b) n = refl
other_delays (follow a b) n = refl
other_delays (arrow a b) n = refl
other_delays (call g args) n = refl

pub other_right : (ck : ClockPairs) (e : Expression) (ds : Decls) (es : Eqs) (ds' : Decls) (es' : Eqs) (e' : Expression) → is_delay e ≡ false → LiftedTo ck e ds es ds' es' e' → RightTo ck e ds es ds' es' e'
other_right ck (delayed v e) ds es ds' es' e' n l = let wrong : true ≡ false = n in absurd cc
other_right ck (literal v) ds es ds' es' e' n l = record { form = l.form; rows = l.rows }
other_right ck (variable x) ds es ds' es' e' n l = record { form = l.form; rows = l.rows }
other_right ck (unary o a) ds es ds' es' e' n l = record { form = l.form; rows = l.rows }
other_right ck (binary o a b) ds es ds' es' e' n l = record { form = l.form; rows = l.rows }
other_right ck (imported o a b) ds es ds' es' e' n l = record { form = l.form; rows = l.rows }
other_right ck (choose c a b) ds es ds' es' e' n l = record { form = l.form; rows = l.rows }
other_right ck (sampled e c b) ds es ds' es' e' n l = record { form = l.form; rows = l.rows }
other_right ck (merged c a b) ds es ds' es' e' n l = record { form = l.form; rows = l.rows }
other_right ck (follow a b) ds es ds' es' e' n l = record { form = l.form; rows = l.rows }
other_right ck (arrow a b) ds es ds' es' e' n l = record { form = l.form; rows = l.rows }
other_right ck (call g args) ds es ds' es' e' n l = record { form = l.form; rows = l.rows }

pub delay_right : (ck : ClockPairs) (v : Value) (a a' : Expression) (ds : Decls) (es : Eqs) (ds' : Decls) (es' : Eqs) (r : Expression) → LiftedTo ck a ds es ds' es' a' → r ≡ delayed v a' → RightTo ck (delayed v a) ds es ds' es' r
delay_right ck v a a' ds es ds' es' r l q = record { form = q ∙ ap (delayed v) l.form; rows = l.rows }

pub moved_right : (ck ck' : ClockPairs) (e0 e1 : Expression) (ds : Decls) (es : Eqs) (ds' : Decls) (es' : Eqs) (r : Expression) → ck ≡ ck' → e0 ≡ e1 → RightTo ck' e1 ds es ds' es' r → RightTo ck e0 ds es ds' es' r
moved_right ck ck' e0 e1 ds es ds' es' r p q l = subst (λ z. RightTo ck z ds es ds' es' r) (sym q) (subst (λ k. RightTo k e1 ds es ds' es' r) (sym p) l)

pub right_grown : (ck : ClockPairs) (e : Expression) (ds : Decls) (es : Eqs) (ds' : Decls) (es' : Eqs) (r : Expression) → RightTo ck e ds es ds' es' r → length ds' ≡ length ds + right_delays e
right_grown ck e ds es ds' es' r l = grown_by _ ds es ds' es' l.rows ∙ ap (λ k. length ds + k) (right_length (length ds) ck e)

-- ---- one equation more

delays_more : (qs : Eqs) (q : ℕ × Expression) → equations_delays (qs ++ q ∷ []) ≡ equations_delays qs + right_delays q.1
delays_more [] q = omega arith
delays_more (p ∷ qs) q = let h = delays_more qs q in omega (arith, h)

lifted_more : (n : ℕ) (qs : Eqs) (q : ℕ × Expression) → equations_lifted n (qs ++ q ∷ []) ≡ equations_lifted n qs ++ (q.0, right_lifted (n + equations_delays qs) q.1) ∷ []
lifted_more n [] q = ap (λ m. (q.0, right_lifted m q.1) ∷ []) (omega arith)
lifted_more n (p ∷ qs) q =
    ap (λ l. (p.0, right_lifted n p.1) ∷ l) (lifted_more (n + right_delays p.1) qs q ∙ ap (λ m. equations_lifted (n + right_delays p.1) qs ++ (q.0, right_lifted m q.1) ∷ []) (omega arith))

fresh_more : (ds : Decls) (n : ℕ) (qs : Eqs) (q : ℕ × Expression) → equations_fresh ds n (qs ++ q ∷ []) ≡ equations_fresh ds n qs ++ right_fresh (n + equations_delays qs) (clock_of ds q.0) q.1
fresh_more ds n [] q = append-nil (right_fresh n (clock_of ds q.0) q.1) ∙ ap (λ m. right_fresh m (clock_of ds q.0) q.1) (omega arith)
fresh_more ds n (p ∷ qs) q =
    let m = n + right_delays p.1 in
    ap (λ l. right_fresh n (clock_of ds p.0) p.1 ++ l) (fresh_more ds m qs q)
    ∙ sym (append_assoc (right_fresh n (clock_of ds p.0) p.1) (equations_fresh ds m qs) (right_fresh (m + equations_delays qs) (clock_of ds q.0) q.1))
    ∙ ap (λ k. (right_fresh n (clock_of ds p.0) p.1 ++ equations_fresh ds m qs) ++ right_fresh k (clock_of ds q.0) q.1) (omega arith)

plain_more : (ds : Decls) (qs : Eqs) (q : ℕ × Expression) → plain_equations ds (qs ++ q ∷ []) ≡ plain_equations ds qs ++ (q.0, plain ds q.1) ∷ []
plain_more ds qs q = map-append (λ (q : ℕ × Expression). (q.0, plain ds q.1)) qs (q ∷ [])

origins_more : (origin : List ℕ) (ds : Decls) (qs : Eqs) (q : ℕ × Expression) → lifted_origins origin ds (qs ++ q ∷ []) ≡ lifted_origins origin ds qs ++ replicate (length (right_places (clock_of ds q.0) q.1)) (get_or origin q.0 0)
origins_more origin ds [] q = append-nil (replicate (length (right_places (clock_of ds q.0) q.1)) (get_or origin q.0 0))
origins_more origin ds (p ∷ qs) q =
    let r = replicate (length (right_places (clock_of ds p.0) p.1)) (get_or origin p.0 0) in
    ap (λ l. r ++ l) (origins_more origin ds qs q)
    ∙ sym (append_assoc r (lifted_origins origin ds qs) (replicate (length (right_places (clock_of ds q.0) q.1)) (get_or origin q.0 0)))

module _ (known : Decls) (origin : List ℕ) where
  abbrev N : ℕ
  N = length known

  new_length : (rs : Eqs) → equations_delays (plain_equations known rs) ≡ length (lifted_origins origin known rs)
  new_length [] = refl
  new_length (q ∷ rs) =
      let l = length-append (replicate (length (right_places (clock_of known q.0) q.1)) (get_or origin q.0 0)) (lifted_origins origin known rs) in
      let m = length-replicate (length (right_places (clock_of known q.0) q.1)) (get_or origin q.0 0) in
      let k = right_count known q.1 (clock_of known q.0) in
      let h = new_length rs in
      omega (arith, l, m, k, h)

  -- nothing is lifted yet
  pub all_none : (ds : Decls) (origins : List ℕ) → ds ≡ known → origins ≡ origin → AllLifted known origin [] ds [] [] origins
  all_none ds origins p q = record {
    decls = p ∙ sym (append-nil known);
    eqs_are = refl;
    new_are = refl;
    origins_are = q ∙ sym (append-nil origin);
  }

  module _ (qs : Eqs) (ds : Decls) (eqs new : Eqs) (origins : List ℕ) (a : AllLifted known origin qs ds eqs new origins) where
    abbrev before : Eqs
    before = plain_equations known qs

    all_length : length ds ≡ N + equations_delays before
    all_length =
        ap length a.decls
        ∙ length-append known (map new_decl (equations_fresh known N before))
        ∙ ap (λ k. N + k) (length-map (equations_fresh known N before) new_decl ∙ equations_length known N before)

    -- a variable has one origin
    origins_length : length origin ≡ N → length origins ≡ length ds
    origins_length e =
        let o = ap length a.origins_are ∙ length-append origin (lifted_origins origin known qs) in
        let h = new_length qs in
        omega (arith, o, h, all_length, e)

    abbrev owned : ℕ × Expression → List ℕ
    owned q = replicate (length (right_places (clock_of known q.0) q.1)) (get_or origin q.0 0)

    -- one equation more
    pub all_more : (q : ℕ × Expression) (ds' : Decls) (eqs' new' : Eqs) (origins' : List ℕ) (r : Expression) → RightTo (clock_of known q.0) (plain known q.1) ds new ds' new' r → eqs' ≡ eqs ++ (q.0, r) ∷ [] → origins' ≡ origins ++ owned q → AllLifted known origin (qs ++ q ∷ []) ds' eqs' new' origins'
    all_more q ds' eqs' new' origins' r t e o =
        let q' : ℕ × Expression = (q.0, plain known q.1) in
        let ck = clock_of known q.0 in
        let old = equations_fresh known N before in
        let rows : right_fresh (length ds) ck q'.1 ≡ right_fresh (N + equations_delays before) ck q'.1 = ap (λ m. right_fresh m ck q'.1) all_length in
        let fresh_is : equations_fresh known N (plain_equations known (qs ++ q ∷ [])) ≡ old ++ right_fresh (length ds) ck q'.1 =
        ap (equations_fresh known N) (plain_more known qs q) ∙ fresh_more known N before q' ∙ ap (λ l. old ++ l) (sym rows) in
        record {
          decls = t.rows.decls
              ∙ ap (λ l. l ++ map new_decl (right_fresh (length ds) ck q'.1)) a.decls
              ∙ append_assoc known (map new_decl old) (map new_decl (right_fresh (length ds) ck q'.1))
              ∙ ap (λ l. known ++ l) (sym (map-append new_decl old (right_fresh (length ds) ck q'.1)) ∙ ap (map new_decl) (sym fresh_is));
          eqs_are = e
              ∙ (λ i. a.eqs_are i ++ (q.0, (t.form ∙ ap (λ m. right_lifted m q'.1) all_length) i) ∷ [])
              ∙ sym (ap (equations_lifted N) (plain_more known qs q) ∙ lifted_more N before q');
          new_are = t.rows.eqs
              ∙ (λ i. a.new_are i ++ new_equations ((all_length ∙ ap (λ k. N + k) (sym (equations_length known N before))) i) (right_fresh (length ds) ck q'.1))
              ∙ sym (new_equations-append N (length old) old (right_fresh (length ds) ck q'.1) refl)
              ∙ ap (new_equations N) (sym fresh_is);
          origins_are = o ∙ ap (λ l. l ++ owned q) a.origins_are ∙ append_assoc origin (lifted_origins origin known qs) (owned q) ∙ ap (λ l. origin ++ l) (sym (origins_more origin known qs q));
        }

    -- the origins after one equation more, as resizing gives them
    pub resized : length origin ≡ N → (q : ℕ × Expression) (ds' : Decls) (new' : Eqs) (r : Expression) → RightTo (clock_of known q.0) (plain known q.1) ds new ds' new' r → (n : ℕ) → n ≡ length ds' → (o : ℕ) → o ≡ get_or origin q.0 0 → take n origins ++ replicate (n - length origins) o ≡ origins ++ owned q
    resized e q ds' new' r t n k o h =
        let g = right_grown (clock_of known q.0) (plain known q.1) ds new ds' new' r t in
        let c = right_count known q.1 (clock_of known q.0) in
        let l = origins_length e in
        let front : take n origins ≡ origins = take_all n origins (omega (arith, g, l, k)) in
        let count : n - length origins ≡ length (right_places (clock_of known q.0) q.1) = omega (arith, g, l, k, c) in
        λ i. front i ++ replicate (count i) (h i)

  delays_cost : (qs : Eqs) → equations_delays (plain_equations known qs) ≤ sum_by (λ q. cost 1 (λ _. 0) q.1) qs
  delays_cost [] = omega arith
  delays_cost (q ∷ qs) =
      let c = right_count known q.1 (clock_of known q.0) in
      let p = right_cost q.1 (clock_of known q.0) in
      let s = sum_by-cons (λ (q : ℕ × Expression). cost 1 (λ _. 0) q.1) q qs in
      let h = delays_cost qs in
      omega (arith, c, p, s, h)

  -- there is room for what is lifted out of one more equation
  pub room_more : (eqs : Eqs) (i : ℕ) (d : ℕ × Expression) → i < length eqs → N + sum_by (λ q. cost 1 (λ _. 0) q.1) eqs < 2 ^ 32 → (ds : Decls) (es new : Eqs) (origins : List ℕ) → AllLifted known origin (take i eqs) ds es new origins → length ds + right_delays (plain known (get_or eqs i d).1) < 2 ^ 32
  room_more eqs i d l room ds es new origins a =
      let q = get_or eqs i d in
      let n = all_length (take i eqs) ds es new origins a in
      let c = right_count known q.1 (clock_of known q.0) in
      let p = right_cost q.1 (clock_of known q.0) in
      let s = sum_by_more_le (λ (q : ℕ × Expression). cost 1 (λ _. 0) q.1) eqs i d l in
      let m = delays_cost (take i eqs) in
      omega (arith, n, c, p, s, m, room)

-- ---- the function

pub lefts_inside : (f : Function) → GoodFunction f → All (λ q. q.0 < length f.decls) f.eqs
lefts_inside f good = all_equations (λ x e. x < length f.decls) f f.eqs (all_found f good) (λ x e h. left_below f good x e h)

pub built : (f : Function) (origin : List ℕ) (ds : Decls) (eqs new : Eqs) (origins : List ℕ) → AllLifted f.decls origin f.eqs ds eqs new origins → (all : Eqs) → all ≡ eqs ++ new → (let F : Function = record { name = f.name; decls = ds; n_in = f.n_in; outs = f.outs; eqs = all } in F) ≡ normal_form f
built f origin ds eqs new origins a all e =
    λ i. record { name = f.name; decls = a.decls i; n_in = f.n_in; outs = f.outs; eqs = (e ∙ (λ j. a.eqs_are j ++ a.new_are j)) i }

-- ---- a declared clock that was read

pub clock_read : (ds : Decls) (x : ℕ) (d : Decl) → x < length ds → clock_of ds x ≡ (get_or ds x d).clock
clock_read [] x d l = absurd (omega arith)
clock_read (e ∷ ds) zero d l = refl
clock_read (e ∷ ds) (suc x) d l = clock_read ds x d (omega arith)

-- a right side that was lifted at the declared clock of its variable
pub side_lifted : {A E : Type 0} (known items : Decls) (x : ℕ) (d : Decl) (e side r : Expression) (ds : Decls) (es : Eqs) (ds' : Decls) (es' : Eqs) → items ≡ known → x < length known → d ≡ get_or items x d → side ≡ plain known e → (res : Result A E) → OnOk res (RightTo d.clock side ds es ds' es' r) → OnOk res (RightTo (clock_of known x) (plain known e) ds es ds' es' r)
side_lifted known items x d e side r ds es ds' es' p l k s res h =
    let here : d ≡ get_or known x d = k ∙ (λ i. get_or (p i) x d) in
    on_ok res _ _ (moved_right (clock_of known x) d.clock (plain known e) side ds es ds' es' r (clock_read known x d l ∙ ap (λ (d : Decl). d.clock) (sym here)) (sym s)) h

-- ---- one turn of the loop

module _ (known : Decls) (origin : List ℕ) (all taken : Eqs) (q : ℕ × Expression) (front : map (λ (z : ℕ × Expression). z) taken ≡ take (length taken) all) (inside : length taken < length all) (read : q ≡ get_or all (length taken) q) (ds : Decls) (eqs new : Eqs) (origins : List ℕ) (a : AllLifted known origin taken ds eqs new origins) where
  pub room_at : (given : Eqs) → all ≡ given → length known + sum_by (λ q. cost 1 (λ _. 0) q.1) given < 2 ^ 32 → length ds + right_delays (plain known q.1) < 2 ^ 32
  room_at given g room =
      let here : length known + sum_by (λ q. cost 1 (λ _. 0) q.1) all < 2 ^ 32 = subst (λ (z : Eqs). length known + sum_by (λ q. cost 1 (λ _. 0) q.1) z < 2 ^ 32) (sym g) room in
      let so_far : AllLifted known origin (take (length taken) all) ds eqs new origins = subst (λ qs. AllLifted known origin qs ds eqs new origins) (sym (map-id taken) ∙ front) a in
      subst (λ (e : Expression). length ds + right_delays (plain known e) < 2 ^ 32) (sym (ap (λ (z : ℕ × Expression). z.1) read)) (room_more known origin all (length taken) q inside here ds eqs new origins so_far)

-- an equation, as one turn leaves it
pub turned : (known : Decls) (origin : List ℕ) (before : Eqs) (q : ℕ × Expression) (ds : Decls) (eqs new : Eqs) (origins : List ℕ) → AllLifted known origin before ds eqs new origins
    → (ds' : Decls) (eqs' new' : Eqs) (origins' : List ℕ) (r : Expression) → length origin ≡ length known → RightTo (clock_of known q.0) (plain known q.1) ds new ds' new' r
    → (left : ℕ) → left ≡ q.0 → (pushed : ℕ × Expression) → pushed ≡ (left, r) → eqs' ≡ eqs ++ pushed ∷ []
    → (n m : ℕ) → n ≡ length ds' → m ≡ length origins → (owner : ℕ) → owner ≡ get_or origin left 0 → origins' ≡ take n origins ++ replicate (n - m) owner → AllLifted known origin (before ++ q ∷ []) ds' eqs' new' origins'
turned known origin before q ds eqs new origins a ds' eqs' new' origins' r o t left l pushed p e n m k j owner w h =
    let pushed_is : eqs' ≡ eqs ++ (q.0, r) ∷ [] = e ∙ ap (λ z. eqs ++ z ∷ []) (p ∙ ap (λ x. (x, r)) l) in
    let owner_is : owner ≡ get_or origin q.0 0 = w ∙ ap (λ x. get_or origin x 0) l in
    let resized_is = h ∙ ap (λ m. take n origins ++ replicate (n - m) owner) j ∙ resized known origin before ds eqs new origins a o q ds' new' r t n k owner owner_is in
    all_more known origin before ds eqs new origins a q ds' eqs' new' origins' r t pushed_is resized_is
