-- The loop over the equations of a function, and the function that it makes.
use Rattle.std.proofs.Common.{◌≡◌, ℕ, zero, suc, ◌+◌, ◌-◌, ◌^◌, ◌<◌, List, [], ◌∷◌, ◌++◌, length, take, get_or, replicate, All, refl, sym, ap, ◌∙◌, subst, arith}
use Rattle.std.specs.List.{range_with_len}
use Rattle.std.proofs.lemmas.List.{take_more}
use Rattle.lt_base.specs.declared.function.Decl.{Decl}
use Rattle.lt_base.specs.Expression.{Expression}
use Rattle.lt_base.specs.Program.{Function, GoodFunction}
use Rattle.lt_base.specs.Meaning.{clock_of}
use Rattle.lt_base.proofs.Lookups.{all_found, left_below}
use Rattle.lt_expand.specs.Copies.{Library, grown, equations_grown, with_copies}
use Rattle.lt_expand.specs.Walk.{InlinedTo, AllInlined, owners}
use Rattle.lt_expand.proofs.Basics.{all_equations}
use Rattle.lt_expand.proofs.Loops.{all_length, all_more, room_more}

module _ (lib : Library) (known : List Decl) (items : List (ℕ × Expression)) (i : ℕ) (q : ℕ × Expression) (read : q ≡ get_or items i q) (inside : i < length items) (ds : List Decl) (eqs copied : List (ℕ × Expression)) (origins : List ℕ) (a : AllInlined lib known (take i items) ds eqs copied origins) where
  pub open_room : (all : List (ℕ × Expression)) → items ≡ all → length known + equations_grown lib all < 2 ^ 32 → length ds + grown lib q.1 < 2 ^ 32
  open_room all p room =
      let n = all_length lib known (take i items) ds eqs copied origins a in
      let m = room_more lib known items i q inside in
      let r = ap (λ (z : ℕ × Expression). grown lib z.1) read in
      let t = ap (equations_grown lib) p in
      omega (arith, n, m, r, t, room)

  pub open_turn : (ds' : List Decl) (eqs' copied' : List (ℕ × Expression)) (origins' : List ℕ) (r : Expression) → InlinedTo lib (clock_of known q.0) q.1 ds copied ds' copied' r → (left : ℕ) (pushed : ℕ × Expression) → left ≡ q.0 → pushed ≡ (left, r) → eqs' ≡ eqs ++ pushed ∷ [] → (n m left' : ℕ) → n ≡ length ds' → m ≡ length origins → left' ≡ q.0 → origins' ≡ take n origins ++ replicate (n - m) left' → AllInlined lib known (take (i + 1) items) ds' eqs' copied' origins'
  open_turn ds' eqs' copied' origins' r t left pushed l p e n m left' k j h s =
      let pushed_is : eqs' ≡ eqs ++ (q.0, r) ∷ [] = e ∙ ap (λ z. eqs ++ z ∷ []) (p ∙ ap (λ x. (x, r)) l) in
      subst (λ qs. AllInlined lib known qs ds' eqs' copied' origins') (ap (λ z. take i items ++ z ∷ []) read ∙ sym (take_more items i q inside))
      (all_more lib known (take i items) ds eqs copied origins a q ds' eqs' copied' origins' r t pushed_is n m left' k j h s)

-- ---- a declared clock that was read

clock_read : (ds : List Decl) (x : ℕ) (d : Decl) → x < length ds → clock_of ds x ≡ (get_or ds x d).clock
clock_read [] x d l = absurd (omega arith)
clock_read (e ∷ ds) zero d l = refl
clock_read (e ∷ ds) (suc x) d l = clock_read ds x d (omega arith)

-- a right side at the declared clock of its variable
pub side_inlined : (lib : Library) (known items : List Decl) (x left : ℕ) (d : Decl) (e side r : Expression) (ds : List Decl) (es : List (ℕ × Expression)) (ds' : List Decl) (es' : List (ℕ × Expression)) → items ≡ known → left ≡ x → x < length known → d ≡ get_or items left d → side ≡ e → InlinedTo lib d.clock side ds es ds' es' r → InlinedTo lib (clock_of known x) e ds es ds' es' r
side_inlined lib known items x left d e side r ds es ds' es' p q l k s h =
    let here : d ≡ get_or known x d = k ∙ (λ i. get_or (p i) (q i) d) in
    let clock : d.clock ≡ clock_of known x = ap (λ (d : Decl). d.clock) here ∙ sym (clock_read known x d l) in
    subst (λ ck. InlinedTo lib ck e ds es ds' es' r) clock (subst (λ a. InlinedTo lib d.clock a ds es ds' es' r) s h)

-- ---- the function that is made

lefts_inside : (f : Function) → GoodFunction f → All (λ q. q.0 < length f.decls) f.eqs
lefts_inside f good = all_equations (λ x e. x < length f.decls) f f.eqs (all_found f good) (λ x e h. left_below f good x e h)

module _ (lib : Library) (f F : Function) (view : f ≡ F) where
  pub open_lefts : GoodFunction F → All (λ q. q.0 < length f.decls) f.eqs
  open_lefts good = subst (λ (g : Function). All (λ q. q.0 < length g.decls) g.eqs) (sym view) (lefts_inside F good)

  module _ (name : List ℕ) (decls decls' : List Decl) (outs : List ℕ) (all all' eqs copied : List (ℕ × Expression)) (origins : List ℕ) (a : AllInlined lib f.decls f.eqs decls' eqs copied origins) (n : name ≡ f.name) (d : decls ≡ decls') (u : outs ≡ f.outs) (e' : all ≡ all') (e : all' ≡ eqs ++ copied) where
    abbrev made : Function
    made = record { name = name; decls = decls; n_in = f.n_in; outs = outs; eqs = all }

    made_is : made ≡ with_copies lib F
    made_is =
        (λ i. record { name = n i; decls = (d ∙ a.decls) i; n_in = f.n_in; outs = u i; eqs = (e' ∙ e ∙ (λ j. a.eqs_are j ++ a.copied_are j)) i })
        ∙ ap (with_copies lib) view

    pub made_good : GoodFunction (with_copies lib F) → GoodFunction made
    made_good = subst GoodFunction (sym made_is)

    pub made_form : (g : Function) → g ≡ made → g ≡ with_copies lib F
    made_form g p = p ∙ made_is

    pub made_origins : (os : List ℕ) → os ≡ origins → os ≡ range_with_len 0 (length F.decls) ++ owners lib F.eqs
    made_origins os p = p ∙ a.origins_are ∙ ap (λ (g : Function). range_with_len 0 (length g.decls) ++ owners lib g.eqs) view
