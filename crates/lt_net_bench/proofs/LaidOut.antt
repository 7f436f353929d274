-- What a placed layout gives a net.
use Rattle.std.proofs.Common.{◌≡◌, inl, inr, ℕ, zero, suc, ◌<◌, List, [], ◌∷◌, length, Option, Some, None, refl, sym, ap, ◌∙◌, subst, arith, get_or}
use Rattle.std.specs.List.{slice_get}
use Rattle.std.proofs.lemmas.Bool.{cases_lt}
use Rattle.std.proofs.lemmas.Option.{slice_get_within, get_or_from_slice_get}
use Rattle.lt_base.specs.declared.value.Ty.{Ty}
use Rattle.lt_base.specs.declared.value.Ty.TheVariants.{Int as IntTy, Bool as BoolTy}
use Rattle.lt_base.specs.declared.function.Decl.{Decl}
use Rattle.lt_base.specs.Value.{ty_of}
use Rattle.lt_base.specs.Expression.{variable, delayed}
use Rattle.lt_base.specs.Typing.{ty_at, both_types, shared_type}
use Rattle.lt_base.specs.Meaning.{ClockPairs, clock_of}
use Rattle.lt_base.specs.Placed.{below}
use Rattle.lt_base.proofs.Lookups.{input_none}
use Rattle.lt_norm.specs.Flat.{Originated}
use Rattle.lt_place_reads.specs.Origins.{variable_count, origin_of}
use Rattle.lt_place.specs.declared.layout.Feed.{Feed}
use Rattle.lt_place.specs.declared.layout.Feed.TheVariants.{Input, Cross}
use Rattle.lt_place.specs.declared.layout.Part.{Part}
use Rattle.lt_place.specs.declared.layout.Layout.{Layout}
use Rattle.lt_arch.specs.declared.placement.Placement.{Placement}
use Rattle.lt_place.specs.Layout.{IsPlaced, IsPartOf, HasCrossings, PartGives, FeedFits, part_of, crossing_of}
use Rattle.lt_place.specs.Nodes.{node_of}
use Rattle.lt_net_node.specs.Layout.{IsLaidOut, Feeds}

-- two types that are shared are the same
shared_both : (a : Ty) (o : Option Ty) (t : Ty) → both_types shared_type (Some a) o ≡ Some t → (o ≡ Some a) × (t ≡ a)
shared_both IntTy None t h = absurd (cc)
shared_both BoolTy None t h = absurd (cc)
shared_both IntTy (Some IntTy) t h = (refl, cc)
shared_both IntTy (Some BoolTy) t h = absurd (cc)
shared_both BoolTy (Some IntTy) t h = absurd (cc)
shared_both BoolTy (Some BoolTy) t h = (refl, cc)

no_clock : (r : ℕ → ℕ) (ck : ClockPairs) → below r ck [] ≡ [] → ck ≡ []
no_clock r [] h = refl
no_clock r ((c, b) ∷ ck) h = absurd (cc)

ty_some : (ds : List Decl) (x : ℕ) → x < length ds → (t : Ty) × (ty_at ds x ≡ Some t)
ty_some [] x lt = absurd (omega (arith, lt))
ty_some (d ∷ ds) zero lt = (d.ty, refl)
ty_some (d ∷ ds) (suc x) lt = ty_some ds x (omega (arith, lt))

ty_within : (ds : List Decl) (x : ℕ) (t : Ty) → ty_at ds x ≡ Some t → x < length ds
ty_within [] x t h = absurd (cc)
ty_within (d ∷ ds) zero t h = omega arith
ty_within (d ∷ ds) (suc x) t h = let w = ty_within ds x t h in omega (arith, w)

fits_feed : (f : Originated) (l : Layout) (n : ℕ) (q : Part) (x : ℕ) (d : Feed) → FeedFits f l n q x d → Feeds f.func l n q x d
fits_feed f l n q x (Input i) h = h
fits_feed f l n q x (Cross c) h = h

crossed : (f : Originated) (l : Layout) (n : ℕ) (q : Part) (x c : ℕ) (d : Feed) → d ≡ Cross c → FeedFits f l n q x d → (origin_of q.flat x ≡ (crossing_of l c).reader) × (c < length l.cross) × ((crossing_of l c).to ≡ n)
crossed f l n q x c d is h = subst (λ d. FeedFits f l n q x d) is h

module _ (f : Originated) (l : Layout) (placed : IsPlaced f l) where
  abbrev p : Placement
  p = placed.placement

  pub part : (n : ℕ) → n < length l.nodes → IsPartOf f p l n (part_of l n)
  part n lt = placed.layout.parts n lt

  cs : HasCrossings f p l
  cs = placed.layout.crossings

  pub at_feed : (n x : ℕ) (d : Feed) → n < length l.nodes → slice_get (part_of l n).feeds x ≡ Some d → (x < variable_count (part_of l n).flat) × FeedFits f l n (part_of l n) x d
  at_feed n x d lt is =
      let q = part n lt in
      let w = slice_get_within (part_of l n).feeds x d is in
      let inside : x < (part_of l n).flat.func.n_in = omega (arith, w, q.fed) in
      let declared : x < length (part_of l n).flat.func.decls = omega (arith, inside, q.good.inputs) in
      let feed = q.feeds x declared (input_none (part_of l n).flat.func q.good x inside) in
      let same : feed.0 ≡ d = let e : Some (feed.0) ≡ Some d = sym (feed.1) ∙ is in cc in
      (declared, subst (λ d. FeedFits f l n (part_of l n) x d) same feed.2)

  rights : (c : ℕ) → c < length l.cross → (ty_at f.func.decls (crossing_of l c).var ≡ Some (ty_of (crossing_of l c).first)) × (ty_at f.func.decls (crossing_of l c).reader ≡ Some (ty_of (crossing_of l c).first))
  rights c lt =
      let t = ty_some f.func.decls (crossing_of l c).reader (cs.readers_declared c lt) in
      let h = placed.typed.rights (crossing_of l c).reader (delayed (crossing_of l c).first (variable (crossing_of l c).var)) (cs.readers c lt) ∙ t.1 in
      let both = shared_both (ty_of (crossing_of l c).first) (ty_at f.func.decls (crossing_of l c).var) t.0 h in
      (both.0, t.1 ∙ ap (λ t. Some t) both.1)

  gives_crossing : (c : ℕ) → c < length l.cross → (x : ℕ) × PartGives (part_of l (crossing_of l c).from) (crossing_of l c).var x
  gives_crossing c lt =
      (part (crossing_of l c).from (cs.senders c lt)).gives (crossing_of l c).var (ty_within f.func.decls (crossing_of l c).var _ (rights c lt).0) (sym (cs.from_node c lt)) (inr (c, lt, refl))

  given_at : (n v x : ℕ) → n < length l.nodes → PartGives (part_of l n) v x → (x < variable_count (part_of l n).flat) × (origin_of (part_of l n).flat x ≡ v)
  given_at n v x lt g = let h = (part n lt).given v x g in (h.0, h.1)

  node_is : (n v x : ℕ) → n < length l.nodes → PartGives (part_of l n) v x → node_of f p v ≡ n
  node_is n v x lt g = let h = given_at n v x lt g in ap (node_of f p) (sym h.1) ∙ ((part n lt).on_node x h.0).1

  place_once : (n i j v : ℕ) → n < length l.nodes → slice_get (part_of l n).outs i ≡ Some v → slice_get (part_of l n).outs j ≡ Some v → i ≡ j
  place_once n i j v lt a b =
      let wa = slice_get_within (part_of l n).outs i v a in
      let wb = slice_get_within (part_of l n).outs j v b in
      let ga : get_or (part_of l n).outs i 0 ≡ v = get_or_from_slice_get (part_of l n).outs i v 0 a in
      let gb : get_or (part_of l n).outs j 0 ≡ v = get_or_from_slice_get (part_of l n).outs j v 0 b in
      elim (cases_lt i j) [
        | inl h ↦ let less = (part n lt).ascending i j h wb in absurd (omega (arith, less, ga, gb))
        | inr h ↦ elim (cases_lt j i) [
          | inl k ↦ let less = (part n lt).ascending j i k wa in absurd (omega (arith, less, ga, gb))
          | inr k ↦ omega (arith, h, k)
        ]
      ]

  pub laid_out : IsLaidOut f.func l
  laid_out = record {
    causal = placed.causal;
    parts_causal = λ n lt. (part n lt).causal;
    parts_clocked = λ n lt. (part n lt).clocked;
    parts = λ n lt. (part n lt).stands;
    feeds = λ n x lt d h. let feed = (part n lt).feeds x d h in (feed.0, feed.1, fits_feed f l n (part_of l n) x feed.0 feed.2);
    crosses = λ n x c lt h. let at = at_feed n x (Cross c) lt h in (at.1.1, at.1.2);
    readers = cs.readers;
    readers_on_base = cs.readers_on_base;
    readers_declared = cs.readers_declared;
    senders = cs.senders;
    receivers = cs.receivers;
    gives = gives_crossing;
    given_origin = λ n v x lt g. (given_at n v x lt g).1;
    given_declared = λ n v x lt g. (given_at n v x lt g).0;
    vars_on_base = cs.vars_on_base;
    clocks = λ n x lt d. (part n lt).clocks x d;
    parts_good = λ n lt. (part n lt).good;
    parts_typed = λ n lt. (part n lt).typed;
    fed = λ n lt. (part n lt).fed;
    outs = λ n lt. (part n lt).outs;
    one_node = λ n m v x y nl ml g h. sym (node_is n v x nl g) ∙ node_is m v y ml h;
    one_place = place_once;
    one_reader = λ b c lb lc same. elim (cases_lt b c) [
      | inl h ↦ let less = cs.ordered b c h lc in absurd (omega (arith, less, same))
      | inr h ↦ elim (cases_lt c b) [
        | inl k ↦ let less = cs.ordered c b k lb in absurd (omega (arith, less, same))
        | inr k ↦ omega (arith, h, k)
      ]
    ];
    sent_type = λ c x lt g. let h = given_at (crossing_of l c).from (crossing_of l c).var x (cs.senders c lt) g in
        (part (crossing_of l c).from (cs.senders c lt)).types x h.0 ∙ ap (ty_at f.func.decls) h.1 ∙ (rights c lt).0;
    sent_base = λ c x lt g.
        let h = given_at (crossing_of l c).from (crossing_of l c).var x (cs.senders c lt) g in
        no_clock (origin_of (part_of l (crossing_of l c).from).flat) (clock_of (part_of l (crossing_of l c).from).flat.func.decls x)
        (sym ((part (crossing_of l c).from (cs.senders c lt)).clocks x h.0) ∙ ap (clock_of f.func.decls) h.1 ∙ cs.vars_on_base c lt);
    fed_type = λ n x c lt h.
        let at = at_feed n x (Cross c) lt h in
        (part n lt).types x at.0 ∙ ap (ty_at f.func.decls) at.1.0 ∙ (rights c at.1.1).1;
  }
