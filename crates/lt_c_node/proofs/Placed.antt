-- What a placed layout gives of the file of a node.
use Rattle.std.proofs.Common.{◌≡◌, ℕ, zero, suc, ◌<◌, ◌≤◌, ◌^◌, length, Some, get_or, refl, sym, ap, ◌∙◌, subst, arith}
use Rattle.std.specs.List.{All, slice_get}
use Rattle.std.proofs.lemmas.Option.{slice_get-get_or}
use Rattle.std.proofs.lemmas.List.Elements.{All-from_get_or}
use Rattle.lt_base.proofs.Lookups.{input_none}
use Rattle.lt_norm.specs.Flat.{Originated}
use Rattle.lt_place.specs.declared.layout.Feed.{Feed}
use Rattle.lt_place.specs.declared.layout.Feed.TheVariants.{Input, Cross}
use Rattle.lt_place.specs.declared.layout.Layout.{Layout}
use Rattle.lt_place.specs.Layout.{IsPlaced, IsPartOf, FeedFits, PartsCompile, part_of, crossing_of, no_crossing}
use Rattle.lt_place.specs.Sizes.{HasCodeRoom, IsCompilable}
use Rattle.lt_c_node.specs.NodeOf.{IsFeedOf, StartsBelow}

module _ (f : Originated) (l : Layout) (placed : IsPlaced f l) (room : HasCodeRoom f.func) where
  pub counts : length l.nodes ≡ length l.names
  counts = placed.layout.nodes ∙ sym (ap length placed.layout.names)

  -- crossings are from nodes of the layout
  pub starts : All (StartsBelow (length l.nodes)) l.cross
  unfolding crossing_of
  starts = All-from_get_or (StartsBelow (length l.nodes)) l.cross no_crossing (λ c lt. placed.layout.crossings.senders c lt)

  -- each has a reader of its own, so that there are no more than variables
  reader_most : (c : ℕ) → c < length l.cross → c ≤ (crossing_of l c).reader
  reader_most zero lt = omega arith
  reader_most (suc c) lt =
      let before = reader_most c (omega (arith, lt)) in
      let more = placed.layout.crossings.ordered c (suc c) (omega arith) lt in
      omega (arith, before, more)

  few_of : (n : ℕ) → n ≡ length l.cross → n < 2 ^ 32
  few_of zero e = omega arith
  few_of (suc c) e =
      let lt : c < length l.cross = omega (arith, e) in
      let most = reader_most c lt in
      let declared = placed.layout.crossings.readers_declared c lt in
      let few = room.variables in
      omega (arith, most, declared, few)

  pub few_crossings : length l.cross < 2 ^ 32
  few_crossings = few_of (length l.cross) refl

  module _ (compiles : PartsCompile) (n : ℕ) (lt : n < length l.nodes) where
    part : IsPartOf f placed.placement l n (part_of l n)
    part = placed.layout.parts n lt

    pub part_compiles : IsCompilable (part_of l n).flat.func
    part_compiles = compiles f l n placed room lt

    pub few_decls : length (part_of l n).flat.func.decls < 2 ^ 32
    few_decls = part_compiles.room.variables

    pub feeds_fit : length (part_of l n).feeds ≤ length (part_of l n).flat.func.decls
    feeds_fit = subst (λ k. k ≤ length (part_of l n).flat.func.decls) (sym part.fed) part.good.inputs

    feed_is : (x : ℕ) (d e : Feed) → slice_get (part_of l n).feeds x ≡ Some d → slice_get (part_of l n).feeds x ≡ Some e → FeedFits f l n (part_of l n) x d → IsFeedOf l e
    feed_is x d (Input i) h g fits = tt
    feed_is x (Cross c) (Cross b) h g fits = subst (λ k. k < length l.cross) (cc) fits.1
    feed_is x (Input i) (Cross b) h g fits = absurd (cc)

    feed_at : (x : ℕ) → x < length (part_of l n).feeds → IsFeedOf l (get_or (part_of l n).feeds x (Input 0))
    feed_at x x_lt =
        let inside : x < (part_of l n).flat.func.n_in = subst (λ k. x < k) part.fed x_lt in
        let inputs = part.good.inputs in
        let there = part.feeds x (omega (arith, inside, inputs)) (input_none (part_of l n).flat.func part.good x inside) in
        feed_is x there.0 (get_or (part_of l n).feeds x (Input 0)) there.1 (slice_get-get_or (part_of l n).feeds x (Input 0) x_lt) there.2

    pub feeds_are : All (IsFeedOf l) (part_of l n).feeds
    feeds_are = All-from_get_or (IsFeedOf l) (part_of l n).feeds (Input 0) feed_at
