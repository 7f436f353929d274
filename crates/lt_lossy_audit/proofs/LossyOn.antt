-- An auditor after one event more.
use Rattle.std.proofs.Common.{◌≡◌, ◌∙◌, ℕ, ◌+◌, ◌*◌, ◌^◌, ◌<◌, List, [], ◌∷◌, ◌++◌, length, None, sym, ap, subst, arith, length-set}
use Rattle.std.proofs.lemmas.List.{get_or-set_same}
use Rattle.lt_arch.specs.declared.event.Event.TheVariants.{Act, Del, End}
use Rattle.lt_arch.specs.declared.shape.Shape.{Shape}
use Rattle.lt_arch.specs.declared.timing.Timing.{Timing}
use Rattle.lt_arch.specs.Readers.{node_count, chan_count}
use Rattle.lt_arch.specs.Shapes.{HaveSameNodes}
use Rattle.lt_lossy.specs.declared.event.LossyEvent.{LossyEvent}
use Rattle.lt_lossy.specs.declared.event.LossyEvent.TheVariants.{Plain, Lose}
use Rattle.lt_lossy.specs.State.{LossyState, lossy_start}
use Rattle.lt_lossy.specs.Step.{lossy_offence}
use Rattle.lt_lossy.specs.Schedule.{lossy_reached}
use Rattle.lt_lossy.specs.Times.{IsLossyPlaced}
use Rattle.lt_lossy.specs.Events.{IsLossyPlacedIn}
use Rattle.lt_lossy_audit.specs.declared.seen.Seen.{Seen}
use Rattle.lt_lossy_audit.specs.Nodes.{node_seen, nothing_seen}
use Rattle.lt_lossy_audit.specs.LossyAudit.{LossyAuditState, LossyAuditStands, HasLossyState, IsKeptLossyAudit, KnowsLossyDeed}
use Rattle.lt_lossy_audit.specs.LossyActs.{LossyAuditTakes}
use Rattle.lt_lossy_audit.proofs.NextLossy.{next_lossy}
use Rattle.lt_lossy_audit.proofs.NodeSeen.{did_is}
use Rattle.lt_lossy_audit.proofs.SpaceSeen.{after_more, free_more}

-- an event of the shape is one of the watch
pub placed_in_watch : (a : LossyAuditState) (kept : IsKeptLossyAudit a) (e : LossyEvent) → IsLossyPlacedIn a.shape e → IsLossyPlaced a.watch e
placed_in_watch a kept (Plain (Act n at)) placed = let size = kept.stands.state.times.node_count in omega (arith, placed, size)
placed_in_watch a kept (Plain (Del c at)) placed = let size = kept.stands.state.times.queue_count in omega (arith, placed, size)
placed_in_watch a kept (Plain (End at)) placed = tt
placed_in_watch a kept (Lose c at) placed = let size = kept.stands.state.times.queue_count in omega (arith, placed, size)

module _ (a b : LossyAuditState) (e : LossyEvent) (nodes : length a.nodes ≡ node_count a.shape) (links : length a.links ≡ chan_count a.shape) (placed : IsLossyPlacedIn a.shape e) (takes : LossyAuditTakes a b e) where
  -- What no event changes.

  pub shape_on : b.shape ≡ a.shape
  shape_on = by e takes
    where
      by : (e : LossyEvent) → LossyAuditTakes a b e → b.shape ≡ a.shape
      by (Plain (Act n at)) acts = ap (λ (k : LossyAuditState). k.shape) acts.is
      by (Plain (Del c at)) is = ap (λ (k : LossyAuditState). k.shape) is
      by (Plain (End at)) is = ap (λ (k : LossyAuditState). k.shape) is
      by (Lose c at) is = ap (λ (k : LossyAuditState). k.shape) is

  pub rows_on : b.rows ≡ a.rows
  rows_on = by e takes
    where
      by : (e : LossyEvent) → LossyAuditTakes a b e → b.rows ≡ a.rows
      by (Plain (Act n at)) acts = ap (λ (k : LossyAuditState). k.rows) acts.is
      by (Plain (Del c at)) is = ap (λ (k : LossyAuditState). k.rows) is
      by (Plain (End at)) is = ap (λ (k : LossyAuditState). k.rows) is
      by (Lose c at) is = ap (λ (k : LossyAuditState). k.rows) is

  nodes_on : length b.nodes ≡ length a.nodes
  nodes_on = by e takes
    where
      by : (e : LossyEvent) → LossyAuditTakes a b e → length b.nodes ≡ length a.nodes
      by (Plain (Act n at)) acts = ap (λ (k : LossyAuditState). length k.nodes) acts.is ∙ length-set a.nodes n acts.woken
      by (Plain (Del c at)) is = ap (λ (k : LossyAuditState). length k.nodes) is
      by (Plain (End at)) is = ap (λ (k : LossyAuditState). length k.nodes) is
      by (Lose c at) is = ap (λ (k : LossyAuditState). length k.nodes) is

  links_on : length b.links ≡ length a.links
  links_on = by e takes
    where
      by : (e : LossyEvent) → LossyAuditTakes a b e → length b.links ≡ length a.links
      by (Plain (Act n at)) acts = ap (λ (k : LossyAuditState). length k.links) acts.is ∙ acts.sends.same_length
      by (Plain (Del c at)) is = ap (λ (k : LossyAuditState). length k.links) is ∙ length-set a.links c _
      by (Plain (End at)) is = ap (λ (k : LossyAuditState). length k.links) is
      by (Lose c at) is = ap (λ (k : LossyAuditState). length k.links) is ∙ length-set a.links c _

  -- It stands for the events with this one.
  module _ (t : Timing) (limit : ℕ) (es : List LossyEvent) (stands : LossyAuditStands a a.shape t limit a.rows es) (none : lossy_offence a.shape t limit (lossy_reached a.shape t a.rows es) e ≡ None) where
    stands_now : LossyAuditStands b a.shape t limit a.rows (es ++ e ∷ [])
    stands_now = record {
      rows_are = rows_on;
      free = free_more a.shape t limit a.rows lossy_start es e stands.free none;
      state = subst (λ (st : LossyState). HasLossyState b a.shape t limit st) (sym (after_more a.shape t a.rows lossy_start es e))
          (next_lossy a t limit (lossy_reached a.shape t a.rows es) stands.state nodes links e b placed none takes);
    }

  pub kept_on : (kept : IsKeptLossyAudit a) → lossy_offence a.shape kept.timing kept.limit (lossy_reached a.shape kept.timing a.rows kept.events) e ≡ None → IsKeptLossyAudit b
  kept_on kept none = record {
    numbered = subst (λ (s : Shape). 2 * (node_count s + chan_count s) < 2 ^ 32) (sym shape_on) kept.numbered;
    nodes = nodes_on ∙ nodes ∙ ap node_count (sym shape_on);
    links = links_on ∙ links ∙ ap chan_count (sym shape_on);
    timing = kept.timing;
    limit = kept.limit;
    limit_fits = kept.limit_fits;
    events = kept.events ++ e ∷ [];
    same = subst (λ (s : Shape). HaveSameNodes s kept.timing) (sym shape_on) kept.same;
    window = kept.window;
    stands = subst (λ (s : Shape). LossyAuditStands b s kept.timing kept.limit b.rows (kept.events ++ e ∷ [])) (sym shape_on)
        (subst (λ (r : ℕ). LossyAuditStands b a.shape kept.timing kept.limit r (kept.events ++ e ∷ [])) (sym rows_on) (stands_now kept.timing kept.limit kept.events kept.stands none));
  }

  module _ (s : Shape) (t : Timing) (limit rows : ℕ) (es : List LossyEvent) (stands : LossyAuditStands a s t limit rows es) where
    here : LossyAuditStands a a.shape t limit a.rows es
    here = subst (λ (r : ℕ). LossyAuditStands a a.shape t limit r es) (sym stands.rows_are) (subst (λ (q : Shape). LossyAuditStands a q t limit rows es) (sym stands.state.shape) stands)

    pub stands_on : lossy_offence s t limit (lossy_reached s t rows es) e ≡ None → LossyAuditStands b s t limit rows (es ++ e ∷ [])
    stands_on none =
        let none_here : lossy_offence a.shape t limit (lossy_reached a.shape t a.rows es) e ≡ None =
        subst (λ (r : ℕ). lossy_offence a.shape t limit (lossy_reached a.shape t r es) e ≡ None) (sym stands.rows_are) (subst (λ (q : Shape). lossy_offence q t limit (lossy_reached q t rows es) e ≡ None) (sym stands.state.shape) none) in
        subst (λ (r : ℕ). LossyAuditStands b s t limit r (es ++ e ∷ [])) stands.rows_are
        (subst (λ (q : Shape). LossyAuditStands b q t limit a.rows (es ++ e ∷ [])) stands.state.shape (stands_now t limit es here none_here))

    deed_now : KnowsLossyDeed b a.shape a.rows (lossy_reached a.shape t a.rows es) e
    deed_now = by e placed takes
      where
        by : (e : LossyEvent) → IsLossyPlacedIn a.shape e → LossyAuditTakes a b e → KnowsLossyDeed b a.shape a.rows (lossy_reached a.shape t a.rows es) e
        by (Plain (Act n at)) ln acts =
            ap (λ (k : LossyAuditState). (node_seen k.nodes n).did) acts.is ∙ (ap (λ (x : Seen). x.did) (get_or-set_same a.nodes n acts.woken nothing_seen (omega (arith, ln, nodes)))
            ∙ did_is a t limit (lossy_reached a.shape t a.rows es) here.state n ln acts.woken acts.wakes)
        by (Plain (Del c at)) lc is = tt
        by (Plain (End at)) lc is = tt
        by (Lose c at) lc is = tt

    pub deed_known : KnowsLossyDeed b s rows (lossy_reached s t rows es) e
    deed_known = subst (λ (r : ℕ). KnowsLossyDeed b s r (lossy_reached s t r es) e) stands.rows_are (subst (λ (q : Shape). KnowsLossyDeed b q a.rows (lossy_reached q t a.rows es) e) stands.state.shape deed_now)
