-- An auditor before the first event.
use Rattle.std.proofs.Common.{◌≡◌, ◌∙◌, ℕ, ◌+◌, ◌*◌, ◌<◌, ◌^◌, List, [], length, replicate, refl, sym, ap, subst}
use Rattle.std.proofs.lemmas.List.{get_or-replicate, length-replicate}
use Rattle.lt_arch.specs.declared.shape.Shape.{Shape}
use Rattle.lt_arch.specs.declared.timing.Timing.{Timing}
use Rattle.lt_arch.specs.Readers.{node_count, chan_count}
use Rattle.lt_arch.specs.Shapes.{HaveSameNodes}
use Rattle.lt_lossy.specs.State.{LinkState, lossy_start}
use Rattle.lt_lossy.specs.Times.{LossyTimes, HasLossyTimes}
use Rattle.lt_lossy.specs.Window.{HasWindow}
use Rattle.lt_lossy_audit.specs.declared.seen.Seen.{Seen}
use Rattle.lt_lossy_audit.specs.Links.{link_seen, no_link}
use Rattle.lt_lossy_audit.specs.Nodes.{IsSeen, node_seen, nothing_seen}
use Rattle.lt_lossy_audit.specs.LossyAudit.{LossyAuditState, LossyAuditStands, IsKeptLossyAudit}

module _ (s : Shape) (t : Timing) (limit rows : ℕ) (w : LossyTimes) (nodes : List Seen) (links : List LinkState) (nodes_are : nodes ≡ replicate (node_count s) nothing_seen) (links_are : links ≡ replicate (chan_count s) no_link)
    (times : HasLossyTimes w s t limit lossy_start) where
  abbrev first : LossyAuditState
  first = record { shape = s; rows = rows; watch = w; nodes = nodes; links = links }

  pub stands_first : LossyAuditStands first s t limit rows []
  stands_first = record {
    rows_are = refl;
    free = tt;
    state = record {
      shape = refl;
      times = times;
      node = λ n lt. subst (λ (x : Seen). IsSeen x (lossy_start.node n)) (sym (ap (λ (xs : List Seen). node_seen xs n) nodes_are ∙ get_or-replicate (node_count s) n nothing_seen nothing_seen lt)) (record { phase = refl; executed = refl });
      link = λ c lt. ap (λ (ls : List LinkState). link_seen ls c) links_are ∙ get_or-replicate (chan_count s) c no_link no_link lt;
    };
  }

  pub kept_first : HaveSameNodes s t → HasWindow t → 2 * (node_count s + chan_count s) < 2 ^ 32 → limit < 2 ^ 64 → IsKeptLossyAudit first
  kept_first same window numbered fits = record {
    numbered = numbered;
    nodes = ap (λ (xs : List Seen). length xs) nodes_are ∙ length-replicate (node_count s) nothing_seen;
    links = ap (λ (ls : List LinkState). length ls) links_are ∙ length-replicate (chan_count s) no_link;
    timing = t;
    limit = limit;
    limit_fits = fits;
    events = [];
    same = same;
    window = window;
    stands = stands_first;
  }
