use Rattle.std.proofs.Common.{◌∙◌, ap, replicate}
use Rattle.lt_lossy_audit.specs.Links.{no_link}
use Rattle.lt_lossy_audit.specs.Nodes.{nothing_seen}
use Rattle.lt_lossy_audit.proofs.StartedSeen.{kept_first, stands_first}
use Rattle.lt_lossy_audit.proofs.audit.LossyAudit.start.Goals as goal

pub returns-clause-kept : goal.returns-clause-kept
returns-clause-kept c =
    kept_first c.args.shape c.args.timing.now c.args.limit c.args.rows c.in_ok-watch.watch c.in_ok-nodes.nodes.items c.in_ok-links.links.items
    (c.in_ok-nodes.ensures ∙ ap (λ n. replicate n nothing_seen) c.len.ensures) (c.in_ok-links.ensures ∙ ap (λ n. replicate n no_link) c.len-2.ensures) c.in_ok-watch.ensures
    c.requires.same c.requires.window c.requires.numbered c.ranges.limit.fits

pub returns-clause-stands : goal.returns-clause-stands
returns-clause-stands c =
    stands_first c.args.shape c.args.timing.now c.args.limit c.args.rows c.in_ok-watch.watch c.in_ok-nodes.nodes.items c.in_ok-links.links.items
    (c.in_ok-nodes.ensures ∙ ap (λ n. replicate n nothing_seen) c.len.ensures) (c.in_ok-links.ensures ∙ ap (λ n. replicate n no_link) c.len-2.ensures) c.in_ok-watch.ensures
