use Rattle.std.proofs.Common.{◌≡◌, ◌∙◌, ℕ, List, [], length, map, replicate, None, sym, ap, subst}
use Rattle.lt_arch.specs.declared.shape.Shape.{Shape}
use Rattle.lt_arch.specs.State.{ChanState, start}
use Rattle.lt_arch.specs.Readers.{chan_count}
use Rattle.lt_arch.specs.Times.{HasTimes}
use Rattle.lt_audit.specs.Audit.{IsKeptAudit, kept_of, no_chan_state}
use Rattle.lt_audit.specs.Standing.{AuditStands}
use Rattle.lt_audit.proofs.Started.{first_stands, first_kept}
use Rattle.lt_audit.proofs.audit.Audit.of_wiring.Goals as goal

pub returns-clause-kept : goal.returns-clause-kept
returns-clause-kept c =
    let s = c.args.wiring in
    let t = c.args.timing.now in
    let members = c.in_ok-members.members.items in
    let lines_are : map kept_of c.in_ok-members.lines.items ≡ replicate (chan_count s) no_chan_state = c.in_ok-members.ensures.lines ∙ ap (λ (k : ℕ). replicate {A = ChanState} k no_chan_state) (ap length c.channels.ensures) in
    let watched : HasTimes c.in_ok-watch.watch s t (start t.protocol) = subst (λ (q : Shape). HasTimes c.in_ok-watch.watch q t (start t.protocol)) c.shape.ensures c.in_ok-watch.ensures in
    subst (λ (ks : List ChanState). IsKeptAudit (record { shape = s; protocol = t.protocol; rows = c.args.rows; watch = c.in_ok-watch.watch; members = members; chans = ks; taken = 0; first = None })) (sym lines_are)
    (first_kept s t c.args.rows c.in_ok-watch.watch members c.requires.same watched c.in_ok-members.ensures.members c.ranges.rows.fits c.requires.numbered)

pub returns-clause-stands : goal.returns-clause-stands
returns-clause-stands c =
    let s = c.args.wiring in
    let t = c.args.timing.now in
    let members = c.in_ok-members.members.items in
    let lines_are : map kept_of c.in_ok-members.lines.items ≡ replicate (chan_count s) no_chan_state = c.in_ok-members.ensures.lines ∙ ap (λ (k : ℕ). replicate {A = ChanState} k no_chan_state) (ap length c.channels.ensures) in
    let watched : HasTimes c.in_ok-watch.watch s t (start t.protocol) = subst (λ (q : Shape). HasTimes c.in_ok-watch.watch q t (start t.protocol)) c.shape.ensures c.in_ok-watch.ensures in
    subst (λ (ks : List ChanState). AuditStands (record { shape = s; protocol = t.protocol; rows = c.args.rows; watch = c.in_ok-watch.watch; members = members; chans = ks; taken = 0; first = None }) s t c.args.rows []) (sym lines_are)
    (first_stands s t c.args.rows c.in_ok-watch.watch members c.requires.same watched c.in_ok-members.ensures.members)
