use Rattle.std.proofs.Common.{◌∙◌, ap, sym, subst}
use Rattle.lt_arch.specs.declared.shape.Shape.{Shape}
use Rattle.lt_arch.specs.Readers.{node_count}
use Rattle.lt_link.specs.Ports.{all_ports, HasPorts}
use Rattle.lt_link.proofs.Nodes.{has_ports}
use Rattle.lt_link.proofs.wiring.Wiring.incoming.Goals as goal

pub incoming-requires : goal.incoming-requires
incoming-requires c =
    let s = c.args.self.now in
    let listed = c.self.invariant ∙ ap (λ (q : Shape). all_ports q.channels (node_count q)) c.self.view_is in
    let channels = c.deref.ensures ∙ ap (λ (q : Shape). q.channels) c.self.view_is in
    subst (λ cs. HasPorts cs c.args.node c.self.inside.ports) (sym channels) (has_ports s.channels _ (node_count s) c.args.node listed c.requires)
