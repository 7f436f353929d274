-- Room stays.
use Rattle.std.proofs.Common.{◌≡◌, ℕ, ◌<◌, List, sym, subst}
use Rattle.lt_arch.specs.declared.chan.Chan.{Chan}
use Rattle.lt_arch.specs.Readers.{node_count}
use Rattle.lt_arch.specs.Times.{Times}
use Rattle.lt_link.specs.Inbox.{InboxState}
use Rattle.lt_net.specs.Net.{TimedBenchState}
use Rattle.lt_net.specs.Kept.{NetHasRoom}
use Rattle.lt_link.specs.Ports.{HasPorts}

-- neither the watch nor a controller nor an inbox takes room
pub room_stays : {C M : Type 0} (net now : TimedBenchState C M) → net ≡ now → NetHasRoom now → (w : Times) (cs : List C) (boxes : List InboxState) (values : ℕ) → values ≡ net.values → NetHasRoom (record net { watch = w; controllers = cs; inboxes = boxes; values = values })
room_stays net now is room w cs boxes values same =
    let r = subst (λ z. NetHasRoom z) (sym is) room in
    subst (λ v. NetHasRoom (record net { watch = w; controllers = cs; inboxes = boxes; values = v })) (sym same) (record {
      messages = r.messages;
      inputs = r.inputs;
      outputs = r.outputs;
      tracks = r.tracks;
      cells = r.cells;
      routes = r.routes;
      exits = r.exits;
      ports = r.ports;
    })

-- a node's channels stand in the table
pub ports_there : {C M : Type 0} (net now : TimedBenchState C M) → net ≡ now → NetHasRoom now → (n : ℕ) → n < node_count now.shape → (cs : List Chan) → cs ≡ net.shape.channels → HasPorts cs n net.ports
ports_there net now is room n lt cs same =
    let r = subst (λ z. NetHasRoom z) (sym is) room in
    subst (λ xs. HasPorts xs n net.ports) (sym same) (r.ports n (subst (λ z. n < node_count z.shape) (sym is) lt))
