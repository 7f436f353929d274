use Rattle.std.proofs.Common.{Bool, true, List, [], ◌∷◌, ◌++◌, length, sym, ap, subst, refl, ◌∙◌}
use Rattle.std.proofs.lemmas.List.{with_items_is}
use Rattle.lt_past.specs.Turn.{prior}
use Rattle.lt_past.specs.Monitoring.{Watching, MonitorStands}
use Rattle.lt_past.proofs.Stepping.{stands_more, tells, turned_at}
use Rattle.lt_past.proofs.monitor.Monitor.step.Goals as goal

pub returns-clause-stands : goal.returns-clause-stands
returns-clause-stands c = λ f instants stands.
    let m : Watching = record { width = c.self.inside.width; parts = c.self.inside.parts.items; values = c.self.inside.values.items; began = c.self.inside.began } in
    let m' : Watching = record { width = c.self.inside.width; parts = c.self.inside.parts.items; values = c.turn-holds.new.values; began = true } in
    let turned = turned_at _ m.parts m.began c.args.now.now _ m.values m'.values c.deref.ensures.value c.deref_mut.ensures.value c.turn-holds.ensures.turned in
    let filled = with_items_is c.self.inside.values c.turn-holds.new.values (c.turn-holds.auto.values ∙ c.deref_mut.ensures.len) in
    subst (λ (z : List Bool). MonitorStands (record { width = c.self.inside.width; parts = c.self.inside.parts.items; values = z; began = true }) f (instants ++ c.args.now.now ∷ [])) (sym filled)
    (stands_more m m' f instants c.args.now.now (subst (λ z. MonitorStands z f instants) (sym c.self.view_is) stands) turned refl refl)

pub returns-clause-value : goal.returns-clause-value
returns-clause-value c = λ f instants stands.
    let m : Watching = record { width = c.self.inside.width; parts = c.self.inside.parts.items; values = c.self.inside.values.items; began = c.self.inside.began } in
    let m' : Watching = record { width = c.self.inside.width; parts = c.self.inside.parts.items; values = c.turn-holds.new.values; began = true } in
    let turned = turned_at _ m.parts m.began c.args.now.now _ m.values m'.values c.deref.ensures.value c.deref_mut.ensures.value c.turn-holds.ensures.turned in
    tells m m' f instants c.args.now.now (subst (λ z. MonitorStands z f instants) (sym c.self.view_is) stands) turned c.turn-holds.result (c.turn-holds.ensures.value ∙ ap (λ z. prior m'.values (length z)) c.deref.ensures.value)
