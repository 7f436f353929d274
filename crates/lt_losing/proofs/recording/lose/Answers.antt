use Rattle.std.proofs.Common.{◌≡◌, List, [], Option, Some, true, false, MatchOption, sym, subst}
use Rattle.std.specs.List.{All}
use Rattle.lt_lossy.specs.declared.event.LossyEvent.{LossyEvent}
use Rattle.lt_lossy.specs.Events.{IsLossyEventOf}
use Rattle.lt_losing.specs.Losing.{lossy_drawn}
use Rattle.lt_losing.specs.LossyRecorded.{IsHeldWhole}
use Rattle.lt_losing.proofs.Ending.{lossy_drawn-sound}
use Rattle.lt_losing.proofs.Shown.{sound_shown}
use Rattle.lt_losing.proofs.recording.lose.Goals as goal

-- what is said of what was found
found_is : {V : Type 0} (o : Option V) (v : V) → o ≡ Some v → (P : Type 0) (Q : V → Type 0) → MatchOption o P Q → Q v
found_is o v is P Q h = subst (λ (x : Option _). MatchOption x P Q) is h

pub write-requires-clause-events : goal.write-requires-clause-events
write-requires-clause-events g c =
    let s = c.args.shape.now in
    let es : List LossyEvent = lossy_drawn s c.args.timing.now c.args.limit c.args.rows c.args.rate c.args.seed c.args.horizon in
    let whole : IsHeldWhole es c.in-Some.events.items true = found_is c.in_ok-events.field-0 c.in-Some.events c.in-Some.is (IsHeldWhole es [] false) (λ events. IsHeldWhole es events.items true) c.in_ok-events.ensures in
    subst (All (IsLossyEventOf s)) (sym whole.0) (lossy_drawn-sound s c.args.timing.now c.args.limit c.args.rows c.args.rate c.args.seed c.args.horizon c.requires.horizon).placed

pub returns-in_ok-write-in-Some-clause-shown : goal.returns-in_ok-write-in-Some-clause-shown
returns-in_ok-write-in-Some-clause-shown g c =
    let s = c.args.shape.now in
    let t = c.args.timing.now in
    let es : List LossyEvent = lossy_drawn s t c.args.limit c.args.rows c.args.rate c.args.seed c.args.horizon in
    let whole : IsHeldWhole es c.in-Some.events.items true = found_is c.in_ok-events.field-0 c.in-Some.events c.in-Some.is (IsHeldWhole es [] false) (λ events. IsHeldWhole es events.items true) c.in_ok-events.ensures in
    sound_shown s t c.args.limit c.args.rows c.args.horizon es (lossy_drawn-sound s t c.args.limit c.args.rows c.args.rate c.args.seed c.args.horizon c.requires.horizon) whole.1
