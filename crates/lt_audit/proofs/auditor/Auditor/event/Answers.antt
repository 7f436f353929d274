use Rattle.std.proofs.Common.{◌≡◌, ◌∙◌, ◌++◌, ◌∷◌, [], ℕ, List, None, Result, sym, ap, subst}
use Rattle.std.specs.Prelude.{OnOk}
use Rattle.lt_arch.specs.declared.event.Event.{Event}
use Rattle.lt_arch.specs.declared.shape.Shape.{Shape}
use Rattle.lt_arch.specs.declared.timing.Timing.{Timing}
use Rattle.lt_arch.specs.Schedule.{IsPlacedIn, reached}
use Rattle.lt_arch.specs.Step.{offence_of}
use Rattle.lt_arch.specs.Times.{Times, HasTimes}
use Rattle.lt_audit.specs.declared.fault.AuditFault.{AuditFault}
use Rattle.lt_audit.specs.Audit.{AuditState}
use Rattle.lt_audit.specs.Standing.{AuditStands, JudgesEvent, KnowsDeed, oldest_only}
use Rattle.lt_audit.proofs.Oldest.{offence_same}
use Rattle.lt_audit.proofs.Seen.{deed_known}
use Rattle.lt_audit.proofs.StandsOn.{stands_on}
use Rattle.lt_audit.proofs.auditor.Auditor.event.Goals as goal
use Rattle.lt_audit.proofs.auditor.Auditor.event.Goals.{in-Ok, in-Err}

pub returns-in-Some-clause-judges : goal.returns-in-Some-clause-judges
returns-in-Some-clause-judges g c s t rows es stands =
    let st = reached s t rows es in
    let watch = ap (λ (a : AuditState). a.watch) c.self.view_is in
    let times = subst (λ (w : Times). HasTimes w s t (oldest_only st)) (sym watch) stands.state.times in
    sym (offence_same s t st c.args.e) ∙ sym (c.judge.ensures.offence s t (oldest_only st) times) ∙ c.in-Some.is

pub returns-clause-judges : goal.returns-clause-judges
returns-clause-judges g c s t rows es stands =
    let st = reached s t rows es in
    let watch = ap (λ (a : AuditState). a.watch) c.self.view_is in
    let times = subst (λ (w : Times). HasTimes w s t (oldest_only st)) (sym watch) stands.state.times in
    let none : offence_of s t st c.args.e ≡ None = sym (offence_same s t st c.args.e) ∙ sym (c.judge.ensures.offence s t (oldest_only st) times) ∙ c.in_default.is in
    elim c.match-take.branch [
      | in-Ok w ↦ subst (λ (r : Result (Unit {0}) AuditFault). JudgesEvent (offence_of s t st c.args.e) r) (sym w.result-is) none
      | in-Err w ↦ subst (λ (r : Result (Unit {0}) AuditFault). JudgesEvent (offence_of s t st c.args.e) r) (sym w.result-is) none
    ]

pub returns-clause-takes : goal.returns-clause-takes
returns-clause-takes g c =
    elim c.match-take.branch [
      | in-Ok w ↦
          subst (λ (r : Result (Unit {0}) AuditFault). OnOk r ((s : Shape) (t : Timing) (rows : ℕ) (es : List Event) → AuditStands c.args.self.now s t rows es → AuditStands c.take.new.self s t rows (es ++ c.args.e ∷ []))) (sym w.result-is)
          (λ s t rows es stands.
          let st = reached s t rows es in
          let watch = ap (λ (a : AuditState). a.watch) c.self.view_is in
          let times = subst (λ (v : Times). HasTimes v s t (oldest_only st)) (sym watch) stands.state.times in
          let none : offence_of s t st c.args.e ≡ None = sym (offence_same s t st c.args.e) ∙ sym (c.judge.ensures.offence s t (oldest_only st) times) ∙ c.in_default.is in
          let here = subst (λ (a : AuditState). AuditStands a s t rows es) (sym c.self.view_is) stands in
          stands_on c.self.inside.audit c.take.new.self s t rows es c.args.e c.self.invariant here (subst (λ (a : AuditState). IsPlacedIn a.shape c.args.e) (sym c.self.view_is) c.requires.placed) none w.in-Ok.ensures.takes w.in-Ok.ensures.number)
      | in-Err w ↦
          subst (λ (r : Result (Unit {0}) AuditFault). OnOk r ((s : Shape) (t : Timing) (rows : ℕ) (es : List Event) → AuditStands c.args.self.now s t rows es → AuditStands c.take.new.self s t rows (es ++ c.args.e ∷ []))) (sym w.result-is) tt
    ]

pub returns-clause-deeds : goal.returns-clause-deeds
returns-clause-deeds g c =
    elim c.match-take.branch [
      | in-Ok w ↦
          subst (λ (r : Result (Unit {0}) AuditFault). OnOk r ((s : Shape) (t : Timing) (rows : ℕ) (es : List Event) → AuditStands c.args.self.now s t rows es → KnowsDeed c.take.new.self s rows (reached s t rows es) c.args.e)) (sym w.result-is)
          (λ s t rows es stands.
          let here = subst (λ (a : AuditState). AuditStands a s t rows es) (sym c.self.view_is) stands in
          deed_known c.self.inside.audit c.take.new.self s t rows es c.args.e c.self.invariant here (subst (λ (a : AuditState). IsPlacedIn a.shape c.args.e) (sym c.self.view_is) c.requires.placed) w.in-Ok.ensures.takes)
      | in-Err w ↦
          subst (λ (r : Result (Unit {0}) AuditFault). OnOk r ((s : Shape) (t : Timing) (rows : ℕ) (es : List Event) → AuditStands c.args.self.now s t rows es → KnowsDeed c.take.new.self s rows (reached s t rows es) c.args.e)) (sym w.result-is) tt
    ]
