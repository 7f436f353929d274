use Rattle.std.proofs.Common.{◌≡◌, ℕ, List, Result, Ok, Err, refl, subst, []}
use Rattle.lt_base.specs.declared.memory.Or.{Or}
use Rattle.lt_base.specs.declared.memory.Or.TheVariants as or
use Rattle.lt_base.specs.Program.{Function}
use Rattle.lt_answer.specs.Answered.{Verdict, Settles, Refuses}
use Rattle.lt_answer.specs.Rules.{Raised}
use Rattle.lt_past.specs.declared.fault.ObserverFault.{ObserverFault}
use Rattle.lt_past.specs.Observer.{Observing}
use Rattle.lt_past.specs.Reads.{AnswersObserver}
use Rattle.lt_load.proofs.Steps.{IsContent, content_raised, raised_refusal, refused_step, last_step}
use Rattle.lt_watch.specs.declared.fault.WatchFault.{WatchFault}
use Rattle.lt_watch.specs.declared.fault.WatchFault.TheVariants.{Observer}
use Rattle.lt_watch.specs.Blamed.{watch_blame}
use Rattle.lt_watch.specs.Watch.{observed_verdict, observer_bytes_verdict, observer_verdict}
use Rattle.lt_watch.proofs.observing.load_observer.Goals as goal

abbrev read_verdict : Function → List ℕ → Verdict Observing WatchFault
read_verdict main bytes = Raised (λ e. Observer e) (observed_verdict main bytes)

read_content : (main : Function) (bytes : List ℕ) → IsContent watch_blame (read_verdict main bytes)
read_content main bytes = content_raised watch_blame (λ e. Observer e) (observed_verdict main bytes) (λ e. refl)

-- what is right of equal bytes
read_at : (main : Function) (xs ys : List ℕ) → xs ≡ ys → (r : Result Observing (Or WatchFault)) → Settles (read_verdict main xs) r → Settles (read_verdict main ys) r
read_at main xs ys is r right = subst (λ (bytes : List ℕ). Settles (read_verdict main bytes) r) is right

found : (main : Function) (bytes : List ℕ) (e : Or ObserverFault) → AnswersObserver 200 main bytes (Err e) → Refuses (observed_verdict main bytes) e
found main bytes (or.Fault e) told = told
found main bytes or.Memory told = tt

pub returns-in_err-bytes : goal.returns-in_err-bytes
unfolding observer_verdict
returns-in_err-bytes g c =
    refused_step watch_blame (observer_bytes_verdict ((g.F.Files.state c.args.files.now).named c.args.name.now)) (λ names bytes. read_verdict c.args.main.now bytes) _ _ [] _ _ c.from_residual.ensures.1 c.in_err-bytes.ensures

pub returns-in-Ok : goal.returns-in-Ok
unfolding observer_verdict
returns-in-Ok g c =
    last_step watch_blame (observer_bytes_verdict ((g.F.Files.state c.args.files.now).named c.args.name.now)) (λ names bytes. read_verdict c.args.main.now bytes) _ _ c.in_ok-bytes.bytes (Ok c.in-Ok.observer)
    c.in_ok-bytes.ensures (read_content c.args.main.now c.in_ok-bytes.bytes) (read_at c.args.main.now _ _ c.deref.ensures (Ok c.in-Ok.observer) c.in-Ok.ensures.exact)

pub returns-in-Err : goal.returns-in-Err
unfolding observer_verdict
returns-in-Err g c =
    let bytes = c.deref.result.now in
    last_step watch_blame (observer_bytes_verdict ((g.F.Files.state c.args.files.now).named c.args.name.now)) (λ names bytes. read_verdict c.args.main.now bytes) _ _ c.in_ok-bytes.bytes (Err c.map.result)
    c.in_ok-bytes.ensures (read_content c.args.main.now c.in_ok-bytes.bytes)
    (read_at c.args.main.now bytes _ c.deref.ensures (Err c.map.result) (raised_refusal (λ e. Observer e) (observed_verdict c.args.main.now bytes) c.in-Err.e c.map.result c.map.ensures (found c.args.main.now bytes c.in-Err.e c.in-Err.ensures.exact)))
