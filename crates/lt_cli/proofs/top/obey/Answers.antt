use Rattle.std.proofs.Common.{refl}
use Rattle.lt_text_answers.specs.declared.refusal.Refusal.TheVariants.{Command}
use Rattle.lt_text_answers.specs.Replies.{watch_refusal}
use Rattle.lt_cli.proofs.Obeyed.{text_obeyed, beside_obeyed}
use Rattle.lt_cli.proofs.top.obey.Goals as goal

pub returns-in-Check : goal.returns-in-Check
returns-in-Check g c = rw c.in-Check.is (record { obeys = beside_obeyed (λ fault. Command fault) _ _ _ _ _ _ _ _ _ _ _ _ c.check-answer.ensures c.finish.ensures.finishes; leaves = refl })

pub returns-in-Meaning : goal.returns-in-Meaning
returns-in-Meaning g c = rw c.in-Meaning.is (record { obeys = beside_obeyed (λ fault. Command fault) _ _ _ _ _ _ _ _ _ _ _ _ c.meaning-answer.ensures c.finish-in-Meaning.ensures.finishes; leaves = refl })

pub returns-in-Run : goal.returns-in-Run
returns-in-Run g c = rw c.in-Run.is (record { obeys = text_obeyed (λ fault. Command fault) _ _ _ _ _ _ _ _ _ _ _ c.run-answer.ensures.answers c.finish-in-Run.ensures.finishes; leaves = (c.run-answer.ensures.opens.calls, c.run-answer.ensures.untouched) })

pub returns-in-Plan : goal.returns-in-Plan
returns-in-Plan g c = rw c.in-Plan.is (record { obeys = beside_obeyed (λ fault. Command fault) _ _ _ _ _ _ _ _ _ _ _ _ c.plan-answer.ensures c.finish-in-Plan.ensures.finishes; leaves = refl })

pub returns-in-Sim : goal.returns-in-Sim
returns-in-Sim g c =
    rw c.in-Sim.is (record { obeys = c.sim.ensures (g.W.Fabric.state c.args.fabric.now); leaves = refl })

pub returns-in-Big : goal.returns-in-Big
returns-in-Big g c = rw c.in-Big.is (record { obeys = text_obeyed (λ fault. Command fault) _ _ _ _ _ _ _ _ _ _ _ (c.big-answer.ensures.answers (g.F.Files.state c.args.files.now)) c.finish-in-Big.ensures.finishes; leaves = (c.big-answer.ensures.opens.calls, c.big-answer.ensures.untouched) })

pub returns-in-Watch : goal.returns-in-Watch
returns-in-Watch g c = rw c.in-Watch.is (record { obeys = text_obeyed watch_refusal _ _ _ _ _ _ _ _ _ _ _ c.watch-answer.ensures.answers c.finish-in-Watch.ensures.finishes; leaves = (c.watch-answer.ensures.opens.calls, c.watch-answer.ensures.untouched) })

pub returns-in-Audit : goal.returns-in-Audit
returns-in-Audit g c = rw c.in-Audit.is (record { obeys = beside_obeyed (λ fault. Command fault) _ _ _ _ _ _ _ _ _ _ _ _ c.audit-answer.ensures c.finish-in-Audit.ensures.finishes; leaves = refl })

pub returns-in-Trace : goal.returns-in-Trace
returns-in-Trace g c = rw c.in-Trace.is (record { obeys = beside_obeyed (λ fault. Command fault) _ _ _ _ _ _ _ _ _ _ _ _ c.trace-answer.ensures c.finish-in-Trace.ensures.finishes; leaves = refl })
