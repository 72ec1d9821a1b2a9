use Rattle.run.proofs.Traces.{plays_end, run_laws}
use Rattle.run.proofs.play.play.Goals as goal

pub returns-in_err-answers-clause-laws : goal.returns-in_err-answers-clause-laws
returns-in_err-answers-clause-laws g c = run_laws g.P.Policy.model g.met.P.Policy.laws

pub returns : goal.returns
returns g c =
    let m = g.P.Policy.model in
    let all = plays_end m _ _ _ _ c.loop-event.event-index _ _ c.open-run.ensures.opened c.loop-event.invariant.plays c.loop-event-test.false in
    record { answers = all.answered; after = all.ends; laws = run_laws m g.met.P.Policy.laws; figures = all.counts }
