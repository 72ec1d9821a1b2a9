use Rattle.std.proofs.Common.{arith}
use Rattle.front_queue.proofs.FrontAges.{front_laws, front_made}
use Rattle.front_queue.proofs.front_queue.FrontQueue.new.Goals as goal

pub returns-in_err-queue-clause-laws : goal.returns-in_err-queue-clause-laws
returns-in_err-queue-clause-laws g c = front_laws g.P.Policy.model g.met.P.Policy.laws

pub returns-clause-laws : goal.returns-clause-laws
returns-clause-laws g c = front_laws g.P.Policy.model g.met.P.Policy.laws

pub returns-clause-made : goal.returns-clause-made
returns-clause-made g c =
    let made = front_made g.P.Policy.model g.met.P.Policy.laws c.args.settings.front c.args.below in grind arith
