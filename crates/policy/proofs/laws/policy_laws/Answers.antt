use Rattle.policy.proofs.Calls.{policy_laws_lem}
use Rattle.policy.proofs.laws.policy_laws.Goals as goal

pub returns : goal.returns
returns g c = policy_laws_lem g.P.Policy.model g.met.P.Policy.laws
