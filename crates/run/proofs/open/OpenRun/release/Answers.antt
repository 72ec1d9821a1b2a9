use Rattle.std.proofs.Common.{Ok, rules}
use Rattle.run.proofs.Releases.{release_within, release_told}
use Rattle.run.proofs.open.OpenRun.release.Goals as goal

pub invariant_of-self-2 : goal.invariant_of-self-2
invariant_of-self-2 g c =
    let e = release_within g.P.Policy.model g.met.P.Policy.laws _ c.args.page c.self.invariant in
    search rules

pub returns-clause-told : goal.returns-clause-told
returns-clause-told g c = release_told g.P.Policy.model g.met.P.Policy.laws _ _ (Ok tt) _ (search rules) (search rules) (search rules)
