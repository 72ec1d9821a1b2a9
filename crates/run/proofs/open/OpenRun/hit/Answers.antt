use Rattle.std.proofs.Common.{rules}
use Rattle.run.proofs.Touches.{hit_is_run}
use Rattle.run.proofs.open.OpenRun.hit.Goals as goal

pub invariant_of-self-2 : goal.invariant_of-self-2
invariant_of-self-2 g c =
    let e = hit_is_run g.P.Policy.model g.met.P.Policy.laws _ c.args.page c.self.invariant (search rules) (search rules) in
    search rules
