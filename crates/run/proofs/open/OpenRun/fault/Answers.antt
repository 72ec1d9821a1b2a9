use Rattle.std.proofs.Common.{rules}
use Rattle.run.proofs.Touches.{loads_after, fault_is_run}
use Rattle.run.proofs.open.OpenRun.fault.Goals as goal

pub invariant_of-self-in_err-load : goal.invariant_of-self-in_err-load
invariant_of-self-in_err-load g c =
    let e = loads_after g.P.Policy.model g.met.P.Policy.laws _ c.args.page c.self.invariant (search rules) (search rules) in
    search rules

pub invariant_of-self-in_default : goal.invariant_of-self-in_default
invariant_of-self-in_default g c =
    let e = fault_is_run g.P.Policy.model g.met.P.Policy.laws _ c.args.page c.self.invariant (search rules) (search rules) in
    search rules

pub invariant_of-self-2 : goal.invariant_of-self-2
invariant_of-self-2 g c =
    let e = fault_is_run g.P.Policy.model g.met.P.Policy.laws _ c.args.page c.self.invariant (search rules) (search rules) in
    search rules
