use Rattle.std.proofs.Common.{rules}
use Rattle.run.proofs.Touches.{open_is_run}
use Rattle.run.proofs.open.OpenRun.open.Goals as goal

pub invariant_of-result : goal.invariant_of-result
invariant_of-result g c =
    let s = c.args.settings in
    open_is_run g.P.Policy.model g.met.P.Policy.laws s.frames c.args.policy _ (search rules) s.frames_least s.frames_most

pub returns-clause-within : goal.returns-clause-within
returns-clause-within g c = invariant_of-result g c
