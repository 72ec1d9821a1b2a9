use Rattle.std.proofs.Common.{rules}
use Rattle.run.proofs.Touches.{touch_told}
use Rattle.run.proofs.open.OpenRun.touch.Goals as goal

pub returns-then-holds-clause-told : goal.returns-then-holds-clause-told
returns-then-holds-clause-told g c = touch_told g.P.Policy.model g.met.P.Policy.laws _ _ _ _ (search rules) (search rules) (search rules)

pub returns-else-holds-clause-told : goal.returns-else-holds-clause-told
returns-else-holds-clause-told g c = touch_told g.P.Policy.model g.met.P.Policy.laws _ _ _ _ (search rules) (search rules) (search rules)
