use Rattle.line.proofs.Ages.{line_earliest}
use Rattle.line.proofs.make.Goals as goal

pub returns-in_err-new-clause-earliest : goal.returns-in_err-new-clause-earliest
returns-in_err-new-clause-earliest g c = line_earliest g.R.Renewal.renews

pub returns-clause-earliest : goal.returns-clause-earliest
returns-clause-earliest g c = line_earliest g.R.Renewal.renews
