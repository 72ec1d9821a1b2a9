use Rattle.std.proofs.Common.{sym, rules}
use Rattle.settings.proofs.Ranges.{ranged}
use Rattle.settings.proofs.settings.check.SettingsTryFromNumbers.try_from.Goals as goal

pub invariant_of-result : goal.invariant_of-result
invariant_of-result c = let k = ranged c.args.n (sym c.if-not-in_ranges.ensures) in search rules
