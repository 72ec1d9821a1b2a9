-- What numbers in their ranges keep. Assumes nothing.
use Rattle.std.proofs.Common.{◌≡◌, true, arith}
use Rattle.std.proofs.lemmas.Bool.Decides.{nat_tests}
use Rattle.settings.specs.declared.numbers.Numbers.{Numbers}
use Rattle.settings.specs.Checks.{in_ranges, Ranged}

pub ranged : (n : Numbers) → in_ranges n ≡ true → Ranged n
ranged n e = record {
  frames = (grind (arith, nat_tests), grind (arith, nat_tests));
  long = (grind (arith, nat_tests), grind (arith, nat_tests));
  behind = (grind (arith, nat_tests), grind (arith, nat_tests));
  nth = (grind (arith, nat_tests), grind (arith, nat_tests));
  tracked = (grind (arith, nat_tests), grind (arith, nat_tests));
  front = grind (arith, nat_tests);
}
