-- When six numbers are settings. Assumes nothing.
use Rattle.std.specs.Prelude.{◌≡◌, ℕ, ◌<◌, ◌≤◌, Bool, cond, not, ◌&&◌, Ok, Err, Result, nat_le, nat_lt}
use Rattle.settings.specs.declared.fault.RunFault.{RunFault}
use Rattle.settings.specs.declared.fault.RunFault.TheVariants.{OutOfRange, NthAboveLong}
use Rattle.settings.specs.declared.fault.Layer.{Layer}
use Rattle.settings.specs.declared.fault.Layer.TheVariants as layer
use Rattle.settings.specs.Refusals.{run_number, run_layer}
use Rattle.settings.specs.declared.numbers.Numbers.{Numbers}
use Rattle.settings.specs.declared.settings.Settings.{Settings}

abbrev pub within : ℕ → ℕ → ℕ → Bool
within least most n = nat_le least n && nat_le n most

-- each number from its least to its greatest
abbrev pub in_ranges : Numbers → Bool
in_ranges n = within 1 1024 n.frames && (within 2 4096 n.long && (within 1 4095 n.behind && (within 1 4096 n.nth && (within 1 200 n.tracked && within 0 1024 n.front))))

-- first the ranges, then N against L
abbrev pub checked : Numbers → Result Numbers RunFault
checked n = cond (not (in_ranges n)) (Err OutOfRange) (cond (nat_lt n.long n.nth) (Err NthAboveLong) (Ok n))

-- the numbers of settings
abbrev pub numbers_of : Settings → Numbers
numbers_of s = record { frames = s.frames; long = s.long; behind = s.behind; nth = s.nth; tracked = s.tracked; front = s.front }

abbrev pub seen : Result Settings RunFault → Result Numbers RunFault
seen (Ok s) = Ok (numbers_of s)
seen (Err e) = Err e

-- each number from its least to its greatest, told by the orders of numbers
pub record Ranged (n : Numbers) : Type 0 where
  pub frames : (1 ≤ n.frames) × (n.frames ≤ 1024)
  pub long : (2 ≤ n.long) × (n.long ≤ 4096)
  pub behind : (1 ≤ n.behind) × (n.behind ≤ 4095)
  pub nth : (1 ≤ n.nth) × (n.nth ≤ 4096)
  pub tracked : (1 ≤ n.tracked) × (n.tracked ≤ 200)
  pub front : n.front ≤ 1024

-- a refusal by its number and its layer
abbrev pub Refused : Result Numbers RunFault → ℕ → Layer → Type 0
Refused (Ok n) k l = ⊥
Refused (Err e) k l = (run_number e ≡ k) × (run_layer e ≡ l)

-- settings are the numbers given, exactly where these are in their ranges and N is at most L
pub record SettingsTold (n : Numbers) (x : Result Numbers RunFault) : Type 0 where
  pub made : Ranged n → n.nth ≤ n.long → x ≡ Ok n
  pub out_of_range : (Ranged n → ⊥) → Refused x 3 layer.Run
  pub nth_above : Ranged n → n.long < n.nth → Refused x 4 layer.Run

-- the answer to six numbers that ask to be settings: what the checks say, in both ways of saying it
pub record AreSettings (n : Numbers) (x : Result Settings RunFault) : Type 0 where
  pub checks : seen x ≡ checked n
  pub told : SettingsTold n (seen x)
