-- The refusals of the policy layer, by number. Assumes nothing.
use Rattle.std.specs.Prelude.{ℕ}
use Rattle.policy.specs.declared.fault.PolicyFault.{PolicyFault}
use Rattle.policy.specs.declared.fault.PolicyFault.TheVariants.{NotAPage, TooManyFaults, AlreadyHeld, NotHeld, Full}

abbrev pub number_of : PolicyFault → ℕ
-- 4,096 or more is no page
number_of NotAPage = 1
-- 16,000,000 faults were accepted already
number_of TooManyFaults = 2
-- the page is held already
number_of AlreadyHeld = 6
-- the page is not held
number_of NotHeld = 7
-- 1,024 pages are held
number_of Full = 8
