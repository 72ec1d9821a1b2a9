-- The numbers of the latest calls, over one call more. Assumes nothing.
use Rattle.std.proofs.Common.{◌≡◌, ℕ, ◌≤◌, Bool, true, false, cond, ◌&&◌, List, [], ◌∷◌, length, refl, arith}
use Rattle.std.proofs.lemmas.Bool.Decides.{nat_tests}
use Rattle.policy.specs.Model.{Model, Call}
use Rattle.policy.specs.Histories.{latest, latest_by}

-- a refused call numbers nothing
pub not_numbered : (a : Bool) (x y : ℕ) → cond (a && false) x y ≡ y
not_numbered true x y = refl
not_numbered false x y = refl

-- no number is above the count of the calls
pub latest_by_low : {S : Type 0} (m : Model S) (x : m.Setting) (such : S → ℕ → Call → Bool) (cs : List Call) (q : ℕ) → latest_by m x such q cs ≤ length cs
latest_by_low m x such [] q = omega arith
latest_by_low m x such (c ∷ cs) q = let ih = latest_by_low m x such cs q in grind (arith, nat_tests)

pub latest_low : {S : Type 0} (m : Model S) (x : m.Setting) (such : ℕ → Call → Bool) (cs : List Call) (q : ℕ) → latest m x such q cs ≤ length cs
latest_low m x such = latest_by_low m x (λ s. such)
