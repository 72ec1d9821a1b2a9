-- Lists of calls from a cleared policy on, the newest first, and when a page was last the subject of one. Assumes nothing.
use Rattle.std.specs.Prelude.{◌≡◌, ℕ, ◌+◌, ◌<◌, Bool, true, false, cond, ◌&&◌, List, [], ◌∷◌, length, Some, None, Option, ◌==◌, ◌≢◌}
use Rattle.policy.specs.declared.fault.PolicyFault.{PolicyFault}
use Rattle.pages.specs.Lists.{has}
use Rattle.policy.specs.Model.{Model, Call, clear, fault, load, hit, drop, give, refusal, after}

-- whether a call is a load of p or, where hits count, a hit of p
abbrev pub loads_or_hits : Bool → ℕ → Call → Bool
loads_or_hits hits p clear = false
loads_or_hits hits p (fault q) = false
loads_or_hits hits p (load q) = q == p
loads_or_hits hits p (hit q) = hits && q == p
loads_or_hits hits p (drop q) = false
loads_or_hits hits p give = false

-- a load of p
abbrev pub loads : ℕ → Call → Bool
loads = loads_or_hits false

-- a load or a hit of p
abbrev pub uses : ℕ → Call → Bool
uses = loads_or_hits true

abbrev pub passed : Option PolicyFault → Bool
passed None = true
passed (Some f) = false

module _ {S : Type 0} (m : Model S) (x : m.Setting) where
  -- the standing after the calls
  abbrev pub reached : List Call → S
  reached [] = m.opening x
  reached (c ∷ cs) = after m (reached cs) c

  -- the number of the latest accepted call of p that is such in the standing before it, counted from 1 for the first call; 0 where there is none
  abbrev pub latest_by : (S → ℕ → Call → Bool) → ℕ → List Call → ℕ
  latest_by such p [] = 0
  latest_by such p (c ∷ cs) = cond (such (reached cs) p c && passed (refusal m (reached cs) c)) (length cs + 1) (latest_by such p cs)

  -- the same where the call alone tells
  abbrev pub latest : (ℕ → Call → Bool) → ℕ → List Call → ℕ
  latest such = latest_by (λ s. such)

-- of the pages held, give answers the one whose latest such call is earliest
abbrev pub GivesEarliest : {S : Type 0} (m : Model S) → (ℕ → Call → Bool) → Type 0
GivesEarliest m such = (x : m.Setting) (cs : List Call) (p : ℕ) → m.gives (reached m x cs) ≡ Some p →
    (has p (m.pages (reached m x cs)) ≡ true) × ((q : ℕ) → has q (m.pages (reached m x cs)) ≡ true → (q ≢ p) → latest m x such p cs < latest m x such q cs)
