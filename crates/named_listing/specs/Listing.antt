-- What is printed of a text that names its policy. Assumes nothing.
use Rattle.std.specs.Prelude.{ℕ, List, [], ◌∷◌, take, Some, None, Ok, Err, Option, Result}
use Rattle.settings.specs.declared.fault.RunFault.{RunFault}
use Rattle.settings.specs.declared.numbers.Numbers.{Numbers}
use Rattle.settings.specs.Checks.{checked}
use Rattle.policy.specs.Model.{Model}
use Rattle.fifo.specs.Fifo.{fifo}
use Rattle.lru_policy.specs.Lru.{lru}
use Rattle.clock.specs.Clock.{clock}
use Rattle.front_queue.specs.Front.{fronted}
use Rattle.listing.specs.declared.fault.TextFault.TheVariants.{NoPolicy, Malformed, TooFewNumbers, Refused}
use Rattle.listing.specs.Faults.{fault_line}
use Rattle.listing.specs.Listing.{numbers_with, played_over}
use Rattle.listing.specs.Numbers.{numbers_behind}
use Rattle.named_listing.specs.declared.name.PolicyName.{PolicyName}
use Rattle.named_listing.specs.declared.name.PolicyName.TheVariants.{Fifo, Lru, Clock}
use Rattle.named_listing.specs.Names.{named, word_end}

-- with a queue of k pages in front of a policy
abbrev pub played_behind : {S : Type 0} (m : Model S) → m.Setting → ℕ → ℕ → List ℕ → List ℕ
played_behind m x k f ps = played_over (fronted m) f ((fronted m).opening (k, x)) ps

-- over the policy of that name
abbrev pub played_named : PolicyName → ℕ → ℕ → List ℕ → List ℕ
played_named Fifo k f ps = played_behind fifo tt k f ps
played_named Lru k f ps = played_behind lru tt k f ps
played_named Clock k f ps = played_behind clock tt k f ps

-- refused settings are one line
abbrev pub by_settings : PolicyName → Result Numbers RunFault → List ℕ → List ℕ
by_settings p (Ok n) ps = played_named p n.front n.frames ps
by_settings p (Err e) ps = fault_line (Refused e)

-- the first number is the number of frames, the second the size of the front queue, and the others are pages
abbrev pub by_numbers : PolicyName → Result (List ℕ) ℕ → List ℕ
by_numbers p (Ok []) = fault_line TooFewNumbers
by_numbers p (Ok (f ∷ [])) = fault_line TooFewNumbers
by_numbers p (Ok (f ∷ k ∷ ps)) = by_settings p (checked (numbers_with f k)) ps
by_numbers p (Err k) = fault_line (Malformed (record { at = k }))

-- the first word names the policy
abbrev pub by_name : Option PolicyName → Result (List ℕ) ℕ → List ℕ
by_name None ns = fault_line NoPolicy
by_name (Some p) ns = by_numbers p ns

abbrev pub listing_of : List ℕ → List ℕ
listing_of bs = by_name (named (take (word_end bs) bs)) (numbers_behind (word_end bs) bs)
