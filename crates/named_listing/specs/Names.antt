-- The policies by name, and the first word of a text. Assumes nothing.
use Rattle.std.specs.Prelude.{◌≡◌, ℕ, ◌+◌, Bool, true, false, cond, ◌&&◌, List, [], ◌∷◌, Some, None, Ok, Err, codes, Option, Result, ◌==◌, ◌≢◌}
use Rattle.listing.specs.declared.fault.TextFault.{TextFault}
use Rattle.listing.specs.declared.fault.TextFault.TheVariants.{NoPolicy}
use Rattle.named_listing.specs.declared.name.PolicyName.{PolicyName}
use Rattle.named_listing.specs.declared.name.PolicyName.TheVariants.{Fifo, Lru, Clock}
use Rattle.listing.specs.Numbers.{is_space}

-- the bytes that name a policy
abbrev pub name_of : PolicyName → List ℕ
name_of Fifo = codes "fifo"
name_of Lru = codes "lru"
name_of Clock = codes "clock"

-- r is the policy that the word w names, and the fault that there is none where w is the name of none
abbrev pub Named : List ℕ → Result PolicyName TextFault → Type 0
Named w (Ok p) = w ≡ name_of p
Named w (Err e) = (e ≡ NoPolicy) × ((p : PolicyName) → w ≢ name_of p)

abbrev pub same : List ℕ → List ℕ → Bool
same [] [] = true
same [] (y ∷ ys) = false
same (x ∷ xs) [] = false
same (x ∷ xs) (y ∷ ys) = x == y && same xs ys

-- the policy that a word names, found
abbrev pub named : List ℕ → Option PolicyName
named w = cond (same w (name_of Fifo)) (Some Fifo) (cond (same w (name_of Lru)) (Some Lru) (cond (same w (name_of Clock)) (Some Clock) None))

-- how long the first word is: up to the first white space
abbrev pub word_end : List ℕ → ℕ
word_end [] = 0
word_end (b ∷ bs) = cond (is_space b) 0 (1 + word_end bs)
