-- What is printed of a text. Assumes nothing.
use Rattle.std.specs.Prelude.{ℕ, List, [], ◌∷◌, ◌++◌, map, Ok, Err, Result}
use Rattle.settings.specs.declared.fault.RunFault.{RunFault}
use Rattle.settings.specs.declared.numbers.Numbers.{Numbers}
use Rattle.settings.specs.Checks.{checked}
use Rattle.policy.specs.Model.{Model}
use Rattle.fifo.specs.Fifo.{fifo}
use Rattle.run.specs.declared.answer.Event.TheVariants.{Touch}
use Rattle.run.specs.Answers.{EventAnswer, counted}
use Rattle.run.specs.Run.{opened, answers}
use Rattle.listing.specs.declared.fault.TextFault.TheVariants.{Malformed, NoFrames, Refused}
use Rattle.listing.specs.Faults.{fault_line}
use Rattle.listing.specs.Lines.{answer_line, end_line}
use Rattle.listing.specs.Numbers.{numbers_in}

-- settings by the frames and the size of the front queue; a run of a listing uses no other number
abbrev pub numbers_with : ℕ → ℕ → Numbers
numbers_with f k = record { frames = f; long = 20; behind = 20; nth = 1; tracked = 200; front = k }

-- a line for each page with its answer
abbrev pub printed : List ℕ → List EventAnswer → List ℕ
printed [] xs = []
printed (p ∷ ps) [] = []
printed (p ∷ ps) (x ∷ xs) = answer_line p x ++ printed ps xs

-- the answers of the pages' touches, from an empty memory of f frames under a policy from standing s, and then the totals
module _ {S : Type 0} (m : Model S) (f : ℕ) (s : S) (ps : List ℕ) where
  abbrev pub answers_over : List EventAnswer
  answers_over = answers m (opened m f s) (map Touch ps)

  abbrev pub played_over : List ℕ
  played_over = printed ps answers_over ++ end_line (counted answers_over)

-- the same under FIFO
abbrev pub played : ℕ → List ℕ → List ℕ
played f ps = played_over fifo f (fifo.opening tt) ps

-- refused settings are one line
abbrev pub by_settings : Result Numbers RunFault → ℕ → List ℕ → List ℕ
by_settings (Ok n) f ps = played f ps
by_settings (Err e) f ps = fault_line (Refused e)

-- the first number is the number of frames, and the others are pages
abbrev pub by_numbers : Result (List ℕ) ℕ → List ℕ
by_numbers (Ok []) = fault_line NoFrames
by_numbers (Ok (f ∷ ps)) = by_settings (checked (numbers_with f 0)) f ps
by_numbers (Err k) = fault_line (Malformed (record { at = k }))

abbrev pub listing_of : List ℕ → List ℕ
listing_of bs = by_numbers (numbers_in bs)
