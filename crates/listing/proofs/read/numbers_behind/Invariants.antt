use Rattle.std.proofs.Common.{◌≡◌, ◌+◌, drop, vec_items}
use Rattle.listing.specs.Numbers.{before, numbers_behind, numbers_from}
use Rattle.listing.proofs.read.numbers_behind.Given as goal

-- the numbers found, the word so far and the bytes ahead give what the text gives from the start on
abbrev pub invariant-loop-ahead : goal.invariant-loop-ahead
invariant-loop-ahead l = before (vec_items l.found) (numbers_from (l.start + l.ahead) l.word (drop l.ahead l.rest)) ≡ numbers_behind l.start l.text
