use Rattle.std.proofs.Common.{◌≡◌, ◌++◌, length, drop, string_bytes}
use Rattle.listing.specs.Listing.{printed}
use Rattle.listing.proofs.listing.lines.Given as goal

abbrev pub invariant-loop-page : goal.invariant-loop-page
invariant-loop-page l = string_bytes l.out ++ printed (drop (length l.yielded) l.pages) (drop (length l.yielded) l.answers) ≡ printed l.pages l.answers
