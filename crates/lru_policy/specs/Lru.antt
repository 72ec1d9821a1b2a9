-- LRU is a policy over a line that loads and hits renew. Assumes nothing.
use Rattle.std.specs.Prelude.{ℕ, true, List}
use Rattle.policy.specs.Model.{Model}
use Rattle.line.specs.Line.{line}
use Rattle.ordered.specs.Ordered.{Kept, ordered}

abbrev pub lru : Model (Kept (List ℕ))
lru = ordered (line true)
