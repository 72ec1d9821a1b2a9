-- FIFO is a policy over a line that only loads renew. Assumes nothing.
use Rattle.std.specs.Prelude.{ℕ, false, List}
use Rattle.policy.specs.Model.{Model}
use Rattle.line.specs.Line.{line}
use Rattle.ordered.specs.Ordered.{Kept, ordered}

abbrev pub fifo : Model (Kept (List ℕ))
fifo = ordered (line false)
