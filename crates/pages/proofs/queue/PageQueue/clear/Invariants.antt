use Rattle.std.proofs.Common.{length}
use Rattle.pages.proofs.queue.PageQueue.clear.Given as goal

abbrev pub decreases-loop : goal.decreases-loop
decreases-loop l = length l.self
