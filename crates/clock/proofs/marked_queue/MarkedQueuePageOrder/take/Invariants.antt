use Rattle.std.proofs.Common.{◌≡◌, vec_len}
use Rattle.clock.specs.Ring.{turned}
use Rattle.clock.proofs.Marks.{marks_in}
use Rattle.clock.specs.contracts.marked_queue.MarkedQueue.{the_view}
use Rattle.clock.proofs.marked_queue.MarkedQueuePageOrder.take.Given as goal

-- what a turn of the hand comes to stays as it was
abbrev pub invariant-loop-page : goal.invariant-loop-page
invariant-loop-page l = record {
  same : turned (the_view l.self-inside) ≡ turned l.fn.self;
  entries : vec_len l.self-inside.marks ≡ 4096;
}

-- each page that is passed over loses its mark
abbrev pub decreases-loop-page : goal.decreases-loop-page
decreases-loop-page l = marks_in (the_view l.self-inside)
