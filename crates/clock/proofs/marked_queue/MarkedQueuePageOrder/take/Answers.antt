use Rattle.std.proofs.Common.{vec_items, arith}
use Rattle.clock.proofs.Marks.{passed}
use Rattle.clock.proofs.marked_queue.MarkedQueuePageOrder.take.Goals as goal

pub loop-page-smaller : goal.loop-page-smaller
loop-page-smaller c =
    grind (arith, passed (vec_items c.loop-page.self-inside.marks) c.in-Some.page c.loop-page.self-inside.queue)
