use Rattle.std.proofs.Common.{◌≡◌, vec_len, vec_items, rules}
use Rattle.std.proofs.iter.runs.Sources.{ranges}
use Rattle.pages.proofs.Linked.{none_linked}
use Rattle.pages.proofs.queue.PageQueue.new.Goals as goal

pub invariant_of-result : goal.invariant_of-result
invariant_of-result c =
    let n : vec_len c.in_ok-links.links ≡ 4097 = search (rules, ranges) in
    let w = none_linked (vec_items c.in_ok-links.links) (search rules) (λ q l. search (rules, ranges)) in
    search rules
