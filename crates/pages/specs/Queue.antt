-- What a page queue holds, and what its table is like. Assumes nothing.
use Rattle.std.specs.Prelude.{◌≡◌, ℕ, ◌<◌, ◌≤◌, true, not, List, ◌==◌, vec_items, vec_len}
use Rattle.pages.specs.declared.queue.PageQueue.TheInside.{Inside}
use Rattle.pages.specs.Lists.{has, sound}
use Rattle.pages.specs.Links.{link, nexts, prevs, chained, chained_back, walk}

-- its pages in their order
abbrev pub pages_of : Inside → List ℕ
pages_of q = walk q.len (nexts (vec_items q.links)) 4096

-- the table has an entry for each page and one for the end mark, and its links lead through the queue's pages alone
pub record IsQueue (q : Inside) : Type 0 where
  pub entries : vec_len q.links ≡ 4097
  pub few : q.len ≤ 1024
  pub fits : sound (pages_of q) ≡ true
  pub forth : chained (nexts (vec_items q.links)) 4096 (pages_of q) 4096 ≡ true
  pub back : chained_back (prevs (vec_items q.links)) 4096 (pages_of q) 4096 ≡ true
  pub outside : (p : ℕ) → p < 4096 → (link (nexts (vec_items q.links)) p == p) ≡ not (has p (pages_of q))
