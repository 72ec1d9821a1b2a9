-- A queue as a table of links, over the pages and one end mark: forth to the next, back to the one before. Assumes nothing.
use Rattle.std.specs.Prelude.{ℕ, zero, suc, Bool, ◌&&◌, List, [], ◌∷◌, map, ◌==◌, slice_index}
use Rattle.pages.specs.declared.queue.Link.{Link}

-- the links forth of a table, and its links back
abbrev pub nexts : List Link → List ℕ
nexts ls = map (λ l. l.next) ls

abbrev pub prevs : List Link → List ℕ
prevs ls = map (λ l. l.prev) ls

-- what a list of links has for a
abbrev pub link : List ℕ → ℕ → ℕ
link ns a = slice_index ns a

-- from a the links forth pass through xs, and then come to b
abbrev pub chained : List ℕ → ℕ → List ℕ → ℕ → Bool
chained ns a [] b = link ns a == b
chained ns a (x ∷ xs) b = link ns a == x && chained ns x xs b

-- from b the links back pass through xs, last to first, and then come to a
abbrev pub chained_back : List ℕ → ℕ → List ℕ → ℕ → Bool
chained_back ps a [] b = link ps b == a
chained_back ps a (x ∷ xs) b = link ps x == a && chained_back ps x xs b

-- the n that follow a
abbrev pub walk : ℕ → List ℕ → ℕ → List ℕ
walk zero ns a = []
walk (suc n) ns a = link ns a ∷ walk n ns (link ns a)
