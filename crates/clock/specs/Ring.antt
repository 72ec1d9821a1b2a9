-- Pages with marks in an order: the hand takes marked pages from the front to the end, unmarked, until the front page is unmarked. Assumes nothing.
use Rattle.std.specs.Prelude.{ℕ, Bool, true, false, cond, List, [], ◌∷◌, ◌++◌, ◌==◌, map, slice_index_or}
use Rattle.pages.specs.Lists.{first}
use Rattle.ordered.specs.Orders.{OrderModel}

-- the pages with their marks, the front first
abbrev pub Ring : Type 0
Ring = List (ℕ × Bool)

abbrev pub pages_in : Ring → List ℕ
pages_in = map (λ x. x.0)

-- pages with the marks that a table has for them
abbrev pub marked_by : List Bool → List ℕ → Ring
marked_by ms = map (λ p. (p, slice_index_or ms p false))

-- p is marked, and nothing moves
abbrev pub mark : ℕ → Ring → Ring
mark p = map (λ x. cond (x.0 == p) (p, true) x)

-- p leaves, and the others stay as they are
abbrev pub lacking : ℕ → Ring → Ring
lacking p [] = []
lacking p (x ∷ xs) = cond (x.0 == p) xs (x ∷ lacking p xs)

-- the same pages without a mark
abbrev pub unmarked : Ring → Ring
unmarked = map (λ x. (x.0, false))

-- the marked pages in front of the first unmarked one
abbrev pub marked_front : Ring → Ring
marked_front [] = []
marked_front ((p, true) ∷ xs) = (p, true) ∷ marked_front xs
marked_front ((p, false) ∷ xs) = []

-- what stands from the first unmarked page on
abbrev pub from_unmarked : Ring → Ring
from_unmarked [] = []
from_unmarked ((p, true) ∷ xs) = from_unmarked xs
from_unmarked ((p, false) ∷ xs) = (p, false) ∷ xs

-- the order in which a page is given: the pages that were passed over stand at the end, with their marks taken off
abbrev pub turned : Ring → Ring
turned xs = from_unmarked xs ++ unmarked (marked_front xs)

abbrev pub others : Ring → Ring
others [] = []
others (x ∷ xs) = xs

abbrev pub ring : OrderModel Ring
ring = record {
  pages = pages_in;
  empty = [];
  on_put = λ xs p. xs ++ (p, false) ∷ [];
  on_hit = λ xs p. mark p xs;
  on_remove = λ xs p. lacking p xs;
  takes = λ xs. first (pages_in (turned xs));
  on_take = λ xs. others (turned xs);
}
