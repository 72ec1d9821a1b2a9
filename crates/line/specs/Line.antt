-- Pages in a line: one that comes in joins the end, and where hits renew, so does one that is hit. The first goes first. Assumes nothing.
use Rattle.std.specs.Prelude.{ℕ, Bool, cond, List, [], ◌∷◌, ◌++◌}
use Rattle.pages.specs.Lists.{without, first, rest}
use Rattle.ordered.specs.Orders.{OrderModel}

abbrev pub line : Bool → OrderModel (List ℕ)
line renews = record {
  pages = λ xs. xs;
  empty = [];
  on_put = λ xs p. xs ++ p ∷ [];
  on_hit = λ xs p. cond renews (without p xs ++ p ∷ []) xs;
  on_remove = λ xs p. without p xs;
  takes = first;
  on_take = rest;
}
