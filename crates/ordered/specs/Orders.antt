-- An order of pages, by what each change makes of it. Assumes nothing.
use Rattle.std.specs.Prelude.{◌≡◌, ℕ, ◌<◌, true, false, List, [], Option}
use Rattle.pages.specs.Lists.{has, sound, Adds, Keeps, Takes}
use Rattle.policy.specs.Laws.{Gives}

pub record OrderModel (Order : Type 0) : Type 0 where
  pub pages : Order → List ℕ
  pub empty : Order
  -- what a page makes that comes in, one that is hit, and one that leaves
  pub on_put : Order → ℕ → Order
  pub on_hit : Order → ℕ → Order
  pub on_remove : Order → ℕ → Order
  -- the page that goes first, and the order without it
  pub takes : Order → Option ℕ
  pub on_take : Order → Order

-- the order keeps the pages that it is told of
pub record LawfulOrder {O : Type 0} (o : OrderModel O) : Type 0 where
  pub empty_pages : o.pages o.empty ≡ []
  pub put_adds : (x : O) (p : ℕ) → sound (o.pages x) ≡ true → p < 4096 → has p (o.pages x) ≡ false → Adds p (o.pages x) (o.pages (o.on_put x p))
  pub hit_keeps : (x : O) (p : ℕ) → sound (o.pages x) ≡ true → has p (o.pages x) ≡ true → Keeps (o.pages x) (o.pages (o.on_hit x p))
  pub remove_takes : (x : O) (p : ℕ) → sound (o.pages x) ≡ true → has p (o.pages x) ≡ true → Takes p (o.pages x) (o.pages (o.on_remove x p))
  pub take_gives : (x : O) → sound (o.pages x) ≡ true → Gives (o.takes x) (o.pages x) (o.pages (o.on_take x))
