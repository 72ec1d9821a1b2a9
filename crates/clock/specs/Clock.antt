-- CLOCK is a policy over a ring of marked pages, and what its calls make of the ring. Assumes nothing.
use Rattle.std.specs.Prelude.{◌≡◌, ℕ, Bool, true, false, [], ◌∷◌, ◌++◌, Some}
use Rattle.std.specs.List.{list_all}
use Rattle.pages.specs.Lists.{sound}
use Rattle.policy.specs.Model.{Model}
use Rattle.ordered.specs.Ordered.{Kept, ordered}
use Rattle.clock.specs.Ring.{Ring, pages_in, unmarked, ring}

abbrev pub clock : Model (Kept Ring)
clock = ordered ring

-- p is given of xs and ys is left: the hand moves over pages in front, all of them marked and no page twice; they stand at the end then,
-- unmarked, in their order, and p is the first page, unmarked; all others keep their place and their mark
pub record Given (xs : Ring) (p : ℕ) (ys : Ring) : Type 0 where
  pub moved : Ring
  pub kept : Ring
  pub parts : xs ≡ moved ++ kept
  pub used : list_all (λ x. x.1) moved ≡ true
  pub turns : kept ++ unmarked moved ≡ (p, false) ∷ ys

-- what each accepted call makes of the ring; where p stands between two parts of it, no page stands twice
pub record ClockLaws : Type 0 where
  pub fault_leaves : (s : Kept Ring) (p : ℕ) → (clock.on_fault s p).order ≡ s.order
  pub load_last : (s : Kept Ring) (p : ℕ) → (clock.on_load s p).order ≡ s.order ++ (p, false) ∷ []
  pub hit_marks : (s : Kept Ring) (before behind : Ring) (p : ℕ) (mark : Bool) → sound (pages_in s.order) ≡ true → s.order ≡ before ++ (p, mark) ∷ behind → (clock.on_hit s p).order ≡ before ++ (p, true) ∷ behind
  pub drop_leaves : (s : Kept Ring) (before behind : Ring) (p : ℕ) (mark : Bool) → sound (pages_in s.order) ≡ true → s.order ≡ before ++ (p, mark) ∷ behind → (clock.on_drop s p).order ≡ before ++ behind
  pub give_turns : (s : Kept Ring) (p : ℕ) → clock.gives s ≡ Some p → Given s.order p (clock.on_give s).order
