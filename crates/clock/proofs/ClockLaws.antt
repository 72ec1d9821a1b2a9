-- What each call makes of a ring, and that the hand goes round at most once. Assumes nothing.
use Rattle.std.specs.Prelude.{◌≡◌, ℕ, Bool, true, false, not, [], ◌∷◌, ◌++◌, Some, refl}
use Rattle.std.specs.List.{list_all}
use Rattle.std.proofs.Common.{arith}
use Rattle.std.proofs.lemmas.Bool.Decides.{nat_tests}
use Rattle.pages.specs.Lists.{has, sound, first}
use Rattle.clock.specs.Ring.{Ring, pages_in, mark, lacking, unmarked, marked_front, from_unmarked, turned, others, ring}
use Rattle.clock.specs.Clock.{Given, ClockLaws}
use Rattle.clock.specs.RingLaws.{parts}

-- the page in front after a turn is unmarked

abbrev off : Ring → Bool
off [] = true
off (x ∷ xs) = not x.1

reached_off : (xs : Ring) → off (from_unmarked xs) ≡ true
reached_off [] = refl
reached_off ((p, true) ∷ xs) = reached_off xs
reached_off ((p, false) ∷ xs) = refl

passed_off : (xs : Ring) → off (unmarked xs) ≡ true
passed_off [] = refl
passed_off (x ∷ xs) = refl

off_append : (xs ys : Ring) → off xs ≡ true → off ys ≡ true → off (xs ++ ys) ≡ true
off_append [] ys a b = b
off_append (x ∷ xs) ys a b = a

off_first : (xs : Ring) (p : ℕ) → off xs ≡ true → first (pages_in xs) ≡ Some p → xs ≡ (p, false) ∷ others xs
off_first [] p o e = cc
off_first ((q, true) ∷ xs) p o e = cc
off_first ((q, false) ∷ xs) p o e = cc

front_marked : (xs : Ring) → list_all (λ x. x.1) (marked_front xs) ≡ true
front_marked [] = refl
front_marked ((p, true) ∷ xs) = front_marked xs
front_marked ((p, false) ∷ xs) = refl

given : (xs : Ring) (p : ℕ) → ring.takes xs ≡ Some p → Given xs p (ring.on_take xs)
given xs p e = record {
  moved = marked_front xs;
  kept = from_unmarked xs;
  parts = parts xs;
  used = front_marked xs;
  turns = off_first (turned xs) p (off_append (from_unmarked xs) (unmarked (marked_front xs)) (reached_off xs) (passed_off (marked_front xs))) e;
}

-- a page that stands between two parts, and no page twice

mark_absent : (p : ℕ) (xs : Ring) → has p (pages_in xs) ≡ false → mark p xs ≡ xs
mark_absent p [] h = refl
mark_absent p (x ∷ xs) h = let ih = mark_absent p xs in grind (arith, nat_tests)

has_between : (xs ys : Ring) (p : ℕ) (b : Bool) → has p (pages_in (xs ++ (p, b) ∷ ys)) ≡ true
has_between [] ys p b = grind (arith, nat_tests)
has_between (x ∷ xs) ys p b = let ih = has_between xs ys p b in grind (arith, nat_tests)

mark_between : (xs ys : Ring) (p : ℕ) (b : Bool) → sound (pages_in (xs ++ (p, b) ∷ ys)) ≡ true → mark p (xs ++ (p, b) ∷ ys) ≡ xs ++ (p, true) ∷ ys
mark_between [] ys p b s = grind (arith, nat_tests, mark_absent)
mark_between (x ∷ xs) ys p b s =
    let ih = mark_between xs ys p b in let h = has_between xs ys p b in grind (arith, nat_tests)

lacking_between : (xs ys : Ring) (p : ℕ) (b : Bool) → sound (pages_in (xs ++ (p, b) ∷ ys)) ≡ true → lacking p (xs ++ (p, b) ∷ ys) ≡ xs ++ ys
lacking_between [] ys p b s = grind (arith, nat_tests)
lacking_between (x ∷ xs) ys p b s =
    let ih = lacking_between xs ys p b in let h = has_between xs ys p b in grind (arith, nat_tests)

pub clock_laws : ClockLaws
clock_laws = record {
  fault_leaves = λ s p. refl;
  load_last = λ s p. refl;
  hit_marks = λ s xs ys p b k e. rw e (mark_between xs ys p b (rw (← e) k));
  drop_leaves = λ s xs ys p b k e. rw e (lacking_between xs ys p b (rw (← e) k));
  give_turns = λ s p e. given s.order p e;
}
