-- A ring keeps the pages that it is told of. Assumes nothing.
use Rattle.std.specs.Prelude.{◌≡◌, ℕ, true, false, [], ◌∷◌, ◌++◌, refl}
use Rattle.std.proofs.Common.{ap, ◌∙◌, arith}
use Rattle.std.proofs.lemmas.List.{map-append}
use Rattle.std.proofs.lemmas.Simd.{map-map}
use Rattle.std.proofs.lemmas.Bool.Decides.{nat_tests}
use Rattle.pages.specs.Lists.{sound, without, rest, Keeps}
use Rattle.pages.proofs.ListLaws.{adds_push, takes_without}
use Rattle.pages.proofs.JoinLaws.{keeps_same, keeps_swap}
use Rattle.policy.proofs.Given.{gives_first, keeps_gives}
use Rattle.ordered.specs.Orders.{LawfulOrder}
use Rattle.clock.specs.Ring.{Ring, pages_in, mark, lacking, marked_front, from_unmarked, turned, others, ring}

-- the pages of a ring, after each change

pages_mark : (p : ℕ) (xs : Ring) → pages_in (mark p xs) ≡ pages_in xs
pages_mark p [] = refl
pages_mark p (x ∷ xs) = let ih = pages_mark p xs in grind (arith, nat_tests)

pages_lacking : (p : ℕ) (xs : Ring) → pages_in (lacking p xs) ≡ without p (pages_in xs)
pages_lacking p [] = refl
pages_lacking p (x ∷ xs) = let ih = pages_lacking p xs in grind (arith, nat_tests)

pages_others : (xs : Ring) → pages_in (others xs) ≡ rest (pages_in xs)
pages_others [] = refl
pages_others (x ∷ xs) = refl

-- the marked pages in front, and what stands behind them
pub parts : (xs : Ring) → xs ≡ marked_front xs ++ from_unmarked xs
parts [] = refl
parts ((p, true) ∷ xs) = ap (λ zs. (p, true) ∷ zs) (parts xs)
parts ((p, false) ∷ xs) = refl

pages_parts : (xs : Ring) → pages_in xs ≡ pages_in (marked_front xs) ++ pages_in (from_unmarked xs)
pages_parts xs = ap pages_in (parts xs) ∙ map-append _ (marked_front xs) _

pages_turned : (xs : Ring) → pages_in (turned xs) ≡ pages_in (from_unmarked xs) ++ pages_in (marked_front xs)
pages_turned xs =
    map-append _ (from_unmarked xs) _ ∙ ap (λ zs. pages_in (from_unmarked xs) ++ zs) (map-map _ _ (marked_front xs))

turned_keeps : (xs : Ring) → sound (pages_in xs) ≡ true → Keeps (pages_in xs) (pages_in (turned xs))
turned_keeps xs s = rw (pages_parts xs, pages_turned xs) (keeps_swap _ (pages_in (from_unmarked xs)) (rw (← pages_parts xs) s))

pub ring_lawful : LawfulOrder ring
ring_lawful = record {
  empty_pages = refl;
  put_adds = λ xs p s l h. rw (map-append _ xs ((p, false) ∷ [])) (adds_push p (pages_in xs) s l h);
  hit_keeps = λ xs p s h. rw (pages_mark p xs) (keeps_same (pages_in xs) s);
  remove_takes = λ xs p s h. rw (pages_lacking p xs) (takes_without p (pages_in xs) s h);
  take_gives = λ xs s.
      let k = turned_keeps xs s in
      rw (pages_others (turned xs)) (keeps_gives _ (pages_in xs) (pages_in (turned xs)) _ k (gives_first (pages_in (turned xs)) k.stays));
}
