-- Pages with the marks of a table. Assumes nothing.
use Rattle.std.proofs.Common.{◌≡◌, ℕ, ◌+◌, append_assoc, ◌<◌, ◌≤◌, Bool, true, false, List, [], ◌∷◌, ◌++◌, length, get_or, set, Some, refl, ap, arith}
use Rattle.std.proofs.lemmas.List.{get_or-set_same, get_or-set_other, get_or_default, map_push}
use Rattle.std.proofs.lemmas.Bool.Decides.{nat_tests}
use Rattle.pages.specs.Lists.{has, without, first, rest, joins}
use Rattle.pages.proofs.ListLaws.{without_absent}
use Rattle.clock.specs.Ring.{Ring, pages_in, mark, lacking, marked_by, unmarked, marked_front, from_unmarked, turned}

-- a page that goes to the end, unmarked

front_push : (p : ℕ) (xs : Ring) → marked_front (xs ++ (p, false) ∷ []) ≡ marked_front xs
front_push p [] = refl
front_push p ((q, true) ∷ xs) = ap (λ zs. (q, true) ∷ zs) (front_push p xs)
front_push p ((q, false) ∷ xs) = refl

reached_push : (p : ℕ) (xs : Ring) → from_unmarked (xs ++ (p, false) ∷ []) ≡ from_unmarked xs ++ (p, false) ∷ []
reached_push p [] = refl
reached_push p ((q, true) ∷ xs) = reached_push p xs
reached_push p ((q, false) ∷ xs) = refl

pub turned_push : (p : ℕ) (xs : Ring) → turned (xs ++ (p, false) ∷ []) ≡ turned ((p, true) ∷ xs)
turned_push p xs = rw (reached_push p xs, front_push p xs) (append_assoc (from_unmarked xs) ((p, false) ∷ []) (unmarked (marked_front xs)))

-- the marks of a ring
abbrev pub marks_in : Ring → ℕ
marks_in [] = 0
marks_in ((p, true) ∷ xs) = 1 + marks_in xs
marks_in ((p, false) ∷ xs) = marks_in xs

pub marks_push : (p : ℕ) (xs : Ring) → marks_in (xs ++ (p, false) ∷ []) ≡ marks_in xs
marks_push p [] = refl
marks_push p ((q, true) ∷ xs) = ap (λ n. 1 + n) (marks_push p xs)
marks_push p ((q, false) ∷ xs) = marks_push p xs

module _ (ms : List Bool) where
  pub pages_marked : (ps : List ℕ) → pages_in (marked_by ms ps) ≡ ps
  pages_marked [] = refl
  pages_marked (p ∷ ps) = ap (λ qs. p ∷ qs) (pages_marked ps)

  pub marked_without : (p : ℕ) (ps : List ℕ) → marked_by ms (without p ps) ≡ lacking p (marked_by ms ps)
  marked_without p [] = refl
  marked_without p (q ∷ ps) = let ih = marked_without p ps in grind (arith, nat_tests)

  -- the mark of another page
  pub marked_other : (p : ℕ) (v : Bool) (ps : List ℕ) → has p ps ≡ false → marked_by (set ms p v) ps ≡ marked_by ms ps
  marked_other p v [] h = refl
  marked_other p v (q ∷ ps) h = let ih = marked_other p v ps in grind (arith, nat_tests, get_or-set_other)

  pub marked_hit : (p : ℕ) (ps : List ℕ) → p < length ms → marked_by (set ms p true) ps ≡ mark p (marked_by ms ps)
  marked_hit p [] l = refl
  marked_hit p (q ∷ ps) l = let ih = marked_hit p ps l in grind (arith, nat_tests, get_or-set_same, get_or-set_other)

  marked_put : (p : ℕ) (ps : List ℕ) → p < length ms → has p ps ≡ false → marked_by (set ms p false) (ps ++ p ∷ []) ≡ marked_by ms ps ++ (p, false) ∷ []
  marked_put p ps l h = grind (arith, nat_tests, get_or-set_same, marked_other, map_push)

  pub marked_push : (p : ℕ) (ps : List ℕ) → 4096 ≤ length ms → joins p ps ≡ true → marked_by (set ms p false) (ps ++ p ∷ []) ≡ marked_by ms ps ++ (p, false) ∷ []
  marked_push p ps l j = marked_put p ps (grind (arith, nat_tests)) (grind (arith, nat_tests))

  -- the first page, marked, goes from the front to the end and loses its mark: a turn comes to the same, and a mark less is left
  pub passed : (p : ℕ) (ps : List ℕ) → 4096 ≤ length ms → Some p ≡ first ps → joins p (rest ps) ≡ true → true ≡ get_or ms p true →
      (turned (marked_by (set ms p false) (rest ps ++ p ∷ [])) ≡ turned (marked_by ms ps)) × (marks_in (marked_by (set ms p false) (rest ps ++ p ∷ [])) < marks_in (marked_by ms ps))
  passed p [] l f j m = cc
  passed p (q ∷ qs) l f j m =
      let i : q ≡ p = cc in
      grind (arith, nat_tests, get_or_default, marked_push, turned_push, marks_push)

-- what the goals of a marked queue's functions ask for
pub ruleset marked_laws = (pages_marked, marked_without, marked_other, marked_hit, marked_push, without_absent, passed)
