-- A line keeps its pages. Assumes nothing.
use Rattle.std.specs.Prelude.{◌≡◌, ℕ, Bool, true, false, cond, List, [], ◌∷◌, ◌++◌, refl}
use Rattle.std.proofs.Common.{arith, inl, inr}
use Rattle.std.proofs.lemmas.Bool.{cases_Bool}
use Rattle.std.proofs.lemmas.Bool.Decides.{nat_tests}
use Rattle.pages.specs.Lists.{has, sound, without, Keeps}
use Rattle.pages.proofs.ListLaws.{has_small, adds_push, takes_without, without_absent}
use Rattle.pages.proofs.JoinLaws.{keeps_same, keeps_again}
use Rattle.policy.proofs.Given.{gives_first}
use Rattle.ordered.specs.Orders.{LawfulOrder}
use Rattle.line.specs.Line.{line}

renewed : (p : ℕ) (xs : List ℕ) → sound xs ≡ true → has p xs ≡ true → Keeps xs (without p xs ++ p ∷ [])
renewed p xs s h =
    let t = takes_without p xs s h in
    let k = t.members p in
    keeps_again p xs (without p xs) _ t (adds_push p (without p xs) t.stays (has_small p xs s h) (grind (arith, nat_tests)))

used : (b : Bool) (p : ℕ) (xs : List ℕ) → sound xs ≡ true → has p xs ≡ true → Keeps xs (cond b (without p xs ++ p ∷ []) xs)
used true p xs s h = renewed p xs s h
used false p xs s h = keeps_same xs s

pub line_lawful : (b : Bool) → LawfulOrder (line b)
line_lawful b = record {
  empty_pages = refl;
  put_adds = λ xs p s l h. adds_push p xs s l h;
  hit_keeps = λ xs p s h. used b p xs s h;
  remove_takes = λ xs p s h. takes_without p xs s h;
  take_gives = gives_first;
}

-- a page that is not there leaves nothing changed
pub removed : (p : ℕ) (xs : List ℕ) → without p xs ≡ cond (has p xs) (without p xs) xs
removed p xs = elim (cases_Bool (has p xs)) [ inl h ↦ rw h refl | inr h ↦ rw h (without_absent p xs h) ]
