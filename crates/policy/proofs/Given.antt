-- What a give leaves of a list of pages. Assumes nothing.
use Rattle.std.proofs.Common.{◌≡◌, ℕ, true, List, [], ◌∷◌, length, Some, None, Option, refl, ap, arith}
use Rattle.pages.specs.Lists.{sound, first, rest, Keeps}
use Rattle.pages.proofs.ListLaws.{takes_rest}
use Rattle.pages.proofs.JoinLaws.{keeps_takes}
use Rattle.policy.specs.Laws.{Gives}

-- the first page is given
pub gives_first : (xs : List ℕ) → sound xs ≡ true → Gives (first xs) xs (rest xs)
gives_first [] s = (refl, refl)
gives_first (x ∷ xs) s = takes_rest x (x ∷ xs) s refl

none_of : (xs : List ℕ) → length xs ≡ 0 → xs ≡ []
none_of [] e = refl
none_of (x ∷ xs) e = absurd (omega arith)

-- of the same pages in another order
pub keeps_gives : (o : Option ℕ) (xs ys zs : List ℕ) → Keeps xs ys → Gives o ys zs → Gives o xs zs
keeps_gives None xs ys zs k g = (none_of xs (omega (arith, k.level, ap length g.0)), g.1)
keeps_gives (Some p) xs ys zs k g = keeps_takes p xs ys zs k g
