-- Lists whose pages have rising numbers: what a page that joins or leaves makes of one. Assumes nothing.
use Rattle.std.proofs.Common.{◌≡◌, ℕ, ◌<◌, ◌≤◌, true, eqb, List, [], ◌∷◌, ◌++◌, Some, refl, subst, inl, inr, arith}
use Rattle.std.proofs.lemmas.Bool.{cases_Bool}
use Rattle.std.proofs.lemmas.Bool.Decides.{nat_tests}
use Rattle.pages.specs.Lists.{has, sound, without, first, rest, Rising}
use Rattle.pages.proofs.ListLaws.{has_push, has_without}

pub rising_same : (f g : ℕ → ℕ) (xs : List ℕ) → ((q : ℕ) → has q xs ≡ true → g q ≡ f q) → Rising f xs → Rising g xs
rising_same f g [] e r = tt
rising_same f g (x ∷ xs) e r = (
  (λ q h. let a = e q (grind (arith, nat_tests)) in let b = e x (grind (arith, nat_tests)) in let c = r.0 q h in omega arith),
  rising_same f g xs (λ q h. e q (grind (arith, nat_tests))) r.1,
)

rising_push : (f : ℕ → ℕ) (p : ℕ) (xs : List ℕ) → ((q : ℕ) → has q xs ≡ true → f q < f p) → Rising f xs → Rising f (xs ++ p ∷ [])
rising_push f p [] l r = ((λ q h. let z : ◌≡◌ {A = ℕ} 0 1 = cc in absurd (omega arith)), tt)
rising_push f p (x ∷ xs) l r = (
  (λ q h. let e = has_push q p xs in elim (cases_Bool (has q xs)) [
    | inl k ↦ r.0 q k
    | inr k ↦ let i : p ≡ q = grind (arith, nat_tests) in subst (λ n. f x < f n) i (l x (grind (arith, nat_tests)))
  ]),
  rising_push f p xs (λ q h. l q (grind (arith, nat_tests))) r.1,
)

-- p joins the end with a number above all before it; g are the numbers then
pub rising_join : (f g : ℕ → ℕ) (n p : ℕ) (xs : List ℕ) → ((q : ℕ) → has q xs ≡ true → g q ≡ f q) → ((q : ℕ) → f q ≤ n) → n < g p → Rising f xs → Rising g (xs ++ p ∷ [])
rising_join f g n p xs same low high r = rising_push g p xs (λ q h. omega (arith, same q h, low q)) (rising_same f g xs same r)

pub rising_without : (f : ℕ → ℕ) (p : ℕ) (xs : List ℕ) → sound xs ≡ true → Rising f xs → Rising f (without p xs)
rising_without f p [] s r = tt
rising_without f p (x ∷ xs) s r =
    let t : sound xs ≡ true = grind (arith, nat_tests) in
    elim (cases_Bool (eqb x p)) [
      | inl e ↦ rw e r.1
      | inr e ↦ rw e ((λ q h. let k = has_without q p xs t in r.0 q (grind (arith, nat_tests))), rising_without f p xs t r.1)
    ]

pub rising_rest : (f : ℕ → ℕ) (xs : List ℕ) → Rising f xs → Rising f (rest xs)
rising_rest f [] r = tt
rising_rest f (x ∷ xs) r = r.1

pub rising_first : (f : ℕ → ℕ) (xs : List ℕ) (p q : ℕ) → Rising f xs → first xs ≡ Some p → has q xs ≡ true → (q ≡ p → ⊥) → f p < f q
rising_first f [] p q r e h n = let z : ◌≡◌ {A = ℕ} 0 1 = cc in absurd (omega arith)
rising_first f (x ∷ xs) p q r e h n = let i : x ≡ p = cc in subst (λ y. f y < f q) i (r.0 q (grind (arith, nat_tests)))

pub first_has : (xs : List ℕ) (p : ℕ) → first xs ≡ Some p → has p xs ≡ true
first_has [] p e = let z : ◌≡◌ {A = ℕ} 0 1 = cc in absurd (omega arith)
first_has (x ∷ xs) p e = let i : x ≡ p = cc in grind (arith, nat_tests)

pub sound_rest : (xs : List ℕ) → sound xs ≡ true → sound (rest xs) ≡ true
sound_rest [] s = refl
sound_rest (x ∷ xs) s = grind (arith, nat_tests)
