-- What holds of lists of pages: of the tests, and of a page that joins or leaves. Assumes nothing.
use Rattle.std.proofs.Common.{◌≡◌, ℕ, ◌+◌, ◌<◌, ◌≤◌, true, false, not, ◌&&◌, ◌||◌, eqb, List, [], ◌∷◌, ◌++◌, length, Some, None, refl, inl, inr, arith}
use Rattle.std.proofs.lemmas.Bool.{cases_Bool}
use Rattle.std.proofs.lemmas.List.{length_push}
use Rattle.std.proofs.lemmas.Bool.Decides.{nat_tests}
use Rattle.pages.specs.Lists.{has, sound, without, first, rest, Adds, Takes}

-- a page of a sound list is below 4,096
pub has_small : (q : ℕ) (xs : List ℕ) → sound xs ≡ true → has q xs ≡ true → q < 4096
has_small q [] s h = grind arith
has_small q (x ∷ xs) s h =
    let ih : sound xs ≡ true → has q xs ≡ true → q < 4096 = has_small q xs in grind (arith, nat_tests)

-- what is no page stands in no sound list
pub has_large : (q : ℕ) (xs : List ℕ) → sound xs ≡ true → 4096 ≤ q → has q xs ≡ false
has_large q xs s l = let h : has q xs ≡ true → q < 4096 = has_small q xs s in grind (arith, nat_tests)

pub first_none : (xs : List ℕ) → first xs ≡ None → xs ≡ []
first_none [] h = refl
first_none (x ∷ xs) h = cc

-- p joins at the end

pub has_push : (q p : ℕ) (xs : List ℕ) → has q (xs ++ p ∷ []) ≡ (eqb p q || has q xs)
has_push q p [] = refl
has_push q p (x ∷ xs) = let ih = has_push q p xs in grind (arith, nat_tests)

pub sound_push : (p : ℕ) (xs : List ℕ) → sound xs ≡ true → p < 4096 → has p xs ≡ false → sound (xs ++ p ∷ []) ≡ true
sound_push p [] s l h = grind (arith, nat_tests)
sound_push p (x ∷ xs) s l h =
    let ih : sound xs ≡ true → has p xs ≡ false → sound (xs ++ p ∷ []) ≡ true = λ a b. sound_push p xs a l b in
    let e = has_push x p xs in grind (arith, nat_tests)

pub adds_push : (p : ℕ) (xs : List ℕ) → sound xs ≡ true → p < 4096 → has p xs ≡ false → Adds p xs (xs ++ p ∷ [])
adds_push p xs s l h = record { members = λ q. has_push q p xs; longer = length_push xs p; stays = sound_push p xs s l h }

-- p leaves

pub without_absent : (p : ℕ) (xs : List ℕ) → has p xs ≡ false → without p xs ≡ xs
without_absent p [] h = refl
without_absent p (x ∷ xs) h = let ih : has p xs ≡ false → without p xs ≡ xs = without_absent p xs in grind (arith, nat_tests)

pub length_without : (p : ℕ) (xs : List ℕ) → has p xs ≡ true → length (without p xs) + 1 ≡ length xs
length_without p [] h = grind arith
length_without p (x ∷ xs) h =
    let ih : has p xs ≡ true → length (without p xs) + 1 ≡ length xs = length_without p xs in grind (arith, nat_tests)

pub has_without : (q p : ℕ) (xs : List ℕ) → sound xs ≡ true → has q (without p xs) ≡ (not (eqb p q) && has q xs)
has_without q p [] s = grind (arith, nat_tests)
has_without q p (x ∷ xs) s =
    let ih : sound xs ≡ true → has q (without p xs) ≡ (not (eqb p q) && has q xs) = has_without q p xs in
    elim (cases_Bool (eqb x p)) [ inl e ↦ rw e (grind (arith, nat_tests)) | inr e ↦ rw e (grind (arith, nat_tests)) ]

pub sound_without : (p : ℕ) (xs : List ℕ) → sound xs ≡ true → sound (without p xs) ≡ true
sound_without p [] s = refl
sound_without p (x ∷ xs) s =
    let ih : sound xs ≡ true → sound (without p xs) ≡ true = sound_without p xs in
    let e : sound xs ≡ true → has x (without p xs) ≡ (not (eqb p x) && has x xs) = has_without x p xs in grind (arith, nat_tests)

pub takes_without : (p : ℕ) (xs : List ℕ) → sound xs ≡ true → has p xs ≡ true → Takes p xs (without p xs)
takes_without p xs s h = record {
  held = h;
  members = λ q. has_without q p xs s;
  shorter = length_without p xs h;
  stays = sound_without p xs s;
}

pub takes_rest : (p : ℕ) (xs : List ℕ) → sound xs ≡ true → first xs ≡ Some p → Takes p xs (rest xs)
takes_rest p [] s h = let z : ◌≡◌ {A = ℕ} 0 1 = cc in absurd (omega arith)
takes_rest p (x ∷ xs) s h =
    let e : x ≡ p = cc in
    record { held = grind (arith, nat_tests); members = λ q. grind (arith, nat_tests); shorter = omega arith; stays = grind (arith, nat_tests) }
