-- Two lists of pages as one, and one change after another. Assumes nothing.
use Rattle.std.proofs.Common.{◌≡◌, ℕ, ◌<◌, true, false, not, ◌&&◌, ◌||◌, eqb, List, [], ◌∷◌, ◌++◌, refl, ap, ◌∙◌, subst, inl, inr, arith, length-append}
use Rattle.std.proofs.lemmas.List.{length_push}
use Rattle.std.proofs.lemmas.Bool.{cases_Bool}
use Rattle.std.proofs.lemmas.Bool.Decides.{nat_tests}
use Rattle.pages.specs.Lists.{has, sound, Adds, Keeps, Takes}
use Rattle.pages.proofs.ListLaws.{has_push, sound_push}

pub has_append : (q : ℕ) (xs ys : List ℕ) → has q (xs ++ ys) ≡ (has q xs || has q ys)
has_append q [] ys = refl
has_append q (x ∷ xs) ys = let ih = has_append q xs ys in grind (arith, nat_tests)

-- what stands in one part does not stand in the other

pub apart : (q : ℕ) (xs ys : List ℕ) → sound (xs ++ ys) ≡ true → has q xs ≡ true → has q ys ≡ false
apart q [] ys s h = let z : ◌≡◌ {A = ℕ} 0 1 = cc in absurd (omega arith)
apart q (x ∷ xs) ys s h =
    let ih : sound (xs ++ ys) ≡ true → has q xs ≡ true → has q ys ≡ false = apart q xs ys in
    let e = has_append x xs ys in grind (arith, nat_tests)

pub apart_back : (q : ℕ) (xs ys : List ℕ) → sound (xs ++ ys) ≡ true → has q ys ≡ true → has q xs ≡ false
apart_back q xs ys s h =
    elim (cases_Bool (has q xs)) [ inl e ↦ let k = apart q xs ys s e in grind arith | inr e ↦ e ]

pub sound_left : (xs ys : List ℕ) → sound (xs ++ ys) ≡ true → sound xs ≡ true
sound_left [] ys s = refl
sound_left (x ∷ xs) ys s =
    let ih : sound (xs ++ ys) ≡ true → sound xs ≡ true = sound_left xs ys in
    let e = has_append x xs ys in grind (arith, nat_tests)

pub sound_right : (xs ys : List ℕ) → sound (xs ++ ys) ≡ true → sound ys ≡ true
sound_right [] ys s = s
sound_right (x ∷ xs) ys s = let ih : sound (xs ++ ys) ≡ true → sound ys ≡ true = sound_right xs ys in grind (arith, nat_tests)

pub sound_join : (xs ys : List ℕ) → sound xs ≡ true → sound ys ≡ true → ((q : ℕ) → has q xs ≡ true → has q ys ≡ false) → sound (xs ++ ys) ≡ true
sound_join [] ys s t d = t
sound_join (x ∷ xs) ys s t d =
    let ih : sound xs ≡ true → sound (xs ++ ys) ≡ true = λ a. sound_join xs ys a t (λ q h. d q (grind (arith, nat_tests))) in
    let k : has x (x ∷ xs) ≡ true = grind (arith, nat_tests) in
    let j = d x k in
    let e = has_append x xs ys in grind (arith, nat_tests)

-- the two parts change places
pub keeps_swap : (xs ys : List ℕ) → sound (xs ++ ys) ≡ true → Keeps (xs ++ ys) (ys ++ xs)
keeps_swap xs ys s = record {
  members = λ q. let a = has_append q xs ys in let b = has_append q ys xs in grind arith;
  level = omega (arith, length-append xs ys, length-append ys xs);
  stays = sound_join ys xs (sound_right xs ys s) (sound_left xs ys s) (λ q h. apart_back q xs ys s h);
}

-- a change of one part is a change of the whole

module _ (f : List ℕ) (b : List ℕ) (s : sound (f ++ b) ≡ true) where
  pub adds_front : (p : ℕ) (g : List ℕ) → has p b ≡ false → Adds p f g → Adds p (f ++ b) (g ++ b)
  adds_front p g h a = record {
    members = λ q. let x = has_append q g b in let y = has_append q f b in let z = a.members q in grind arith;
    longer = omega (arith, length-append g b, length-append f b, a.longer);
    stays = sound_join g b a.stays (sound_right f b s) (λ q k. let z = a.members q in let j : has q f ≡ true → has q b ≡ false = apart q f b s in grind (arith, nat_tests));
  }

  pub keeps_back : (c : List ℕ) → Keeps b c → Keeps (f ++ b) (f ++ c)
  keeps_back c a = record {
    members = λ q. let x = has_append q f c in let y = has_append q f b in let z = a.members q in grind arith;
    level = omega (arith, length-append f c, length-append f b, a.level);
    stays = sound_join f c (sound_left f b s) a.stays (λ q k. let z = a.members q in let j = apart q f b s k in grind arith);
  }

  pub takes_front : (p : ℕ) (g : List ℕ) → Takes p f g → Takes p (f ++ b) (g ++ b)
  takes_front p g a = record {
    held = let x = has_append p f b in let h = a.held in grind arith;
    members = λ q. let x = has_append q g b in let y = has_append q f b in let z = a.members q in let j = apart p f b s a.held in grind (arith, nat_tests);
    shorter = omega (arith, length-append g b, length-append f b, a.shorter);
    stays = sound_join g b a.stays (sound_right f b s) (λ q k. let z = a.members q in let j : has q f ≡ true → has q b ≡ false = apart q f b s in grind (arith, nat_tests));
  }

  pub takes_back : (p : ℕ) (c : List ℕ) → Takes p b c → Takes p (f ++ b) (f ++ c)
  takes_back p c a = record {
    held = let x = has_append p f b in let h = a.held in grind arith;
    members = λ q. let x = has_append q f c in let y = has_append q f b in let z = a.members q in let j = apart_back p f b s a.held in grind (arith, nat_tests);
    shorter = omega (arith, length-append f c, length-append f b, a.shorter);
    stays = sound_join f c (sound_left f b s) a.stays (λ q k. let z = a.members q in let j = apart q f b s k in grind (arith, nat_tests));
  }

-- x moves from the front of the one part into the other, and p joins the end of the first
pub adds_over : (x p : ℕ) (f b c : List ℕ) → sound ((x ∷ f) ++ b) ≡ true → p < 4096 → has p ((x ∷ f) ++ b) ≡ false → Adds x b c → Adds p ((x ∷ f) ++ b) ((f ++ p ∷ []) ++ c)
adds_over x p f b c s l h a =
    let t = has_append p f b in
    let w = sound_left (x ∷ f) b s in
    let u = has_append x f b in
    record {
      members = λ q. let e = has_append q (f ++ p ∷ []) c in let i = has_push q p f in let y = has_append q f b in let z = a.members q in grind (arith, nat_tests);
      longer = omega (arith, length-append (f ++ p ∷ []) c, length_push f p, length-append f b, a.longer);
      stays = sound_join (f ++ p ∷ []) c (sound_push p f (grind (arith, nat_tests)) l (grind (arith, nat_tests))) a.stays
          (λ q k. let i = has_push q p f in let z = a.members q in let j : has q (x ∷ f) ≡ true → has q b ≡ false = apart q (x ∷ f) b s in grind (arith, nat_tests));
    }

-- one change after another

pub keeps_same : (xs : List ℕ) → sound xs ≡ true → Keeps xs xs
keeps_same xs s = record { members = λ q. refl; level = refl; stays = s }

pub keeps_takes : (p : ℕ) (xs ys zs : List ℕ) → Keeps xs ys → Takes p ys zs → Takes p xs zs
keeps_takes p xs ys zs k t = record {
  held = let a = k.members p in let b = t.held in grind arith;
  members = λ q. t.members q ∙ ap (λ x. not (eqb p q) && x) (k.members q);
  shorter = t.shorter ∙ k.level;
  stays = t.stays;
}

-- p leaves and comes in again
pub keeps_again : (p : ℕ) (xs ys zs : List ℕ) → Takes p xs ys → Adds p ys zs → Keeps xs zs
keeps_again p xs ys zs t a = record {
  members = λ q. let x = t.members q in let y = a.members q in let z : p ≡ q → has q xs ≡ true = λ e. subst (λ n. has n xs ≡ true) e t.held in grind (arith, nat_tests);
  level = omega (arith, t.shorter, a.longer);
  stays = a.stays;
}
