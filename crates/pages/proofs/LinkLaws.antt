-- What the links say of a list of pages, and how a page leaves them or joins. Assumes nothing.
use Rattle.std.proofs.Common.{◌≡◌, ℕ, zero, suc, ◌<◌, true, false, cond, eqb, List, [], ◌∷◌, ◌++◌, length, set, refl, ap, inl, inr, arith}
use Rattle.std.proofs.lemmas.List.{get_or-set_same, get_or-set_other, length-set}
use Rattle.std.proofs.lemmas.Bool.{cases_Bool, cases_eq}
use Rattle.std.proofs.lemmas.Bool.Decides.{nat_tests}
use Rattle.pages.specs.Lists.{has, sound, without}
use Rattle.pages.specs.Links.{link, chained, chained_back, walk}

pub length_walk : (n : ℕ) (ns : List ℕ) (a : ℕ) → length (walk n ns a) ≡ n
length_walk zero ns a = refl
length_walk (suc n) ns a = ap suc (length_walk n ns (link ns a))

pub walk_chained : (ns : List ℕ) (a : ℕ) (xs : List ℕ) (b : ℕ) → chained ns a xs b ≡ true → walk (length xs) ns a ≡ xs
walk_chained ns a [] b f = refl
walk_chained ns a (x ∷ xs) b f =
    let e : link ns a ≡ x = grind (arith, nat_tests) in
    let ih = walk_chained ns x xs b (grind (arith, nat_tests)) in rw (e, ih)

-- a table with one entry written
pub link_set : (ns : List ℕ) (a v q : ℕ) → a < length ns → link (set ns a v) q ≡ cond (eqb q a) v (link ns q)
link_set ns a v q l = elim (cases_eq q a) [
  | inl e ↦ let k = get_or-set_same ns a v 0 l in grind (arith, nat_tests)
  | inr n ↦ let k = get_or-set_other ns a q v 0 n in grind (arith, nat_tests)
]

-- and with two, one after the other
pub link_sets : (ns : List ℕ) (a v c w q : ℕ) → a < length ns → c < length ns → link (set (set ns a v) c w) q ≡ cond (eqb q c) w (cond (eqb q a) v (link ns q))
link_sets ns a v c w q l m = rw (link_set (set ns a v) c w q (simp length-set m), link_set ns a v q l)

-- an entry that the links do not pass

pub forth_set : (ns : List ℕ) (u v a : ℕ) (xs : List ℕ) (b : ℕ) → u < length ns → has u (a ∷ xs) ≡ false → chained (set ns u v) a xs b ≡ chained ns a xs b
forth_set ns u v a [] b l h = let e = link_set ns u v a l in grind (arith, nat_tests)
forth_set ns u v a (x ∷ xs) b l h =
    let e = link_set ns u v a l in let ih = forth_set ns u v x xs b l (grind (arith, nat_tests)) in grind (arith, nat_tests)

pub back_set : (ps : List ℕ) (u v a : ℕ) (xs : List ℕ) (b : ℕ) → u < length ps → has u (b ∷ xs) ≡ false → chained_back (set ps u v) a xs b ≡ chained_back ps a xs b
back_set ps u v a [] b l h = let e = link_set ps u v b l in grind (arith, nat_tests)
back_set ps u v a (x ∷ xs) b l h =
    let e = link_set ps u v x l in let ih = back_set ps u v x xs b l (grind (arith, nat_tests)) in grind (arith, nat_tests)

-- both tables lead through xs, which has neither end
pub record Strung (ns ps : List ℕ) (a : ℕ) (xs : List ℕ) (b : ℕ) : Type 0 where
  pub forth : chained ns a xs b ≡ true
  pub back : chained_back ps a xs b ≡ true
  pub fits : sound xs ≡ true
  pub front : has a xs ≡ false
  pub end : has b xs ≡ false

module _ (ns ps : List ℕ) (b : ℕ) where
  on : (a x : ℕ) (xs : List ℕ) → Strung ns ps a (x ∷ xs) b → Strung ns ps x xs b
  on a x xs t = record {
    forth = grind (arith, nat_tests);
    back = grind (arith, nat_tests);
    fits = grind (arith, nat_tests);
    front = grind (arith, nat_tests);
    end = grind (arith, nat_tests);
  }

  -- where a link leads

  pub forth_within : (q a : ℕ) (xs : List ℕ) → Strung ns ps a xs b → has q (a ∷ xs) ≡ true → has (link ns q) (b ∷ xs) ≡ true
  forth_within q a [] t h = grind (arith, nat_tests)
  forth_within q a (x ∷ xs) t h = let ih = forth_within q x xs (on a x xs t) in grind (arith, nat_tests)

  pub back_within : (q a : ℕ) (xs : List ℕ) → Strung ns ps a xs b → has q (b ∷ xs) ≡ true → has (link ps q) (a ∷ xs) ≡ true
  back_within q a [] t h = grind (arith, nat_tests)
  back_within q a (x ∷ xs) t h = let ih = back_within q x xs (on a x xs t) in grind (arith, nat_tests)

  -- no page of the list is linked to itself
  pub leads_on : (q a : ℕ) (xs : List ℕ) → Strung ns ps a xs b → has q xs ≡ true → eqb (link ns q) q ≡ false
  leads_on q a [] t h = grind arith
  leads_on q a (x ∷ xs) t h =
      let w = forth_within x x xs (on a x xs t) (grind (arith, nat_tests)) in
      let ih = leads_on q x xs (on a x xs t) in grind (arith, nat_tests)

  -- p leaves: the one before it leads to the one behind it, and that one back

  forth_past : (a x : ℕ) (xs : List ℕ) → Strung ns ps a (x ∷ xs) b → a < length ns → chained (set ns a (link ns x)) a xs b ≡ true
  forth_past a x [] t l = let e = link_set ns a (link ns x) a l in grind (arith, nat_tests)
  forth_past a x (y ∷ ys) t l =
      let e = link_set ns a (link ns x) a l in
      let k = forth_set ns a (link ns x) y ys b l (grind (arith, nat_tests)) in grind (arith, nat_tests)

  pub forth_leave : (p a : ℕ) (xs : List ℕ) → Strung ns ps a xs b → has p xs ≡ true → link ps p < length ns → chained (set ns (link ps p) (link ns p)) a (without p xs) b ≡ true
  forth_leave p a [] t h l = grind arith
  forth_leave p a (x ∷ xs) t h l = elim (cases_Bool (eqb x p)) [
    | inl e ↦ let k = forth_past a x xs t (grind (arith, nat_tests)) in rw e (grind (arith, nat_tests))
    | inr e ↦
        let w = back_within p x xs (on a x xs t) (grind (arith, nat_tests)) in
        let g = link_set ns (link ps p) (link ns p) a l in
        let ih = forth_leave p x xs (on a x xs t) (grind (arith, nat_tests)) l in rw e (grind (arith, nat_tests))
  ]

  back_past : (a x : ℕ) (xs : List ℕ) → Strung ns ps a (x ∷ xs) b → link ns x < length ps → chained_back (set ps (link ns x) a) a xs b ≡ true
  back_past a x [] t l = let e = link_set ps (link ns x) a b l in grind (arith, nat_tests)
  back_past a x (y ∷ ys) t l =
      let e = link_set ps (link ns x) a y l in
      let k = back_set ps (link ns x) a y ys b l (grind (arith, nat_tests)) in grind (arith, nat_tests)

  pub back_leave : (p a : ℕ) (xs : List ℕ) → Strung ns ps a xs b → has p xs ≡ true → link ns p < length ps → chained_back (set ps (link ns p) (link ps p)) a (without p xs) b ≡ true
  back_leave p a [] t h l = grind arith
  back_leave p a (x ∷ xs) t h l = elim (cases_Bool (eqb x p)) [
    | inl e ↦ let k = back_past a x xs t (grind (arith, nat_tests)) in rw e (grind (arith, nat_tests))
    | inr e ↦
        let w = forth_within p x xs (on a x xs t) (grind (arith, nat_tests)) in
        let g = link_set ps (link ns p) (link ps p) x l in
        let ih = back_leave p x xs (on a x xs t) (grind (arith, nat_tests)) l in rw e (grind (arith, nat_tests))
  ]

  -- p joins at the end, before b

  pub forth_join : (p a : ℕ) (xs : List ℕ) → Strung ns ps a xs b → has p (a ∷ xs) ≡ false → link ps b < length ns → p < length ns → chained (set (set ns p b) (link ps b) p) a (xs ++ p ∷ []) b ≡ true
  forth_join p a [] t h l m =
      let e = link_sets ns p b (link ps b) p a m l in
      let g = link_sets ns p b (link ps b) p p m l in grind (arith, nat_tests)
  forth_join p a (x ∷ xs) t h l m =
      let w = back_within b x xs (on a x xs t) (grind (arith, nat_tests)) in
      let e = link_sets ns p b (link ps b) p a m l in
      let ih = forth_join p x xs (on a x xs t) (grind (arith, nat_tests)) l m in grind (arith, nat_tests)

  pub back_join : (p a : ℕ) (xs : List ℕ) → Strung ns ps a xs b → has p (b ∷ xs) ≡ false → b < length ps → p < length ps → chained_back (set (set ps p (link ps b)) b p) a (xs ++ p ∷ []) b ≡ true
  back_join p a [] t h l m =
      let e = link_sets ps p (link ps b) b p b m l in
      let g = link_sets ps p (link ps b) b p p m l in grind (arith, nat_tests)
  back_join p a (x ∷ xs) t h l m =
      let e = link_sets ps p (link ps b) b p x m l in
      let ih = back_join p x xs (on a x xs t) (grind (arith, nat_tests)) l m in grind (arith, nat_tests)
