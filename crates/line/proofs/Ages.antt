-- In a line the pages stand in the order of their latest loads, or of their latest uses. Assumes nothing.
use Rattle.std.proofs.Common.{◌≡◌, ℕ, ◌+◌, ◌<◌, ◌≤◌, Bool, true, false, cond, ◌&&◌, eqb, List, [], ◌∷◌, ◌++◌, length, Some, None, Option, sym, refl, ap, ◌∙◌, arith}
use Rattle.std.proofs.lemmas.Bool.{eq-eqb, ne_eqb, true≢false}
use Rattle.std.proofs.lemmas.Bool.Decides.{nat_tests}
use Rattle.pages.specs.Lists.{has, sound, without, Rising}
use Rattle.pages.proofs.ListLaws.{has_without, sound_push, sound_without}
use Rattle.pages.proofs.RisingLaws.{rising_same, rising_join, rising_without, rising_rest, rising_first, first_has, sound_rest}
use Rattle.policy.specs.declared.fault.PolicyFault.{PolicyFault}
use Rattle.policy.specs.Model.{Model, Call, clear, fault, load, hit, drop, give, refusal, accepted, after, unless}
use Rattle.policy.specs.Histories.{loads_or_hits, passed, reached, latest, GivesEarliest}
use Rattle.policy.proofs.Accepted.{load_facts, held_facts}
use Rattle.policy.proofs.Ages.{latest_low, not_numbered}
use Rattle.ordered.specs.Ordered.{Kept, ordered}
use Rattle.line.specs.Line.{line}

-- such calls are the loads, and where hits renew, the hits too
pub record Such (b : Bool) (such : ℕ → Call → Bool) : Type 0 where
  pub on_clear : (q : ℕ) → such q clear ≡ false
  pub on_fault : (q p : ℕ) → such q (fault p) ≡ false
  pub on_load : (q p : ℕ) → such q (load p) ≡ eqb p q
  pub on_hit : (q p : ℕ) → such q (hit p) ≡ (b && eqb p q)
  pub on_drop : (q p : ℕ) → such q (drop p) ≡ false
  pub on_give : (q : ℕ) → such q give ≡ false

pub loads_or_hits_are : (b : Bool) → Such b (loads_or_hits b)
loads_or_hits_are b = record {
  on_clear = λ q. refl;
  on_fault = λ q p. refl;
  on_load = λ q p. refl;
  on_hit = λ q p. refl;
  on_drop = λ q p. refl;
  on_give = λ q. refl;
}

module _ (b : Bool) (such : ℕ → Call → Bool) (k : Such b such) where
  abbrev m : Model (Kept (List ℕ))
  m = ordered (line b)

  abbrev InOrder : (ℕ → ℕ) → Kept (List ℕ) → Type 0
  InOrder f s = (sound s.order ≡ true) × Rising f s.order

  -- the numbers after one call more
  abbrev more : ℕ → (ℕ → ℕ) → Call → Bool → ℕ → ℕ
  more n f c ok q = cond (such q c && ok) (n + 1) (f q)

  module _ (s : Kept (List ℕ)) (n : ℕ) (f : ℕ → ℕ) (low : (q : ℕ) → f q ≤ n) (i : InOrder f s) where
    same : (c : Call) (xs : List ℕ) → ((q : ℕ) → such q c ≡ false) → Rising f xs → Rising (more n f c true) xs
    same c xs e r = rising_same f (more n f c true) xs (λ q h. rw (e q) refl) r

    -- p at the end, which has the latest number
    put : (c : Call) (p : ℕ) (xs : List ℕ) → ((q : ℕ) → such q c ≡ eqb p q) → has p xs ≡ false → Rising f xs → Rising (more n f c true) (xs ++ p ∷ [])
    put c p xs e h r =
        rising_join f (more n f c true) n p xs
        (λ q w. let d : such q c ≡ false = e q ∙ ne_eqb p q (λ z. true≢false (sym w ∙ ap (λ y. has y xs) (sym z) ∙ h)) in rw d refl)
        low
        (let d : such p c ≡ true = e p ∙ eq-eqb p p refl in rw d (omega arith))
        r

    used : (v : Bool) (p : ℕ) → has p s.order ≡ true → p < 4096 → ((q : ℕ) → such q (hit p) ≡ (v && eqb p q)) → (sound (cond v (without p s.order ++ p ∷ []) s.order) ≡ true) × Rising (more n f (hit p) true) (cond v (without p s.order ++ p ∷ []) s.order)
    used true p h l e =
        let t = has_without p p s.order i.0 in
        let g : has p (without p s.order) ≡ false = grind (arith, nat_tests) in
        (sound_push p (without p s.order) (sound_without p s.order i.0) l g, put (hit p) p (without p s.order) e g (rising_without f p s.order i.0 i.1))
    used false p h l e = (i.0, same (hit p) s.order e i.1)

    accepts : (c : Call) → refusal m s c ≡ None → InOrder (more n f c true) (accepted m s c)
    accepts clear r = (refl, tt)
    accepts (fault p) r = (i.0, same (fault p) s.order (λ q. k.on_fault q p) i.1)
    accepts (load p) r =
        let w = load_facts m s p r in
        (sound_push p s.order i.0 w.0 w.1, put (load p) p s.order (λ q. k.on_load q p) w.1 i.1)
    accepts (hit p) r = let w = held_facts m s p r in used b p w.1 w.0 (λ q. k.on_hit q p)
    accepts (drop p) r = (sound_without p s.order i.0, same (drop p) _ (λ q. k.on_drop q p) (rising_without f p s.order i.0 i.1))
    accepts give r = (sound_rest s.order i.0, same give _ k.on_give (rising_rest f s.order i.1))

    step : (c : Call) → InOrder (more n f c (passed (refusal m s c))) (after m s c)
    step c = by (refusal m s c) refl
      where
        by : (o : Option PolicyFault) → refusal m s c ≡ o → InOrder (more n f c (passed o)) (unless o s (accepted m s c))
        by None r = accepts c r
        by (Some e) r = (i.0, rising_same f (more n f c false) s.order (λ q h. not_numbered (such q c) (n + 1) (f q)) i.1)

  abbrev age : List Call → ℕ → ℕ
  age cs q = latest m tt such q cs

  in_order : (cs : List Call) → InOrder (age cs) (reached m tt cs)
  in_order [] = (refl, tt)
  in_order (c ∷ cs) = step (reached m tt cs) (length cs) (age cs) (latest_low m tt such cs) (in_order cs) c

  pub gives_earliest : GivesEarliest m such
  gives_earliest x cs p e =
      (first_has (reached m tt cs).order p e, λ q h n. rising_first (age cs) (reached m tt cs).order p q (in_order cs).1 e h n)

pub line_earliest : (b : Bool) → GivesEarliest (ordered (line b)) (loads_or_hits b)
line_earliest b = gives_earliest b (loads_or_hits b) (loads_or_hits_are b)
