-- What every lawful policy keeps over its calls. Assumes nothing.
use Rattle.std.proofs.Common.{◌≡◌, ℕ, ◌<◌, ◌≤◌, true, List, [], ◌∷◌, length, Some, None, Option, sym, refl, ap, ◌∙◌, subst, arith}
use Rattle.std.proofs.lemmas.Bool.Decides.{nat_tests}
use Rattle.policy.specs.declared.fault.PolicyFault.{PolicyFault}
use Rattle.pages.specs.Lists.{has, sound}
use Rattle.pages.proofs.ListLaws.{has_small}
use Rattle.policy.specs.Model.{Model, Call, clear, fault, load, hit, drop, give, refusal, accepted, after, after_all, unless, held}
use Rattle.policy.specs.Laws.{Sound, Allowed, Effect, Gives, Lawful, replies, done, PolicyLaws}
use Rattle.policy.proofs.Accepted.{fault_facts, load_facts, checked}

pub held_has : (p : ℕ) (xs : List ℕ) → sound xs ≡ true → held p xs ≡ has p xs
held_has p xs s =
    let k : has p xs ≡ true → p < 4096 = has_small p xs s in grind (arith, nat_tests)

module _ {S : Type 0} (m : Model S) (l : Lawful m) where
  gives_fits : (o : Option ℕ) (xs ys : List ℕ) → sound xs ≡ true → length xs ≤ 1024 → Gives o xs ys → (sound ys ≡ true) × (length ys ≤ 1024)
  gives_fits None xs ys f n g = (ap sound g.1, omega (arith, ap length g.1))
  gives_fits (Some p) xs ys f n g = (g.stays, omega (arith, g.shorter))

  -- a call that is allowed leaves a sound standing
  pub accepted_sound : (s : S) (c : Call) → Allowed m s c → Sound m (accepted m s c)
  accepted_sound s clear a =
      let e = l.effects s clear a in
      record { fits = ap sound e.0; few = omega (arith, ap length e.0); counted = omega (arith, e.1); fine = l.stays_fine s clear a }
  accepted_sound s (fault p) a =
      let e = l.effects s (fault p) a in let k = fault_facts m s p a.1 in
      record { fits = e.0.stays; few = omega (arith, e.0.level, a.0.few); counted = omega (arith, e.1, k.2); fine = l.stays_fine s (fault p) a }
  accepted_sound s (load p) a =
      let e = l.effects s (load p) a in let k = load_facts m s p a.1 in
      record { fits = e.0.stays; few = omega (arith, e.0.longer, k.2); counted = omega (arith, e.1, a.0.counted); fine = l.stays_fine s (load p) a }
  accepted_sound s (hit p) a =
      let e = l.effects s (hit p) a in
      record { fits = e.0.stays; few = omega (arith, e.0.level, a.0.few); counted = omega (arith, e.1, a.0.counted); fine = l.stays_fine s (hit p) a }
  accepted_sound s (drop p) a =
      let e = l.effects s (drop p) a in
      record { fits = e.0.stays; few = omega (arith, e.0.shorter, a.0.few); counted = omega (arith, e.1, a.0.counted); fine = l.stays_fine s (drop p) a }
  accepted_sound s give a =
      let e = l.effects s give a in let k = gives_fits (m.gives s) (m.pages s) _ a.0.fits a.0.few e.0 in
      record { fits = k.0; few = k.1; counted = omega (arith, e.1, a.0.counted); fine = l.stays_fine s give a }

  pub allowed : (s : S) (c : Call) → Sound m s → refusal m s c ≡ None → Allowed m s c
  allowed s clear g r = tt
  allowed s (fault p) g r = (g, r)
  allowed s (load p) g r = (g, r)
  allowed s (hit p) g r = (g, r)
  allowed s (drop p) g r = (g, r)
  allowed s give g r = (g, r)

  -- what an accepted call leaves has its effect
  pub after_effect : (s : S) (c : Call) → Sound m s → refusal m s c ≡ None → Effect m s c (after m s c)
  after_effect s c g r = subst (Effect m s c) (ap (λ o. unless o s (accepted m s c)) (sym r)) (l.effects s c (allowed s c g r))

  -- what holds of s, and of every accepted call, holds after a call
  pub after_any : (P : S → Type 0) (s : S) (c : Call) → P s → (refusal m s c ≡ None → P (accepted m s c)) → P (after m s c)
  after_any P s c h f = by (refusal m s c) f
    where
      by : (o : Option PolicyFault) → (o ≡ None → P (accepted m s c)) → P (unless o s (accepted m s c))
      by None g = g refl
      by (Some x) g = h

  pub after_sound : (s : S) (c : Call) → Sound m s → Sound m (after m s c)
  after_sound s c g = after_any (Sound m) s c g (λ r. accepted_sound s c (allowed s c g r))

  pub after_settled : (s : S) (c : Call) → Sound m s → m.setting (after m s c) ≡ m.setting s
  after_settled s c g = after_any (λ t. m.setting t ≡ m.setting s) s c refl (λ r. l.settled s c (allowed s c g r))

  all_sound : (s : S) (cs : List Call) → Sound m s → Sound m (after_all m s cs)
  all_sound s [] g = g
  all_sound s (c ∷ cs) g = all_sound (after m s c) cs (after_sound s c g)

  all_settled : (s : S) (cs : List Call) → Sound m s → m.setting (after_all m s cs) ≡ m.setting s
  all_settled s [] g = refl
  all_settled s (c ∷ cs) g = all_settled (after m s c) cs (after_sound s c g) ∙ after_settled s c g

  unchanged : (s : S) (c : Call) (f : PolicyFault) → refusal m s c ≡ Some f → after m s c ≡ s
  unchanged s c f e = ap (λ o. unless o s (accepted m s c)) e

  pub none_given : (s : S) → Sound m s → m.gives s ≡ None → m.pages s ≡ []
  none_given s g e = by (m.gives s) e (l.effects s give (g, refl)).0
    where
      by : (o : Option ℕ) → o ≡ None → Gives o (m.pages s) (m.pages (m.on_give s)) → m.pages s ≡ []
      by None e k = k.0
      by (Some p) e k = let z : ◌≡◌ {A = ℕ} 0 1 = cc in absurd (omega arith)

  pub none_held : (s : S) → Sound m s → m.pages s ≡ [] → m.gives s ≡ None
  none_held s g e = by (m.gives s) (l.effects s give (g, refl)).0
    where
      by : (o : Option ℕ) → Gives o (m.pages s) (m.pages (m.on_give s)) → o ≡ None
      by None k = refl
      by (Some p) k = absurd (omega (arith, k.shorter, ap length e))

  pub policy_laws_lem : PolicyLaws m
  policy_laws_lem = record {
    stays_sound = all_sound;
    keeps_settings = all_settled;
    clear_sound = λ s cs. all_sound (after m s clear) cs (accepted_sound s clear tt);
    clear_alike = λ s t e. ap m.opening e;
    forgets = λ s before cs g. ap (λ x. done ∷ replies m (m.opening x) cs) (all_settled s before g);
    checked = checked m;
    refused_unchanged = unchanged;
    none_given = none_given;
    none_held = none_held;
    exact = λ s g. let k = g.few in grind (arith, nat_tests);
    held_is_member = λ s p g. held_has p (m.pages s) g.fits;
  }
