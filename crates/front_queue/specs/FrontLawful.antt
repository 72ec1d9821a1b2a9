-- A queue in front of a policy shows the laws of the interface, where the policy does. Assumes nothing.
use Rattle.std.specs.Prelude.{◌≡◌, ℕ, ◌<◌, ◌≤◌, true, false, List, [], ◌∷◌, ◌++◌, length, Some, None, Option, ◌==◌, nat_lt, refl}
use Rattle.std.proofs.Common.{sym, ap, ◌∙◌, inl, inr, arith, length-append}
use Rattle.std.proofs.lemmas.List.{length_push, append_cancel_left}
use Rattle.std.proofs.lemmas.Bool.{cases_Bool, ltb-false}
use Rattle.std.proofs.lemmas.Bool.Decides.{nat_tests}
use Rattle.pages.specs.Lists.{has, sound, without, first, rest, Adds}
use Rattle.pages.proofs.ListLaws.{has_small, adds_push, takes_without, takes_rest, length_without}
use Rattle.pages.proofs.JoinLaws.{has_append, apart, sound_left, adds_front, adds_over, keeps_back, keeps_same, keeps_again, takes_front, takes_back}
use Rattle.policy.specs.Model.{Model, Call, clear, fault, load, hit, drop, give, refusal, accepted, after}
use Rattle.policy.specs.Laws.{Sound, Allowed, Effect, Gives, Lawful}
use Rattle.policy.proofs.Accepted.{fault_facts, load_facts, held_facts, fault_accepts, load_accepts, held_accepts}
use Rattle.policy.proofs.Calls.{accepted_sound, after_sound, after_settled, after_effect}
use Rattle.front_queue.specs.Front.{Queued, queued, left, or_else, sunk, join, raised, fronted}

pub not_in_front : (p : ℕ) (f b : List ℕ) → has p (f ++ b) ≡ true → has p f ≡ false → has p b ≡ true
not_in_front p f b h e = let a = has_append p f b in grind arith

rest_short : (f : List ℕ) (n : ℕ) → length f ≤ n → length (rest f) ≤ n
rest_short [] n h = h
rest_short (x ∷ f) n h = omega arith

left_short : (o : Option ℕ) (f : List ℕ) (n : ℕ) → length f ≤ n → length (left o f) ≤ n
left_short None f n h = rest_short f n h
left_short (Some q) f n h = h

module _ {S : Type 0} (m : Model S) (l : Lawful m) where
  abbrev over : Model (Queued S)
  over = fronted m

  whole : (s t : Queued S) → over.pages s ≡ over.pages t → over.count s ≡ over.count t → over.order s ≡ over.order t → over.setting s ≡ over.setting t → s ≡ t
  whole s t p c o x =
      let f : s.front ≡ t.front = ap (λ (z : List ℕ × m.Order). z.0) o in
      let n : s.size ≡ t.size = ap (λ (z : ℕ × m.Setting). z.0) x in
      let e = append_cancel_left s.front _ _ (p ∙ ap (λ fs. fs ++ m.pages t.below) (sym f)) in
      let b = l.whole s.below t.below e c (ap (λ (z : List ℕ × m.Order). z.1) o) (ap (λ (z : ℕ × m.Setting). z.1) x) in
      ap (λ fs. queued fs s.size s.below) f ∙ ap (λ k. queued t.front k s.below) n ∙ ap (queued t.front t.size) b

  -- the oldest page of the queue can be loaded below
  pub oldest_accepted : (b : S) (x : ℕ) (f : List ℕ) → sound ((x ∷ f) ++ m.pages b) ≡ true → length ((x ∷ f) ++ m.pages b) ≤ 1024 → refusal m b (load x) ≡ None
  oldest_accepted b x f s r =
      let t : has x (x ∷ f) ≡ true = grind (arith, nat_tests) in
      load_accepts m b x (has_small x (x ∷ f) (sound_left (x ∷ f) (m.pages b) s) t) (apart x (x ∷ f) (m.pages b) s t) (omega (arith, length-append f (m.pages b)))

  -- p joins the queue f over b, which leaves t
  record Joined (p : ℕ) (f : List ℕ) (n : ℕ) (b : S) (t : Queued S) : Type 0 where
    adds : Adds p (f ++ m.pages b) (over.pages t)
    counted : over.count t ≡ m.count b
    settled : over.setting t ≡ (n, m.setting b)
    fine : over.Fine t

  module _ (b : S) (g : Sound m b) (p : ℕ) (k : p < 4096) (n : ℕ) where
    sinks : (f : List ℕ) → length f ≤ n → sound (f ++ m.pages b) ≡ true → has p (f ++ m.pages b) ≡ false → length (f ++ m.pages b) < 1024 → Joined p f n b (sunk m (f ++ p ∷ []) n b)
    sinks [] z s h r =
        let e = after_effect m l b (load p) g (load_accepts m b p k h r) in
        record { adds = e.0; counted = e.1; settled = ap (λ x. (n, x)) (after_settled m l b (load p) g); fine = (after_sound m l b (load p) g, omega arith) }
    sinks (x ∷ f) z s h r =
        let e = after_effect m l b (load x) g (oldest_accepted b x f s (omega arith)) in
        record {
          adds = adds_over x p f (m.pages b) _ s k h e.0;
          counted = e.1;
          settled = ap (λ x. (n, x)) (after_settled m l b (load x) g);
          fine = (after_sound m l b (load x) g, omega (arith, length_push f p));
        }

    joined : (f : List ℕ) → length f ≤ n → sound (f ++ m.pages b) ≡ true → has p (f ++ m.pages b) ≡ false → length (f ++ m.pages b) < 1024 → Joined p f n b (join m f n b p)
    joined f z s h r = elim (cases_Bool (nat_lt n (length (f ++ p ∷ [])))) [
      | inl e ↦ rw e (sinks f z s h r)
      | inr e ↦ rw e (
          let a = has_append p f (m.pages b) in
          let j : Joined p f n b (queued (f ++ p ∷ []) n b) = record {
            adds = adds_front f (m.pages b) s p (f ++ p ∷ []) (grind arith) (adds_push p f (sound_left f (m.pages b) s) k (grind arith));
            counted = refl;
            settled = refl;
            fine = (g, ltb-false n (length (f ++ p ∷ [])) e);
          } in j)
    ]

  -- what an accepted call does to a standing
  record Fares (s : Queued S) (c : Call) (t : Queued S) : Type 0 where
    effect : Effect over s c t
    settled : over.setting t ≡ over.setting s
    fine : over.Fine t

  -- a call that goes below and leaves the queue as it was, or a part of it
  below_only : (s : Queued S) (c d : Call) (f : List ℕ) → Sound over s → length f ≤ s.size → Effect over s c (queued f s.size (after m s.below d)) → Fares s c (queued f s.size (after m s.below d))
  below_only s c d f g z e = record {
    effect = e;
    settled = ap (λ x. (s.size, x)) (after_settled m l s.below d g.fine.0);
    fine = (after_sound m l s.below d g.fine.0, z);
  }

  gives : (o : Option ℕ) (f bs cs : List ℕ) → sound (f ++ bs) ≡ true → Gives o bs cs → Gives (or_else o (first f)) (f ++ bs) (left o f ++ cs)
  gives None [] bs cs s g = g
  gives None (x ∷ f) bs cs s g = rw (g.1, ← g.0) (takes_front (x ∷ f) bs s x f (takes_rest x (x ∷ f) (sound_left (x ∷ f) bs s) refl))
  gives (Some q) f bs cs s g = takes_back f bs s q cs g

  hits : (s : Queued S) (p : ℕ) → Sound over s → refusal over s (hit p) ≡ None → has p s.front ≡ false → Fares s (hit p) (raised m s.front s.size s.below p)
  hits s p g r e =
      let w = held_facts over s p r in
      let fs = s.front in let b = s.below in let bs = m.pages b in
      let h = not_in_front p fs bs w.1 e in
      let u = held_accepts m b p w.0 h in
      elim (cases_Bool (s.size == 0)) [
        | inl z ↦ rw z (let d = after_effect m l b (hit p) g.fine.0 u in below_only s (hit p) (hit p) fs g g.fine.1 (keeps_back fs bs g.fits _ d.0, d.1))
        | inr z ↦ rw z (
            let d = after_effect m l b (drop p) g.fine.0 u in
            let t = takes_back fs bs g.fits p _ d.0 in
            let v = t.members p in
            let out : has p (fs ++ m.pages (after m b (drop p))) ≡ false = grind (arith, nat_tests) in
            let j = joined (after m b (drop p)) (after_sound m l b (drop p) g.fine.0) p w.0 s.size fs g.fine.1 t.stays out (omega (arith, t.shorter, g.few)) in
            let a : Fares s (hit p) (join m fs s.size (after m b (drop p)) p) = record {
              effect = (keeps_again p (fs ++ bs) _ _ t j.adds, j.counted ∙ d.1);
              settled = j.settled ∙ ap (λ x. (s.size, x)) (after_settled m l b (drop p) g.fine.0);
              fine = j.fine;
            } in a)
      ]

  fares : (s : Queued S) (c : Call) → Allowed over s c → Fares s c (accepted over s c)
  fares s clear a = record {
    effect = l.effects s.below clear tt;
    settled = ap (λ x. (s.size, x)) (l.settled s.below clear tt);
    fine = (accepted_sound m l s.below clear tt, omega arith);
  }
  fares s (fault p) (g, r) =
      let w = fault_facts over s p r in
      let h = has_append p s.front (m.pages s.below) in
      let d = after_effect m l s.below (fault p) g.fine.0 (fault_accepts m s.below p w.0 (grind arith) w.2) in
      below_only s (fault p) (fault p) s.front g g.fine.1 (keeps_back s.front (m.pages s.below) g.fits _ d.0, d.1)
  fares s (load p) (g, r) =
      let w = load_facts over s p r in
      let j = joined s.below g.fine.0 p w.0 s.size s.front g.fine.1 g.fits w.1 w.2 in
      record { effect = (j.adds, j.counted); settled = j.settled; fine = j.fine }
  fares s (hit p) (g, r) = elim (cases_Bool (has p s.front)) [
    | inl e ↦ rw e (let a : Fares s (hit p) s = record { effect = (keeps_same (over.pages s) g.fits, refl); settled = refl; fine = g.fine } in a)
    | inr e ↦ rw e (hits s p g r e)
  ]
  fares s (drop p) (g, r) =
      let w = held_facts over s p r in
      let fs = s.front in let bs = m.pages s.below in
      elim (cases_Bool (has p fs)) [
        | inl e ↦ rw e (let a : Fares s (drop p) (queued (without p fs) s.size s.below) = record {
          effect = (takes_front fs bs g.fits p (without p fs) (takes_without p fs (sound_left fs bs g.fits) e), refl);
          settled = refl;
          fine = (g.fine.0, omega (arith, length_without p fs e, g.fine.1));
        } in a)
        | inr e ↦ rw e (
            let d = after_effect m l s.below (drop p) g.fine.0 (held_accepts m s.below p w.0 (not_in_front p fs bs w.1 e)) in
            below_only s (drop p) (drop p) fs g g.fine.1 (takes_back fs bs g.fits p _ d.0, d.1))
      ]
  fares s give (g, r) =
      let d = after_effect m l s.below give g.fine.0 refl in
      below_only s give give (left (m.gives s.below) s.front) g (left_short (m.gives s.below) s.front s.size g.fine.1) (gives (m.gives s.below) s.front (m.pages s.below) _ g.fits d.0, d.1)

  pub front_lawful : Lawful over
  front_lawful = record {
    whole = whole;
    effects = λ s c a. (fares s c a).effect;
    settled = λ s c a. (fares s c a).settled;
    stays_fine = λ s c a. (fares s c a).fine;
  }
