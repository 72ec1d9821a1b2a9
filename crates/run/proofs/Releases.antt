-- What a release comes to in a well-formed run. Assumes nothing.
use Rattle.std.proofs.Common.{◌≡◌, ℕ, ◌<◌, ◌≤◌, true, false, length, Some, None, Ok, Option, Result, sym, refl, ap, ◌∙◌, subst, inl, inr, arith}
use Rattle.std.proofs.lemmas.Bool.{cases_Bool, cases_lt, lt-leb, le-leb}
use Rattle.pages.specs.Lists.{has, Takes}
use Rattle.policy.specs.declared.fault.PolicyFault.{PolicyFault}
use Rattle.policy.specs.declared.fault.PolicyFault.TheVariants.{NotAPage, NotHeld}
use Rattle.policy.specs.Model.{Model, drop, refusal, after, unless}
use Rattle.policy.specs.Laws.{Lawful}
use Rattle.policy.proofs.Accepted.{held_accepts}
use Rattle.policy.proofs.Calls.{after_sound}
use Rattle.settings.specs.declared.fault.Layer.{Layer}
use Rattle.settings.specs.declared.fault.RunFault.{RunFault}
use Rattle.run.specs.Answers as say
use Rattle.run.specs.Answers.{told, freed}
use Rattle.run.specs.Run.{Run, run, up, release_answer, release_after}
use Rattle.run.specs.Laws.{Within, memory, ReleaseTold}
use Rattle.run.proofs.Touches.{taken}

module _ {S : Type 0} (m : Model S) (l : Lawful m) (r : Run S) (p : ℕ) (w : Within m r) where
  no_page : 4096 ≤ p → refusal m r.policy (drop p) ≡ Some NotAPage
  no_page a = rw (le-leb 4096 p a) refl

  absent : p < 4096 → has p (memory m r) ≡ false → refusal m r.policy (drop p) ≡ Some NotHeld
  absent a h = rw (lt-leb 4096 p a, h) refl

  refused_after : (f : PolicyFault) → refusal m r.policy (drop p) ≡ Some f → after m r.policy (drop p) ≡ r.policy
  refused_after f e = ap (λ o. unless o r.policy (m.on_drop r.policy p)) e

  module _ (a : p < 4096) (h : has p (memory m r) ≡ true) where
    drop_none : refusal m r.policy (drop p) ≡ None
    drop_none = held_accepts m r.policy p a h

    drop_ends : after m r.policy (drop p) ≡ m.on_drop r.policy p
    drop_ends = taken _ _ _ drop_none

    drop_effect : Takes p (memory m r) (m.pages (m.on_drop r.policy p)) × (m.count (m.on_drop r.policy p) ≡ m.count r.policy)
    drop_effect = l.effects r.policy (drop p) (w.sound, drop_none)

  -- what holds of the policy where the release is refused, and where it is not
  either : (P : S → Type 0) → P r.policy → ((a : p < 4096) (h : has p (memory m r) ≡ true) → P (m.on_drop r.policy p)) → P (after m r.policy (drop p))
  either P same gone =
      elim (cases_lt p 4096) [
        | inr a ↦ subst P (sym (refused_after NotAPage (no_page a))) same
        | inl a ↦ elim (cases_Bool (has p (memory m r))) [
          | inl h ↦ subst P (sym (drop_ends a h)) (gone a h)
          | inr h ↦ subst P (sym (refused_after NotHeld (absent a h))) same
        ]
      ]

  pub release_within : Within m (release_after m r p)
  release_within = record {
    sound = after_sound m l r.policy (drop p) w.sound;
    some = w.some;
    most = w.most;
    framed = either (λ s. length (m.pages s) ≤ r.frames) w.framed (λ a h. omega (arith, (drop_effect a h).0.shorter, w.framed));
    faults_told = either (λ s. m.count s ≡ r.figures.faults) w.faults_told (λ a h. (drop_effect a h).1 ∙ w.faults_told);
    faults_touch = w.faults_touch;
    limited = w.limited;
    outs_fault = w.outs_fault;
  }

  unchanged : (f : ℕ) (k : Layer) → told (freed (release_answer m r p)) ≡ say.refused f k → release_after m r p ≡ r
  unchanged f k x = ap (λ s. run r.frames s r.figures) (by (refusal m r.policy (drop p)) x)
    where
      by : (o : Option PolicyFault) → told (freed (up o (Ok tt))) ≡ say.refused f k → unless o r.policy (m.on_drop r.policy p) ≡ r.policy
      by None e = cc
      by (Some g) e = refl

  told_of : ReleaseTold m r p (freed (release_answer m r p)) (release_after m r p)
  told_of = record {
    no_page = λ a. ap (λ o. told (freed (up o (Ok tt)))) (no_page a);
    absent = λ a h. ap (λ o. told (freed (up o (Ok tt)))) (absent a h);
    leaves = λ a h. (ap (λ o. told (freed (up o (Ok tt)))) (drop_none a h), subst (λ s. Takes p (memory m r) (m.pages s)) (sym (drop_ends a h)) (drop_effect a h).0, refl);
    unchanged = unchanged;
    frames = refl;
    within = release_within;
  }

-- of an answer and a run that are the release's
pub release_told : {S : Type 0} (m : Model S) (l : Lawful m) (r : Run S) (p : ℕ) (x : Result (Unit {0}) RunFault) (t : Run S) → x ≡ release_answer m r p → t ≡ release_after m r p → Within m r → ReleaseTold m r p (freed x) t
release_told m l r p x t a e w = rw (a, e) (told_of m l r p w)
