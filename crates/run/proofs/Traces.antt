-- What holds over whole traces. Assumes nothing.
use Rattle.std.proofs.Common.{◌≡◌, ℕ, ◌+◌, ◌<◌, ◌≤◌, Bool, true, false, cond, leb, List, [], ◌∷◌, ◌++◌, length, get_or, drop, Some, None, Ok, Option, Result, sym, refl, ap, ◌∙◌, append_assoc, append-nil, arith}
use Rattle.std.proofs.lemmas.List.{drop_more, drop_all}
use Rattle.std.specs.Result.{result_map_both}
use Rattle.pages.specs.Lists.{has}
use Rattle.policy.specs.declared.fault.PolicyFault.{PolicyFault}
use Rattle.policy.specs.Model as calls
use Rattle.policy.specs.Model.{Model, fault, load, hit, refusal, after, unless}
use Rattle.policy.specs.Laws.{Lawful}
use Rattle.settings.specs.declared.fault.RunFault.{RunFault}
use Rattle.run.specs.declared.answer.Event.{Event}
use Rattle.run.specs.declared.answer.Event.TheVariants.{Touch, Release}
use Rattle.run.specs.declared.answer.Touched.{Touched}
use Rattle.run.specs.declared.answer.Touched.TheVariants.{Hit}
use Rattle.run.specs.declared.answer.Outcome.{Outcome}
use Rattle.run.specs.declared.answer.Figures.{Figures}
use Rattle.run.specs.Answers.{EventAnswer, outcome_of, told, touched, freed, figures, is_touch, is_fault, is_out, one_if, how_many, counted}
use Rattle.run.specs.Run.{Run, opened, up, fault_with, count_fault, out, ready, hit_answer, hit_after, fault_answer, fault_after, touch_answer, touch_after, release_answer, event_answer, event_after, run_after, answers}
use Rattle.run.specs.Laws.{Within, EventTold, RunLaws}
use Rattle.run.proofs.Touches.{opened_within, touch_told}
use Rattle.run.proofs.Releases.{release_told}

-- the figures of one answer more
abbrev pub plus : Figures → EventAnswer → Figures
plus n a = figures (n.touches + one_if (is_touch (told a))) (n.faults + one_if (is_fault (told a))) (n.outs + one_if (is_out (told a)))

figures_are : (n : Figures) (a b c : ℕ) → n.touches ≡ a → n.faults ≡ b → n.outs ≡ c → n ≡ figures a b c
figures_are n a b c x y z = let e : figures n.touches n.faults n.outs ≡ figures a b c = cc in e

plus_none : (n : Figures) → n ≡ figures (n.touches + 0) (n.faults + 0) (n.outs + 0)
plus_none n = figures_are n _ _ _ (omega arith) (omega arith) (omega arith)

-- a call that the policy may refuse: refused, it counts nothing
unless_counts : {A S : Type 0} (n : Figures) (k : A → Outcome) (o : Option PolicyFault) (s t : Run S) (x : Result A RunFault) →
    s.figures ≡ n → t.figures ≡ plus n (result_map_both k (λ f. f) x) → (unless o s t).figures ≡ plus n (result_map_both k (λ f. f) (up o x))
unless_counts n k None s t x e f = f
unless_counts n k (Some g) s t x e f = e ∙ plus_none n

either_counts : {S : Type 0} (n : Figures) (b : Bool) (s t : Run S) (x y : Result Touched RunFault) → s.figures ≡ plus n (touched x) → t.figures ≡ plus n (touched y) → (cond b s t).figures ≡ plus n (touched (cond b x y))
either_counts n true s t x y e f = e
either_counts n false s t x y e f = f

loaded_counts : (n : Figures) (o : Option ℕ) → count_fault o n ≡ plus n (touched (Ok (fault_with o)))
loaded_counts n None = figures_are _ _ _ _ refl refl (omega arith)
loaded_counts n (Some q) = refl

module _ {S : Type 0} (m : Model S) (r : Run S) (p : ℕ) where
  hit_counts : (hit_after m r p).figures ≡ plus r.figures (touched (hit_answer m r p))
  hit_counts = unless_counts r.figures outcome_of (refusal m r.policy (hit p)) r _ (Ok Hit) refl (figures_are _ _ _ _ refl (omega arith) (omega arith))

  fault_counts : (fault_after m r p).figures ≡ plus r.figures (touched (fault_answer m r p))
  fault_counts =
      unless_counts r.figures outcome_of (refusal m r.policy (fault p)) r _ _ refl
      (unless_counts r.figures outcome_of (refusal m (ready m r p) (load p)) _ _ (Ok (fault_with (out m r p))) refl (loaded_counts r.figures (out m r p)))

  touch_counts : (touch_after m r p).figures ≡ plus r.figures (touched (touch_answer m r p))
  touch_counts =
      either_counts r.figures (leb 4096 p) r _ _ _ (plus_none r.figures)
      (either_counts r.figures (leb 16000000 r.figures.touches) r _ _ _ (plus_none r.figures)
      (either_counts r.figures (has p (m.pages r.policy)) _ _ (hit_answer m r p) (fault_answer m r p) hit_counts fault_counts))

  release_counts : r.figures ≡ plus r.figures (freed (release_answer m r p))
  release_counts = by (refusal m r.policy (calls.drop p))
    where
      by : (o : Option PolicyFault) → r.figures ≡ plus r.figures (freed (up o (Ok tt)))
      by None = plus_none r.figures
      by (Some f) = plus_none r.figures

module _ {S : Type 0} (m : Model S) where
  event_counts : (r : Run S) (e : Event) → (event_after m r e).figures ≡ plus r.figures (event_answer m r e)
  event_counts r (Touch p) = touch_counts m r p
  event_counts r (Release p) = release_counts m r p

  -- the figures at the end are those at the start and the counts of the answers
  all_counts : (r : Run S) (es : List Event) →
      (run_after m r es).figures ≡ figures (r.figures.touches + how_many is_touch (answers m r es)) (r.figures.faults + how_many is_fault (answers m r es)) (r.figures.outs + how_many is_out (answers m r es))
  all_counts r [] = plus_none r.figures
  all_counts r (e ∷ es) =
      let ih = all_counts (event_after m r e) es in
      let k = event_counts r e in
      ih ∙ figures_are _ _ _ _ (omega (arith, ap (λ (n : Figures). n.touches) k)) (omega (arith, ap (λ (n : Figures). n.faults) k)) (omega (arith, ap (λ (n : Figures). n.outs) k))

  pub opened_counts : (n : ℕ) (s : S) (es : List Event) → (run_after m (opened m n s) es).figures ≡ counted (answers m (opened m n s) es)
  opened_counts n s es = all_counts (opened m n s) es ∙ figures_are _ _ _ _ (omega arith) (omega arith) (omega arith)

  -- a trace played up to its event i, from the run s to the run r: what is left, behind the answers xs, makes up the whole
  pub record PlaysOn (s : Run S) (es : List Event) (i : ℕ) (r : Run S) (xs : List EventAnswer) : Type 0 where
    pub ends : run_after m r (drop i es) ≡ run_after m s es
    pub answered : xs ++ answers m r (drop i es) ≡ answers m s es

  -- one event more
  pub plays_next : (s : Run S) (es : List Event) (i : ℕ) (r t : Run S) (xs ys : List EventAnswer) (a : EventAnswer) (d : Event) → PlaysOn s es i r xs → i < length es →
      t ≡ event_after m r (get_or es i d) → a ≡ event_answer m r (get_or es i d) → ys ≡ xs ++ a ∷ [] → PlaysOn s es (i + 1) t ys
  plays_next s es i r t xs ys a d z h e k y =
      record {
        ends = ap (λ u. run_after m u (drop (i + 1) es)) e ∙ sym (ap (run_after m r) (drop_more es i d h)) ∙ z.ends;
        answered = rw (y, append_assoc, e, k) (ap (λ fs. xs ++ answers m r fs) (sym (drop_more es i d h)) ∙ z.answered);
      }

  -- a new run's trace at its end
  pub record PlaysAll (n : ℕ) (p : S) (es : List Event) (r : Run S) (xs : List EventAnswer) : Type 0 where
    pub ends : r ≡ run_after m (opened m n p) es
    pub answered : xs ≡ answers m (opened m n p) es
    pub counts : r.figures ≡ counted xs

  pub plays_end : (n : ℕ) (p : S) (s : Run S) (es : List Event) (i : ℕ) (r : Run S) (xs : List EventAnswer) → s ≡ opened m n p → PlaysOn s es i r xs → length es ≤ i → PlaysAll n p es r xs
  plays_end n p s es i r xs o z h =
      let e : r ≡ run_after m (opened m n p) es = sym (ap (run_after m r) (drop_all i es h)) ∙ z.ends ∙ ap (λ t. run_after m t es) o in
      let a : xs ≡ answers m (opened m n p) es = sym (append-nil xs) ∙ sym (ap (λ fs. xs ++ answers m r fs) (drop_all i es h)) ∙ z.answered ∙ ap (λ t. answers m t es) o in
      record { ends = e; answered = a; counts = ap (λ (t : Run S). t.figures) e ∙ opened_counts n p es ∙ ap counted (sym a) }

module _ {S : Type 0} (m : Model S) (l : Lawful m) where
  event_told : (r : Run S) (e : Event) → Within m r → EventTold m r e (event_answer m r e) (event_after m r e)
  event_told r (Touch p) w = touch_told m l r p _ _ refl refl w
  event_told r (Release p) w = release_told m l r p _ _ refl refl w

  event_within : (r : Run S) (e : Event) → Within m r → Within m (event_after m r e)
  event_within r (Touch p) w = (event_told r (Touch p) w).within
  event_within r (Release p) w = (event_told r (Release p) w).within

  pub all_within : (r : Run S) (es : List Event) → Within m r → Within m (run_after m r es)
  all_within r [] w = w
  all_within r (e ∷ es) w = all_within (event_after m r e) es (event_within r e w)

  event_frames : (r : Run S) (e : Event) → Within m r → (event_after m r e).frames ≡ r.frames
  event_frames r (Touch p) w = (event_told r (Touch p) w).frames
  event_frames r (Release p) w = refl

  all_frames : (r : Run S) (es : List Event) → Within m r → (run_after m r es).frames ≡ r.frames
  all_frames r [] w = refl
  all_frames r (e ∷ es) w = all_frames (event_after m r e) es (event_within r e w) ∙ event_frames r e w

  pub run_laws : RunLaws m
  run_laws = record {
    within = λ n s es a b. all_within (opened m n s) es (opened_within m l n s a b);
    most = λ n s es a b.
        let o = opened_within m l n s a b in omega (arith, (all_within (opened m n s) es o).framed, all_frames (opened m n s) es o);
    next = λ n s es e a b. event_told _ e (all_within (opened m n s) es (opened_within m l n s a b));
    counts = opened_counts m;
  }
