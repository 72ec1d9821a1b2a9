-- What holds of every run in the subject's own words. Assumes nothing.
use Rattle.std.specs.Prelude.{◌≡◌, ℕ, ◌<◌, ◌≤◌, true, false, List, [], ◌∷◌, length, Some}
use Rattle.pages.specs.Lists.{has, Adds, Keeps, Takes}
use Rattle.policy.specs.Model as calls
use Rattle.policy.specs.Model.{Model, Call, after, after_all}
use Rattle.policy.specs.Laws.{Sound}
use Rattle.settings.specs.declared.fault.Layer.{Layer}
use Rattle.settings.specs.declared.fault.Layer.TheVariants as layer
use Rattle.run.specs.declared.answer.Event.{Event}
use Rattle.run.specs.declared.answer.Event.TheVariants.{Touch, Release}
use Rattle.run.specs.Answers.{EventAnswer, hit, fault, replaced, released, refused, told, counted}
use Rattle.run.specs.Run.{Run, opened, event_answer, event_after, run_after, answers}

module _ {S : Type 0} (m : Model S) where
  -- a well-formed run: its policy is sound, holds no more pages than there are frames, and was told of as many faults as were counted
  pub record Within (r : Run S) : Type 0 where
    pub sound : Sound m r.policy
    pub some : 1 ≤ r.frames
    pub most : r.frames ≤ 1024
    pub framed : length (m.pages r.policy) ≤ r.frames
    pub faults_told : m.count r.policy ≡ r.figures.faults
    pub faults_touch : r.figures.faults ≤ r.figures.touches
    pub limited : r.figures.touches ≤ 16000000
    pub outs_fault : r.figures.outs ≤ r.figures.faults

  -- the pages in memory
  abbrev pub memory : Run S → List ℕ
  memory r = m.pages r.policy

  -- the policy was told these calls, and nothing else
  abbrev pub Calls : Run S → Run S → List Call → Type 0
  Calls r t cs = t.policy ≡ after_all m r.policy cs

  -- a page q that was in memory goes out, which the policy gave once it was told of the fault, and p comes in
  pub record Swaps (p : ℕ) (r : Run S) (a : EventAnswer) (t : Run S) : Type 0 where
    pub q : ℕ
    pub answered : told a ≡ replaced q
    pub given : m.gives (after m r.policy (calls.fault p)) ≡ Some q
    pub policy : Calls r t (calls.fault p ∷ calls.give ∷ calls.load p ∷ [])
    pub others : List ℕ
    pub leaves : Takes q (memory r) others
    pub comes : Adds p others (memory t)

  -- the answer a and the run t after a touch of p in the run r
  pub record TouchTold (r : Run S) (p : ℕ) (a : EventAnswer) (t : Run S) : Type 0 where
    -- refused by the run, where p is no page, or else where the touches are used up
    pub no_page : 4096 ≤ p → told a ≡ refused 1 layer.Run
    pub too_many : p < 4096 → 16000000 ≤ r.figures.touches → told a ≡ refused 2 layer.Run
    -- else a hit, where p is in memory
    pub hits : p < 4096 → r.figures.touches < 16000000 → has p (memory r) ≡ true → (told a ≡ hit) × Keeps (memory r) (memory t) × Calls r t (calls.hit p ∷ [])
    -- else a fault, for which nothing goes out where a frame is free
    pub loads : p < 4096 → r.figures.touches < 16000000 → has p (memory r) ≡ false → length (memory r) < r.frames → (told a ≡ fault) × Adds p (memory r) (memory t) × Calls r t (calls.fault p ∷ calls.load p ∷ [])
    -- and a page does where every frame is taken
    pub swaps : p < 4096 → r.figures.touches < 16000000 → has p (memory r) ≡ false → length (memory r) ≡ r.frames → Swaps p r a t
    -- refused, it changes nothing
    pub unchanged : (f : ℕ) (l : Layer) → told a ≡ refused f l → t ≡ r
    pub frames : t.frames ≡ r.frames
    pub within : Within t

  -- the answer a and the run t after a release of p in the run r
  pub record ReleaseTold (r : Run S) (p : ℕ) (a : EventAnswer) (t : Run S) : Type 0 where
    -- refused by the policy, where p is no page, or else where p is not in memory
    pub no_page : 4096 ≤ p → told a ≡ refused 1 layer.Policy
    pub absent : p < 4096 → has p (memory r) ≡ false → told a ≡ refused 7 layer.Policy
    -- else p leaves memory
    pub leaves : p < 4096 → has p (memory r) ≡ true → (told a ≡ released) × Takes p (memory r) (memory t) × Calls r t (calls.drop p ∷ [])
    pub unchanged : (f : ℕ) (l : Layer) → told a ≡ refused f l → t ≡ r
    pub frames : t.frames ≡ r.frames
    pub within : Within t

  abbrev pub EventTold : Run S → Event → EventAnswer → Run S → Type 0
  EventTold r (Touch p) a t = TouchTold r p a t
  EventTold r (Release p) a t = ReleaseTold r p a t

  -- for every number of frames, every policy and every trace, from opening on
  pub record RunLaws : Type 0 where
    pub within : (n : ℕ) (s : S) (es : List Event) → 1 ≤ n → n ≤ 1024 → Within (run_after m (opened m n s) es)
    -- at most n pages are in memory
    pub most : (n : ℕ) (s : S) (es : List Event) → 1 ≤ n → n ≤ 1024 → length (memory (run_after m (opened m n s) es)) ≤ n
    -- whatever comes next
    pub next : (n : ℕ) (s : S) (es : List Event) (e : Event) → 1 ≤ n → n ≤ 1024 →
        let r = run_after m (opened m n s) es in EventTold r e (event_answer m r e) (event_after m r e)
    -- the figures are the counts of the answers
    pub counts : (n : ℕ) (s : S) (es : List Event) → (run_after m (opened m n s) es).figures ≡ counted (answers m (opened m n s) es)
