-- What a touch comes to in a well-formed run. Assumes nothing.
use Rattle.std.proofs.Common.{◌≡◌, ℕ, ◌+◌, ◌<◌, ◌≤◌, true, false, ltb, length, Some, None, Ok, Err, Option, Result, sym, refl, ap, ◌∙◌, subst, inl, inr, arith}
use Rattle.std.proofs.lemmas.Bool.{cases_Bool, cases_lt, lt-leb, le-leb, lt-ltb, le-ltb, cond-true, cond-false}
use Rattle.std.proofs.lemmas.Bool.Decides.{nat_tests}
use Rattle.pages.specs.Lists.{has, Adds, Keeps, Takes}
use Rattle.policy.specs.declared.fault.PolicyFault.{PolicyFault}
use Rattle.policy.specs.Model.{Model, clear, fault, load, hit, give, refusal, answer, after, unless}
use Rattle.policy.specs.Laws.{Sound, Lawful, Gives}
use Rattle.policy.proofs.Accepted.{fault_facts, held_facts, fault_accepts, load_accepts, held_accepts}
use Rattle.policy.proofs.Calls.{accepted_sound}
use Rattle.settings.specs.declared.fault.Layer.{Layer}
use Rattle.settings.specs.declared.fault.RunFault.{RunFault}
use Rattle.settings.specs.declared.fault.RunFault.TheVariants as refusals
use Rattle.run.specs.declared.answer.Touched.{Touched}
use Rattle.run.specs.declared.answer.Touched.TheVariants.{Hit, Fault, Replaced}
use Rattle.run.specs.declared.answer.Figures.{Figures}
use Rattle.run.specs.Answers as say
use Rattle.run.specs.Answers.{outcome_of, told, touched, figures}
use Rattle.run.specs.Run.{Run, run, opened, up, fault_with, count_hit, count_fault, sent_out, with_room, faulted, out, ready, by_checks, touch_answer, touch_after}
use Rattle.run.specs.Laws.{Within, memory, Swaps, TouchTold}

pub taken : {S : Type 0} (o : Option PolicyFault) (s t : S) → o ≡ None → unless o s t ≡ t
taken o s t e = ap (λ x. unless x s t) e

-- what is answered Ok is refused by nothing
accepts : (o : Option PolicyFault) → answer o ≡ Ok tt → o ≡ None
accepts None e = refl
accepts (Some f) e = cc

-- a standing with a frame for p, which it does not hold
record Room {S : Type 0} (m : Model S) (n p : ℕ) (s : S) : Type 0 where
  pub sound : Sound m s
  pub absent : has p (m.pages s) ≡ false
  pub frame : length (m.pages s) < n

-- what a fault's figures are
count_touches : (o : Option ℕ) (n : Figures) → (count_fault o n).touches ≡ n.touches + 1
count_touches None n = refl
count_touches (Some q) n = refl

count_faults : (o : Option ℕ) (n : Figures) → (count_fault o n).faults ≡ n.faults + 1
count_faults None n = refl
count_faults (Some q) n = refl

count_outs : (o : Option ℕ) (n : Figures) → n.outs ≤ n.faults → (count_fault o n).outs ≤ (count_fault o n).faults
count_outs None n h = omega arith
count_outs (Some q) n h = omega arith

-- an accepted touch is told as no refusal
never_refused : (t : Touched) (f : ℕ) (l : Layer) → told (Ok (outcome_of t)) ≡ say.refused f l → ⊥
never_refused Hit f l e = cc
never_refused Fault f l e = cc
never_refused (Replaced q) f l e = cc

-- which of a touch's four ways is taken
module _ {S A : Type 0} (m : Model S) (r : Run S) (p : ℕ) (no_page many hits faults : A) where
  if_no_page : 4096 ≤ p → by_checks m r p no_page many hits faults ≡ no_page
  if_no_page a = cond-true _ _ _ (le-leb 4096 p a)

  if_many : p < 4096 → 16000000 ≤ r.figures.touches → by_checks m r p no_page many hits faults ≡ many
  if_many a b = cond-false _ _ _ (lt-leb 4096 p a) ∙ cond-true _ _ _ (le-leb 16000000 _ b)

  if_held : p < 4096 → r.figures.touches < 16000000 → has p (memory m r) ≡ true → by_checks m r p no_page many hits faults ≡ hits
  if_held a b h = cond-false _ _ _ (lt-leb 4096 p a) ∙ cond-false _ _ _ (lt-leb 16000000 _ b) ∙ cond-true _ _ _ h

  if_absent : p < 4096 → r.figures.touches < 16000000 → has p (memory m r) ≡ false → by_checks m r p no_page many hits faults ≡ faults
  if_absent a b h = cond-false _ _ _ (lt-leb 4096 p a) ∙ cond-false _ _ _ (lt-leb 16000000 _ b) ∙ cond-false _ _ _ h

-- one of the four always is
by_way : {S : Type 0} (m : Model S) (r : Run S) (p : ℕ) (T : Type 0) →
    (4096 ≤ p → T) → (p < 4096 → 16000000 ≤ r.figures.touches → T) → (p < 4096 → r.figures.touches < 16000000 → has p (memory m r) ≡ true → T) → (p < 4096 → r.figures.touches < 16000000 → has p (memory m r) ≡ false → T) → T
by_way m r p T no_page many hits faults =
    elim (cases_lt p 4096) [
      | inr a ↦ no_page a
      | inl a ↦ elim (cases_lt r.figures.touches 16000000) [
        | inr b ↦ many a b
        | inl b ↦ elim (cases_Bool (has p (memory m r))) [ inl h ↦ hits a b h | inr h ↦ faults a b h ]
      ]
    ]

module _ {S : Type 0} (m : Model S) (l : Lawful m) where
  pub opened_within : (n : ℕ) (s : S) → 1 ≤ n → n ≤ 1024 → Within m (opened m n s)
  opened_within n s a b =
      let e = l.effects s clear tt in
      record { sound = accepted_sound m l s clear tt; some = a; most = b; framed = omega (arith, ap length e.0); faults_told = e.1; faults_touch = omega arith; limited = omega arith; outs_fault = omega arith }

  -- what is as a new run is well-formed
  pub open_is_run : (n : ℕ) (s : S) (r : Run S) → r ≡ opened m n s → 1 ≤ n → n ≤ 1024 → Within m r
  open_is_run n s r e a b = rw e (opened_within n s a b)

  gave : (n p : ℕ) (s : S) (o : Option ℕ) → 1 ≤ n → Sound m s → has p (m.pages s) ≡ false → length (m.pages s) ≡ n → Gives o (m.pages s) (m.pages (m.on_give s)) → Room m n p (m.on_give s)
  gave n p s None z g h f k = absurd (omega (arith, ap length k.0))
  gave n p s (Some q) z g h f k =
      let e = k.members p in
      record { sound = accepted_sound m l s give (g, refl); absent = grind (arith, nat_tests); frame = omega (arith, k.shorter) }

  room_free : (n p : ℕ) (s : S) → length (m.pages s) < n → with_room m n s ≡ s
  room_free n p s k = cond-true _ _ _ (lt-ltb (length (m.pages s)) n k)

  room_full : (n p : ℕ) (s : S) → n ≤ length (m.pages s) → with_room m n s ≡ m.on_give s
  room_full n p s k = cond-false _ _ _ (le-ltb (length (m.pages s)) n k)

  roomy : (n p : ℕ) (s : S) → 1 ≤ n → Sound m s → has p (m.pages s) ≡ false → length (m.pages s) ≤ n → Room m n p (with_room m n s)
  roomy n p s z g h f =
      elim (cases_lt (length (m.pages s)) n) [
        | inl k ↦ subst (Room m n p) (sym (room_free n p s k)) (record { sound = g; absent = h; frame = k })
        | inr k ↦ subst (Room m n p) (sym (room_full n p s k)) (gave n p s (m.gives s) z g h (omega arith) (l.effects s give (g, refl)).0)
      ]

  room_count : (n : ℕ) (s : S) → Sound m s → m.count (with_room m n s) ≡ m.count s
  room_count n s g =
      elim (cases_Bool (ltb (length (m.pages s)) n)) [ inl e ↦ ap m.count (cond-true _ _ _ e) | inr e ↦ ap m.count (cond-false _ _ _ e) ∙ (l.effects s give (g, refl)).1 ]

  module _ (r : Run S) (w : Within m r) (p : ℕ) where
    no_page_told : 4096 ≤ p → touch_answer m r p ≡ Err refusals.NotAPage
    no_page_told = if_no_page m r p _ _ _ _

    no_page_after : 4096 ≤ p → touch_after m r p ≡ r
    no_page_after = if_no_page m r p _ _ _ _

    many_told : p < 4096 → 16000000 ≤ r.figures.touches → touch_answer m r p ≡ Err refusals.TooManyTouches
    many_told = if_many m r p _ _ _ _

    many_after : p < 4096 → 16000000 ≤ r.figures.touches → touch_after m r p ≡ r
    many_after = if_many m r p _ _ _ _

    module _ (a : p < 4096) (b : r.figures.touches < 16000000) where
      module _ (h : has p (memory m r) ≡ true) where
        hit_none : refusal m r.policy (hit p) ≡ None
        hit_none = held_accepts m r.policy p a h

        hit_told : touch_answer m r p ≡ Ok Hit
        hit_told = if_held m r p _ _ _ _ a b h ∙ ap (λ o. up o (Ok Hit)) hit_none

        hit_runs : touch_after m r p ≡ run r.frames (after m r.policy (hit p)) (count_hit r.figures)
        hit_runs = if_held m r p _ _ _ _ a b h ∙ taken _ _ _ hit_none

        hit_ends : touch_after m r p ≡ run r.frames (m.on_hit r.policy p) (count_hit r.figures)
        hit_ends = hit_runs ∙ ap (λ s. run r.frames s (count_hit r.figures)) (taken _ _ _ hit_none)

        hit_effect : Keeps (memory m r) (m.pages (m.on_hit r.policy p)) × (m.count (m.on_hit r.policy p) ≡ m.count r.policy)
        hit_effect = l.effects r.policy (hit p) (w.sound, hit_none)

        hit_keeps : Keeps (memory m r) (memory m (touch_after m r p))
        hit_keeps = subst (λ (u : Run S). Keeps (memory m r) (memory m u)) (sym hit_ends) hit_effect.0

        hit_within : Within m (touch_after m r p)
        hit_within = subst (Within m) (sym hit_ends) (record { sound = accepted_sound m l r.policy (hit p) (w.sound, hit_none); some = w.some; most = w.most; framed = omega (arith, hit_effect.0.level, w.framed); faults_told = hit_effect.1 ∙ w.faults_told; faults_touch = omega (arith, w.faults_touch); limited = omega arith; outs_fault = w.outs_fault })

      module _ (h : has p (memory m r) ≡ false) where
        fault_none : refusal m r.policy (fault p) ≡ None
        fault_none = fault_accepts m r.policy p a h (omega (arith, w.faults_told, w.faults_touch))

        fault_ends : faulted m r p ≡ m.on_fault r.policy p
        fault_ends = taken _ _ _ fault_none

        fault_effect : Keeps (memory m r) (m.pages (m.on_fault r.policy p)) × (m.count (m.on_fault r.policy p) ≡ m.count r.policy + 1)
        fault_effect = l.effects r.policy (fault p) (w.sound, fault_none)

        fault_sound : Sound m (m.on_fault r.policy p)
        fault_sound = accepted_sound m l r.policy (fault p) (w.sound, fault_none)

        room : Room m r.frames p (ready m r p)
        room =
            subst (λ u. Room m r.frames p (with_room m r.frames u)) (sym fault_ends)
            (roomy r.frames p (m.on_fault r.policy p) w.some fault_sound (fault_effect.0.members p ∙ h) (omega (arith, fault_effect.0.level, w.framed)))

        load_none : refusal m (ready m r p) (load p) ≡ None
        load_none = load_accepts m (ready m r p) p a room.absent (omega (arith, room.frame, w.most))

        fault_told : touch_answer m r p ≡ Ok (fault_with (out m r p))
        fault_told = if_absent m r p _ _ _ _ a b h ∙ ap (λ o. up o (up (refusal m (ready m r p) (load p)) (Ok (fault_with (out m r p))))) fault_none ∙ ap (λ o. up o (Ok (fault_with (out m r p)))) load_none

        all_runs : touch_after m r p ≡ run r.frames (after m (ready m r p) (load p)) (count_fault (out m r p) r.figures)
        all_runs = if_absent m r p _ _ _ _ a b h ∙ taken _ _ _ fault_none ∙ taken _ _ _ load_none

        all_ends : touch_after m r p ≡ run r.frames (m.on_load (ready m r p) p) (count_fault (out m r p) r.figures)
        all_ends = all_runs ∙ ap (λ s. run r.frames s (count_fault (out m r p) r.figures)) (taken _ _ _ load_none)

        load_effect : Adds p (m.pages (ready m r p)) (m.pages (m.on_load (ready m r p) p)) × (m.count (m.on_load (ready m r p) p) ≡ m.count (ready m r p))
        load_effect = l.effects (ready m r p) (load p) (room.sound, load_none)

        ready_count : m.count (ready m r p) ≡ r.figures.faults + 1
        ready_count = ap (λ u. m.count (with_room m r.frames u)) fault_ends ∙ room_count r.frames _ fault_sound ∙ fault_effect.1 ∙ ap (λ k. k + 1) w.faults_told

        fault_within : Within m (touch_after m r p)
        fault_within =
            let x = count_touches (out m r p) r.figures in let y = count_faults (out m r p) r.figures in
            subst (Within m) (sym all_ends) (record { sound = accepted_sound m l (ready m r p) (load p) (room.sound, load_none); some = w.some; most = w.most; framed = omega (arith, load_effect.0.longer, room.frame); faults_told = load_effect.1 ∙ ready_count ∙ sym y; faults_touch = omega (arith, x, y, w.faults_touch); limited = omega (arith, x); outs_fault = count_outs (out m r p) r.figures w.outs_fault })

        comes : Adds p (m.pages (ready m r p)) (memory m (touch_after m r p))
        comes = subst (λ (u : Run S). Adds p (m.pages (ready m r p)) (memory m u)) (sym all_ends) load_effect.0

        level : length (m.pages (m.on_fault r.policy p)) ≡ length (memory m r)
        level = fault_effect.0.level

        free_out : length (memory m r) < r.frames → out m r p ≡ None
        free_out k = ap (sent_out m r.frames) fault_ends ∙ cond-true _ _ _ (lt-ltb (length (m.pages (m.on_fault r.policy p))) r.frames (omega (arith, level)))

        free_ready : length (memory m r) < r.frames → ready m r p ≡ faulted m r p
        free_ready k = room_free r.frames p (faulted m r p) (omega (arith, level, ap (λ s. length (m.pages s)) fault_ends))

        -- the pages that the fault kept are those of before
        free_adds : length (memory m r) < r.frames → Adds p (memory m r) (memory m (touch_after m r p))
        free_adds k =
            let e : ready m r p ≡ m.on_fault r.policy p = free_ready k ∙ fault_ends in
            let d = subst (λ s. Adds p (m.pages s) (memory m (touch_after m r p))) e comes in
            record { members = λ q. let x = d.members q in let y = fault_effect.0.members q in grind (arith, nat_tests); longer = omega (arith, d.longer, level); stays = d.stays }

        swap : (o : Option ℕ) → m.gives (m.on_fault r.policy p) ≡ o → length (memory m r) ≡ r.frames → Gives o (m.pages (m.on_fault r.policy p)) (m.pages (m.on_give (m.on_fault r.policy p))) → Swaps m p r (touched (touch_answer m r p)) (touch_after m r p)
        swap None e k g = absurd (omega (arith, level, ap length g.0, w.some))
        swap (Some q) e k g =
            let s = m.on_fault r.policy p in
            let full : r.frames ≤ length (m.pages s) = omega (arith, level) in
            let o : out m r p ≡ Some q = ap (sent_out m r.frames) fault_ends ∙ cond-false _ _ _ (le-ltb (length (m.pages s)) r.frames full) ∙ e in
            let d : ready m r p ≡ m.on_give s = ap (with_room m r.frames) fault_ends ∙ room_full r.frames p s full in
            record {
              q = q;
              given = ap m.gives fault_ends ∙ e;
              policy = ap (λ (u : Run S). u.policy) all_runs ∙ ap (λ u. after m u (load p)) (room_full r.frames p (faulted m r p) (omega (arith, full, ap (λ u. length (m.pages u)) fault_ends)));
              answered = ap (λ x. told (touched x)) (fault_told ∙ ap (λ x. Ok (fault_with x)) o);
              others = m.pages (ready m r p);
              leaves = subst (λ t. Takes q (memory m r) (m.pages t)) (sym d) (record {
                held = sym (fault_effect.0.members q) ∙ g.held;
                members = λ x. let i = g.members x in let j = fault_effect.0.members x in grind (arith, nat_tests);
                shorter = omega (arith, g.shorter, level);
                stays = g.stays;
              });
              comes = comes;
            }

    pub touch_within : Within m (touch_after m r p)
    touch_within = by_way m r p _ (λ a. subst (Within m) (sym (no_page_after a)) w) (λ a b. subst (Within m) (sym (many_after a b)) w) hit_within fault_within

    -- no touch changes the frames
    touch_frames : (touch_after m r p).frames ≡ r.frames
    touch_frames =
        let f = λ (u : Run S). u.frames in
        by_way m r p _ (λ a. ap f (no_page_after a)) (λ a b. ap f (many_after a b)) (λ a b h. ap f (hit_runs a b h)) (λ a b h. ap f (all_runs a b h))

    unchanged : (f : ℕ) (k : Layer) → told (touched (touch_answer m r p)) ≡ say.refused f k → touch_after m r p ≡ r
    unchanged f k x =
        by_way m r p _ no_page_after many_after
        (λ a b h. absurd (never_refused Hit f k (sym (ap (λ o. told (touched o)) (hit_told a b h)) ∙ x)))
        (λ a b h. absurd (never_refused (fault_with (out m r p)) f k (sym (ap (λ o. told (touched o)) (fault_told a b h)) ∙ x)))

    told_of : TouchTold m r p (touched (touch_answer m r p)) (touch_after m r p)
    told_of = record {
      no_page = λ a. ap (λ o. told (touched o)) (no_page_told a);
      too_many = λ a b. ap (λ o. told (touched o)) (many_told a b);
      hits = λ a b h. (ap (λ o. told (touched o)) (hit_told a b h), hit_keeps a b h, ap (λ (u : Run S). u.policy) (hit_runs a b h));
      loads = λ a b h k. (ap (λ o. told (touched o)) (fault_told a b h ∙ ap (λ o. Ok (fault_with o)) (free_out a b h k)), free_adds a b h k, ap (λ (u : Run S). u.policy) (all_runs a b h) ∙ ap (λ u. after m u (load p)) (free_ready a b h k));
      swaps = λ a b h k. swap a b h (m.gives (m.on_fault r.policy p)) refl k (l.effects (m.on_fault r.policy p) give (fault_sound a b h, refl)).0;
      unchanged = unchanged;
      frames = touch_frames;
      within = touch_within;
    }

  -- a touch that the policy accepts leaves a run, and a page that it accepts as a fault it takes in
  module _ (r : Run S) (p : ℕ) (i : Within m r) (b : r.figures.touches < 16000000) where
    pub hit_is_run : answer (refusal m r.policy (hit p)) ≡ Ok tt → Within m (run r.frames (after m r.policy (hit p)) (count_hit r.figures))
    hit_is_run e =
        let k = held_facts m r.policy p (accepts _ e) in
        subst (Within m) (hit_runs r i p k.0 b k.1) (hit_within r i p k.0 b k.1)

    module _ (e : answer (refusal m r.policy (fault p)) ≡ Ok tt) where
      pub loads_after : answer (refusal m (ready m r p) (load p)) ≡ Ok tt
      loads_after = let k = fault_facts m r.policy p (accepts _ e) in ap answer (load_none r i p k.0 b k.1)

      pub fault_is_run : Within m (run r.frames (after m (ready m r p) (load p)) (count_fault (out m r p) r.figures))
      fault_is_run =
          let k = fault_facts m r.policy p (accepts _ e) in
          subst (Within m) (all_runs r i p k.0 b k.1) (fault_within r i p k.0 b k.1)

  -- of an answer and a run that are the touch's
  pub touch_told : (r : Run S) (p : ℕ) (x : Result Touched RunFault) (t : Run S) → x ≡ touch_answer m r p → t ≡ touch_after m r p → Within m r → TouchTold m r p (touched x) t
  touch_told r p x t a e w = rw (a, e) (told_of r w p)
