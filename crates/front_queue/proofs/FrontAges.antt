-- The queue has the pages that joined last, in the order in which they joined. Assumes nothing.
use Rattle.std.proofs.Common.{◌≡◌, ℕ, ◌+◌, ◌<◌, ◌≤◌, Bool, true, false, cond, ◌&&◌, ◌||◌, eqb, ◌⊎◌, List, [], ◌∷◌, ◌++◌, length, Some, None, Option, sym, refl, ap, ◌∙◌, subst, inl, inr, arith}
use Rattle.std.proofs.lemmas.Bool.{cases_Bool, eqb-true, eq-eqb, ne_eqb, true≢false}
use Rattle.std.proofs.lemmas.Bool.Decides.{nat_tests as tells}
use Rattle.pages.specs.Lists.{has, rest, Rising}
use Rattle.pages.proofs.ListLaws.{has_push, has_without}
use Rattle.pages.proofs.JoinLaws.{has_append, sound_left}
use Rattle.pages.proofs.RisingLaws.{rising_same, rising_join, rising_without, rising_rest}
use Rattle.policy.specs.declared.fault.PolicyFault.{PolicyFault}
use Rattle.policy.specs.Model.{Model, Call, clear, fault, load, hit, drop, give, refusal, accepted, after, after_all, unless}
use Rattle.policy.specs.Laws.{Sound, AsMade, Gives, Lawful}
use Rattle.policy.specs.Histories.{passed}
use Rattle.policy.proofs.Accepted.{load_facts}
use Rattle.policy.proofs.Ages.{not_numbered, latest_by_low}
use Rattle.policy.proofs.Calls.{accepted_sound, after_sound, after_settled, after_effect}
use Rattle.front_queue.specs.Front.{Queued, queued, fronted}
use Rattle.front_queue.specs.Laws as ways
use Rattle.front_queue.specs.Laws.{Way, Leaves, joining, after_calls, join_number, FrontLaws}
use Rattle.front_queue.specs.FrontLawful.{front_lawful}
use Rattle.front_queue.proofs.FrontWays.{some_way, each_way, gives_below, gives_oldest, none_passes, none_answers}

-- every page of the one list is in the other
abbrev Within : List ℕ → List ℕ → Type 0
Within xs ys = (q : ℕ) → has q xs ≡ true → has q ys ≡ true

-- by the numbers f the queue fr is in order, and has later pages than bs
pub record Newest (f : ℕ → ℕ) (fr bs : List ℕ) : Type 0 where
  pub order : Rising f fr
  pub later : (p q : ℕ) → has p fr ≡ true → has q bs ≡ true → f q < f p

none_newest : (f : ℕ → ℕ) (bs : List ℕ) → Newest f [] bs
none_newest f bs = record { order = tt; later = λ p q h k. absurd (true≢false (sym h)) }

-- fewer pages, with the same numbers
fewer : (f g : ℕ → ℕ) (fr gr bs cs : List ℕ) → ((q : ℕ) → g q ≡ f q) → Rising f gr → Within gr fr → Within cs bs → Newest f fr bs → Newest g gr cs
fewer f g fr gr bs cs e r u v n = record {
  order = rising_same f g gr (λ q h. e q) r;
  later = λ p q h k. let a = n.later p q (u p h) (v q k) in let b = e p in let c = e q in omega arith;
}

-- the oldest page x leaves the queue for the others
sunk_newest : (f : ℕ → ℕ) (x : ℕ) (xs bs cs : List ℕ) → ((q : ℕ) → has q cs ≡ (eqb x q || has q bs)) → Newest f (x ∷ xs) bs → Newest f xs cs
sunk_newest f x xs bs cs a n = record {
  order = n.order.1;
  later = λ p q h k. elim (cases_Bool (eqb x q)) [
    | inl e ↦ subst (λ y. f y < f p) (eqb-true x q e) (n.order.0 p h)
    | inr e ↦ n.later p q (grind (arith, tells)) (let b = a q in grind arith)
  ];
}

-- p joins the queue with the latest number
joined_newest : (f g : ℕ → ℕ) (n p : ℕ) (fr bs : List ℕ) → has p fr ≡ false → has p bs ≡ false → ((q : ℕ) → (p ≡ q → ⊥) → g q ≡ f q) → n < g p → ((q : ℕ) → f q ≤ n) → Newest f fr bs → Newest g (fr ++ p ∷ []) bs
joined_newest f g n p fr bs h i e l low k =
    let other : (q : ℕ) (xs : List ℕ) → has p xs ≡ false → has q xs ≡ true → g q ≡ f q =
    λ q xs a b. e q (λ z. true≢false (sym b ∙ ap (λ y. has y xs) (sym z) ∙ a)) in
    record {
      order = rising_join f g n p fr (λ q w. other q fr h w) low l k.order;
      later = λ y q a b.
          let j = other q bs i b in
          let w = low q in
          elim (cases_Bool (eqb p y)) [
            | inl z ↦ subst (λ v. g q < g v) (eqb-true p y z) (omega arith)
            | inr z ↦
                let d = has_push y p fr in
                let v : has y fr ≡ true = grind arith in
                let o = other y fr h v in let t = k.later y q v b in omega arith
          ];
    }

gives_within : (o : Option ℕ) (bs cs : List ℕ) → Gives o bs cs → Within cs bs
gives_within None bs cs e q h = absurd (true≢false (sym h ∙ ap (has q) e.1))
gives_within (Some p) bs cs e q h = let a = e.members q in grind (arith, tells)

rest_within : (q : ℕ) (xs : List ℕ) → has q (rest xs) ≡ true → has q xs ≡ true
rest_within q [] h = h
rest_within q (x ∷ xs) h = grind (arith, tells)

module _ {S : Type 0} (m : Model S) (l : Lawful m) where
  abbrev over : Model (Queued S)
  over = fronted m

  -- the numbers after one call more
  abbrev more : Queued S → ℕ → (ℕ → ℕ) → Call → Bool → ℕ → ℕ
  more s n f c ok q = cond (joining m s q c && ok) (n + 1) (f q)

  module _ (s : Queued S) (g : Sound over s) (n : ℕ) (f : ℕ → ℕ) (low : (q : ℕ) → f q ≤ n) (k : Newest f s.front (m.pages s.below)) where
    abbrev bs : List ℕ
    bs = m.pages s.below

    -- p joins by the call c
    joins : (c : Call) (p : ℕ) (fr cs : List ℕ) → ((q : ℕ) → (p ≡ q → ⊥) → joining m s q c ≡ false) → joining m s p c ≡ true → has p fr ≡ false → has p cs ≡ false → Newest f fr cs → Newest (more s n f c true) (fr ++ p ∷ []) cs
    joins c p fr cs a b h i j = joined_newest f _ n p fr cs h i (λ q z. rw (a q z) refl) (rw b (omega arith)) low j

    joins_by_hit : (p : ℕ) (fr cs : List ℕ) → has p s.front ≡ false → has p fr ≡ false → has p cs ≡ false → Newest f fr cs → Newest (more s n f (hit p) true) (fr ++ p ∷ []) cs
    joins_by_hit p fr cs o = joins (hit p) p fr cs (λ q z. rw (ne_eqb p q z) refl) (rw (eq-eqb p p refl, o) refl)

    -- the call c leaves fewer pages
    leaves : (c : Call) (gr cs : List ℕ) → ((q : ℕ) → more s n f c true q ≡ f q) → Rising f gr → Within gr s.front → Within cs bs → Newest (more s n f c true) gr cs
    leaves c gr cs e r u v = fewer f _ s.front gr bs cs e r u v k

    step : {c : Call} {fr : List ℕ} {ds : List Call} → Way m s c fr ds → Leaves m s c fr ds → refusal over s c ≡ None → Newest (more s n f c true) fr (m.pages (after_all m s.below ds))
    step ways.cleared v r = none_newest _ _
    step (ways.faulted p) v r =
        let e = after_effect m l s.below (fault p) g.fine.0 v.heeded.0 in
        leaves (fault p) s.front _ (λ q. refl) k.order (λ q h. h) (λ q h. sym (e.0.members q) ∙ h)
    step (ways.load_joins p z) v r =
        let w = load_facts over s p r in
        let a = has_append p s.front bs in
        joins (load p) p s.front bs (λ q y. ne_eqb p q y) (eq-eqb p p refl) (grind arith) (grind arith) k
    step (ways.load_sinks p x xs i z) v r =
        let w = load_facts over s p r in
        let a = has_append p s.front bs in
        let o : has p (x ∷ xs) ≡ false = ap (has p) (sym i) ∙ grind arith in
        let e = after_effect m l s.below (load x) g.fine.0 v.heeded.0 in
        let b = e.0.members p in
        joins (load p) p xs _ (λ q y. ne_eqb p q y) (eq-eqb p p refl) (grind (arith, tells)) (grind (arith, tells)) (sunk_newest f x xs bs _ e.0.members (subst (λ fr. Newest f fr bs) i k))
    step (ways.load_passes p z) v r = none_newest _ _
    step (ways.hit_stays p h) v r = leaves (hit p) s.front bs (λ q. stays q (cases_Bool (eqb p q))) k.order (λ q h. h) (λ q h. h)
      where
        stays : (q : ℕ) → (eqb p q ≡ true) ⊎ (eqb p q ≡ false) → more s n f (hit p) true q ≡ f q
        stays q (inl e) = let j : has q s.front ≡ true = ap (λ y. has y s.front) (sym (eqb-true p q e)) ∙ h in rw (e, j) refl
        stays q (inr e) = rw e refl
    step (ways.hit_joins p h z) v r =
        let e = after_effect m l s.below (drop p) g.fine.0 v.heeded.0 in
        let b = e.0.members p in
        joins_by_hit p s.front _ h h (grind (arith, tells)) (fewer f f s.front s.front bs _ (λ q. refl) k.order (λ q i. i) (λ q i. let d = e.0.members q in grind (arith, tells)) k)
    step (ways.hit_sinks p x xs h i z) v r =
        let o : has p (x ∷ xs) ≡ false = ap (has p) (sym i) ∙ h in
        let d = after_effect m l s.below (drop p) g.fine.0 v.heeded.0 in
        let e = after_effect m l (after m s.below (drop p)) (load x) (after_sound m l s.below (drop p) g.fine.0) v.heeded.1.0 in
        let a = d.0.members p in
        let b = e.0.members p in
        let t = fewer f f s.front s.front bs (m.pages (after m s.below (drop p))) (λ q. refl) k.order (λ q j. j) (λ q j. let y = d.0.members q in grind (arith, tells)) k in
        joins_by_hit p xs _ h (grind (arith, tells)) (grind (arith, tells)) (sunk_newest f x xs _ _ e.0.members (subst (λ fr. Newest f fr (m.pages (after m s.below (drop p)))) i t))
    step (ways.hit_passes p z) v r = none_newest _ _
    step (ways.drop_leaves p h) v r =
        let w = sound_left s.front bs g.fits in
        leaves (drop p) _ bs (λ q. refl) (rising_without f p s.front w k.order) (λ q i. let a = has_without q p s.front w in grind (arith, tells)) (λ q h. h)
    step (ways.drop_passes p h) v r =
        let e = after_effect m l s.below (drop p) g.fine.0 v.heeded.0 in
        leaves (drop p) s.front _ (λ q. refl) k.order (λ q h. h) (λ q i. let a = e.0.members q in grind (arith, tells))
    step (ways.give_passes q h) v r =
        let e = after_effect m l s.below give g.fine.0 refl in
        leaves give s.front _ (λ q. refl) k.order (λ q h. h) (gives_within (m.gives s.below) bs _ e.0)
    step (ways.give_leaves h) v r =
        let e = after_effect m l s.below give g.fine.0 refl in
        leaves give _ _ (λ q. refl) (rising_rest f s.front k.order) (λ q i. rest_within q s.front i) (gives_within (m.gives s.below) bs _ e.0)

    -- after any call
    steps : (c : Call) → Newest (more s n f c (passed (refusal over s c))) (after over s c).front (m.pages (after over s c).below)
    steps c = by (refusal over s c) refl
      where
        by : (o : Option PolicyFault) → refusal over s c ≡ o → Newest (more s n f c (passed o)) (unless o s (accepted over s c)).front (m.pages (unless o s (accepted over s c)).below)
        by None r =
            let w = some_way m l s g c in
            let v = each_way m l s g w.1.1 r in
            let e = ap (λ o. unless o s (accepted over s c)) r in
            let q : (accepted over s c).front ≡ w.0 = ap (λ (t : Queued S). t.front) (sym e) ∙ v.queue in
            let b : (accepted over s c).below ≡ after_all m s.below w.1.0 = ap (λ (t : Queued S). t.below) (sym e) ∙ v.below in
            rw (q, b) (step w.1.1 v r)
        by (Some x) r = fewer f _ s.front s.front bs bs (λ q. not_numbered (joining m s q c) (n + 1) (f q)) k.order (λ q h. h) (λ q h. h) k

  -- over every list of calls
  module _ (n : ℕ) (b : S) where
    reached_sound : (cs : List Call) → Sound over (after_calls m n b cs)
    reached_sound [] = accepted_sound over (front_lawful m l) (queued [] n b) clear tt
    reached_sound (c ∷ cs) = after_sound over (front_lawful m l) (after_calls m n b cs) c (reached_sound cs)

    reached_settled : (cs : List Call) → over.setting (after_calls m n b cs) ≡ (n, m.setting b)
    reached_settled [] = ap (λ x. (n, x)) (l.settled b clear tt)
    reached_settled (c ∷ cs) = after_settled over (front_lawful m l) (after_calls m n b cs) c (reached_sound cs) ∙ reached_settled cs

    newest : (cs : List Call) → Newest (join_number m n b cs) (after_calls m n b cs).front (m.pages (after_calls m n b cs).below)
    newest [] = none_newest _ _
    newest (c ∷ cs) = steps (after_calls m n b cs) (reached_sound cs) (length cs) (join_number m n b cs) (latest_by_low over (n, m.setting b) (joining m) cs) (newest cs) c

    at_most : (cs : List Call) → length (after_calls m n b cs).front ≤ n
    at_most cs = let e = ap (λ (x : ℕ × m.Setting). x.0) (reached_settled cs) in omega (arith, (reached_sound cs).fine.1, e)

  pub front_laws : FrontLaws m
  front_laws = record {
    some_way = λ s c g r. some_way m l s g c;
    each_way = λ s c f ds g r w. each_way m l s g w r;
    gives_below = λ s q g h. gives_below m l s g q h;
    gives_oldest = λ s g e. gives_oldest m l s g e;
    at_most = at_most;
    in_order = λ n b cs. (newest n b cs).order;
    newest = λ n b cs p q h k. (newest n b cs).later p q h k;
    none_passes = none_passes m l;
    none_answers = none_answers m l;
  }

  -- a queue with no page over the cleared policy
  pub front_made : (n : ℕ) (b : S) → AsMade over (n, m.setting b) (queued [] n (after m b clear))
  front_made n b = record { cleared = refl; sound = accepted_sound over (front_lawful m l) (queued [] n b) clear tt }
