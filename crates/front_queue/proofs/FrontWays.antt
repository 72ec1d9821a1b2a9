-- Every accepted call on a queue in front of a policy goes one of the ways. Assumes nothing.
use Rattle.std.proofs.Common.{◌≡◌, ℕ, ◌<◌, ◌≤◌, true, false, ◌⊎◌, List, [], ◌∷◌, ◌++◌, length, Some, None, Option, sym, refl, ap, ◌∙◌, inl, inr, arith, length-append}
use Rattle.std.proofs.lemmas.Bool.{cases_Bool, cases_lt, ne_eqb, eq-eqb, true≢false}
use Rattle.std.proofs.lemmas.Bool.Decides.{nat_tests}
use Rattle.pages.specs.Lists.{has, sound, without, first, rest}
use Rattle.pages.proofs.JoinLaws.{has_append, takes_back}
use Rattle.policy.specs.Model.{Model, Call, clear, fault, load, hit, drop, give, refusal, accepted, after, after_all, unless}
use Rattle.policy.specs.Laws.{Sound, Lawful, page, reply, replies}
use Rattle.policy.proofs.Accepted.{fault_facts, load_facts, held_facts, fault_accepts, load_accepts, held_accepts}
use Rattle.policy.proofs.Calls.{after_effect, none_given, none_held}
use Rattle.front_queue.specs.Front.{Queued, queued, join, left, or_else, fronted}
use Rattle.front_queue.specs.Laws as ways
use Rattle.front_queue.specs.Laws.{Way, Heeded, Leaves}
use Rattle.front_queue.proofs.Ways.{joins_room, joins_full}
use Rattle.front_queue.specs.FrontLawful.{not_in_front, oldest_accepted}

-- a queue has room, or is of size 0, or has an oldest page
abbrev Room : List ℕ → ℕ → Type 0
Room f n = (length f < n) ⊎ ((n ≡ 0) ⊎ ((x : ℕ) × ((xs : List ℕ) × ((f ≡ x ∷ xs) × (length f ≡ n)))))

room : (f : List ℕ) (n : ℕ) → length f ≤ n → Room f n
room f n h = elim (cases_lt (length f) n) [ inl a ↦ inl a | inr a ↦ inr (by f h a) ]
  where
    by : (f : List ℕ) → length f ≤ n → n ≤ length f → (n ≡ 0) ⊎ ((x : ℕ) × ((xs : List ℕ) × ((f ≡ x ∷ xs) × (length f ≡ n))))
    by [] h a = inl (omega arith)
    by (x ∷ xs) h a = inr (x, (xs, (refl, omega arith)))

has_first : (x : ℕ) (xs : List ℕ) → has x (x ∷ xs) ≡ true
has_first x xs = grind (arith, nat_tests)

empty : (f : List ℕ) (n : ℕ) → length f ≤ n → n ≡ 0 → f ≡ []
empty [] n h e = refl
empty (x ∷ f) n h e = absurd (omega arith)

module _ {S : Type 0} (m : Model S) (l : Lawful m) where
  abbrev over : Model (Queued S)
  over = fronted m

  -- an accepted call leaves t
  leaves : (s : Queued S) (c : Call) (f : List ℕ) (ds : List Call) (t : Queued S) → refusal over s c ≡ None → accepted over s c ≡ t → t.front ≡ f → t.below ≡ after_all m s.below ds → Heeded m s.below ds → Leaves m s c f ds
  leaves s c f ds t r e q b h =
      let i = ap (λ o. unless o s (accepted over s c)) r ∙ e in
      record { queue = ap (λ (z : Queued S). z.front) i ∙ q; below = ap (λ (z : Queued S). z.below) i ∙ b; heeded = h }

  module _ (s : Queued S) (g : Sound over s) where
    abbrev fs : List ℕ
    fs = s.front

    abbrev bs : List ℕ
    bs = m.pages s.below

    -- a page below that is dropped there joins the queue
    module _ (p : ℕ) (r : refusal over s (hit p) ≡ None) (e : has p fs ≡ false) where
      drops : refusal m s.below (drop p) ≡ None
      drops = let w = held_facts over s p r in held_accepts m s.below p w.0 (not_in_front p fs bs w.1 e)

      raises : (s.size ≡ 0 → ⊥) → accepted over s (hit p) ≡ join m fs s.size (after m s.below (drop p)) p
      raises z = rw (e, ne_eqb s.size 0 z) refl

      sinks : (x : ℕ) (xs : List ℕ) → fs ≡ x ∷ xs → refusal m (after m s.below (drop p)) (load x) ≡ None
      sinks x xs i =
          let d = takes_back fs bs g.fits p _ (after_effect m l s.below (drop p) g.fine.0 drops).0 in
          oldest_accepted m l (after m s.below (drop p)) x xs (ap (λ f. sound (f ++ m.pages (after m s.below (drop p)))) (sym i) ∙ d.stays) (omega (arith, d.shorter, g.few, ap (λ f. length (f ++ m.pages (after m s.below (drop p)))) i))

    -- where some page is held below, one is given
    some_left : (q : ℕ) → has q bs ≡ true → (o : Option ℕ) → m.gives s.below ≡ o → left o fs ≡ fs
    some_left q h None e = let n = none_given m l s.below g.fine.0 e in let k = sym h ∙ ap (has q) n in absurd (true≢false k)
    some_left q h (Some x) e = refl

    some_first : (q : ℕ) → has q bs ≡ true → (o : Option ℕ) → m.gives s.below ≡ o → or_else o (first fs) ≡ o
    some_first q h None e = let n = none_given m l s.below g.fine.0 e in let k = sym h ∙ ap (has q) n in absurd (true≢false k)
    some_first q h (Some x) e = refl

    pub each_way : {c : Call} {f : List ℕ} {ds : List Call} → Way m s c f ds → refusal over s c ≡ None → Leaves m s c f ds
    each_way ways.cleared r = leaves s clear [] (clear ∷ []) _ r refl refl refl (refl, tt)
    each_way (ways.faulted p) r =
        let w = fault_facts over s p r in
        let h = has_append p fs bs in
        leaves s (fault p) fs (fault p ∷ []) _ r refl refl refl (fault_accepts m s.below p w.0 (grind arith) w.2, tt)
    each_way (ways.load_joins p z) r = leaves s (load p) (fs ++ p ∷ []) [] _ r (joins_room m s.size s.below p fs z) refl refl tt
    each_way (ways.load_sinks p x xs i z) r =
        let a = ap (λ f. join m f s.size s.below p) i ∙ joins_full m s.size s.below p x (x ∷ xs) refl (omega (arith, ap length i)) in
        leaves s (load p) (xs ++ p ∷ []) (load x ∷ []) _ r a refl refl
        (oldest_accepted m l s.below x xs (ap (λ f. sound (f ++ bs)) (sym i) ∙ g.fits) (omega (arith, g.few, ap (λ f. length (f ++ bs)) i)), tt)
    each_way (ways.load_passes p z) r =
        let i = empty fs s.size g.fine.1 z in
        let w = load_facts over s p r in
        let h = has_append p fs bs in
        let a : accepted over s (load p) ≡ queued [] s.size (after m s.below (load p)) = rw (i, z) refl in
        leaves s (load p) [] (load p ∷ []) _ r a refl refl (load_accepts m s.below p w.0 (grind arith) (omega (arith, w.2, length-append fs bs)), tt)
    each_way (ways.hit_stays p h) r = leaves s (hit p) fs [] s r (rw h refl) refl refl tt
    each_way (ways.hit_joins p h z) r =
        leaves s (hit p) (fs ++ p ∷ []) (drop p ∷ []) _ r (raises p r h (λ k. omega arith) ∙ joins_room m s.size (after m s.below (drop p)) p fs z) refl refl (drops p r h, tt)
    each_way (ways.hit_sinks p x xs h i z) r =
        let a = ap (λ f. join m f s.size (after m s.below (drop p)) p) i ∙ joins_full m s.size (after m s.below (drop p)) p x (x ∷ xs) refl (omega (arith, ap length i)) in
        leaves s (hit p) (xs ++ p ∷ []) (drop p ∷ load x ∷ []) _ r (raises p r h (λ k. omega (arith, ap length i)) ∙ a) refl refl (drops p r h, (sinks p r h x xs i, tt))
    each_way (ways.hit_passes p z) r =
        let i = empty fs s.size g.fine.1 z in
        let w = held_facts over s p r in
        let h : has p fs ≡ false = rw i refl in
        let a : accepted over s (hit p) ≡ queued fs s.size (after m s.below (hit p)) = rw (h, eq-eqb s.size 0 z) refl in
        leaves s (hit p) [] (hit p ∷ []) _ r a i refl (held_accepts m s.below p w.0 (not_in_front p fs bs w.1 h), tt)
    each_way (ways.drop_leaves p h) r = leaves s (drop p) (without p fs) [] (queued (without p fs) s.size s.below) r (rw h refl) refl refl tt
    each_way (ways.drop_passes p h) r =
        let w = held_facts over s p r in
        leaves s (drop p) fs (drop p ∷ []) (queued fs s.size (after m s.below (drop p))) r (rw h refl) refl refl (held_accepts m s.below p w.0 (not_in_front p fs bs w.1 h), tt)
    each_way (ways.give_passes q h) r = leaves s give fs (give ∷ []) _ r refl (some_left q h (m.gives s.below) refl) refl (refl, tt)
    each_way (ways.give_leaves h) r = leaves s give (rest fs) (give ∷ []) _ r refl (ap (λ o. left o fs) (none_held m l s.below g.fine.0 h)) refl (refl, tt)

    pub gives_below : (q : ℕ) → has q bs ≡ true → over.gives s ≡ m.gives s.below
    gives_below q h = some_first q h (m.gives s.below) refl

    pub gives_oldest : bs ≡ [] → over.gives s ≡ first fs
    gives_oldest e = ap (λ o. or_else o (first fs)) (none_held m l s.below g.fine.0 e)

    abbrev SomeWay : Call → Type 0
    SomeWay c = (f : List ℕ) × ((ds : List Call) × Way m s c f ds)

    pub some_way : (c : Call) → SomeWay c
    some_way clear = ([], (clear ∷ [], ways.cleared))
    some_way (fault p) = (fs, (fault p ∷ [], ways.faulted p))
    some_way (load p) = by (room fs s.size g.fine.1)
      where
        by : Room fs s.size → SomeWay (load p)
        by (inl z) = (_, (_, ways.load_joins p z))
        by (inr (inl z)) = (_, (_, ways.load_passes p z))
        by (inr (inr (x, (xs, (i, z))))) = (_, (_, ways.load_sinks p x xs i z))
    some_way (hit p) = elim (cases_Bool (has p fs)) [ inl h ↦ (_, (_, ways.hit_stays p h)) | inr h ↦ by h (room fs s.size g.fine.1) ]
      where
        by : has p fs ≡ false → Room fs s.size → SomeWay (hit p)
        by h (inl z) = (_, (_, ways.hit_joins p h z))
        by h (inr (inl z)) = (_, (_, ways.hit_passes p z))
        by h (inr (inr (x, (xs, (i, z))))) = (_, (_, ways.hit_sinks p x xs h i z))
    some_way (drop p) = elim (cases_Bool (has p fs)) [ inl h ↦ (_, (_, ways.drop_leaves p h)) | inr h ↦ (_, (_, ways.drop_passes p h)) ]
    some_way give = by bs refl
      where
        by : (xs : List ℕ) → bs ≡ xs → SomeWay give
        by [] e = (_, (_, ways.give_leaves e))
        by (x ∷ xs) e = (_, (_, ways.give_passes x (ap (has x) e ∙ has_first x xs)))

  -- a queue of size 0

  left_none : (o : Option ℕ) → left o [] ≡ []
  left_none None = refl
  left_none (Some x) = refl

  pub none_step : (b : S) (c : Call) → after over (queued [] 0 b) c ≡ queued [] 0 (after m b c)
  none_step b clear = refl
  none_step b (fault p) = grind (arith, nat_tests)
  none_step b (load p) = grind (arith, nat_tests)
  none_step b (hit p) = grind (arith, nat_tests)
  none_step b (drop p) = grind (arith, nat_tests)
  none_step b give = ap (λ f. queued f 0 (after m b give)) (left_none (m.gives b))

  pub none_passes : (b : S) (cs : List Call) → after_all over (queued [] 0 b) cs ≡ queued [] 0 (after_all m b cs)
  none_passes b [] = refl
  none_passes b (c ∷ cs) = ap (λ t. after_all over t cs) (none_step b c) ∙ none_passes (after m b c) cs

  or_none : (o : Option ℕ) → or_else o None ≡ o
  or_none None = refl
  or_none (Some x) = refl

  none_reply : (b : S) (c : Call) → reply over (queued [] 0 b) c ≡ reply m b c
  none_reply b clear = refl
  none_reply b (fault p) = refl
  none_reply b (load p) = refl
  none_reply b (hit p) = refl
  none_reply b (drop p) = refl
  none_reply b give = ap page (or_none (m.gives b))

  pub none_answers : (b : S) (cs : List Call) → replies over (queued [] 0 b) cs ≡ replies m b cs
  none_answers b [] = refl
  none_answers b (c ∷ cs) =
      ap (λ x. x ∷ replies over (after over (queued [] 0 b) c) cs) (none_reply b c) ∙ ap (λ xs. reply m b c ∷ xs) (ap (λ t. replies over t cs) (none_step b c) ∙ none_answers (after m b c) cs)
