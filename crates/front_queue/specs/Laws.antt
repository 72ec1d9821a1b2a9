-- What holds of a queue in front of any policy: which way each call goes, and what stands in the queue. Assumes nothing.
use Rattle.std.specs.Prelude.{◌≡◌, ℕ, ◌<◌, ◌≤◌, Bool, true, false, not, ◌&&◌, List, [], ◌∷◌, ◌++◌, length, None, ◌==◌}
use Rattle.pages.specs.Lists.{has, without, first, rest, Rising}
use Rattle.policy.specs.Model.{Model, Call, clear, fault, load, hit, drop, give, refusal, after, after_all}
use Rattle.policy.specs.Laws.{Sound, replies}
use Rattle.policy.specs.Histories.{reached, latest_by}
use Rattle.front_queue.specs.Front.{Queued, queued, fronted}

module _ {S : Type 0} (m : Model S) where
  -- What an accepted call makes of the queue, and what it tells the policy below, by the place of its page and the room in the queue.
  pub data Way (s : Queued S) : Call → List ℕ → List Call → Type 0 where
    cleared : Way s clear [] (clear ∷ [])
    faulted : (p : ℕ) → Way s (fault p) s.front (fault p ∷ [])
    -- a load: there is room; the oldest page makes room; the queue is of size 0
    load_joins : (p : ℕ) → length s.front < s.size → Way s (load p) (s.front ++ p ∷ []) []
    load_sinks : (p x : ℕ) (xs : List ℕ) → s.front ≡ x ∷ xs → length s.front ≡ s.size → Way s (load p) (xs ++ p ∷ []) (load x ∷ [])
    load_passes : (p : ℕ) → s.size ≡ 0 → Way s (load p) [] (load p ∷ [])
    -- a hit of a page in the queue
    hit_stays : (p : ℕ) → has p s.front ≡ true → Way s (hit p) s.front []
    -- a hit of a page below: there is room in the queue; its oldest page makes room; it is of size 0
    hit_joins : (p : ℕ) → has p s.front ≡ false → length s.front < s.size → Way s (hit p) (s.front ++ p ∷ []) (drop p ∷ [])
    hit_sinks : (p x : ℕ) (xs : List ℕ) → has p s.front ≡ false → s.front ≡ x ∷ xs → length s.front ≡ s.size → Way s (hit p) (xs ++ p ∷ []) (drop p ∷ load x ∷ [])
    hit_passes : (p : ℕ) → s.size ≡ 0 → Way s (hit p) [] (hit p ∷ [])
    -- a drop of a page in the queue, and of one below
    drop_leaves : (p : ℕ) → has p s.front ≡ true → Way s (drop p) (without p s.front) []
    drop_passes : (p : ℕ) → has p s.front ≡ false → Way s (drop p) s.front (drop p ∷ [])
    -- a give, where some page is held below, and where none is
    give_passes : (q : ℕ) → has q (m.pages s.below) ≡ true → Way s give s.front (give ∷ [])
    give_leaves : m.pages s.below ≡ [] → Way s give (rest s.front) (give ∷ [])

  -- none of the calls is refused
  abbrev pub Heeded : S → List Call → Type 0
  Heeded b [] = Unit {0}
  Heeded b (d ∷ ds) = (refusal m b d ≡ None) × Heeded (after m b d) ds

  -- after c the queue is f, and the policy below was told ds, in this order, and refused none
  pub record Leaves (s : Queued S) (c : Call) (f : List ℕ) (ds : List Call) : Type 0 where
    pub queue : (after (fronted m) s c).front ≡ f
    pub below : (after (fronted m) s c).below ≡ after_all m s.below ds
    pub heeded : Heeded s.below ds

  -- whether a call puts p into a queue of at least one page: a load, or a hit of a page that is not there
  abbrev pub joining : Queued S → ℕ → Call → Bool
  joining s p clear = false
  joining s p (fault q) = false
  joining s p (load q) = q == p
  joining s p (hit q) = q == p && not (has p s.front)
  joining s p (drop q) = false
  joining s p give = false

  -- a queue of n pages over b, from the making on: the standing after the calls, and the number of the latest call by which p joined
  abbrev pub after_calls : ℕ → S → List Call → Queued S
  after_calls n b cs = reached (fronted m) (n, m.setting b) cs

  abbrev pub join_number : ℕ → S → List Call → ℕ → ℕ
  join_number n b cs p = latest_by (fronted m) (n, m.setting b) joining p cs

  pub record FrontLaws : Type 0 where
    -- every accepted call goes one of the ways, and whichever it goes, it leaves what the way says
    pub some_way : (s : Queued S) (c : Call) → Sound (fronted m) s → refusal (fronted m) s c ≡ None → (f : List ℕ) × ((ds : List Call) × Way s c f ds)
    pub each_way : (s : Queued S) (c : Call) (f : List ℕ) (ds : List Call) → Sound (fronted m) s → refusal (fronted m) s c ≡ None → Way s c f ds → Leaves s c f ds
    -- the page given is the one that the policy below gives, or the oldest of the queue where none is held below
    pub gives_below : (s : Queued S) (q : ℕ) → Sound (fronted m) s → has q (m.pages s.below) ≡ true → (fronted m).gives s ≡ m.gives s.below
    pub gives_oldest : (s : Queued S) → Sound (fronted m) s → m.pages s.below ≡ [] → (fronted m).gives s ≡ first s.front
    -- over every list of calls, the newest first: the queue has at most its size of pages, in the order in which they joined, and each of
    -- them joined later than every page below
    pub at_most : (n : ℕ) (b : S) (cs : List Call) → length (after_calls n b cs).front ≤ n
    pub in_order : (n : ℕ) (b : S) (cs : List Call) → Rising (join_number n b cs) (after_calls n b cs).front
    pub newest : (n : ℕ) (b : S) (cs : List Call) (p q : ℕ) → has p (after_calls n b cs).front ≡ true → has q (m.pages (after_calls n b cs).below) ≡ true → join_number n b cs q < join_number n b cs p
    -- a queue of size 0, over every list of calls, the first first: each call just goes below, and every answer is that of the policy below
    pub none_passes : (b : S) (cs : List Call) → after_all (fronted m) (queued [] 0 b) cs ≡ queued [] 0 (after_all m b cs)
    pub none_answers : (b : S) (cs : List Call) → replies (fronted m) (queued [] 0 b) cs ≡ replies m b cs
