-- Played cases: what must come of a few calls or touches by the rules. Assumes nothing.
use Rattle.std.specs.Prelude.{◌≡◌, ℕ, List, [], ◌∷◌, map, Some, None}
use Rattle.policy.specs.declared.fault.PolicyFault.TheVariants.{AlreadyHeld, NotHeld}
use Rattle.policy.specs.Model.{Model, Call, clear, fault, load, hit, drop, give}
use Rattle.policy.specs.Laws.{Reply, done, refused, page, replies}
use Rattle.settings.specs.declared.fault.Layer.TheVariants.{Run}
use Rattle.run.specs.declared.answer.Event.TheVariants.{Touch}
use Rattle.run.specs.Answers as answer
use Rattle.run.specs.Answers.{Told, told}
use Rattle.run.specs.Run.{opened, answers}
use Rattle.ordered.specs.Ordered.{Kept}
use Rattle.fifo.specs.Fifo as fifo
use Rattle.lru_policy.specs.Lru as lru
use Rattle.clock.specs.Clock as clock
use Rattle.clock.specs.Ring.{Ring}
use Rattle.front_queue.specs.Front.{Queued, fronted}

-- a policy by its layers
pub data Stack : Type 0 where
  fifo_alone : Stack
  lru_alone : Stack
  clock_alone : Stack
  -- a front queue of so many pages over another
  behind_queue : ℕ → Stack → Stack

-- what its standings are
abbrev pub state_of : Stack → Type 0
state_of fifo_alone = Kept (List ℕ)
state_of lru_alone = Kept (List ℕ)
state_of clock_alone = Kept Ring
state_of (behind_queue k p) = Queued (state_of p)

abbrev pub model_of : (p : Stack) → Model (state_of p)
model_of fifo_alone = fifo.fifo
model_of lru_alone = lru.lru
model_of clock_alone = clock.clock
model_of (behind_queue k p) = fronted (model_of p)

abbrev pub setting_of : (p : Stack) → (model_of p).Setting
setting_of fifo_alone = tt
setting_of lru_alone = tt
setting_of clock_alone = tt
setting_of (behind_queue k p) = (k, setting_of p)

-- the standing of the policy as it is made
abbrev pub opening_of : (p : Stack) → state_of p
opening_of p = (model_of p).opening (setting_of p)

pub data Case : Type 0 where
  -- calls of a policy as it is made, each with its reply
  calls : Stack → List (Call × Reply) → Case
  -- touches of a new run of so many frames, each with its answer
  touches : Stack → ℕ → List (ℕ × Told) → Case

abbrev pub firsts : {A B : Type 0} → List (A × B) → List A
firsts xs = map (λ x. x.0) xs

abbrev pub seconds : {A B : Type 0} → List (A × B) → List B
seconds xs = map (λ x. x.1) xs

abbrev pub Comes : Case → Type 0
Comes (calls p rows) = replies (model_of p) (opening_of p) (firsts rows) ≡ seconds rows
Comes (touches p f rows) = map told (answers (model_of p) (opened (model_of p) f (opening_of p)) (map Touch (firsts rows))) ≡ seconds rows

abbrev pub AllCome : List Case → Type 0
AllCome [] = Unit {0}
AllCome (x ∷ xs) = Comes x × AllCome xs

abbrev pub table : List Case
table =
    -- CLOCK passes over a page that was hit, once, and a page as it is loaded is not marked
    calls clock_alone ((load 1, done) ∷ (load 2, done) ∷ (hit 1, done) ∷ (give, page (Some 2)) ∷ (give, page (Some 1)) ∷ [])
    ∷ touches clock_alone 3 ((1, answer.fault) ∷ (2, answer.fault) ∷ (3, answer.fault) ∷ (1, answer.hit) ∷ (4, answer.replaced 2) ∷ (5, answer.replaced 3) ∷ [])
    -- a hit below brings a page back into the queue, and the page that was there goes below
    ∷ calls (behind_queue 1 fifo_alone) ((load 1, done) ∷ (load 2, done) ∷ (load 3, done) ∷ (hit 1, done) ∷ (give, page (Some 2)) ∷ [])
    -- where nothing is below, the oldest page of the queue is given, also where it was hit
    ∷ calls (behind_queue 2 clock_alone) ((fault 1, done) ∷ (load 1, done) ∷ (load 2, done) ∷ (hit 1, done) ∷ (give, page (Some 1)) ∷ (clear, done) ∷ (give, page None) ∷ [])
    -- a queue of size 0 is none
    ∷ calls (behind_queue 0 lru_alone) ((load 1, done) ∷ (load 2, done) ∷ (hit 1, done) ∷ (give, page (Some 2)) ∷ [])
    -- a page that is held is not loaded again, and one that is not held is neither hit nor dropped
    ∷ calls lru_alone ((load 7, done) ∷ (load 7, refused AlreadyHeld) ∷ (hit 9, refused NotHeld) ∷ (drop 9, refused NotHeld) ∷ (drop 7, done) ∷ (give, page None) ∷ [])
    -- FIFO and LRU differ at the fourth touch of this trace
    ∷ touches fifo_alone 2 ((1, answer.fault) ∷ (2, answer.fault) ∷ (1, answer.hit) ∷ (3, answer.replaced 1) ∷ [])
    ∷ touches lru_alone 2 ((1, answer.fault) ∷ (2, answer.fault) ∷ (1, answer.hit) ∷ (3, answer.replaced 2) ∷ [])
    -- what is no page is refused by the run, by number 1
    ∷ touches lru_alone 2 ((4096, answer.refused 1 Run) ∷ (4095, answer.fault) ∷ [])
    ∷ []
