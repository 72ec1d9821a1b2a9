-- Lists of pages: which stand in one, and how one list comes from another. Assumes nothing.
use Rattle.std.specs.Prelude.{◌≡◌, ℕ, ◌+◌, ◌<◌, ◌≤◌, Bool, true, false, cond, not, ◌&&◌, ◌||◌, List, [], ◌∷◌, length, Some, None, Option, ◌==◌, nat_lt}

-- whether page q stands in the list
abbrev pub has : ℕ → List ℕ → Bool
has q [] = false
has q (x ∷ xs) = x == q || has q xs

-- every number is a page, below 4,096, and none stands twice
abbrev pub sound : List ℕ → Bool
sound [] = true
sound (x ∷ xs) = nat_lt x 4096 && (not (has x xs) && sound xs)

-- a list that a queue can have: distinct pages, at most 1,024
abbrev pub QueuePages : List ℕ → Type 0
QueuePages xs = (length xs ≤ 1024) × (sound xs ≡ true)

-- the list without the first p, the others in their order
abbrev pub without : ℕ → List ℕ → List ℕ
without p [] = []
without p (x ∷ xs) = cond (x == p) xs (x ∷ without p xs)

-- the first of the list
abbrev pub first : List ℕ → Option ℕ
first [] = None
first (x ∷ xs) = Some x

-- the list without its first
abbrev pub rest : List ℕ → List ℕ
rest [] = []
rest (x ∷ xs) = xs

-- whether p can join: it is a page, it is not there yet, and fewer than 1,024 are
abbrev pub joins : ℕ → List ℕ → Bool
joins p xs = nat_lt p 4096 && (not (has p xs) && nat_lt (length xs) 1024)

-- each page has a smaller number than those behind it
abbrev pub Rising : (ℕ → ℕ) → List ℕ → Type 0
Rising f [] = Unit {0}
Rising f (x ∷ xs) = ((q : ℕ) → has q xs ≡ true → f x < f q) × Rising f xs

-- after is before and p besides, in any order
pub record Adds (p : ℕ) (before after : List ℕ) : Type 0 where
  pub members : (q : ℕ) → has q after ≡ (p == q || has q before)
  pub longer : length after ≡ length before + 1
  pub stays : sound after ≡ true

-- after has the pages of before, in any order
pub record Keeps (before after : List ℕ) : Type 0 where
  pub members : (q : ℕ) → has q after ≡ has q before
  pub level : length after ≡ length before
  pub stays : sound after ≡ true

-- after is before without p, in any order
pub record Takes (p : ℕ) (before after : List ℕ) : Type 0 where
  pub held : has p before ≡ true
  pub members : (q : ℕ) → has q after ≡ (not (p == q) && has q before)
  pub shorter : length after + 1 ≡ length before
  pub stays : sound after ≡ true
