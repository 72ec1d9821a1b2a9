-- A queue in front of any policy: what the two mean together. Assumes nothing.
use Rattle.std.specs.Prelude.{ℕ, ◌≤◌, cond, List, [], ◌∷◌, ◌++◌, length, Some, None, Option, ◌==◌, nat_lt}
use Rattle.pages.specs.Lists.{has, without, first, rest}
use Rattle.policy.specs.Model.{Model, fault, load, hit, drop, give, after}
use Rattle.policy.specs.Laws.{Sound}

-- a standing: the pages in the queue, the oldest first, how many may stand there, and the policy below
pub record Queued (S : Type 0) : Type 0 where
  pub front : List ℕ
  pub size : ℕ
  pub below : S

abbrev pub queued : {S : Type 0} → List ℕ → ℕ → S → Queued S
queued f n b = record { front = f; size = n; below = b }

-- the first page that there is
abbrev pub or_else : Option ℕ → Option ℕ → Option ℕ
or_else None y = y
or_else (Some x) y = Some x

-- the queue after a give, by what was given below
abbrev pub left : Option ℕ → List ℕ → List ℕ
left None f = rest f
left (Some q) f = f

module _ {S : Type 0} (m : Model S) where
  -- the oldest page of a queue is loaded below
  abbrev pub sunk : List ℕ → ℕ → S → Queued S
  sunk [] n b = queued [] n b
  sunk (x ∷ xs) n b = queued xs n (after m b (load x))

  -- p joins the end of the queue; above its size, its oldest page goes below
  abbrev pub join : List ℕ → ℕ → S → ℕ → Queued S
  join f n b p = cond (nat_lt n (length (f ++ p ∷ []))) (sunk (f ++ p ∷ []) n b) (queued (f ++ p ∷ []) n b)

  -- a hit of a page below: with a queue of size 0 it is a hit there, else the page is dropped there and joins the queue
  abbrev pub raised : List ℕ → ℕ → S → ℕ → Queued S
  raised f n b p = cond (n == 0) (queued f n (after m b (hit p))) (join f n (after m b (drop p)) p)

abbrev pub fronted : {S : Type 0} → Model S → Model (Queued S)
fronted m = record {
  Order = List ℕ × m.Order;
  Setting = ℕ × m.Setting;
  pages = λ s. s.front ++ m.pages s.below;
  count = λ s. m.count s.below;
  order = λ s. (s.front, m.order s.below);
  setting = λ s. (s.size, m.setting s.below);
  Fine = λ s. Sound m s.below × (length s.front ≤ s.size);
  opening = λ x. queued [] x.0 (m.opening x.1);
  on_fault = λ s p. queued s.front s.size (after m s.below (fault p));
  on_load = λ s p. join m s.front s.size s.below p;
  on_hit = λ s p. cond (has p s.front) s (raised m s.front s.size s.below p);
  on_drop = λ s p.
      cond (has p s.front) (queued (without p s.front) s.size s.below)
      (queued s.front s.size (after m s.below (drop p)));
  gives = λ s. or_else (m.gives s.below) (first s.front);
  on_give = λ s. queued (left (m.gives s.below) s.front) s.size (after m s.below give);
}
