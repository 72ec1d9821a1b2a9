-- What a page makes of the queue that it joins. Assumes nothing.
use Rattle.std.proofs.Common.{◌≡◌, ℕ, ◌<◌, ◌≤◌, List, [], ◌∷◌, ◌++◌, length, Some, refl, arith, length-append}
use Rattle.std.proofs.lemmas.List.{length_push}
use Rattle.std.proofs.lemmas.Bool.{lt-ltb, le-ltb}
use Rattle.std.proofs.lemmas.Bool.Decides.{nat_tests}
use Rattle.pages.specs.Lists.{first, rest}
use Rattle.pages.proofs.ListLaws.{without_absent, length_without}
use Rattle.pages.proofs.JoinLaws.{has_append}
use Rattle.policy.specs.Model.{Model, load, after}
use Rattle.front_queue.specs.Front.{queued, join}

module _ {S : Type 0} (m : Model S) (n : ℕ) (b : S) (p : ℕ) where
  pub joins_room : (f : List ℕ) → length f < n → join m f n b p ≡ queued (f ++ p ∷ []) n b
  joins_room f z = rw (le-ltb n (length (f ++ p ∷ [])) (omega (arith, length_push f p))) refl

  pub joins_full : (x : ℕ) (f : List ℕ) → Some x ≡ first f → n ≤ length f → join m f n b p ≡ queued (rest f ++ p ∷ []) n (after m b (load x))
  joins_full x [] e z = cc
  joins_full x (y ∷ f) e z =
      let v : x ≡ y = cc in rw (lt-ltb n (length (y ∷ (f ++ p ∷ []))) (omega (arith, length_push f p)), v) refl

-- what the goals of the calls ask for
pub ruleset front_rules = (nat_tests, has_append, without_absent, length_without, length-append, joins_room, joins_full)
