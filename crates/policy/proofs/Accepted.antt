-- What an accepted call tells of a standing, and when one is accepted. Assumes nothing.
use Rattle.std.proofs.Common.{◌≡◌, ℕ, ◌<◌, true, false, length, None, refl, arith}
use Rattle.std.proofs.lemmas.Bool.{lt-leb, le-leb}
use Rattle.std.proofs.lemmas.Bool.Decides.{nat_tests}
use Rattle.pages.specs.Lists.{has}
use Rattle.policy.specs.Laws.{Checked}
use Rattle.policy.specs.Model.{Model, fault_refusal, load_refusal, held_refusal}

module _ {S : Type 0} (m : Model S) (s : S) (p : ℕ) where
  pub fault_facts : fault_refusal m s p ≡ None → (p < 4096) × (has p (m.pages s) ≡ false) × (m.count s < 16000000)
  fault_facts r = (grind (arith, nat_tests), grind (arith, nat_tests), grind (arith, nat_tests))

  pub load_facts : load_refusal m s p ≡ None → (p < 4096) × (has p (m.pages s) ≡ false) × (length (m.pages s) < 1024)
  load_facts r = (grind (arith, nat_tests), grind (arith, nat_tests), grind (arith, nat_tests))

  pub held_facts : held_refusal m s p ≡ None → (p < 4096) × (has p (m.pages s) ≡ true)
  held_facts r = (grind (arith, nat_tests), grind (arith, nat_tests))

  pub fault_accepts : p < 4096 → has p (m.pages s) ≡ false → m.count s < 16000000 → fault_refusal m s p ≡ None
  fault_accepts k h n = rw (lt-leb 4096 p k, h, lt-leb 16000000 (m.count s) n) refl

  pub load_accepts : p < 4096 → has p (m.pages s) ≡ false → length (m.pages s) < 1024 → load_refusal m s p ≡ None
  load_accepts k h n = rw (lt-leb 4096 p k, h, lt-leb 1024 (length (m.pages s)) n) refl

  pub held_accepts : p < 4096 → has p (m.pages s) ≡ true → held_refusal m s p ≡ None
  held_accepts k h = rw (lt-leb 4096 p k, h) refl

  pub checked : Checked m s p
  checked = record {
    fault_no_page = λ a. rw (le-leb 4096 p a) refl;
    fault_held = λ a h. rw (lt-leb 4096 p a, h) refl;
    fault_many = λ a h k. rw (lt-leb 4096 p a, h, le-leb 16000000 (m.count s) k) refl;
    fault_accepted = λ a h k. rw (lt-leb 4096 p a, h, lt-leb 16000000 (m.count s) k) refl;
    load_no_page = λ a. rw (le-leb 4096 p a) refl;
    load_held = λ a h. rw (lt-leb 4096 p a, h) refl;
    load_full = λ a h k. rw (lt-leb 4096 p a, h, le-leb 1024 (length (m.pages s)) k) refl;
    load_accepted = λ a h k. rw (lt-leb 4096 p a, h, lt-leb 1024 (length (m.pages s)) k) refl;
    hit_no_page = λ a. rw (le-leb 4096 p a) refl;
    hit_absent = λ a h. rw (lt-leb 4096 p a, h) refl;
    hit_accepted = λ a h. rw (lt-leb 4096 p a, h) refl;
    drop_no_page = λ a. rw (le-leb 4096 p a) refl;
    drop_absent = λ a h. rw (lt-leb 4096 p a, h) refl;
    drop_accepted = λ a h. rw (lt-leb 4096 p a, h) refl;
  }
