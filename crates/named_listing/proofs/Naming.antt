-- The first word of a text, and the policy that it names. Assumes nothing.
use Rattle.std.proofs.Common.{◌≡◌, ℕ, ◌≤◌, cond, nat_lt, not, true, false, eqb, List, [], ◌∷◌, take, Some, None, Option, sym, refl, length, inl, inr}
use Rattle.std.proofs.lemmas.Bool.{cases_Bool, eqb-true, and_parts, true≢false}
use Rattle.named_listing.specs.declared.name.PolicyName.{PolicyName}
use Rattle.named_listing.specs.declared.name.PolicyName.TheVariants.{Fifo, Lru, Clock}
use Rattle.std.proofs.lemmas.List.Recursion.{is_position_or_len}
use Rattle.std.proofs.lemmas.List.Sums.{prefix_len-le-length}
use Rattle.std.specs.Prelude.{position}
use Rattle.listing.specs.declared.fault.TextFault.TheVariants.{NoPolicy}
use Rattle.listing.specs.Faults.{fault_line}
use Rattle.listing.specs.Numbers.{is_space}
use Rattle.named_listing.specs.Listing.{listing_of}
use Rattle.named_listing.specs.Names.{name_of, same, named, word_end}

same_true : (xs ys : List ℕ) → same xs ys ≡ true → xs ≡ ys
same_true [] [] e = refl
same_true [] (y ∷ ys) e = absurd (true≢false (sym e))
same_true (x ∷ xs) [] e = absurd (true≢false (sym e))
same_true (x ∷ xs) (y ∷ ys) e =
    let a = and_parts (eqb x y) (same xs ys) e in
    let i = eqb-true x y a.0 in let j = same_true xs ys a.1 in cc

-- a word that is no name
other : (w : List ℕ) (p : PolicyName) → (w ≡ name_of p → ⊥) → same w (name_of p) ≡ false
other w p n = elim (cases_Bool (same w (name_of p))) [ inl e ↦ absurd (n (same_true w (name_of p) e)) | inr e ↦ e ]

names_none : (w : List ℕ) → ((p : PolicyName) → w ≡ name_of p → ⊥) → named w ≡ None
names_none w n = let a = other w Fifo (n Fifo) in let b = other w Lru (n Lru) in let c = other w Clock (n Clock) in rw (a, b, c) refl

-- the first word, which ends at n, names no policy
pub no_policy : (bs w : List ℕ) (n : ℕ) → n ≡ word_end bs → w ≡ take n bs → ((p : PolicyName) → w ≡ name_of p → ⊥) → listing_of bs ≡ fault_line NoPolicy
no_policy bs w n e i h = rw (← e, ← i, names_none w h) refl

-- the first word ends within the text, at the first white space where there is one
pub word_ends : (bs : List ℕ) (r : Option ℕ) → r ≡ position is_space bs → (word_end bs ≤ length bs) × (r ≡ cond (nat_lt (word_end bs) (length bs)) (Some (word_end bs)) None)
word_ends bs r e =
    let i = is_position_or_len word_end is_space refl (λ x xs. refl) bs in
    rw i (prefix_len-le-length (λ x. not (is_space x)) bs, e)
