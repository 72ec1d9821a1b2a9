-- One line more of a trace that is printed. Assumes nothing.
use Rattle.std.proofs.Common.{◌≡◌, ℕ, ◌+◌, ◌<◌, ◌≤◌, min, ◌⊎◌, List, [], ◌∷◌, ◌++◌, length, get_or, drop, refl, ap, ◌∙◌, inl, inr, append_assoc, append-nil, arith}
use Rattle.std.proofs.lemmas.List.{drop_more, drop_all}
use Rattle.std.proofs.lemmas.Bool.{cases_lt}
use Rattle.run.specs.Answers.{EventAnswer}
use Rattle.listing.specs.Lines.{answer_line}
use Rattle.listing.specs.Listing.{printed}

pub line_more : (out after : List ℕ) (ps : List ℕ) (xs : List EventAnswer) (i j : ℕ) (p : ℕ) (x : EventAnswer) → i < length ps → i < length xs → p ≡ get_or ps i p → x ≡ get_or xs i x → j ≡ i + 1 → after ≡ out ++ answer_line p x →
    after ++ printed (drop j ps) (drop j xs) ≡ out ++ printed (drop i ps) (drop i xs)
line_more out after ps xs i j p x h k a b n e = rw (e, n, drop_more ps i p h, drop_more xs i x k, ← a, ← b) (append_assoc out _ _)

no_pages : (ps : List ℕ) (xs : List EventAnswer) → (ps ≡ []) ⊎ (xs ≡ []) → printed ps xs ≡ []
no_pages ps xs (inl e) = ap (λ qs. printed qs xs) e
no_pages [] xs (inr e) = refl
no_pages (p ∷ ps) xs (inr e) = ap (printed (p ∷ ps)) e

pub lines_end : (out : List ℕ) (ps : List ℕ) (xs : List EventAnswer) (i : ℕ) → min (length ps) (length xs) ≤ i → out ++ printed (drop i ps) (drop i xs) ≡ out
lines_end out ps xs i h =
    let k : (drop i ps ≡ []) ⊎ (drop i xs ≡ []) = elim (cases_lt i (length ps)) [ inl l ↦ inr (drop_all i xs (omega arith)) | inr l ↦ inl (drop_all i ps l) ] in
    ap (λ t. out ++ t) (no_pages (drop i ps) (drop i xs) k) ∙ append-nil out
