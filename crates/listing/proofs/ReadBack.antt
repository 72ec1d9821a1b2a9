-- What is spelled out is read back, and only digits and white space are read. Assumes nothing.
use Rattle.std.proofs.Common.{◌≡◌, ℕ, ◌+◌, ◌-◌, ◌*◌, ◌/◌, ◌%◌, ◌^◌, ◌<◌, Bool, true, false, cond, List, [], ◌∷◌, ◌++◌, length, drop, option_to_list, unwrap_or, Some, None, Ok, Err, decimal, Option, Result, refl, ap, ◌∙◌, append_assoc, arith}
use Rattle.std.proofs.lemmas.List.Prefix.{front_rest}
use Rattle.std.proofs.lemmas.Fmt.{decimal_by_steps}
use Rattle.std.proofs.lemmas.Bool.Decides.{nat_tests}
use Rattle.listing.specs.Numbers.{is_space, is_digit, grown, before, numbers_from, spelled, small, plain, ReadsBack, ReadsBackBehind, ReadsPlain, ReadsPlainBehind}

-- a digit makes the next number
digit_grows : (w : Option ℕ) (d n : ℕ) → d < 10 → unwrap_or w 0 * 10 + d ≡ n → n < 2 ^ 32 → grown w (48 + d) ≡ Some n
digit_grows w d n h e l = let k : 48 + d - 48 ≡ d = omega arith in rw (k, e) (grind (arith, nat_tests))

no_space : (d : ℕ) → is_space (48 + d) ≡ false
no_space d = grind (arith, nat_tests)

grown_on : (k : ℕ) (w : Option ℕ) (d : ℕ) (bs : List ℕ) (n : ℕ) → grown w (48 + d) ≡ Some n → numbers_from k w ((48 + d) ∷ bs) ≡ numbers_from (k + 1) (Some n) bs
grown_on k w d bs n e = rw (no_space d, e) refl

-- the digits of a number, and what follows them
Grows : ℕ → List ℕ → Type 0
Grows n ds = (k : ℕ) (bs : List ℕ) → n < 2 ^ 32 → (j : ℕ) × (numbers_from k None (ds ++ bs) ≡ numbers_from j (Some n) bs)

grows : (n : ℕ) → n < 2 ^ 64 → Grows n (decimal n)
unfolding Grows
grows =
    decimal_by_steps Grows
    (λ n h k bs l. (k + 1, grown_on k None n bs n (digit_grows None n n h (omega arith) l)))
    (λ n ds h ih k bs l.
    let g = ih k ((48 + n % 10) ∷ bs) (omega arith) in
    (g.0 + 1, ap (numbers_from k None) (append_assoc ds _ bs) ∙ g.1 ∙ grown_on g.0 (Some (n / 10)) (n % 10) bs n (digit_grows (Some (n / 10)) (n % 10) n (omega arith) (omega arith) l)))

all_back : (k : ℕ) (ns : List ℕ) → small ns ≡ true → numbers_from k None (spelled ns) ≡ Ok ns
unfolding Grows
all_back k [] s = refl
all_back k (n ∷ ns) s =
    let l : n < 2 ^ 32 = grind (arith, nat_tests) in
    let t : small ns ≡ true = grind (arith, nat_tests) in
    let g = grows n (omega arith) k (32 ∷ spelled ns) l in
    g.1 ∙ ap (before (n ∷ [])) (all_back (g.0 + 1) ns t)

pub reads_back : ReadsBack
reads_back ns s = all_back 0 ns s

pub reads_back_behind : ReadsBackBehind
reads_back_behind bs ns s = ap (numbers_from (length bs) None) (front_rest (bs ++ spelled ns) bs (spelled ns) refl) ∙ all_back (length bs) ns s

before_ok : (xs : List ℕ) (r : Result (List ℕ) ℕ) (ns : List ℕ) → before xs r ≡ Ok ns → (ys : List ℕ) × (r ≡ Ok ys)
before_ok xs (Ok ys) ns e = (ys, refl)
before_ok xs (Err k) ns e = let z : ◌≡◌ {A = ℕ} 0 1 = cc in absurd (omega arith)

grown_digit : (w : Option ℕ) (b n : ℕ) → grown w b ≡ Some n → is_digit b ≡ true
grown_digit w b n e = grind (arith, nat_tests)

all_plain : (bs : List ℕ) (k : ℕ) (w : Option ℕ) (ns : List ℕ) → numbers_from k w bs ≡ Ok ns → plain bs ≡ true
all_plain [] k w ns e = refl
all_plain (b ∷ bs) k w ns e = by (is_space b) (grown w b) refl refl (λ v ms. all_plain bs (k + 1) v ms) e
  where
    by : (s : Bool) (g : Option ℕ) → is_space b ≡ s → grown w b ≡ g → ((v : Option ℕ) (ms : List ℕ) → numbers_from (k + 1) v bs ≡ Ok ms → plain bs ≡ true) → ◌≡◌ {A = Result (List ℕ) ℕ} (cond s (before (option_to_list w) (numbers_from (k + 1) None bs)) (elim g [ Some n ↦ numbers_from (k + 1) (Some n) bs | None ↦ Err k ])) (Ok ns) → plain (b ∷ bs) ≡ true
    by true g a h ih f = let y = before_ok (option_to_list w) (numbers_from (k + 1) None bs) ns f in let t = ih None y.0 y.1 in grind (arith, nat_tests)
    by false (Some n) a h ih f = let d = grown_digit w b n h in let t = ih (Some n) ns f in grind (arith, nat_tests)
    by false None a h ih f = let z : ◌≡◌ {A = ℕ} 0 1 = cc in absurd (omega arith)

pub reads_plain : ReadsPlain
reads_plain bs ns e = all_plain bs 0 None ns e

pub reads_plain_behind : ReadsPlainBehind
reads_plain_behind k bs ns e = all_plain (drop k bs) k None ns e
