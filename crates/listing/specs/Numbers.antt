-- The numbers of a text, parted by white space. Assumes nothing.
use Rattle.std.specs.Prelude.{◌≡◌, ℕ, ◌+◌, ◌-◌, ◌*◌, ◌^◌, Bool, true, cond, ◌&&◌, ◌||◌, List, [], ◌∷◌, ◌++◌, length, drop, Some, None, Ok, Err, vec_items, decimal, option_to_list, unwrap_or, Option, Result, Vec, ◌==◌, nat_le, nat_lt}
use Rattle.std.specs.declared.alloc.Global.{Global}
use Rattle.listing.specs.declared.fault.TextFault.{TextFault}
use Rattle.listing.specs.declared.fault.TextFault.TheVariants.{Malformed, OutOfMemory}

-- a space, a line end, a carriage return or a tab
abbrev pub is_space : ℕ → Bool
is_space b = b == 32 || (b == 10 || (b == 13 || b == 9))

abbrev pub is_digit : ℕ → Bool
is_digit b = nat_le 48 b && nat_le b 57

-- a digit makes the number so far ten times as great and adds itself, while it fits 32 bits
abbrev pub grown : Option ℕ → ℕ → Option ℕ
grown w b = cond (is_digit b && nat_lt (unwrap_or w 0 * 10 + (b - 48)) (2 ^ 32)) (Some (unwrap_or w 0 * 10 + (b - 48))) None

-- words before those of the rest of a text
abbrev pub before : List ℕ → Result (List ℕ) ℕ → Result (List ℕ) ℕ
before xs (Ok ys) = Ok (xs ++ ys)
before xs (Err k) = Err k

-- the numbers from place k on, after the word so far, or the place of the first byte that is bad; white space ends a word
abbrev pub numbers_from : ℕ → Option ℕ → List ℕ → Result (List ℕ) ℕ
numbers_from k w [] = Ok (option_to_list w)
numbers_from k w (b ∷ bs) = cond (is_space b) (before (option_to_list w) (numbers_from (k + 1) None bs)) (elim (grown w b) [ Some n ↦ numbers_from (k + 1) (Some n) bs | None ↦ Err k ])

abbrev pub numbers_in : List ℕ → Result (List ℕ) ℕ
numbers_in bs = numbers_from 0 None bs

-- the numbers of a text from place k on
abbrev pub numbers_behind : ℕ → List ℕ → Result (List ℕ) ℕ
numbers_behind k bs = numbers_from k None (drop k bs)

-- a reader found r, unless memory ran out
abbrev pub Finds : Result (Vec ℕ Global) TextFault → Result (List ℕ) ℕ → Type 0
Finds (Ok v) r = r ≡ Ok (vec_items v)
Finds (Err (Malformed b)) r = r ≡ Err b.at
Finds (Err (OutOfMemory e)) r = Unit {0}
Finds (Err e) r = ⊥

-- numbers spelled in decimal, each with a space behind it
abbrev pub spelled : List ℕ → List ℕ
spelled [] = []
spelled (n ∷ ns) = decimal n ++ (32 ∷ spelled ns)

abbrev pub small : List ℕ → Bool
small [] = true
small (n ∷ ns) = nat_lt n (2 ^ 32) && small ns

-- numbers that are spelled out are read back
abbrev pub ReadsBack : Type 0
ReadsBack = (ns : List ℕ) → small ns ≡ true → numbers_in (spelled ns) ≡ Ok ns

-- every byte is white space or a digit
abbrev pub plain : List ℕ → Bool
plain [] = true
plain (b ∷ bs) = (is_space b || is_digit b) && plain bs

-- a text with any other byte gives no numbers
abbrev pub ReadsPlain : Type 0
ReadsPlain = (bs ns : List ℕ) → numbers_in bs ≡ Ok ns → plain bs ≡ true

-- the same of a text behind another
abbrev pub ReadsBackBehind : Type 0
ReadsBackBehind = (bs ns : List ℕ) → small ns ≡ true → numbers_behind (length bs) (bs ++ spelled ns) ≡ Ok ns

-- and of a text from place k on
abbrev pub ReadsPlainBehind : Type 0
ReadsPlainBehind = (k : ℕ) (bs ns : List ℕ) → numbers_behind k bs ≡ Ok ns → plain (drop k bs) ≡ true
