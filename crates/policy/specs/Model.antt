-- What a policy means: what a standing tells, and what each call does to one. Assumes nothing.
use Rattle.std.specs.Prelude.{ℕ, Bool, true, false, cond, not, ◌&&◌, List, [], ◌∷◌, length, Some, None, Ok, Err, Option, Result, nat_le, nat_lt}
use Rattle.policy.specs.declared.fault.PolicyFault.{PolicyFault}
use Rattle.policy.specs.declared.fault.PolicyFault.TheVariants.{NotAPage, TooManyFaults, AlreadyHeld, NotHeld, Full}
use Rattle.pages.specs.Lists.{has}

-- A policy by its standings. A standing has pages, a count of accepted faults, an order of the policy's own, and the settings
-- that the policy was made with. What an accepted call leaves is a function of the standing and of the call.
pub record Model (State : Type 0) : Type 1 where
  pub Order : Type 0
  pub Setting : Type 0
  pub pages : State → List ℕ
  pub count : State → ℕ
  pub order : State → Order
  pub setting : State → Setting
  -- what the policy keeps of its own, besides what every policy keeps
  pub Fine : State → Type 0
  -- the cleared standing of each setting
  pub opening : Setting → State
  pub on_fault : State → ℕ → State
  pub on_load : State → ℕ → State
  pub on_hit : State → ℕ → State
  pub on_drop : State → ℕ → State
  -- the page that give answers, and the standing that it leaves
  pub gives : State → Option ℕ
  pub on_give : State → State

pub data Call : Type 0 where
  clear : Call
  fault : ℕ → Call
  load : ℕ → Call
  hit : ℕ → Call
  drop : ℕ → Call
  give : Call

-- whether p is held, where the pages are xs: never from 4,096 up
abbrev pub held : ℕ → List ℕ → Bool
held p xs = nat_lt p 4096 && has p xs

-- a count up to 1,024
abbrev pub capped : ℕ → ℕ
capped n = cond (nat_le 1024 n) 1024 n

-- f where the test holds, else what the next tests say
abbrev pub refuse_if : Bool → PolicyFault → Option PolicyFault → Option PolicyFault
refuse_if true f next = Some f
refuse_if false f next = next

-- what is no page is refused, and then a page that is held; else the next tests say
abbrev pub absent_then : ℕ → Bool → Option PolicyFault → Option PolicyFault
absent_then p is_held next = refuse_if (nat_le 4096 p) NotAPage (refuse_if is_held AlreadyHeld next)

abbrev pub absent_check : ℕ → Bool → Option PolicyFault
absent_check p is_held = absent_then p is_held None

-- what is no page is refused, and then a page that is not held
abbrev pub held_check : ℕ → Bool → Option PolicyFault
held_check p is_held = refuse_if (nat_le 4096 p) NotAPage (refuse_if (not is_held) NotHeld None)

-- what a call answers that is refused, or is not
abbrev pub answer : Option PolicyFault → Result (Unit {0}) PolicyFault
answer None = Ok tt
answer (Some f) = Err f

-- what stands after a call that is refused, or is not
abbrev pub unless : {S : Type 0} → Option PolicyFault → S → S → S
unless None before after = after
unless (Some f) before after = before

module _ {S : Type 0} (m : Model S) where
  -- the checks of each call, in their order
  abbrev pub fault_refusal : S → ℕ → Option PolicyFault
  fault_refusal s p = absent_then p (has p (m.pages s)) (refuse_if (nat_le 16000000 (m.count s)) TooManyFaults None)

  abbrev pub load_refusal : S → ℕ → Option PolicyFault
  load_refusal s p = absent_then p (has p (m.pages s)) (refuse_if (nat_le 1024 (length (m.pages s))) Full None)

  abbrev pub held_refusal : S → ℕ → Option PolicyFault
  held_refusal s p = held_check p (has p (m.pages s))

  -- why a call is refused: the first of its checks that fails
  abbrev pub refusal : S → Call → Option PolicyFault
  refusal s clear = None
  refusal s (fault p) = fault_refusal s p
  refusal s (load p) = load_refusal s p
  refusal s (hit p) = held_refusal s p
  refusal s (drop p) = held_refusal s p
  refusal s give = None

  -- the standing that an accepted call leaves
  abbrev pub accepted : S → Call → S
  accepted s clear = m.opening (m.setting s)
  accepted s (fault p) = m.on_fault s p
  accepted s (load p) = m.on_load s p
  accepted s (hit p) = m.on_hit s p
  accepted s (drop p) = m.on_drop s p
  accepted s give = m.on_give s

  -- the standing after a call: a refused one changes nothing
  abbrev pub after : S → Call → S
  after s c = unless (refusal s c) s (accepted s c)

  abbrev pub after_all : S → List Call → S
  after_all s [] = s
  after_all s (c ∷ cs) = after_all (after s c) cs
