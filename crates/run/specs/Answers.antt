-- What an answer says, by kind, value, refusal number and layer, and how answers are counted. Assumes nothing.
use Rattle.std.specs.Prelude.{ℕ, ◌+◌, Bool, true, false, List, [], ◌∷◌, Ok, Err, Result}
use Rattle.std.specs.Result.{result_map_both}
use Rattle.settings.specs.declared.fault.Layer.{Layer}
use Rattle.settings.specs.declared.fault.RunFault.{RunFault}
use Rattle.settings.specs.Refusals.{run_number, run_layer}
use Rattle.run.specs.declared.answer.Touched.{Touched}
use Rattle.run.specs.declared.answer.Touched.TheVariants as touch
use Rattle.run.specs.declared.answer.Outcome.{Outcome}
use Rattle.run.specs.declared.answer.Outcome.TheVariants as outcome
use Rattle.run.specs.declared.answer.Figures.{Figures}

-- what an event is answered, since antt has no name for an alias
abbrev pub EventAnswer : Type 0
EventAnswer = Result Outcome RunFault

-- an answer in plain terms
pub data Told : Type 0 where
  hit : Told
  fault : Told
  -- a fault, and the page that was sent out
  replaced : ℕ → Told
  released : Told
  -- a refusal's number, and the layer whose check failed
  refused : ℕ → Layer → Told

abbrev pub told : EventAnswer → Told
told (Ok outcome.Hit) = hit
told (Ok outcome.Fault) = fault
told (Ok (outcome.Replaced q)) = replaced q
told (Ok outcome.Released) = released
told (Err f) = refused (run_number f) (run_layer f)

-- the outcome of an accepted touch
abbrev pub outcome_of : Touched → Outcome
outcome_of touch.Hit = outcome.Hit
outcome_of touch.Fault = outcome.Fault
outcome_of (touch.Replaced q) = outcome.Replaced q

-- the answer to a touch, and to a release
abbrev pub touched : Result Touched RunFault → EventAnswer
touched r = result_map_both outcome_of (λ f. f) r

abbrev pub freed : Result (Unit {0}) RunFault → EventAnswer
freed r = result_map_both (λ _. outcome.Released) (λ f. f) r

abbrev pub figures : ℕ → ℕ → ℕ → Figures
figures t f o = record { touches = t; faults = f; outs = o }

-- an accepted touch
abbrev pub is_touch : Told → Bool
is_touch hit = true
is_touch fault = true
is_touch (replaced q) = true
is_touch released = false
is_touch (refused f l) = false

-- a touch of a page that was not in memory
abbrev pub is_fault : Told → Bool
is_fault hit = false
is_fault fault = true
is_fault (replaced q) = true
is_fault released = false
is_fault (refused f l) = false

-- a fault for which a page was sent out
abbrev pub is_out : Told → Bool
is_out hit = false
is_out fault = false
is_out (replaced q) = true
is_out released = false
is_out (refused f l) = false

abbrev pub one_if : Bool → ℕ
one_if true = 1
one_if false = 0

-- how many answers are such
abbrev pub how_many : (Told → Bool) → List EventAnswer → ℕ
how_many f [] = 0
how_many f (x ∷ xs) = one_if (f (told x)) + how_many f xs

-- the figures of a list of answers
abbrev pub counted : List EventAnswer → Figures
counted xs = figures (how_many is_touch xs) (how_many is_fault xs) (how_many is_out xs)
