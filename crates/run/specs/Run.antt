-- What a run does with each page, in every standing. Assumes nothing.
use Rattle.std.specs.Prelude.{ℕ, ◌+◌, cond, List, [], ◌∷◌, length, Some, None, Ok, Err, Option, Result, nat_le, nat_lt}
use Rattle.pages.specs.Lists.{has}
use Rattle.policy.specs.declared.fault.PolicyFault.{PolicyFault}
use Rattle.policy.specs.Model.{Model, clear, fault, load, hit, drop, give, refusal, after, unless}
use Rattle.settings.specs.declared.fault.RunFault.{RunFault}
use Rattle.settings.specs.declared.fault.RunFault.TheVariants as refused
use Rattle.run.specs.declared.answer.Event.{Event}
use Rattle.run.specs.declared.answer.Event.TheVariants.{Touch, Release}
use Rattle.run.specs.declared.answer.Touched.{Touched}
use Rattle.run.specs.declared.answer.Touched.TheVariants.{Hit, Fault, Replaced}
use Rattle.run.specs.declared.answer.Figures.{Figures}
use Rattle.run.specs.Answers.{EventAnswer, touched, freed, figures}

-- a run: its frames, the standing of its policy, and its figures
pub record Run (S : Type 0) : Type 0 where
  pub frames : ℕ
  pub policy : S
  pub figures : Figures

abbrev pub run : {S : Type 0} → ℕ → S → Figures → Run S
run n s f = record { frames = n; policy = s; figures = f }

-- a policy's refusal goes up whole
abbrev pub up : {A : Type 0} → Option PolicyFault → Result A RunFault → Result A RunFault
up None r = r
up (Some f) r = Err (refused.Policy f)

-- a fault's answer, by the page that was sent out
abbrev pub fault_with : Option ℕ → Touched
fault_with None = Fault
fault_with (Some q) = Replaced q

-- what counts after a hit, and after a fault
abbrev pub count_hit : Figures → Figures
count_hit n = figures (n.touches + 1) n.faults n.outs

abbrev pub count_fault : Option ℕ → Figures → Figures
count_fault None n = figures (n.touches + 1) (n.faults + 1) n.outs
count_fault (Some q) n = figures (n.touches + 1) (n.faults + 1) (n.outs + 1)

module _ {S : Type 0} (m : Model S) where
  -- opening clears the policy
  abbrev pub opened : ℕ → S → Run S
  opened n s = run n (after m s clear) (figures 0 0 0)

  -- where n frames are taken, a page is given
  abbrev pub sent_out : ℕ → S → Option ℕ
  sent_out n s = cond (nat_lt (length (m.pages s)) n) None (m.gives s)

  abbrev pub with_room : ℕ → S → S
  with_room n s = cond (nat_lt (length (m.pages s)) n) s (after m s give)

  module _ (r : Run S) (p : ℕ) where
    -- the policy that has been told of the fault, the page that it then gives, and the policy that has room
    abbrev pub faulted : S
    faulted = after m r.policy (fault p)

    abbrev pub out : Option ℕ
    out = sent_out r.frames faulted

    abbrev pub ready : S
    ready = with_room r.frames faulted

    abbrev pub hit_answer : Result Touched RunFault
    hit_answer = up (refusal m r.policy (hit p)) (Ok Hit)

    abbrev pub hit_after : Run S
    hit_after = unless (refusal m r.policy (hit p)) r (run r.frames (after m r.policy (hit p)) (count_hit r.figures))

    abbrev pub fault_answer : Result Touched RunFault
    fault_answer = up (refusal m r.policy (fault p)) (up (refusal m ready (load p)) (Ok (fault_with out)))

    abbrev pub fault_after : Run S
    fault_after =
        unless (refusal m r.policy (fault p)) r
        (unless (refusal m ready (load p)) (run r.frames ready r.figures)
        (run r.frames (after m ready (load p)) (count_fault out r.figures)))

    -- a touch: first the run's two checks, then a hit where the page is held, else a fault
    abbrev pub by_checks : {A : Type 0} → A → A → A → A → A
    by_checks no_page many hits faults = cond (nat_le 4096 p) no_page (cond (nat_le 16000000 r.figures.touches) many (cond (has p (m.pages r.policy)) hits faults))

    abbrev pub touch_answer : Result Touched RunFault
    touch_answer = by_checks (Err refused.NotAPage) (Err refused.TooManyTouches) hit_answer fault_answer

    abbrev pub touch_after : Run S
    touch_after = by_checks r r hit_after fault_after

    -- a release is the policy's drop
    abbrev pub release_answer : Result (Unit {0}) RunFault
    release_answer = up (refusal m r.policy (drop p)) (Ok tt)

    abbrev pub release_after : Run S
    release_after = run r.frames (after m r.policy (drop p)) r.figures

  abbrev pub event_answer : Run S → Event → EventAnswer
  event_answer r (Touch p) = touched (touch_answer r p)
  event_answer r (Release p) = freed (release_answer r p)

  abbrev pub event_after : Run S → Event → Run S
  event_after r (Touch p) = touch_after r p
  event_after r (Release p) = release_after r p

  -- the run after a trace, and its answers in order
  abbrev pub run_after : Run S → List Event → Run S
  run_after r [] = r
  run_after r (e ∷ es) = run_after (event_after r e) es

  abbrev pub answers : Run S → List Event → List EventAnswer
  answers r [] = []
  answers r (e ∷ es) = event_answer r e ∷ answers (event_after r e) es
