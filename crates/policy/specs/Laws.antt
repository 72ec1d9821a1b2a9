-- The lines of the interface, which every policy shows, and what follows of them for every list of calls. Assumes nothing.
use Rattle.std.specs.Prelude.{◌≡◌, ℕ, ◌+◌, ◌<◌, ◌≤◌, true, false, List, [], ◌∷◌, length, Some, None, Option}
use Rattle.policy.specs.declared.fault.PolicyFault.{PolicyFault}
use Rattle.pages.specs.Lists.{has, sound, Adds, Keeps, Takes}
use Rattle.policy.specs.Refusals.{number_of}
use Rattle.policy.specs.Model.{Model, Call, clear, fault, load, hit, drop, give, refusal, accepted, after, after_all, capped, held}

-- a page that was held is answered and taken out; none is answered only where none is held, and then none is held after
abbrev pub Gives : Option ℕ → List ℕ → List ℕ → Type 0
Gives None before after = (before ≡ []) × (after ≡ [])
Gives (Some p) before after = Takes p before after

-- what a call answers
pub data Reply : Type 0 where
  done : Reply
  refused : PolicyFault → Reply
  page : Option ℕ → Reply

abbrev pub numbered : Option PolicyFault → Option ℕ
numbered None = None
numbered (Some f) = Some (number_of f)

abbrev pub told : Option PolicyFault → Reply
told None = done
told (Some f) = refused f

module _ {S : Type 0} (m : Model S) where
  -- a standing that a policy can have
  pub record Sound (s : S) : Type 0 where
    pub fits : sound (m.pages s) ≡ true
    pub few : length (m.pages s) ≤ 1024
    pub counted : m.count s ≤ 16000000
    pub fine : m.Fine s

  -- the standing of a policy as it is made with settings x
  pub record AsMade (x : m.Setting) (s : S) : Type 0 where
    pub cleared : s ≡ m.opening x
    pub sound : Sound s

  -- where the interface says what an accepted call leaves: clear anywhere, any other call in a sound standing that does not refuse it
  abbrev pub Allowed : S → Call → Type 0
  Allowed s clear = Unit {0}
  Allowed s (fault p) = Sound s × (refusal m s (fault p) ≡ None)
  Allowed s (load p) = Sound s × (refusal m s (load p) ≡ None)
  Allowed s (hit p) = Sound s × (refusal m s (hit p) ≡ None)
  Allowed s (drop p) = Sound s × (refusal m s (drop p) ≡ None)
  Allowed s give = Sound s × (refusal m s give ≡ None)

  -- what such a call does to the pages and to the count
  abbrev pub Effect : S → Call → S → Type 0
  Effect s clear t = (m.pages t ≡ []) × (m.count t ≡ 0)
  Effect s (fault p) t = Keeps (m.pages s) (m.pages t) × (m.count t ≡ m.count s + 1)
  Effect s (load p) t = Adds p (m.pages s) (m.pages t) × (m.count t ≡ m.count s)
  Effect s (hit p) t = Keeps (m.pages s) (m.pages t) × (m.count t ≡ m.count s)
  Effect s (drop p) t = Takes p (m.pages s) (m.pages t) × (m.count t ≡ m.count s)
  Effect s give t = Gives (m.gives s) (m.pages s) (m.pages t) × (m.count t ≡ m.count s)

  -- what a policy shows
  pub record Lawful : Type 0 where
    -- a standing is its pages, count, order and settings, and no more
    pub whole : (s t : S) → m.pages s ≡ m.pages t → m.count s ≡ m.count t → m.order s ≡ m.order t → m.setting s ≡ m.setting t → s ≡ t
    pub effects : (s : S) (c : Call) → Allowed s c → Effect s c (accepted m s c)
    -- no call changes the settings
    pub settled : (s : S) (c : Call) → Allowed s c → m.setting (accepted m s c) ≡ m.setting s
    -- and each keeps what the policy keeps of its own
    pub stays_fine : (s : S) (c : Call) → Allowed s c → m.Fine (accepted m s c)

  -- by which number a call is refused, if it is
  abbrev pub refused_by : S → Call → Option ℕ
  refused_by s c = numbered (refusal m s c)

  -- the checks of each call on p, in their order, by number: the first that fails refuses
  pub record Checked (s : S) (p : ℕ) : Type 0 where
    pub fault_no_page : 4096 ≤ p → refused_by s (fault p) ≡ Some 1
    pub fault_held : p < 4096 → has p (m.pages s) ≡ true → refused_by s (fault p) ≡ Some 6
    pub fault_many : p < 4096 → has p (m.pages s) ≡ false → 16000000 ≤ m.count s → refused_by s (fault p) ≡ Some 2
    pub fault_accepted : p < 4096 → has p (m.pages s) ≡ false → m.count s < 16000000 → refused_by s (fault p) ≡ None
    pub load_no_page : 4096 ≤ p → refused_by s (load p) ≡ Some 1
    pub load_held : p < 4096 → has p (m.pages s) ≡ true → refused_by s (load p) ≡ Some 6
    pub load_full : p < 4096 → has p (m.pages s) ≡ false → 1024 ≤ length (m.pages s) → refused_by s (load p) ≡ Some 8
    pub load_accepted : p < 4096 → has p (m.pages s) ≡ false → length (m.pages s) < 1024 → refused_by s (load p) ≡ None
    pub hit_no_page : 4096 ≤ p → refused_by s (hit p) ≡ Some 1
    pub hit_absent : p < 4096 → has p (m.pages s) ≡ false → refused_by s (hit p) ≡ Some 7
    pub hit_accepted : p < 4096 → has p (m.pages s) ≡ true → refused_by s (hit p) ≡ None
    pub drop_no_page : 4096 ≤ p → refused_by s (drop p) ≡ Some 1
    pub drop_absent : p < 4096 → has p (m.pages s) ≡ false → refused_by s (drop p) ≡ Some 7
    pub drop_accepted : p < 4096 → has p (m.pages s) ≡ true → refused_by s (drop p) ≡ None

  abbrev pub reply : S → Call → Reply
  reply s clear = done
  reply s (fault p) = told (refusal m s (fault p))
  reply s (load p) = told (refusal m s (load p))
  reply s (hit p) = told (refusal m s (hit p))
  reply s (drop p) = told (refusal m s (drop p))
  reply s give = page (m.gives s)

  abbrev pub replies : S → List Call → List Reply
  replies s [] = []
  replies s (c ∷ cs) = reply s c ∷ replies (after m s c) cs

  -- what follows, for every standing and every list of calls
  pub record PolicyLaws : Type 0 where
    -- a sound standing stays sound, and keeps its settings
    pub stays_sound : (s : S) (cs : List Call) → Sound s → Sound (after_all m s cs)
    pub keeps_settings : (s : S) (cs : List Call) → Sound s → m.setting (after_all m s cs) ≡ m.setting s
    -- from a clear on every standing is sound, whatever was before
    pub clear_sound : (s : S) (cs : List Call) → Sound (after_all m s (clear ∷ cs))
    -- of equal settings cleared standings are equal
    pub clear_alike : (s t : S) → m.setting s ≡ m.setting t → after m s clear ≡ after m t clear
    -- a cleared policy answers as a new one
    pub forgets : (s : S) (before cs : List Call) → Sound s → replies (after_all m s before) (clear ∷ cs) ≡ replies s (clear ∷ cs)
    -- which calls are refused, and by which number
    pub checked : (s : S) (p : ℕ) → Checked s p
    pub refused_unchanged : (s : S) (c : Call) (f : PolicyFault) → refusal m s c ≡ Some f → after m s c ≡ s
    -- none is given exactly where none is held
    pub none_given : (s : S) → Sound s → m.gives s ≡ None → m.pages s ≡ []
    pub none_held : (s : S) → Sound s → m.pages s ≡ [] → m.gives s ≡ None
    -- how many are held is counted exactly, and a page that is listed is one below 4,096
    pub exact : (s : S) → Sound s → capped (length (m.pages s)) ≡ length (m.pages s)
    pub held_is_member : (s : S) (p : ℕ) → Sound s → held p (m.pages s) ≡ has p (m.pages s)
