use Rattle.std.specs.Prelude.{ℕ, ◌≡◌, ◌⊎◌, List, length, map, Ok}
use Rattle.std.specs.List.{AllByRecursion}
use Rattle.onll_model.specs.declared.node.Node.{Node}
use Rattle.onll_model.specs.declared.call.Call.{Call}
use Rattle.onll_model.specs.Object.{Behaviour}
use Rattle.onll_model.specs.Legal.{IsLegal}
use Rattle.onll_model.specs.Frames.{Sound}
use Rattle.onll_log.specs.declared.head.LogHead.{LogHead}
use Rattle.onll_log.specs.Torn.{AreLines}
use Rattle.onll_start.specs.Heads.{created_heads}
use Rattle.onll_core.specs.Core.{CoreState}
use Rattle.onll_core.specs.CoreFrame.{frame_of}
use Rattle.onll_core.specs.Step.{steps_of}
use Rattle.onll_core.specs.Created.{created_core, IsWithinLimits}
use Rattle.onll_core.specs.Resume.{resumed}
use Rattle.onll_core.specs.Outcomes.{ends_of}
use Rattle.onll_core.specs.CallTimes.{AreInTime}
use Rattle.onll_core.specs.Fences.{CountsFences}
use Rattle.onll_core.specs.Entries.{EntriesAreFew}
use Rattle.onll_core.specs.Returns.{OrderedReturn}
use Rattle.onll_core.specs.Crash.{RecoversAlways}

-- What the construction promises, in one place: durable linearizability, with one fence for each update and none for a read.

-- A state of a core that runs these scripts from this initial state, whose trace begins with this base of recovered nodes, and whose
-- logs have these heads.
pub record IsDurable {State Op Query Reply : Type 0} (b : Behaviour State Op Query Reply) (initial : State) (base : List Node)
    (heads : List LogHead) (scripts : List (List (Call State Op Query Reply)))
    (c : CoreState State Op Query Reply) : Type 0 where
  pub sound : Sound (length scripts) (frame_of c)
  -- the trace is the base and then one legal history of the scripts' calls, in an order that agrees with the time at which they were
  -- made
  pub legal : IsLegal b initial base scripts c.trace (map ends_of c.threads)
  pub in_time : AreInTime c
  -- each update fenced its log once, and a read none; no entry holds more nodes than there are threads
  pub fences : CountsFences c
  pub entries : EntriesAreFew (length scripts) c
  pub returns : OrderedReturn b (length scripts) c
  pub based : c.base ≡ length base
  -- whatever a crash leaves of each device, the logs recover to a prefix of the trace that holds the base, every returned update and
  -- all that returned reads saw
  pub crash : RecoversAlways b heads c

-- a core of these scripts that goes on from some images, lists of lines
pub record CoreGoesOn {State Op Query Reply : Type 0} (b : Behaviour State Op Query Reply) (code : ℕ) (init : List ℕ) (initial : State)
    (scripts : List (List (Call State Op Query Reply))) (c : CoreState State Op Query Reply) : Type 0 where
  pub images : List (List (List ℕ))
  pub lines : AllByRecursion AreLines images
  pub as_many : length images ≡ length scripts
  pub resumed : resumed b code init initial images scripts ≡ Ok c

-- a core of these scripts before any step: one that begins anew, or one that goes on
abbrev pub CoreBegins : {State Op Query Reply : Type 0} → Behaviour State Op Query Reply → ℕ → List ℕ → State
    → List (List (Call State Op Query Reply)) → CoreState State Op Query Reply → Type 0
CoreBegins b code init initial scripts c = (created_core initial code init scripts ≡ c) ⊎ CoreGoesOn b code init initial scripts c

-- after any steps of the threads of such a core, in any order; what its trace began with stays
abbrev pub AlwaysDurable : {State Op Query Reply : Type 0} → Behaviour State Op Query Reply → ℕ → List ℕ → State
    → List (List (Call State Op Query Reply)) → CoreState State Op Query Reply → Type 0
AlwaysDurable b code init initial scripts c =
    (ts : List ℕ) → IsDurable b initial c.trace (created_heads code init scripts) scripts (steps_of b c ts)

-- In every interleaving of any scripts within the limits, at every step, from any initial state, anew or from any images.
abbrev pub DurableLaw : {State Op Query Reply : Type 0} → Behaviour State Op Query Reply → Type 0
DurableLaw {State} {Op} {Query} {Reply} b =
    (code : ℕ) (init : List ℕ) (initial : State) (scripts : List (List (Call State Op Query Reply)))
    (c : CoreState State Op Query Reply)
    → IsWithinLimits code scripts → CoreBegins b code init initial scripts c → AlwaysDurable b code init initial scripts c
