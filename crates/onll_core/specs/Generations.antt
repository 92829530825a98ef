-- Any number of generations, each of which goes on from what a crash left of the one before.
use Rattle.std.specs.Prelude.{ℕ, ◌≡◌, List, [], ◌∷◌, length, take, Result, Ok, Err}
use Rattle.onll_model.specs.declared.call.Call.{Call}
use Rattle.onll_model.specs.Object.{Behaviour}
use Rattle.onll_start.specs.declared.fault.ResumeFault.{ResumeFault}
use Rattle.onll_start.specs.declared.fault.ResumeFault.TheVariants.{TooMany}
use Rattle.onll_start.specs.Start.{Found, found_in}
use Rattle.onll_core.specs.Core.{CoreState}
use Rattle.onll_core.specs.Step.{steps_of}
use Rattle.onll_core.specs.Created.{created_core, IsWithinLimits}
use Rattle.onll_log.specs.Head.{heads_from}
use Rattle.onll_core.specs.Crash.{AreImages, RecoversAll}
use Rattle.onll_core.specs.Resume.{resumed}

-- a generation: its scripts, the steps of its threads, and the images that its crash left
pub record Generation (State Op Query Reply : Type 0) : Type 0 where
  pub scripts : List (List (Call State Op Query Reply))
  pub steps : List ℕ
  pub images : List (List (List ℕ))

module _ {State Op Query Reply : Type 0} (b : Behaviour State Op Query Reply) (code : ℕ) (init : List ℕ) (initial : State) where
  -- how a generation of these scripts begins after others, the newest first: anew after none
  abbrev pub begun_after : List (Generation State Op Query Reply) → List (List (Call State Op Query Reply))
      → Result (CoreState State Op Query Reply) ResumeFault
  begun_after [] scripts = Ok (created_core initial code init scripts)
  begun_after (g ∷ older) scripts = resumed b code init initial g.images scripts

  -- a generation of `count` threads that began so, and whose crash left one image of each device, whatever the others are
  pub record IsGeneration (count : ℕ) (older : List (Generation State Op Query Reply)) (g : Generation State Op Query Reply) : Type 0 where
    pub within : IsWithinLimits code g.scripts
    pub many : length g.scripts ≡ count
    pub core : CoreState State Op Query Reply
    pub begun : begun_after older g.scripts ≡ Ok core
    pub left : AreImages (steps_of b core g.steps).threads g.images

  -- each of these generations went on from the next one of the list
  abbrev pub AreGenerations : ℕ → List (Generation State Op Query Reply) → Type 0
  AreGenerations count [] = Unit {0}
  AreGenerations count (g ∷ older) = IsGeneration count older g × AreGenerations count older

  -- What a crash left of a generation recovers to a prefix of its trace that holds every returned update and all that returned
  -- reads saw, and that begins with all nodes from which the generation went on; a next one can go on from that.
  pub record LeavesAll (count : ℕ) (older : List (Generation State Op Query Reply)) (g : Generation State Op Query Reply)
      (is : IsGeneration count older g) : Type 0 where
    pub found : Found
    pub gives : found_in b (heads_from count code init 0 count) g.images ≡ Ok found
    pub all : RecoversAll b (heads_from count code init 0 count) (steps_of b is.core g.steps) g.images
    pub nodes : all.recovers.nodes ≡ found.nodes
    pub front : take (length is.core.trace) found.nodes ≡ is.core.trace

-- Of any number of generations the newest left all, and so did each one before.
abbrev pub GenerationsLaw : {State Op Query Reply : Type 0} → Behaviour State Op Query Reply → Type 0
GenerationsLaw {State} {Op} {Query} {Reply} b =
    (code : ℕ) (init : List ℕ) (initial : State) (count : ℕ) (older : List (Generation State Op Query Reply))
    (g : Generation State Op Query Reply) (is : IsGeneration b code init initial count older g)
    → AreGenerations b code init initial count older → LeavesAll b code init initial count older g is

-- What is recovered from the images of one generation is a prefix of what is recovered from those of the next.
abbrev pub PrefixLaw : {State Op Query Reply : Type 0} → Behaviour State Op Query Reply → Type 0
PrefixLaw {State} {Op} {Query} {Reply} b =
    (code : ℕ) (init : List ℕ) (initial : State) (count : ℕ) (older : List (Generation State Op Query Reply))
    (g next : Generation State Op Query Reply) (earlier later : Found)
    → AreGenerations b code init initial count (next ∷ g ∷ older)
    → found_in b (heads_from count code init 0 count) g.images ≡ Ok earlier
    → found_in b (heads_from count code init 0 count) next.images ≡ Ok later
    → take (length earlier.nodes) later.nodes ≡ earlier.nodes

-- A core that is to go on from the images of any number of generations is refused only for too many updates of a thread.
abbrev pub OnlyTooManyLaw : {State Op Query Reply : Type 0} → Behaviour State Op Query Reply → Type 0
OnlyTooManyLaw {State} {Op} {Query} {Reply} b =
    (code : ℕ) (init : List ℕ) (initial : State) (count : ℕ) (older : List (Generation State Op Query Reply))
    (g : Generation State Op Query Reply) (scripts : List (List (Call State Op Query Reply))) (e : ResumeFault)
    → AreGenerations b code init initial count (g ∷ older) → length scripts ≡ count
    → resumed b code init initial g.images scripts ≡ Err e → (thread : ℕ) × (e ≡ TooMany thread)
