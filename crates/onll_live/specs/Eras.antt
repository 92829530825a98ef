-- The eras of an object over files: in each it goes on from a state that was saved, with logs of its own.
use Rattle.std.specs.Prelude.{ℕ, false, List, ◌++◌, ◌≡◌, ◌+◌, ◌%◌, ◌≤◌, ◌⊎◌, length, codes, Option, Some, None, Ok}
use Rattle.std.specs.Option.{option_map}
use Rattle.onll_model.specs.Limits.{most_threads}
use Rattle.onll_model.specs.Object.{Behaviour}
use Rattle.onll_model.specs.Trace.{state_after}
use Rattle.onll_log.specs.declared.head.LogHead.{LogHead}
use Rattle.onll_merge.specs.Recovered.{Recovered}
use Rattle.onll_outside.specs.Views.{StoreView}
use Rattle.onll_checkpoint.specs.Checkpoint.{CheckpointState}
use Rattle.onll_areas.specs.Newest.{AreaHolds, newest_of}
use Rattle.onll_open.specs.Files.{FileIsMade}
use Rattle.onll_open.specs.Heads.{heads_of}
use Rattle.onll_open.specs.Names.{log_lock_name, log_name}
use Rattle.onll_open.specs.Opening.{FilesGive}
use Rattle.onll_live.specs.declared.era.Era.{Era}

-- ---- names
-- the name with which those of an object's files begin
abbrev pub era_base : List ℕ → List ℕ
era_base name = name ++ codes ".era"

-- the name of the file of area 0 or 1
abbrev pub area_name : List ℕ → ℕ → List ℕ
area_name name area = log_name (era_base name) area

-- the name of the logs of an era of this number
abbrev pub era_logs : List ℕ → ℕ → List ℕ
era_logs name number = area_name name (number % 2)

-- the name that is locked while an object is worked on
abbrev pub era_lock : List ℕ → List ℕ
era_lock name = log_lock_name (era_base name)

-- ---- areas
-- what the file of an area holds; one that is not there, or is empty, holds no checkpoint
abbrev pub AreaGives : StoreView → List ℕ → Option CheckpointState → Type 0
AreaGives store name found = AreaHolds store name found ⊎ (FileIsMade store name false × (found ≡ None))

-- the number of the era that a checkpoint begins, 0 where there is none
abbrev pub number_of : Option CheckpointState → ℕ
number_of None = 0
number_of (Some c) = c.number

-- this is the newest checkpoint that the areas of this name hold
pub record AreasGive (store : StoreView) (name : List ℕ) (newest : Option CheckpointState) : Type 0 where
  pub even : Option CheckpointState
  pub odd : Option CheckpointState
  pub even_given : AreaGives store (area_name name 0) even
  pub odd_given : AreaGives store (area_name name 1) odd
  pub newest_is : newest_of even odd ≡ newest

module _ {State : Type 0} (read_of : List ℕ → Option State) (first : State) where
  -- the era that a checkpoint begins, where its text is a state; where there is none it is era 0, which begins in the first state
  abbrev pub era_of : Option CheckpointState → Option (Era State)
  era_of None = Some (record { number = 0; place = 0; state = first })
  era_of (Some c) = option_map (λ s. record { number = c.number; place = c.place; state = s }) (read_of c.text)

  -- the object over the files of this name is in this era
  pub record IsInEra (store : StoreView) (name : List ℕ) (era : Era State) : Type 0 where
    pub newest : Option CheckpointState
    pub given : AreasGive store name newest
    pub era_is : era_of newest ≡ Some era

-- the heads of the logs of an era that begins in this state
abbrev pub era_heads : {State : Type 0} → ℕ → (State → List ℕ) → ℕ → State → List LogHead
era_heads code description threads state = heads_of code (description state) threads

module _ {State Op Query Reply : Type 0} (b : Behaviour State Op Query Reply) (code : ℕ) (description : State → List ℕ)
    (read_of : List ℕ → Option State) (first : State) (name : List ℕ) (threads : ℕ) where
  -- The files of this name hold the object in this state, after so many updates in all eras.
  pub record HoldObject (store : StoreView) (place : ℕ) (state : State) : Type 0 where
    pub few : threads ≤ most_threads
    pub era : Era State
    pub in_era : IsInEra read_of first store name era
    pub found : Recovered
    pub given : FilesGive b store (era_logs name era.number) (era_heads code description threads era.state) (Ok found)
    pub place_is : place ≡ era.place + length found.nodes
    pub state_is : state ≡ state_after b era.state found.nodes
