-- An object over eras whose works were killed while they were served in one.
use Rattle.std.specs.Prelude.{ℕ, List, ◌≡◌, true, Option, None}
use Rattle.onll_model.specs.declared.call.Call.{Call}
use Rattle.onll_model.specs.declared.call.CallEnd.{CallEnd}
use Rattle.onll_model.specs.Frames.{Frame}
use Rattle.onll_model.specs.Object.{Behaviour}
use Rattle.onll_pmem.specs.Pmem.{DeviceView}
use Rattle.onll_outside.specs.Views.{StoreView}
use Rattle.onll_shared.specs.Crash.{AreLeft, IsMoment}
use Rattle.onll_shared.specs.Passes.{OnllView, PassView}
use Rattle.onll_open.specs.Files.{FilesHold, SameBut}
use Rattle.onll_open.specs.Names.{held_names}
use Rattle.onll_open.specs.Opening.{HasOpened}
use Rattle.onll_serve.specs.Linking.{IsOverFiles}
use Rattle.onll_serve.specs.Moments.{HaveCome, generation_at}
use Rattle.onll_live.specs.declared.era.Era.{Era}
use Rattle.onll_live.specs.Eras.{IsInEra, era_heads, era_logs}

module _ {State Op Query Reply Device : Type 0} (b : Behaviour State Op Query Reply) (means : Device → DeviceView) where
  module _ (code : ℕ) (description : State → List ℕ) (read_of : List ℕ → Option State) (first : State) (name : List ℕ) (threads : ℕ) where
    -- So many threads worked in an era, and were killed at a moment, within their calls or between them: these were made, and have ended
    -- so. No file changed but the lock's, and those of the era's logs, which hold what a crash then leaves of the devices.
    pub record IsKilled (before after : StoreView) (era : Era State) : Type 0 where
      pub in_era : IsInEra read_of first before name era
      pub onll : OnllView State
      pub firsts : List (PassView State Device)
      pub opened : HasOpened b before (era_logs name era.number) (era_heads code description threads era.state) means era.state threads None
          onll firsts
      pub frame : Frame
      pub nows : List (PassView State Device)
      pub moment : IsMoment onll.trace frame nows
      pub scripts : List (List (Call State Op Query Reply))
      pub ends : List (List (CallEnd State Op Query Reply))
      pub come : HaveCome b means onll scripts ends firsts nows
      pub images : List (List (List ℕ))
      pub left : AreLeft nows images
      pub others : SameBut (held_names (era_logs name era.number) threads) before after
      pub hold : FilesHold (era_logs name era.number) 0 images after

    -- The object is in this era still, and whatever its logs give is a front of what its threads had done, with what they held before and
    -- each answered call.
    abbrev pub StandsKilled : (before after : StoreView) (era : Era State) → IsKilled before after era → Type 0
    StandsKilled before after era k = IsInEra read_of first after name era
        × IsOverFiles b (era_logs name era.number) (era_heads code description threads era.state) before after
        (generation_at k.onll k.frame k.scripts k.ends)

  -- It is so whenever they are killed, where the store tells its files.
  abbrev pub EraKilledLaw : Type 0
  EraKilledLaw = (code : ℕ) (description : State → List ℕ) (read_of : List ℕ → Option State) (first : State) (name : List ℕ) (threads : ℕ)
      (before after : StoreView) (era : Era State) → before.tells ≡ true
      → (k : IsKilled code description read_of first name threads before after era)
      → StandsKilled code description read_of first name threads before after era k
