-- What the workers of a run are handed, and what they give back.
use Rattle.std.specs.Prelude.{ℕ, List, [], ◌≡◌, ◌≤◌, length, None}
use Rattle.onll_model.specs.declared.call.Call.{Call}
use Rattle.onll_model.specs.declared.call.CallEnd.{CallEnd}
use Rattle.onll_model.specs.Object.{Behaviour}
use Rattle.onll_model.specs.Calls.{updates_in}
use Rattle.onll_pmem.specs.Pmem.{DeviceView}
use Rattle.onll_shared.specs.Passes.{OnllView, PassView, IsTied}
use Rattle.onll_run.specs.Outcomes.{RunsSo, HasRoomFor, HasGoneOn}

module _ {State Op Query Reply Device : Type 0} (b : Behaviour State Op Query Reply) (means : Device → DeviceView)
    (onll : OnllView State) where
  -- A pass of the object that has ordered nothing, and has room for all updates of a script.
  pub record IsReadyPass (script : List (Call State Op Query Reply)) (pass : PassView State Device) : Type 0 where
    pub tied : IsTied b means onll pass
    pub own : pass.spot.me.own ≡ []
    pub whole : pass.broken ≡ None
    pub room : HasRoomFor means onll (updates_in script) pass

  -- A script was done on a pass: each call has its outcome.
  pub record HasWorked (script : List (Call State Op Query Reply)) (ends : List (CallEnd State Op Query Reply))
      (old new : PassView State Device) : Type 0 where
    pub tied : IsTied b means onll new
    pub runs : RunsSo b onll.first script ends new
    pub many : length ends ≡ length script
    pub gone_on : HasGoneOn means old new

  -- what a worker needs: its list of outcomes is empty, and has room for all
  pub record CanWork (script : List (Call State Op Query Reply)) (pass : PassView State Device)
      (ends : List (CallEnd State Op Query Reply)) (room : ℕ) : Type 0 where
    pub ready : IsReadyPass script pass
    pub empty : ends ≡ []
    pub many : length script ≤ room
