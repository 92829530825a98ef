-- An object over eras where the beginning of its next era was cut, or has ended.
use Rattle.std.specs.Prelude.{ℕ, List, [], ◌∷◌, ◌≡◌, ◌⊎◌, true, Option, None}
use Rattle.onll_model.specs.Object.{Behaviour}
use Rattle.onll_outside.specs.Views.{StoreView}
use Rattle.onll_areas.specs.Newest.{AreaHolds}
use Rattle.onll_open.specs.Files.{SameBut}
use Rattle.onll_open.specs.Names.{log_lock_name}
use Rattle.onll_live.specs.declared.era.Era.{Era}
use Rattle.onll_live.specs.Beginning.{EraHasBegun, IsNextEra, OthersOfEra, SameAreaFile, StaysOrBegins, next_of}
use Rattle.onll_live.specs.Eras.{HoldObject, era_logs}

module _ {State : Type 0} (read_of : List ℕ → Option State) (name : List ℕ) where
  -- The beginning of the next era was cut. The logs of the era before it were locked, or not yet. Then no file changed but perhaps those
  -- of the next era's logs, which hold anything, and that of its area. This one is as it was, or holds no checkpoint, or the next era has
  -- begun.
  pub record IsEraCut (old new : StoreView) (era next : Era State) : Type 0 where
    pub locked : StoreView
    pub lock : SameBut (log_lock_name (era_logs name era.number) ∷ []) old locked
    pub others : OthersOfEra (era_logs name next.number) locked new
    pub area : SameAreaFile locked new (era_logs name next.number) ⊎ AreaHolds new (era_logs name next.number) None
        ⊎ EraHasBegun read_of new name next

module _ {State Op Query Reply : Type 0} (b : Behaviour State Op Query Reply) where
  -- Files that hold an object hold it after as many updates, and in the same state, wherever the beginning of its next era was cut.
  abbrev pub EraCutLaw : Type 0
  EraCutLaw = (code : ℕ) (description : State → List ℕ) (read_of : List ℕ → Option State) (first : State) (name : List ℕ) (threads : ℕ)
      (old new : StoreView) (place : ℕ) (state : State) → old.tells ≡ true
      → (h : HoldObject b code description read_of first name threads old place state)
      → IsEraCut read_of name old new h.era (next_of b h.era h.found.nodes)
      → HoldObject b code description read_of first name threads new place state

  -- The same where the next era has begun, and where that was refused.
  abbrev pub EraStandsLaw : Type 0
  EraStandsLaw = (code : ℕ) (description : State → List ℕ) (read_of : List ℕ → Option State) (first : State) (name : List ℕ) (threads : ℕ)
      (old new : StoreView) (place : ℕ) (state : State) → old.tells ≡ true
      → (h : HoldObject b code description read_of first name threads old place state)
      → ((next : Era State) × IsNextEra b code description read_of first name threads old new h.era next)
      ⊎ StaysOrBegins b code description read_of first name threads old new h.era
      → HoldObject b code description read_of first name threads new place state
