-- An object that is locked, worked on, and given back.
use Rattle.std.proofs.Common.{◌⊎◌, ℕ, List, [], ◌∷◌, ◌++◌, ◌≡◌, sym, subst, ◌∙◌, inl, inr}
use Rattle.std.specs.Prelude.{Option, codes}
use Rattle.onll_model.specs.declared.call.Call.{Call}
use Rattle.onll_model.specs.declared.call.CallEnd.{CallEnd}
use Rattle.onll_model.specs.Object.{Behaviour}
use Rattle.onll_pmem.specs.Pmem.{DeviceView}
use Rattle.onll_checkpoint.specs.Checkpoint.{CheckpointState}
use Rattle.onll_outside.specs.Views.{StoreView, SameFiles, SameOthers}
use Rattle.onll_open.specs.Files.{SameBut}
use Rattle.onll_open.proofs.Handing.{files_more}
use Rattle.onll_open.proofs.Locked.{not_the_lock}
use Rattle.onll_live.specs.declared.era.Era.{Era}
use Rattle.onll_live.specs.declared.fault.EraFault.{EraFault}
use Rattle.onll_live.specs.declared.fault.EraFault.TheVariants as eras
use Rattle.onll_live.specs.declared.fault.LiveFault.{LiveFault}
use Rattle.onll_live.specs.declared.fault.LiveFault.TheVariants as faults
use Rattle.onll_live.specs.declared.fault.NotLived.{NotLived}
use Rattle.onll_live.specs.declared.living.Lived.{Lived}
use Rattle.onll_live.specs.Beginning.{EntersEra, IsNextEra, IsToEnd, IsToGoOn, SameAreaFile}
use Rattle.onll_live.specs.Eras.{AreasGive, IsInEra, area_name, era_lock, number_of}
use Rattle.onll_live.specs.Faults.{CannotFind}
use Rattle.onll_live.specs.Living.{CannotServeEra, CannotLiveBy, HasLived, StopsInEra, StopsLater}
use Rattle.onll_live.proofs.Changes.{number_is, same_area, same_era}

-- ---- areas
areas_of_files : (old new : StoreView) (name : List ℕ) (a : ℕ) → SameFiles old new → SameAreaFile old new (area_name name a)
areas_of_files old new name a same = (same.tells, λ t. same.file (area_name name a))

-- an area is as it was before its object was locked
area_unlocked : (old new : StoreView) (name : List ℕ) (a : ℕ) → SameOthers (era_lock name) old new → SameAreaFile new old (area_name name a)
area_unlocked old new name a same = (sym same.tells, λ t. sym (same.file (area_name name a) (not_the_lock (name ++ codes ".era") a)))

areas_unlocked : (old new : StoreView) (name : List ℕ) (newest : Option CheckpointState) → SameOthers (era_lock name) old new → AreasGive new name newest → AreasGive old name newest
areas_unlocked old new name newest same g = record {
  even = g.even;
  odd = g.odd;
  even_given = same_area new old (area_name name 0) g.even (area_unlocked old new name 0 same) g.even_given;
  odd_given = same_area new old (area_name name 1) g.odd (area_unlocked old new name 1 same) g.odd_given;
  newest_is = g.newest_is;
}

module _ {State : Type 0} (read_of : List ℕ → Option State) (first : State) (name : List ℕ) where
  -- an era that is settled stays what it is
  pub settled_in : (old mid new : StoreView) (era : Era State) → SameFiles old mid
      → ((newest : Option CheckpointState) → AreasGive mid name newest → number_of newest ≡ era.number → AreasGive new name newest)
      → IsInEra read_of first old name era → IsInEra read_of first new name era
  settled_in old mid new era same kept i =
      let at_mid = same_era read_of first old mid name era (areas_of_files old mid name 0 same) (areas_of_files old mid name 1 same) i in
      record {
        newest = at_mid.newest;
        given = kept at_mid.newest at_mid.given (sym (number_is read_of first at_mid.newest era at_mid.era_is));
        era_is = at_mid.era_is;
      }

  pub era_unlocked : (old new : StoreView) (era : Era State) → SameOthers (era_lock name) old new → IsInEra read_of first new name era → IsInEra read_of first old name era
  era_unlocked old new era same i = same_era read_of first new old name era (area_unlocked old new name 0 same) (area_unlocked old new name 1 same) i

  find_unlocked : (old new : StoreView) (fault : EraFault) → SameOthers (era_lock name) old new → CannotFind read_of new name fault → CannotFind read_of old name fault
  find_unlocked old new (eras.BadState area) same h = (h.0, areas_unlocked old new name h.0 same h.1, h.2)
  find_unlocked old new (eras.NotRead area) same h = tt
  find_unlocked old new (eras.NotSettled area) same h = absurd h
  find_unlocked old new eras.NoMemory same h = tt

-- ---- files
-- the files of areas, and that of the lock
pub with_lock : (name : List ℕ) (old mid new : StoreView) → SameFiles old mid → SameBut (area_name name 0 ∷ area_name name 1 ∷ []) mid new
    → SameBut (era_lock name ∷ area_name name 0 ∷ area_name name 1 ∷ []) old new
with_lock name old mid new same others = record { tells = others.tells ∙ same.tells; file = λ other d. others.file other d.1 ∙ same.file other }

pub lock_first : (name : List ℕ) (old mid new : StoreView) → SameOthers (era_lock name) old mid → SameBut (era_lock name ∷ area_name name 0 ∷ area_name name 1 ∷ []) mid new
    → SameBut (era_lock name ∷ area_name name 0 ∷ area_name name 1 ∷ []) old new
lock_first name old mid new first then_ = record { tells = then_.tells ∙ first.tells; file = λ other d. then_.file other d ∙ first.file other d.0 }

lock_alone : (name : List ℕ) (old mid new : StoreView) → SameOthers (era_lock name) old mid → SameBut (era_lock name ∷ []) mid new → SameBut (era_lock name ∷ []) old new
lock_alone name old mid new first then_ = record { tells = then_.tells ∙ first.tells; file = λ other d. then_.file other d ∙ first.file other d.0 }

then_same : (names : List (List ℕ)) (old mid new : StoreView) → SameBut names old mid → SameFiles mid new → SameBut names old new
then_same names old mid new first same = record { tells = same.tells ∙ first.tells; file = λ other d. same.file other ∙ first.file other d }

-- where no file changed the object is in its era
pub era_of_files : {State : Type 0} (read_of : List ℕ → Option State) (first : State) (name : List ℕ) (old new : StoreView) (era : Era State)
    → SameFiles old new → IsInEra read_of first old name era → IsInEra read_of first new name era
era_of_files read_of first name old new era same i =
    same_era read_of first old new name era (areas_of_files old new name 0 same) (areas_of_files old new name 1 same) i

-- an era that is entered is the one in which the object then is
pub entered_in : {State Op Query Reply : Type 0} (b : Behaviour State Op Query Reply) (code : ℕ) (description : State → List ℕ)
    (read_of : List ℕ → Option State) (first : State) (name : List ℕ) (threads : ℕ) (old new : StoreView) (era next : Era State)
    → EntersEra b code description read_of first name threads old new era next → IsInEra read_of first old name era
    → IsInEra read_of first new name next
entered_in {State} b code description read_of first name threads old new era next h i = at h.2
  where
    at : ((new ≡ h.0) × (next ≡ era) × IsToGoOn b code description name threads old h.0 era)
        ⊎ ((were : ℕ) × IsToEnd b code description name threads old era were × IsNextEra b code description read_of first name were h.0 new era next)
        → IsInEra read_of first new name next
    at (inl s) =
        subst (λ (store : StoreView). IsInEra read_of first store name next) (sym s.0)
        (subst (λ (e : Era State). IsInEra read_of first h.0 name e) (sym s.1) (era_of_files read_of first name old h.0 era h.1 i))
    at (inr n) = n.2.in_next

-- ---- the whole
module _ {State Op Query Reply Device Work Answer : Type 0} (b : Behaviour State Op Query Reply) (means : Device → DeviceView)
    (promise : Work → Work → List (Call State Op Query Reply) → List (CallEnd State Op Query Reply) → Answer → Type 0)
    (code : ℕ) (description : State → List ℕ) (read_of : List ℕ → Option State) (first : State) (name : List ℕ)
    (old mid end new : StoreView) (locked : SameOthers (era_lock name) old mid) (given : SameFiles end new) (works : List Work) where
  pub has_lived : (lived : Lived State Device Work Answer Op Query Reply) → HasLived b means promise code description read_of first name mid end works lived
      → HasLived b means promise code description read_of first name old new works lived
  has_lived lived h = record {
    era = h.era;
    found = era_unlocked read_of first name old mid h.era locked h.found;
    start = h.start;
    others = lock_first name old mid h.start locked h.others;
    in_era = h.in_era;
    begin = h.begin;
    first_era = h.first_era;
    enters = h.enters;
    end = h.end;
    served = h.served;
    same = files_more h.end end new h.same given;
  }

  stops_later : (e : NotLived Work) → StopsLater b means promise code description read_of first name mid end works e
      → StopsLater b means promise code description read_of first name old new works e
  stops_later e h = record {
    era = h.era;
    found = era_unlocked read_of first name old mid h.era locked h.found;
    start = h.start;
    others = lock_first name old mid h.start locked h.others;
    in_era = h.in_era;
    begin = h.begin;
    first_era = h.first_era;
    enters = h.enters;
    end = h.end;
    back = h.back;
    same = files_more h.end end new h.same given;
  }

  stops_in_era : (e : NotLived Work) → StopsInEra b means promise code description read_of first name mid end works e
      → StopsInEra b means promise code description read_of first name old new works e
  stops_in_era e h = record {
    era = h.era;
    found = era_unlocked read_of first name old mid h.era locked h.found;
    start = h.start;
    others = lock_first name old mid h.start locked h.others;
    in_era = h.in_era;
    end = h.end;
    left = h.left;
    same = files_more h.end end new h.same given;
    works_are = h.works_are;
    eras_are = h.eras_are;
  }

  alone : SameBut (era_lock name ∷ []) mid end → SameBut (era_lock name ∷ []) old new
  alone h = then_same (era_lock name ∷ []) old end new (lock_alone name old mid end locked h) given

  pub cannot_live : (fault : LiveFault) (e : NotLived Work) → CannotLiveBy b means promise code description read_of first name fault mid end works e
      → CannotLiveBy b means promise code description read_of first name fault old new works e
  cannot_live faults.InUse e h = (alone h.0, h.1, h.2)
  cannot_live faults.NotLocked e h = (alone h.0, h.1, h.2)
  cannot_live (faults.NotFound fault) e h = ((alone h.0.0, h.0.1, h.0.2), find_unlocked read_of first name old mid fault locked h.1)
  cannot_live (faults.NotSettled fault) e h =
      let others = then_same (era_lock name ∷ area_name name 0 ∷ area_name name 1 ∷ []) old end new (lock_first name old mid end locked h.0.0) given in
      let era = h.1.0 in
      ((others, h.0.1, h.0.2), (era, era_unlocked read_of first name old mid era locked h.1.1, era_of_files read_of first name end new era given h.1.2))
  cannot_live (faults.NotServed fault) e h = stops_later e h
  cannot_live (faults.NotBegun fault) e (inl h) = inl (stops_in_era e h)
  cannot_live (faults.NotBegun fault) e (inr h) = inr (stops_later e h)
  cannot_live faults.NoMemory e (inl h) = inl (alone h.0, h.1, h.2)
  cannot_live faults.NoMemory e (inr h) = inr (stops_later e h)

module _ {State Op Query Reply Device Work Answer : Type 0} (b : Behaviour State Op Query Reply) (means : Device → DeviceView)
    (promise : Work → Work → List (Call State Op Query Reply) → List (CallEnd State Op Query Reply) → Answer → Type 0)
    (code : ℕ) (description : State → List ℕ) (read_of : List ℕ → Option State) (first : State) (name : List ℕ)
    (old new : StoreView) (works : List Work) where
  -- why works were handed back some eras later
  pub stops_by : (fault : LiveFault) (e : NotLived Work) (from to : StoreView) (next : Era State) (left : List Work)
      → CannotServeEra b means promise code description read_of first name from to next left fault
      → StopsLater b means promise code description read_of first name old new works e
      → CannotLiveBy b means promise code description read_of first name fault old new works e
  stops_by faults.InUse e from to next left c s = absurd c
  stops_by faults.NotLocked e from to next left c s = absurd c
  stops_by (faults.NotFound fault) e from to next left c s = absurd c
  stops_by (faults.NotSettled fault) e from to next left c s = absurd c
  stops_by (faults.NotServed fault) e from to next left c s = s
  stops_by (faults.NotBegun fault) e from to next left c s = inr s
  stops_by faults.NoMemory e from to next left c s = inr s
