-- What works did at an object over eras.
use Rattle.std.specs.Prelude.{ℕ, Bool, true, false, List, [], ◌∷◌, ◌≡◌, ◌⊎◌, ◌&&◌, length, Option, Some, None, Ok, Err, is_ok}
use Rattle.onll_model.specs.declared.call.Call.{Call}
use Rattle.onll_model.specs.declared.call.CallEnd.{CallEnd}
use Rattle.onll_model.specs.Object.{Behaviour}
use Rattle.onll_pmem.specs.Pmem.{DeviceView}
use Rattle.onll_outside.specs.Views.{StoreView, SameFiles}
use Rattle.onll_open.specs.Files.{SameBut}
use Rattle.onll_serve.specs.declared.service.Served.{Served}
use Rattle.onll_serve.specs.Serving.{CannotServe, HasServed}
use Rattle.onll_live.specs.declared.era.Era.{Era}
use Rattle.onll_live.specs.declared.fault.NextFault.{NextFault}
use Rattle.onll_live.specs.declared.fault.LiveFault.{LiveFault}
use Rattle.onll_live.specs.declared.fault.LiveFault.TheVariants as faults
use Rattle.onll_live.specs.declared.fault.NextFault.TheVariants as next
use Rattle.onll_live.specs.declared.fault.NotLived.{NotLived}
use Rattle.onll_live.specs.declared.living.Lived.{Lived}
use Rattle.onll_live.specs.declared.living.Turn.{Turn}
use Rattle.onll_live.specs.declared.living.Turn.TheVariants.{Last, Next, HandedBack}
use Rattle.onll_live.specs.Beginning.{EntersEra, EraStands, IsNextEra, MissesEra, StaysInEra, StaysOrBegins}
use Rattle.onll_live.specs.Causes.{NextCause, NextFaults, NextFences}
use Rattle.onll_live.specs.Faults.{CannotFind}
use Rattle.onll_live.specs.Eras.{IsInEra, area_name, era_heads, era_lock, era_logs}

-- a service in an era: the works before it, the store before and after it, and what it did
pub record EraService (State Device Work Answer Op Query Reply : Type 0) : Type 0 where
  pub era : Era State
  pub works : List Work
  pub before : StoreView
  pub after : StoreView
  pub served : Served State Device Work Answer Op Query Reply

-- the next era is to begin after a service: a seat was spent, and the logs were kept
abbrev pub wants_next : {State Device Work Answer Op Query Reply : Type 0} → Served State Device Work Answer Op Query Reply → Bool
wants_next served = served.spent && is_ok served.kept

module _ {State Op Query Reply Device Work Answer : Type 0} (b : Behaviour State Op Query Reply) (means : Device → DeviceView)
    (promise : Work → Work → List (Call State Op Query Reply) → List (CallEnd State Op Query Reply) → Answer → Type 0)
    (code : ℕ) (description : State → List ℕ) (read_of : List ℕ → Option State) (first : State) (name : List ℕ) where
  -- works were served in the era in which the object was
  pub record IsEraService (s : EraService State Device Work Answer Op Query Reply) : Type 0 where
    pub in_era : IsInEra read_of first s.before name s.era
    pub served : HasServed b means promise s.before (era_logs name s.era.number)
        (era_heads code description (length s.works) s.era.state) s.era.state s.works s.after s.served
    pub tells : s.after.tells ≡ s.before.tells

  -- one service in the era after another's, whose logs were kept, with the same works
  pub record GoesOnFrom (s t : EraService State Device Work Answer Op Query Reply) : Type 0 where
    pub begun : IsNextEra b code description read_of first name (length s.works) s.after t.before s.era t.era
    pub works : t.works ≡ s.served.works.items
    pub kept : s.served.kept ≡ Ok tt
    pub on : wants_next s.served ≡ true

  -- services in eras, the newest first
  abbrev pub AreEraServices : List (EraService State Device Work Answer Op Query Reply) → Type 0
  AreEraServices [] = Unit {0}
  AreEraServices (s ∷ []) = IsEraService s
  AreEraServices (t ∷ (s ∷ earlier)) = IsEraService t × GoesOnFrom s t × AreEraServices (s ∷ earlier)

  -- the oldest of services began in this era, over such a store, with these works
  abbrev pub BeganWith : StoreView → Era State → List Work → List (EraService State Device Work Answer Op Query Reply) → Type 0
  BeganWith start era works [] = Unit {0}
  BeganWith start era works (s ∷ []) = (s.before ≡ start) × (s.era ≡ era) × (s.works ≡ works)
  BeganWith start era works (t ∷ (s ∷ earlier)) = BeganWith start era works (s ∷ earlier)

  -- The next era was to begin after a service, and that was refused, for this cause.
  pub record RefusesNext (s : EraService State Device Work Answer Op Query Reply) (fault : NextFault) (new : StoreView) : Type 0 where
    pub on : wants_next s.served ≡ true
    pub left : StaysOrBegins b code description read_of first name (length s.works) s.after new s.era
    pub stands : EraStands fault → StaysInEra read_of first name s.after new s.era
    pub cause : NextCause b code description name (length s.works) {T = Era State} s.after s.era (Err fault)
    pub faults : NextFaults {T = Era State} name s.era.number (length s.works) s.after new (Err fault)
    pub fences : NextFences {T = Era State} s.after.device_faults new.device_faults (Err fault)

  -- What is left after the last service: no next era was to begin, and no file changed; or it was, and was refused.
  abbrev pub EndsEra : EraService State Device Work Answer Op Query Reply → Option NextFault → StoreView → Type 0
  EndsEra s None new = (new ≡ s.after) × (wants_next s.served ≡ false)
  EndsEra s (Some fault) new = RefusesNext s fault new

  -- Works were served in one era after the other, from this one on, until no next era was to begin, or it was refused.
  pub record WereServed (start new : StoreView) (era : Era State) (works : List Work)
      (lived : Lived State Device Work Answer Op Query Reply) : Type 0 where
    pub earlier : List (EraService State Device Work Answer Op Query Reply)
    pub last : EraService State Device Work Answer Op Query Reply
    pub services : AreEraServices (last ∷ earlier)
    pub began : BeganWith start era works (last ∷ earlier)
    pub served_is : lived.served ≡ last.served
    pub era_is : lived.era ≡ last.era.number
    pub place_is : lived.place ≡ last.era.place
    pub ends : EndsEra last lived.fault new

  -- what is so far left after services: the works that are to be served next, in this era
  abbrev pub ComesTo : List (EraService State Device Work Answer Op Query Reply) → (start now : StoreView) (first_era era : Era State)
      → (first_works works : List Work) → Type 0
  ComesTo [] start now first_era era first_works works = (now ≡ start) × (era ≡ first_era) × (works ≡ first_works)
  ComesTo (s ∷ earlier) start now first_era era first_works works =
      IsNextEra b code description read_of first name (length s.works) s.after now s.era era × (works ≡ s.served.works.items)
      × (s.served.kept ≡ Ok tt) × (wants_next s.served ≡ true)

  -- Works have come so far over eras, from this one on, and are to be served in another.
  pub record HaveComeTo (start now : StoreView) (first_era era : Era State) (first_works works : List Work) : Type 0 where
    pub services : List (EraService State Device Work Answer Op Query Reply)
    pub are : AreEraServices services
    pub began : BeganWith start first_era first_works services
    pub comes : ComesTo services start now first_era era first_works works

  -- why works weren't served in an era, and what that leaves of the store
  abbrev pub CannotServeEra : StoreView → StoreView → Era State → List Work → LiveFault → Type 0
  CannotServeEra old new era works (faults.NotServed fault) = CannotServe b (era_logs name era.number)
      (era_heads code description (length works) era.state) (length works) old new fault
  CannotServeEra old new era works (faults.NotBegun next.AtItsEnd) = new ≡ old
  CannotServeEra old new era works faults.NoMemory = new ≡ old
  CannotServeEra old new era works fault = ⊥

  -- Works that were handed back after so many eras, since they weren't served in the next.
  pub record WereHandedBack (start new : StoreView) (era : Era State) (works : List Work) (e : NotLived Work) : Type 0 where
    pub now : StoreView
    pub next : Era State
    pub came : HaveComeTo start now era next works e.works.items
    pub eras : e.eras ≡ length came.services
    pub cause : CannotServeEra now new next e.works.items e.fault

  -- what came of a service in an era
  abbrev pub TurnsOut : StoreView → StoreView → Era State → List Work → Turn State Device Work Answer Op Query Reply → Type 0
  TurnsOut old new era works (Last lived) = (after : StoreView)
      × IsEraService (record { era = era; works = works; before = old; after = after; served = lived.served })
      × (lived.era ≡ era.number) × (lived.place ≡ era.place)
      × EndsEra (record { era = era; works = works; before = old; after = after; served = lived.served }) lived.fault new
  TurnsOut old new era works (Next next more) = (after : StoreView) × (served : Served State Device Work Answer Op Query Reply)
      × IsEraService (record { era = era; works = works; before = old; after = after; served = served })
      × IsNextEra b code description read_of first name (length works) after new era next × (more.items ≡ served.works.items)
      × (served.kept ≡ Ok tt) × (wants_next served ≡ true)
  TurnsOut old new era works (HandedBack e) = (e.works.items ≡ works) × CannotServeEra old new era works e.fault

  -- The object was found in an era over its files, which was made durable; where a log of it was full the next one was begun; works were
  -- served in it and those after it; and the object was given back.
  pub record HasLived (old new : StoreView) (works : List Work) (lived : Lived State Device Work Answer Op Query Reply) : Type 0 where
    pub era : Era State
    pub found : IsInEra read_of first old name era
    pub start : StoreView
    pub others : SameBut (era_lock name ∷ area_name name 0 ∷ area_name name 1 ∷ []) old start
    pub in_era : IsInEra read_of first start name era
    pub begin : StoreView
    pub first_era : Era State
    pub enters : EntersEra b code description read_of first name (length works) start begin era first_era
    pub end : StoreView
    pub served : WereServed begin end first_era works lived
    pub same : SameFiles end new

  -- The object was found in an era over its files, which was made durable, and works were handed back some eras later.
  pub record StopsLater (old new : StoreView) (works : List Work) (e : NotLived Work) : Type 0 where
    pub era : Era State
    pub found : IsInEra read_of first old name era
    pub start : StoreView
    pub others : SameBut (era_lock name ∷ area_name name 0 ∷ area_name name 1 ∷ []) old start
    pub in_era : IsInEra read_of first start name era
    pub begin : StoreView
    pub first_era : Era State
    pub enters : EntersEra b code description read_of first name (length works) start begin era first_era
    pub end : StoreView
    pub back : WereHandedBack begin end first_era works e
    pub same : SameFiles end new

  -- The object was found in an era of which a log was full, and the next one wasn't begun.
  pub record StopsInEra (old new : StoreView) (works : List Work) (e : NotLived Work) : Type 0 where
    pub era : Era State
    pub found : IsInEra read_of first old name era
    pub start : StoreView
    pub others : SameBut (era_lock name ∷ area_name name 0 ∷ area_name name 1 ∷ []) old start
    pub in_era : IsInEra read_of first start name era
    pub end : StoreView
    pub left : MissesEra b code description read_of first name (length works) start end era
    pub same : SameFiles end new
    pub works_are : e.works.items ≡ works
    pub eras_are : e.eras ≡ 0

  -- nothing was done, and no file changed but perhaps these
  abbrev pub StopsAtOnce : List (List ℕ) → StoreView → StoreView → List Work → NotLived Work → Type 0
  StopsAtOnce names old new works e = SameBut names old new × (e.works.items ≡ works) × (e.eras ≡ 0)

  -- why an object didn't go on, by its fault
  abbrev pub CannotLiveBy : LiveFault → StoreView → StoreView → List Work → NotLived Work → Type 0
  CannotLiveBy faults.InUse old new works e = StopsAtOnce (era_lock name ∷ []) old new works e
  CannotLiveBy faults.NotLocked old new works e = StopsAtOnce (era_lock name ∷ []) old new works e
  CannotLiveBy (faults.NotFound fault) old new works e =
      StopsAtOnce (era_lock name ∷ []) old new works e × CannotFind read_of old name fault
  CannotLiveBy (faults.NotSettled fault) old new works e =
      StopsAtOnce (era_lock name ∷ area_name name 0 ∷ area_name name 1 ∷ []) old new works e
      × ((era : Era State) × IsInEra read_of first old name era × IsInEra read_of first new name era)
  CannotLiveBy (faults.NotServed fault) old new works e = StopsLater old new works e
  CannotLiveBy (faults.NotBegun fault) old new works e = StopsInEra old new works e ⊎ StopsLater old new works e
  CannotLiveBy faults.NoMemory old new works e = StopsAtOnce (era_lock name ∷ []) old new works e ⊎ StopsLater old new works e

  abbrev pub CannotLive : StoreView → StoreView → List Work → NotLived Work → Type 0
  CannotLive old new works e = CannotLiveBy e.fault old new works e

-- why an object wasn't locked
abbrev pub IsLockFault : LiveFault → Type 0
IsLockFault faults.InUse = Unit {0}
IsLockFault faults.NotLocked = Unit {0}
IsLockFault faults.NoMemory = Unit {0}
IsLockFault fault = ⊥
