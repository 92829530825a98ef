-- Why the next era of an object wasn't begun, by what the calls below refused.
use Rattle.std.proofs.Common.{ℕ, List, [], ◌∷◌, ◌≡◌, ◌+◌, ◌%◌, ◌<◌, ◌≤◌, ◌^◌, ◌⊎◌, inl, inr, sym, ◌∙◌, subst, length}
use Rattle.std.specs.Prelude.{Result, Ok, Err}
use Rattle.onll_model.specs.Limits.{most_threads}
use Rattle.onll_model.specs.Object.{Behaviour}
use Rattle.onll_merge.specs.Recovered.{Recovered}
use Rattle.onll_outside.specs.Views.{StoreView, Rose, SameDevices, SameFaults, SameOthers}
use Rattle.onll_outside.specs.declared.OutsideFault.TheVariants.{Failed, NoMemory}
use Rattle.onll_areas.specs.declared.fault.KeepFault.{KeepFault}
use Rattle.onll_areas.specs.declared.fault.KeepFault.TheVariants.{Outside, FenceFailed}
use Rattle.onll_areas.specs.Keeping.{KeepEnds}
use Rattle.onll_open.specs.declared.fault.FilesFault.{FilesFault}
use Rattle.onll_open.specs.declared.fault.FilesFault.TheVariants as files
use Rattle.onll_open.specs.Files.{SameBut}
use Rattle.onll_open.specs.Locking.{AreFree, GivesBack}
use Rattle.onll_open.specs.Names.{log_lock_name, log_names}
use Rattle.onll_open.specs.Opening.{FilesGive, FilesRefuse, RecoverFaults}
use Rattle.onll_open.proofs.Handing.{faults_more}
use Rattle.onll_live.specs.declared.era.Era.{Era}
use Rattle.onll_live.specs.declared.fault.NextFault.{NextFault}
use Rattle.onll_live.specs.declared.fault.NextFault.TheVariants as faults
use Rattle.onll_live.specs.Beginning.{AreaNotKept, BeginFaults, ClearFaults}
use Rattle.onll_live.specs.Causes.{HasNext, NextCause, NextFaults, NextFences, NextLocks, changed_files, files_of_era, next_files}
use Rattle.onll_live.specs.Eras.{era_heads, era_logs}
use Rattle.onll_live.specs.Refusals.{of_files, of_keep}

-- ---- fences
-- no device was handed back where logs were emptied
pub clear_fences : (fault : NextFault) (logs : List ℕ) (old new : StoreView) → ClearFaults logs old new (Err fault) → SameDevices old new
    → NextFences {T = Unit {0}} old.device_faults new.device_faults (Err fault)
clear_fences (faults.Files fault) logs old new h d = absurd h
clear_fences faults.AtItsEnd logs old new h d = absurd h
clear_fences (faults.NotCleared thread) logs old new h d = inl d.0
clear_fences (faults.NotKept area) logs old new h d = absurd h
clear_fences (faults.FenceFailed area) logs old new h d = absurd h
clear_fences faults.NoMemory logs old new h d = inl d.0

pub keep_fences : (fault : KeepFault) (area : ℕ) (file : List ℕ) (lines : List (List ℕ)) (store after : StoreView) → KeepEnds store after file lines 2 (Err fault)
    → NextFences {T = Unit {0}} store.device_faults after.device_faults (Err (of_keep area fault))
keep_fences (Outside Failed) area file lines store after (inl d) = inl d.devices.0
keep_fences (Outside Failed) area file lines store after (inr d) = inr d.faults
keep_fences (Outside NoMemory) area file lines store after d = d.faults
keep_fences FenceFailed area file lines store after d = d.faults

-- none was handed back before
pub fences_since : (old mid new : ℕ) (result : Result (Unit {0}) NextFault) → mid ≡ old → NextFences mid new result → NextFences old new result
fences_since old mid new result e h = subst (λ (n : ℕ). NextFences n new result) e h

-- ---- files
module _ (name : List ℕ) (number : ℕ) (old mid new : StoreView) where
  pub cleared_files : SameBut (log_names (era_logs name number) 0 most_threads) old new → SameBut (files_of_era name number) old new
  cleared_files same = record { tells = same.tells; file = λ other d. same.file other d.1 }

  pub saved_files : SameBut (log_names (era_logs name number) 0 most_threads) old mid → SameOthers (era_logs name number) mid new → SameBut (files_of_era name number) old new
  saved_files first then_ = record { tells = then_.tells ∙ first.tells; file = λ other d. then_.file other d.0 ∙ first.file other d.1 }

  only_its_lock : SameBut (log_lock_name (era_logs name number) ∷ []) old new → SameBut (next_files name number) old new
  only_its_lock same = record { tells = same.tells; file = λ other d. same.file other (d.0, tt) }

  pub lock_changed : (fault : FilesFault) → SameBut (log_lock_name (era_logs name number) ∷ []) old new
      → SameBut (changed_files {T = Unit {0}} name number (Err (of_files fault))) old new
  lock_changed files.InUse same = same
  lock_changed files.NotLocked same = same
  lock_changed (files.NotLog log) same = same
  lock_changed (files.OldFormat log) same = same
  lock_changed (files.Threads were) same = same
  lock_changed (files.Gone log) same = same
  lock_changed (files.NotOneRun fault) same = same
  lock_changed (files.NotOperation place) same = same
  lock_changed (files.NotRead thread) same = same
  lock_changed files.NoMemory same = only_its_lock same

  pub and_then_files : (next : ℕ) → next ≡ number + 1 → SameBut (log_lock_name (era_logs name number) ∷ []) old mid → SameBut (files_of_era name next) mid new
      → SameBut (next_files name number) old new
  and_then_files next after first then_ =
      let here = subst (λ (n : ℕ). SameBut (files_of_era name n) mid new) after then_ in
      record { tells = here.tells ∙ first.tells; file = λ other d. here.file other d.1 ∙ first.file other (d.0, tt) }

-- no more than those of the next era are changed where these were begun
pub begun_changed : (fault : NextFault) (name : List ℕ) (number next : ℕ) (old new : StoreView) → BeginFaults name next old new (Err fault)
    → (mid : StoreView) → SameBut (next_files name number) mid new → SameBut (changed_files {T = Unit {0}} name number (Err fault)) mid new
begun_changed (faults.Files fault) name number next old new h mid same = absurd h
begun_changed faults.AtItsEnd name number next old new h mid same = absurd h
begun_changed (faults.NotCleared thread) name number next old new h mid same = same
begun_changed (faults.NotKept area) name number next old new h mid same = same
begun_changed (faults.FenceFailed area) name number next old new h mid same = same
begun_changed faults.NoMemory name number next old new h mid same = same

-- ---- the next era
module _ {State Op Query Reply : Type 0} (b : Behaviour State Op Query Reply) (code : ℕ) (description : State → List ℕ) (name : List ℕ) (threads : ℕ)
    (old new : StoreView) (era : Era State) (locked after : List (List ℕ)) where
  -- all that is said of a refusal
  abbrev pub Refuses : NextFault → Type 0
  Refuses fault = NextCause b code description name threads {T = Unit {0}} old era (Err fault) × NextFaults {T = Unit {0}} name era.number threads old new (Err fault)
      × NextFences {T = Unit {0}} old.device_faults new.device_faults (Err fault) × NextLocks {T = Unit {0}} old (era_logs name era.number) locked after (Err fault)

  -- what it is of files that give nothing
  files_refused : (fault : FilesFault) → FilesRefuse b old (era_logs name era.number) (era_heads code description threads era.state) fault
      → RecoverFaults {T = Unit {0}} (era_logs name era.number) threads old new (Err fault) → GivesBack {T = Unit {0}} old (era_logs name era.number) locked after (Err fault)
      → SameDevices old new → Refuses (of_files fault)
  files_refused files.InUse h f l d = (h, f, inl d.0, l)
  files_refused files.NotLocked h f l d = (h, f, inl d.0, l)
  files_refused (files.NotLog log) h f l d = (h, f, inl d.0, l)
  files_refused (files.OldFormat log) h f l d = (h, f, inl d.0, l)
  files_refused (files.Threads were) h f l d = (h, f, inl d.0, l)
  files_refused (files.Gone log) h f l d = (h, f, inl d.0, l)
  files_refused (files.NotOneRun fault) h f l d = (h, f, inl d.0, l)
  files_refused (files.NotOperation place) h f l d = (h, f, inl d.0, l)
  files_refused (files.NotRead thread) h f l d = (h, f, inl d.0, l)
  files_refused files.NoMemory h f l d = (tt, f, inl d.0, tt)

  pub not_given : (logs : List ℕ) (fault : FilesFault) → logs ≡ era_logs name era.number → FilesRefuse b old logs (era_heads code description threads era.state) fault
      → RecoverFaults {T = Unit {0}} logs threads old new (Err fault) → GivesBack {T = Unit {0}} old logs locked after (Err fault) → SameDevices old new → Refuses (of_files fault)
  not_given logs fault e h f l d = files_refused fault (subst (λ (n : List ℕ). FilesRefuse b old n (era_heads code description threads era.state) fault) e h)
      (subst (λ (n : List ℕ). RecoverFaults {T = Unit {0}} n threads old new (Err fault)) e f) (subst (λ (n : List ℕ). GivesBack {T = Unit {0}} old n locked after (Err fault)) e l) d

  module _ (found : Recovered) (updates : ℕ) (given : FilesGive b old (era_logs name era.number) (era_heads code description threads era.state) (Ok found))
      (many : updates ≡ length found.nodes) where
    pub next_fits : (era.number + 1 < 2 ^ 64) × (era.place + updates < 2 ^ 64) → HasNext b code description name threads old era
    next_fits fits = record { found = found; given = given; number_fits = fits.0; place_fits = subst (λ (n : ℕ). era.place + n < 2 ^ 64) many fits.1 }

    at_its_end : (2 ^ 64 ≤ era.number + 1) ⊎ (2 ^ 64 ≤ era.place + updates) → (2 ^ 64 ≤ era.number + 1) ⊎ (2 ^ 64 ≤ era.place + length found.nodes)
    at_its_end (inl h) = inl h
    at_its_end (inr h) = inr (subst (λ (n : ℕ). 2 ^ 64 ≤ era.place + n) many h)

    -- what it is of an era after which there is none
    pub none_after : (2 ^ 64 ≤ era.number + 1) ⊎ (2 ^ 64 ≤ era.place + updates) → SameFaults old new → SameDevices old new
        → AreFree old (era_logs name era.number) locked × AreFree old (era_logs name era.number) after → Refuses faults.AtItsEnd
    none_after ends f d l = (record { found = found; given = given; at_end = at_its_end ends }, f, inl d.0, l)

  -- what it is of a next era that isn't begun
  not_written : (fault : NextFault) (mid : StoreView) → HasNext b code description name threads old era → SameFaults old mid → AreFree old (era_logs name era.number) locked
      → BeginFaults name (era.number + 1) mid new (Err fault) → NextFences {T = Unit {0}} old.device_faults new.device_faults (Err fault) → Refuses fault
  not_written (faults.Files fault) mid n same free h f = absurd h
  not_written faults.AtItsEnd mid n same free h f = absurd h
  not_written (faults.NotCleared thread) mid n same free (inl h) f =
      (n, inl (record { within = h.within; rose = subst (λ (k : ℕ). Rose k new.faults) same.0 h.rose; last = h.last }), f, free)
  not_written (faults.NotCleared thread) mid n same free (inr h) f =
      (n, inr (record { within = h.within; rose = subst (λ (k : ℕ). Rose k new.faults) same.0 h.rose; last = h.last }), f, free)
  not_written (faults.NotKept area) mid n same free h f =
      let here : AreaNotKept name ((era.number + 1) % 2) old new = record { rose = subst (λ (k : ℕ). Rose k new.faults) same.0 h.1.rose; last = h.1.last } in
      (n, (h.0, subst (λ (a : ℕ). AreaNotKept name a old new) (sym h.0) here), f, free)
  not_written (faults.FenceFailed area) mid n same free h f = (n, (h.0, faults_more old mid new same h.1), f, free)
  not_written faults.NoMemory mid n same free h f = (tt, faults_more old mid new same h, f, tt)

  pub not_begun : (fault : NextFault) (mid : StoreView) (next : ℕ) → next ≡ era.number + 1 → HasNext b code description name threads old era → SameFaults old mid
      → SameDevices old mid → (logs : List ℕ) → logs ≡ era_logs name era.number → AreFree old logs locked → BeginFaults name next mid new (Err fault)
      → NextFences {T = Unit {0}} mid.device_faults new.device_faults (Err fault) → Refuses fault
  not_begun fault mid next is n same devices logs named free h f =
      not_written fault mid n same (subst (λ (l : List ℕ). AreFree old l locked) named free) (subst (λ (k : ℕ). BeginFaults name k mid new (Err fault)) is h)
      (subst (λ (k : ℕ). NextFences {T = Unit {0}} k new.device_faults (Err fault)) devices.0 f)
