-- How a `checkpoint` ends where a fence fails, or a file can't be made.

use Rattle.std.specs.Prelude.{ℕ, ◌≡◌, ◌<◌, ◌⊎◌, List, Some}
use Rattle.onll_outside.specs.Views.{StoreView, SameFaults, Rose, counted}
use Rattle.onll_outside.specs.declared.store.FaultKind.{FaultKind}
use Rattle.onll_outside.specs.declared.store.FaultKind.TheVariants as kinds
use Rattle.onll_task.specs.declared.ending.Ending.TheVariants.{WriteFault, Faulty}
use Rattle.onll_task.specs.Job.{JobEnds}
use Rattle.onll_task.specs.Printed.{write_fault_text}
use Rattle.onll_eras.specs.EraJob.{header_said, area_said}
use Rattle.onll_eras.specs.Laws.{checkpoint_job}
use Rattle.onll_eras.specs.Names.{EraNames}

-- The line of a fence that failed: of the header of a thread's log, or of an area.
abbrev pub SaysFence : (threads : ℕ) (said : List ℕ) → Type 0
SaysFence threads said =
    ((t : ℕ) × (t < threads) × (said ≡ header_said t)) ⊎ ((area : ℕ) × (area < 2) × (said ≡ area_said area))

-- A fence failed, of a device that was given up and counted; no call of the store failed.
pub record HasFenceFault (store after : StoreView) (threads : ℕ) (said : List ℕ) : Type 0 where
  pub line : SaysFence threads said
  pub calls : SameFaults store after
  pub faults : after.device_faults ≡ counted store.device_faults 1

abbrev pub FenceFaultLaw : Type 0
FenceFaultLaw = (store after : StoreView) (names : EraNames) (threads : ℕ) (said : List ℕ)
    → JobEnds store after (checkpoint_job names threads) Faulty said → HasFenceFault store after threads said

-- the calls that make a file
abbrev pub Makes : FaultKind → Type 0
Makes kind = (kind ≡ kinds.Device) ⊎ (kind ≡ kinds.Keep) ⊎ (kind ≡ kinds.Write)

-- a call that makes a file of this name failed, the store's last that did, and its line is said
pub record HasFileFault (store after : StoreView) (said : List ℕ) : Type 0 where
  pub kind : FaultKind
  pub name : List ℕ
  pub makes : Makes kind
  pub line : said ≡ write_fault_text name
  pub rose : Rose store.faults after.faults
  pub last : after.last ≡ Some (record { kind = kind; name = name })

abbrev pub FileFaultLaw : Type 0
FileFaultLaw = (store after : StoreView) (names : EraNames) (threads : ℕ) (said : List ℕ)
    → JobEnds store after (checkpoint_job names threads) WriteFault said → HasFileFault store after said
