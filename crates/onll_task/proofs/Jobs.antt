use Rattle.std.proofs.Common.{ℕ, Bool, true, false, List, ◌≡◌, ◌⊎◌, inl, inr, Result, Ok, Err, refl, sym, ap, ◌∙◌, subst, arith, true≢false, ⊎_elim, cond, Option, Some}
use Rattle.std.proofs.lemmas.Bool.{cases_Bool}
use Rattle.std.proofs.lemmas.Slice.Eq.{bytes_eq-Decides}
use Rattle.std.specs.Str.{bytes_eq}
use Rattle.onll_outside.specs.Views.{StoreView, SameFiles, SameFaults, Rose, FileHolds, counted, image_bytes}
use Rattle.onll_areas.specs.Keeping.{OthersStay, DeviceNotMade, DeviceNotKept, HasKeptLines}
use Rattle.onll_text.specs.Refusal.{Refusal}
use Rattle.onll_task.specs.declared.ending.Ending.{Ending}
use Rattle.onll_task.specs.declared.ending.Ending.TheVariants.{Done, Usage, Refused, BadLog, ReadFault, WriteFault, Faulty, Judged}
use Rattle.onll_task.specs.Reading.{FileIsTold, RefusesFile, Unread, CannotRead}
use Rattle.onll_text.specs.Kinds.{ObjectKind, kind_at}
use Rattle.onll_task.specs.Running.{RunPlan, RunLeft, RunStops}
use Rattle.onll_task.specs.Writing.{FilesStay, CannotWrite, written}
use Rattle.onll_open.specs.Files.{SameCounts}
use Rattle.onll_task.specs.Keeps.{KeepStops}
use Rattle.onll_task.specs.Job.{Job, Say, Read, Write, Keep, Assured, Threads, JobEnds, DecidesWhere, Decides, on_value, reading, reading_whole}

-- how the reading of a file ends a call; a text that is refused was read
abbrev pub Stops : {A : Type 0} → StoreView → StoreView → (List ℕ → Result A Refusal) → List ℕ → Ending → List ℕ → Type 0
Stops store after grammar name Refused text = RefusesFile store grammar name text × SameCounts store after
Stops store after grammar name ReadFault text = Unread store after name text
Stops store after grammar name ending text = ⊥

-- the job never ends so; with the fault of a fence a device may that is kept, and a run
abbrev pub Never : Ending → Job → Type 0
Never ending (Say e t) = e ≡ ending → ⊥
Never ending (Read name next) = (bytes : List ℕ) → Never ending (next bytes)
Never ending (Write name bytes next) = Never ending next
Never ending (Keep name lines fences said next) = (ending ≡ Faulty → ⊥) × Never ending next
Never ending (Assured b next) = Never ending next
Never ending (Threads kind plan next) = (ending ≡ Faulty → ⊥) × ((left : RunLeft (kind_at kind)) → Never ending (next left))

-- a told file holds its bytes alone
pub held_bytes : (store : StoreView) (name bytes found : List ℕ) → FileIsTold store name bytes → FileHolds store name found → found ≡ bytes
held_bytes store name bytes found told held = let e = held told.tells in let f = told.file in cc

pub cannot : (store after : StoreView) (name : List ℕ) (ending : Ending) (text : List ℕ) → CannotRead store after name ending text → Rose store.faults after.faults
cannot store after name Done text h = absurd h
cannot store after name Usage text h = absurd h
cannot store after name Refused text h = absurd h
cannot store after name BadLog text h = absurd h
cannot store after name ReadFault text h = h.rose
cannot store after name WriteFault text h = absurd h
cannot store after name Faulty text h = absurd h
cannot store after name Judged text h = absurd h

cannot_write : (store after : StoreView) (name : List ℕ) (ending : Ending) (text : List ℕ) → CannotWrite store after name ending text → Rose store.faults after.faults
cannot_write store after name Done text h = absurd h
cannot_write store after name Usage text h = absurd h
cannot_write store after name Refused text h = absurd h
cannot_write store after name BadLog text h = absurd h
cannot_write store after name ReadFault text h = absurd h
cannot_write store after name WriteFault text h = h.failed.rose
cannot_write store after name Faulty text h = absurd h
cannot_write store after name Judged text h = absurd h

-- a device can't be kept only where a call of the store failed, or a fence
not_kept_rose : (store after : StoreView) (name : List ℕ) (lines : List (List ℕ)) (fences : ℕ) → DeviceNotMade store after name ⊎ DeviceNotKept store after name lines fences → Rose store.faults after.faults
not_kept_rose store after name lines fences (inl h) = h.rose
not_kept_rose store after name lines fences (inr h) = h.rose

keep_stops_rose : (store after : StoreView) (name : List ℕ) (lines : List (List ℕ)) (fences : ℕ) (said : List ℕ) (ending : Ending) (text : List ℕ) → KeepStops store after name lines fences said ending text
    → Rose store.faults after.faults ⊎ (after.device_faults ≡ counted store.device_faults 1)
keep_stops_rose store after name lines fences said Done text h = absurd h
keep_stops_rose store after name lines fences said Usage text h = absurd h
keep_stops_rose store after name lines fences said Refused text h = absurd h
keep_stops_rose store after name lines fences said BadLog text h = absurd h
keep_stops_rose store after name lines fences said ReadFault text h = absurd h
keep_stops_rose store after name lines fences said WriteFault text h = inl (not_kept_rose store after name lines fences h.1)
keep_stops_rose store after name lines fences said Faulty text h = inr h.1.faults
keep_stops_rose store after name lines fences said Judged text h = absurd h

-- files that stay stay where the same bytes are made one of them
pub written_stays : (store mid : StoreView) (name bytes : List ℕ) → FilesStay store mid → FilesStay (written store name bytes) (written mid name bytes)
written_stays store mid name bytes h = record { tells = h.tells; file = λ tells other. ap (λ o. cond {A = Option (List ℕ)} (bytes_eq other name) (Some bytes) o) (h.file tells other) }

-- a file that has these bytes, where no other changed, is as if they were written
pub leaves_written : (old new : StoreView) (name bytes : List ℕ) → (old.tells ≡ true → new.file name ≡ Some bytes) → OthersStay name old new → FilesStay (written old name bytes) new
leaves_written old new name bytes held others = record { tells = others.tells; file = each }
  where
    each : old.tells ≡ true → (other : List ℕ) → new.file other ≡ cond {A = Option (List ℕ)} (bytes_eq other name) (Some bytes) (old.file other)
    each tells other = ⊎_elim
        (λ (t : bytes_eq other name ≡ true). ap new.file ((bytes_eq-Decides other name).0 t) ∙ held tells ∙ sym (ap (λ b. cond {A = Option (List ℕ)} b (Some bytes) (old.file other)) t))
        (λ (t : bytes_eq other name ≡ false). others.file tells other (λ e. true≢false (sym ((bytes_eq-Decides other name).1 e) ∙ t)) ∙ sym (ap (λ b. cond {A = Option (List ℕ)} b (Some bytes) (old.file other)) t))
        (cases_Bool (bytes_eq other name))

kept_writes : (store kept : StoreView) (name : List ℕ) (lines : List (List ℕ)) (fences : ℕ) → HasKeptLines store kept name lines fences → FilesStay (written store name (image_bytes lines)) kept
kept_writes store kept name lines fences h = leaves_written store kept name (image_bytes lines) h.file h.others

counted_once : (n : ℕ) → counted (counted n 0) 1 ≡ counted n 1
counted_once n = omega arith

-- what the told files of a store decide, those of one with the same files do
decides_from : (hold : Bool) (store mid : StoreView) (job : Job) (ending : Ending) (text : List ℕ) → FilesStay store mid → DecidesWhere hold store job ending text → DecidesWhere hold mid job ending text
decides_from hold store mid (Say e t) ending text files d = d
decides_from hold store mid (Read name next) ending text files d = (
  d.0,
  (record { tells = files.tells ∙ d.1.0.tells; file = files.file d.1.0.tells name ∙ d.1.0.file }, decides_from hold store mid (next d.0) ending text files d.1.1),
)
decides_from hold store mid (Write name bytes next) ending text files d = decides_from hold (written store name bytes) (written mid name bytes) next ending text (written_stays store mid name bytes files) d
decides_from hold store mid (Keep name lines fences said next) ending text files d =
    (d.0, decides_from hold (written store name (image_bytes lines)) (written mid name (image_bytes lines)) next ending text (written_stays store mid name (image_bytes lines) files) d.1)
decides_from hold store mid (Assured b next) ending text files d = decides_from hold store mid next ending text files d
decides_from hold store mid (Threads kind plan next) ending text files d = absurd d

-- where no count rose, the told files decide how the job ends
pub decided_where : (hold : Bool) (store after : StoreView) (job : Job) (ending e : Ending) (text t : List ℕ) → (Rose store.faults after.faults → ⊥) → (hold ≡ true → after.device_faults ≡ counted store.device_faults 1 → ⊥)
    → DecidesWhere hold store job ending text → JobEnds store after job e t → (e ≡ ending) × (t ≡ text)
decided_where hold store after (Say a b) ending e text t none fenced d h = (h.0 ∙ d.0, h.1 ∙ d.1)
decided_where hold store after (Read name next) ending e text t none fenced d (inl h) = absurd (none (cannot store after name e t h.0))
decided_where hold store after (Read name next) ending e text t none fenced d (inr h) =
    let same = held_bytes store name d.0 h.0 d.1.0 h.1.0 in
    decided_where hold store after (next d.0) ending e text t none fenced d.1.1 (subst (λ bytes. JobEnds store after (next bytes) e t) same h.1.1)
decided_where hold store after (Write name bytes next) ending e text t none fenced d (inl h) = absurd (none (cannot_write store after name e t h))
decided_where hold store after (Write name bytes next) ending e text t none fenced d (inr h) = decided_where hold (written store name bytes) after next ending e text t none fenced d h
decided_where hold store after (Keep name lines fences said next) ending e text t none fenced d (inl h) =
    absurd (⊎_elim none (fenced d.0) (keep_stops_rose store after name lines fences said e t h))
decided_where hold store after (Keep name lines fences said next) ending e text t none fenced d (inr h) =
    decided_where hold h.0 after next ending e text t (λ rose. none (subst (λ n. Rose n after.faults) h.1.calls.0 rose))
    (λ on is. fenced on (is ∙ ap (λ n. counted n 1) h.1.faults ∙ counted_once store.device_faults))
    (decides_from hold (written store name (image_bytes lines)) h.0 next ending text (kept_writes store h.0 name lines fences h.1) d.1) h.2
decided_where hold store after (Assured b next) ending e text t none fenced d h = decided_where hold store after next ending e text t none fenced d h.1
decided_where hold store after (Threads kind plan next) ending e text t none fenced d h = absurd d

pub decided : (store after : StoreView) (job : Job) (ending e : Ending) (text t : List ℕ) → (Rose store.faults after.faults → ⊥) → Decides store job ending text → JobEnds store after job e t → (e ≡ ending) × (t ≡ text)
decided store after job ending e text t none d h = decided_where false store after job ending e text t none (λ on. absurd (true≢false (sym on))) d h

-- ---- endings that tell of a fault
abbrev pub TellsFault : Ending → Type 0
TellsFault ReadFault = Unit {0}
TellsFault WriteFault = Unit {0}
TellsFault ending = ⊥

cannot_tells : (store after : StoreView) (name : List ℕ) (ending : Ending) (text : List ℕ) → CannotRead store after name ending text → TellsFault ending
cannot_tells store after name Done text h = absurd h
cannot_tells store after name Usage text h = absurd h
cannot_tells store after name Refused text h = absurd h
cannot_tells store after name BadLog text h = absurd h
cannot_tells store after name ReadFault text h = tt
cannot_tells store after name WriteFault text h = absurd h
cannot_tells store after name Faulty text h = absurd h
cannot_tells store after name Judged text h = absurd h

cannot_write_tells : (store after : StoreView) (name : List ℕ) (ending : Ending) (text : List ℕ) → CannotWrite store after name ending text → TellsFault ending
cannot_write_tells store after name Done text h = absurd h
cannot_write_tells store after name Usage text h = absurd h
cannot_write_tells store after name Refused text h = absurd h
cannot_write_tells store after name BadLog text h = absurd h
cannot_write_tells store after name ReadFault text h = absurd h
cannot_write_tells store after name WriteFault text h = tt
cannot_write_tells store after name Faulty text h = absurd h
cannot_write_tells store after name Judged text h = absurd h

run_stops_sound : {k : ObjectKind} (plan : RunPlan k) (store after : StoreView) (ending : Ending) (text : List ℕ) → (TellsFault ending → ⊥) → RunStops plan store after ending text → SameFaults store after
run_stops_sound plan store after Done text sound h = absurd h
run_stops_sound plan store after Usage text sound h = absurd h
run_stops_sound plan store after Refused text sound h = absurd h
run_stops_sound plan store after BadLog text sound h = absurd h
run_stops_sound plan store after ReadFault text sound h = absurd h
run_stops_sound plan store after WriteFault text sound h = absurd (sound tt)
run_stops_sound plan store after Faulty text sound h = h.calls
run_stops_sound plan store after Judged text sound h = absurd h

keep_stops_sound : (store after : StoreView) (name : List ℕ) (lines : List (List ℕ)) (fences : ℕ) (said : List ℕ) (ending : Ending) (text : List ℕ) → (TellsFault ending → ⊥) → KeepStops store after name lines fences said ending text
    → SameFaults store after
keep_stops_sound store after name lines fences said Done text sound h = absurd h
keep_stops_sound store after name lines fences said Usage text sound h = absurd h
keep_stops_sound store after name lines fences said Refused text sound h = absurd h
keep_stops_sound store after name lines fences said BadLog text sound h = absurd h
keep_stops_sound store after name lines fences said ReadFault text sound h = absurd h
keep_stops_sound store after name lines fences said WriteFault text sound h = absurd (sound tt)
keep_stops_sound store after name lines fences said Faulty text sound h = h.1.calls
keep_stops_sound store after name lines fences said Judged text sound h = absurd h

-- a job that ends otherwise ends where nothing failed
pub nothing_failed : (store after : StoreView) (job : Job) (ending : Ending) (text : List ℕ) → (TellsFault ending → ⊥) → JobEnds store after job ending text → SameFaults store after
nothing_failed store after (Say e t) ending text sound h = h.3.0
nothing_failed store after (Read name next) ending text sound (inl h) = absurd (sound (cannot_tells store after name ending text h.0))
nothing_failed store after (Read name next) ending text sound (inr h) = nothing_failed store after (next h.0) ending text sound h.1.1
nothing_failed store after (Write name bytes next) ending text sound (inl h) = absurd (sound (cannot_write_tells store after name ending text h))
nothing_failed store after (Write name bytes next) ending text sound (inr h) = nothing_failed (written store name bytes) after next ending text sound h
nothing_failed store after (Keep name lines fences said next) ending text sound (inl h) = keep_stops_sound store after name lines fences said ending text sound h
nothing_failed store after (Keep name lines fences said next) ending text sound (inr h) =
    let rest = nothing_failed h.0 after next ending text sound h.2 in
    (rest.0 ∙ h.1.calls.0, rest.1 ∙ h.1.calls.1)
nothing_failed store after (Assured b next) ending text sound h = nothing_failed store after next ending text sound h.1
nothing_failed store after (Threads kind plan next) ending text sound (inl h) = run_stops_sound plan store after ending text sound h
nothing_failed store after (Threads kind plan next) ending text sound (inr h) =
    let rest = nothing_failed h.kept after (next h.left) ending text sound h.next in
    (rest.0 ∙ h.keeps.calls.0, rest.1 ∙ h.keeps.calls.1)

pub files_stay : (store after : StoreView) → SameFiles store after → FilesStay store after
files_stay store after same = record { tells = same.tells; file = λ tells. same.file }

-- endings that no file and no refused text gives
abbrev pub IsRare : Ending → Type 0
IsRare Done = ⊥
IsRare Usage = Unit {0}
IsRare Refused = ⊥
IsRare BadLog = ⊥
IsRare ReadFault = ⊥
IsRare WriteFault = ⊥
IsRare Faulty = Unit {0}
IsRare Judged = Unit {0}

rare_none : (P : Ending → Type 0) → (P Usage → ⊥) → (P Faulty → ⊥) → (P Judged → ⊥) → (ending : Ending) → IsRare ending → P ending → ⊥
rare_none P usage faulty judged Done rare h = rare
rare_none P usage faulty judged Usage rare h = usage h
rare_none P usage faulty judged Refused rare h = rare
rare_none P usage faulty judged BadLog rare h = rare
rare_none P usage faulty judged ReadFault rare h = rare
rare_none P usage faulty judged WriteFault rare h = rare
rare_none P usage faulty judged Faulty rare h = faulty h
rare_none P usage faulty judged Judged rare h = judged h

module _ (ending : Ending) (rare : IsRare ending) where
  -- a job that never says such an ending doesn't end so
  pub never_says : (store after : StoreView) (job : Job) (text : List ℕ) → Never ending job → JobEnds store after job ending text → ⊥
  never_says store after (Say e t) text never h = never (sym h.0)
  never_says store after (Read name next) text never (inl h) = rare_none (λ e. CannotRead store after name e text) (λ no. no) (λ no. no) (λ no. no) ending rare h.0
  never_says store after (Read name next) text never (inr h) = never_says store after (next h.0) text (never h.0) h.1.1
  never_says store after (Write name bytes next) text never (inl h) = rare_none (λ e. CannotWrite store after name e text) (λ no. no) (λ no. no) (λ no. no) ending rare h
  never_says store after (Write name bytes next) text never (inr h) = never_says (written store name bytes) after next text never h
  never_says store after (Keep name lines fences said next) text never (inl h) =
      rare_none (λ e. (e ≡ Faulty → ⊥) × KeepStops store after name lines fences said e text) (λ no. no.1) (λ no. no.0 refl) (λ no. no.1) ending rare (never.0, h)
  never_says store after (Keep name lines fences said next) text never (inr h) = never_says h.0 after next text never.1 h.2
  never_says store after (Assured b next) text never h = never_says store after next text never h.1
  never_says store after (Threads kind plan next) text never (inl h) =
      rare_none (λ e. (e ≡ Faulty → ⊥) × RunStops plan store after e text) (λ no. no.1) (λ no. no.0 refl) (λ no. no.1) ending rare (never.0, h)
  never_says store after (Threads kind plan next) text never (inr h) = never_says h.kept after (next h.left) text (never.1 h.left) h.next

pub cannot_from : (store mid after : StoreView) (name : List ℕ) (ending : Ending) (text : List ℕ) → SameCounts store mid → CannotRead mid after name ending text → CannotRead store after name ending text
cannot_from store mid after name Done text same h = h
cannot_from store mid after name Usage text same h = h
cannot_from store mid after name Refused text same h = h
cannot_from store mid after name BadLog text same h = h
cannot_from store mid after name WriteFault text same h = h
cannot_from store mid after name Faulty text same h = h
cannot_from store mid after name ReadFault text same h = record { rose = subst (λ n. Rose n after.faults) same.0.0 h.rose; last = h.last; line = h.line }
cannot_from store mid after name Judged text same h = h

-- a job that reads a text and goes on so never says it
module _ (ending : Ending) (rare : IsRare ending) where
  pub reading_whole_never : {A : Type 0} (name : List ℕ) (grammar : List ℕ → Result A Refusal) (next : List ℕ → A → Job)
      → ((bytes : List ℕ) (value : A) → Never ending (next bytes value)) → Never ending (reading_whole name grammar next)
  reading_whole_never {A = A} name grammar next f bytes = by (grammar bytes)
    where
      by : (r : Result A Refusal) → Never ending (on_value name (next bytes) r)
      by (Ok value) = f bytes value
      by (Err refusal) = λ e. subst IsRare (sym e) rare

  pub reading_never : {A : Type 0} (name : List ℕ) (grammar : List ℕ → Result A Refusal) (next : A → Job) → ((value : A) → Never ending (next value)) → Never ending (reading name grammar next)
  reading_never name grammar next f = reading_whole_never name grammar (λ _. next) (λ _. f)
