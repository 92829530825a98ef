-- What the files of an object's logs hold, and what calls leave of them.
use Rattle.std.specs.Prelude.{ℕ, suc, Bool, true, false, List, [], ◌∷◌, ◌≡◌, ◌+◌, ◌<◌, ◌≤◌, ◌⊎◌, Result, Ok, Err, Option, Some, None, length, map}
use Rattle.std.specs.Option.{is_some}
use Rattle.std.specs.List.{AllByRecursion}
use Rattle.onll_log.specs.declared.head.LogHead.{LogHead}
use Rattle.onll_log.specs.Grammar.{content_of}
use Rattle.onll_log.specs.ImageFile.{longest_image}
use Rattle.onll_log.specs.Tested.{used_in}
use Rattle.onll_log.specs.Torn.{log_image}
use Rattle.onll_outside.specs.LineFiles.{GivesLines, IsWholeLine}
use Rattle.onll_outside.specs.Views.{StoreView, SameFaults, SameDevices, SameFiles, BeginsWith, KeptOrZeros, MayWipe, Rose, image_bytes, with_zeros}
use Rattle.onll_pmem.specs.Device.{Mixed, zero_lines}
use Rattle.onll_outside.specs.declared.store.FaultKind.{FaultKind}
use Rattle.onll_outside.specs.declared.store.FaultKind.TheVariants.{Device, Reopen}
use Rattle.onll_open.specs.declared.fault.DeviceFault.{DeviceFault}
use Rattle.onll_open.specs.declared.fault.DeviceFault.TheVariants as devices
use Rattle.onll_open.specs.declared.fault.FileFault.{FileFault}
use Rattle.onll_open.specs.declared.fault.FileFault.TheVariants.{Failed, NoMemory}
use Rattle.onll_open.specs.Devices.{front_by}
use Rattle.onll_open.specs.Misfits.{head_in}
use Rattle.onll_open.specs.Names.{log_name}

-- ---- what stays
-- no call of the store failed, and no device was handed back
abbrev pub SameCounts : StoreView → StoreView → Type 0
SameCounts old new = SameFaults old new × SameDevices old new

-- nothing of the store changed that is seen of it
pub record SameStore (old new : StoreView) : Type 0 where
  pub files : SameFiles old new
  pub counts : SameCounts old new

-- no thread's file changed
pub record SameLogs (logs : List ℕ) (old new : StoreView) : Type 0 where
  pub tells : new.tells ≡ old.tells
  pub file : (thread : ℕ) → new.file (log_name logs thread) ≡ old.file (log_name logs thread)

-- no file changed but perhaps those of these names
pub record SameBut (names : List (List ℕ)) (old new : StoreView) : Type 0 where
  pub tells : new.tells ≡ old.tells
  pub file : (other : List ℕ) → AllByRecursion (λ name. other ≡ name → ⊥) names → new.file other ≡ old.file other

-- ---- a call that failed
-- a call of this kind failed for the file of this thread, one of so many, and is the last that did
pub record LogCallFailed (kind : FaultKind) (logs : List ℕ) (threads thread : ℕ) (old new : StoreView) : Type 0 where
  pub within : thread < threads
  pub rose : Rose old.faults new.faults
  pub last : new.last ≡ Some (record { kind = kind; name = log_name logs thread })

-- that is so exactly where it is the answer
abbrev pub LogFaults : {T : Type 0} → FaultKind → List ℕ → ℕ → StoreView → StoreView → Result T FileFault → Type 0
LogFaults kind logs threads old new (Ok x) = SameFaults old new
LogFaults kind logs threads old new (Err (Failed thread)) = LogCallFailed kind logs threads thread old new
LogFaults kind logs threads old new (Err NoMemory) = SameFaults old new

-- the same of the devices of logs, which are made where a log has no head, and made again of its file's lines where it has one
abbrev pub DeviceFaults : {T : Type 0} → List ℕ → ℕ → StoreView → StoreView → Result T DeviceFault → Type 0
DeviceFaults logs threads old new (Ok x) = SameFaults old new
DeviceFaults logs threads old new (Err (devices.NotMade thread)) = LogCallFailed Device logs threads thread old new
DeviceFaults logs threads old new (Err (devices.NotReopened thread)) = LogCallFailed Reopen logs threads thread old new
DeviceFaults logs threads old new (Err devices.NoMemory) = SameFaults old new

-- ---- images
-- a file is there, and has a byte
abbrev pub is_made : Option (List ℕ) → Bool
is_made None = false
is_made (Some []) = false
is_made (Some (byte ∷ bytes)) = true

-- so is the file of this name or not, where the store tells its files
abbrev pub FileIsMade : StoreView → List ℕ → Bool → Type 0
FileIsMade store name made = store.tells ≡ true → is_made (store.file name) ≡ made

-- where the store tells its files, these are the lines of the file of this name, of eight words each, up to the limit of an image
pub record HasLogLines (store : StoreView) (name : List ℕ) (image : List (List ℕ)) : Type 0 where
  pub made : FileIsMade store name true
  pub front : List (List ℕ)
  pub count : ℕ
  pub each : AllByRecursion IsWholeLine front
  pub gives : GivesLines store name longest_image front count
  pub image_is : image ≡ with_zeros front count

-- What the file of this name holds: its lines, or a line of zeros where it is not made, which is a log that is not begun.
abbrev pub HoldsLogImage : StoreView → List ℕ → List (List ℕ) → Type 0
HoldsLogImage store name image = HasLogLines store name image ⊎ (FileIsMade store name false × (image ≡ zero_lines 1))

-- so each thread's file holds the image at its place, from thread t on
abbrev pub FilesHold : List ℕ → ℕ → List (List (List ℕ)) → StoreView → Type 0
FilesHold logs t [] store = Unit {0}
FilesHold logs t (image ∷ images) store = HoldsLogImage store (log_name logs t) image × FilesHold logs (suc t) images store

-- these lines hold as a log what the image holds, and are no more than decide it
pub record StandsFor (lines image : List (List ℕ)) : Type 0 where
  pub content : content_of lines ≡ content_of image
  pub few : length lines ≤ used_in (content_of image)

abbrev pub StandFor : List (List (List ℕ)) → List (List (List ℕ)) → Type 0
StandFor [] [] = Unit {0}
StandFor (lines ∷ more) (image ∷ images) = StandsFor lines image × StandFor more images
StandFor more images = ⊥

-- of lines that stand for a log those with which its file begins: none where the log has no head
abbrev pub front_in : List (List ℕ) → List (List ℕ)
front_in lines = front_by (is_some (head_in lines)) lines

-- where there are such lines, and the store tells its files, the one of this name begins with them
abbrev pub BeginsAs : StoreView → List ℕ → List (List ℕ) → Type 0
BeginsAs store name [] = Unit {0}
BeginsAs store name (line ∷ front) = BeginsWith store name (image_bytes (line ∷ front))

-- lines of the image that the file of this name holds, which stand for it, and with which the file begins where the log has a head
pub record IsRead (store : StoreView) (name : List ℕ) (lines : List (List ℕ)) : Type 0 where
  pub image : List (List ℕ)
  pub holds : HoldsLogImage store name image
  pub stands : StandsFor lines image
  pub begins : BeginsAs store name (front_in lines)

-- where the store tells its files, each thread's, from thread t on, begins with the lines at its place, where there are any
abbrev pub FilesBegin : List ℕ → ℕ → List (List (List ℕ)) → StoreView → Type 0
FilesBegin logs t [] store = Unit {0}
FilesBegin logs t (front ∷ fronts) store = BeginsAs store (log_name logs t) front × FilesBegin logs (suc t) fronts store

-- What is kept of the files' images: lines which stand for the images, and with which the files of logs with a head begin.
pub record AreRead (logs : List ℕ) (lines : List (List (List ℕ))) (store : StoreView) : Type 0 where
  pub images : List (List (List ℕ))
  pub hold : FilesHold logs 0 images store
  pub stand : StandFor lines images
  pub begin : FilesBegin logs 0 (map front_in lines) store

-- What making the device of a log leaves of its file: where the store tells it, it begins with these lines as before, and what follows is
-- wiped in part or not. The file of a log without a head is as it was, or holds zeros alone.
abbrev pub KeepsFront : List ℕ → List (List ℕ) → StoreView → StoreView → Type 0
KeepsFront name [] old new = KeptOrZeros name old new
KeepsFront name (line ∷ front) old new = MayWipe name (image_bytes (line ∷ front)) old new

-- the same of each thread's, from thread t on
abbrev pub KeepFronts : List ℕ → ℕ → List (List (List ℕ)) → StoreView → StoreView → Type 0
KeepFronts logs t [] old new = Unit {0}
KeepFronts logs t (front ∷ fronts) old new = KeepsFront (log_name logs t) front old new × KeepFronts logs (suc t) fronts old new

-- ---- headers
-- The named file holds what a device may leave on which the header of this head was written, and nothing else, also where its fence was
-- not made: each word is the header's or zero.
pub record HoldsHeader (store : StoreView) (name : List ℕ) (head : LogHead) : Type 0 where
  pub more : ℕ
  pub image : List (List ℕ)
  pub file : store.file name ≡ Some (image_bytes image)
  pub mixed : Mixed (zero_lines (1 + more)) (log_image head [] more) image

-- What opening leaves of the file of a log whose header of this head may have been written, where it has none: it is left so, or, the
-- store's device being over a file of the system, holds that header.
abbrev pub LeavesFront : List ℕ → LogHead → List (List ℕ) → StoreView → StoreView → Type 0
LeavesFront name head [] old new = KeptOrZeros name old new ⊎ HoldsHeader new name head
LeavesFront name head (line ∷ front) old new = KeepsFront name (line ∷ front) old new

-- the same of each thread's, from thread t on; behind the logs of these heads no header was written
abbrev pub LeaveFronts : List ℕ → ℕ → (written : List LogHead) → List (List (List ℕ)) → StoreView → StoreView → Type 0
LeaveFronts logs t [] fronts old new = KeepFronts logs t fronts old new
LeaveFronts logs t (head ∷ heads) [] old new = Unit {0}
LeaveFronts logs t (head ∷ heads) (front ∷ fronts) old new =
    LeavesFront (log_name logs t) head front old new × LeaveFronts logs (suc t) heads fronts old new
