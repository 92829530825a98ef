-- Logs that are opened, or begun anew where nothing is held, one over each device.
use Rattle.std.specs.Prelude.{ℕ, zero, suc, false, List, [], ◌∷◌, ◌≡◌, ◌+◌, take, sum_by, Option, Some, None, IfSome}
use Rattle.onll_pmem.specs.Pmem.{DeviceView, ToldSettled}
use Rattle.onll_log.specs.declared.head.LogHead.{LogHead}
use Rattle.onll_log.specs.Head.{FitsHead}
use Rattle.onll_log.specs.Grammar.{Content, content_of}
use Rattle.onll_log.specs.Log.{LogState, EndsInZeros, IsClean, IsMade, IsNewest, IsHeaderPending}
use Rattle.onll_outside.specs.Views.{one_fault}
use Rattle.onll_run.specs.declared.logs.RunFault.{RunFault}
use Rattle.onll_run.specs.declared.logs.RunFault.TheVariants as faults
use Rattle.onll_run.specs.Left.{begun_logs}

abbrev pub device_of : {Device : Type 0} → LogState Device → Device
device_of log = log.device

-- ---- what devices hold
-- the lines of a device are the log that held this before: all of it is there, of the newest format, and only zeros follow
pub record HoldsBefore (before : Content) (read : List (List ℕ)) : Type 0 where
  pub holds : content_of read ≡ Some before
  pub newest : IsNewest before.head
  pub rest : EndsInZeros read before

-- a log without a head holds nothing, and its device's lines are zeros alone
abbrev pub StandsBy : Option LogHead → Content → List (List ℕ) → Type 0
StandsBy None before read = (before.entries ≡ []) × IsClean read
StandsBy (Some head) before read = HoldsBefore before read

-- the lines of a device are those of a log that held this before
abbrev pub HeldBefore : Content → List (List ℕ) → Type 0
HeldBefore before read = StandsBy before.head before read

module _ {Device : Type 0} (means : Device → DeviceView) where
  -- A log of this head, which held this before, can be opened on the device or begun on it. The device was not fenced yet, and where
  -- it tells its fenced words, nothing is pending.
  pub record CanOpen (head : LogHead) (before : Content) (device : Device) : Type 0 where
    pub fits : FitsHead head
    pub head_is : IfSome before.head (λ found. found ≡ head)
    pub fences : (means device).fences ≡ 0
    pub faults : (means device).faults ≡ 0
    pub settled : ToldSettled (means device).told (means device).read
    pub stands : HeldBefore before (means device).read

  -- the log of each head on the device at its place
  abbrev pub AllCanOpen : List LogHead → List Content → List Device → Type 0
  AllCanOpen [] [] [] = Unit {0}
  AllCanOpen (head ∷ heads) (before ∷ logs) (device ∷ devices) = CanOpen head before device × AllCanOpen heads logs devices
  AllCanOpen heads logs devices = ⊥

  -- ---- logs that are open
  -- a device before and after its log was opened: where the log had no head, it was made
  abbrev pub OpensOn : Option LogHead → LogHead → Device → Device → Type 0
  OpensOn None head old new = IsMade (means old) (means new) head
  OpensOn (Some found) head old new = new ≡ old

  -- the log of this head is open over the device, with the entries that it held before, and nothing was appended
  pub record IsOpen (head : LogHead) (before : Content) (device : Device) (log : LogState Device) : Type 0 where
    pub head_is : log.head ≡ head
    pub entries : log.entries ≡ before.entries
    pub fences : log.fences ≡ 0
    pub whole : log.broken ≡ false
    pub on : OpensOn before.head head device log.device

  -- a log of each head over the device at its place
  abbrev pub AreOpen : List LogHead → List Content → List Device → List (LogState Device) → Type 0
  AreOpen [] [] [] [] = Unit {0}
  AreOpen (head ∷ heads) (before ∷ befores) (device ∷ devices) (log ∷ logs) =
      IsOpen head before device log × AreOpen heads befores devices logs
  AreOpen heads befores devices logs = ⊥

  -- ---- a header whose fence failed
  -- The logs were opened or begun, from the first one to that of this thread, which has no head, and whose header's fence failed:
  -- what is written there isn't durable. A device whose log has a head is as it was, and so are those after this thread's.
  abbrev pub HeadersTo : ℕ → List LogHead → List Content → List Device → List Device → Type 0
  HeadersTo zero (head ∷ heads) (before ∷ logs) (old ∷ olds) (new ∷ news) =
      (before.head ≡ None) × IsHeaderPending (means old) (means new) head × (news ≡ olds)
  HeadersTo (suc t) (head ∷ heads) (before ∷ logs) (old ∷ olds) (new ∷ news) =
      OpensOn before.head head old new × HeadersTo t heads logs olds news
  HeadersTo t heads logs olds news = ⊥

  -- how often these devices were fenced, and how many of them count a fault
  abbrev pub fences_of : List Device → ℕ
  fences_of devices = sum_by (λ (device : Device). (means device).fences) devices

  abbrev pub faults_of : List Device → ℕ
  faults_of devices = sum_by (λ (device : Device). one_fault (means device).faults) devices

  -- The fence of this thread's header failed, which is that of a log that was begun. All devices are handed back: one fence was made
  -- for each log that was begun so far.
  pub record HeaderFailed (heads : List LogHead) (logs : List Content) (old : List Device) (thread : ℕ) (new : List Device) : Type 0 where
    pub headers : HeadersTo thread heads logs old new
    pub fences : fences_of new ≡ begun_logs (take (thread + 1) logs)
    pub faults : faults_of new ≡ 1

  -- why a run came to no end
  abbrev pub RunFails : List LogHead → List Content → List Device → RunFault Device → Type 0
  RunFails heads logs old faults.NoMemory = Unit {0}
  RunFails heads logs old (faults.HeaderFailed thread devices) = HeaderFailed heads logs old thread devices.items
