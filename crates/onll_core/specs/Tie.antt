use Rattle.std.specs.Prelude.{ℕ, suc, ◌≡◌, ◌≢◌, ◌+◌, ◌-◌, ◌*◌, ◌≤◌, ◌⊎◌, true, List, [], ◌++◌, length, take, drop, Option, Some, None}
use Rattle.onll_model.specs.Calls.{updates_in}
use Rattle.onll_model.specs.Segment.{Segment}
use Rattle.onll_pmem.specs.Device.{line_at, is_marked, zero_lines}
use Rattle.onll_log.specs.declared.head.LogHead.{LogHead}
use Rattle.onll_log.specs.Head.{FitsHead}
use Rattle.onll_log.specs.Encoding.{entry_lines, log_lines, FitEntries}
use Rattle.onll_log.specs.Grammar.{lines_in}
use Rattle.onll_core.specs.declared.phase.Phase.{Phase}
use Rattle.onll_core.specs.declared.phase.Phase.TheVariants as phases
use Rattle.onll_core.specs.Core.{CoreThread}

-- What ties a thread's device to its log: the device holds the lines of the log's entries, then those lines of the entry
-- being written that are written, then zeros.

-- how many lines of the entry are written
abbrev pub written_in : Phase → ℕ
written_in phases.Idle = 0
written_in (phases.Tail l) = 0
written_in (phases.Exchange l) = 0
written_in (phases.Flag p d) = 0
written_in (phases.Line p d k) = k
written_in (phases.Back p d k) = suc k
written_in (phases.Fence p d) = suc (p - d)
written_in (phases.Set p d) = 0
written_in (phases.Ask f d) = 0

-- how many lines the entry takes
abbrev pub lines_needed : Phase → ℕ
lines_needed phases.Idle = 0
lines_needed (phases.Tail l) = 0
lines_needed (phases.Exchange l) = 0
lines_needed (phases.Flag p d) = 0
lines_needed (phases.Line p d k) = suc (p - d)
lines_needed (phases.Back p d k) = suc (p - d)
lines_needed (phases.Fence p d) = suc (p - d)
lines_needed (phases.Set p d) = 0
lines_needed (phases.Ask f d) = 0

-- the line of the device is not the one that is written and still to be written back
abbrev pub IsBehind : ℕ → Phase → ℕ → Type 0
IsBehind used phases.Idle line = Unit {0}
IsBehind used (phases.Tail l) line = Unit {0}
IsBehind used (phases.Exchange l) line = Unit {0}
IsBehind used (phases.Flag p d) line = Unit {0}
IsBehind used (phases.Line p d k) line = Unit {0}
IsBehind used (phases.Back p d k) line = line ≢ used + k
IsBehind used (phases.Fence p d) line = Unit {0}
IsBehind used (phases.Set p d) line = Unit {0}
IsBehind used (phases.Ask f d) line = Unit {0}

-- the line of the entry that is written next, or written back, is one of its lines
abbrev pub InEntry : Phase → Type 0
InEntry phases.Idle = Unit {0}
InEntry (phases.Tail l) = Unit {0}
InEntry (phases.Exchange l) = Unit {0}
InEntry (phases.Flag p d) = Unit {0}
InEntry (phases.Line p d k) = k ≤ p - d
InEntry (phases.Back p d k) = k ≤ p - d
InEntry (phases.Fence p d) = Unit {0}
InEntry (phases.Set p d) = Unit {0}
InEntry (phases.Ask f d) = Unit {0}

-- the lines of the entry that is being written, after `before` others
abbrev pub coming_lines : LogHead → ℕ → Option Segment → List (List ℕ)
coming_lines head before None = []
coming_lines head before (Some s) = entry_lines head before s

-- the updates of a script that have no entry yet: in its last step an update has its own
abbrev pub updates_to_log : {State Op Query Reply : Type 0} → CoreThread State Op Query Reply → Phase → ℕ
updates_to_log th phases.Idle = updates_in (drop (length th.returned) th.script)
updates_to_log th (phases.Tail l) = updates_in (drop (length th.returned) th.script)
updates_to_log th (phases.Exchange l) = updates_in (drop (length th.returned) th.script)
updates_to_log th (phases.Flag p d) = updates_in (drop (length th.returned) th.script)
updates_to_log th (phases.Line p d k) = updates_in (drop (length th.returned) th.script)
updates_to_log th (phases.Back p d k) = updates_in (drop (length th.returned) th.script)
updates_to_log th (phases.Fence p d) = updates_in (drop (length th.returned) th.script)
updates_to_log th (phases.Set p d) = updates_in (drop (suc (length th.returned)) th.script)
updates_to_log th (phases.Ask f d) = updates_in (drop (length th.returned) th.script)

-- the updates that have no node yet
abbrev pub updates_to_link : {State Op Query Reply : Type 0} → CoreThread State Op Query Reply → Phase → ℕ
updates_to_link th phases.Idle = updates_in (drop (length th.returned) th.script)
updates_to_link th (phases.Tail l) = updates_in (drop (length th.returned) th.script)
updates_to_link th (phases.Exchange l) = updates_in (drop (length th.returned) th.script)
updates_to_link th (phases.Flag p d) = updates_in (drop (suc (length th.returned)) th.script)
updates_to_link th (phases.Line p d k) = updates_in (drop (suc (length th.returned)) th.script)
updates_to_link th (phases.Back p d k) = updates_in (drop (suc (length th.returned)) th.script)
updates_to_link th (phases.Fence p d) = updates_in (drop (suc (length th.returned)) th.script)
updates_to_link th (phases.Set p d) = updates_in (drop (suc (length th.returned)) th.script)
updates_to_link th (phases.Ask f d) = updates_in (drop (length th.returned) th.script)

-- The device of thread t of `count`, whose next step is of this kind and which is writing this segment, if any: `log` are
-- its fenced entries, and `free` lines are zero behind those that are written.
pub record IsTiedDevice {State Op Query Reply : Type 0} (count t : ℕ) (writing : Option Segment)
    (th : CoreThread State Op Query Reply) (phase : Phase) : Type 0 where
  pub log : List Segment
  pub free : ℕ
  pub head : FitsHead th.head
  pub own : (th.head.thread ≡ t) × (th.head.threads ≡ count) × (th.head.format ≡ 2)
  pub fits : FitEntries th.head.threads log
  pub entries : th.logged ≡ length log
  pub lines : th.used ≡ suc (lines_in log)
  pub in_entry : InEntry phase
  pub fenced : th.device.fenced ≡ log_lines th.head log ++ zero_lines (written_in phase + free)
  pub read : th.device.read ≡ log_lines th.head log
      ++ (take (written_in phase) (coming_lines th.head (length log) writing) ++ zero_lines free)
  pub marks : length th.device.backed ≡ length th.device.read
  -- each line but the one behind is written back, or reads as it is fenced
  pub backed : (line : ℕ) → IsBehind th.used phase line → (is_marked th.device.backed line ≡ true)
      ⊎ (line_at th.device.read line ≡ line_at th.device.fenced line)
  -- each fence but a first one, of the head, made an entry durable
  pub fences : th.device.fences ≤ suc th.logged
  -- the entry has room, and so has a whole one of each update to come
  pub room : updates_to_log th phase * suc th.head.threads ≤ written_in phase + free
  pub space : lines_needed phase ≤ written_in phase + free
