use Rattle.std.specs.Prelude.{◌≡◌, ◌≢◌, ℕ, ◌+◌, ◌-◌, ◌^◌, ◌<◌, ◌≤◌, ◌⊎◌, Bool, true, false, List, [], ◌++◌, length, take, drop, Option, Some, None}
use Rattle.onll_model.specs.Segment.{Segment, last_place}
use Rattle.onll_pmem.specs.Device.{line_at, zero_line, zero_lines, FillsLines}
use Rattle.onll_pmem.specs.Pmem.{DeviceView, ToldBacked, ToldSettled}
use Rattle.onll_log.specs.declared.head.LogHead.{LogHead}
use Rattle.onll_log.specs.declared.cause.MakeCause.{MakeCause}
use Rattle.onll_log.specs.declared.cause.MakeCause.TheVariants.{Small, Dirty, FenceFailed}
use Rattle.onll_log.specs.Head.{FitsHead}
use Rattle.onll_log.specs.Encoding.{FitEntries}
use Rattle.onll_log.specs.Grammar.{Content, entries_from, are_zero_lines, lines_in, used_by}
use Rattle.onll_log.specs.Torn.{log_image}

-- The log of one thread over a device.

-- its head, its entries as read, the fences since the header's, whether the last of them failed, and the device
pub record LogState (Device : Type 0) : Type 0 where
  pub head : LogHead
  pub entries : List Segment
  pub fences : ℕ
  pub broken : Bool
  pub device : Device

-- the entries of a log of this head in these lines
abbrev pub entries_read : LogHead → List (List ℕ) → List Segment
entries_read head lines = entries_from head 0 0 (drop 1 lines)

-- how many of this many lines a log with these entries leaves free
abbrev pub free_of : ℕ → List Segment → ℕ
free_of lines ss = lines - (1 + lines_in ss)

-- entries without the last
abbrev pub but_last : List Segment → List Segment
but_last ss = take (length ss - 1) ss

-- lines with these put in from this line on
abbrev pub placed_lines : List (List ℕ) → ℕ → List (List ℕ) → List (List ℕ)
placed_lines read from lines = take from read ++ (lines ++ drop (from + length lines) read)

-- A device holds the log. Where it tells so, all of a log that isn't broken is durable, and of one that is broken all but the last entry.
pub record HoldsLog (d : DeviceView) (head : LogHead) (ss : List Segment) (broken : Bool) : Type 0 where
  pub fits : FitsHead head
  pub fit : FitEntries head.threads ss
  pub within : 1 + lines_in ss ≤ length d.read
  pub read : d.read ≡ log_image head ss (free_of (length d.read) ss)
  pub settled : broken ≡ false → ToldSettled d.told d.read
  pub pending : broken ≡ true → ToldSettled d.told (log_image head (but_last ss) (free_of (length d.read) (but_last ss)))

-- what a log keeps beside
pub record KeepsLog (d : DeviceView) (head : LogHead) (ss : List Segment) (used count last fences : ℕ) (broken : Bool) : Type 0 where
  pub holds : HoldsLog d head ss broken
  pub lines : length d.read < 2 ^ 64
  pub used_is : used ≡ 1 + lines_in ss
  pub count_is : count ≡ length ss
  pub last_is : last ≡ last_place 0 ss
  pub backed : ToldBacked d.told d.read
  pub few : d.fences ≤ 2 ^ 32 + fences
  pub fewer : fences ≤ length ss

-- lines from this one on are written, and wait for the next fence
pub record PutsLines (old new : DeviceView) (from : ℕ) (lines : List (List ℕ)) : Type 0 where
  pub read : new.read ≡ placed_lines old.read from lines
  pub fences : new.fences ≡ old.fences
  pub faults : new.faults ≡ old.faults
  pub backed : ToldBacked old.told old.read → ToldBacked new.told new.read
  pub fenced : (durable : List (List ℕ)) → ToldSettled old.told durable → ToldSettled new.told durable

-- ---- what opening a log finds
-- a head of format 2
abbrev pub IsNewest : Option LogHead → Type 0
IsNewest None = ⊥
IsNewest (Some head) = head.format ≡ 2

-- only zeros stand after the lines that are used by what these lines hold
abbrev pub EndsInZeros : List (List ℕ) → Content → Type 0
EndsInZeros read c = are_zero_lines (drop (used_by c) read) ≡ true

-- ---- what making a log finds
-- the first line that isn't zero
pub record IsDirty (read : List (List ℕ)) (line : ℕ) : Type 0 where
  pub within : line < length read
  pub dirty : line_at read line ≢ zero_line
  pub first : (before : ℕ) → before < line → line_at read before ≡ zero_line

-- there is a line, and all are zero
pub record IsClean (read : List (List ℕ)) : Type 0 where
  pub some_line : 1 ≤ length read
  pub zeros : read ≡ zero_lines (length read)

-- what making a log of this head leaves of a device: one fence more, and the header over zeros
pub record HasHeader (old new : DeviceView) (head : LogHead) : Type 0 where
  pub clean : IsClean old.read
  pub read : new.read ≡ log_image head [] (length old.read - 1)
  pub count : length new.read ≡ length old.read
  pub fences : new.fences ≡ old.fences + 1

-- a device whose fence failed: the header is written, and isn't durable
pub record IsHeaderPending (old new : DeviceView) (head : LogHead) : Type 0 where
  pub header : HasHeader old new head
  pub faults : new.faults ≡ old.faults + 1
  pub pending : ToldSettled new.told old.read

-- why no log of this head was made on a device, by what it was before and is now
abbrev pub NotMade : MakeCause → DeviceView → DeviceView → LogHead → Type 0
NotMade Small old new head = length old.read ≡ 0
NotMade (Dirty line) old new head = IsDirty old.read line
NotMade FenceFailed old new head = IsHeaderPending old new head

-- what a log that was made holds
pub record IsMade (old new : DeviceView) (head : LogHead) : Type 0 where
  pub header : HasHeader old new head
  pub faults : new.faults ≡ old.faults
  pub settled : ToldSettled new.told new.read

-- what an append of these lines from this line on leaves of a device, but for the fence
pub record Appends (old new : DeviceView) (from : ℕ) (lines : List (List ℕ)) : Type 0 where
  pub read : new.read ≡ placed_lines old.read from lines
  pub count : length new.read ≡ length old.read
  pub fills : FillsLines old.read new.read
  pub others : (line : ℕ) → (line < from) ⊎ (from + length lines ≤ line) → line_at new.read line ≡ line_at old.read line
  pub fences : new.fences ≡ old.fences + 1
