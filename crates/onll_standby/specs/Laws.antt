-- Laws of streams, whatever code follows them.
use Rattle.std.specs.Prelude.{ℕ, ◌≡◌, ◌≢◌, ◌+◌, ◌-◌, ◌<◌, ◌≤◌, List, [], ◌∷◌, ◌++◌, length, take, Option, Some, None, Ok}
use Rattle.std.specs.List.{AllByRecursion}
use Rattle.onll_model.specs.Object.{Behaviour}
use Rattle.onll_model.specs.Frames.{Frame, Sound}
use Rattle.onll_log.specs.declared.head.LogHead.{LogHead}
use Rattle.onll_log.specs.Grammar.{Content}
use Rattle.onll_log.specs.ImageFile.{whole_lines}
use Rattle.onll_words.specs.Lines.{words_of_bytes}
use Rattle.onll_standby.specs.declared.fault.FeedFault.TheVariants.{NoMemory}
use Rattle.onll_standby.specs.Standby.{part_of}
use Rattle.onll_merge.specs.Merge.{merge, top_of}
use Rattle.onll_merge.specs.FrameLogs.{AreLogsOf}
use Rattle.onll_standby.specs.Held.{HeldEntry, covered}
use Rattle.onll_standby.specs.Stream.{AreStreamHeads, Course, Shown, entries_course, lines_course, course}
use Rattle.onll_standby.specs.Shipped.{AreFronts, AreAllOf, IsLogNode, stream_lines}

-- the course of lines, and of more lines after them where no fault is shown
abbrev pub goes_on : {State Op Query Reply : Type 0} → Behaviour State Op Query Reply → List LogHead → Option Shown → Course
    → List (List ℕ) → ℕ → Course
goes_on b heads (Some shown) c more all = c
goes_on b heads None c more all = entries_course b heads c.entries (all - length c.rest) 0 (c.rest ++ more)

-- Bytes that complete a line add it; bytes that complete none add to what is left.
abbrev pub BytesLaw : Type 0
BytesLaw = (bytes more : List ℕ) → length (part_of bytes) + length more ≡ 64
    → (whole_lines (bytes ++ more) ≡ whole_lines bytes ++ words_of_bytes (part_of bytes ++ more) ∷ []) × (part_of (bytes ++ more) ≡ [])

abbrev pub StreamPartLaw : Type 0
StreamPartLaw = (bytes more : List ℕ) → length (part_of bytes) + length more < 64
    → (whole_lines (bytes ++ more) ≡ whole_lines bytes) × (part_of (bytes ++ more) ≡ part_of bytes ++ more)

module _ {State Op Query Reply : Type 0} (b : Behaviour State Op Query Reply) where
  -- However a stream is cut, more lines go on from what the ones before came to: a fault stays the same, and where none is shown
  -- only the lines of the unfinished entry are looked at again. In the stream `at` lines stand before these.
  abbrev pub StreamCutLaw : Type 0
  StreamCutLaw = (heads : List LogHead) (es : List HeldEntry) (at : ℕ) (lines more : List (List ℕ))
      → entries_course b heads es at 0 (lines ++ more)
      ≡ goes_on b heads (entries_course b heads es at 0 lines).shown (entries_course b heads es at 0 lines) more (at + length lines)

  -- The same of a whole stream, line by line: after the header lines a line more goes on from the unfinished entry.
  abbrev pub LineLaw : Type 0
  LineLaw = (heads : List LogHead) (ls : List (List ℕ)) (l : List ℕ) → (lines_course b heads ls).shown ≡ None → length heads ≤ length ls
      → lines_course b heads (ls ++ l ∷ [])
      ≡ entries_course b heads (lines_course b heads ls).entries (length ls - length (lines_course b heads ls).rest) 0
      ((lines_course b heads ls).rest ++ l ∷ [])

  -- A fault that is shown stays that of every longer stream, with all that was held and followed before it.
  abbrev pub LastingLaw : Type 0
  LastingLaw = (heads : List LogHead) (bytes more : List ℕ) (x : Shown) → (course b heads bytes).shown ≡ Some x
      → course b heads (bytes ++ more) ≡ course b heads bytes

  -- So where a stream shows none, no front of it does.
  abbrev pub CleanLaw : Type 0
  CleanLaw = (heads : List LogHead) (bytes more : List ℕ) → (course b heads (bytes ++ more)).shown ≡ None
      → (course b heads bytes).shown ≡ None

  -- Want of memory is no fault of a stream.
  abbrev pub FaultLaw : Type 0
  FaultLaw = (heads : List LogHead) (bytes : List ℕ) (x : Shown) → (course b heads bytes).shown ≡ Some x → x.fault ≢ NoMemory

  -- Where a stream shows no fault it is followed up to the greatest place such that each place up to it is in an accepted entry.
  abbrev pub CoveredLaw : Type 0
  CoveredLaw = (heads : List LogHead) (bytes : List ℕ) → (course b heads bytes).shown ≡ None
      → (course b heads bytes).nodes ≡ covered (length heads) (course b heads bytes).entries

  -- what a stream of fronts of a sound frame's logs comes to
  pub record FollowsTrace (f : Frame) (es : List HeldEntry) (c : Course) : Type 0 where
    pub entries : c.entries ≡ es
    pub no_fault : c.shown ≡ None
    pub nothing_left : c.rest ≡ []
    pub within : length c.nodes ≤ length f.trace
    pub nodes : c.nodes ≡ take (length c.nodes) f.trace

  -- It has no fault, and what it follows is a front of the trace.
  abbrev pub SoundStreamLaw : Type 0
  SoundStreamLaw = (count : ℕ) (f : Frame) (heads : List LogHead) (es : List HeldEntry) (bytes : List ℕ) → Sound count f
      → length heads ≡ count
      → AreStreamHeads heads → AllByRecursion (IsLogNode b count) f.trace → AreFronts count f es → whole_lines bytes ≡ stream_lines heads es
      → FollowsTrace f es (course b heads bytes)

  -- what a stream of all entries of logs comes to: what these logs merge to
  pub record FollowsMerge (heads : List LogHead) (logs : List Content) (c : Course) : Type 0 where
    pub no_fault : c.shown ≡ None
    pub followed : length c.nodes ≡ top_of logs
    pub merged : merge heads logs ≡ Ok c.nodes

  -- With all entries of what a crash leaves of a sound frame's threads it follows as far as recovery does.
  abbrev pub RecoveredStreamLaw : Type 0
  RecoveredStreamLaw = (count : ℕ) (f : Frame) (heads : List LogHead) (logs : List Content) (es : List HeldEntry) (bytes : List ℕ)
      → Sound count f
      → length heads ≡ count → AreStreamHeads heads → AllByRecursion (IsLogNode b count) f.trace → AreLogsOf f.threads heads logs
      → AreAllOf count logs es → whole_lines bytes ≡ stream_lines heads es
      → FollowsMerge heads logs (course b heads bytes)
