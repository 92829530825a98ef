-- Laws over checkpoints in lines, whatever code reads and writes them.
use Rattle.std.specs.Prelude.{ℕ, ◌≡◌, ◌<◌, ◌≤◌, ◌==◌, if◌then◌else◌, List, ◌∷◌, ◌++◌, length, take, Some, None}
use Rattle.std.specs.Int.{bit_at}
use Rattle.onll_pmem.specs.Device.{DeviceState, Step, after_steps, AreLegal, IsImage, NonePending, FillsWords, zero_line, zero_lines}
use Rattle.onll_log.specs.Head.{word}
use Rattle.onll_checkpoint.specs.Checkpoint.{CheckpointState, FitsCheckpoint}
use Rattle.onll_checkpoint.specs.Text.{lines_for, text_lines}
use Rattle.onll_checkpoint.specs.Grammar.{guard_of, first_line, checkpoint_image, text_image, checkpoint_in}

-- ---- what is written is read back
abbrev pub FoundLaw : Type 0
FoundLaw = (c : CheckpointState) (rest : List (List ℕ)) → FitsCheckpoint c
    → checkpoint_in (first_line c ∷ (text_lines c.text ++ rest)) ≡ Some c

-- ---- a first line that is torn
-- lines that begin with one of zeros hold none
abbrev pub NoneLaw : Type 0
NoneLaw = (lines : List (List ℕ)) → checkpoint_in (zero_line ∷ lines) ≡ None

-- lines hold a checkpoint exactly where this first line is the checkpoint's
pub record NoneOrThis (c : CheckpointState) (first : List ℕ) (lines : List (List ℕ)) : Type 0 where
  pub whole : first ≡ first_line c → checkpoint_in lines ≡ Some c
  pub torn : (first ≡ first_line c → ⊥) → checkpoint_in lines ≡ None

-- where the text is there, and each word of the first line is zero or the checkpoint's
abbrev pub TornFirstLaw : Type 0
TornFirstLaw = (c : CheckpointState) (first : List ℕ) (rest : List (List ℕ)) → FitsCheckpoint c → FillsWords first (first_line c)
    → NoneOrThis c first (first ∷ (text_lines c.text ++ rest))

-- ---- every crash
-- from zeros to the text: no image of any moment on the way holds a checkpoint
abbrev pub TextCrashLaw : Type 0
TextCrashLaw = (c : CheckpointState) (count : ℕ) (d : DeviceState) (done rest : List Step) (image : List (List ℕ))
    → lines_for (length c.text) ≤ count → NonePending d → d.read ≡ zero_lines count → AreLegal d (done ++ rest)
    → (after_steps d (done ++ rest)).read ≡ text_image c.text count → IsImage (after_steps d done) image → checkpoint_in image ≡ None

-- what a crash between the text and the whole leaves: this checkpoint where it is the whole, and else none
pub record IsNoneOrSaved (c : CheckpointState) (count : ℕ) (image : List (List ℕ)) : Type 0 where
  pub whole : image ≡ checkpoint_image c count → checkpoint_in image ≡ Some c
  pub torn : (image ≡ checkpoint_image c count → ⊥) → checkpoint_in image ≡ None

-- from the text to the whole: every image of every moment on the way
abbrev pub FirstCrashLaw : Type 0
FirstCrashLaw = (c : CheckpointState) (count : ℕ) (d : DeviceState) (done rest : List Step) (image : List (List ℕ)) → FitsCheckpoint c
    → NonePending d → d.read ≡ text_image c.text count → AreLegal d (done ++ rest)
    → (after_steps d (done ++ rest)).read ≡ checkpoint_image c count → IsImage (after_steps d done) image → IsNoneOrSaved c count image

-- ---- the last word of a first line, by its bits
pub record IsGuard (line : List ℕ) : Type 0 where
  -- a bit for a word before it is 1 exactly where the word is not zero
  pub each : (j : ℕ) → j < 7 → bit_at (word line 7) j ≡ (if word line j == 0 then 0 else 1)
  -- bit 63 is always 1
  pub top : bit_at (word line 7) 63 ≡ 1
  -- all other bits are 0
  pub others : (j : ℕ) → 7 ≤ j → (j ≡ 63 → ⊥) → bit_at (word line 7) j ≡ 0

-- a line's last word is the format's exactly where its bits are so
pub record GuardIsByBits (line : List ℕ) : Type 0 where
  pub forth : word line 7 ≡ guard_of (take 7 line) → IsGuard line
  pub back : IsGuard line → word line 7 ≡ guard_of (take 7 line)

abbrev pub GuardLaw : Type 0
GuardLaw = (line : List ℕ) → length line ≡ 8 → GuardIsByBits line
