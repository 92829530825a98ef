-- The device over a file.
use Rattle.std.specs.Prelude.{◌≡◌, ℕ, ◌+◌, ◌<◌, ◌≤◌, ◌^◌, Bool, List, length, map, None, slice_set}
use Rattle.std.proofs.Common.{arith}
use Rattle.onll_words.specs.Lines.{words_of_bytes}
use Rattle.onll_pmem.specs.Pmem.{DeviceView}

-- its words as read, and how many fences succeeded and how many failed
pub record FileState : Type 0 where
  pub read : List (List ℕ)
  pub passed : ℕ
  pub failed : ℕ

-- what it means to callers of any device: it doesn't tell its fenced words
abbrev pub file_view : FileState → DeviceView
file_view s = record { read = s.read; fences = s.passed + s.failed; faults = s.failed; told = None }

pub few_faults : (s : FileState) → (file_view s).faults ≤ (file_view s).fences
few_faults s = omega arith

-- after a line was written
abbrev pub written : FileState → ℕ → List ℕ → FileState
written s line value = record s { read = slice_set s.read line value }

-- after a fence that succeeded, and after one that failed
abbrev pub passed : FileState → FileState
passed s = record s { passed = s.passed + 1 }

abbrev pub failed : FileState → FileState
failed s = record s { failed = s.failed + 1 }

-- the words of lines that are given by their bytes
abbrev pub words_in_file : List (List ℕ) → List (List ℕ)
words_in_file lines = map words_of_bytes lines

-- what a device over a file keeps
pub record KeepsFile (read : List (List ℕ)) (waiting : List Bool) (to passed failed : ℕ) : Type 0 where
  pub as_marked : length waiting ≡ length read
  pub within : to ≤ length read
  pub few : length read ≤ 1000000
  pub fences : passed + failed < 2 ^ 64
