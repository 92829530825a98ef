use Rattle.std.specs.Prelude.{ℕ, ◌+◌, ◌-◌, List, ◌++◌, length, take}
use Rattle.onll_pmem.specs.Device.{zero_lines}

-- Lines that are written after others, one by one, over lines of zeros.

-- the lines as read once the first `front` are written; this many lines of zeros stand after them all
abbrev pub written_front : List (List ℕ) → List (List ℕ) → ℕ → ℕ → List (List ℕ)
written_front done lines front zeros = done ++ (take front lines ++ zero_lines (length lines - front + zeros))
