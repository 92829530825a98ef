use Rattle.std.specs.Prelude.{ℕ, ◌<◌, List, length, slice_index, slice_index_or}
use Rattle.std.specs.List.{AllWithin}
use Rattle.onll_log.specs.declared.decoded.Entry.{Entry}
use Rattle.onll_log.specs.declared.decoded.Decoded.{Decoded}

-- How far logs are read whose places are asked for from below.

-- the first entries of a log, as many as were passed, end below this place
abbrev pub ArePassed : List Entry → ℕ → ℕ → Type 0
ArePassed entries passed place = AllWithin (λ e. e.place < place) entries 0 passed

-- so it is with each log
abbrev pub ArePassedInAll : List Decoded → List ℕ → ℕ → Type 0
ArePassedInAll logs passed place =
    (k : ℕ) (d : Decoded) → k < length logs → ArePassed (slice_index_or logs k d).entries (slice_index passed k) place
