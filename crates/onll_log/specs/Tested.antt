-- What decides what an image holds.
use Rattle.std.specs.Prelude.{ℕ, max, Option, Some, None}
use Rattle.onll_log.specs.Grammar.{Content, used_by}

-- how many lines decide what an image holds: those of its head and its entries, one where it is all zero, none where it is no log
abbrev pub used_in : Option Content → ℕ
used_in None = 0
used_in (Some content) = max 1 (used_by content)
