-- The entry that an update writes into its log, line by line.

use Rattle.std.specs.Prelude.{ℕ, ◌≤◌, ◌++◌, length}
use Rattle.std.specs.List.{AllByRecursion}
use Rattle.std.specs.Option.{option_to_list}
use Rattle.onll_model.specs.Segment.{Segment}
use Rattle.onll_core.specs.Core.{CoreState}
use Rattle.onll_core.specs.CoreFrame.{pending_in, fenced_entries}
use Rattle.onll_core.specs.Consistent.{EachCoreThread}

-- each entry that a device holds or that is being written has at most this many nodes
abbrev pub EntriesAreFew : {State Op Query Reply : Type 0} → ℕ → CoreState State Op Query Reply → Type 0
EntriesAreFew count c = EachCoreThread c
    (λ t th. AllByRecursion (λ (s : Segment). length s.nodes ≤ count)
    (fenced_entries th.head th.device ++ option_to_list (pending_in c.trace th.phase)))
