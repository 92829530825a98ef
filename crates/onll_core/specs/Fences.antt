use Rattle.std.specs.Prelude.{ℕ, ◌≡◌, ◌+◌, take, length}
use Rattle.onll_model.specs.Calls.{updates_in}
use Rattle.onll_core.specs.declared.phase.Phase.{Phase}
use Rattle.onll_core.specs.declared.phase.Phase.TheVariants as phases
use Rattle.onll_core.specs.Core.{CoreThread, CoreState}
use Rattle.onll_core.specs.Consistent.{EachCoreThread}

-- How often a thread has fenced its log.

-- the running update has fenced exactly where its own flag is set next
abbrev pub fenced_in : Phase → ℕ
fenced_in phases.Idle = 0
fenced_in (phases.Tail l) = 0
fenced_in (phases.Exchange l) = 0
fenced_in (phases.Flag p d) = 0
fenced_in (phases.Line p d k) = 0
fenced_in (phases.Back p d k) = 0
fenced_in (phases.Fence p d) = 0
fenced_in (phases.Set p d) = 1
fenced_in (phases.Ask f d) = 0

-- the updates of a thread that have returned
abbrev pub updates_returned : {State Op Query Reply : Type 0} → CoreThread State Op Query Reply → ℕ
updates_returned th = updates_in (take (length th.returned) th.script)

-- the fences of this generation: one for each returned update, and one where the running update has fenced
abbrev pub fences_of : {State Op Query Reply : Type 0} → CoreThread State Op Query Reply → ℕ
fences_of th = updates_returned th + fenced_in th.phase

-- A device has made these beside those that it had made before, the header's where it was begun and none where it was found; a
-- read fences nothing.
abbrev pub CountsFences : {State Op Query Reply : Type 0} → CoreState State Op Query Reply → Type 0
CountsFences c = EachCoreThread c (λ t th. th.device.fences ≡ th.before + fences_of th)
