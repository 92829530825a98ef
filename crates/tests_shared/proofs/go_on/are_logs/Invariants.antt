use Rattle.std.proofs.Common.{◌≡◌, ◌<◌, ℕ, Some, length}
use Rattle.std.specs.List.{slice_get}
use Rattle.onll_log.specs.Log.{LogState}
use Rattle.onll_shared.specs.Starts.{IsWholeLogOf}
use Rattle.tests_shared.proofs.go_on.are_logs.Given as goal

abbrev pub invariant-loop-thread : goal.invariant-loop-thread
invariant-loop-thread g l = (t : ℕ) (log : LogState _) → t < l.thread → slice_get l.logs t ≡ Some log → IsWholeLogOf (length l.logs) t log
