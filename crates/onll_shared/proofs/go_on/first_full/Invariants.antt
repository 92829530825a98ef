use Rattle.std.proofs.Common.{◌≡◌, ◌<◌, ◌≤◌, ◌+◌, ℕ, Some, count_by}
use Rattle.std.specs.List.{slice_get}
use Rattle.onll_model.specs.Trace.{is_of_thread}
use Rattle.onll_shared.proofs.go_on.first_full.Given as goal

abbrev pub invariant-loop-thread : goal.invariant-loop-thread
invariant-loop-thread l = (t room : ℕ) → t < l.thread → slice_get l.rooms t ≡ Some room → count_by (is_of_thread t) l.base + room ≤ 4096
