-- Why no object goes on from logs.
use Rattle.std.specs.Prelude.{ℕ, List, ◌≡◌, ◌+◌, ◌<◌, ◌≤◌, map, Some, Ok, Err, count_by}
use Rattle.std.specs.List.{slice_get}
use Rattle.onll_model.specs.declared.node.Node.{Node}
use Rattle.onll_model.specs.Limits.{most_updates}
use Rattle.onll_model.specs.Trace.{is_of_thread}
use Rattle.onll_log.specs.Log.{LogState}
use Rattle.onll_merge.specs.Merge.{merge}
use Rattle.onll_shared.specs.declared.go_on.GoOnFault.{GoOnFault}
use Rattle.onll_shared.specs.declared.go_on.GoOnFault.TheVariants as faults
use Rattle.onll_shared.specs.Found.{content_held, head_held}

-- the first thread whose nodes and room are more than the numbers that a thread has
pub record IsFull (base : List Node) (rooms : List ℕ) (t : ℕ) : Type 0 where
  pub room : ℕ
  pub room_is : slice_get rooms t ≡ Some room
  pub many : most_updates < count_by (is_of_thread t) base + room
  pub first : (u r : ℕ) → u < t → slice_get rooms u ≡ Some r → count_by (is_of_thread u) base + r ≤ most_updates

-- The logs are not those of one run; or they merge to nodes that leave a thread too few numbers.
abbrev pub CannotGoOn : {Device : Type 0} → List (LogState Device) → List ℕ → GoOnFault → Type 0
CannotGoOn logs rooms (faults.NotOneRun fault) = merge (map head_held logs) (map content_held logs) ≡ Err fault
CannotGoOn logs rooms (faults.NoRoom t) =
    (base : List Node) × (merge (map head_held logs) (map content_held logs) ≡ Ok base) × IsFull base rooms t
CannotGoOn logs rooms faults.NoMemory = Unit {0}
