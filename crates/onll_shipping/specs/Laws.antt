-- The law of shipping and following, whatever code does both.

use Rattle.std.specs.Prelude.{ℕ, ◌≡◌, ◌≤◌, List, [], length, None, Ok}
use Rattle.std.specs.List.{AllByRecursion}
use Rattle.onll_model.specs.Limits.{most_threads}
use Rattle.onll_model.specs.Object.{Behaviour}
use Rattle.onll_model.specs.Trace.{state_after}
use Rattle.onll_merge.specs.Recovered.{Recovered, expected_heads, state_recovered}
use Rattle.onll_log.specs.Head.{heads_from}
use Rattle.onll_standby.specs.Stream.{Course, course}
use Rattle.onll_task.specs.FileLines.{FitFile}
use Rattle.onll_shipping.specs.FollowJob.{follow_data, longest_stream}
use Rattle.onll_shipping.specs.ShipJob.{HeadedLog, ready, shipped_entries, shipped_bytes}

-- The course of these logs' stream is what was recovered: no fault is shown and nothing is left, all entries are held, and its nodes
-- are those of the trace. What a report says of it is the count of these nodes and the state after them.
pub record FollowsRecovered {State Op Query Reply : Type 0} (b : Behaviour State Op Query Reply) (logs : List HeadedLog) (c : Course)
    (r : Recovered) : Type 0 where
  pub no_fault : c.shown ≡ None
  pub nothing_left : c.rest ≡ []
  pub entries : c.entries ≡ shipped_entries logs
  pub nodes : c.nodes ≡ r.nodes
  pub said : (s : State) (taken : ℕ) → follow_data b s taken c
      ≡ record { taken = taken; held = length (shipped_entries logs); followed = length r.nodes; state = state_after b s r.nodes }
  pub within : length (shipped_bytes logs) ≤ longest_stream

-- Images of the logs of a run that are ready to be shipped, and that give a state as recovery reads them: what is shipped of them
-- comes to the same nodes, and is read whole.
abbrev pub ShippedLaw : {State Op Query Reply : Type 0} → Behaviour State Op Query Reply → Type 0
ShippedLaw b = (code : ℕ) (init : List ℕ) (images : List (List (List ℕ))) (logs : List HeadedLog) (r : Recovered)
    → 1 ≤ length images → length images ≤ most_threads → AllByRecursion FitFile images → ready images ≡ Ok logs
    → state_recovered b (expected_heads code init images) images ≡ Ok r
    → FollowsRecovered b logs (course b (heads_from (length images) code init 0 (length images)) (shipped_bytes logs)) r
