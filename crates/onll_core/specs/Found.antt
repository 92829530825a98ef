-- The threads and replicas that code makes of what images give.
use Rattle.std.specs.Prelude.{ℕ, zero, suc, ◌+◌, ◌*◌, ◌<◌, ◌≤◌, ◌==◌, max, if◌then◌else◌, List, [], ◌∷◌, ◌++◌, length, take, count_by}
use Rattle.onll_model.specs.Limits.{most_threads, most_updates}
use Rattle.onll_model.specs.declared.call.Call.{Call}
use Rattle.onll_model.specs.declared.node.Node.{Node}
use Rattle.onll_model.specs.Trace.{is_of_thread}
use Rattle.onll_model.specs.Calls.{updates_in}
use Rattle.onll_pmem.specs.Device.{zero_lines, fenced_device}
use Rattle.onll_log.specs.declared.head.LogHead.{LogHead}
use Rattle.onll_log.specs.Head.{head_line}
use Rattle.onll_merge.specs.declared.counts.LogCounts.{LogCounts}
use Rattle.onll_start.specs.Start.{most_lines}
use Rattle.onll_core.specs.declared.local.Local.{Local}
use Rattle.onll_core.specs.declared.phase.Phase.TheVariants as phases
use Rattle.onll_core.specs.Core.{CoreThread}

-- ---- threads
-- the lines with which a device begins: the used ones of an image, or the head's where there are none
abbrev pub front_lines : LogHead → ℕ → List (List ℕ) → List (List ℕ)
front_lines head lines image = if lines == 0 then head_line head ∷ [] else take lines image

-- a thread that goes on in the log of this image, which has used this many lines by this many entries
abbrev pub found_thread : {State Op Query Reply : Type 0} → LogHead → List (List ℕ) → LogCounts → List (Call State Op Query Reply)
    → CoreThread State Op Query Reply
found_thread head image log script = record {
  head = head;
  script = script;
  returned = [];
  phase = phases.Idle;
  began = 0;
  used = max 1 log.lines;
  logged = log.entries;
  before = 0;
  device = fenced_device (front_lines head log.lines image ++ zero_lines (updates_in script * (head.threads + 1)));
}

abbrev pub found_threads : {State Op Query Reply : Type 0} → List LogHead → List (List (List ℕ)) → List LogCounts
    → List (List (Call State Op Query Reply)) → List (CoreThread State Op Query Reply)
found_threads (head ∷ heads) (image ∷ more) (log ∷ logs) (script ∷ scripts) =
    found_thread head image log script ∷ found_threads heads more logs scripts
found_threads heads more logs scripts = []

-- the log has the lines that it is said to use, and there is room for an entry of each update
pub record HasLogRoom {State Op Query Reply : Type 0} (head : LogHead) (image : List (List ℕ)) (log : LogCounts)
    (script : List (Call State Op Query Reply)) : Type 0 where
  pub threads : head.threads ≤ most_threads
  pub updates : updates_in script ≤ most_updates
  pub within : log.lines ≤ length image
  pub entries : log.entries < max 1 log.lines
  pub room : max 1 log.lines + updates_in script * (head.threads + 1) ≤ most_lines

abbrev pub HaveLogRoom : {State Op Query Reply : Type 0} → List LogHead → List (List (List ℕ)) → List LogCounts
    → List (List (Call State Op Query Reply)) → Type 0
HaveLogRoom [] [] [] [] = Unit {0}
HaveLogRoom (head ∷ heads) (image ∷ more) (log ∷ logs) (script ∷ scripts) =
    HasLogRoom head image log script × HaveLogRoom heads more logs scripts
HaveLogRoom heads more logs scripts = ⊥

-- ---- replicas
-- a replica of the object for each of this many threads, from thread t on, after all nodes
abbrev pub locals_from : {State Op Query Reply : Type 0} → State → List Node → ℕ → ℕ → List (Local State Op Query Reply)
locals_from object nodes t zero = []
locals_from object nodes t (suc n) =
    record { object = object; place = length nodes; linked = count_by (is_of_thread t) nodes } ∷ locals_from object nodes (suc t) n
