-- What scripts go on from, where images give it: their logs, the nodes of the trace, and room for each script.
use Rattle.std.specs.Prelude.{ℕ, ◌≡◌, ◌+◌, ◌*◌, ◌≤◌, max, List, [], ◌∷◌, length, map, count_by, Some, Ok, IsSome}
use Rattle.std.specs.List.{AllByRecursion}
use Rattle.onll_model.specs.Limits.{most_updates}
use Rattle.onll_model.specs.declared.call.Call.{Call}
use Rattle.onll_model.specs.declared.node.Node.{Node}
use Rattle.onll_model.specs.Object.{Behaviour}
use Rattle.onll_model.specs.Trace.{is_of_thread}
use Rattle.onll_model.specs.Calls.{updates_in}
use Rattle.onll_log.specs.declared.head.LogHead.{LogHead}
use Rattle.onll_log.specs.Grammar.{Content, content_of, used_by}
use Rattle.onll_merge.specs.Merge.{merge}
use Rattle.onll_start.specs.Start.{Found, base_in, most_lines}

-- Each of so many threads, from thread t on, has names for the updates of its script beside its recovered nodes, and its log has lines
-- for a whole entry of each, where a log that is still to be begun has its head's line.
abbrev pub HaveRoom : {State Op Query Reply : Type 0} → ℕ → List Node → ℕ → List Content → List (List (Call State Op Query Reply)) → Type 0
HaveRoom threads nodes t [] [] = Unit {0}
HaveRoom threads nodes t (log ∷ logs) (script ∷ scripts) =
    (count_by (is_of_thread t) nodes + updates_in script ≤ most_updates)
    × (max 1 (used_by log) + updates_in script * (threads + 1) ≤ most_lines)
    × HaveRoom threads nodes (t + 1) logs scripts
HaveRoom threads nodes t logs scripts = ⊥

module _ {State Op Query Reply : Type 0} (b : Behaviour State Op Query Reply) where
  -- The images are logs of one run with these heads, which merge to nodes of operations, and there is room for the scripts.
  pub record IsBase (heads : List LogHead) (scripts : List (List (Call State Op Query Reply))) (images : List (List (List ℕ)))
      (found : Found) : Type 0 where
    pub contents : map content_of images ≡ map Some found.logs
    pub merged : merge heads found.logs ≡ Ok found.nodes
    pub operations : AllByRecursion (λ (n : Node). IsSome (b.op_at n.row)) found.nodes
    pub room : HaveRoom (length heads) found.nodes 0 found.logs scripts

  -- what images give to scripts is such a base
  abbrev pub BaseLaw : Type 0
  BaseLaw = (heads : List LogHead) (scripts : List (List (Call State Op Query Reply))) (images : List (List (List ℕ))) (found : Found)
      → length images ≡ length scripts → base_in b heads scripts images ≡ Ok found → IsBase heads scripts images found
