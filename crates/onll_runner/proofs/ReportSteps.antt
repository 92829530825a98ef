-- The parts of a run's report, as they are appended one after the other.

use Rattle.std.proofs.Common.{ℕ, zero, suc, ◌≡◌, ◌+◌, ◌<◌, ◌^◌, List, [], ◌∷◌, ◌++◌, Option, Some, IsSome, length, drop, get_or, map, refl, sym, ap, ◌∙◌, subst, arith}
use Rattle.std.specs.List.{All, AllByRecursion, slice_get}
use Rattle.std.proofs.lemmas.List.{drop_more}
use Rattle.std.proofs.lemmas.List.Elements.{All-cons}
use Rattle.onll_words.specs.Texts.{AreWords, line_text}
use Rattle.onll_words.proofs.Decimals.{IsWord-decimal}
use Rattle.onll_model.specs.declared.node.Node.{Node}
use Rattle.onll_model.specs.declared.call.Call.{Call}
use Rattle.onll_model.specs.declared.call.CallEnd.{CallEnd}
use Rattle.onll_model.specs.Object.{Behaviour}
use Rattle.onll_pmem.specs.Pmem.{DeviceView}
use Rattle.onll_log.specs.Log.{LogState}
use Rattle.onll_merge.specs.declared.counts.LogCounts.{LogCounts}
use Rattle.onll_merge.specs.Recovered.{log_counts}
use Rattle.onll_trace.specs.declared.trace.Ended.{Ended}
use Rattle.onll_run.specs.declared.run.DoneScript.{DoneScript}
use Rattle.onll_run.specs.Outcomes.{failed_in}
use Rattle.onll_run.specs.Left.{AllOver, content_in}
use Rattle.onll_run.specs.Ended.{log_left}
use Rattle.onll_run.specs.Ran.{script_in, ends_in, node_in, flag_in}
use Rattle.onll_text.specs.Wording.{Wording}
use Rattle.onll_text.specs.Bytes.{with_lines}
use Rattle.onll_text.specs.Lines.{call_lines, node_line, log_line, LogData, thread_lines, flagged_lines, counted_lines, fence_line}
use Rattle.onll_text.specs.Reports.{EndsRead, NodeReads, LogReads, EachReads}
use Rattle.onll_text.proofs.Appending.{with_lines-one, with_lines-append}
use Rattle.onll_task.specs.RunSaid.{log_data}
use Rattle.onll_runner.specs.RunReport.{faults_at, fault_lines}

-- ---- lists
pub here_at : {A : Type 0} (xs : List A) (i : ℕ) (x : A) → i < length xs → x ≡ get_or xs i x → slice_get xs i ≡ Some x
here_at [] i x h e = absurd (omega arith)
here_at (y ∷ xs) zero x h e = ap Some (sym e)
here_at (y ∷ xs) (suc i) x h e = here_at xs i x (omega arith) e

pub left_at : {A : Type 0} (xs : List A) (i : ℕ) (x : A) → i < length xs → x ≡ get_or xs i x → drop i xs ≡ x ∷ drop (i + 1) xs
left_at xs i x h same = drop_more xs i x h ∙ ap (λ y. y ∷ drop (i + 1) xs) (sym same)

-- ---- the threads
module _ {State Op Query Reply : Type 0} where
  -- each call of each script is over
  pub over_at : (ds : List (DoneScript State Op Query Reply)) (t : ℕ) (d : DoneScript State Op Query Reply) → AllOver (map script_in ds) (map ends_in ds) → t < length ds → d ≡ get_or ds t d
      → length (ends_in d) ≡ length (script_in d)
  over_at [] t d h low same = absurd (omega arith)
  over_at (x ∷ ds) zero d h low same = subst (λ (z : DoneScript State Op Query Reply). length (ends_in z) ≡ length (script_in z)) (sym same) h.0
  over_at (x ∷ ds) (suc t) d h low same = over_at ds t d h.2 (omega arith) same

  -- one thread's lines before those of the rest
  pub thread_more : (w : Wording State Op Query Reply) (out text : List ℕ) (t : ℕ) (ds : List (DoneScript State Op Query Reply)) (d : DoneScript State Op Query Reply) (script : List (Call State Op Query Reply)) (ends : List (CallEnd State Op Query Reply))
      → t < length ds → d ≡ get_or ds t d → script ≡ script_in d → ends ≡ ends_in d → text ≡ with_lines out (call_lines w t 0 script ends)
      → with_lines text (thread_lines w (t + 1) (map script_in (drop (t + 1) ds)) (map ends_in (drop (t + 1) ds))) ≡ with_lines out (thread_lines w t (map script_in (drop t ds)) (map ends_in (drop t ds)))
  thread_more w out text t ds d script ends h same hs he e =
      let rest = thread_lines w (t + 1) (map script_in (drop (t + 1) ds)) (map ends_in (drop (t + 1) ds)) in
      ap (λ z. with_lines z rest) e
      ∙ ap (λ (l : List (Call State Op Query Reply)). with_lines (with_lines out (call_lines w t 0 l ends)) rest) hs
      ∙ ap (λ (l : List (CallEnd State Op Query Reply)). with_lines (with_lines out (call_lines w t 0 (script_in d) l)) rest) he
      ∙ sym (with_lines-append out (call_lines w t 0 (script_in d) (ends_in d)) rest)
      ∙ ap (λ (l : List (DoneScript State Op Query Reply)). with_lines out (thread_lines w t (map script_in l) (map ends_in l))) (sym (left_at ds t d h same))

  pub thread_reads : (w : Wording State Op Query Reply) (t : ℕ) (ds : List (DoneScript State Op Query Reply)) (d : DoneScript State Op Query Reply) (script : List (Call State Op Query Reply)) (ends : List (CallEnd State Op Query Reply))
      → t < length ds → d ≡ get_or ds t d → script ≡ script_in d → ends ≡ ends_in d → EndsRead w script ends
      → EachReads w (map script_in (drop (t + 1) ds)) (map ends_in (drop (t + 1) ds)) → EachReads w (map script_in (drop t ds)) (map ends_in (drop t ds))
  thread_reads w t ds d script ends h same hs he reads rest =
      let own : EndsRead w (script_in d) (ends_in d) =
      subst (λ (l : List (CallEnd State Op Query Reply)). EndsRead w (script_in d) l) he (subst (λ (l : List (Call State Op Query Reply)). EndsRead w l ends) hs reads) in
      subst (λ (l : List (DoneScript State Op Query Reply)). EachReads w (map script_in l) (map ends_in l)) (sym (left_at ds t d h same)) (own, rest)

  -- the lines of one thread's fence before those of the rest
  pub fault_more : (out text : List ℕ) (t : ℕ) (ds : List (DoneScript State Op Query Reply)) (d : DoneScript State Op Query Reply) (ends : List (CallEnd State Op Query Reply)) (place : Option ℕ)
      → t < length ds → d ≡ get_or ds t d → ends ≡ ends_in d → place ≡ failed_in ends → text ≡ with_lines out (faults_at t place)
      → with_lines text (fault_lines (t + 1) (map ends_in (drop (t + 1) ds))) ≡ with_lines out (fault_lines t (map ends_in (drop t ds)))
  fault_more out text t ds d ends place h same he at e =
      let rest = fault_lines (t + 1) (map ends_in (drop (t + 1) ds)) in
      ap (λ z. with_lines z rest) e
      ∙ ap (λ (p : Option ℕ). with_lines (with_lines out (faults_at t p)) rest) (at ∙ ap failed_in he)
      ∙ sym (with_lines-append out (faults_at t (failed_in (ends_in d))) rest)
      ∙ ap (λ (l : List (DoneScript State Op Query Reply)). with_lines out (fault_lines t (map ends_in l))) (sym (left_at ds t d h same))

-- ---- the trace
module _ {State Op Query Reply : Type 0} (b : Behaviour State Op Query Reply) (w : Wording State Op Query Reply) where
  -- one node's line before those of the rest
  pub node_more : (out text : List ℕ) (i : ℕ) (trace : List Ended) (none : Ended) → i < length trace → text ≡ out ++ line_text (node_line b w (i + 1) (get_or trace i none).node (Some (get_or trace i none).flag))
      → with_lines text (flagged_lines b w (i + 1) (map node_in (drop (i + 1) trace)) (map flag_in (drop (i + 1) trace))) ≡ with_lines out (flagged_lines b w i (map node_in (drop i trace)) (map flag_in (drop i trace)))
  node_more out text i trace none h e =
      let end : Ended = get_or trace i none in
      let rest = flagged_lines b w (i + 1) (map node_in (drop (i + 1) trace)) (map flag_in (drop (i + 1) trace)) in
      ap (λ t. with_lines t rest) e
      ∙ sym (with_lines-one out (node_line b w (i + 1) end.node (Some end.flag)) rest)
      ∙ ap (λ (l : List Ended). with_lines out (flagged_lines b w i (map node_in l) (map flag_in l))) (sym (drop_more trace i none h))

  pub node_reads : (i : ℕ) (trace : List Ended) (none : Ended) → i < length trace → NodeReads b w (get_or trace i none).node
      → All (NodeReads b w) (map node_in (drop (i + 1) trace)) → All (NodeReads b w) (map node_in (drop i trace))
  node_reads i trace none h reads rest =
      subst (λ (l : List Ended). All (NodeReads b w) (map node_in l)) (sym (drop_more trace i none h)) (All-cons (NodeReads b w) (get_or trace i none).node (map node_in (drop (i + 1) trace)) reads rest)

  -- its row is an operation's, and so are those of the rest
  pub operations_more : (i : ℕ) (trace : List Ended) (none : Ended) → i < length trace → AllByRecursion (λ (n : Node). IsSome (b.op_at n.row)) (map node_in (drop i trace))
      → IsSome (b.op_at (get_or trace i none).node.row) × AllByRecursion (λ (n : Node). IsSome (b.op_at n.row)) (map node_in (drop (i + 1) trace))
  operations_more i trace none h all =
      subst (λ (l : List Ended). AllByRecursion (λ (n : Node). IsSome (b.op_at n.row)) (map node_in l)) (drop_more trace i none h) all

-- ---- the logs
module _ {Device : Type 0} (means : Device → DeviceView) where
  abbrev pub told : List (LogState Device) → List LogData
  told logs = map log_data (map (log_left means) logs)

  -- what recovery counts of a log
  pub counts_at : (logs : List (LogState Device)) (t : ℕ) (none : LogCounts) (log : LogState Device) (counts : List LogCounts) → counts ≡ map log_counts (map content_in (map (log_left means) logs))
      → t < length logs → log ≡ get_or logs t log → get_or counts t none ≡ log_counts (content_in (log_left means log))
  counts_at logs t none log counts e h same = ap (λ (l : List LogCounts). get_or l t none) e ∙ by logs t h same
    where
      by : (logs : List (LogState Device)) (t : ℕ) → t < length logs → log ≡ get_or logs t log → get_or (map log_counts (map content_in (map (log_left means) logs))) t none ≡ log_counts (content_in (log_left means log))
      by [] t h same = absurd (omega arith)
      by (l ∷ logs) zero h same = ap (λ (x : LogState Device). log_counts (content_in (log_left means x))) (sym same)
      by (l ∷ logs) (suc t) h same = by logs t (omega arith) same

  -- one log's line before those of the rest
  pub log_more : (out text : List ℕ) (t : ℕ) (logs : List (LogState Device)) (log : LogState Device) (held : LogCounts) (fences : ℕ) → t < length logs → log ≡ get_or logs t log
      → held ≡ log_counts (content_in (log_left means log)) → fences ≡ log.fences → text ≡ out ++ line_text (log_line t held.entries held.lines (Some fences))
      → with_lines text (counted_lines (t + 1) (told (drop (t + 1) logs))) ≡ with_lines out (counted_lines t (told (drop t logs)))
  log_more out text t logs log held fences h same is count e =
      let rest = counted_lines (t + 1) (told (drop (t + 1) logs)) in
      ap (λ z. with_lines z rest) e
      ∙ sym (with_lines-one out (log_line t held.entries held.lines (Some fences)) rest)
      ∙ ap (λ (c : LogCounts). with_lines out (log_line t c.entries c.lines (Some fences) ∷ rest)) is
      ∙ ap (λ (n : ℕ). with_lines out (log_line t (log_counts (content_in (log_left means log))).entries (log_counts (content_in (log_left means log))).lines (Some n) ∷ rest)) count
      ∙ ap (λ (l : List (LogState Device)). with_lines out (counted_lines t (told l))) (sym (left_at logs t log h same))

  pub log_reads : (t : ℕ) (logs : List (LogState Device)) (log : LogState Device) (held : LogCounts) (fences : ℕ) → t < length logs → log ≡ get_or logs t log
      → held ≡ log_counts (content_in (log_left means log)) → fences ≡ log.fences → held.entries < 2 ^ 64 → held.lines < 2 ^ 64 → fences < 2 ^ 64
      → All LogReads (told (drop (t + 1) logs)) → All LogReads (told (drop t logs))
  log_reads t logs log held fences h same is count entries lines few rest =
      subst (λ (l : List (LogState Device)). All LogReads (told l)) (sym (left_at logs t log h same))
      (All-cons LogReads (log_data (log_left means log)) (told (drop (t + 1) logs)) (record {
        entries = subst (λ (c : LogCounts). c.entries < 2 ^ 64) is entries;
        lines = subst (λ (c : LogCounts). c.lines < 2 ^ 64) is lines;
        fences = subst (λ (n : ℕ). n < 2 ^ 64) count few;
      }) rest)

-- ---- the fences that failed
pub fault_in_words : (thread place : ℕ) → AreWords (fence_line thread place)
fault_in_words thread place = (
  record { some = refl; bytes = refl },
  (record { some = refl; bytes = refl }, (IsWord-decimal thread, (record { some = refl; bytes = refl }, (IsWord-decimal place, tt)))),
)
