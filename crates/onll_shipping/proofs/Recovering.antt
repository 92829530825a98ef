-- What is shipped of logs that recovery gives a state for is followed to that state.

use Rattle.std.proofs.Common.{ℕ, zero, suc, ◌+◌, ◌*◌, ◌≤◌, ◌≡◌, ◌≢◌, ◌==◌, Bool, true, false, List, [], ◌∷◌, ◌++◌, length, length-append, take, drop, map, Option, Some, None, Result, Ok, Err, inl, refl, sym, ap, subst, ◌∙◌, arith, true≢false, cond, append-nil, eqb-true}
use Rattle.std.specs.List.{AllByRecursion, slice_get, flat_map}
use Rattle.std.specs.Option.{option_map}
use Rattle.std.proofs.lemmas.List.{length-map, take-append-drop}
use Rattle.std.proofs.lemmas.Option.{slice_get-map}
use Rattle.onll_model.specs.Limits.{most_threads}
use Rattle.onll_model.specs.declared.node.Node.{Node}
use Rattle.onll_model.specs.Object.{Behaviour}
use Rattle.onll_model.specs.Recovered.{operations_front, where_some}
use Rattle.onll_model.specs.Segment.{Segment}
use Rattle.onll_model.specs.Trace.{state_after}
use Rattle.onll_model.specs.Frames.{Frame, Thread, Sound, resumed_thread, resumed_frame, segments_of}
use Rattle.onll_model.proofs.Lists.{some_not_none, all_append, all_left, all_take, all_drop, all_map}
use Rattle.onll_model.proofs.FirstFrames.{resumed_sound}
use Rattle.onll_log.specs.declared.head.LogHead.{LogHead}
use Rattle.onll_log.specs.Head.{word, head_line, head_for, heads_from}
use Rattle.onll_log.specs.Encoding.{log_lines, FitsNode, FitsEntry}
use Rattle.onll_log.specs.Grammar.{Content, format_in, used_with}
use Rattle.onll_log.specs.ImageFile.{longest_image, whole_lines}
use Rattle.onll_log.specs.Torn.{IsLine, AreLines}
use Rattle.onll_log.proofs.Written.{IsWritten-Holds}
use Rattle.onll_merge.specs.declared.fault.ImagesFault.{ImagesFault}
use Rattle.onll_merge.specs.declared.fault.RecoverFault.{RecoverFault}
use Rattle.onll_merge.specs.declared.fault.StateFault.{StateFault}
use Rattle.onll_merge.specs.declared.fault.StateFault.TheVariants.{NotOperation}
use Rattle.onll_merge.specs.Merge.{merge}
use Rattle.onll_merge.specs.Laws.{EachSegment, HeadsFit}
use Rattle.onll_merge.specs.FrameLogs.{AreLogsOf}
use Rattle.onll_merge.specs.Resumed.{entries_of, CanGoOn}
use Rattle.onll_merge.specs.Recovered.{Recovered, recovered_with, content_before, contents_from, heads_for, expected_heads, with_logs, merged, with_operations, state_recovered}
use Rattle.onll_merge.proofs.Backs.{merge-back}
use Rattle.onll_merge.proofs.Resumed.{can_go_on}
use Rattle.onll_outside.specs.LineFiles.{IsWholeLine}
use Rattle.onll_areas.proofs.LinesBack.{whole_back}
use Rattle.onll_standby.specs.Held.{HeldEntry, log_held}
use Rattle.onll_standby.specs.Stream.{AreStreamHeads, Course, course, lines_course}
use Rattle.onll_standby.specs.Shipped.{IsOfThreads, IsLogNode, AreFronts, AreAllOf, lines_of_entry, lines_of_entries, head_lines, stream_lines}
use Rattle.onll_standby.specs.Laws.{FollowsTrace, FollowsMerge}
use Rattle.onll_standby.proofs.Followed.{follows_trace}
use Rattle.onll_standby.proofs.Recovered.{follows_merge}
use Rattle.onll_outside.proofs.WholeLines.{length-image_bytes}
use Rattle.onll_task.specs.FileLines.{FitFile}
use Rattle.onll_shipping.specs.FollowJob.{longest_stream}
use Rattle.onll_shipping.specs.Laws.{FollowsRecovered}
use Rattle.onll_shipping.specs.ShipJob.{HeadedLog, ready, heads_in, entries_in, most_entries, shipped_entries, shipped_lines, shipped_bytes}
use Rattle.onll_shipping.specs.Turns.{first_entry, after_entry, put_in_turns}
use Rattle.onll_shipping.proofs.RunHeads.{run_heads_expected}
use Rattle.onll_shipping.proofs.InTurns.{held_all, turns_of_threads}
use Rattle.onll_shipping.proofs.StreamLines.{entry_lists, lines_left, turns_lists}
use Rattle.onll_shipping.proofs.ReadyLogs.{content_with, HoldLogs, hold_logs, have_heads, have_none}

-- ---- lists of lists of lines
abbrev joined : List (List (List ℕ)) → List (List ℕ)
joined [] = []
joined (ls ∷ lists) = ls ++ joined lists

abbrev total : List (List (List ℕ)) → ℕ
total [] = 0
total (ls ∷ lists) = length ls + total lists

total-joined : (lists : List (List (List ℕ))) → length (joined lists) ≡ total lists
total-joined [] = refl
total-joined (ls ∷ lists) = let a = length-append ls (joined lists) in let r = total-joined lists in omega (arith, a, r)

total-append : (xs ys : List (List (List ℕ))) → total (xs ++ ys) ≡ total xs + total ys
total-append [] ys = omega arith
total-append (x ∷ xs) ys = let r = total-append xs ys in omega (arith, r)

total-entry : (ls : List (List ℕ)) → total (first_entry ls) + length (after_entry ls) ≡ length ls
total-entry [] = refl
total-entry (l ∷ ls) =
    let n : ℕ = word l 4 in
    let a = length-append (take n ls) (drop n ls) in let s = ap (λ (z : List (List ℕ)). length z) (take-append-drop n ls) in
    omega (arith, a, s)

total-turn : (logs : List (List (List ℕ))) → total (flat_map first_entry logs) + total (map after_entry logs) ≡ total logs
total-turn [] = refl
total-turn (ls ∷ logs) =
    let a = total-append (first_entry ls) (flat_map first_entry logs) in let e = total-entry ls in let r = total-turn logs in
    omega (arith, a, e, r)

total-turns : (n : ℕ) (logs : List (List (List ℕ))) → total (put_in_turns n logs) ≤ total logs
total-turns zero logs = omega arith
total-turns (suc n) logs =
    let a = total-append (flat_map first_entry logs) (put_in_turns n (map after_entry logs)) in let t = total-turn logs in let r = total-turns n (map after_entry logs) in
    omega (arith, a, t, r)

module _ (P : List ℕ → Type 0) where
  abbrev Each : List (List ℕ) → Type 0
  Each ls = AllByRecursion P ls

  each_joined : (lists : List (List (List ℕ))) → AllByRecursion Each lists → Each (joined lists)
  each_joined [] h = tt
  each_joined (ls ∷ lists) h = all_append P ls (joined lists) h.0 (each_joined lists h.1)

  each_first : (logs : List (List (List ℕ))) → AllByRecursion Each logs → AllByRecursion Each (flat_map first_entry logs)
  each_first [] h = tt
  each_first ([] ∷ logs) h = each_first logs h.1
  each_first ((l ∷ ls) ∷ logs) h = ((h.0.0, all_take P (word l 4) ls h.0.1), each_first logs h.1)

  each_after : (logs : List (List (List ℕ))) → AllByRecursion Each logs → AllByRecursion Each (map after_entry logs)
  each_after [] h = tt
  each_after ([] ∷ logs) h = (tt, each_after logs h.1)
  each_after ((l ∷ ls) ∷ logs) h = (all_drop P (word l 4) ls h.0.1, each_after logs h.1)

  each_put : (n : ℕ) (logs : List (List (List ℕ))) → AllByRecursion Each logs → AllByRecursion Each (put_in_turns n logs)
  each_put zero logs h = tt
  each_put (suc n) logs h = all_append Each (flat_map first_entry logs) (put_in_turns n (map after_entry logs)) (each_first logs h) (each_put n (map after_entry logs) (each_after logs h))

joined-entries : (heads : List LogHead) (es more : List HeldEntry) → joined (entry_lists heads es more) ≡ lines_of_entries heads es more
joined-entries heads es [] = refl
joined-entries heads es (e ∷ more) = ap (λ (l : List (List ℕ)). lines_of_entry (slice_get heads e.thread) es e ++ l) (joined-entries heads (es ++ e ∷ []) more)

-- ---- what is recovered
abbrev contents_with : List HeadedLog → List Content
contents_with logs = map content_with logs

contents_are : (i : ℕ) (images : List (List (List ℕ))) (logs : List HeadedLog) → HoldLogs images logs → contents_from i images ≡ Ok (contents_with logs)
contents_are i [] [] h = refl
contents_are i [] (log ∷ logs) h = absurd h
contents_are i (image ∷ images) [] h = absurd h
contents_are i (image ∷ images) (log ∷ logs) h = let one = h.0.content in let rest = contents_are (i + 1) images logs h.1 in λ j. content_before i (one j) (rest j)

module _ {State Op Query Reply : Type 0} (b : Behaviour State Op Query Reply) where
  abbrev IsOp : Node → Type 0
  IsOp x = b.op_at x.row ≢ None

  all_ops : (nodes : List Node) → length (operations_front b nodes) ≡ length nodes → AllByRecursion IsOp nodes
  all_ops [] e = tt
  all_ops (x ∷ nodes) e = by_row (b.op_at x.row) refl e (λ k. all_ops nodes k)
    where
      by_row : (o : Option Op) → b.op_at x.row ≡ o → length (where_some o (x ∷ operations_front b nodes)) ≡ suc (length nodes) → (length (operations_front b nodes) ≡ length nodes → AllByRecursion IsOp nodes)
          → IsOp x × AllByRecursion IsOp nodes
      by_row None is e more = absurd (omega (arith, e))
      by_row (Some op) is e more = ((λ none. some_not_none op (sym is ∙ none)), more (omega (arith, e)))

  record IsRecovered (found : Result Recovered ImagesFault) (r : Recovered) : Type 0 where
    is : found ≡ Ok r
    operations : AllByRecursion IsOp r.nodes

  is_recovered : (found : Result Recovered ImagesFault) (r : Recovered) → with_operations b found ≡ Ok r → IsRecovered found r
  is_recovered (Err fault) r e = absurd (cc)
  is_recovered (Ok x) r e = by_count (length (operations_front b x.nodes) == length x.nodes) refl e
    where
      by_count : (t : Bool) → length (operations_front b x.nodes) == length x.nodes ≡ t → cond {A = Result Recovered StateFault} t (Ok x) (Err (NotOperation (length (operations_front b x.nodes) + 1))) ≡ Ok r
          → IsRecovered (Ok x) r
      by_count false k e = absurd (cc)
      by_count true k e = let same : x ≡ r = (cc) in subst (IsRecovered (Ok x)) same (record { is = refl; operations = all_ops x.nodes (eqb-true _ _ k) })

merge_is : (heads : List LogHead) (logs : List Content) (r : Recovered) → with_logs logs (merge heads logs) ≡ Ok r → merge heads logs ≡ Ok r.nodes
merge_is heads logs r e = by_merge (merge heads logs) refl e
  where
    by_merge : (m : Result (List Node) RecoverFault) → merge heads logs ≡ m → with_logs logs m ≡ Ok r → merge heads logs ≡ Ok r.nodes
    by_merge (Err fault) k e = absurd (cc)
    by_merge (Ok nodes) k e = let same : recovered_with logs nodes ≡ r = (cc) in k ∙ ap (λ (x : Recovered). Ok x.nodes) same

abbrev nodes_or : Result (List Node) RecoverFault → List Node
nodes_or (Ok nodes) = nodes
nodes_or (Err fault) = []

-- ---- the heads
second_format : (image : List (List ℕ)) (format : ℕ) → format ≡ format_in image → format == 1 ≡ false → format_in image ≡ 2
second_format [] format is new = absurd (true≢false (sym (ap (λ (n : ℕ). n == 1) is) ∙ new))
second_format (l ∷ ls) format is new = by_word (word l 1 == 2) is
  where
    by_word : (t : Bool) → format ≡ cond {A = ℕ} t 2 1 → cond {A = ℕ} t 2 1 ≡ 2
    by_word true k = refl
    by_word false k = absurd (true≢false (sym (ap (λ (n : ℕ). n == 1) k) ∙ new))

record AreHeads (code : ℕ) (init : List ℕ) (threads i : ℕ) (images : List (List (List ℕ))) (logs : List HeadedLog) : Type 0 where
  expected : heads_in logs ≡ heads_for code init threads i images
  of_run : heads_in logs ≡ heads_from threads code init i (length images)
  threads_are : AllByRecursion (λ (log : HeadedLog). log.head.threads ≡ threads) logs

heads_are : (code : ℕ) (init : List ℕ) (threads i : ℕ) (images : List (List (List ℕ))) (logs : List HeadedLog) → HoldLogs images logs → HeadsFit (contents_with logs) (heads_for code init threads i images)
    → AreHeads code init threads i images logs
heads_are code init threads i [] [] h fit = record { expected = refl; of_run = refl; threads_are = tt }
heads_are code init threads i [] (log ∷ logs) h fit = absurd h
heads_are code init threads i (image ∷ images) [] h fit = absurd h
heads_are code init threads i (image ∷ images) (log ∷ logs) h fit =
    let rest = heads_are code init threads (i + 1) images logs h.1 fit.1 in
    let one : log.head ≡ head_for (format_in image) i threads code init = fit.0 in
    let two : format_in image ≡ 2 = second_format image log.head.format (ap (λ (x : LogHead). x.format) one) h.0.format in
    let new : log.head ≡ head_for 2 i threads code init = one ∙ ap (λ (n : ℕ). head_for n i threads code init) two in
    let up : i + 1 ≡ suc i = omega arith in
    let more = rest.expected in let run = rest.of_run ∙ ap (λ (n : ℕ). heads_from threads code init n (length images)) up in
    record { expected = λ j. one j ∷ more j; of_run = λ j. new j ∷ run j; threads_are = (ap (λ (x : LogHead). x.threads) one, rest.threads_are) }

-- ---- the lines of the logs
record AreLinesOf (images : List (List (List ℕ))) (logs : List HeadedLog) : Type 0 where
  heads_whole : AllByRecursion IsWholeLine (head_lines (heads_in logs))
  left_whole : AllByRecursion (λ (ls : List (List ℕ)). AllByRecursion IsWholeLine ls) (map (lines_left 0) logs)
  few : 64 * (length logs + total (map (lines_left 0) logs)) ≤ longest_image * length images
  many : length logs ≡ length images
  fit : AllByRecursion (λ (log : HeadedLog). AllByRecursion (FitsEntry log.head.threads) log.entries) logs

lines_of_logs : (images : List (List (List ℕ))) (logs : List HeadedLog) → AllByRecursion FitFile images → HoldLogs images logs → AreLinesOf images logs
lines_of_logs [] [] files h = record { heads_whole = tt; left_whole = tt; few = omega arith; many = refl; fit = tt }
lines_of_logs [] (log ∷ logs) files h = absurd h
lines_of_logs (image ∷ images) [] files h = absurd h
lines_of_logs (image ∷ images) (log ∷ logs) files h =
    let rest = lines_of_logs images logs files.1 h.1 in
    let file = files.0 in
    let eight : AreLines image = all_map IsWholeLine IsLine image (λ l k. k.eight) file.each in
    let w = IsWritten-Holds image log.head log.entries eight h.0.content in
    let after : List (List ℕ) = drop (used_with (Some log.head) log.entries) image in
    let whole = all_left IsWholeLine (log_lines log.head log.entries) after (subst (AllByRecursion IsWholeLine) w.lines file.each) in
    let n = ap (λ (l : List (List ℕ)). length l) w.lines in let a = length-append (log_lines log.head log.entries) after in
    let low = file.few in let more = rest.few in let m = rest.many in
    record {
      heads_whole = (whole.0, rest.heads_whole);
      left_whole = (whole.1, rest.left_whole);
      few = omega (arith, n, a, low, more);
      many = ap suc m;
      fit = (w.fit_entries, rest.fit);
    }

fit_logs : (threads : ℕ) (logs : List HeadedLog) → AllByRecursion (λ (log : HeadedLog). log.head.threads ≡ threads) logs → AllByRecursion (λ (log : HeadedLog). AllByRecursion (FitsEntry log.head.threads) log.entries) logs
    → EachSegment (FitsEntry threads) (contents_with logs)
fit_logs threads [] is fit = tt
fit_logs threads (log ∷ logs) is fit = (subst (λ (n : ℕ). AllByRecursion (FitsEntry n) log.entries) is.0 fit.0, fit_logs threads logs is.1 fit.1)

-- ---- the frame that a run begins with that goes on from these logs
logs_of_frame : (n : ℕ) (logs : List HeadedLog) → AreLogsOf (map (resumed_thread n) (entries_of (contents_with logs))) (heads_in logs) (contents_with logs)
logs_of_frame n [] = tt
logs_of_frame n (log ∷ logs) = (record { head_kept = refl; segments = inl refl }, logs_of_frame n logs)

entries_same : (logs : List HeadedLog) → entries_of (contents_with logs) ≡ entries_in logs
entries_same [] = refl
entries_same (log ∷ logs) = let rest = entries_same logs in λ i. log.entries ∷ rest i

thread_at : (n t : ℕ) (logs : List (List Segment)) (th : Thread) → slice_get (map (resumed_thread n) logs) t ≡ Some th → (ss : List Segment) × (slice_get logs t ≡ Some ss) × (segments_of th ≡ ss)
thread_at n t [] th e = absurd (cc)
thread_at n zero (ss ∷ logs) th e = let same : resumed_thread n ss ≡ th = (cc) in (ss, refl, ap segments_of (sym same) ∙ append-nil ss)
thread_at n (suc t) (ss ∷ logs) th e = thread_at n t logs th e

module _ {State Op Query Reply : Type 0} (b : Behaviour State Op Query Reply) (code : ℕ) (init : List ℕ) (images : List (List (List ℕ))) (logs : List HeadedLog) (r : Recovered)
    (some : 1 ≤ length images) (few : length images ≤ most_threads) (files : AllByRecursion FitFile images) (is : ready images ≡ Ok logs) (given : state_recovered b (expected_heads code init images) images ≡ Ok r) where
  abbrev threads : ℕ
  threads = length images

  hold : HoldLogs images logs
  hold = hold_logs images logs is

  abbrev hs : List LogHead
  hs = expected_heads code init images

  recovered : IsRecovered b (merged hs (contents_from 0 images)) r
  recovered = is_recovered b (merged hs (contents_from 0 images)) r given

  merges : merge hs (contents_with logs) ≡ Ok r.nodes
  merges = merge_is hs (contents_with logs) r (sym (ap (merged hs) (contents_are 0 images logs hold)) ∙ recovered.is)

  run : AreHeads code init threads 0 images logs
  run = heads_are code init threads 0 images logs hold (merge-back r.nodes hs (contents_with logs) merges).heads_fit

  lines : AreLinesOf images logs
  lines = lines_of_logs images logs files hold

  many : length (heads_in logs) ≡ threads
  many = length-map logs (λ (log : HeadedLog). log.head) ∙ lines.many

  entries_many : length (entries_in logs) ≡ threads
  entries_many = length-map logs (λ (log : HeadedLog). log.entries) ∙ lines.many

  on : CanGoOn threads r.nodes (contents_with logs)
  on = can_go_on threads r.nodes hs (contents_with logs) merges (length-map logs content_with ∙ lines.many) (fit_logs threads logs run.threads_are lines.fit)

  abbrev frame : Frame
  frame = resumed_frame r.nodes (entries_of (contents_with logs))

  sound : Sound threads frame
  sound = (resumed_sound threads r.nodes (entries_of (contents_with logs)) on.resumable).sound

  are : AreStreamHeads (heads_in logs)
  are = subst AreStreamHeads (sym run.of_run) (run_heads_expected code init threads some few)

  updates : AllByRecursion (IsLogNode b threads) frame.trace
  updates = both r.nodes on.fit recovered.operations
    where
      both : (nodes : List Node) → AllByRecursion (FitsNode threads) nodes → AllByRecursion (IsOp b) nodes → AllByRecursion (IsLogNode b threads) nodes
      both [] h k = tt
      both (x ∷ nodes) h k = ((h.0, k.0), both nodes h.1 k.1)

  abbrev es : List HeldEntry
  es = shipped_entries logs

  all : AreAllOf threads (contents_with logs) es
  all = record {
    threads = subst (λ (n : ℕ). AllByRecursion (IsOfThreads n) (shipped_entries logs)) entries_many (turns_of_threads 0 (most_entries (entries_in logs)) (entries_in logs));
    entries = λ t c at. held_all t (entries_in logs) c.entries (ap (λ (l : List (List Segment)). slice_get l t) (sym (entries_same logs)) ∙ (slice_get-map (λ (x : Content). x.entries) (contents_with logs) t ∙ ap (option_map (λ (x : Content). x.entries)) at));
  }

  fronts : AreFronts threads frame es
  fronts = record {
    threads = all.threads;
    fronts = λ t th at.
        let found = thread_at (length r.nodes) t (entries_of (contents_with logs)) th at in
        let own : log_held t (shipped_entries logs) ≡ found.0 = held_all t (entries_in logs) found.0 (ap (λ (l : List (List Segment)). slice_get l t) (sym (entries_same logs)) ∙ found.1) in
        ([], found.2 ∙ (sym own ∙ sym (append-nil (log_held t (shipped_entries logs)))));
  }

  left : AreLogsOf frame.threads (heads_in logs) (contents_with logs)
  left = logs_of_frame (length r.nodes) logs

  trace_is : FollowsTrace b frame es (lines_course b (heads_in logs) (stream_lines (heads_in logs) es))
  trace_is = follows_trace b threads frame (heads_in logs) sound many are updates es fronts

  merge_follows : FollowsMerge b (heads_in logs) (contents_with logs) (lines_course b (heads_in logs) (stream_lines (heads_in logs) es))
  merge_follows = follows_merge b threads frame (heads_in logs) (contents_with logs) es sound many are updates left all

  -- ---- the bytes
  put_lists : put_in_turns (most_entries (entries_in logs)) (map (lines_left 0) logs) ≡ entry_lists (heads_in logs) [] (shipped_entries logs)
  put_lists = turns_lists (heads_in logs) [] 0 (most_entries (entries_in logs)) logs (have_heads logs) (have_none logs)

  body_is : joined (put_in_turns (most_entries (entries_in logs)) (map (lines_left 0) logs)) ≡ lines_of_entries (heads_in logs) [] (shipped_entries logs)
  body_is = ap joined put_lists ∙ joined-entries (heads_in logs) [] (shipped_entries logs)

  whole : AllByRecursion IsWholeLine (shipped_lines logs)
  whole = all_append IsWholeLine (head_lines (heads_in logs)) (lines_of_entries (heads_in logs) [] (shipped_entries logs)) lines.heads_whole
      (subst (AllByRecursion IsWholeLine) body_is
      (each_joined IsWholeLine (put_in_turns (most_entries (entries_in logs)) (map (lines_left 0) logs))
      (each_put IsWholeLine (most_entries (entries_in logs)) (map (lines_left 0) logs) lines.left_whole)))

  bytes_back : whole_lines (shipped_bytes logs) ≡ shipped_lines logs
  bytes_back = ap whole_lines (sym (append-nil (shipped_bytes logs))) ∙ whole_back (shipped_lines logs) [] whole (omega arith)

  bytes_few : length (shipped_bytes logs) ≤ longest_stream
  bytes_few =
      let n = length-image_bytes (shipped_lines logs) whole in
      let a = length-append (head_lines (heads_in logs)) (lines_of_entries (heads_in logs) [] (shipped_entries logs)) in
      let h : length (head_lines (heads_in logs)) ≡ length (heads_in logs) = length-map (heads_in logs) head_line in
      let k = many in let l = lines.many in
      let body = ap (λ (z : List (List ℕ)). length z) body_is in
      let j = total-joined (put_in_turns (most_entries (entries_in logs)) (map (lines_left 0) logs)) in
      let t = total-turns (most_entries (entries_in logs)) (map (lines_left 0) logs) in
      let f = lines.few in
      omega (arith, n, a, h, k, l, body, j, t, f, few)

  pub follows_recovered : FollowsRecovered b logs (course b (heads_from (length images) code init 0 (length images)) (shipped_bytes logs)) r
  follows_recovered =
      let c : Course = lines_course b (heads_in logs) (shipped_lines logs) in
      let there : c ≡ course b (heads_from (length images) code init 0 (length images)) (shipped_bytes logs) =
      (λ i. lines_course b (run.of_run i) (sym bytes_back i)) in
      let again : merge hs (contents_with logs) ≡ Ok c.nodes = ap (λ (heads : List LogHead). merge heads (contents_with logs)) (sym run.expected) ∙ merge_follows.merged in
      let nodes : c.nodes ≡ r.nodes = ap nodes_or (sym again ∙ merges) in
      let entries : c.entries ≡ shipped_entries logs = trace_is.entries in
      subst (λ (z : Course). FollowsRecovered b logs z r) there (record {
        no_fault = merge_follows.no_fault;
        nothing_left = trace_is.nothing_left;
        entries = entries;
        nodes = nodes;
        said = λ s taken. λ i. record { taken = taken; held = length (entries i); followed = length (nodes i); state = state_after b s (nodes i) };
        within = bytes_few;
      })
