-- The text of a report that a run prints has the form of a report, and says what the run did.
use Rattle.std.proofs.Common.{ℕ, suc, Bool, true, false, List, [], ◌∷◌, ◌++◌, ◌≡◌, ◌+◌, ◌<◌, ◌≤◌, ◌^◌, not, length, map, is_some, codes, decimal, get_or, Some, Result, Ok, refl, ap, sym, ◌∙◌, arith, append_assoc}
use Rattle.std.specs.List.{All, AllByRecursion, slice_split, flat_map, list_all, join_with_byte}
use Rattle.std.proofs.lemmas.List.Elements.{All-head, All-tail}
use Rattle.std.proofs.lemmas.List.Splits.{slice_split_at}
use Rattle.std.proofs.lemmas.List.Sums.{AllPass-from_list_all}
use Rattle.onll_words.specs.Texts.{is_line_end, joined, line_text, AreWords}
use Rattle.onll_words.proofs.Decimals.{IsWord-decimal}
use Rattle.onll_words.proofs.Joined.{list_all-joined}
use Rattle.onll_model.specs.declared.node.Node.{Node}
use Rattle.onll_model.specs.declared.call.Call.{Call}
use Rattle.onll_model.specs.declared.call.Call.TheVariants.{Update, Ask}
use Rattle.onll_model.specs.declared.call.CallEnd.{CallEnd}
use Rattle.onll_model.specs.Calls.{updates_in, reads_in}
use Rattle.onll_model.specs.Object.{Behaviour}
use Rattle.onll_model.specs.Legal.{IsOver}
use Rattle.onll_text.specs.Refusal.{◌>>=◌}
use Rattle.onll_text.specs.Wording.{Wording}
use Rattle.onll_text.specs.Lines.{LogData, call_words, end_words, call_line, call_lines, thread_lines, trace_line, node_line, flagged_lines, log_line, counted_lines, recovered_line, fence_line, state_lines}
use Rattle.onll_text.specs.Reports.{CallReads, EndReads, EndsRead, EachReads, NodeReads, LogReads}
use Rattle.onll_text.proofs.LineWords.{call_line_in_words, node_line_in_words, log_line_in_words}
use Rattle.onll_audit.specs.Form.{LinesLeft, ReportForm, next_part, next_line, line_that, lines_while, before_lines, is_call_line, call_groups, before_groups, trace_said, node_said, node_run, is_log_line, log_run, is_recovered_line, is_state_line, fault_run, rest_of, report_form}
use Rattle.onll_audit.specs.Legality.{SaysCalls, SaysGroups}
use Rattle.onll_audit.specs.Printed.{FailedFence, failed_lines, ReportData, report_text, ScriptReads, FaultsRise, ReportReads, EachOver, PrintedLaw}
use Rattle.onll_audit.proofs.Splitting.{next_part-whole, join_parts}
use Rattle.onll_audit.proofs.Running.{while_yes, while_no, one_line-says, line_that-holds, faults_yes, faults_no}
use Rattle.onll_audit.proofs.Fronts.{trace_reads, recovered_reads, log_reads, fault_reads}
use Rattle.onll_audit.proofs.EndTexts.{end_said}
use Rattle.onll_audit.proofs.Judged.{legal_verdict}
use Rattle.onll_audit.proofs.PrintedLines.{call_is_line, other_thread, trace_is_no_call, node_reads}

-- ---- the lines that are left
-- these, the first with this number
abbrev pub left_of : ℕ → List (List (List ℕ)) → LinesLeft
left_of n lines = record { number = n; parts = slice_split is_line_end (flat_map line_text lines) }

other_than_end : (b : Bool) → not b ≡ true → b ≡ false
other_than_end true e = cc e
other_than_end false e = refl

pub no_end : (l : List ℕ) → list_all (λ b. not (is_line_end b)) l ≡ true → All (λ b. is_line_end b ≡ false) l
no_end l h k d lt = other_than_end (is_line_end (get_or l k d)) (AllPass-from_list_all (λ b. not (is_line_end b)) l h k d lt)

next_left : (n : ℕ) (ws : List (List ℕ)) (lines : List (List (List ℕ))) → AreWords ws → next_line (left_of n (ws ∷ lines)) ≡ Some (joined ws, left_of (n + 1) lines)
next_left n ws lines h =
    let rest : List ℕ = flat_map line_text lines in
    ap (λ (text : List ℕ). next_part n (slice_split is_line_end text)) (append_assoc (joined ws) (10 ∷ []) rest)
    ∙ ap (next_part n) (slice_split_at is_line_end (joined ws) 10 rest (no_end (joined ws) (list_all-joined ws h)) refl)
    ∙ next_part-whole is_line_end n (joined ws) rest

-- lines after this one go on where it is read
pub then_on : {A B E : Type 0} (r : Result A E) (x : A) (f : A → Result B E) (y : Result B E) → r ≡ Ok x → f x ≡ y → (r >>= f) ≡ y
then_on r x f y e h = ap (λ v. v >>= f) e ∙ h

-- the first of these lines fails the test
abbrev Stops : (List ℕ → Bool) → List (List (List ℕ)) → Type 0
Stops p [] = Unit {0}
Stops p (ws ∷ lines) = AreWords ws × (p (joined ws) ≡ false)

while_stops : (p : List ℕ → Bool) (n : ℕ) (rest : List (List (List ℕ))) → Stops p rest → lines_while p n (left_of n rest).parts ≡ ([], left_of n rest)
while_stops p n [] h = refl
while_stops p n (ws ∷ lines) h = while_no p n (left_of n (ws ∷ lines)).parts (joined ws) (left_of (n + 1) lines) (next_left n ws lines h.0) h.1

-- ---- calls
pub script_length : {State Op Query Reply : Type 0} (script : List (Call State Op Query Reply)) → length script ≡ updates_in script + reads_in script
script_length [] = refl
script_length (Update op ∷ script) = omega (arith, script_length script)
script_length (Ask query ∷ script) = omega (arith, script_length script)

-- what is so of a thread's script and of what became of its calls
record ThreadReads {State Op Query Reply : Type 0} (w : Wording State Op Query Reply) (script : List (Call State Op Query Reply))
    (ends : List (CallEnd State Op Query Reply)) : Type 0 where
  calls : All (CallReads w) script
  few : length ends ≤ length script
  reads : All (EndReads w) ends
  over : AllByRecursion IsOver ends

module _ {State Op Query Reply : Type 0} (w : Wording State Op Query Reply) where
  thread_tail : (c : Call State Op Query Reply) (script : List (Call State Op Query Reply)) (e : CallEnd State Op Query Reply) (ends : List (CallEnd State Op Query Reply))
      → ThreadReads w (c ∷ script) (e ∷ ends) → ThreadReads w script ends
  thread_tail c script e ends h = record {
    calls = All-tail (CallReads w) c script h.calls;
    few = omega (arith, h.few);
    reads = All-tail (EndReads w) e ends h.reads;
    over = h.over.1;
  }

  -- the lines of a thread
  calls_while : (t k n : ℕ) (script : List (Call State Op Query Reply)) (ends : List (CallEnd State Op Query Reply)) (rest : List (List (List ℕ)))
      → ThreadReads w script ends → k + length ends < 2 ^ 64 → Stops (is_call_line w t) rest
      → (m : ℕ) × (lines_while (is_call_line w t) n (left_of n (call_lines w t k script ends ++ rest)).parts ≡ (map joined (call_lines w t k script ends), left_of m rest))
  calls_while t k n script [] rest h fits stops = (n, while_stops (is_call_line w t) n rest stops)
  calls_while t k n [] (e ∷ ends) rest h fits stops = absurd (omega (arith, h.few))
  calls_while t k n (c ∷ script) (e ∷ ends) rest h fits stops =
      let ws = call_line w t (k + 1) c e in
      let lines = call_lines w t (k + 1) script ends ++ rest in
      let x = end_said w e (All-head (EndReads w) e ends h.reads) h.over.0 in
      let more = calls_while t (k + 1) (n + 1) script ends rest (thread_tail c script e ends h) (omega arith) stops in (
        more.0,
        while_yes (is_call_line w t) n (left_of n (ws ∷ lines)).parts (joined ws) (left_of (n + 1) lines) (next_left n ws lines (call_line_in_words w t (k + 1) c e))
            (call_is_line w t (k + 1) c e x.0 (omega arith) (All-head (CallReads w) c script h.calls) x.1)
            ∙ ap (before_lines (joined ws)) more.1,
      )

  -- the lines of later threads are none of this one's
  others_stop : (t u : ℕ) (scripts : List (List (Call State Op Query Reply))) (ends : List (List (CallEnd State Op Query Reply))) (rest : List (List (List ℕ)))
      → t < u → u + length scripts < 2 ^ 64 → Stops (is_call_line w t) rest → Stops (is_call_line w t) (thread_lines w u scripts ends ++ rest)
  others_stop t u [] ends rest less fits stops = stops
  others_stop t u (script ∷ scripts) [] rest less fits stops = stops
  others_stop t u (script ∷ scripts) ([] ∷ more) rest less fits stops = others_stop t (u + 1) scripts more rest (omega arith) (omega arith) stops
  others_stop t u ([] ∷ scripts) ((e ∷ own) ∷ more) rest less fits stops = others_stop t (u + 1) scripts more rest (omega arith) (omega arith) stops
  others_stop t u ((c ∷ script) ∷ scripts) ((e ∷ own) ∷ more) rest less fits stops = (
    call_line_in_words w u (0 + 1) c e,
    other_thread w t u (decimal (0 + 1)) (call_words w c ++ codes "->" ∷ end_words w e) (omega arith) (omega arith) less,
  )

  -- those of all threads
  abbrev groups_of : ℕ → List (List (Call State Op Query Reply)) → List (List (CallEnd State Op Query Reply)) → List (List (List ℕ))
  groups_of t (script ∷ scripts) (ends ∷ more) = map joined (call_lines w t 0 script ends) ∷ groups_of (t + 1) scripts more
  groups_of t scripts ends = []

  thread_reads : (script : List (Call State Op Query Reply)) (ends : List (CallEnd State Op Query Reply)) → ScriptReads w script → EndsRead w script ends
      → AllByRecursion IsOver ends → ThreadReads w script ends
  thread_reads script ends s e o = record { calls = s.calls; few = e.few; reads = e.reads; over = o }

  groups_read : (t n : ℕ) (scripts : List (List (Call State Op Query Reply))) (ends : List (List (CallEnd State Op Query Reply))) (rest : List (List (List ℕ)))
      → AllByRecursion (ScriptReads w) scripts → EachReads w scripts ends → EachOver ends → t + length scripts < 2 ^ 64
      → ((u : ℕ) → Stops (is_call_line w u) rest)
      → (m : ℕ) × (call_groups w t (length scripts) (left_of n (thread_lines w t scripts ends ++ rest)) ≡ (groups_of t scripts ends, left_of m rest))
  groups_read t n [] [] rest calls reads over fits stops = (n, refl)
  groups_read t n [] (own ∷ more) rest calls reads over fits stops = elim reads [ ]
  groups_read t n (script ∷ scripts) [] rest calls reads over fits stops = elim reads [ ]
  groups_read t n (script ∷ scripts) (own ∷ more) rest calls reads over fits stops =
      let after = thread_lines w (t + 1) scripts more ++ rest in
      let few = script_length script in
      let one = calls_while t 0 n script own after (thread_reads script own calls.0 reads.0 over.0)
      (omega (arith, few, calls.0.updates, calls.0.reads, reads.0.few))
      (others_stop t (t + 1) scripts more rest (omega arith) (omega arith) (stops t)) in
      let others = groups_read (t + 1) one.0 scripts more rest calls.1 reads.1 over.1 (omega arith) stops in (
        others.0,
        ap (λ (lines : List (List (List ℕ))). call_groups w t (suc (length scripts)) (left_of n lines))
            (append_assoc (call_lines w t 0 script own) (thread_lines w (t + 1) scripts more) rest)
            ∙ ap (λ (group : List (List ℕ) × LinesLeft). before_groups group.0 (call_groups w (t + 1) (length scripts) group.1)) one.1
            ∙ ap (before_groups (map joined (call_lines w t 0 script own))) others.1,
      )

  -- what they say
  calls_said : (t k : ℕ) (script : List (Call State Op Query Reply)) (ends : List (CallEnd State Op Query Reply)) → ThreadReads w script ends
      → SaysCalls w t k script (map joined (call_lines w t k script ends)) ends
  calls_said t k [] [] h = tt
  calls_said t k (c ∷ script) [] h = tt
  calls_said t k [] (e ∷ ends) h = absurd (omega (arith, h.few))
  calls_said t k (c ∷ script) (e ∷ ends) h =
      let x = end_said w e (All-head (EndReads w) e ends h.reads) h.over.0 in (
        record { line_is = refl; outcome = x.0; read = x.1; same = x.2 },
        calls_said t (k + 1) script ends (thread_tail c script e ends h),
      )

  groups_said : (t : ℕ) (scripts : List (List (Call State Op Query Reply))) (ends : List (List (CallEnd State Op Query Reply)))
      → AllByRecursion (ScriptReads w) scripts → EachReads w scripts ends → EachOver ends → SaysGroups w t scripts (groups_of t scripts ends) ends
  groups_said t [] [] calls reads over = tt
  groups_said t [] (own ∷ more) calls reads over = elim reads [ ]
  groups_said t (script ∷ scripts) [] calls reads over = elim reads [ ]
  groups_said t (script ∷ scripts) (own ∷ more) calls reads over =
      (calls_said t 0 script own (thread_reads script own calls.0 reads.0 over.0), groups_said (t + 1) scripts more calls.1 reads.1 over.1)

-- ---- nodes
nodes_read : {State Op Query Reply : Type 0} (b : Behaviour State Op Query Reply) (w : Wording State Op Query Reply) (p n : ℕ) (nodes : List Node) (flags : List Bool)
    (rest : List (List (List ℕ))) → All (NodeReads b w) nodes → length flags ≡ length nodes
    → (m : ℕ) × (node_run b w p (length nodes) (left_of n (flagged_lines b w p nodes flags ++ rest)) ≡ Ok (nodes, left_of m rest))
nodes_read b w p n [] [] rest h e = (n, refl)
nodes_read b w p n [] (flag ∷ flags) rest h e = absurd (omega arith)
nodes_read b w p n (x ∷ nodes) [] rest h e = absurd (omega arith)
nodes_read b w p n (x ∷ nodes) (flag ∷ flags) rest h e =
    let ws = node_line b w (p + 1) x (Some flag) in
    let lines = flagged_lines b w (p + 1) nodes flags ++ rest in
    let more = nodes_read b w (p + 1) (n + 1) nodes flags rest (All-tail (NodeReads b w) x nodes h) (omega arith) in (
      more.0,
      then_on _ (x, left_of (n + 1) lines) (λ (one : Node × LinesLeft). node_run b w (p + 1) (length nodes) one.1 >>= λ rest. Ok (one.0 ∷ rest.0, rest.1)) _
          (one_line-says (node_said b w (p + 1)) (left_of n (ws ∷ lines)) (joined ws) (left_of (n + 1) lines) x
          (next_left n ws lines (node_line_in_words b w (p + 1) x (Some flag))) (node_reads b w (p + 1) x flag (All-head (NodeReads b w) x nodes h)))
          (ap (λ (r : Result (List Node × LinesLeft) ℕ). r >>= λ rest. Ok (x ∷ rest.0, rest.1)) more.1),
    )

-- ---- logs
logs_read : (t n : ℕ) (logs : List LogData) (rest : List (List (List ℕ))) → All LogReads logs
    → (m : ℕ) × (log_run t (length logs) (left_of n (counted_lines t logs ++ rest)) ≡ Ok (left_of m rest))
logs_read t n [] rest h = (n, refl)
logs_read t n (log ∷ logs) rest h =
    let ws = log_line t log.entries log.lines (Some log.fences) in
    let lines = counted_lines (t + 1) logs ++ rest in
    let own = All-head LogReads log logs h in
    let more = logs_read (t + 1) (n + 1) logs rest (All-tail LogReads log logs h) in (
      more.0,
      then_on _ (left_of (n + 1) lines) (λ (left : LinesLeft). log_run (t + 1) (length logs) left) _
          (line_that-holds (is_log_line t) (left_of n (ws ∷ lines)) (joined ws) (left_of (n + 1) lines)
          (next_left n ws lines (log_line_in_words t log.entries log.lines (Some log.fences)))
          (ap is_some (log_reads t log.entries log.lines log.fences own.entries own.lines own.fences)))
          more.1,
    )

-- ---- fences that failed
fence_in_words : (t place : ℕ) → AreWords (fence_line t place)
fence_in_words t place =
    (record { some = refl; bytes = refl }, (record { some = refl; bytes = refl }, (IsWord-decimal t, (record { some = refl; bytes = refl }, (IsWord-decimal place, tt)))))

state_in_words : AreWords (codes "state" ∷ [])
state_in_words = (record { some = refl; bytes = refl }, tt)

faults_read : (threads least n : ℕ) (faults : List FailedFence) (rest : List (List (List ℕ))) → FaultsRise least threads faults → threads < 2 ^ 64
    → (m : ℕ) × (fault_run threads least n (left_of n (failed_lines faults ++ (codes "state" ∷ []) ∷ rest)).parts ≡ left_of m ((codes "state" ∷ []) ∷ rest))
faults_read threads least n [] rest h fits =
    (n, faults_no threads least n (left_of n ((codes "state" ∷ []) ∷ rest)).parts (codes "state") (left_of (n + 1) rest) (next_left n (codes "state" ∷ []) rest state_in_words) refl)
faults_read threads least n (fault ∷ faults) rest h fits =
    let ws = fence_line fault.thread fault.place in
    let lines = failed_lines faults ++ (codes "state" ∷ []) ∷ rest in
    let more = faults_read threads (fault.thread + 1) (n + 1) faults rest h.3 fits in (
      more.0,
      faults_yes threads least n (left_of n (ws ∷ lines)).parts (joined ws) (left_of (n + 1) lines) fault.thread
          (next_left n ws lines (fence_in_words fault.thread fault.place)) (fault_reads least threads fault.thread fault.place h.0 h.1 (omega (arith, h.1)) h.2)
          ∙ more.1,
    )

-- ---- the whole
module _ {State Op Query Reply : Type 0} (b : Behaviour State Op Query Reply) (w : Wording State Op Query Reply)
    (scripts : List (List (Call State Op Query Reply))) (said : ReportData State Op Query Reply) where
  -- what is read of the text, with the line `state` at this number
  abbrev form_at : ℕ → ReportForm
  form_at n = record {
    calls = groups_of w 0 scripts said.ends;
    nodes = said.nodes;
    state_line = n;
    state = flat_map line_text (w.state_lines said.state);
  }

  -- the lines after the logs
  abbrev ending : List (List (List ℕ))
  ending = failed_lines said.faults ++ state_lines w said.state

  abbrev logs_on : List (List (List ℕ))
  logs_on = counted_lines 0 said.logs ++ (recovered_line said.recovered ∷ ending)

  recovered_in_words : (n : ℕ) → AreWords (recovered_line n)
  recovered_in_words n = (record { some = refl; bytes = refl }, (IsWord-decimal n, tt))

  trace_in_words : (n : ℕ) → AreWords (trace_line n)
  trace_in_words n = (record { some = refl; bytes = refl }, (IsWord-decimal n, tt))

  -- what the lines after those of calls say
  rest_reads : (n : ℕ) → ReportReads b w scripts said
      → (m : ℕ) × (rest_of b w (length scripts) (groups_of w 0 scripts said.ends)
      (left_of n (trace_line (length said.nodes) ∷ (flagged_lines b w 0 said.nodes said.flags ++ logs_on))) ≡ Ok (form_at m))
  rest_reads n h =
      let count = length said.nodes in
      let nodes_on = flagged_lines b w 0 said.nodes said.flags ++ logs_on in
      let threads = length scripts in
      let nodes = nodes_read b w 0 (n + 1) said.nodes said.flags logs_on h.nodes h.flags in
      let logs = logs_read 0 nodes.0 said.logs (recovered_line said.recovered ∷ ending) h.logs in
      let many : threads < 2 ^ 64 = omega (arith, h.threads) in
      let faults = faults_read threads 0 (logs.0 + 1) said.faults (w.state_lines said.state) h.faults many in (
        faults.0,
        then_on _ (count, left_of (n + 1) nodes_on) _ _
            (one_line-says trace_said (left_of n (trace_line count ∷ nodes_on)) (joined (trace_line count)) (left_of (n + 1) nodes_on) count
            (next_left n (trace_line count) nodes_on (trace_in_words count)) (trace_reads count h.few))
            (then_on _ (said.nodes, left_of nodes.0 logs_on) _ _ nodes.1
            (then_on _ (left_of logs.0 (recovered_line said.recovered ∷ ending)) _ _
            (ap (λ (k : ℕ). log_run 0 k (left_of nodes.0 logs_on)) (sym h.each_log) ∙ logs.1)
            (then_on _ (left_of (logs.0 + 1) ending) _ _
            (line_that-holds is_recovered_line (left_of logs.0 (recovered_line said.recovered ∷ ending)) (joined (recovered_line said.recovered))
            (left_of (logs.0 + 1) ending) (next_left logs.0 (recovered_line said.recovered) ending (recovered_in_words said.recovered))
            (ap is_some (recovered_reads said.recovered h.recovered)))
            (ap (λ (left : LinesLeft). line_that is_state_line left >>= λ after.
            Ok (record {
              calls = groups_of w 0 scripts said.ends;
              nodes = said.nodes;
              state_line = left.number;
              state = join_with_byte 10 after.parts;
            })) faults.1
            ∙ then_on _ (left_of (faults.0 + 1) (w.state_lines said.state)) _ _
            (line_that-holds is_state_line (left_of faults.0 (state_lines w said.state)) (codes "state") (left_of (faults.0 + 1) (w.state_lines said.state))
            (next_left faults.0 (codes "state" ∷ []) (w.state_lines said.state) state_in_words) refl)
            (ap (λ (text : List ℕ). Ok (record {
              calls = groups_of w 0 scripts said.ends;
              nodes = said.nodes;
              state_line = faults.0;
              state = text;
            })) (join_parts (flat_map line_text (w.state_lines said.state)))))))),
      )

  -- the text has the form
  form_reads : ReportReads b w scripts said → EachOver said.ends
      → (m : ℕ) × (report_form b w (length scripts) (report_text b w scripts said) ≡ Ok (form_at m))
  form_reads h over =
      let after = trace_line (length said.nodes) ∷ (flagged_lines b w 0 said.nodes said.flags ++ logs_on) in
      let groups = groups_read w 0 1 scripts said.ends after h.scripts_read h.ends over (omega (arith, h.threads))
      (λ u. (trace_in_words (length said.nodes), trace_is_no_call w u (length said.nodes))) in
      let rest = rest_reads groups.0 h in
      (rest.0, ap (λ (calls : List (List (List ℕ)) × LinesLeft). rest_of b w (length scripts) calls.0 calls.1) groups.1 ∙ rest.1)

-- What a run prints is judged legal.
pub printed_legal : {State Op Query Reply : Type 0} (b : Behaviour State Op Query Reply) (w : Wording State Op Query Reply) → PrintedLaw b w
printed_legal b w s scripts said reads over legal state =
    let form = form_reads b w scripts said reads over in
    legal_verdict b w s scripts (report_text b w scripts said)
    (record {
      form = form_at b w scripts said form.0;
      form_is = form.1;
      is_legal = record {
        ends = said.ends;
        says = groups_said w 0 scripts said.ends reads.scripts_read reads.ends over;
        legal = legal;
        state = ap (λ v. flat_map line_text (w.state_lines v)) state;
      };
    })
