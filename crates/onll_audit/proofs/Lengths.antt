-- A report of a run is no longer than one may be.
use Rattle.std.proofs.Common.{ℕ, Bool, true, false, List, [], ◌∷◌, ◌++◌, ◌≡◌, ◌+◌, ◌*◌, ◌<◌, ◌≤◌, ◌^◌, length, max, codes, decimal, Option, Some, ap, sym, ◌∙◌, arith, length-append, subst}
use Rattle.std.specs.List.{All, AllByRecursion, flat_map}
use Rattle.std.proofs.lemmas.Fmt.{length-decimal-le}
use Rattle.std.proofs.lemmas.Grind.{flat_map-append}
use Rattle.std.proofs.lemmas.List.Elements.{All-head, All-tail}
use Rattle.onll_words.specs.Texts.{joined, line_text}
use Rattle.onll_model.specs.declared.node.Node.{Node}
use Rattle.onll_model.specs.declared.call.Call.{Call}
use Rattle.onll_model.specs.declared.call.Call.TheVariants.{Update, Ask}
use Rattle.onll_model.specs.declared.call.CallEnd.{CallEnd}
use Rattle.onll_model.specs.declared.call.CallEnd.TheVariants as ends
use Rattle.onll_model.specs.Object.{Behaviour}
use Rattle.onll_text.specs.Wording.{Wording}
use Rattle.onll_text.specs.Lines.{LogData, at_words, call_words, end_words, call_line, call_lines, thread_lines, trace_line, flag_words, row_words, node_line, flagged_lines, log_line, counted_lines, recovered_line, fence_line, state_lines}
use Rattle.onll_text.specs.Reports.{CallReads, EndReads, EachReads, NodeReads, LogReads}
use Rattle.onll_audit.specs.Printed.{FailedFence, failed_lines, ScriptReads, FaultsRise, ReportShortLaw}
use Rattle.onll_audit.proofs.Formed.{script_length}

-- ---- words
-- a word and those after it, with a space between
joined_one : (v : List ℕ) (ws : List (List ℕ)) → length (joined (v ∷ ws)) ≤ length v + 1 + length (joined ws)
joined_one v [] = omega arith
joined_one v (u ∷ ws) = omega (arith, length-append v (32 ∷ joined (u ∷ ws)))

joined_two : (vs ws : List (List ℕ)) → length (joined (vs ++ ws)) ≤ length (joined vs) + 1 + length (joined ws)
joined_two [] ws = omega arith
joined_two (v ∷ []) ws = joined_one v ws
joined_two (v ∷ u ∷ vs) ws = omega (arith, joined_two (u ∷ vs) ws, length-append v (32 ∷ joined (u ∷ vs)), length-append v (32 ∷ joined (u ∷ vs ++ ws)))

short_number : (n : ℕ) → n < 2 ^ 64 → length (decimal n) ≤ 20
short_number n h = length-decimal-le 20 n (omega arith) (omega arith) h

short_line : (ws : List (List ℕ)) → length (line_text ws) ≡ length (joined ws) + 1
short_line ws = length-append (joined ws) (10 ∷ [])

-- the lines of a text, one after the other
text_more : (ws : List (List ℕ)) (lines : List (List (List ℕ))) → length (flat_map line_text (ws ∷ lines)) ≡ length (joined ws) + 1 + length (flat_map line_text lines)
text_more ws lines = omega (arith, length-append (line_text ws) (flat_map line_text lines), short_line ws)

text_two : (lines more : List (List (List ℕ))) → length (flat_map line_text (lines ++ more)) ≡ length (flat_map line_text lines) + length (flat_map line_text more)
text_two lines more = ap length (flat_map-append line_text lines more) ∙ length-append (flat_map line_text lines) (flat_map line_text more)

short_at : (p : ℕ) → p < 2 ^ 64 → length (joined (at_words p)) ≤ 23
short_at p h = omega (arith, short_number p h)

module _ {State Op Query Reply : Type 0} (w : Wording State Op Query Reply) where
  short_call : (c : Call State Op Query Reply) → CallReads w c → length (joined (call_words w c)) ≤ 128
  short_call (Update op) h = w.op_is_short op h
  short_call (Ask query) h = w.query_is_short query h

  short_end : (e : CallEnd State Op Query Reply) → EndReads w e → length (joined (end_words w e)) ≤ 152
  short_end (ends.Answered reply p) h = omega (arith, joined_two (w.reply_words reply) (at_words p), w.reply_is_short reply h.0, short_at p h.1)
  short_end ends.Running h = omega arith
  short_end (ends.Ordered p) h = omega (arith, joined_one (codes "ordered") (at_words p), short_at p h)
  short_end (ends.FenceFailed p) h = omega (arith, joined_one (codes "fence") (codes "failed" ∷ at_words p), joined_one (codes "failed") (at_words p), short_at p h)
  short_end (ends.Broken p) h = omega (arith, joined_one (codes "broken") (at_words p), short_at p h)

  -- ---- lines of calls
  short_call_line : (t k : ℕ) (c : Call State Op Query Reply) (e : CallEnd State Op Query Reply) → t < 2 ^ 64 → k < 2 ^ 64 → CallReads w c → EndReads w e
      → length (joined (call_line w t k c e)) ≤ 331
  short_call_line t k c e low fits reads ended =
      let after : List (List ℕ) = call_words w c ++ codes "->" ∷ end_words w e in
      omega (
        arith,
        joined_one (codes "call") (decimal t ∷ decimal k ∷ after),
        joined_one (decimal t) (decimal k ∷ after),
        joined_one (decimal k) after,
        joined_two (call_words w c) (codes "->" ∷ end_words w e),
        joined_one (codes "->") (end_words w e),
        short_number t low,
        short_number k fits,
        short_call c reads,
        short_end e ended,
      )

  short_calls : (t k : ℕ) (script : List (Call State Op Query Reply)) (ends : List (CallEnd State Op Query Reply)) → t < 2 ^ 64 → k + length ends < 2 ^ 64
      → All (CallReads w) script → All (EndReads w) ends → length (flat_map line_text (call_lines w t k script ends)) ≤ 332 * length ends
  short_calls t k script [] low fits reads ended = omega arith
  short_calls t k [] (e ∷ ends) low fits reads ended = omega arith
  short_calls t k (c ∷ script) (e ∷ ends) low fits reads ended =
      omega (
        arith,
        text_more (call_line w t (k + 1) c e) (call_lines w t (k + 1) script ends),
        short_call_line t (k + 1) c e low (omega arith) (All-head (CallReads w) c script reads) (All-head (EndReads w) e ends ended),
        short_calls t (k + 1) script ends low (omega arith) (All-tail (CallReads w) c script reads) (All-tail (EndReads w) e ends ended),
      )

  short_threads : (t : ℕ) (scripts : List (List (Call State Op Query Reply))) (ends : List (List (CallEnd State Op Query Reply))) → t + length scripts < 2 ^ 64
      → AllByRecursion (ScriptReads w) scripts → EachReads w scripts ends → length (flat_map line_text (thread_lines w t scripts ends)) ≤ 2719744 * length scripts
  short_threads t [] [] fits reads ended = omega arith
  short_threads t [] (own ∷ more) fits reads ended = elim ended [ ]
  short_threads t (script ∷ scripts) [] fits reads ended = elim ended [ ]
  short_threads t (script ∷ scripts) (own ∷ more) fits reads ended =
      let few = script_length script in
      let many : length own ≤ 8192 = omega (arith, few, reads.0.updates, reads.0.reads, ended.0.few) in
      omega (
        arith,
        many,
        text_two (call_lines w t 0 script own) (thread_lines w (t + 1) scripts more),
        short_calls t 0 script own (omega arith) (omega (arith, many)) reads.0.calls ended.0.reads,
        short_threads (t + 1) scripts more (omega arith) reads.1 ended.1,
      )

-- ---- lines of nodes, logs and failed fences
short_flag : (flag : Bool) → length (joined (flag_words (Some flag))) ≤ 5
short_flag true = omega arith
short_flag false = omega arith

module _ {State Op Query Reply : Type 0} (b : Behaviour State Op Query Reply) (w : Wording State Op Query Reply) where
  short_row : (o : Option Op) (op : Op) → o ≡ Some op → CallReads w (Update op) → length (joined (row_words w o)) ≤ 128
  short_row o op e h = subst (λ (x : Option Op). length (joined (row_words w x)) ≤ 128) (sym e) (w.op_is_short op h)

  short_node_line : (p : ℕ) (n : Node) (flag : Bool) → p < 2 ^ 64 → NodeReads b w n → length (joined (node_line b w p n (Some flag))) ≤ 209
  short_node_line p n flag fits h =
      let row : List (List ℕ) = row_words w (b.op_at n.row) in
      let after : List (List ℕ) = flag_words (Some flag) ++ row in
      omega (
        arith,
        joined_one (codes "node") (decimal p ∷ decimal n.thread ∷ decimal n.number ∷ after),
        joined_one (decimal p) (decimal n.thread ∷ decimal n.number ∷ after),
        joined_one (decimal n.thread) (decimal n.number ∷ after),
        joined_one (decimal n.number) after,
        joined_two (flag_words (Some flag)) row,
        short_number p fits,
        short_number n.thread h.thread,
        short_number n.number h.number,
        short_flag flag,
        short_row (b.op_at n.row) h.op h.row h.reads,
      )

  short_nodes : (p : ℕ) (nodes : List Node) (flags : List Bool) → p + length nodes < 2 ^ 64 → All (NodeReads b w) nodes
      → length (flat_map line_text (flagged_lines b w p nodes flags)) ≤ 210 * length nodes
  short_nodes p [] flags fits h = omega arith
  short_nodes p (n ∷ nodes) [] fits h = omega arith
  short_nodes p (n ∷ nodes) (flag ∷ flags) fits h =
      omega (
        arith,
        text_more (node_line b w (p + 1) n (Some flag)) (flagged_lines b w (p + 1) nodes flags),
        short_node_line (p + 1) n flag (omega arith) (All-head (NodeReads b w) n nodes h),
        short_nodes (p + 1) nodes flags (omega arith) (All-tail (NodeReads b w) n nodes h),
      )

short_log_line : (t : ℕ) (log : LogData) → t < 2 ^ 64 → LogReads log → length (joined (log_line t log.entries log.lines (Some log.fences))) ≤ 149
short_log_line t log fits h =
    let fs : List (List ℕ) = codes "fences" ∷ decimal log.fences ∷ [] in
    let ls : List (List ℕ) = codes "lines" ∷ decimal log.lines ∷ fs in
    let es : List (List ℕ) = codes "entries" ∷ decimal log.entries ∷ ls in
    omega (
      arith,
      joined_one (codes "log") (decimal t ∷ es),
      joined_one (decimal t) es,
      joined_one (codes "entries") (decimal log.entries ∷ ls),
      joined_one (decimal log.entries) ls,
      joined_one (codes "lines") (decimal log.lines ∷ fs),
      joined_one (decimal log.lines) fs,
      joined_one (codes "fences") (decimal log.fences ∷ []),
      short_number t fits,
      short_number log.entries h.entries,
      short_number log.lines h.lines,
      short_number log.fences h.fences,
    )

short_logs : (t : ℕ) (logs : List LogData) → t + length logs < 2 ^ 64 → All LogReads logs → length (flat_map line_text (counted_lines t logs)) ≤ 150 * length logs
short_logs t [] fits h = omega arith
short_logs t (log ∷ logs) fits h =
    omega (
      arith,
      text_more (log_line t log.entries log.lines (Some log.fences)) (counted_lines (t + 1) logs),
      short_log_line t log (omega arith) (All-head LogReads log logs h),
      short_logs (t + 1) logs (omega arith) (All-tail LogReads log logs h),
    )

short_fence_line : (t place : ℕ) → t < 2 ^ 64 → place < 2 ^ 64 → length (joined (fence_line t place)) ≤ 60
short_fence_line t place fits low =
    let ps : List (List ℕ) = codes "place" ∷ decimal place ∷ [] in
    omega (
      arith,
      joined_one (codes "fault") (codes "thread" ∷ decimal t ∷ ps),
      joined_one (codes "thread") (decimal t ∷ ps),
      joined_one (decimal t) ps,
      joined_one (codes "place") (decimal place ∷ []),
      short_number t fits,
      short_number place low,
    )

-- as many as there are threads from the least on, at most
short_faults : (least threads : ℕ) (faults : List FailedFence) → threads < 2 ^ 64 → FaultsRise least threads faults
    → length (flat_map line_text (failed_lines faults)) + 61 * least ≤ 61 * max least threads
short_faults least threads [] fits h = omega arith
short_faults least threads (fault ∷ faults) fits h =
    let low : least ≤ fault.thread = h.0 in
    let high : fault.thread < threads = h.1 in
    omega (
      arith,
      low,
      high,
      text_more (fence_line fault.thread fault.place) (failed_lines faults),
      short_fence_line fault.thread fault.place (omega arith) h.2,
      short_faults (fault.thread + 1) threads faults fits h.3,
    )

-- ---- the whole
pub report_short : {State Op Query Reply : Type 0} (b : Behaviour State Op Query Reply) (w : Wording State Op Query Reply) → ReportShortLaw b w
report_short b w scripts said h nodes state =
    let ending = failed_lines said.faults ++ state_lines w said.state in
    let logs_on = counted_lines 0 said.logs ++ (recovered_line said.recovered ∷ ending) in
    let nodes_on = flagged_lines b w 0 said.nodes said.flags ++ logs_on in
    let threads = h.threads in
    let each_log = h.each_log in
    let few : length said.nodes ≤ 65536 = omega arith in
    omega (
      arith,
      threads,
      each_log,
      few,
      text_two (thread_lines w 0 scripts said.ends) (trace_line (length said.nodes) ∷ nodes_on),
      short_threads w 0 scripts said.ends (omega arith) h.scripts_read h.ends,
      text_more (trace_line (length said.nodes)) nodes_on,
      joined_one (codes "trace") (decimal (length said.nodes) ∷ []),
      short_number (length said.nodes) h.few,
      text_two (flagged_lines b w 0 said.nodes said.flags) logs_on,
      short_nodes b w 0 said.nodes said.flags (omega (arith, h.few)) h.nodes,
      text_two (counted_lines 0 said.logs) (recovered_line said.recovered ∷ ending),
      short_logs 0 said.logs (omega arith) h.logs,
      text_more (recovered_line said.recovered) ending,
      joined_one (codes "recovered") (decimal said.recovered ∷ []),
      short_number said.recovered h.recovered,
      text_two (failed_lines said.faults) (state_lines w said.state),
      short_faults 0 (length scripts) said.faults (omega arith) h.faults,
      text_more (codes "state" ∷ []) (w.state_lines said.state),
      w.state_is_short said.state state,
    )
