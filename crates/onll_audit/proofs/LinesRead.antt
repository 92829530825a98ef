-- A text that has the lines of a report is read as one; with LinesStand, just these texts are.
use Rattle.std.proofs.Common.{ℕ, suc, Bool, true, false, List, [], ◌∷◌, ◌++◌, ◌≡◌, ◌+◌, ◌<◌, ◌^◌, length, map, codes, decimal, is_some, Option, Some, None, Result, Ok, refl, ap, sym, ◌∙◌, arith, append_assoc, length-append}
use Rattle.std.proofs.lemmas.List.{length-map}
use Rattle.std.specs.List.{All, AllByRecursion, flat_map, slice_split, join_with_byte}
use Rattle.std.specs.Option.{option_or}
use Rattle.std.proofs.lemmas.List.Elements.{All-head, All-tail}
use Rattle.std.proofs.lemmas.List.Splits.{slice_split_at}
use Rattle.onll_words.specs.Texts.{is_line_end, joined, line_text, AreWords}
use Rattle.onll_words.proofs.Decimals.{IsWord-decimal}
use Rattle.onll_words.proofs.Joined.{list_all-joined}
use Rattle.onll_model.specs.declared.node.Node.{Node}
use Rattle.onll_model.specs.Object.{Behaviour}
use Rattle.onll_text.specs.Refusal.{◌>>=◌}
use Rattle.onll_text.specs.Wording.{Wording}
use Rattle.onll_text.specs.Lines.{LogData, at_words, call_words, trace_line, node_line, flagged_lines, log_line, counted_lines, recovered_line, fence_line}
use Rattle.onll_text.specs.Reports.{NodeReads, LogReads}
use Rattle.onll_text.proofs.LineWords.{AreWords-append, node_line_in_words, log_line_in_words}
use Rattle.onll_audit.specs.declared.said.Said.{Said}
use Rattle.onll_audit.specs.declared.said.Said.TheVariants as said
use Rattle.onll_audit.specs.Form.{LinesLeft, ReportForm, all_lines, said_of, failed_said, broken_said, answered_said, after_number, some_arrow, next_part, next_line, line_that, lines_while, before_lines, is_call_line, call_groups, before_groups, trace_said, node_said, node_run, is_log_line, log_run, is_recovered_line, is_state_line, fault_run, rest_of, report_form}
use Rattle.onll_audit.specs.Printed.{FailedFence, failed_lines, FaultsRise}
use Rattle.onll_audit.specs.ReportLines.{SpokenCall, SpokenReads, spoken_line, spoken_lines, spoken_texts, HasReportLines, ReportLinesLaw}
use Rattle.onll_audit.proofs.Splitting.{next_part-whole, join_parts}
use Rattle.onll_audit.proofs.Running.{while_yes, while_no, one_line-says, line_that-holds, faults_yes, faults_no}
use Rattle.onll_audit.proofs.Fronts.{trace_reads, recovered_reads, log_reads, fault_reads}
use Rattle.onll_audit.proofs.Printing.{has_arrow_at, call_in_words}
use Rattle.onll_audit.proofs.EndTexts.{answered_reads}
use Rattle.onll_audit.proofs.PrintedLines.{number_stands, arrow_there, other_thread, trace_is_no_call, node_reads}
use Rattle.onll_audit.proofs.Formed.{no_end, then_on}
use Rattle.onll_audit.proofs.CallsStand.{arrow_words, call_words_some}
use Rattle.onll_audit.proofs.LinesStand.{lines_stand}

-- ---- the lines that are left
-- these and the bytes after them, the first with this number
abbrev left_on : ℕ → List (List (List ℕ)) → List ℕ → LinesLeft
left_on n lines tail = record { number = n; parts = slice_split is_line_end (flat_map line_text lines ++ tail) }

next_on : (n : ℕ) (ws : List (List ℕ)) (lines : List (List (List ℕ))) (tail : List ℕ) → AreWords ws
    → next_line (left_on n (ws ∷ lines) tail) ≡ Some (joined ws, left_on (n + 1) lines tail)
next_on n ws lines tail h =
    let all : List ℕ = flat_map line_text lines in
    let rest : List ℕ = all ++ tail in
    ap (λ (text : List ℕ). next_part n (slice_split is_line_end text)) (append_assoc (line_text ws) all tail ∙ append_assoc (joined ws) (10 ∷ []) rest)
    ∙ ap (next_part n) (slice_split_at is_line_end (joined ws) 10 rest (no_end (joined ws) (list_all-joined ws h)) refl)
    ∙ next_part-whole is_line_end n (joined ws) rest

-- there are lines, and the first of them fails the test
abbrev Halts : (List ℕ → Bool) → List (List (List ℕ)) → Type 0
Halts p [] = ⊥
Halts p (ws ∷ lines) = AreWords ws × (p (joined ws) ≡ false)

while_halts : (p : List ℕ → Bool) (n : ℕ) (rest : List (List (List ℕ))) (tail : List ℕ) → Halts p rest
    → lines_while p n (left_on n rest tail).parts ≡ ([], left_on n rest tail)
while_halts p n [] tail h = elim h [ ]
while_halts p n (ws ∷ lines) tail h = while_no p n (left_on n (ws ∷ lines) tail).parts (joined ws) (left_on (n + 1) lines tail) (next_on n ws lines tail h.0) h.1

-- ---- calls
some_said : (text : List ℕ) (x : Said) → answered_said text ≡ Some x → (y : Said) × (said_of text ≡ Some y)
some_said text x e = by_failed (failed_said text) refl
  where
    by_broken : (o : Option Said) → broken_said text ≡ o → (y : Said) × (option_or o (answered_said text) ≡ Some y)
    by_broken None g = (x, e)
    by_broken (Some y) g = (y, refl)

    by_failed : (o : Option Said) → failed_said text ≡ o → (y : Said) × (option_or o (option_or (broken_said text) (answered_said text)) ≡ Some y)
    by_failed None g = by_broken (broken_said text) refl
    by_failed (Some y) g = (y, refl)

outcome_read : (words : List (List ℕ)) (p : ℕ) → AreWords words → 0 < length words → p < 2 ^ 64 → (y : Said) × (said_of (joined (words ++ at_words p)) ≡ Some y)
outcome_read [] p h some fits = absurd (omega arith)
outcome_read (v ∷ ws) p h some fits = some_said (joined (v ∷ ws ++ at_words p)) (said.Answered p) (answered_reads v ws p h fits)

words_stand_there : (t k : ℕ) (ws : List (List ℕ)) → k < 2 ^ 64 → 0 < length ws → after_number t (joined (codes "call" ∷ decimal t ∷ decimal k ∷ ws)) ≡ Some (joined ws)
words_stand_there t k [] fits some = absurd (omega arith)
words_stand_there t k (v ∷ vs) fits some = number_stands t k v vs fits

module _ {State Op Query Reply : Type 0} (w : Wording State Op Query Reply) where
  spoken_in_words : (t : ℕ) (c : SpokenCall State Op Query Reply) → SpokenReads w c → AreWords (spoken_line w t c)
  spoken_in_words t c h =
      let place : AreWords (at_words c.place) = (record { some = refl; bytes = refl }, (IsWord-decimal c.place, tt)) in
      let after : AreWords (codes "->" ∷ (c.outcome ++ at_words c.place)) =
      (record { some = refl; bytes = refl }, AreWords-append c.outcome (at_words c.place) h.words place) in (
        record { some = refl; bytes = refl },
        (IsWord-decimal t, (IsWord-decimal c.number, AreWords-append (call_words w c.call) (codes "->" ∷ (c.outcome ++ at_words c.place)) (call_in_words w c.call) after)),
      )

  spoken_is_line : (t : ℕ) (c : SpokenCall State Op Query Reply) → SpokenReads w c → is_call_line w t (joined (spoken_line w t c)) ≡ true
  spoken_is_line t c h =
      let ws : List (List ℕ) = call_words w c.call in
      let es : List (List ℕ) = c.outcome ++ at_words c.place in
      let call : List ℕ = joined ws in
      let text : List ℕ = call ++ (codes " -> " ++ joined es) in
      let x = outcome_read c.outcome c.place h.words h.some h.place in
      let after : after_number t (joined (spoken_line w t c)) ≡ Some text =
      words_stand_there t c.number (ws ++ codes "->" ∷ es) h.number (omega (arith, length-append ws (codes "->" ∷ es)))
      ∙ ap Some (arrow_words ws es (call_words_some w c.call h.call) (omega (arith, length-append c.outcome (at_words c.place)))) in
      let within : length call < length text = omega (arith, length-append call (codes " -> " ++ joined es)) in
      ap (some_arrow w) after ∙ has_arrow_at w text (length call) (length text) within (arrow_there w c.call (joined es) x.0 h.call x.1)

  -- the lines of a thread
  own_read : (t n : ℕ) (own : List (SpokenCall State Op Query Reply)) (rest : List (List (List ℕ))) (tail : List ℕ) → AllByRecursion (SpokenReads w) own
      → Halts (is_call_line w t) rest
      → (m : ℕ) × (m ≡ n + length own)
      × (lines_while (is_call_line w t) n (left_on n (map (spoken_line w t) own ++ rest) tail).parts ≡ (map joined (map (spoken_line w t) own), left_on m rest tail))
  own_read t n [] rest tail h halts = (n, omega arith, while_halts (is_call_line w t) n rest tail halts)
  own_read t n (c ∷ own) rest tail h halts =
      let ws = spoken_line w t c in
      let lines = map (spoken_line w t) own ++ rest in
      let more = own_read t (n + 1) own rest tail h.1 halts in (
        more.0,
        omega (arith, more.1),
        while_yes (is_call_line w t) n (left_on n (ws ∷ lines) tail).parts (joined ws) (left_on (n + 1) lines tail)
            (next_on n ws lines tail (spoken_in_words t c h.0)) (spoken_is_line t c h.0)
            ∙ ap (before_lines (joined ws)) more.2,
      )

  -- the lines of later threads are none of this one's
  later_halt : (t u : ℕ) (spoken : List (List (SpokenCall State Op Query Reply))) (rest : List (List (List ℕ))) → t < u → u + length spoken < 2 ^ 64
      → AllByRecursion (λ own. AllByRecursion (SpokenReads w) own) spoken → Halts (is_call_line w t) rest → Halts (is_call_line w t) (spoken_lines w u spoken ++ rest)
  later_halt t u [] rest less fits h halts = halts
  later_halt t u ([] ∷ others) rest less fits h halts = later_halt t (u + 1) others rest (omega arith) (omega arith) h.1 halts
  later_halt t u ((c ∷ own) ∷ others) rest less fits h halts = (
    spoken_in_words u c h.0.0,
    other_thread w t u (decimal c.number) (call_words w c.call ++ codes "->" ∷ (c.outcome ++ at_words c.place)) (omega arith) (omega arith) less,
  )

  -- those of all threads
  all_read : (t n : ℕ) (spoken : List (List (SpokenCall State Op Query Reply))) (rest : List (List (List ℕ))) (tail : List ℕ)
      → AllByRecursion (λ own. AllByRecursion (SpokenReads w) own) spoken → t + length spoken < 2 ^ 64 → ((u : ℕ) → Halts (is_call_line w u) rest)
      → (m : ℕ) × (m ≡ n + length (spoken_lines w t spoken))
      × (call_groups w t (length spoken) (left_on n (spoken_lines w t spoken ++ rest) tail) ≡ (spoken_texts w t spoken, left_on m rest tail))
  all_read t n [] rest tail h fits halts = (n, omega arith, refl)
  all_read t n (own ∷ others) rest tail h fits halts =
      let first = map (spoken_line w t) own in
      let after = spoken_lines w (t + 1) others ++ rest in
      let one = own_read t n own after tail h.0 (later_halt t (t + 1) others rest (omega arith) (omega arith) h.1 (halts t)) in
      let more = all_read (t + 1) one.0 others rest tail h.1 (omega arith) halts in
      let long = length-map own (spoken_line w t) in (
        more.0,
        omega (arith, one.1, more.1, long, length-append first (spoken_lines w (t + 1) others)),
        ap (λ (lines : List (List (List ℕ))). call_groups w t (suc (length others)) (left_on n lines tail)) (append_assoc first (spoken_lines w (t + 1) others) rest)
            ∙ ap (λ (group : List (List ℕ) × LinesLeft). before_groups group.0 (call_groups w (t + 1) (length others) group.1)) one.2
            ∙ ap (before_groups (map joined first)) more.2,
      )

-- ---- nodes
all_nodes : {State Op Query Reply : Type 0} (b : Behaviour State Op Query Reply) (w : Wording State Op Query Reply) (p n : ℕ) (nodes : List Node) (flags : List Bool)
    (rest : List (List (List ℕ))) (tail : List ℕ) → All (NodeReads b w) nodes → length flags ≡ length nodes
    → (m : ℕ) × (m ≡ n + length (flagged_lines b w p nodes flags))
    × (node_run b w p (length nodes) (left_on n (flagged_lines b w p nodes flags ++ rest) tail) ≡ Ok (nodes, left_on m rest tail))
all_nodes b w p n [] [] rest tail h e = (n, omega arith, refl)
all_nodes b w p n [] (flag ∷ flags) rest tail h e = absurd (omega arith)
all_nodes b w p n (x ∷ nodes) [] rest tail h e = absurd (omega arith)
all_nodes b w p n (x ∷ nodes) (flag ∷ flags) rest tail h e =
    let ws = node_line b w (p + 1) x (Some flag) in
    let lines = flagged_lines b w (p + 1) nodes flags ++ rest in
    let more = all_nodes b w (p + 1) (n + 1) nodes flags rest tail (All-tail (NodeReads b w) x nodes h) (omega arith) in (
      more.0,
      omega (arith, more.1),
      then_on _ (x, left_on (n + 1) lines tail) (λ (one : Node × LinesLeft). node_run b w (p + 1) (length nodes) one.1 >>= λ rest. Ok (one.0 ∷ rest.0, rest.1)) _
          (one_line-says (node_said b w (p + 1)) (left_on n (ws ∷ lines) tail) (joined ws) (left_on (n + 1) lines tail) x
          (next_on n ws lines tail (node_line_in_words b w (p + 1) x (Some flag))) (node_reads b w (p + 1) x flag (All-head (NodeReads b w) x nodes h)))
          (ap (λ (r : Result (List Node × LinesLeft) ℕ). r >>= λ rest. Ok (x ∷ rest.0, rest.1)) more.2),
    )

-- ---- logs
all_logs : (t n : ℕ) (logs : List LogData) (rest : List (List (List ℕ))) (tail : List ℕ) → All LogReads logs
    → (m : ℕ) × (m ≡ n + length (counted_lines t logs)) × (log_run t (length logs) (left_on n (counted_lines t logs ++ rest) tail) ≡ Ok (left_on m rest tail))
all_logs t n [] rest tail h = (n, omega arith, refl)
all_logs t n (log ∷ logs) rest tail h =
    let ws = log_line t log.entries log.lines (Some log.fences) in
    let lines = counted_lines (t + 1) logs ++ rest in
    let own = All-head LogReads log logs h in
    let more = all_logs (t + 1) (n + 1) logs rest tail (All-tail LogReads log logs h) in (
      more.0,
      omega (arith, more.1),
      then_on _ (left_on (n + 1) lines tail) (λ (left : LinesLeft). log_run (t + 1) (length logs) left) _
          (line_that-holds (is_log_line t) (left_on n (ws ∷ lines) tail) (joined ws) (left_on (n + 1) lines tail)
          (next_on n ws lines tail (log_line_in_words t log.entries log.lines (Some log.fences)))
          (ap is_some (log_reads t log.entries log.lines log.fences own.entries own.lines own.fences)))
          more.2,
    )

-- ---- fences that failed
fence_words_stand : (t place : ℕ) → AreWords (fence_line t place)
fence_words_stand t place =
    (record { some = refl; bytes = refl }, (record { some = refl; bytes = refl }, (IsWord-decimal t, (record { some = refl; bytes = refl }, (IsWord-decimal place, tt)))))

state_word : AreWords (codes "state" ∷ [])
state_word = (record { some = refl; bytes = refl }, tt)

all_faults : (threads least n : ℕ) (faults : List FailedFence) (rest : List (List (List ℕ))) (tail : List ℕ) → FaultsRise least threads faults → threads < 2 ^ 64
    → (m : ℕ) × (m ≡ n + length (failed_lines faults))
    × (fault_run threads least n (left_on n (failed_lines faults ++ (codes "state" ∷ []) ∷ rest) tail).parts ≡ left_on m ((codes "state" ∷ []) ∷ rest) tail)
all_faults threads least n [] rest tail h fits = (
  n,
  omega arith,
  faults_no threads least n (left_on n ((codes "state" ∷ []) ∷ rest) tail).parts (codes "state") (left_on (n + 1) rest tail)
      (next_on n (codes "state" ∷ []) rest tail state_word) refl,
)
all_faults threads least n (fault ∷ faults) rest tail h fits =
    let ws = fence_line fault.thread fault.place in
    let lines = failed_lines faults ++ (codes "state" ∷ []) ∷ rest in
    let more = all_faults threads (fault.thread + 1) (n + 1) faults rest tail h.3 fits in (
      more.0,
      omega (arith, more.1),
      faults_yes threads least n (left_on n (ws ∷ lines) tail).parts (joined ws) (left_on (n + 1) lines tail) fault.thread
          (next_on n ws lines tail (fence_words_stand fault.thread fault.place)) (fault_reads least threads fault.thread fault.place h.0 h.1 (omega (arith, h.1)) h.2)
          ∙ more.2,
    )

-- ---- the whole
recovered_words : (n : ℕ) → AreWords (recovered_line n)
recovered_words n = (record { some = refl; bytes = refl }, (IsWord-decimal n, tt))

trace_words : (n : ℕ) → AreWords (trace_line n)
trace_words n = (record { some = refl; bytes = refl }, (IsWord-decimal n, tt))

module _ {State Op Query Reply : Type 0} (b : Behaviour State Op Query Reply) (w : Wording State Op Query Reply) (threads : ℕ) where
  -- what a form of these calls, with the line `state` at this number, says
  abbrev form_with : ReportForm → List (List (List ℕ)) → ℕ → ReportForm
  form_with form calls n = record { calls = calls; nodes = form.nodes; state_line = n; state = form.state }

  same_form : (form : ReportForm) (calls : List (List (List ℕ))) (n : ℕ) → form.calls ≡ calls → form.state_line ≡ n → form_with form calls n ≡ form
  same_form form calls n e h = ap (λ (m : ℕ). form_with form calls m) (sym h) ∙ ap (λ (c : List (List (List ℕ))). form_with form c form.state_line) (sym e)

  -- the lines after those of calls
  rest_read : (text : List ℕ) (form : ReportForm) (h : HasReportLines b w threads text form) (n : ℕ) (calls : List (List (List ℕ))) → threads < 2 ^ 64
      → (m : ℕ) × (m ≡ n + 2 + length (flagged_lines b w 0 form.nodes h.flags) + length (counted_lines 0 h.logs) + length (failed_lines h.faults))
      × (rest_of b w threads calls
      (left_on n (trace_line (length form.nodes)
      ∷ (flagged_lines b w 0 form.nodes h.flags
      ++ (counted_lines 0 h.logs ++ (recovered_line h.recovered ∷ (failed_lines h.faults ++ (codes "state" ∷ []) ∷ []))))) form.state)
      ≡ Ok (form_with form calls m))
  rest_read text form h n calls many =
      let count = length form.nodes in
      let tail = form.state in
      let ending = failed_lines h.faults ++ (codes "state" ∷ []) ∷ [] in
      let kept = recovered_line h.recovered ∷ ending in
      let logs_on = counted_lines 0 h.logs ++ kept in
      let nodes_on = flagged_lines b w 0 form.nodes h.flags ++ logs_on in
      let nodes = all_nodes b w 0 (n + 1) form.nodes h.flags logs_on tail h.nodes h.each_flag in
      let logs = all_logs 0 nodes.0 h.logs kept tail h.logs_read in
      let faults = all_faults threads 0 (logs.0 + 1) h.faults [] tail h.rise many in (
        faults.0,
        omega (arith, nodes.1, logs.1, faults.1),
        then_on _ (count, left_on (n + 1) nodes_on tail) _ _
            (one_line-says trace_said (left_on n (trace_line count ∷ nodes_on) tail) (joined (trace_line count)) (left_on (n + 1) nodes_on tail) count
            (next_on n (trace_line count) nodes_on tail (trace_words count)) (trace_reads count h.few))
            (then_on _ (form.nodes, left_on nodes.0 logs_on tail) _ _ nodes.2
            (then_on _ (left_on logs.0 kept tail) _ _ (ap (λ (k : ℕ). log_run 0 k (left_on nodes.0 logs_on tail)) (sym h.each_log) ∙ logs.2)
            (then_on _ (left_on (logs.0 + 1) ending tail) _ _
            (line_that-holds is_recovered_line (left_on logs.0 kept tail) (joined (recovered_line h.recovered)) (left_on (logs.0 + 1) ending tail)
            (next_on logs.0 (recovered_line h.recovered) ending tail (recovered_words h.recovered)) (ap is_some (recovered_reads h.recovered h.recovered_fits)))
            (ap (λ (left : LinesLeft). line_that is_state_line left >>= λ after.
            Ok (record { calls = calls; nodes = form.nodes; state_line = left.number; state = join_with_byte 10 after.parts })) faults.2
            ∙ then_on _ (left_on (faults.0 + 1) [] tail) _ _
            (line_that-holds is_state_line (left_on faults.0 ((codes "state" ∷ []) ∷ []) tail) (codes "state") (left_on (faults.0 + 1) [] tail)
            (next_on faults.0 (codes "state" ∷ []) [] tail state_word) refl)
            (ap (λ (t : List ℕ). Ok (record { calls = calls; nodes = form.nodes; state_line = faults.0; state = t })) (join_parts tail)))))),
      )

  lines_read : (text : List ℕ) (form : ReportForm) → threads < 2 ^ 64 → HasReportLines b w threads text form → report_form b w threads text ≡ Ok form
  lines_read text form many h =
      let spoken = h.spoken in
      let nodes_lines = flagged_lines b w 0 form.nodes h.flags in
      let logs_lines = counted_lines 0 h.logs in
      let ending = failed_lines h.faults ++ (codes "state" ∷ []) ∷ [] in
      let kept = recovered_line h.recovered ∷ ending in
      let logs_on = logs_lines ++ kept in
      let after = trace_line (length form.nodes) ∷ (nodes_lines ++ logs_on) in
      let each = h.each_thread in
      let groups = all_read w 0 1 spoken after form.state h.spoken_read (omega (arith, each))
      (λ u. (trace_words (length form.nodes), trace_is_no_call w u (length form.nodes))) in
      let rest = rest_read text form h groups.0 (spoken_texts w 0 spoken) many in
      let start : all_lines text ≡ left_on 1 (spoken_lines w 0 spoken ++ after) form.state =
      ap all_lines (h.text_is ∙ ap (λ (lines : List (List (List ℕ))). flat_map line_text lines ++ form.state) h.lines_are) in
      let number : form.state_line ≡ rest.0 =
      omega (
        arith,
        h.state_line,
        ap length h.lines_are,
        groups.1,
        rest.1,
        length-append (spoken_lines w 0 spoken) after,
        length-append nodes_lines logs_on,
        length-append logs_lines kept,
        length-append (failed_lines h.faults) ((codes "state" ∷ []) ∷ []),
      ) in
      ap (λ (left : LinesLeft). let calls = call_groups w 0 threads left in rest_of b w threads calls.0 calls.1) start
      ∙ ap (λ (k : ℕ). let calls = call_groups w 0 k (left_on 1 (spoken_lines w 0 spoken ++ after) form.state) in rest_of b w threads calls.0 calls.1) (sym each)
      ∙ ap (λ (calls : List (List (List ℕ)) × LinesLeft). rest_of b w threads calls.0 calls.1) groups.2
      ∙ rest.2
      ∙ ap Ok (same_form form (spoken_texts w 0 spoken) rest.0 h.calls number)

-- A text is read as a report just where it has the lines of one.
pub lines_decide : {State Op Query Reply : Type 0} (b : Behaviour State Op Query Reply) (w : Wording State Op Query Reply) → ReportLinesLaw b w
lines_decide b w threads text form few = (λ e. lines_stand b w threads text form e, λ h. lines_read b w threads text form (omega arith) h)
