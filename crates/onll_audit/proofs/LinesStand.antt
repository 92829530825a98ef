-- A text that is read as a report has just the lines of a report.
use Rattle.std.proofs.Common.{ℕ, zero, suc, Bool, true, false, List, [], ◌∷◌, ◌++◌, ◌≡◌, ◌+◌, ◌<◌, ◌^◌, length, map, codes, cond, is_some, Option, Some, None, Ok, refl, ap, sym, ◌∙◌, arith, append_assoc, length-append, subst}
use Rattle.std.specs.List.{All, AllByRecursion, flat_map, join_with_byte}
use Rattle.std.proofs.lemmas.Grind.{flat_map-append}
use Rattle.std.proofs.lemmas.List.Elements.{All-cons}
use Rattle.std.proofs.lemmas.Option.{same_Some}
use Rattle.std.proofs.lemmas.Slice.Eq.{bytes_eq-Decides}
use Rattle.onll_words.specs.Texts.{joined, line_text}
use Rattle.onll_model.specs.declared.node.Node.{Node}
use Rattle.onll_model.specs.Object.{Behaviour}
use Rattle.onll_text.specs.Refusal.{◌>>=◌}
use Rattle.onll_text.specs.Wording.{Wording}
use Rattle.onll_text.specs.Lines.{LogData, trace_line, node_line, flagged_lines, log_line, counted_lines, recovered_line, fence_line}
use Rattle.onll_text.specs.Reports.{NodeReads, LogReads}
use Rattle.onll_audit.specs.Fields.{◌>?◌, some_if}
use Rattle.onll_audit.specs.Form.{LinesLeft, ReportForm, all_lines, wanted, next_part, next_line, one_line, line_that, lines_while, before_lines, is_call_line, call_groups, trace_said, node_said, node_run, is_log_line, log_said, log_run, recovered_said, is_recovered_line, fault_said, after_fault, fault_run, is_state_line, rest_of, report_form}
use Rattle.onll_audit.specs.Printed.{FailedFence, failed_lines, FaultsRise}
use Rattle.onll_audit.specs.ReportLines.{SpokenCall, SpokenReads, spoken_line, spoken_lines, spoken_texts, HasReportLines}
use Rattle.onll_audit.proofs.Counting.{accepted, same_ok}
use Rattle.onll_audit.proofs.Splitting.{join_parts}
use Rattle.onll_audit.proofs.FieldsStand.{was_read, test_held, trace_stands, recovered_stands, log_stands, fault_stands}
use Rattle.onll_audit.proofs.CallsStand.{spoken_stands, node_stands}

-- ---- lines that stand between two places
abbrev text_left : LinesLeft → List ℕ
text_left left = join_with_byte 10 left.parts

-- the lines from one place to the next
record Between (lines : List (List (List ℕ))) (left after : LinesLeft) : Type 0 where
  text : text_left left ≡ flat_map line_text lines ++ text_left after
  number : after.number ≡ left.number + length lines

between_none : (left : LinesLeft) → Between [] left left
between_none left = record { text = refl; number = omega arith }

between_more : (ws : List (List ℕ)) (line : List ℕ) (lines : List (List (List ℕ))) (left next after : LinesLeft) → next_line left ≡ Some (line, next) → line ≡ joined ws
    → Between lines next after → Between (ws ∷ lines) left after
between_more ws line lines left next after e same h = by_parts left.number left.parts e
  where
    by_parts : (n : ℕ) (parts : List (List ℕ)) → next_part n parts ≡ Some (line, next) → Between (ws ∷ lines) (record { number = n; parts = parts }) after
    by_parts n [] g = cc g
    by_parts n (x ∷ []) g = cc g
    by_parts n (x ∷ y ∷ more) g =
        let pair = same_Some (x, record { number = n + 1; parts = y ∷ more }) (line, next) g in
        let at : n + 1 ≡ next.number = ap (λ (r : List ℕ × LinesLeft). r.1.number) pair in
        let all : List ℕ = flat_map line_text lines in
        let rest : List ℕ = text_left after in
        record {
          text =
              ap (λ (r : List ℕ × LinesLeft). r.0 ++ 10 ∷ text_left r.1) pair
              ∙ ap (λ (l : List ℕ). l ++ 10 ∷ text_left next) same
              ∙ ap (λ (t : List ℕ). joined ws ++ 10 ∷ t) h.text
              ∙ sym (append_assoc (joined ws) (10 ∷ []) (all ++ rest))
              ∙ sym (append_assoc (line_text ws) all rest);
          number = omega (arith, at, h.number);
        }

between_all : (xs ys : List (List (List ℕ))) (left next after : LinesLeft) → Between xs left next → Between ys next after → Between (xs ++ ys) left after
between_all xs ys left next after g h =
    let first : List ℕ = flat_map line_text xs in
    let second : List ℕ = flat_map line_text ys in
    record {
      text =
          g.text ∙ ap (λ (t : List ℕ). first ++ t) h.text ∙ sym (append_assoc first second (text_left after))
          ∙ ap (λ (t : List ℕ). t ++ text_left after) (sym (flat_map-append line_text xs ys));
      number = omega (arith, g.number, h.number, length-append xs ys);
    }

-- ---- one line
-- a line that was read
record WasLine {A : Type 0} (read : List ℕ → Option A) (left : LinesLeft) (x : A) (after : LinesLeft) : Type 0 where
  line : List ℕ
  next : next_line left ≡ Some (line, after)
  says : read line ≡ Some x

wanted_some : {A : Type 0} (n : ℕ) (o : Option A) (x : A) → wanted n o ≡ Ok x → o ≡ Some x
wanted_some n None x e = cc e
wanted_some n (Some y) x e = ap Some (same_ok y x (Ok y) refl e)

was_line : {A : Type 0} (read : List ℕ → Option A) (left : LinesLeft) (x : A) (after : LinesLeft) → one_line read left ≡ Ok (x, after) → WasLine read left x after
was_line {A} read left x after e =
    let all : A × LinesLeft = (x, after) in
    let l = was_read (next_line left) (λ (l : List ℕ × LinesLeft). read l.0 >? λ (x : A). Some (x, l.1)) all (wanted_some left.number _ all e) in
    let line : List ℕ × LinesLeft = l.0 in
    let v = was_read (read line.0) (λ (x : A). Some (x, line.1)) all l.2 in
    let same = same_Some (v.0, line.1) all v.2 in
    record {
      line = line.0;
      next = l.1 ∙ ap (λ (r : A × LinesLeft). Some (line.0, r.1)) same;
      says = v.1 ∙ ap (λ (r : A × LinesLeft). Some r.0) same;
    }

-- a line that was tested
was_that : (p : List ℕ → Bool) (left after : LinesLeft) → line_that p left ≡ Ok after → (line : List ℕ) × (next_line left ≡ Some (line, after)) × (p line ≡ true)
was_that p left after e =
    let l = was_read (next_line left) (λ (l : List ℕ × LinesLeft). some_if (p l.0) l.1) after (wanted_some left.number _ after e) in
    let line : List ℕ × LinesLeft = l.0 in
    let k = test_held (p line.0) line.1 after l.2 in
    (line.0, l.1 ∙ ap (λ (r : LinesLeft). Some (line.0, r)) k.1, k.0)

-- what a test found is there
is_there : {A : Type 0} (o : Option A) → is_some o ≡ true → (x : A) × (o ≡ Some x)
is_there None e = cc e
is_there (Some x) e = (x, refl)

-- ---- calls
-- the lines of a thread's calls, up to the first that is none
record HasCalls {State Op Query Reply : Type 0} (w : Wording State Op Query Reply) (t : ℕ) (left : LinesLeft) (group : List (List ℕ) × LinesLeft) : Type 0 where
  own : List (SpokenCall State Op Query Reply)
  reads : AllByRecursion (SpokenReads w) own
  texts : group.0 ≡ map joined (map (spoken_line w t) own)
  between : Between (map (spoken_line w t) own) left group.1

-- those of so many threads
record HasGroups {State Op Query Reply : Type 0} (w : Wording State Op Query Reply) (t count : ℕ) (left : LinesLeft) (groups : List (List (List ℕ)) × LinesLeft)
    : Type 0 where
  spoken : List (List (SpokenCall State Op Query Reply))
  many : length spoken ≡ count
  reads : AllByRecursion (λ own. AllByRecursion (SpokenReads w) own) spoken
  texts : groups.0 ≡ spoken_texts w t spoken
  between : Between (spoken_lines w t spoken) left groups.1

module _ {State Op Query Reply : Type 0} (w : Wording State Op Query Reply) where
  no_calls : (t : ℕ) (left : LinesLeft) → HasCalls w t left ([], left)
  no_calls t left = record { own = []; reads = tt; texts = refl; between = between_none left }

  calls_more : (t n : ℕ) (x y : List ℕ) (more : List (List ℕ)) (rest : List (List ℕ) × LinesLeft) (test : Bool) → is_call_line w t x ≡ test
      → HasCalls w t (record { number = n + 1; parts = y ∷ more }) rest
      → HasCalls w t (record { number = n; parts = x ∷ y ∷ more })
      (cond {A = List (List ℕ) × LinesLeft} test (before_lines x rest) ([], record { number = n; parts = x ∷ y ∷ more }))
  calls_more t n x y more rest false e h = no_calls t (record { number = n; parts = x ∷ y ∷ more })
  calls_more t n x y more rest true e h =
      let one = spoken_stands w t x e in
      record {
        own = one.spoken ∷ h.own;
        reads = (one.reads, h.reads);
        texts = ap (λ (l : List ℕ). l ∷ rest.0) one.line_is ∙ ap (λ (ls : List (List ℕ)). joined (spoken_line w t one.spoken) ∷ ls) h.texts;
        between = between_more (spoken_line w t one.spoken) x (map (spoken_line w t) h.own) (record { number = n; parts = x ∷ y ∷ more })
            (record { number = n + 1; parts = y ∷ more }) rest.1 refl one.line_is h.between;
      }

  calls_stand : (t n : ℕ) (parts : List (List ℕ)) → HasCalls w t (record { number = n; parts = parts }) (lines_while (is_call_line w t) n parts)
  calls_stand t n [] = no_calls t (record { number = n; parts = [] })
  calls_stand t n (x ∷ []) = no_calls t (record { number = n; parts = x ∷ [] })
  calls_stand t n (x ∷ y ∷ more) =
      calls_more t n x y more (lines_while (is_call_line w t) (n + 1) (y ∷ more)) (is_call_line w t x) refl (calls_stand t (n + 1) (y ∷ more))

  groups_stand : (t count : ℕ) (left : LinesLeft) → HasGroups w t count left (call_groups w t count left)
  groups_stand t zero left = record { spoken = []; many = refl; reads = tt; texts = refl; between = between_none left }
  groups_stand t (suc count) left =
      let group = lines_while (is_call_line w t) left.number left.parts in
      let one = calls_stand t left.number left.parts in
      let others = groups_stand (t + 1) count group.1 in
      let many = others.many in
      record {
        spoken = one.own ∷ others.spoken;
        many = omega (arith, many);
        reads = (one.reads, others.reads);
        texts = ap (λ (ls : List (List ℕ)). ls ∷ (call_groups w (t + 1) count group.1).0) one.texts
            ∙ ap (λ (gs : List (List (List ℕ))). map joined (map (spoken_line w t) one.own) ∷ gs) others.texts;
        between = between_all (map (spoken_line w t) one.own) (spoken_lines w (t + 1) others.spoken) left group.1 (call_groups w (t + 1) count group.1).1
            one.between others.between;
      }

-- ---- nodes
record HasNodes {State Op Query Reply : Type 0} (b : Behaviour State Op Query Reply) (w : Wording State Op Query Reply) (p count : ℕ) (left : LinesLeft)
    (nodes : List Node) (after : LinesLeft) : Type 0 where
  flags : List Bool
  each_flag : length flags ≡ length nodes
  many : length nodes ≡ count
  reads : All (NodeReads b w) nodes
  between : Between (flagged_lines b w p nodes flags) left after

no_nodes : {State Op Query Reply : Type 0} (b : Behaviour State Op Query Reply) (w : Wording State Op Query Reply) → All (NodeReads b w) []
no_nodes b w k d lt = absurd (omega (arith, lt))

nodes_stand : {State Op Query Reply : Type 0} (b : Behaviour State Op Query Reply) (w : Wording State Op Query Reply) (p count : ℕ) (left : LinesLeft) (nodes : List Node)
    (after : LinesLeft) → node_run b w p count left ≡ Ok (nodes, after) → HasNodes b w p count left nodes after
nodes_stand b w p zero left nodes after e =
    subst (λ (r : List Node × LinesLeft). HasNodes b w p zero left r.0 r.1) (same_ok ([], left) (nodes, after) (Ok ([], left)) refl e)
    (record { flags = []; each_flag = refl; many = refl; reads = no_nodes b w; between = between_none left })
nodes_stand b w p (suc count) left nodes after e =
    let one = accepted (one_line (node_said b w (p + 1)) left) (λ (n : Node × LinesLeft). node_run b w (p + 1) count n.1 >>= λ rest. Ok (n.0 ∷ rest.0, rest.1)) (nodes, after) e in
    let node : Node = one.0.0 in
    let next : LinesLeft = one.0.1 in
    let more = accepted (node_run b w (p + 1) count next) (λ (rest : List Node × LinesLeft). Ok (node ∷ rest.0, rest.1)) (nodes, after) one.2 in
    let rest : List Node × LinesLeft = more.0 in
    let line = was_line (node_said b w (p + 1)) left node next one.1 in
    let is = node_stands b w (p + 1) line.line node line.says in
    let h = nodes_stand b w (p + 1) count next rest.0 rest.1 more.1 in
    subst (λ (r : List Node × LinesLeft). HasNodes b w p (suc count) left r.0 r.1) (same_ok (node ∷ rest.0, rest.1) (nodes, after) (Ok (node ∷ rest.0, rest.1)) refl more.2)
    (record {
      flags = is.flag ∷ h.flags;
      each_flag = omega (arith, h.each_flag);
      many = omega (arith, h.many);
      reads = All-cons (NodeReads b w) node rest.0 is.reads h.reads;
      between = between_more (node_line b w (p + 1) node (Some is.flag)) line.line (flagged_lines b w (p + 1) rest.0 h.flags) left next rest.1 line.next is.line_is h.between;
    })

-- ---- logs
record HasLogs (t count : ℕ) (left after : LinesLeft) : Type 0 where
  logs : List LogData
  many : length logs ≡ count
  reads : All LogReads logs
  between : Between (counted_lines t logs) left after

no_logs : All LogReads []
no_logs k d lt = absurd (omega (arith, lt))

logs_stand : (t count : ℕ) (left after : LinesLeft) → log_run t count left ≡ Ok after → HasLogs t count left after
logs_stand t zero left after e =
    subst (λ (r : LinesLeft). HasLogs t zero left r) (same_ok left after (Ok left) refl e) (record { logs = []; many = refl; reads = no_logs; between = between_none left })
logs_stand t (suc count) left after e =
    let one = accepted (line_that (is_log_line t) left) (λ (next : LinesLeft). log_run (t + 1) count next) after e in
    let next : LinesLeft = one.0 in
    let line = was_that (is_log_line t) left next one.1 in
    let fences = is_there (log_said t line.0) line.2 in
    let is = log_stands t line.0 fences.0 fences.1 in
    let log : LogData = is.0 in
    let h = logs_stand (t + 1) count next after one.2 in
    record {
      logs = log ∷ h.logs;
      many = omega (arith, h.many);
      reads = All-cons LogReads log h.logs is.1 h.reads;
      between = between_more (log_line t log.entries log.lines (Some log.fences)) line.0 (counted_lines (t + 1) h.logs) left next after line.1 is.2 h.between;
    }

-- ---- fences that failed
record HasFaults (threads least : ℕ) (left after : LinesLeft) : Type 0 where
  faults : List FailedFence
  rise : FaultsRise least threads faults
  between : Between (failed_lines faults) left after

no_faults : (threads least : ℕ) (left : LinesLeft) → HasFaults threads least left left
no_faults threads least left = record { faults = []; rise = tt; between = between_none left }

faults_more : (threads least n : ℕ) (x y : List ℕ) (more : List (List ℕ)) (o : Option ℕ) → fault_said least threads x ≡ o
    → ((t : ℕ) → HasFaults threads (t + 1) (record { number = n + 1; parts = y ∷ more }) (fault_run threads (t + 1) (n + 1) (y ∷ more)))
    → HasFaults threads least (record { number = n; parts = x ∷ y ∷ more })
    (after_fault (record { number = n; parts = x ∷ y ∷ more }) (λ t. fault_run threads (t + 1) (n + 1) (y ∷ more)) o)
faults_more threads least n x y more None e h = no_faults threads least (record { number = n; parts = x ∷ y ∷ more })
faults_more threads least n x y more (Some t) e h =
    let is = fault_stands least threads x t e in
    let rest = h t in
    record {
      faults = record { thread = t; place = is.0 } ∷ rest.faults;
      rise = (is.1, is.2, is.3, rest.rise);
      between = between_more (fence_line t is.0) x (failed_lines rest.faults) (record { number = n; parts = x ∷ y ∷ more }) (record { number = n + 1; parts = y ∷ more })
          (fault_run threads (t + 1) (n + 1) (y ∷ more)) refl is.4 rest.between;
    }

faults_stand : (threads least n : ℕ) (parts : List (List ℕ)) → HasFaults threads least (record { number = n; parts = parts }) (fault_run threads least n parts)
faults_stand threads least n [] = no_faults threads least (record { number = n; parts = [] })
faults_stand threads least n (x ∷ []) = no_faults threads least (record { number = n; parts = x ∷ [] })
faults_stand threads least n (x ∷ y ∷ more) =
    faults_more threads least n x y more (fault_said least threads x) refl (λ t. faults_stand threads (t + 1) (n + 1) (y ∷ more))

-- ---- the whole
-- what was read after the lines of calls, part by part
record RestWas {State Op Query Reply : Type 0} (b : Behaviour State Op Query Reply) (w : Wording State Op Query Reply) (threads : ℕ)
    (calls : List (List (List ℕ))) (left : LinesLeft) (form : ReportForm) : Type 0 where
  count : ℕ
  traced : LinesLeft
  noted : LinesLeft
  logged : LinesLeft
  kept : LinesLeft
  after : LinesLeft
  trace : one_line trace_said left ≡ Ok (count, traced)
  nodes : node_run b w 0 count traced ≡ Ok (form.nodes, noted)
  logs : log_run 0 threads noted ≡ Ok logged
  recovered : line_that is_recovered_line logged ≡ Ok kept
  state : line_that is_state_line (fault_run threads 0 kept.number kept.parts) ≡ Ok after
  calls_are : form.calls ≡ calls
  number_is : form.state_line ≡ (fault_run threads 0 kept.number kept.parts).number
  text_is : form.state ≡ text_left after

rest_was : {State Op Query Reply : Type 0} (b : Behaviour State Op Query Reply) (w : Wording State Op Query Reply) (threads : ℕ)
    (calls : List (List (List ℕ))) (left : LinesLeft) (form : ReportForm) → rest_of b w threads calls left ≡ Ok form → RestWas b w threads calls left form
rest_was b w threads calls left form e =
    let count = accepted (one_line trace_said left) _ form e in
    let nodes = accepted (node_run b w 0 count.0.0 count.0.1) _ form count.2 in
    let logs = accepted (log_run 0 threads nodes.0.1) _ form nodes.2 in
    let recovered = accepted (line_that is_recovered_line logs.0) _ form logs.2 in
    let faults = fault_run threads 0 recovered.0.number recovered.0.parts in
    let after = accepted (line_that is_state_line faults) _ form recovered.2 in
    let same = same_ok _ form _ refl after.2 in
    record {
      count = count.0.0;
      traced = count.0.1;
      noted = nodes.0.1;
      logged = logs.0;
      kept = recovered.0;
      after = after.0;
      trace = count.1;
      nodes = nodes.1 ∙ ap (λ (f : ReportForm). Ok (f.nodes, nodes.0.1)) same;
      logs = logs.1;
      recovered = recovered.1;
      state = after.1;
      calls_are = sym (ap (λ (f : ReportForm). f.calls) same);
      number_is = sym (ap (λ (f : ReportForm). f.state_line) same);
      text_is = sym (ap (λ (f : ReportForm). f.state) same);
    }

-- the lines that were read, from the first on
record AllLines {State Op Query Reply : Type 0} (b : Behaviour State Op Query Reply) (w : Wording State Op Query Reply) (threads : ℕ)
    (spoken : List (List (SpokenCall State Op Query Reply))) (start after : LinesLeft) (form : ReportForm) : Type 0 where
  flags : List Bool
  logs : List LogData
  recovered : ℕ
  failed : List FailedFence
  few : length form.nodes < 2 ^ 64
  each_flag : length flags ≡ length form.nodes
  nodes : All (NodeReads b w) form.nodes
  each_log : length logs ≡ threads
  logs_read : All LogReads logs
  recovered_fits : recovered < 2 ^ 64
  rise : FaultsRise 0 threads failed
  between : Between (spoken_lines w 0 spoken
      ++ (trace_line (length form.nodes)
      ∷ (flagged_lines b w 0 form.nodes flags
      ++ (counted_lines 0 logs ++ (recovered_line recovered ∷ (failed_lines failed ++ (codes "state" ∷ []) ∷ [])))))) start after
  number : after.number ≡ form.state_line + 1

all_stand : {State Op Query Reply : Type 0} (b : Behaviour State Op Query Reply) (w : Wording State Op Query Reply) (threads : ℕ)
    (spoken : List (List (SpokenCall State Op Query Reply))) (start next : LinesLeft) (form : ReportForm) (calls : List (List (List ℕ)))
    (rest : RestWas b w threads calls next form) → Between (spoken_lines w 0 spoken) start next
    → AllLines b w threads spoken start rest.after form
all_stand b w threads spoken start next form calls rest one =
    let faults = fault_run threads 0 rest.kept.number rest.kept.parts in
    let two = was_line trace_said next rest.count rest.traced rest.trace in
    let two_is = trace_stands two.line rest.count two.says in
    let three = nodes_stand b w 0 rest.count rest.traced form.nodes rest.noted rest.nodes in
    let four = logs_stand 0 threads rest.noted rest.logged rest.logs in
    let five = was_that is_recovered_line rest.logged rest.kept rest.recovered in
    let many = is_there (recovered_said five.0) five.2 in
    let five_is = recovered_stands five.0 many.0 many.1 in
    let six = faults_stand threads 0 rest.kept.number rest.kept.parts in
    let last = was_that is_state_line faults rest.after rest.state in
    let last_is : last.0 ≡ codes "state" = (bytes_eq-Decides last.0 (codes "state")).0 last.2 in
    let seven = between_more (codes "state" ∷ []) last.0 [] faults rest.after rest.after last.1 last_is (between_none rest.after) in
    let number = seven.number in
    let number_is = rest.number_is in
    let failed_on = failed_lines six.faults ++ (codes "state" ∷ []) ∷ [] in
    let ending = recovered_line many.0 ∷ failed_on in
    let logs_on = counted_lines 0 four.logs ++ ending in
    let nodes_on = flagged_lines b w 0 form.nodes three.flags ++ logs_on in
    let counted = three.many in
    record {
      flags = three.flags;
      logs = four.logs;
      recovered = many.0;
      failed = six.faults;
      few = omega (arith, two_is.1, counted);
      each_flag = three.each_flag;
      nodes = three.reads;
      each_log = four.many;
      logs_read = four.reads;
      recovered_fits = five_is.1;
      rise = six.rise;
      between = between_all (spoken_lines w 0 spoken) (trace_line (length form.nodes) ∷ nodes_on) start next rest.after one
          (between_more (trace_line (length form.nodes)) two.line nodes_on next rest.traced rest.after two.next
          (two_is.0 ∙ ap (λ (n : ℕ). joined (trace_line n)) (sym counted))
          (between_all (flagged_lines b w 0 form.nodes three.flags) logs_on rest.traced rest.noted rest.after three.between
          (between_all (counted_lines 0 four.logs) ending rest.noted rest.logged rest.after four.between
          (between_more (recovered_line many.0) five.0 failed_on rest.logged rest.kept rest.after five.1 five_is.0
          (between_all (failed_lines six.faults) ((codes "state" ∷ []) ∷ []) rest.kept faults rest.after six.between seven)))));
      number = omega (arith, number, number_is);
    }

pub lines_stand : {State Op Query Reply : Type 0} (b : Behaviour State Op Query Reply) (w : Wording State Op Query Reply) (threads : ℕ) (text : List ℕ) (form : ReportForm)
    → report_form b w threads text ≡ Ok form → HasReportLines b w threads text form
lines_stand b w threads text form e =
    let calls = call_groups w 0 threads (all_lines text) in
    let rest = rest_was b w threads calls.0 calls.1 form e in
    let one = groups_stand w 0 threads (all_lines text) in
    let all = all_stand b w threads one.spoken (all_lines text) calls.1 form calls.0 rest one.between in
    let number = all.number in
    let lines_number = all.between.number in
    let lines : List (List (List ℕ)) = spoken_lines w 0 one.spoken
    ++ (trace_line (length form.nodes)
    ∷ (flagged_lines b w 0 form.nodes all.flags
    ++ (counted_lines 0 all.logs ++ (recovered_line all.recovered ∷ (failed_lines all.failed ++ (codes "state" ∷ []) ∷ []))))) in
    record {
      spoken = one.spoken;
      flags = all.flags;
      logs = all.logs;
      recovered = all.recovered;
      faults = all.failed;
      lines = lines;
      lines_are = refl;
      text_is = sym (join_parts text) ∙ all.between.text ∙ ap (λ (t : List ℕ). flat_map line_text lines ++ t) (sym rest.text_is);
      state_line = omega (arith, number, lines_number);
      calls = rest.calls_are ∙ one.texts;
      each_thread = one.many;
      spoken_read = one.reads;
      nodes = all.nodes;
      few = all.few;
      each_flag = all.each_flag;
      each_log = all.each_log;
      logs_read = all.logs_read;
      recovered_fits = all.recovered_fits;
      rise = all.rise;
    }
