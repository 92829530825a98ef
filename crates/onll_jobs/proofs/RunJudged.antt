-- What a run of scripts that were read prints is judged legal by these.

use Rattle.std.proofs.Common.{ℕ, ◌≡◌, ◌≤◌, ◌<◌, ◌+◌, ◌^◌, Bool, false, List, [], ◌∷◌, ◌++◌, append_assoc, cond, length, nat_lt, Option, Some, None, Ok, Err, refl, ap, sym, ◌∙◌, subst, arith}
use Rattle.std.proofs.lemmas.Bool.Decides.{nat_tests}
use Rattle.std.proofs.lemmas.List.{length-map}
use Rattle.std.proofs.lemmas.List.Elements.{recursion_from_All}
use Rattle.std.specs.List.{AllByRecursion, flat_map}
use Rattle.onll_words.specs.Texts.{line_text}
use Rattle.onll_model.specs.declared.call.Call.{Call}
use Rattle.onll_model.specs.declared.call.CallEnd.{CallEnd}
use Rattle.onll_model.specs.declared.call.CallEnd.TheVariants.{Answered, Running, Ordered, FenceFailed, Broken}
use Rattle.onll_model.proofs.Lists.{same_some, some_not_none}
use Rattle.onll_start.proofs.Heads.{length-heads_from}
use Rattle.onll_run.specs.Outcomes.{failed_in}
use Rattle.onll_run.specs.Left.{AllOver, HasRun}
use Rattle.onll_text.specs.Kinds.{ObjectKind}
use Rattle.onll_text.specs.Lines.{thread_lines, trace_line, flagged_lines, counted_lines, recovered_line, state_lines}
use Rattle.onll_text.specs.Reports.{EndReads, EachReads}
use Rattle.onll_text.specs.Wording.{Wording}
use Rattle.onll_text.proofs.FewCalls.{few_calls}
use Rattle.onll_text.proofs.ScriptReads.{script_reads}
use Rattle.onll_audit.specs.declared.verdict.Verdict.TheVariants.{Legal}
use Rattle.onll_audit.specs.Printed.{FailedFence, ReportData, ReportReads, ScriptReads, FaultsRise, EachOver, failed_lines, report_text, longest_report}
use Rattle.onll_audit.specs.Verdict.{verdict_of}
use Rattle.onll_audit.proofs.Formed.{printed_legal}
use Rattle.onll_audit.proofs.Lengths.{report_short}
use Rattle.onll_outside.specs.Views.{StoreView}
use Rattle.onll_task.specs.RunSaid.{RunData, log_data}
use Rattle.onll_task.specs.Running.{RunLeft, PlanReads, plan_data}
use Rattle.onll_task.specs.Scripts.{ReadScripts}
use Rattle.onll_runner.specs.RunJob.{run_plan}
use Rattle.onll_runner.specs.RunReport.{fault_lines, faults_at, plan_report}
use Rattle.onll_task.proofs.RunRecovers.{run_told}
use Rattle.onll_jobs.specs.AuditJob.{judged_of, or_bad_line}
use Rattle.onll_jobs.proofs.FewNodes.{few_nodes}
use Rattle.onll_jobs.proofs.SaidEnds.{few_updates}

-- ---- the fences that failed
abbrev fence_in : ℕ → Option ℕ → List FailedFence
fence_in t None = []
fence_in t (Some place) = record { thread = t; place = place } ∷ []

-- those of the outcomes of each thread, from thread t on
abbrev fences_in : {State Op Query Reply : Type 0} → ℕ → List (List (CallEnd State Op Query Reply)) → List FailedFence
fences_in t [] = []
fences_in t (own ∷ more) = fence_in t (failed_in own) ++ fences_in (t + 1) more

-- they are below as many threads where they are from a later one on
rise_before : (least threads : ℕ) (faults : List FailedFence) → FaultsRise (least + 1) threads faults → FaultsRise least threads faults
rise_before least threads [] h = tt
rise_before least threads (fault ∷ faults) h = let low = h.0 in (omega arith, h.1, h.2, h.3)

one_rises : (t threads : ℕ) (place : Option ℕ) (rest : List FailedFence) → t < threads → ((p : ℕ) → place ≡ Some p → p < 2 ^ 64)
    → FaultsRise (t + 1) threads rest → FaultsRise t threads (fence_in t place ++ rest)
one_rises t threads None rest l below h = rise_before t threads rest h
one_rises t threads (Some place) rest l below h = (omega arith, l, below place refl, h)

one_fence : (t : ℕ) (place : Option ℕ) (rest : List FailedFence) → failed_lines (fence_in t place ++ rest) ≡ faults_at t place ++ failed_lines rest
one_fence t None rest = refl
one_fence t (Some place) rest = refl

module _ {State Op Query Reply : Type 0} where
  fence_lines_are : (t : ℕ) (ends : List (List (CallEnd State Op Query Reply))) → failed_lines (fences_in t ends) ≡ fault_lines t ends
  fence_lines_are t [] = refl
  fence_lines_are t (own ∷ more) =
      one_fence t (failed_in own) (fences_in (t + 1) more)
      ∙ ap (λ (lines : List (List (List ℕ))). faults_at t (failed_in own) ++ lines) (fence_lines_are (t + 1) more)

  module _ (w : Wording State Op Query Reply) where
    failed_below : (ends : List (CallEnd State Op Query Reply)) (place : ℕ) → AllByRecursion (EndReads w) ends → failed_in ends ≡ Some place → place < 2 ^ 64
    failed_below [] place h e = some_not_none place (sym e)
    failed_below (FenceFailed p ∷ ends) place h e = subst (λ (n : ℕ). n < 2 ^ 64) (same_some p place e) h.0
    failed_below (Answered reply p ∷ ends) place h e = failed_below ends place h.1 e
    failed_below (Running ∷ ends) place h e = failed_below ends place h.1 e
    failed_below (Ordered p ∷ ends) place h e = failed_below ends place h.1 e
    failed_below (Broken p ∷ ends) place h e = failed_below ends place h.1 e

    fences_rise : (t threads : ℕ) (scripts : List (List (Call State Op Query Reply))) (ends : List (List (CallEnd State Op Query Reply)))
        → EachReads w scripts ends → t + length scripts ≤ threads → FaultsRise t threads (fences_in t ends)
    fences_rise t threads [] [] h l = tt
    fences_rise t threads [] (own ∷ more) h l = absurd h
    fences_rise t threads (script ∷ scripts) [] h l = absurd h
    fences_rise t threads (script ∷ scripts) (own ∷ more) h l =
        one_rises t threads (failed_in own) (fences_in (t + 1) more) (omega arith)
        (λ place e. failed_below own place (recursion_from_All (EndReads w) own h.0.reads) e)
        (fences_rise (t + 1) threads scripts more h.1 (omega arith))

    -- ---- the scripts
    -- each of scripts that were read reads back
    scripts_read : (store : StoreView) (names : List (List ℕ)) (scripts : List (List (Call State Op Query Reply))) → ReadScripts w store names scripts → AllByRecursion (ScriptReads w) scripts
    scripts_read store [] [] h = tt
    scripts_read store [] (script ∷ scripts) h = absurd h
    scripts_read store (name ∷ names) [] h = absurd h
    scripts_read store (name ∷ names) (script ∷ scripts) h =
        let few = few_calls w h.0.bytes script h.0.accepted in
        (record { calls = script_reads w h.0.bytes script h.0.accepted; updates = few.0; reads = few.1 }, scripts_read store names scripts h.1)

  each_over : (scripts : List (List (Call State Op Query Reply))) (ends : List (List (CallEnd State Op Query Reply))) → AllOver scripts ends → EachOver ends
  each_over [] [] h = tt
  each_over [] (own ∷ more) h = absurd h
  each_over (script ∷ scripts) [] h = absurd h
  each_over (script ∷ scripts) (own ∷ more) h = (h.1, each_over scripts more h.2)

-- ---- the report
module _ (k : ObjectKind) (init logs : List ℕ) (s : k.State) (scripts : List (List (Call k.State k.Op k.Query k.Reply))) (left : RunLeft k) where
  -- what it says
  abbrev said_by_run : ReportData k.State k.Op k.Query k.Reply
  said_by_run =
      let said : RunData k.State k.Op k.Query k.Reply = plan_data (run_plan k init logs s scripts) left in
      record {
        ends = said.ends;
        nodes = said.nodes;
        flags = said.flags;
        logs = said.logs;
        recovered = length said.nodes;
        faults = fences_in 0 said.ends;
        state = said.state;
      }

  run_text : plan_report (run_plan k init logs s scripts) left ≡ report_text k.means k.wording scripts said_by_run
  run_text =
      let b = k.means in
      let w = k.wording in
      let said = said_by_run in
      let threads = thread_lines w 0 scripts left.ends in
      let nodes = trace_line (length left.nodes) ∷ flagged_lines b w 0 left.nodes left.flags in
      let ending : List (List (List ℕ)) → List (List (List ℕ)) =
      λ faults. counted_lines 0 said.logs ++ (recovered_line (length left.nodes) ∷ (faults ++ state_lines w said.state)) in
      ap (flat_map line_text) (append_assoc threads nodes (ending (fault_lines 0 left.ends))
      ∙ ap (λ (faults : List (List (List ℕ))). threads ++ (nodes ++ ending faults)) (sym (fence_lines_are 0 left.ends)))

  module _ (run : HasRun k.means (run_plan k init logs s scripts).run left) (reads : PlanReads (run_plan k init logs s scripts) left)
      (store : StoreView) (names : List (List ℕ)) (read : ReadScripts k.wording store names scripts) (few : length scripts ≤ 16) where
    run_reads : ReportReads k.means k.wording scripts said_by_run
    run_reads = record {
      threads = few;
      scripts_read = scripts_read k.wording store names scripts read;
      ends = reads.ends;
      nodes = reads.nodes;
      few = reads.few;
      flags = reads.flags;
      each_log = length-map left.logs log_data ∙ (sym (run_told k.means (run_plan k init logs s scripts).run left run).many ∙ length-heads_from (length scripts) k.code init 0 (length scripts));
      logs = reads.logs;
      recovered = reads.few;
      faults = fences_rise k.wording 0 (length scripts) scripts left.ends reads.ends (omega arith);
    }

    run_short : length (report_text k.means k.wording scripts said_by_run) ≤ longest_report
    run_short =
        let nodes = few_nodes k.means s scripts left.nodes left.ends 4096 run.legal (few_updates k.wording store names scripts read) in
        let threads = few in
        let most : length left.nodes ≤ 65536 = omega arith in
        report_short k.means k.wording scripts said_by_run run_reads most reads.state

    judged_within : (text : List ℕ) → length text ≤ longest_report → verdict_of k.means k.wording s scripts text ≡ Ok Legal → judged_of k s scripts text ≡ Ok Legal
    judged_within text within e =
        let short : nat_lt longest_report (length text) ≡ false = grind (arith, nat_tests) in
        ap (λ (long : Bool). or_bad_line (cond long (Err 0) (verdict_of k.means k.wording s scripts text))) short ∙ ap or_bad_line e

    -- it is judged legal
    pub run_judged : judged_of k s scripts (plan_report (run_plan k init logs s scripts) left) ≡ Ok Legal
    run_judged =
        let text = report_text k.means k.wording scripts said_by_run in
        subst (λ (printed : List ℕ). judged_of k s scripts printed ≡ Ok Legal) (sym run_text)
        (judged_within text run_short
        (printed_legal k.means k.wording s scripts said_by_run run_reads (each_over scripts left.ends run.over) run.legal refl))
