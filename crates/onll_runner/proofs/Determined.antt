-- The bytes of a run's report determine all that it says.

use Rattle.std.proofs.Common.{ℕ, ◌≡◌, ◌+◌, List, [], ◌∷◌, ◌++◌, Option, Some, None, length, refl, sym, ap, ◌∙◌, subst, arith, append_assoc}
use Rattle.std.specs.List.{flat_map}
use Rattle.std.proofs.lemmas.List.{append_cancel_left}
use Rattle.onll_words.specs.Texts.{line_text, AreMeaningful}
use Rattle.onll_words.proofs.Decimals.{IsWord-decimal}
use Rattle.onll_words.proofs.Joined.{AreMeaningful-append, line_same, text_determined}
use Rattle.onll_model.specs.declared.call.Call.{Call}
use Rattle.onll_model.specs.declared.call.CallEnd.{CallEnd}
use Rattle.onll_model.specs.Object.{Behaviour}
use Rattle.onll_run.specs.Outcomes.{failed_in}
use Rattle.onll_run.specs.Left.{AfterRun}
use Rattle.onll_text.specs.Wording.{Wording}
use Rattle.onll_text.specs.Lines.{trace_line, state_lines, LogData, thread_lines, flagged_lines, counted_lines, recovered_line}
use Rattle.onll_text.specs.Reports.{NoNodeNext, SaysOnly}
use Rattle.onll_text.proofs.Determined.{state_determined, state_meaningful, says_only}
use Rattle.onll_task.specs.RunSaid.{resumed_lines, RunData, RunReads, run_data}
use Rattle.onll_task.proofs.RecoverSteps.{recovered_in_words}
use Rattle.onll_task.proofs.Determined.{NoResumedNext, no_resumed, resumed_meaningful, resumed_determined, threads_determined, threads_meaningful, flagged_determined, flagged_meaningful, logs_determined, logs_meaningful}
use Rattle.onll_runner.specs.RunReport.{faults_at, fault_lines, end_lines, run_lines, run_report}
use Rattle.onll_runner.proofs.ReportSteps.{fault_in_words}

-- ---- all are lines of words
fault_meaningful : (t : ℕ) (place : Option ℕ) → AreMeaningful (faults_at t place)
fault_meaningful t None = tt
fault_meaningful t (Some place) = (fault_in_words t place, refl, tt)

module _ {State Op Query Reply : Type 0} where
  faults_meaningful : (t : ℕ) (ends : List (List (CallEnd State Op Query Reply))) → AreMeaningful (fault_lines t ends)
  faults_meaningful t [] = tt
  faults_meaningful t (es ∷ ends) = AreMeaningful-append (faults_at t (failed_in es)) (fault_lines (t + 1) ends) (fault_meaningful t (failed_in es)) (faults_meaningful (t + 1) ends)

  end_meaningful : (w : Wording State Op Query Reply) (said : RunData State Op Query Reply) → AreMeaningful (end_lines w said)
  end_meaningful w said =
      let ending = fault_lines 0 said.ends ++ state_lines w said.state in
      AreMeaningful-append (counted_lines 0 said.logs) (recovered_line (length said.nodes) ∷ ending) (logs_meaningful 0 said.logs) (
        recovered_in_words (length said.nodes),
        refl,
        AreMeaningful-append (fault_lines 0 said.ends) (state_lines w said.state) (faults_meaningful 0 said.ends) (state_meaningful w said.state),
      )

  -- the lines after how many nodes are gone on from
  abbrev ran_lines : Behaviour State Op Query Reply → Wording State Op Query Reply → List (List (Call State Op Query Reply)) → RunData State Op Query Reply → List (List (List ℕ))
  ran_lines b w scripts said = (thread_lines w 0 scripts said.ends ++ (trace_line (length said.nodes) ∷ flagged_lines b w 0 said.nodes said.flags)) ++ end_lines w said

  none_resumed : (b : Behaviour State Op Query Reply) (w : Wording State Op Query Reply) (scripts : List (List (Call State Op Query Reply))) (said : RunData State Op Query Reply) → NoResumedNext (ran_lines b w scripts said)
  none_resumed b w scripts said =
      let trace = trace_line (length said.nodes) ∷ flagged_lines b w 0 said.nodes said.flags in
      subst NoResumedNext (sym (append_assoc (thread_lines w 0 scripts said.ends) trace (end_lines w said))) (no_resumed w 0 scripts said.ends (trace ++ end_lines w said) (λ rest e. cc e))

  run_meaningful : (b : Behaviour State Op Query Reply) (w : Wording State Op Query Reply) (scripts : List (List (Call State Op Query Reply))) (said : RunData State Op Query Reply) → AreMeaningful (run_lines b w scripts said)
  run_meaningful b w scripts said =
      let flagged = flagged_lines b w 0 said.nodes said.flags in
      AreMeaningful-append (resumed_lines said.resumed) (ran_lines b w scripts said) (resumed_meaningful said.resumed)
      (AreMeaningful-append (thread_lines w 0 scripts said.ends ++ (trace_line (length said.nodes) ∷ flagged)) (end_lines w said)
      (
      AreMeaningful-append (thread_lines w 0 scripts said.ends) (trace_line (length said.nodes) ∷ flagged) (threads_meaningful w 0 scripts said.ends)
      ((record { some = refl; bytes = refl }, (IsWord-decimal (length said.nodes), tt)), refl, flagged_meaningful b w 0 said.nodes said.flags)
      ) (end_meaningful w said))

  -- the lines after the trace begin with no node's
  no_node_in_end : (w : Wording State Op Query Reply) (said : RunData State Op Query Reply) → NoNodeNext (end_lines w said)
  no_node_in_end w said = by said.logs
    where
      by : (logs : List LogData) → NoNodeNext (counted_lines 0 logs ++ (recovered_line (length said.nodes) ∷ (fault_lines 0 said.ends ++ state_lines w said.state)))
      by [] = λ rest d. cc d
      by (log ∷ logs) = λ rest d. cc d

  -- ---- all that is said
  run_same : (a b : RunData State Op Query Reply) → a.resumed ≡ b.resumed → a.ends ≡ b.ends → a.nodes ≡ b.nodes → a.flags ≡ b.flags → a.logs ≡ b.logs → a.state ≡ b.state → a ≡ b
  run_same a b e₀ e₁ e₂ e₃ e₄ e₅ = λ i. record {
    resumed = e₀ i;
    ends = e₁ i;
    nodes = e₂ i;
    flags = e₃ i;
    logs = e₄ i;
    state = e₅ i;
  }

  run_determined : (b : Behaviour State Op Query Reply) (w : Wording State Op Query Reply) (scripts : List (List (Call State Op Query Reply))) (said other : RunData State Op Query Reply)
      → RunReads b w scripts said → RunReads b w scripts other → flat_map line_text (run_lines b w scripts said) ≡ flat_map line_text (run_lines b w scripts other) → said ≡ other
  run_determined b w scripts said other g h e =
      let ending : RunData State Op Query Reply → List (List (List ℕ)) = λ r. fault_lines 0 r.ends ++ state_lines w r.state in
      let rest : RunData State Op Query Reply → List (List (List ℕ)) = λ r. recovered_line (length r.nodes) ∷ ending r in
      let flagged : RunData State Op Query Reply → List (List (List ℕ)) = λ r. flagged_lines b w 0 r.nodes r.flags in
      let trace : RunData State Op Query Reply → List (List (List ℕ)) = λ r. trace_line (length r.nodes) ∷ flagged r in
      let lines = text_determined (run_lines b w scripts said) (run_lines b w scripts other) (run_meaningful b w scripts said) (run_meaningful b w scripts other) e in
      let base = resumed_determined said.resumed other.resumed (ran_lines b w scripts said) (ran_lines b w scripts other) g.resumed h.resumed (none_resumed b w scripts said) (none_resumed b w scripts other) lines in
      let same = sym (append_assoc (thread_lines w 0 scripts said.ends) (trace said) (end_lines w said)) ∙ base.1 ∙ append_assoc (thread_lines w 0 scripts other.ends) (trace other) (end_lines w other) in
      let calls = threads_determined w 0 scripts said.ends other.ends (trace said ++ end_lines w said) (trace other ++ end_lines w other) (omega (arith, g.threads)) g.ends h.ends (λ t rest d. cc d) (λ t rest d. cc d) same in
      let traces = line_same (trace_line (length said.nodes)) (trace_line (length other.nodes)) (flagged said ++ end_lines w said) (flagged other ++ end_lines w other) calls.1 in
      let nodes = flagged_determined b w 0 said.nodes other.nodes said.flags other.flags (end_lines w said) (end_lines w other) g.flags h.flags g.nodes h.nodes (no_node_in_end w said) (no_node_in_end w other) traces.1 in
      let logs = logs_determined 0 said.logs other.logs (rest said) (rest other) g.logs h.logs (λ ws d. cc d) (λ ws d. cc d) nodes.2 in
      let endings = line_same (recovered_line (length said.nodes)) (recovered_line (length other.nodes)) (ending said) (ending other) logs.1 in
      let faults = ap (fault_lines 0) calls.0 in
      let states = append_cancel_left (fault_lines 0 said.ends) (state_lines w said.state) (state_lines w other.state) (endings.1 ∙ ap (λ (ls : List (List (List ℕ))). ls ++ state_lines w other.state) (sym faults)) in
      run_same said other base.0 calls.0 nodes.0 nodes.1 logs.0 (state_determined w said.state other.state g.state h.state states)

  -- what is printed says this and nothing else
  pub run_says : (b : Behaviour State Op Query Reply) (w : Wording State Op Query Reply) (scripts : List (List (Call State Op Query Reply))) (resumed : Option ℕ) (state : State) (left : AfterRun State Op Query Reply) (text : List ℕ)
      → text ≡ run_report b w resumed state scripts left → RunReads b w scripts (run_data b resumed state left) → SaysOnly (run_lines b w scripts) (RunReads b w scripts) text (run_data b resumed state left)
  run_says b w scripts resumed state left text e h = says_only (run_lines b w scripts) (RunReads b w scripts) (run_determined b w scripts) text (run_data b resumed state left) e h
