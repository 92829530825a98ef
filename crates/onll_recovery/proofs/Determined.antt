use Rattle.std.proofs.Common.{ℕ, ◌≡◌, ◌+◌, List, [], ◌∷◌, ◌++◌, Option, Some, length, map, drop, refl, sym, ap, ◌∙◌, subst, arith, append_assoc}
use Rattle.std.specs.List.{flat_map}
use Rattle.onll_words.specs.Texts.{line_text, AreMeaningful}
use Rattle.onll_words.proofs.Decimals.{IsWord-decimal}
use Rattle.onll_words.proofs.Joined.{AreMeaningful-append, text_determined, line_same}
use Rattle.onll_model.specs.declared.call.Call.{Call}
use Rattle.onll_model.specs.Object.{Behaviour}
use Rattle.onll_model.specs.Trace.{state_after}
use Rattle.onll_core.specs.Fences.{fences_of}
use Rattle.onll_core.specs.Core.{CoreThread, CoreState}
use Rattle.onll_core.specs.Outcomes.{ends_of, script_of}
use Rattle.onll_text.specs.Wording.{Wording}
use Rattle.onll_text.specs.Lines.{call_lines, trace_line, node_lines, log_line, state_lines, flagged_lines, thread_lines, counted_lines, recovered_line}
use Rattle.onll_text.specs.Reports.{SaysOnly}
use Rattle.onll_text.proofs.Determined.{nodes_determined, nodes_meaningful, state_determined, state_meaningful, says_only}
use Rattle.onll_merge.specs.declared.counts.LogCounts.{LogCounts}
use Rattle.onll_merge.specs.Recovered.{Recovered}
use Rattle.onll_recovery.specs.RecoverJob.{lines_with, recover_data_lines, recover_data}
use Rattle.onll_task.specs.RecoverySaid.{RecoverData, held_lines, RecoverReads, data_with}
use Rattle.onll_recovery.specs.ReplayJob.{begun_lines, crash_line, fenced_lines, replay_report, CrashedRunData, run_data_lines, CrashedRunReads, counts_of, replay_data}
use Rattle.onll_task.specs.RunSaid.{resumed_lines}
use Rattle.onll_recovery.proofs.ReplaySteps.{crash_in_words}
use Rattle.onll_task.proofs.RecoverSteps.{recovered_in_words}
use Rattle.onll_task.proofs.Determined.{first_number, logs_determined, logs_meaningful, helds_determined, helds_meaningful, logs-data, recover_same, NoResumedNext, resumed_meaningful, resumed_determined, threads_determined, threads_meaningful, flagged_determined, flagged_meaningful, no_resumed}

module _ {State Op Query Reply : Type 0} where
  -- ---- the report of a recovery
  recover_meaningful : (b : Behaviour State Op Query Reply) (w : Wording State Op Query Reply) (said : RecoverData State) → AreMeaningful (recover_data_lines b w said)
  recover_meaningful b w said =
      let ending : List (List (List ℕ)) = node_lines b w 0 said.nodes ++ state_lines w said.state in
      AreMeaningful-append (held_lines 0 said.logs) (recovered_line (length said.nodes) ∷ ending) (helds_meaningful 0 said.logs) (
        recovered_in_words (length said.nodes),
        refl,
        AreMeaningful-append (node_lines b w 0 said.nodes) (state_lines w said.state) (nodes_meaningful b w 0 said.nodes) (state_meaningful w said.state),
      )

  recover_determined : (b : Behaviour State Op Query Reply) (w : Wording State Op Query Reply) (said other : RecoverData State) → RecoverReads b w said → RecoverReads b w other
      → flat_map line_text (recover_data_lines b w said) ≡ flat_map line_text (recover_data_lines b w other) → said ≡ other
  recover_determined b w said other g h e =
      let ending : RecoverData State → List (List (List ℕ)) = λ r. node_lines b w 0 r.nodes ++ state_lines w r.state in
      let rest : RecoverData State → List (List (List ℕ)) = λ r. recovered_line (length r.nodes) ∷ ending r in
      let lines = text_determined (recover_data_lines b w said) (recover_data_lines b w other) (recover_meaningful b w said) (recover_meaningful b w other) e in
      let logs = helds_determined 0 said.logs other.logs (rest said) (rest other) g.logs h.logs (λ ws d. cc d) (λ ws d. cc d) lines in
      let counts = line_same (recovered_line (length said.nodes)) (recovered_line (length other.nodes)) (ending said) (ending other) logs.1 in
      let nodes = nodes_determined b w 0 said.nodes other.nodes (state_lines w said.state) (state_lines w other.state) g.nodes h.nodes (λ ws d. cc d) (λ ws d. cc d) counts.1 in
      recover_same said other logs.0 nodes.0 (state_determined w said.state other.state g.state h.state nodes.1)

  -- ---- the report of a replay
  -- the lines of a run after that one
  abbrev played_lines : Behaviour State Op Query Reply → Wording State Op Query Reply → List (List (Call State Op Query Reply)) → CrashedRunData State Op Query Reply → List (List (List ℕ))
  played_lines b w scripts said =
      (thread_lines w 0 scripts said.ends ++ (trace_line (length said.nodes) ∷ flagged_lines b w 0 said.nodes said.flags))
      ++ (crash_line said.keep ∷ (counted_lines 0 said.logs ++ (recovered_line said.recovered ∷ state_lines w said.state)))

  none_resumed : (b : Behaviour State Op Query Reply) (w : Wording State Op Query Reply) (scripts : List (List (Call State Op Query Reply))) (said : CrashedRunData State Op Query Reply) → NoResumedNext (played_lines b w scripts said)
  none_resumed b w scripts said =
      let trace = trace_line (length said.nodes) ∷ flagged_lines b w 0 said.nodes said.flags in
      let crash = crash_line said.keep ∷ (counted_lines 0 said.logs ++ (recovered_line said.recovered ∷ state_lines w said.state)) in
      subst NoResumedNext (sym (append_assoc (thread_lines w 0 scripts said.ends) trace crash)) (no_resumed w 0 scripts said.ends (trace ++ crash) (λ rest e. cc e))

  run_meaningful : (b : Behaviour State Op Query Reply) (w : Wording State Op Query Reply) (scripts : List (List (Call State Op Query Reply))) (said : CrashedRunData State Op Query Reply) → AreMeaningful (run_data_lines b w scripts said)
  run_meaningful b w scripts said =
      let flagged = flagged_lines b w 0 said.nodes said.flags in
      let ending = recovered_line said.recovered ∷ state_lines w said.state in
      AreMeaningful-append (resumed_lines said.resumed) (played_lines b w scripts said) (resumed_meaningful said.resumed) (
      AreMeaningful-append (thread_lines w 0 scripts said.ends ++ (trace_line (length said.nodes) ∷ flagged)) (crash_line said.keep ∷ (counted_lines 0 said.logs ++ ending))
      (
      AreMeaningful-append (thread_lines w 0 scripts said.ends) (trace_line (length said.nodes) ∷ flagged) (threads_meaningful w 0 scripts said.ends)
      ((record { some = refl; bytes = refl }, (IsWord-decimal (length said.nodes), tt)), refl, flagged_meaningful b w 0 said.nodes said.flags)
      ) (
        crash_in_words said.keep,
        refl,
        AreMeaningful-append (counted_lines 0 said.logs) ending (logs_meaningful 0 said.logs) (recovered_in_words said.recovered, refl, state_meaningful w said.state),
      )
      )

  run_same : (a b : CrashedRunData State Op Query Reply) → a.resumed ≡ b.resumed → a.ends ≡ b.ends → a.nodes ≡ b.nodes → a.flags ≡ b.flags → a.keep ≡ b.keep → a.logs ≡ b.logs → a.recovered ≡ b.recovered → a.state ≡ b.state → a ≡ b
  run_same a b e₀ e₁ e₂ e₃ e₄ e₅ e₆ e₇ = λ i. record {
    resumed = e₀ i;
    ends = e₁ i;
    nodes = e₂ i;
    flags = e₃ i;
    keep = e₄ i;
    logs = e₅ i;
    recovered = e₆ i;
    state = e₇ i;
  }

  run_determined : (b : Behaviour State Op Query Reply) (w : Wording State Op Query Reply) (scripts : List (List (Call State Op Query Reply))) (said other : CrashedRunData State Op Query Reply)
      → CrashedRunReads b w scripts said → CrashedRunReads b w scripts other → flat_map line_text (run_data_lines b w scripts said) ≡ flat_map line_text (run_data_lines b w scripts other) → said ≡ other
  run_determined b w scripts said other g h e =
      let ending : CrashedRunData State Op Query Reply → List (List (List ℕ)) = λ r. recovered_line r.recovered ∷ state_lines w r.state in
      let crash : CrashedRunData State Op Query Reply → List (List (List ℕ)) = λ r. crash_line r.keep ∷ (counted_lines 0 r.logs ++ ending r) in
      let flagged : CrashedRunData State Op Query Reply → List (List (List ℕ)) = λ r. flagged_lines b w 0 r.nodes r.flags in
      let trace : CrashedRunData State Op Query Reply → List (List (List ℕ)) = λ r. trace_line (length r.nodes) ∷ flagged r in
      let lines = text_determined (run_data_lines b w scripts said) (run_data_lines b w scripts other) (run_meaningful b w scripts said) (run_meaningful b w scripts other) e in
      let base = resumed_determined said.resumed other.resumed (played_lines b w scripts said) (played_lines b w scripts other) g.resumed h.resumed (none_resumed b w scripts said) (none_resumed b w scripts other) lines in
      let same = sym (append_assoc (thread_lines w 0 scripts said.ends) (trace said) (crash said)) ∙ base.1 ∙ append_assoc (thread_lines w 0 scripts other.ends) (trace other) (crash other) in
      let calls = threads_determined w 0 scripts said.ends other.ends (trace said ++ crash said) (trace other ++ crash other) (omega (arith, g.threads)) g.ends h.ends (λ t rest d. cc d) (λ t rest d. cc d) same in
      let traces = line_same (trace_line (length said.nodes)) (trace_line (length other.nodes)) (flagged said ++ crash said) (flagged other ++ crash other) calls.1 in
      let nodes = flagged_determined b w 0 said.nodes other.nodes said.flags other.flags (crash said) (crash other) g.flags h.flags g.nodes h.nodes (λ rest d. cc d) (λ rest d. cc d) traces.1 in
      let crashes = line_same (crash_line said.keep) (crash_line other.keep) (counted_lines 0 said.logs ++ ending said) (counted_lines 0 other.logs ++ ending other) nodes.2 in
      let logs = logs_determined 0 said.logs other.logs (ending said) (ending other) g.logs h.logs (λ rest d. cc d) (λ rest d. cc d) crashes.1 in
      let endings = line_same (recovered_line said.recovered) (recovered_line other.recovered) (state_lines w said.state) (state_lines w other.state) logs.1 in
      run_same said other base.0 calls.0 nodes.0 nodes.1 (first_number said.keep other.keep [] [] g.keep h.keep (ap (drop 1) crashes.0)) logs.0
      (first_number said.recovered other.recovered [] [] g.recovered h.recovered (ap (drop 1) endings.0)) (state_determined w said.state other.state g.state h.state endings.1)

  begun-said : (w : Wording State Op Query Reply) (t : ℕ) (ths : List (CoreThread State Op Query Reply)) → begun_lines w t ths ≡ thread_lines w t (map script_of ths) (map ends_of ths)
  begun-said w t [] = refl
  begun-said w t (th ∷ ths) = ap (λ ls. call_lines w t 0 th.script (ends_of th) ++ ls) (begun-said w (t + 1) ths)

  fenced-said : (t : ℕ) (logs : List LogCounts) (ths : List (CoreThread State Op Query Reply)) → fenced_lines t logs ths ≡ counted_lines t (counts_of logs ths)
  fenced-said t [] [] = refl
  fenced-said t [] (th ∷ ths) = refl
  fenced-said t (log ∷ logs) [] = refl
  fenced-said t (log ∷ logs) (th ∷ ths) = ap (λ ls. log_line t log.entries log.lines (Some (fences_of th)) ∷ ls) (fenced-said (t + 1) logs ths)

  replay_report-said : (b : Behaviour State Op Query Reply) (w : Wording State Op Query Reply) (resumed : Option ℕ) (c : CoreState State Op Query Reply) (keep : ℕ) (r : Recovered)
      → replay_report b w resumed c keep r ≡ flat_map line_text (run_data_lines b w (map script_of c.threads) (replay_data b resumed c keep r))
  replay_report-said b w resumed c keep r =
      let trace : List (List (List ℕ)) = trace_line (length c.trace) ∷ flagged_lines b w 0 c.trace c.flags in
      let ending : List (List (List ℕ)) = recovered_line (length r.nodes) ∷ state_lines w (state_after b c.initial r.nodes) in
      ap (λ ls. flat_map line_text (resumed_lines resumed ++ ((ls ++ trace) ++ (crash_line keep ∷ (fenced_lines 0 r.logs c.threads ++ ending))))) (begun-said w 0 c.threads)
      ∙ ap (λ ls. flat_map line_text (resumed_lines resumed ++ ((thread_lines w 0 (map script_of c.threads) (map ends_of c.threads) ++ trace) ++ (crash_line keep ∷ (ls ++ ending))))) (fenced-said 0 r.logs c.threads)

  -- ---- what is printed says this and nothing else
  pub recover_says : (b : Behaviour State Op Query Reply) (w : Wording State Op Query Reply) (s state : State) (r : Recovered) (text : List ℕ) → state ≡ state_after b s r.nodes
      → text ≡ flat_map line_text (lines_with b w r state) → RecoverReads b w (data_with r state) → SaysOnly (recover_data_lines b w) (RecoverReads b w) text (recover_data b s r)
  recover_says b w s state r text after e h =
      let ending : List (List (List ℕ)) = recovered_line (length r.nodes) ∷ (node_lines b w 0 r.nodes ++ state_lines w (state_after b s r.nodes)) in
      says_only (recover_data_lines b w) (RecoverReads b w) (recover_determined b w) text (recover_data b s r)
      (e ∙ ap (λ (x : State). flat_map line_text (lines_with b w r x)) after ∙ ap (λ ls. flat_map line_text (ls ++ ending)) (logs-data 0 r.logs))
      (subst (λ (x : State). RecoverReads b w (data_with r x)) after h)

  pub replay_says : (b : Behaviour State Op Query Reply) (w : Wording State Op Query Reply) (resumed : Option ℕ) (c : CoreState State Op Query Reply) (keep : ℕ) (r : Recovered) (text : List ℕ) → text ≡ replay_report b w resumed c keep r
      → CrashedRunReads b w (map script_of c.threads) (replay_data b resumed c keep r) → SaysOnly (run_data_lines b w (map script_of c.threads)) (CrashedRunReads b w (map script_of c.threads)) text (replay_data b resumed c keep r)
  replay_says b w resumed c keep r text e h =
      says_only (run_data_lines b w (map script_of c.threads)) (CrashedRunReads b w (map script_of c.threads)) (run_determined b w (map script_of c.threads)) text (replay_data b resumed c keep r) (e ∙ replay_report-said b w resumed c keep r) h
