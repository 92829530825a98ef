use Rattle.std.proofs.Common.{Some, drop, sym, ◌≡◌, ◌∙◌, false, get_or, refl, arith, subst}
use Rattle.std.proofs.lemmas.List.{drop_all}
use Rattle.std.proofs.lemmas.List.Elements.{All-nil}
use Rattle.std.specs.List.{All, slice_get}
use Rattle.std.specs.Option.{IfSome}
use Rattle.onll_core.specs.Fences.{fences_of}
use Rattle.onll_merge.specs.declared.counts.LogCounts.{LogCounts}
use Rattle.onll_text.specs.Lines.{log_line}
use Rattle.onll_task.proofs.LineSteps.{begins_after}
use Rattle.onll_text.specs.Reports.{LogReads}
use Rattle.onll_recovery.specs.ReplayJob.{counts_of}
use Rattle.onll_recovery.proofs.PrintedReads.{logs_more}
use Rattle.onll_recovery.proofs.ReplaySteps.{fenced_next}
use Rattle.onll_recovery.proofs.crashed.put_fenced.Goals as goal

pub loop-log-preserved : goal.loop-log-preserved
loop-log-preserved g c =
    let out = c.loop-log.out in
    let t = c.loop-log.thread in
    let i = c.loop-log.log-index in
    let none : LogCounts = record { head = false; entries = 0; lines = 0 } in
    let log = get_or c.args.logs.now i none in
    let fences = c.fences.result in
    let line = c.in_ok-log_line.ensures.ok in
    record {
      lines = fenced_next out c.log_line.new.self t i c.args.logs.now c.args.core.now.threads none log fences c.loop-log.invariant.thread (omega arith) (omega arith) c.fences.ensures.fences refl line
          ∙ c.loop-log.invariant.lines;
      begins = begins_after out c.log_line.new.self (log_line t log.entries log.lines (Some fences)) line;
      thread = omega arith;
      reads = λ left. c.loop-log.invariant.reads (logs_more i c.args.logs.now c.args.core.now.threads none log fences (omega arith) (omega arith)
          (subst (λ j. IfSome (slice_get c.args.core.now.threads j) (λ th. fences ≡ fences_of th)) c.loop-log.invariant.thread c.fences.ensures.fences) refl
          c.in_ok-log_line.ensures.reads.0 c.in_ok-log_line.ensures.reads.1 (omega arith) left);
    }

pub returns-clause-reads : goal.returns-clause-reads
returns-clause-reads g c =
    let i = c.loop-log.log-index in
    c.loop-log.invariant.reads (subst (λ logs. All LogReads (counts_of logs (drop i c.args.core.now.threads))) (sym (drop_all i c.args.logs.now (omega arith))) (All-nil LogReads))
