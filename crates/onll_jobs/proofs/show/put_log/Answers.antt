use Rattle.std.proofs.Common.{◌∙◌}
use Rattle.std.proofs.lemmas.Result.{on_ok_weaker}
use Rattle.onll_log.specs.Grammar.{used_by}
use Rattle.onll_task.proofs.LineSteps.{begins_after}
use Rattle.onll_jobs.specs.ShowJob.{head_line}
use Rattle.onll_jobs.proofs.ShowWords.{log_parts, log_reads}
use Rattle.onll_jobs.proofs.show.put_log.Goals as goal

pub put_entries-requires-clause-begins : goal.put_entries-requires-clause-begins
put_entries-requires-clause-begins c =
    begins_after c.args.out.now c.put_head.new.out (head_line c.args.head.thread c.args.head.threads c.args.head.object) c.in_ok-put_head.ensures.line

pub returns-clause-lines : goal.returns-clause-lines
returns-clause-lines c =
    let content = c.args.cursor.content in
    on_ok_weaker c.put_counts.result
    (λ d. log_parts c.args.head content.head content.entries (used_by content) c.passed.result c.used.result c.args.out.now c.put_head.new.out c.put_entries.new.out c.put_counts.new.out
    c.requires.head c.in_ok-put_head.ensures.line c.in_ok-put_entries.ensures.lines (c.passed.ensures.count ∙ c.in_ok-put_entries.ensures.passed) (c.used.ensures ∙ c.in_ok-put_entries.ensures.used) d)
    c.put_counts.ensures.line

pub returns-clause-reads : goal.returns-clause-reads
returns-clause-reads c =
    on_ok_weaker c.put_counts.result
    (λ d. log_reads c.args.head c.args.cursor.content c.used.result c.requires.head c.requires.object c.in_ok-put_head.ensures.reads c.in_ok-put_entries.ensures.reads (c.used.ensures ∙ c.in_ok-put_entries.ensures.used) d)
    c.put_counts.ensures.few
