use Rattle.std.proofs.Common.{sym, ◌∙◌}
use Rattle.std.proofs.lemmas.Result.{on_ok_weaker}
use Rattle.onll_log.specs.Grammar.{used_by}
use Rattle.onll_jobs.proofs.ShowWords.{empty_parts, empty_reads}
use Rattle.onll_jobs.proofs.show.put_content.Goals as goal

pub returns-in-None-clause-lines : goal.returns-in-None-clause-lines
returns-in-None-clause-lines c =
    let content = c.args.cursor.content in
    on_ok_weaker c.line.result (λ d. empty_parts content.head content.entries (used_by content) c.args.out.now c.line.new.self (sym c.in-None.is ∙ c.head.ensures) d) c.line.ensures.ok

pub returns-in-None-clause-reads : goal.returns-in-None-clause-reads
returns-in-None-clause-reads c =
    on_ok_weaker c.line.result (λ d. empty_reads c.args.cursor.content (sym c.in-None.is ∙ c.head.ensures)) c.line.ensures.ok
