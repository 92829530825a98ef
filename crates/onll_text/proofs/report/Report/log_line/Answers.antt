use Rattle.std.proofs.lemmas.Result.{on_ok_weaker}
use Rattle.onll_text.proofs.LineWords.{log_line_parts}
use Rattle.onll_text.proofs.LineFronts.{log_front_began, log_front_counted, log_front}
use Rattle.onll_text.proofs.report.Report.log_line.Goals as goal

pub returns-clause-ok : goal.returns-clause-ok
returns-clause-ok c = on_ok_weaker c.end_line.result
    (λ d. log_line_parts c.args.thread c.args.entries c.args.lines c.args.fences _ _ _ _ c.requires c.in_ok-words.ensures.ok c.in_ok-put_fences.ensures.ok d)
    c.end_line.ensures.ok

pub returns-in_err-words-clause-within : goal.returns-in_err-words-clause-within
returns-in_err-words-clause-within c = log_front_began c.args.thread c.args.entries c.args.lines c.args.fences _ _ c.requires c.words.ensures.within

pub returns-in_err-put_fences-clause-within : goal.returns-in_err-put_fences-clause-within
returns-in_err-put_fences-clause-within c =
    log_front_counted c.args.thread c.args.entries c.args.lines c.args.fences _ _ c.requires _ c.in_ok-words.ensures.ok c.put_fences.ensures.within

pub returns-clause-within : goal.returns-clause-within
returns-clause-within c =
    log_front c.args.thread c.args.entries c.args.lines c.args.fences _ _ c.requires _ _ c.in_ok-words.ensures.ok c.in_ok-put_fences.ensures.ok c.end_line.ensures.within
