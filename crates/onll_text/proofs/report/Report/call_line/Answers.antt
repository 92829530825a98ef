use Rattle.std.proofs.lemmas.Result.{on_ok_weaker}
use Rattle.onll_text.proofs.LineWords.{call_line_parts}
use Rattle.onll_text.proofs.LineFronts.{call_front_began, call_front_called, call_front_pointed, call_front_ended, call_front}
use Rattle.onll_text.proofs.report.Report.call_line.Goals as goal

pub returns-clause-ok : goal.returns-clause-ok
returns-clause-ok g c = on_ok_weaker c.end_line.result
    (λ d. call_line_parts g.O.Texted.wording c.args.thread c.args.number c.args.call.now c.args.end.now _ _ _ _ _ _ c.requires c.in_ok-words.ensures.ok c.in_ok-put_call.ensures.ok c.in_ok-word.ensures.ok c.in_ok-put_end.ensures.ok d)
    c.end_line.ensures.ok

pub returns-in_err-words-clause-within : goal.returns-in_err-words-clause-within
returns-in_err-words-clause-within g c =
    call_front_began g.O.Texted.wording c.args.thread c.args.number c.args.call.now c.args.end.now _ _ c.requires c.words.ensures.within

pub returns-in_err-put_call-clause-within : goal.returns-in_err-put_call-clause-within
returns-in_err-put_call-clause-within g c =
    call_front_called g.O.Texted.wording c.args.thread c.args.number c.args.call.now c.args.end.now _ _ c.requires _ c.in_ok-words.ensures.ok c.put_call.ensures.within

pub returns-in_err-word-clause-within : goal.returns-in_err-word-clause-within
returns-in_err-word-clause-within g c =
    call_front_pointed g.O.Texted.wording c.args.thread c.args.number c.args.call.now c.args.end.now _ _ c.requires _ _ c.in_ok-words.ensures.ok c.in_ok-put_call.ensures.ok c.word.ensures.within

pub returns-in_err-put_end-clause-within : goal.returns-in_err-put_end-clause-within
returns-in_err-put_end-clause-within g c =
    call_front_ended g.O.Texted.wording c.args.thread c.args.number c.args.call.now c.args.end.now _ _ c.requires _ _ _ c.in_ok-words.ensures.ok c.in_ok-put_call.ensures.ok c.in_ok-word.ensures.ok c.put_end.ensures.within

pub returns-clause-within : goal.returns-clause-within
returns-clause-within g c =
    call_front g.O.Texted.wording c.args.thread c.args.number c.args.call.now c.args.end.now _ _ c.requires _ _ _ _ c.in_ok-words.ensures.ok c.in_ok-put_call.ensures.ok c.in_ok-word.ensures.ok c.in_ok-put_end.ensures.ok c.end_line.ensures.within
