use Rattle.std.proofs.Common.{sym}
use Rattle.std.proofs.lemmas.Result.{on_ok_weaker}
use Rattle.onll_text.proofs.LineWords.{node_line_parts}
use Rattle.onll_text.proofs.LineFronts.{node_front_began, node_front_flagged, node_front_done, node_front}
use Rattle.onll_text.proofs.report.Report.node_line.Goals as goal

pub returns-clause-ok : goal.returns-clause-ok
returns-clause-ok g c = on_ok_weaker c.end_line.result
    (λ d. node_line_parts g.O.Object.means g.O.Texted.wording c.args.place c.args.node c.args.flag c.in-Some.op _ _ _ _ _ c.requires.begins (sym c.in-Some.ensures) c.in_ok-words.ensures.ok c.in_ok-put_flag.ensures.ok c.in_ok-put_op-in-Some.ensures.ok d)
    c.end_line.ensures.ok

pub returns-in_err-words-clause-within : goal.returns-in_err-words-clause-within
returns-in_err-words-clause-within g c =
    node_front_began g.O.Object.means g.O.Texted.wording c.args.place c.args.node c.args.flag _ _ c.requires.begins c.words.ensures.within

pub returns-in_err-put_flag-clause-within : goal.returns-in_err-put_flag-clause-within
returns-in_err-put_flag-clause-within g c =
    node_front_flagged g.O.Object.means g.O.Texted.wording c.args.place c.args.node c.args.flag _ _ c.requires.begins _ c.in_ok-words.ensures.ok c.put_flag.ensures.within

pub returns-in_err-put_op-in-Some-clause-within : goal.returns-in_err-put_op-in-Some-clause-within
returns-in_err-put_op-in-Some-clause-within g c =
    node_front_done g.O.Object.means g.O.Texted.wording c.args.place c.args.node c.args.flag _ _ c.requires.begins c.in-Some.op _ _ (sym c.in-Some.ensures) c.in_ok-words.ensures.ok c.in_ok-put_flag.ensures.ok c.put_op.ensures.within

pub returns-clause-within : goal.returns-clause-within
returns-clause-within g c =
    node_front g.O.Object.means g.O.Texted.wording c.args.place c.args.node c.args.flag _ _ c.requires.begins c.in-Some.op _ _ _ (sym c.in-Some.ensures) c.in_ok-words.ensures.ok c.in_ok-put_flag.ensures.ok c.in_ok-put_op-in-Some.ensures.ok c.end_line.ensures.within
