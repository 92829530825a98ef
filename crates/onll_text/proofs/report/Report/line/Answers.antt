use Rattle.std.proofs.lemmas.Result.{on_ok_weaker}
use Rattle.onll_text.proofs.LineWords.{line_of_pieces}
use Rattle.onll_text.proofs.Keeping.{pieces_front, pieces_end_front}
use Rattle.onll_text.proofs.report.Report.line.Goals as goal

pub returns-clause-ok : goal.returns-clause-ok
returns-clause-ok c = on_ok_weaker c.end_line.result
    (λ d. line_of_pieces _ _ _ c.args.pieces.now c.in_ok-words.ensures.ok d c.requires.begins c.requires.some c.requires.words)
    c.end_line.ensures.ok

pub returns-in_err-words-clause-within : goal.returns-in_err-words-clause-within
returns-in_err-words-clause-within c = pieces_front _ _ c.args.pieces.now c.requires.begins c.requires.some c.requires.words c.words.ensures.within

pub returns-clause-within : goal.returns-clause-within
returns-clause-within c = pieces_end_front _ _ _ c.args.pieces.now c.in_ok-words.ensures.ok c.requires.begins c.requires.some c.requires.words c.end_line.ensures.within
