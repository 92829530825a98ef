use Rattle.std.proofs.Common.{arith}
use Rattle.onll_text.proofs.Keeping.{piece_front}
use Rattle.onll_text.proofs.report.Report.words.Goals as goal

pub returns-in_err-piece-clause-within : goal.returns-in_err-piece-clause-within
returns-in_err-piece-clause-within c =
    piece_front _ _ _ c.args.pieces.now c.loop-piece.piece-index c.piece-item.result (omega arith) c.piece-item.is c.loop-piece.invariant.words c.piece.ensures.within
