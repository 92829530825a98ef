use Rattle.std.proofs.Common.{◌≡◌, drop, map}
use Rattle.onll_text.specs.Bytes.{with_words, IsFront}
use Rattle.onll_text.specs.Pieces.{piece_word}
use Rattle.onll_text.proofs.report.Report.words.Given as goal

-- the pieces that are left make the bytes that all make
abbrev pub invariant-loop-piece : goal.invariant-loop-piece
invariant-loop-piece l = record {
  words : with_words l.self (map piece_word (drop l.piece-index l.pieces)) ≡ with_words l.fn.self (map piece_word l.pieces);
  keeps : IsFront l.fn.self l.self;
}
