-- The words that pieces of a line stand for.

use Rattle.std.specs.Prelude.{ℕ, List, decimal}
use Rattle.onll_text.specs.declared.report.Piece.{Piece}
use Rattle.onll_text.specs.declared.report.Piece.TheVariants.{Text, Short, Number}

-- the word that a piece stands for
abbrev pub piece_word : Piece → List ℕ
piece_word (Text text) = text.now
piece_word (Short text) = text.bytes
piece_word (Number n) = decimal n
