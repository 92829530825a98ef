use Rattle.std.proofs.Common.{rules, ap, ◌∙◌}
use Rattle.byteorder.specs.Endian.{little_number}
use Rattle.onll_words.specs.Bytes.{low_word}
use Rattle.onll_words.specs.Lines.{bytes_of_words}
use Rattle.onll_words.proofs.WordBytes.{words_in-read, low_word-little}
use Rattle.onll_words.proofs.LineBytes.{bytes_of_words-words_of_bytes}
use Rattle.onll_words.proofs.line.line_of_bytes.Goals as goal

pub returns-clause-words : goal.returns-clause-words
returns-clause-words c = words_in-read low_word little_number 8 c.args.bytes c.read_u64_into.new.dst low_word-little (search rules) c.read_u64_into.ensures

pub returns-clause-bytes : goal.returns-clause-bytes
returns-clause-bytes c =
    ap bytes_of_words (words_in-read low_word little_number 8 c.args.bytes c.read_u64_into.new.dst low_word-little (search rules) c.read_u64_into.ensures)
    ∙ bytes_of_words-words_of_bytes c.args.bytes (search rules) (λ i. search rules)
