use Rattle.std.proofs.Common.{rules, List, ℕ, take, ap, ◌∙◌}
use Rattle.byteorder.specs.Endian.{little_number}
use Rattle.onll_words.specs.Bytes.{words_in, low_word}
use Rattle.onll_words.proofs.WordBytes.{words_in-read, low_word-little}
use Rattle.onll_log.proofs.digest.Message.digest.Goals as goal

pub returns : goal.returns
returns c = λ m held. words_in-read low_word little_number 3 _ c.read_u64_into.new.dst low_word-little (search rules) c.read_u64_into.ensures
    ∙ ap (λ (bytes : List ℕ). words_in low_word 3 (take 24 bytes)) (c.finalize-bytes.ensures m held)
