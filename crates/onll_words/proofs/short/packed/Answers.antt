use Rattle.std.proofs.Common.{rules, ap, ◌∙◌}
use Rattle.byteorder.specs.Endian.{big_number}
use Rattle.onll_words.specs.Bytes.{high_word, words_in}
use Rattle.onll_words.specs.Short.{packed}
use Rattle.onll_words.proofs.WordBytes.{words_in-read, high_word-big}
use Rattle.onll_words.proofs.short.packed.Goals as goal

pub returns : goal.returns
unfolding packed
returns c =
    words_in-read high_word big_number 3 c.padded.result c.read_u64_into.new.dst high_word-big (search rules) c.read_u64_into.ensures
    ∙ ap (words_in high_word 3) c.padded.ensures
