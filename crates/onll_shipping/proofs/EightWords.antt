-- Lines of eight words, one after the other.

use Rattle.std.proofs.Common.{ℕ, ◌+◌, ◌<◌, ◌≡◌, List, [], ◌∷◌, length, take, get_or, sym, ap, subst, ◌∙◌, arith}
use Rattle.std.proofs.lemmas.List.{take_more, length-map}
use Rattle.onll_words.specs.declared.line.Line.{Line}
use Rattle.onll_pmem.specs.Device.{line_at}
use Rattle.onll_pmem.specs.Pmem.{words_of}
use Rattle.onll_model.proofs.Lists.{all_append}
use Rattle.onll_log.specs.Torn.{IsLine, AreLines}

-- one line more has eight words
pub eight_more : (lines : List Line) (i : ℕ) (line : List ℕ) → i < length lines → line ≡ line_at (words_of lines) i → length line ≡ 8 → AreLines (take i (words_of lines)) → AreLines (take (i + 1) (words_of lines))
eight_more lines i line low is eight h =
    let words : List (List ℕ) = words_of lines in
    let count : length words ≡ length lines = length-map lines (λ (l : Line). l.w) in
    let one : IsLine (get_or words i []) = ap length (sym is) ∙ eight in
    subst AreLines (sym (take_more words i [] (omega arith))) (all_append IsLine (take i words) (get_or words i [] ∷ []) h (one, tt))
