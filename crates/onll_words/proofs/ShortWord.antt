use Rattle.std.proofs.Common.{ℕ, true, false, List, ◌≡◌, ◌≤◌, length, get_or, arith}
use Rattle.std.proofs.lemmas.Bool.Decides.{nat_tests}
use Rattle.std.proofs.lemmas.List.Sums.{list_all-from_AllPass}
use Rattle.onll_words.specs.Texts.{is_word_byte, is_empty, IsWord}
use Rattle.onll_words.specs.Short.{ShortText}
use Rattle.onll_words.proofs.Packing.{parts, text_byte}

word_byte : (b : ℕ) → 0x21 ≤ b → is_word_byte b ≡ true
word_byte b h = grind (arith, nat_tests)

not_empty : (bytes : List ℕ) → 1 ≤ length bytes → is_empty bytes ≡ false
not_empty bytes h = grind (arith, nat_tests)

-- a short text is one word
pub IsWord-short : (text : ShortText) → IsWord text.bytes
IsWord-short text =
    let p = parts text.bytes text.short in
    record {
      some = not_empty text.bytes p.some;
      bytes = list_all-from_AllPass is_word_byte text.bytes (λ k d lt. word_byte (get_or text.bytes k d) (text_byte text.bytes p.text k d lt).0);
    }
