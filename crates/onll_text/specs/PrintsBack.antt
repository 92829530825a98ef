-- What is printed of a state, and whether a text is that.

use Rattle.std.specs.Prelude.{ℕ, Bool, false, List, Option, Some, None, length, nat_lt, nat_le, ◌&&◌}
use Rattle.std.specs.List.{flat_map, list_all}
use Rattle.std.specs.Str.{bytes_eq}
use Rattle.onll_words.specs.Texts.{line_text}
use Rattle.onll_text.specs.Wording.{longest_state, Wording}

abbrev pub is_byte : ℕ → Bool
is_byte b = nat_lt b 256

module _ {State Op Query Reply : Type 0} (w : Wording State Op Query Reply) where
  -- what is printed of a state
  abbrev pub state_text : State → List ℕ
  state_text s = flat_map line_text (w.state_lines s)

  -- the text is what is printed of this state
  abbrev pub is_state_text : Option State → List ℕ → Bool
  is_state_text None text = false
  is_state_text (Some s) text = bytes_eq (state_text s) text

  -- The text says a state and is what is printed of it; it is as short as what is printed of a state, and made of bytes.
  abbrev pub prints_back : List ℕ → Bool
  prints_back text = is_state_text (w.state_of text) text && (nat_le (length text) longest_state && list_all is_byte text)
