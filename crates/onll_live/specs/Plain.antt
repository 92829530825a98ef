-- A state of a few words, as bytes.
use Rattle.std.specs.Prelude.{ℕ, List, ◌==◌, if◌then◌else◌, length, Option, None}
use Rattle.onll_words.specs.Lines.{words_of_bytes}

-- the state of 64 bytes, which are the eight words that it was saved as
abbrev pub plain_of : {State : Type 0} → (List ℕ → Option State) → List ℕ → Option State
plain_of state_of bytes = if length bytes == 64 then state_of (words_of_bytes bytes) else None
