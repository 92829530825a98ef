-- How a checkpoint is written in lines, and how any lines are read. A line is a list of eight words.
use Rattle.std.specs.Prelude.{ℕ, ◌+◌, ◌-◌, ◌^◌, ◌==◌, ◌&&◌, if◌then◌else◌, Bool, List, [], ◌∷◌, ◌++◌, length, take, nat_le, Option, Some, None}
use Rattle.onll_pmem.specs.Device.{zero_line, zero_lines}
use Rattle.onll_log.specs.Head.{word}
use Rattle.onll_log.specs.Masks.{bits, marks_in}
use Rattle.onll_checkpoint.specs.Checkpoint.{CheckpointState, longest_saved}
use Rattle.onll_checkpoint.specs.Text.{lines_of_text, lines_for, text_lines, text_in}

-- the bytes ONLLCKP1, the lowest first
abbrev pub checkpoint_magic : ℕ
checkpoint_magic = 0x31504b434c4c4e4f

-- the words of a first line before its last
abbrev pub first_words : ℕ → ℕ → ℕ → List ℕ
first_words number place bytes = checkpoint_magic ∷ number ∷ place ∷ bytes ∷ 0 ∷ 0 ∷ 0 ∷ []

-- the last word, which says which of the others are not zero; its highest bit is always set
abbrev pub guard_of : List ℕ → ℕ
guard_of words = bits (marks_in words) + 2 ^ 63

-- ---- writing
abbrev pub first_line : CheckpointState → List ℕ
first_line c = first_words c.number c.place (length c.text) ++ guard_of (first_words c.number c.place (length c.text)) ∷ []

-- the lines of a checkpoint, and then zeros, this many lines in all
abbrev pub checkpoint_image : CheckpointState → ℕ → List (List ℕ)
checkpoint_image c count = first_line c ∷ (text_lines c.text ++ zero_lines (count - lines_for (length c.text)))

-- the same without the first line
abbrev pub text_image : List ℕ → ℕ → List (List ℕ)
text_image text count = zero_line ∷ (text_lines text ++ zero_lines (count - lines_for (length text)))

-- ---- reading
-- whether a checkpoint begins with this line: its magic, its number, its length, the unused words, and the last word
abbrev pub is_first_line : List ℕ → Bool
is_first_line line =
    (word line 0 == checkpoint_magic)
    && (nat_le 1 (word line 1)
    && (nat_le (word line 3) longest_saved
    && ((word line 4 == 0)
    && ((word line 5 == 0)
    && ((word line 6 == 0)
    && (word line 7 == guard_of (take 7 line)))))))

-- the checkpoint that these lines hold; None where none is accepted
abbrev pub checkpoint_in : List (List ℕ) → Option CheckpointState
checkpoint_in [] = None
checkpoint_in (l ∷ ls) =
    if is_first_line l && nat_le (lines_of_text (word l 3)) (length ls)
    then Some (record { number = word l 1; place = word l 2; text = text_in (word l 3) ls })
    else None
