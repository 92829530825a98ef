-- A stream as it is made of the lines of logs, entry by entry.

use Rattle.std.specs.Prelude.{ℕ, zero, suc, ◌+◌, ◌≡◌, ◌≤◌, List, [], ◌∷◌, ◌++◌, Option, Some, None, length, map, take, drop}
use Rattle.std.specs.List.{flat_map}
use Rattle.onll_model.specs.Segment.{Segment}
use Rattle.onll_log.specs.Grammar.{Content, content_of}
use Rattle.onll_log.specs.Head.{word}
use Rattle.onll_log.specs.Tested.{used_in}
use Rattle.onll_outside.specs.Views.{image_bytes}
use Rattle.onll_shipping.specs.declared.turns.Stream.{Stream}

-- ---- images
-- each line of the image decides what it holds
abbrev pub IsUsedUp : List (List ℕ) → Type 0
IsUsedUp image = length image ≤ used_in (content_of image)

abbrev pub entries_held : Option Content → List Segment
entries_held None = []
entries_held (Some content) = content.entries

-- ---- lines of whole entries
-- an entry of these lines, none where there is no line
abbrev pub if_some_line : List (List ℕ) → List (List (List ℕ))
if_some_line [] = []
if_some_line (line ∷ lines) = (line ∷ lines) ∷ []

-- the first entry, if there is one
abbrev pub first_entry : List (List ℕ) → List (List (List ℕ))
first_entry [] = []
first_entry (line ∷ lines) = (line ∷ take (word line 4) lines) ∷ []

abbrev pub after_entry : List (List ℕ) → List (List ℕ)
after_entry [] = []
after_entry (line ∷ lines) = drop (word line 4) lines

-- the entries that are put in so many turns
abbrev pub put_in_turns : ℕ → List (List (List ℕ)) → List (List (List ℕ))
put_in_turns zero logs = []
put_in_turns (suc more) logs = flat_map first_entry logs ++ put_in_turns more (map after_entry logs)

-- ---- the stream
-- it has these entries more
pub record HasMore (old new : Stream) (entries : List (List (List ℕ))) : Type 0 where
  pub bytes : new.bytes.items ≡ old.bytes.items ++ flat_map image_bytes entries
  pub count : new.entries ≡ old.entries + length entries

-- it has no more entries than bytes
abbrev pub IsCountable : Stream → Type 0
IsCountable s = s.entries ≤ length s.bytes.items
