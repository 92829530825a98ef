use Rattle.std.specs.Prelude.{ℕ, ◌+◌, List, [], ◌∷◌, length, map, suc, ◌≡◌, Option, None, IsSome}
use Rattle.onll_model.specs.Segment.{Segment}
use Rattle.onll_log.specs.declared.decoded.Entry.{Entry}
use Rattle.onll_log.specs.declared.decoded.Decoded.{Decoded}
use Rattle.onll_log.specs.declared.image.DecodeFault.{DecodeFault}
use Rattle.onll_log.specs.declared.image.DecodeFault.TheVariants.{NotLog, NoMemory}
use Rattle.onll_log.specs.Grammar.{Content}

-- What a decoded image means.

abbrev pub segment_in : Entry → Segment
segment_in e = record { place = e.place; nodes = e.nodes }

abbrev pub segments_in : List Entry → List Segment
segments_in entries = map segment_in entries

abbrev pub content_in : Decoded → Content
content_in d = record { head = d.head; entries = segments_in d.entries }

-- the entries of these segments, the first of which begins at this line
abbrev pub placed_from : ℕ → List Segment → List Entry
placed_from line [] = []
placed_from line (s ∷ ss) = record { line = line; place = s.place; nodes = s.nodes } ∷ placed_from (line + suc (length s.nodes)) ss

-- why content is refused: an image is no log exactly where it has no content
abbrev pub Refuses : DecodeFault → Option Content → Type 0
Refuses NotLog content = content ≡ None
Refuses NoMemory content = IsSome content
