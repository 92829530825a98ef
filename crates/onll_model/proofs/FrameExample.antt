use Rattle.std.proofs.Common.{◌≡◌, true, false, List, [], ◌∷◌, Some, None, refl}
use Rattle.onll_words.specs.declared.line.OpRow.{OpRow}
use Rattle.onll_model.specs.declared.node.Node.{Node}
use Rattle.onll_model.specs.Frames.{Frame, Rest, resumed_thread}
use Rattle.onll_model.specs.Events.{Event, UpdateTail, Won, Lost, FlagSet, FlagUnset, Fence, Set, ReadTail, Fail, MakeNote, Learn, after}

-- An example: two threads, each with one update. The second loses its exchange, tries again, walks past the first one's node
-- and logs both. The first one's fence fails; it learns from the second what that has seen, and reads.

abbrev after_all : Frame → List Event → Frame
after_all f [] = f
after_all f (e ∷ es) = after_all (after 0 f e) es

abbrev first : OpRow → Node
first row = record { thread = 0; number = 1; row = row }

abbrev second : OpRow → Node
second row = record { thread = 1; number = 1; row = row }

abbrev begin : Frame
begin = record { trace = []; flags = []; threads = resumed_thread 0 [] ∷ resumed_thread 0 [] ∷ []; notes = [] }

abbrev events : OpRow → List Event
events row = UpdateTail 0 ∷ UpdateTail 1 ∷ Won 0 row ∷ Lost 1 ∷ UpdateTail 1 ∷ Won 1 row
    ∷ FlagUnset 1 ∷ Fence 1 ∷ Set 1 ∷ Fail 0 ∷ MakeNote 1 ∷ Learn 0 0 ∷ ReadTail 0 ∷ FlagSet 0 ∷ []

ends_so : (row : OpRow) → after_all begin (events row) ≡ record {
  trace = first row ∷ second row ∷ [];
  flags = false ∷ true ∷ [];
  threads = record { seen = 2; fenced = []; pending = Some record { place = 1; nodes = first row ∷ [] }; stuck = Some 1; activity = Rest } ∷
      record { seen = 2; fenced = record { place = 2; nodes = first row ∷ second row ∷ [] } ∷ []; pending = None; stuck = None; activity = Rest } ∷ [];
  notes = [];
}
ends_so row = refl
