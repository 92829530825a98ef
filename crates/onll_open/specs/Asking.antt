-- How many updates each thread is to have room for: as many as are asked for, or all that its log has left.
use Rattle.std.specs.Prelude.{ℕ, List, ◌≡◌, length, Option, Some, None}
use Rattle.std.specs.Option.{option_map, IfSome}
use Rattle.std.specs.declared.vec.Vec.{Vec}
use Rattle.onll_merge.specs.Recovered.{Recovered}
use Rattle.onll_open.specs.declared.fault.OpenFault.{OpenFault}
use Rattle.onll_open.specs.declared.fault.OpenFault.TheVariants.{NoRoom, Full, NoMemory}
use Rattle.onll_open.specs.Rooms.{first_full, rooms_left, first_empty}

-- the rooms that are asked for, in a vector
abbrev pub asked_in : {A : Type 0} → Option (Vec ℕ A) → Option (List ℕ)
asked_in None = None
asked_in (Some rooms) = Some rooms.items

-- the rooms of so many threads over what was found
abbrev pub rooms_of : ℕ → Option (List ℕ) → Recovered → List ℕ
rooms_of threads (Some rooms) found = rooms
rooms_of threads None found = rooms_left threads found.nodes 0 found.logs

-- the first thread that has no room for as many as are asked for, or none at all
abbrev pub room_refused : ℕ → Option (List ℕ) → Recovered → Option OpenFault
room_refused threads (Some rooms) found = option_map NoRoom (first_full threads found.nodes 0 found.logs rooms)
room_refused threads None found = option_map Full (first_empty 0 (rooms_left threads found.nodes 0 found.logs))

-- as many are asked for as there are threads
abbrev pub IsForAll : ℕ → Option (List ℕ) → Type 0
IsForAll threads asked = IfSome asked (λ rooms. length rooms ≡ threads)

-- why rooms are not given
abbrev pub RoomRefused : ℕ → Option (List ℕ) → Recovered → OpenFault → Type 0
RoomRefused threads asked found (NoRoom thread) = room_refused threads asked found ≡ Some (NoRoom thread)
RoomRefused threads asked found (Full thread) = room_refused threads asked found ≡ Some (Full thread)
RoomRefused threads asked found NoMemory = Unit {0}
RoomRefused threads asked found fault = ⊥
