-- What a store tells of names: how long their files are, and which of them are locked.

use Rattle.std.specs.Prelude.{ℕ, Bool, true, false, List, [], ◌∷◌, ◌++◌, ◌≡◌, Result, Ok, Err, Option, Some, length, filter, not}
use Rattle.std.specs.Option.{option_map}
use Rattle.std.specs.Str.{bytes_eq}
use Rattle.std.specs.List.{list_any}
use Rattle.onll_outside.specs.declared.store.FaultKind.TheVariants.{Write}
use Rattle.onll_outside.specs.declared.directory.LockFault.{LockFault}
use Rattle.onll_outside.specs.declared.directory.LockFault.TheVariants.{InUse, Failed, NoMemory}
use Rattle.onll_outside.specs.Views.{StoreView, SameFaults, Rose}

-- where the store tells its files, this is the length of the named one, if it is there
abbrev pub SizeOf : StoreView → List ℕ → Option ℕ → Type 0
SizeOf view name size = view.tells ≡ true → size ≡ option_map length (view.file name)

abbrev pub is_locked : List (List ℕ) → List ℕ → Bool
is_locked locked name = list_any (λ n. bytes_eq n name) locked

-- the names that are locked when this one is no more
abbrev pub without_name : List (List ℕ) → List ℕ → List (List ℕ)
without_name locked name = filter (λ n. not (bytes_eq n name)) locked

-- a name is taken where it was not locked, and is then the last of those that are; where it isn't taken, none changes
abbrev pub LocksOf : StoreView → List ℕ → List (List ℕ) → List (List ℕ) → Result (Unit {0}) LockFault → Type 0
LocksOf view name old new (Ok done) = view.tells ≡ true → (is_locked old name ≡ false) × (new ≡ old ++ name ∷ [])
LocksOf view name old new (Err InUse) = (view.tells ≡ true → is_locked old name ≡ true) × (new ≡ old)
LocksOf view name old new (Err Failed) = new ≡ old
LocksOf view name old new (Err NoMemory) = new ≡ old

-- a lock is a fault exactly where it answers Failed, which counts as a write of that name
abbrev pub LockFaults : List ℕ → StoreView → StoreView → Result (Unit {0}) LockFault → Type 0
LockFaults name old new (Ok done) = SameFaults old new
LockFaults name old new (Err InUse) = SameFaults old new
LockFaults name old new (Err Failed) = Rose old.faults new.faults × (new.last ≡ Some (record { kind = Write; name = name }))
LockFaults name old new (Err NoMemory) = SameFaults old new

-- where the store tells its files, the name is locked no more, and every other as before
abbrev pub Unlocks : StoreView → List ℕ → List (List ℕ) → List (List ℕ) → Type 0
Unlocks view name old new = view.tells ≡ true → new ≡ without_name old name
