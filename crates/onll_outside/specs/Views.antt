-- What a store and a sink tell, and what a call leaves as it was.

use Rattle.std.specs.Prelude.{ℕ, Bool, true, List, ◌++◌, ◌≡◌, ◌+◌, ◌-◌, ◌^◌, ◌≤◌, min, Result, Ok, Err, Option, Some, None, take, ◌*◌, ◌⊎◌, ◌==◌, if◌then◌else◌, length, drop, map, ◌∷◌, []}
use Rattle.std.specs.List.{All, flat_map}
use Rattle.onll_words.specs.Lines.{bytes_of_words}
use Rattle.onll_pmem.specs.Device.{zero_lines, Mixed}
use Rattle.onll_pmem.specs.Pmem.{DeviceView, Told, ToldSettled}
use Rattle.onll_outside.specs.declared.OutsideFault.{OutsideFault}
use Rattle.onll_outside.specs.declared.OutsideFault.TheVariants.{Failed, NoMemory}
use Rattle.onll_outside.specs.declared.store.FaultKind.{FaultKind}

-- the kind of a call that failed, and the name handed in
pub record Last : Type 0 where
  pub kind : FaultKind
  pub name : List ℕ

-- a store: whether it tells its files, the bytes of each that is there, how many of its calls failed and the
-- last of those; and of the devices that were handed back, how many had a fence that failed, and how many
-- fences they made in all
pub record StoreView : Type 0 where
  pub tells : Bool
  pub file : List ℕ → Option (List ℕ)
  pub faults : ℕ
  pub last : Option Last
  pub device_faults : ℕ
  pub device_fences : ℕ

-- a sink: the bytes that it took, where it tells them, and how many of its puts failed
pub record SinkView : Type 0 where
  pub taken : Option (List ℕ)
  pub faults : ℕ

-- a count went up by one, or stands at its type's end
abbrev pub Rose : ℕ → ℕ → Type 0
Rose before now = (before ≤ now) × (now ≡ min (before + 1) (2 ^ 64 - 1))

-- a count went up, by one or by more, or stands at its type's end
abbrev pub WentUp : ℕ → ℕ → Type 0
WentUp before now = (before ≤ now) × (min (before + 1) (2 ^ 64 - 1) ≤ now)

-- no file changed
pub record SameFiles (old new : StoreView) : Type 0 where
  pub tells : new.tells ≡ old.tells
  pub file : (name : List ℕ) → new.file name ≡ old.file name

-- no file changed but perhaps that of this name
pub record SameOthers (name : List ℕ) (old new : StoreView) : Type 0 where
  pub tells : new.tells ≡ old.tells
  pub file : (other : List ℕ) → (other ≡ name → ⊥) → new.file other ≡ old.file other

-- where the store tells its files, the named one holds these bytes
abbrev pub FileHolds : StoreView → List ℕ → List ℕ → Type 0
FileHolds view name bytes = view.tells ≡ true → view.file name ≡ Some bytes

-- at most the first limit bytes of a file that is there
abbrev pub IsFrontOfFile : ℕ → Option (List ℕ) → List ℕ → Type 0
IsFrontOfFile limit None bytes = ⊥
IsFrontOfFile limit (Some all) bytes = bytes ≡ take limit all

-- where the store tells its files, the named one is there and gives these bytes
abbrev pub Gives : StoreView → List ℕ → ℕ → List ℕ → Type 0
Gives view name limit bytes = view.tells ≡ true → IsFrontOfFile limit (view.file name) bytes

-- neither the count of faults nor the last of them changed
abbrev pub SameFaults : StoreView → StoreView → Type 0
SameFaults old new = (new.faults ≡ old.faults) × (new.last ≡ old.last)

-- a call is a fault exactly where it answers Failed: it is then counted once, and is the last one
abbrev pub FaultsOf : {T : Type 0} → Last → StoreView → StoreView → Result T OutsideFault → Type 0
FaultsOf this old new (Ok x) = SameFaults old new
FaultsOf this old new (Err Failed) = Rose old.faults new.faults × (new.last ≡ Some this)
FaultsOf this old new (Err NoMemory) = SameFaults old new

-- the bytes taken, where they are told, after these were put
abbrev pub taken_with : Option (List ℕ) → List ℕ → Option (List ℕ)
taken_with None bytes = None
taken_with (Some before) bytes = Some (before ++ bytes)

-- all these bytes were put
abbrev pub Puts : SinkView → SinkView → List ℕ → Type 0
Puts old new bytes = new.taken ≡ taken_with old.taken bytes

-- some of the first of these bytes were put
pub record PutsFront (old new : SinkView) (bytes : List ℕ) : Type 0 where
  pub front : List ℕ
  pub rest : List ℕ
  pub whole : front ++ rest ≡ bytes
  pub puts : new.taken ≡ taken_with old.taken front

-- a count of faults after a call that was refused so
abbrev pub CountOf : OutsideFault → ℕ → ℕ → Type 0
CountOf Failed before now = Rose before now
CountOf NoMemory before now = now ≡ before

-- what a put of these bytes did, by its answer
abbrev pub PutOf : {T : Type 0} → SinkView → SinkView → List ℕ → Result T OutsideFault → Type 0
PutOf old new bytes (Ok x) = Puts old new bytes × (new.faults ≡ old.faults)
PutOf old new bytes (Err e) = PutsFront old new bytes × CountOf e old.faults new.faults

-- ---- devices
-- a count of 64 bits after this many more, which stays at its end
abbrev pub counted : ℕ → ℕ → ℕ
counted n more = min (n + more) (2 ^ 64 - 1)

-- one for a device that counts a fault
abbrev pub one_fault : ℕ → ℕ
one_fault faults = if faults == 0 then 0 else 1

-- no device was handed back
abbrev pub SameDevices : StoreView → StoreView → Type 0
SameDevices old new = (new.device_faults ≡ old.device_faults) × (new.device_fences ≡ old.device_fences)

-- this device was handed back, and no other
abbrev pub HandsBack : DeviceView → StoreView → StoreView → Type 0
HandsBack d old new = (new.device_faults ≡ counted old.device_faults (one_fault d.faults))
    × (new.device_fences ≡ counted old.device_fences d.fences)

-- a device that reads so, with no fence and no fault; where it tells its fenced words, nothing is pending
pub record IsFresh (lines : List (List ℕ)) (d : DeviceView) : Type 0 where
  pub read : d.read ≡ lines
  pub fences : d.fences ≡ 0
  pub faults : d.faults ≡ 0
  pub settled : ToldSettled d.told d.read

-- lines, and then lines of zeros, this many in all
abbrev pub with_zeros : List (List ℕ) → ℕ → List (List ℕ)
with_zeros front lines = front ++ zero_lines (lines - length front)

abbrev pub AreZeros : List ℕ → Type 0
AreZeros bytes = All (λ x. x ≡ 0) bytes

-- the named file is as it was, or holds zeros alone
abbrev pub KeptOrZeros : List ℕ → StoreView → StoreView → Type 0
KeptOrZeros name old new = (new.file name ≡ old.file name) ⊎ ((bytes : List ℕ) × (new.file name ≡ Some bytes) × AreZeros bytes)

-- the bytes of a file of these lines
abbrev pub image_bytes : List (List ℕ) → List ℕ
image_bytes lines = flat_map bytes_of_words lines

-- where the store tells its files, the named one is there and begins with these bytes
abbrev pub BeginsWith : StoreView → List ℕ → List ℕ → Type 0
BeginsWith view name front = view.tells ≡ true → ((rest : List ℕ) × (view.file name ≡ Some (front ++ rest)))

-- the bytes of a word, in bytes that begin with a word
abbrev pub word_bytes : List ℕ → ℕ → List ℕ
word_bytes bytes word = take 8 (drop (8 * word) bytes)

-- each word is as it was, or zero, or the bytes end before it
abbrev pub AreWipedWords : List ℕ → List ℕ → Type 0
AreWipedWords old new = (word : ℕ) → (word_bytes new word ≡ word_bytes old word) ⊎ AreZeros (word_bytes new word)

-- the named file begins with these bytes as before, and what follows is wiped in part or not
pub record WipesAfter (name front : List ℕ) (old new : StoreView) : Type 0 where
  pub was : List ℕ
  pub rest : List ℕ
  pub before : old.file name ≡ Some (front ++ was)
  pub now : new.file name ≡ Some (front ++ rest)
  pub wiped : AreWipedWords was rest

-- the same where the store tells its files
abbrev pub MayWipe : List ℕ → List ℕ → StoreView → StoreView → Type 0
MayWipe name front old new = old.tells ≡ true → WipesAfter name front old new

-- lines that a device may leave at a crash, where it tells its fenced words
abbrev pub IsImageOf : DeviceView → List (List ℕ) → Type 0
IsImageOf d image = (t : Told) → d.told ≡ Some t → Mixed t.fenced d.read image

-- the named file holds an image of the device
abbrev pub HoldsImageOf : StoreView → List ℕ → DeviceView → Type 0
HoldsImageOf view name d = (image : List (List ℕ)) × (view.file name ≡ Some (image_bytes image)) × IsImageOf d image

-- where the store tells its files, the device was kept
abbrev pub KeepsDevice : StoreView → List ℕ → DeviceView → Type 0
KeepsDevice view name d = view.tells ≡ true → HoldsImageOf view name d

-- where the store tells its files, the named one is as it was, or holds an image of the device
abbrev pub MayKeep : List ℕ → DeviceView → StoreView → StoreView → Type 0
MayKeep name d old new = new.tells ≡ true → (new.file name ≡ old.file name) ⊎ HoldsImageOf new name d

-- ---- handed back
-- a count after each of these more
abbrev pub risen : ℕ → List ℕ → ℕ
risen n [] = n
risen n (more ∷ rest) = risen (counted n more) rest

abbrev pub fences_in : DeviceView → ℕ
fences_in d = d.fences

abbrev pub fault_of : DeviceView → ℕ
fault_of d = one_fault d.faults

-- these devices were handed back, the first of them first, and no other
pub record HandsEach (ds : List DeviceView) (old new : StoreView) : Type 0 where
  pub faults : new.device_faults ≡ risen old.device_faults (map fault_of ds)
  pub fences : new.device_fences ≡ risen old.device_fences (map fences_in ds)
