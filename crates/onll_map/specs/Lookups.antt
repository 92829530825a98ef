-- What look-ups answer after an operation, on every map.

use Rattle.std.specs.Prelude.{◌≡◌, ◌≢◌, ◌↔◌}
use Rattle.onll_words.specs.Short.{ShortText}
use Rattle.onll_map.specs.declared.operation.MapOp.{MapOp}
use Rattle.onll_map.specs.declared.operation.MapOp.TheVariants.{Put, Del}
use Rattle.onll_map.specs.declared.operation.MapQuery.TheVariants.{Get, Next}
use Rattle.onll_map.specs.declared.operation.MapReply.{MapReply}
use Rattle.onll_map.specs.declared.operation.MapReply.TheVariants.{Full, Absent, Value, Key}
use Rattle.onll_map.specs.Map.{Entries, IsMap, IsLeastFrom, NoneFrom, map_next, map_reply, map_answer}

-- the answer for the value at a key
abbrev pub get : Entries → ShortText → MapReply
get s k = map_answer s (Get k)

-- the answer for the least key not below this one
abbrev pub next : Entries → ShortText → MapReply
next s k = map_answer s (Next k)

-- a key has the value that was put, unless the put was refused
abbrev pub PutLaw : Type 0
PutLaw = (s : Entries) (k v : ShortText) → map_reply s (Put k v) ≢ Full → get (map_next s (Put k v)) k ≡ Value v

-- a key that was deleted has no value
abbrev pub DelLaw : Type 0
DelLaw = (s : Entries) (k : ShortText) → IsMap s → get (map_next s (Del k)) k ≡ Absent

-- a put and a delete keep what each other key has
abbrev pub OthersLaw : Type 0
OthersLaw = (s : Entries) (k v q : ShortText) → IsMap s → q ≢ k → (get (map_next s (Put k v)) q ≡ get s q)
    × (get (map_next s (Del k)) q ≡ get s q)

-- a put that is refused changes nothing
abbrev pub FullLaw : Type 0
FullLaw = (s : Entries) (k v : ShortText) → map_reply s (Put k v) ≡ Full → map_next s (Put k v) ≡ s

-- the next key is the least of the keys that are not below
abbrev pub NextKeyLaw : Type 0
NextKeyLaw = (s : Entries) (k q : ShortText) → IsMap s → (next s k ≡ Key q) ↔ IsLeastFrom s.pairs k q

-- there is none exactly where each key is below
abbrev pub NoNextLaw : Type 0
NoNextLaw = (s : Entries) (k : ShortText) → IsMap s → (next s k ≡ Absent) ↔ NoneFrom s.pairs k

-- a map stays one
abbrev pub KeptLaw : Type 0
KeptLaw = (s : Entries) (op : MapOp) → IsMap s → IsMap (map_next s op)
