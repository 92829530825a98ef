-- The calls, replies and initial states of a map, as texts say them.

use Rattle.std.specs.Prelude.{ℕ, List, [], ◌∷◌, Result, Ok, Err, if◌then◌else◌, codes, decimal, is_some, not}
use Rattle.std.specs.Str.{bytes_eq}
use Rattle.onll_words.specs.Short.{ShortText}
use Rattle.onll_model.specs.declared.call.Call.{Call}
use Rattle.onll_model.specs.declared.call.Call.TheVariants.{Update, Ask}
use Rattle.onll_map.specs.declared.operation.MapOp.{MapOp}
use Rattle.onll_map.specs.declared.operation.MapOp.TheVariants.{Put, Del}
use Rattle.onll_map.specs.declared.operation.MapQuery.{MapQuery}
use Rattle.onll_map.specs.declared.operation.MapQuery.TheVariants.{Get, Next, Count}
use Rattle.onll_map.specs.declared.operation.MapReply.{MapReply}
use Rattle.onll_map.specs.declared.operation.MapReply.TheVariants.{New, Old, Full, Absent, Value, Key, Count as Counted}
use Rattle.onll_map.specs.Map.{Pairs, Entries, value_at, has_room, pairs_put}
use Rattle.onll_text.specs.declared.reason.Reason.{Reason}
use Rattle.onll_text.specs.declared.reason.Reason.TheVariants.{UnknownWord, Repeated, TooMany}
use Rattle.onll_text.specs.Refusal.{◌>>=◌, only_if}
use Rattle.onll_text.specs.Words.{no_word, one_number, one_short, two_shorts}

abbrev pub MapCall : Type 0
MapCall = Call Entries MapOp MapQuery MapReply

-- the calls of a line's words after the first
abbrev pub put_of : List (List ℕ) → Result MapCall Reason
put_of args = two_shorts args >>= λ p. Ok (Update (Put p.0 p.1))

abbrev pub del_of : List (List ℕ) → Result MapCall Reason
del_of args = one_short args >>= λ k. Ok (Update (Del k))

abbrev pub get_of : List (List ℕ) → Result MapCall Reason
get_of args = one_short args >>= λ k. Ok (Ask (Get k))

abbrev pub next_of : List (List ℕ) → Result MapCall Reason
next_of args = one_short args >>= λ k. Ok (Ask (Next k))

abbrev pub count_of : List (List ℕ) → Result MapCall Reason
count_of args = no_word args >>= λ none. Ok (Ask Count)

-- the call of a line's words
abbrev pub map_call_of : List (List ℕ) → Result MapCall Reason
map_call_of [] = Err UnknownWord
map_call_of (first ∷ args) =
    if bytes_eq first (codes "put") then put_of args
    else (if bytes_eq first (codes "del") then del_of args
    else (if bytes_eq first (codes "get") then get_of args
    else (if bytes_eq first (codes "next") then next_of args
    else (if bytes_eq first (codes "count") then count_of args
    else Err UnknownWord))))

abbrev pub map_op_words : MapOp → List (List ℕ)
map_op_words (Put k v) = codes "put" ∷ k.bytes ∷ v.bytes ∷ []
map_op_words (Del k) = codes "del" ∷ k.bytes ∷ []

abbrev pub map_query_words : MapQuery → List (List ℕ)
map_query_words (Get k) = codes "get" ∷ k.bytes ∷ []
map_query_words (Next k) = codes "next" ∷ k.bytes ∷ []
map_query_words Count = codes "count" ∷ []

abbrev pub map_reply_words : MapReply → List (List ℕ)
map_reply_words New = codes "new" ∷ []
map_reply_words (Old v) = codes "old" ∷ v.bytes ∷ []
map_reply_words Full = codes "full" ∷ []
map_reply_words Absent = codes "none" ∷ []
map_reply_words (Value v) = codes "value" ∷ v.bytes ∷ []
map_reply_words (Key k) = codes "key" ∷ k.bytes ∷ []
map_reply_words (Counted n) = codes "count" ∷ decimal n ∷ []

-- the reply that words say
abbrev pub map_reply_of : List (List ℕ) → Result MapReply Reason
map_reply_of [] = Err UnknownWord
map_reply_of (first ∷ args) =
    if bytes_eq first (codes "new") then (no_word args >>= λ none. Ok New)
    else (if bytes_eq first (codes "old") then (one_short args >>= λ v. Ok (Old v))
    else (if bytes_eq first (codes "full") then (no_word args >>= λ none. Ok Full)
    else (if bytes_eq first (codes "none") then (no_word args >>= λ none. Ok Absent)
    else (if bytes_eq first (codes "value") then (one_short args >>= λ v. Ok (Value v))
    else (if bytes_eq first (codes "key") then (one_short args >>= λ k. Ok (Key k))
    else (if bytes_eq first (codes "count") then (one_number args >>= λ n. Ok (Counted n))
    else Err UnknownWord))))))

abbrev pub pair_line : ShortText × ShortText → List (List ℕ)
pair_line pair = codes "pair" ∷ pair.0.bytes ∷ pair.1.bytes ∷ []

-- the line of each pair
abbrev pub pair_lines : Pairs → List (List (List ℕ))
pair_lines [] = []
pair_lines (pair ∷ pairs) = pair_line pair ∷ pair_lines pairs

abbrev pub map_state_lines : Entries → List (List (List ℕ))
map_state_lines s = (codes "map" ∷ decimal s.room ∷ []) ∷ pair_lines s.pairs

-- one pair more of an initial map
abbrev pub with_pair : Entries → ShortText × ShortText → Result Entries Reason
with_pair made pair =
    only_if (not (is_some (value_at made.pairs pair.0))) Repeated made
    >>= (λ m. only_if (has_room m) TooMany (record { pairs = pairs_put m.pairs pair.0 pair.1; room = m.room }))

-- one line more, by its words
abbrev pub with_pair_line : Entries → List (List ℕ) → Result Entries Reason
with_pair_line made [] = Err UnknownWord
with_pair_line made (first ∷ args) =
    if bytes_eq first (codes "pair") then (two_shorts args >>= with_pair made) else Err UnknownWord

abbrev pub no_pairs : ℕ → Entries
no_pairs capacity = record { pairs = []; room = capacity }
