-- The calls, replies and initial states of a queue, as texts say them.

use Rattle.std.specs.Prelude.{ℕ, List, [], ◌∷◌, ◌++◌, Result, Ok, Err, if◌then◌else◌, codes, decimal, not}
use Rattle.std.specs.Str.{bytes_eq}
use Rattle.onll_model.specs.declared.call.Call.{Call}
use Rattle.onll_model.specs.declared.call.Call.TheVariants.{Update, Ask}
use Rattle.onll_queue.specs.Items.{Items}
use Rattle.onll_queue.specs.declared.operation.QueueOp.{QueueOp}
use Rattle.onll_queue.specs.declared.operation.QueueOp.TheVariants.{Push, Pop}
use Rattle.onll_queue.specs.declared.operation.QueueQuery.{QueueQuery}
use Rattle.onll_queue.specs.declared.operation.QueueQuery.TheVariants.{Front, Length as AskLength}
use Rattle.onll_queue.specs.declared.operation.QueueReply.{QueueReply}
use Rattle.onll_queue.specs.declared.operation.QueueReply.TheVariants.{Done, Full, Empty, Item, Length}
use Rattle.onll_queue.specs.Queue.{items_in, is_full}
use Rattle.onll_text.specs.declared.reason.Reason.{Reason}
use Rattle.onll_text.specs.declared.reason.Reason.TheVariants.{UnknownWord, TooMany}
use Rattle.onll_text.specs.Refusal.{◌>>=◌, only_if}
use Rattle.onll_text.specs.Words.{no_word, one_number}

abbrev pub QueueCall : Type 0
QueueCall = Call Items QueueOp QueueQuery QueueReply

-- the calls of a line's words after the first
abbrev pub push_of : List (List ℕ) → Result QueueCall Reason
push_of args = one_number args >>= λ x. Ok (Update (Push x))

abbrev pub pop_of : List (List ℕ) → Result QueueCall Reason
pop_of args = no_word args >>= λ none. Ok (Update Pop)

abbrev pub front_of : List (List ℕ) → Result QueueCall Reason
front_of args = no_word args >>= λ none. Ok (Ask Front)

abbrev pub length_of : List (List ℕ) → Result QueueCall Reason
length_of args = no_word args >>= λ none. Ok (Ask AskLength)

-- the call of a line's words
abbrev pub queue_call_of : List (List ℕ) → Result QueueCall Reason
queue_call_of [] = Err UnknownWord
queue_call_of (first ∷ args) =
    if bytes_eq first (codes "push") then push_of args
    else (if bytes_eq first (codes "pop") then pop_of args
    else (if bytes_eq first (codes "front") then front_of args
    else (if bytes_eq first (codes "length") then length_of args
    else Err UnknownWord)))

abbrev pub queue_op_words : QueueOp → List (List ℕ)
queue_op_words (Push x) = codes "push" ∷ decimal x ∷ []
queue_op_words Pop = codes "pop" ∷ []

abbrev pub queue_query_words : QueueQuery → List (List ℕ)
queue_query_words Front = codes "front" ∷ []
queue_query_words AskLength = codes "length" ∷ []

abbrev pub queue_reply_words : QueueReply → List (List ℕ)
queue_reply_words Done = codes "ok" ∷ []
queue_reply_words Full = codes "full" ∷ []
queue_reply_words Empty = codes "empty" ∷ []
queue_reply_words (Item x) = codes "item" ∷ decimal x ∷ []
queue_reply_words (Length n) = codes "length" ∷ decimal n ∷ []

-- the reply that words say
abbrev pub queue_reply_of : List (List ℕ) → Result QueueReply Reason
queue_reply_of [] = Err UnknownWord
queue_reply_of (first ∷ args) =
    if bytes_eq first (codes "ok") then (no_word args >>= λ none. Ok Done)
    else (if bytes_eq first (codes "full") then (no_word args >>= λ none. Ok Full)
    else (if bytes_eq first (codes "empty") then (no_word args >>= λ none. Ok Empty)
    else (if bytes_eq first (codes "item") then (one_number args >>= λ x. Ok (Item x))
    else (if bytes_eq first (codes "length") then (one_number args >>= λ n. Ok (Length n))
    else Err UnknownWord))))

abbrev pub item_line : ℕ → List (List ℕ)
item_line x = codes "item" ∷ decimal x ∷ []

-- the line of each item
abbrev pub item_lines : List ℕ → List (List (List ℕ))
item_lines [] = []
item_lines (x ∷ items) = item_line x ∷ item_lines items

-- the queue's room, and then its items from the front
abbrev pub queue_state_lines : Items → List (List (List ℕ))
queue_state_lines s = (codes "queue" ∷ decimal s.room ∷ []) ∷ item_lines s.items

-- one item more of an initial queue: the next behind those before
abbrev pub with_item : Items → ℕ → Result Items Reason
with_item made x = only_if (not (is_full made)) TooMany (items_in made.room (made.items ++ x ∷ []))

-- one line more, by its words
abbrev pub with_item_line : Items → List (List ℕ) → Result Items Reason
with_item_line made [] = Err UnknownWord
with_item_line made (first ∷ args) =
    if bytes_eq first (codes "item") then (one_number args >>= with_item made) else Err UnknownWord
