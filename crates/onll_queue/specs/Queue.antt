-- What a queue replies and becomes, and the rows of its operations.

use Rattle.std.specs.Prelude.{ℕ, Bool, List, [], ◌∷◌, ◌++◌, Option, Some, None, if◌then◌else◌, length, drop, ◌==◌, ◌&&◌}
use Rattle.onll_words.specs.declared.line.OpRow.{OpRow}
use Rattle.onll_queue.specs.Items.{Items}
use Rattle.onll_queue.specs.declared.operation.QueueOp.{QueueOp}
use Rattle.onll_queue.specs.declared.operation.QueueOp.TheVariants.{Push, Pop}
use Rattle.onll_queue.specs.declared.operation.QueueQuery.{QueueQuery}
use Rattle.onll_queue.specs.declared.operation.QueueQuery.TheVariants.{Front, Length as AskLength}
use Rattle.onll_queue.specs.declared.operation.QueueReply.{QueueReply}
use Rattle.onll_queue.specs.declared.operation.QueueReply.TheVariants.{Done, Full, Empty, Item, Length}

-- these items, with this room
abbrev pub items_in : ℕ → List ℕ → Items
items_in room items = record { items = items; room = room }

abbrev pub is_full : Items → Bool
is_full s = length s.items == s.room

-- the first item, where there is one
abbrev pub first_of : List ℕ → QueueReply
first_of [] = Empty
first_of (x ∷ xs) = Item x

abbrev pub queue_reply : Items → QueueOp → QueueReply
queue_reply s (Push x) = if is_full s then Full else Done
queue_reply s Pop = first_of s.items

-- the items after an operation: a push puts its item last, where they are not full; a pop takes the first away, where there is one
abbrev pub items_after : Items → QueueOp → List ℕ
items_after s (Push x) = if is_full s then s.items else s.items ++ x ∷ []
items_after s Pop = drop 1 s.items

-- the queue after an operation
abbrev pub queue_next : Items → QueueOp → Items
queue_next s op = items_in s.room (items_after s op)

abbrev pub queue_answer : Items → QueueQuery → QueueReply
queue_answer s Front = first_of s.items
queue_answer s AskLength = Length (length s.items)

-- the row of an operation: its code, its arguments, and zeros
abbrev pub queue_row : QueueOp → OpRow
queue_row (Push x) = record { w = 1 ∷ x ∷ 0 ∷ 0 ∷ 0 ∷ 0 ∷ 0 ∷ [] }
queue_row Pop = record { w = 2 ∷ 0 ∷ 0 ∷ 0 ∷ 0 ∷ 0 ∷ 0 ∷ [] }

-- the operation of a row's words, where they are those of one
abbrev pub op_of_words : List ℕ → Option QueueOp
op_of_words (k ∷ a ∷ b ∷ c ∷ d ∷ e ∷ f ∷ []) =
    if k == 1 && (b == 0) && (c == 0) && (d == 0) && (e == 0) && (f == 0) then Some (Push a)
    else (if k == 2 && (a == 0) && (b == 0) && (c == 0) && (d == 0) && (e == 0) && (f == 0) then Some Pop
    else None)
op_of_words _ = None

abbrev pub queue_op_at : OpRow → Option QueueOp
queue_op_at row = op_of_words row.w
