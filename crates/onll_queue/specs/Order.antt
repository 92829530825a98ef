-- Operations done in order on a queue.

use Rattle.std.specs.Prelude.{ℕ, List, [], ◌∷◌, ◌++◌, ◌≡◌, ◌≤◌, length}
use Rattle.onll_queue.specs.Items.{Items}
use Rattle.onll_queue.specs.declared.operation.QueueOp.{QueueOp}
use Rattle.onll_queue.specs.declared.operation.QueueOp.TheVariants.{Push}
use Rattle.onll_queue.specs.declared.operation.QueueReply.{QueueReply}
use Rattle.onll_queue.specs.declared.operation.QueueReply.TheVariants.{Done, Item}
use Rattle.onll_queue.specs.Queue.{queue_reply, queue_next}

-- the queue that they leave
abbrev pub queue_after : Items → List QueueOp → Items
queue_after s [] = s
queue_after s (op ∷ ops) = queue_after (queue_next s op) ops

-- their replies
abbrev pub replies_of : Items → List QueueOp → List QueueReply
replies_of s [] = []
replies_of s (op ∷ ops) = queue_reply s op ∷ replies_of (queue_next s op) ops

-- the items of the pushes whose reply is that it was done
abbrev pub taken_in : List QueueOp → List QueueReply → List ℕ
taken_in [] replies = []
taken_in (op ∷ ops) [] = []
taken_in (Push x ∷ ops) (Done ∷ replies) = x ∷ taken_in ops replies
taken_in (op ∷ ops) (reply ∷ replies) = taken_in ops replies

-- the items that replies give
abbrev pub given_out : List QueueReply → List ℕ
given_out [] = []
given_out (Item x ∷ replies) = x ∷ given_out replies
given_out (reply ∷ replies) = given_out replies

-- The items that were there and then those taken in are the items given out and then those that are left: they leave
-- in the order in which they came, each once.
abbrev pub FifoLaw : Type 0
FifoLaw = (s : Items) (ops : List QueueOp)
    → s.items ++ taken_in ops (replies_of s ops) ≡ given_out (replies_of s ops) ++ (queue_after s ops).items

-- there are never more items than there is room for
abbrev pub RoomLaw : Type 0
RoomLaw = (s : Items) (ops : List QueueOp) → length s.items ≤ s.room → length (queue_after s ops).items ≤ s.room
