use Rattle.std.proofs.Common.{ℕ, Bool, true, false, List, [], ◌∷◌, ◌++◌, ◌≡◌, ◌≤◌, ◌<◌, length, drop, ◌==◌, cond, refl, ap, sym, ◌∙◌, append_assoc, arith, length-append, length-drop}
use Rattle.std.proofs.lemmas.List.{append-nil}
use Rattle.std.proofs.lemmas.Bool.Decides.{nat_tests}
use Rattle.onll_queue.specs.Items.{Items}
use Rattle.onll_queue.specs.declared.operation.QueueOp.{QueueOp}
use Rattle.onll_queue.specs.declared.operation.QueueOp.TheVariants.{Push, Pop}
use Rattle.onll_queue.specs.declared.operation.QueueReply.TheVariants.{Done, Full}
use Rattle.onll_queue.specs.Queue.{items_in, first_of, queue_next}
use Rattle.onll_queue.specs.Order.{queue_after, replies_of, taken_in, given_out, FifoLaw, RoomLaw}

-- the order law of these operations
abbrev Ordered : List QueueOp → Items → Type 0
Ordered ops s = s.items ++ taken_in ops (replies_of s ops) ≡ given_out (replies_of s ops) ++ (queue_after s ops).items

-- it holds of a push before them, whether or not the queue is full
ordered_push : (t : Bool) (room x : ℕ) (items : List ℕ) (ops : List QueueOp) → ((s : Items) → Ordered ops s)
    → let after = items_in room (cond t items (items ++ x ∷ [])) in
    items ++ taken_in (Push x ∷ ops) (cond t Full Done ∷ replies_of after ops) ≡ given_out (cond t Full Done ∷ replies_of after ops) ++ (queue_after after ops).items
ordered_push false room x items ops h = let after = items_in room (items ++ x ∷ []) in sym (append_assoc items (x ∷ []) (taken_in ops (replies_of after ops))) ∙ h after
ordered_push true room x items ops h = h (items_in room items)

-- and of a pop before them
ordered_pop : (room : ℕ) (items : List ℕ) (ops : List QueueOp) → ((s : Items) → Ordered ops s)
    → let after = items_in room (drop 1 items) in
    items ++ taken_in (Pop ∷ ops) (first_of items ∷ replies_of after ops) ≡ given_out (first_of items ∷ replies_of after ops) ++ (queue_after after ops).items
ordered_pop room [] ops h = h (items_in room [])
ordered_pop room (x ∷ items) ops h = ap (λ l. x ∷ l) (h (items_in room items))

pub order_law : FifoLaw
order_law s [] = append-nil s.items
order_law s (Push x ∷ ops) = ordered_push (length s.items == s.room) s.room x s.items ops (λ t. order_law t ops)
order_law s (Pop ∷ ops) = ordered_pop s.room s.items ops (λ t. order_law t ops)

-- a push leaves no more items than there is room for
push_within : (room x : ℕ) (items : List ℕ) (t : Bool) → t ≡ (length items == room) → length items ≤ room → length (cond t items (items ++ x ∷ [])) ≤ room
push_within room x items false e h =
    let less : length items < room = grind (arith, nat_tests) in
    omega (arith, less, length-append items (x ∷ []))
push_within room x items true e h = h

pub bound_law : RoomLaw
bound_law s [] h = h
bound_law s (Push x ∷ ops) h = bound_law (queue_next s (Push x)) ops (push_within s.room x s.items (length s.items == s.room) refl h)
bound_law s (Pop ∷ ops) h = bound_law (queue_next s Pop) ops (omega (arith, length-drop 1 s.items))
