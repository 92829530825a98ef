-- What was read of a queue reads again where it is printed, and is short there, and its state is a queue; how a queue is written.

use Rattle.std.proofs.Common.{ℕ, true, List, [], ◌∷◌, ◌++◌, ◌≡◌, ◌*◌, ◌^◌, ◌<◌, ◌≤◌, not, length, length-append, decimal, codes, All, refl, arith, Option, Some, None, Ok, Err, IfOk}
use Rattle.std.specs.List.{flat_map}
use Rattle.std.specs.Str.{bytes_eq}
use Rattle.std.proofs.lemmas.List.Elements.{All-head, All-tail, All-nil, All-push}
use Rattle.std.proofs.lemmas.Bool.Decides.{nat_tests}
use Rattle.std.proofs.lemmas.Result.{IfOk-at_ok}
use Rattle.onll_words.specs.Texts.{joined, line_text, AreWords, AreMeaningful}
use Rattle.onll_words.proofs.Decimals.{number_of-decimal, number_of_fits, IsWord-decimal}
use Rattle.onll_model.specs.declared.call.Call.TheVariants.{Update, Ask}
use Rattle.onll_queue.specs.Items.{Items, IsQueue}
use Rattle.onll_queue.specs.declared.operation.QueueOp.{QueueOp}
use Rattle.onll_queue.specs.declared.operation.QueueOp.TheVariants.{Push, Pop}
use Rattle.onll_queue.specs.declared.operation.QueueQuery.{QueueQuery}
use Rattle.onll_queue.specs.declared.operation.QueueQuery.TheVariants.{Front, Length as AskLength}
use Rattle.onll_queue.specs.declared.operation.QueueReply.{QueueReply}
use Rattle.onll_queue.specs.Queue.{items_in, is_full}
use Rattle.onll_text.specs.declared.any_object.AnyObject.{AnyObject}
use Rattle.onll_text.specs.declared.any_object.AnyObject.TheVariants as objects
use Rattle.onll_text.specs.declared.reason.Reason.TheVariants.{UnknownWord}
use Rattle.onll_text.specs.Wording.{longest_words, longest_state, Wording}
use Rattle.onll_text.specs.WordsAgain.{IsNumber, length-decimal, if_ok_either}
use Rattle.onll_text.specs.Making.{StateKind}
use Rattle.onll_text.specs.QueueText.{QueueCall, queue_call_of, push_of, pop_of, front_of, length_of, queue_reply_of, queue_op_words, queue_query_words, queue_reply_words, item_line, item_lines, queue_state_lines, with_item_line}

-- ---- calls and replies
abbrev pub queue_call_words : QueueCall → List (List ℕ)
queue_call_words (Update op) = queue_op_words op
queue_call_words (Ask query) = queue_query_words query

pub queue_call_in_words : (call : QueueCall) → AreWords (queue_call_words call)
queue_call_in_words call = grind (arith, IsWord-decimal)

pub queue_reply_in_words : (reply : QueueReply) → AreWords (queue_reply_words reply)
queue_reply_in_words reply = grind (arith, IsWord-decimal)

-- the numbers of a call have 64 bits
abbrev QueueCallFits : QueueCall → Type 0
QueueCallFits (Update (Push x)) = IsNumber x
QueueCallFits (Update Pop) = Unit {0}
QueueCallFits (Ask Front) = Unit {0}
QueueCallFits (Ask AskLength) = Unit {0}

queue_calls_fit : (words : List (List ℕ)) → IfOk (queue_call_of words) QueueCallFits
queue_calls_fit [] = tt
queue_calls_fit (first ∷ args) =
    if_ok_either (bytes_eq first (codes "push")) (push_of args) _ QueueCallFits (grind (arith, number_of_fits))
    (if_ok_either (bytes_eq first (codes "pop")) (pop_of args) _ QueueCallFits (grind (arith, number_of_fits))
    (if_ok_either (bytes_eq first (codes "front")) (front_of args) _ QueueCallFits (grind (arith, number_of_fits))
    (if_ok_either (bytes_eq first (codes "length")) (length_of args) (Err UnknownWord) QueueCallFits (grind (arith, number_of_fits)) tt)))

queue_fits_again : (call : QueueCall) → QueueCallFits call → queue_call_of (queue_call_words call) ≡ Ok call
queue_fits_again call h = grind (arith, number_of-decimal)

-- what is printed of a call that was read reads as that call
pub queue_call_again : (words : List (List ℕ)) (call : QueueCall) → queue_call_of words ≡ Ok call
    → queue_call_of (queue_call_words call) ≡ Ok call
queue_call_again words call e = queue_fits_again call (IfOk-at_ok QueueCallFits e (queue_calls_fit words))

-- what is printed of a call that reads as it is short
pub queue_call_short : (call : QueueCall) → queue_call_of (queue_call_words call) ≡ Ok call
    → length (joined (queue_call_words call)) ≤ longest_words
queue_call_short call e = grind (arith, number_of_fits, length-decimal, length-append {A = ℕ})

-- so is what is printed of a reply
pub queue_reply_short : (reply : QueueReply) → queue_reply_of (queue_reply_words reply) ≡ Ok reply
    → length (joined (queue_reply_words reply)) ≤ longest_words
queue_reply_short reply e = grind (arith, number_of_fits, length-decimal, length-append {A = ℕ})

-- ---- states
-- a queue with an item more, where it isn't full
pushed_is_queue : (s : Items) (x : ℕ) → IsQueue s → IsNumber x → not (is_full s) ≡ true
    → IsQueue (items_in s.room (s.items ++ x ∷ []))
pushed_is_queue s x h word free =
    let fits : ¬ (length s.items ≡ s.room) = grind (arith, nat_tests) in
    record {
      numbers = All-push IsNumber s.items x h.numbers word;
      fits = omega (arith, length-append s.items (x ∷ []), h.fits, fits);
      least_room = h.least_room;
      greatest_room = h.greatest_room;
    }

pub item_line_keeps : (made : Items) (words : List (List ℕ)) → IsQueue made → IfOk (with_item_line made words) IsQueue
item_line_keeps made words h = grind (arith, number_of_fits, pushed_is_queue)

pub empty_is_queue : (n : ℕ) → 1 ≤ n → n ≤ 4096 → IsQueue (items_in n [])
empty_is_queue n least greatest =
    record { numbers = All-nil (λ (x : ℕ). x < 2 ^ 64); fits = omega arith; least_room = least; greatest_room = greatest }

-- the state of an object, where it is a queue
abbrev pub queue_in : AnyObject → Option Items
queue_in (objects.Queue s) = Some s
queue_in _ = None

pub is_queue : (any : AnyObject) (s : Items) → queue_in any ≡ Some s → any ≡ objects.Queue s
is_queue any s e = grind arith

-- the states of a queue
abbrev pub queue_states : StateKind
queue_states = record {
  State = Items;
  object = objects.Queue;
  state = queue_in;
  is_object = is_queue;
  Making = Items;
  begun = λ capacity. items_in capacity [];
  with_line = with_item_line;
  ended = λ made. made;
  Invariant = IsQueue;
  begun_keeps = empty_is_queue;
  line_keeps = item_line_keeps;
}

items_in_lines : (items : List ℕ) → AreMeaningful (item_lines items)
items_in_lines [] = tt
items_in_lines (x ∷ items) = search (IsWord-decimal, items_in_lines items)

pub queue_in_lines : (s : Items) → AreMeaningful (queue_state_lines s)
queue_in_lines s = search (IsWord-decimal, items_in_lines)

-- the lines of a queue are short
length-item_line : (x : ℕ) → x < 2 ^ 64 → length (line_text (item_line x)) ≤ 26
length-item_line x h = omega (arith, length-append (decimal x) (10 ∷ []), length-decimal x h)

length-item_lines : (items : List ℕ) → All (λ x. x < 2 ^ 64) items
    → length (flat_map line_text (item_lines items)) ≤ 26 * length items
length-item_lines [] h = omega arith
length-item_lines (x ∷ items) h =
    omega (
      arith,
      length-append (line_text (item_line x)) (flat_map line_text (item_lines items)),
      length-item_line x (All-head (λ (n : ℕ). n < 2 ^ 64) x items h),
      length-item_lines items (All-tail (λ (n : ℕ). n < 2 ^ 64) x items h),
    )

-- so is all that is printed of a queue
pub queue_is_short : (s : Items) → IsQueue s → length (flat_map line_text (queue_state_lines s)) ≤ longest_state
queue_is_short s h = grind (arith, length-append {A = ℕ}, length-decimal, length-item_lines)

-- how a queue is written, where this reads its states
abbrev pub queue_wording_by : (state_of : List ℕ → Option Items)
    → ((text : List ℕ) (s : Items) → state_of text ≡ Some s → IsQueue s) → Wording Items QueueOp QueueQuery QueueReply
queue_wording_by state_of valid = record {
  call_of = queue_call_of;
  reply_of = queue_reply_of;
  state_of = state_of;
  op_words = queue_op_words;
  query_words = queue_query_words;
  reply_words = queue_reply_words;
  state_lines = queue_state_lines;
  op_in_words = λ op. queue_call_in_words (Update op);
  query_in_words = λ query. queue_call_in_words (Ask query);
  reply_in_words = queue_reply_in_words;
  state_in_lines = queue_in_lines;
  ordered_is_no_reply = refl;
  fence_failed_is_no_reply = refl;
  broken_is_no_reply = refl;
  no_words_are_no_call = refl;
  no_words_are_no_reply = refl;
  op_reads_again = λ words op e. queue_call_again words (Update op) e;
  query_reads_again = λ words query e. queue_call_again words (Ask query) e;
  op_is_short = λ op e. queue_call_short (Update op) e;
  query_is_short = λ query e. queue_call_short (Ask query) e;
  reply_is_short = queue_reply_short;
  state_is_short = λ s e. queue_is_short s (valid (flat_map line_text (queue_state_lines s)) s e);
}
