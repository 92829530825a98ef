-- How an object is written.

use Rattle.std.specs.Prelude.{ℕ, false, ◌≡◌, ◌≤◌, List, [], ◌∷◌, Option, Some, Result, Ok, codes, is_ok, length}
use Rattle.std.specs.List.{flat_map}
use Rattle.onll_words.specs.Texts.{AreWords, AreMeaningful, joined, line_text}
use Rattle.onll_model.specs.declared.call.Call.{Call}
use Rattle.onll_model.specs.declared.call.Call.TheVariants.{Update, Ask}
use Rattle.onll_text.specs.declared.reason.Reason.{Reason}

-- the greatest length of what is printed of a call or of a reply, in bytes
abbrev pub longest_words : ℕ
longest_words = 128

-- the greatest length of what is printed of a state, in bytes: a text of an initial state that has one line more is within its limit
abbrev pub longest_state : ℕ
longest_state = 1000000

-- How an object is written: the call that the words of a line say, or the first reason why they say none; the same for
-- a reply; the state that a text says; the words of operations, queries and replies; the lines of a state. All that is
-- written are words, and what a report says of a call with no reply reads as none. What is printed of a call that was read reads
-- as that call, and what is printed and reads back is short.
pub record Wording (State Op Query Reply : Type 0) : Type 0 where
  pub call_of : List (List ℕ) → Result (Call State Op Query Reply) Reason
  pub reply_of : List (List ℕ) → Result Reply Reason
  pub state_of : List ℕ → Option State
  pub op_words : Op → List (List ℕ)
  pub query_words : Query → List (List ℕ)
  pub reply_words : Reply → List (List ℕ)
  pub state_lines : State → List (List (List ℕ))
  pub op_in_words : (op : Op) → AreWords (op_words op)
  pub query_in_words : (query : Query) → AreWords (query_words query)
  pub reply_in_words : (reply : Reply) → AreWords (reply_words reply)
  pub state_in_lines : (state : State) → AreMeaningful (state_lines state)
  pub ordered_is_no_reply : is_ok (reply_of (codes "ordered" ∷ [])) ≡ false
  pub fence_failed_is_no_reply : is_ok (reply_of (codes "fence" ∷ codes "failed" ∷ [])) ≡ false
  pub broken_is_no_reply : is_ok (reply_of (codes "broken" ∷ [])) ≡ false
  pub no_words_are_no_call : is_ok (call_of []) ≡ false
  pub no_words_are_no_reply : is_ok (reply_of []) ≡ false
  pub op_reads_again : (words : List (List ℕ)) (op : Op) → call_of words ≡ Ok (Update op) → call_of (op_words op) ≡ Ok (Update op)
  pub query_reads_again : (words : List (List ℕ)) (query : Query) → call_of words ≡ Ok (Ask query)
      → call_of (query_words query) ≡ Ok (Ask query)
  pub op_is_short : (op : Op) → call_of (op_words op) ≡ Ok (Update op) → length (joined (op_words op)) ≤ longest_words
  pub query_is_short : (query : Query) → call_of (query_words query) ≡ Ok (Ask query)
      → length (joined (query_words query)) ≤ longest_words
  pub reply_is_short : (reply : Reply) → reply_of (reply_words reply) ≡ Ok reply
      → length (joined (reply_words reply)) ≤ longest_words
  pub state_is_short : (state : State) → state_of (flat_map line_text (state_lines state)) ≡ Some state
      → length (flat_map line_text (state_lines state)) ≤ longest_state
