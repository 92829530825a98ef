-- What was read of a lease table reads again where it is printed, and is short there, and its state is a table; how a table is written.

use Rattle.std.proofs.Common.{ℕ, Bool, true, false, List, [], ◌∷◌, ◌++◌, ◌≡◌, ◌+◌, ◌*◌, ◌<◌, ◌≤◌, ◌==◌, ◌&&◌, nat_lt, cond, length, length-append, length-set, codes, replicate, slice_set, All, refl, arith, Option, Some, None, Ok, Err, IfOk}
use Rattle.std.specs.List.{flat_map}
use Rattle.std.specs.Str.{bytes_eq}
use Rattle.std.proofs.lemmas.List.{length-replicate}
use Rattle.std.proofs.lemmas.List.Elements.{All-head, All-tail, All-set, All-replicate}
use Rattle.std.proofs.lemmas.Bool.Decides.{nat_tests}
use Rattle.std.proofs.lemmas.Result.{IfOk-at_ok}
use Rattle.onll_words.specs.Texts.{joined, line_text, AreWords, AreMeaningful}
use Rattle.onll_words.proofs.Decimals.{number_of-decimal, number_of_fits, IsWord-decimal}
use Rattle.onll_model.specs.declared.call.Call.TheVariants.{Update, Ask}
use Rattle.onll_lease.specs.declared.entry.LeaseEntry.{LeaseEntry}
use Rattle.onll_lease.specs.declared.operation.LeaseOp.{LeaseOp}
use Rattle.onll_lease.specs.declared.operation.LeaseOp.TheVariants.{Grant, Renew, Release}
use Rattle.onll_lease.specs.declared.operation.LeaseQuery.{LeaseQuery}
use Rattle.onll_lease.specs.declared.operation.LeaseQuery.TheVariants.{Holder}
use Rattle.onll_lease.specs.declared.operation.LeaseReply.{LeaseReply}
use Rattle.onll_lease.specs.Entry.{IsEntry, OfNumbers, no_lease}
use Rattle.onll_lease.specs.Lease.{IsLease}
use Rattle.onll_text.specs.declared.any_object.AnyObject.{AnyObject}
use Rattle.onll_text.specs.declared.any_object.AnyObject.TheVariants as objects
use Rattle.onll_text.specs.declared.reason.Reason.TheVariants.{UnknownWord}
use Rattle.onll_text.specs.Wording.{longest_words, longest_state, Wording}
use Rattle.onll_text.specs.WordsAgain.{IsNumber, length-decimal, if_ok_either}
use Rattle.onll_text.specs.Making.{StateKind}
use Rattle.onll_text.specs.LeaseText.{LeaseCall, lease_call_of, grant_of, renew_of, release_of, holder_of, lease_reply_of, lease_op_words, lease_query_words, lease_reply_words, held_line, held_lines, lease_state_lines, with_held, with_held_line}

-- ---- calls and replies
abbrev pub lease_call_words : LeaseCall → List (List ℕ)
lease_call_words (Update op) = lease_op_words op
lease_call_words (Ask query) = lease_query_words query

pub lease_call_in_words : (call : LeaseCall) → AreWords (lease_call_words call)
lease_call_in_words call = grind (arith, IsWord-decimal)

pub lease_reply_in_words : (reply : LeaseReply) → AreWords (lease_reply_words reply)
lease_reply_in_words reply = grind (arith, IsWord-decimal)

-- the numbers of a call have 64 bits
abbrev LeaseCallFits : LeaseCall → Type 0
LeaseCallFits (Update (Grant r h now ttl)) = IsNumber r × IsNumber h × IsNumber now × IsNumber ttl
LeaseCallFits (Update (Renew r t now ttl)) = IsNumber r × IsNumber t × IsNumber now × IsNumber ttl
LeaseCallFits (Update (Release r t)) = IsNumber r × IsNumber t
LeaseCallFits (Ask (Holder r now)) = IsNumber r × IsNumber now

lease_calls_fit : (words : List (List ℕ)) → IfOk (lease_call_of words) LeaseCallFits
lease_calls_fit [] = tt
lease_calls_fit (first ∷ args) =
    if_ok_either (bytes_eq first (codes "grant")) (grant_of args) _ LeaseCallFits (grind (arith, number_of_fits))
    (if_ok_either (bytes_eq first (codes "renew")) (renew_of args) _ LeaseCallFits (grind (arith, number_of_fits))
    (if_ok_either (bytes_eq first (codes "release")) (release_of args) _ LeaseCallFits (grind (arith, number_of_fits))
    (if_ok_either (bytes_eq first (codes "holder")) (holder_of args) (Err UnknownWord) LeaseCallFits (grind (arith, number_of_fits)) tt)))

lease_fits_again : (call : LeaseCall) → LeaseCallFits call → lease_call_of (lease_call_words call) ≡ Ok call
lease_fits_again call h = grind (arith, number_of-decimal)

-- what is printed of a call that was read reads as that call
pub lease_call_again : (words : List (List ℕ)) (call : LeaseCall) → lease_call_of words ≡ Ok call
    → lease_call_of (lease_call_words call) ≡ Ok call
lease_call_again words call e = lease_fits_again call (IfOk-at_ok LeaseCallFits e (lease_calls_fit words))

lease_fits_short : (call : LeaseCall) → LeaseCallFits call → length (joined (lease_call_words call)) ≤ longest_words
lease_fits_short call h = grind (arith, length-decimal, length-append {A = ℕ})

-- what is printed of a call that reads as it is short
pub lease_call_short : (call : LeaseCall) → lease_call_of (lease_call_words call) ≡ Ok call
    → length (joined (lease_call_words call)) ≤ longest_words
lease_call_short call e = lease_fits_short call (IfOk-at_ok LeaseCallFits e (lease_calls_fit (lease_call_words call)))

-- so is what is printed of a reply
pub lease_reply_short : (reply : LeaseReply) → lease_reply_of (lease_reply_words reply) ≡ Ok reply
    → length (joined (lease_reply_words reply)) ≤ longest_words
lease_reply_short reply e = grind (arith, number_of_fits, length-decimal, length-append {A = ℕ})

-- ---- states
-- a table with one resource's entry, whose token was given
held_is_lease : (s : List LeaseEntry) (r : ℕ) (e : LeaseEntry) → IsLease s → OfNumbers e
    → (nat_lt r (length s) && nat_lt 0 e.token) ≡ true
    → IsLease (slice_set s r e)
held_is_lease s r e h numbers test =
    let given : 0 < e.token = grind (arith, nat_tests) in
    let same : length (slice_set s r e) ≡ length s = length-set s r e in
    record {
      valid = All-set IsEntry s r e (λ none. absurd (omega arith)) h.valid;
      numbers = All-set OfNumbers s r e numbers h.numbers;
      least = omega (arith, same, h.least);
      greatest = omega (arith, same, h.greatest);
    }

held_keeps : (made : List LeaseEntry) (r : ℕ) (e : LeaseEntry) → IsLease made → OfNumbers e → IfOk (with_held made r e) IsLease
held_keeps made r e h numbers = grind (arith, held_is_lease)

pub held_line_keeps : (made : List LeaseEntry) (words : List (List ℕ)) → IsLease made → IfOk (with_held_line made words) IsLease
held_line_keeps made words h = grind (arith, held_keeps, number_of_fits)

-- resources that were never granted
pub none_is_lease : (n : ℕ) → 1 ≤ n → n ≤ 4096 → IsLease (replicate n no_lease)
none_is_lease n least greatest = record {
  valid = All-replicate IsEntry n no_lease (λ none. (refl, refl));
  numbers = All-replicate OfNumbers n no_lease (record { token = omega arith; holder = omega arith; until = omega arith });
  least = omega (arith, length-replicate {A = LeaseEntry} n no_lease);
  greatest = omega (arith, length-replicate {A = LeaseEntry} n no_lease);
}

-- the state of an object, where it is a lease table
abbrev pub lease_in : AnyObject → Option (List LeaseEntry)
lease_in (objects.Lease s) = Some s
lease_in _ = None

pub is_lease : (any : AnyObject) (s : List LeaseEntry) → lease_in any ≡ Some s → any ≡ objects.Lease s
is_lease any s e = grind arith

-- the states of a lease table
abbrev pub lease_states : StateKind
lease_states = record {
  State = List LeaseEntry;
  object = objects.Lease;
  state = lease_in;
  is_object = is_lease;
  Making = List LeaseEntry;
  begun = λ capacity. replicate capacity no_lease;
  with_line = with_held_line;
  ended = λ made. made;
  Invariant = IsLease;
  begun_keeps = none_is_lease;
  line_keeps = held_line_keeps;
}

-- one resource's line, or none, before further lines
one_in_lines : (b : Bool) (r : ℕ) (e : LeaseEntry) (lines : List (List (List ℕ))) → AreMeaningful lines
    → AreMeaningful (cond b [] (held_line r e ∷ []) ++ lines)
one_in_lines true r e lines h = h
one_in_lines false r e lines h = search (IsWord-decimal, h)

held_in_lines : (r : ℕ) (entries : List LeaseEntry) → AreMeaningful (held_lines r entries)
held_in_lines r [] = tt
held_in_lines r (e ∷ entries) = one_in_lines (e.token == 0) r e (held_lines (r + 1) entries) (held_in_lines (r + 1) entries)

pub lease_in_lines : (s : List LeaseEntry) → AreMeaningful (lease_state_lines s)
lease_in_lines s = search (IsWord-decimal, held_in_lines)

-- the lines of a table are short
length-held_line : (r : ℕ) (e : LeaseEntry) → IsNumber r → OfNumbers e → length (line_text (held_line r e)) ≤ 89
length-held_line r e h n = grind (arith, length-append {A = ℕ}, length-decimal)

-- the lines of one resource, or none, before those of the rest
length-one : (b : Bool) (r : ℕ) (e : LeaseEntry) (rest : List (List (List ℕ))) → length (line_text (held_line r e)) ≤ 89
    → length (flat_map line_text (cond b [] (held_line r e ∷ []) ++ rest)) ≤ 89 + length (flat_map line_text rest)
length-one true r e rest h = omega arith
length-one false r e rest h = omega (arith, length-append (line_text (held_line r e)) (flat_map line_text rest))

length-held_lines : (r : ℕ) (es : List LeaseEntry) → r + length es ≤ 4096 → All OfNumbers es
    → length (flat_map line_text (held_lines r es)) ≤ 89 * length es
length-held_lines r [] h n = omega arith
length-held_lines r (e ∷ es) h n =
    let rest : length (flat_map line_text (held_lines (r + 1) es)) ≤ 89 * length es =
    length-held_lines (r + 1) es (omega arith) (All-tail OfNumbers e es n) in
    let one : length (line_text (held_line r e)) ≤ 89 = length-held_line r e (omega arith) (All-head OfNumbers e es n) in
    omega (arith, length-one (e.token == 0) r e (held_lines (r + 1) es) one)

-- so is all that is printed of a lease table
pub lease_is_short : (s : List LeaseEntry) → IsLease s → length (flat_map line_text (lease_state_lines s)) ≤ longest_state
lease_is_short s h = grind (arith, length-append {A = ℕ}, length-decimal, length-held_lines)

-- how a lease table is written, where this reads its states
abbrev pub lease_wording_by : (state_of : List ℕ → Option (List LeaseEntry))
    → ((text : List ℕ) (s : List LeaseEntry) → state_of text ≡ Some s → IsLease s) → Wording (List LeaseEntry) LeaseOp LeaseQuery LeaseReply
lease_wording_by state_of valid = record {
  call_of = lease_call_of;
  reply_of = lease_reply_of;
  state_of = state_of;
  op_words = lease_op_words;
  query_words = lease_query_words;
  reply_words = lease_reply_words;
  state_lines = lease_state_lines;
  op_in_words = λ op. lease_call_in_words (Update op);
  query_in_words = λ query. lease_call_in_words (Ask query);
  reply_in_words = lease_reply_in_words;
  state_in_lines = lease_in_lines;
  ordered_is_no_reply = refl;
  fence_failed_is_no_reply = refl;
  broken_is_no_reply = refl;
  no_words_are_no_call = refl;
  no_words_are_no_reply = refl;
  op_reads_again = λ words op e. lease_call_again words (Update op) e;
  query_reads_again = λ words query e. lease_call_again words (Ask query) e;
  op_is_short = λ op e. lease_call_short (Update op) e;
  query_is_short = λ query e. lease_call_short (Ask query) e;
  reply_is_short = lease_reply_short;
  state_is_short = λ s e. lease_is_short s (valid (flat_map line_text (lease_state_lines s)) s e);
}
