-- What was read of a map reads again where it is printed, and is short there, and its state is a map; how a map is written.

use Rattle.std.proofs.Common.{ℕ, true, List, [], ◌∷◌, ◌≡◌, ◌*◌, ◌≤◌, ◌||◌, length, length-append, refl, ap, ◌∙◌, arith, Option, Some, None, Ok, IfOk}
use Rattle.std.specs.List.{flat_map}
use Rattle.std.specs.Option.{is_some}
use Rattle.std.proofs.Math.Bool.{or-true}
use Rattle.onll_words.specs.Short.{ShortText, short_of-bytes}
use Rattle.onll_words.specs.Texts.{joined, line_text, AreWords, AreMeaningful}
use Rattle.onll_words.proofs.Decimals.{number_of_fits, IsWord-decimal}
use Rattle.onll_words.proofs.ShortWord.{IsWord-short}
use Rattle.onll_words.proofs.Packing.{fits-of}
use Rattle.onll_model.specs.declared.call.Call.TheVariants.{Update, Ask}
use Rattle.onll_map.specs.declared.operation.MapOp.{MapOp}
use Rattle.onll_map.specs.declared.operation.MapOp.TheVariants.{Put}
use Rattle.onll_map.specs.declared.operation.MapQuery.{MapQuery}
use Rattle.onll_map.specs.declared.operation.MapReply.{MapReply}
use Rattle.onll_map.specs.Map.{Pairs, Entries, IsMap, value_at, has_room, pairs_put}
use Rattle.onll_map.proofs.Maps.{empty_is_map, IsMap-next}
use Rattle.onll_text.specs.declared.any_object.AnyObject.{AnyObject}
use Rattle.onll_text.specs.declared.any_object.AnyObject.TheVariants as objects
use Rattle.onll_text.specs.Wording.{longest_words, longest_state, Wording}
use Rattle.onll_text.specs.WordsAgain.{length-decimal}
use Rattle.onll_text.specs.Making.{StateKind}
use Rattle.onll_text.specs.MapText.{MapCall, map_call_of, map_reply_of, map_op_words, map_query_words, map_reply_words, pair_line, pair_lines, map_state_lines, with_pair, with_pair_line, no_pairs}

-- ---- calls and replies
abbrev pub map_call_words : MapCall → List (List ℕ)
map_call_words (Update op) = map_op_words op
map_call_words (Ask query) = map_query_words query

pub map_call_in_words : (call : MapCall) → AreWords (map_call_words call)
map_call_in_words call = grind (arith, IsWord-short)

pub map_reply_in_words : (reply : MapReply) → AreWords (map_reply_words reply)
map_reply_in_words reply = grind (arith, IsWord-decimal, IsWord-short)

-- what is printed of a call reads as that call
pub map_call_reads : (call : MapCall) → map_call_of (map_call_words call) ≡ Ok call
map_call_reads call = grind (arith, short_of-bytes)

-- what is printed of a call is short
pub map_call_short : (call : MapCall) → length (joined (map_call_words call)) ≤ longest_words
map_call_short call = grind (arith, fits-of, length-append {A = ℕ})

-- so is what is printed of a reply that reads as it
pub map_reply_short : (reply : MapReply) → map_reply_of (map_reply_words reply) ≡ Ok reply
    → length (joined (map_reply_words reply)) ≤ longest_words
map_reply_short reply e = grind (arith, number_of_fits, length-decimal, fits-of, length-append {A = ℕ})

-- ---- states
-- a map with a pair more, where there is room
put_is_map : (s : Entries) (k v : ShortText) → IsMap s → has_room s ≡ true
    → IsMap (record { pairs = pairs_put s.pairs k v; room = s.room })
put_is_map s k v h fits =
    let test : (is_some (value_at s.pairs k) || has_room s) ≡ true =
    ap (λ b. is_some (value_at s.pairs k) || b) fits ∙ or-true (is_some (value_at s.pairs k)) in
    rw test at (IsMap-next s (Put k v) h)

pair_keeps : (made : Entries) (pair : ShortText × ShortText) → IsMap made → IfOk (with_pair made pair) IsMap
pair_keeps made pair h = grind (arith, put_is_map)

pub pair_line_keeps : (made : Entries) (words : List (List ℕ)) → IsMap made → IfOk (with_pair_line made words) IsMap
pair_line_keeps made words h = grind (arith, pair_keeps)

-- the state of an object, where it is a map
abbrev pub map_in : AnyObject → Option Entries
map_in (objects.Map s) = Some s
map_in _ = None

pub is_map : (any : AnyObject) (s : Entries) → map_in any ≡ Some s → any ≡ objects.Map s
is_map any s e = grind arith

-- the states of a map
abbrev pub map_states : StateKind
map_states = record {
  State = Entries;
  object = objects.Map;
  state = map_in;
  is_object = is_map;
  Making = Entries;
  begun = no_pairs;
  with_line = with_pair_line;
  ended = λ made. made;
  Invariant = IsMap;
  begun_keeps = empty_is_map;
  line_keeps = pair_line_keeps;
}

pairs_in_lines : (pairs : Pairs) → AreMeaningful (pair_lines pairs)
pairs_in_lines [] = tt
pairs_in_lines (pair ∷ pairs) = search (IsWord-short, pairs_in_lines pairs)

pub map_in_lines : (s : Entries) → AreMeaningful (map_state_lines s)
map_in_lines s = search (IsWord-decimal, pairs_in_lines)

-- the lines of a map are short
length-pair_line : (pair : ShortText × ShortText) → length (line_text (pair_line pair)) ≤ 53
length-pair_line pair = grind (arith, length-append {A = ℕ}, fits-of)

length-pair_lines : (pairs : Pairs) → length (flat_map line_text (pair_lines pairs)) ≤ 53 * length pairs
length-pair_lines [] = omega arith
length-pair_lines (pair ∷ pairs) =
    omega (
      arith,
      length-append (line_text (pair_line pair)) (flat_map line_text (pair_lines pairs)),
      length-pair_line pair,
      length-pair_lines pairs,
    )

-- so is all that is printed of a map
pub map_is_short : (s : Entries) → IsMap s → length (flat_map line_text (map_state_lines s)) ≤ longest_state
map_is_short s h = grind (arith, length-append {A = ℕ}, length-decimal, length-pair_lines)

-- how a map is written, where this reads its states
abbrev pub map_wording_by : (state_of : List ℕ → Option Entries)
    → ((text : List ℕ) (s : Entries) → state_of text ≡ Some s → IsMap s) → Wording Entries MapOp MapQuery MapReply
map_wording_by state_of valid = record {
  call_of = map_call_of;
  reply_of = map_reply_of;
  state_of = state_of;
  op_words = map_op_words;
  query_words = map_query_words;
  reply_words = map_reply_words;
  state_lines = map_state_lines;
  op_in_words = λ op. map_call_in_words (Update op);
  query_in_words = λ query. map_call_in_words (Ask query);
  reply_in_words = map_reply_in_words;
  state_in_lines = map_in_lines;
  ordered_is_no_reply = refl;
  fence_failed_is_no_reply = refl;
  broken_is_no_reply = refl;
  no_words_are_no_call = refl;
  no_words_are_no_reply = refl;
  op_reads_again = λ words op e. map_call_reads (Update op);
  query_reads_again = λ words query e. map_call_reads (Ask query);
  op_is_short = λ op e. map_call_short (Update op);
  query_is_short = λ query e. map_call_short (Ask query);
  reply_is_short = map_reply_short;
  state_is_short = λ s e. map_is_short s (valid (flat_map line_text (map_state_lines s)) s e);
}
