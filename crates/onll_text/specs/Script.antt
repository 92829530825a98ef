-- The grammar of scripts.

use Rattle.std.specs.Prelude.{ℕ, Bool, List, [], ◌∷◌, ◌+◌, Result, Ok, Err, if◌then◌else◌, length, nat_lt}
use Rattle.onll_model.specs.Limits.{most_updates}
use Rattle.onll_words.specs.Texts.{Numbered, words_of, meaningful_lines}
use Rattle.onll_model.specs.declared.call.Call.{Call}
use Rattle.onll_model.specs.declared.call.Call.TheVariants.{Update, Ask}
use Rattle.onll_text.specs.declared.script.Counts.{Counts}
use Rattle.onll_text.specs.declared.reason.Reason.{Reason}
use Rattle.onll_text.specs.declared.reason.Reason.TheVariants.{TooLong, TooMany}
use Rattle.onll_text.specs.Refusal.{Refusal, refused, ◌>>=◌, only_if, at_line}
use Rattle.onll_text.specs.Wording.{Wording}

-- the greatest length of a text, in bytes
abbrev pub longest_text : ℕ
longest_text = 1048576

abbrev pub is_too_long : List ℕ → Bool
is_too_long text = nat_lt longest_text (length text)

-- a script has at most so many updates, and at most so many reads
abbrev pub most_calls : ℕ
most_calls = most_updates

-- how many calls there are with one more
abbrev pub counted : {State Op Query Reply : Type 0} → Counts → Call State Op Query Reply → Result Counts Reason
counted n (Update op) = only_if (nat_lt n.updates most_calls) TooMany (record { updates = n.updates + 1; reads = n.reads })
counted n (Ask query) = only_if (nat_lt n.reads most_calls) TooMany (record { updates = n.updates; reads = n.reads + 1 })

abbrev pub no_calls : Counts
no_calls = record { updates = 0; reads = 0 }

module _ {State Op Query Reply : Type 0} (w : Wording State Op Query Reply) where
  -- the call of a line's words, after so many calls, and how many there are with it
  abbrev pub call_after : Counts → List (List ℕ) → Result (Call State Op Query Reply × Counts) Reason
  call_after n words = w.call_of words >>= λ call. counted n call >>= λ m. Ok (call, m)

  -- the calls of meaningful lines, after so many calls
  abbrev pub calls_in : Counts → List Numbered → Result (List (Call State Op Query Reply)) Refusal
  calls_in n [] = Ok []
  calls_in n (l ∷ lines) = at_line l.number (call_after n (words_of l.line)) >>= λ c. calls_in c.1 lines >>= λ calls. Ok (c.0 ∷ calls)

  -- the calls of a script, or why its text is none
  abbrev pub script_of : List ℕ → Result (List (Call State Op Query Reply)) Refusal
  script_of text = if is_too_long text then Err (refused 0 TooLong) else calls_in no_calls (meaningful_lines text)
