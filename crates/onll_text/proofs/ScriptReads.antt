-- Each call of a script that was read reads again where it is printed.

use Rattle.std.proofs.Common.{ℕ, List, [], ◌∷◌, ◌≡◌, All, refl, Result, Ok, Err, IfOk}
use Rattle.std.proofs.lemmas.List.Elements.{All-nil, All-cons}
use Rattle.std.proofs.lemmas.Result.{IfOk-at_ok}
use Rattle.onll_words.specs.Texts.{Numbered, words_of, meaningful_lines}
use Rattle.onll_model.specs.declared.call.Call.{Call}
use Rattle.onll_model.specs.declared.call.Call.TheVariants.{Update, Ask}
use Rattle.onll_text.specs.declared.reason.Reason.{Reason}
use Rattle.onll_text.specs.declared.reason.Reason.TheVariants.{TooLong}
use Rattle.onll_text.specs.declared.script.Counts.{Counts}
use Rattle.onll_text.specs.Refusal.{refused, ◌>>=◌, at_line}
use Rattle.onll_text.specs.Wording.{Wording}
use Rattle.onll_text.specs.WordsAgain.{if_ok_next, if_ok_either, if_ok_any, if_ok_line}
use Rattle.onll_text.specs.Reports.{CallReads}
use Rattle.onll_text.specs.Script.{is_too_long, counted, call_after, calls_in, no_calls, script_of}

module _ {State Op Query Reply : Type 0} (w : Wording State Op Query Reply) where
  -- the call that words say
  call_reads : (words : List (List ℕ)) → IfOk (w.call_of words) (CallReads w)
  call_reads words = by (w.call_of words) refl
    where
      by : (v : Result (Call State Op Query Reply) Reason) → w.call_of words ≡ v → IfOk v (CallReads w)
      by (Ok (Update op)) e = w.op_reads_again words op e
      by (Ok (Ask query)) e = w.query_reads_again words query e
      by (Err reason) e = tt

  abbrev Counted : Call State Op Query Reply × Counts → Type 0
  Counted c = CallReads w c.0

  counted_reads : (n : Counts) (words : List (List ℕ)) → IfOk (call_after w n words) Counted
  counted_reads n words =
      if_ok_next (w.call_of words) (λ call. counted n call >>= λ m. Ok (call, m)) (CallReads w) Counted (call_reads words)
      (λ call h. if_ok_next (counted n call) (λ m. Ok (call, m)) (λ m. Unit {0}) Counted (if_ok_any (counted n call)) (λ m k. h))

  lines_read : (n : Counts) (lines : List Numbered) → IfOk (calls_in w n lines) (All (CallReads w))
  lines_read n [] = All-nil (CallReads w)
  lines_read n (l ∷ lines) =
      if_ok_next (at_line l.number (call_after w n (words_of l.line))) (λ c. calls_in w c.1 lines >>= λ calls. Ok (c.0 ∷ calls))
      Counted (All (CallReads w))
      (if_ok_line l.number (call_after w n (words_of l.line)) Counted (counted_reads n (words_of l.line)))
      (λ c h. if_ok_next (calls_in w c.1 lines) (λ calls. Ok (c.0 ∷ calls)) (All (CallReads w)) (All (CallReads w))
      (lines_read c.1 lines)
      (λ calls k. All-cons (CallReads w) c.0 calls h k))

  -- the calls of a script
  pub script_reads : (text : List ℕ) (calls : List (Call State Op Query Reply)) → script_of w text ≡ Ok calls
      → All (CallReads w) calls
  script_reads text calls e =
      IfOk-at_ok (All (CallReads w)) e
      (if_ok_either (is_too_long text) (Err (refused 0 TooLong)) (calls_in w no_calls (meaningful_lines text)) (All (CallReads w)) tt
      (lines_read no_calls (meaningful_lines text)))
