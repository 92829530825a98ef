use Rattle.std.proofs.Common.{ℕ, zero, suc, Bool, true, false, List, [], ◌∷◌, ◌++◌, ◌≡◌, ◌<◌, ◌≤◌, ◌||◌, codes, decimal, length, take, drop, min, nat_eq, Result, Ok, Err, subst, refl, ap, sym, ◌∙◌, arith, inl, inr}
use Rattle.std.specs.List.{starts_with}
use Rattle.std.proofs.lemmas.Slice.Eq.{bytes_eq-Decides}
use Rattle.std.proofs.lemmas.List.{append_cancel_right, length-take-le}
use Rattle.std.proofs.lemmas.Bool.{cases_lt}
use Rattle.onll_words.specs.Texts.{joined, words_of, AreWords}
use Rattle.onll_text.specs.Bytes.{with_word, with_words}
use Rattle.onll_text.specs.declared.reason.Reason.{Reason}
use Rattle.onll_text.specs.Wording.{Wording, longest_words}
use Rattle.onll_text.proofs.Appending.{with_words-line, with_words-append}
use Rattle.onll_text.proofs.LineWords.{AreWords-append}
use Rattle.onll_words.proofs.Decimals.{IsWord-decimal}
use Rattle.onll_model.specs.declared.call.Call.{Call}
use Rattle.onll_model.specs.declared.call.Call.TheVariants.{Update, Ask}
use Rattle.onll_text.specs.Lines.{call_words, at_words}
use Rattle.onll_audit.specs.Verdict.{call_front}
use Rattle.onll_audit.specs.Form.{is_printed, is_call, has_arrow, is_arrow}
use Rattle.onll_audit.proofs.Following.{both}

-- words alone are joined by spaces
pub with_words-joined : (ws : List (List ℕ)) → AreWords ws → with_words [] ws ≡ joined ws
with_words-joined [] h = refl
with_words-joined (v ∷ ws) h = append_cancel_right (with_words [] (v ∷ ws)) (joined (v ∷ ws)) (10 ∷ []) (with_words-line [] v ws refl h)

module _ {State Op Query Reply : Type 0} (w : Wording State Op Query Reply) where
  pub op_text : (op : Op) → with_words [] (w.op_words op) ≡ joined (w.op_words op)
  op_text op = with_words-joined (w.op_words op) (w.op_in_words op)

  pub query_text : (query : Query) → with_words [] (w.query_words query) ≡ joined (w.query_words query)
  query_text query = with_words-joined (w.query_words query) (w.query_in_words query)

  -- an arrow that was found
  or_true : (a : Bool) → (a || true) ≡ true
  or_true true = refl
  or_true false = refl

  or_left : (a b : Bool) → a ≡ true → (a || b) ≡ true
  or_left true b e = refl
  or_left false b e = cc

  pub has_arrow_at : (text : List ℕ) (i n : ℕ) → i < n → is_arrow w text i ≡ true → has_arrow w text n ≡ true
  has_arrow_at text i zero lt e = absurd (omega arith)
  has_arrow_at text i (suc n) lt e = elim (cases_lt i n) [
    | inl less ↦ or_left (has_arrow w text n) (is_arrow w text n) (has_arrow_at text i n less e)
    | inr within ↦ let same : i ≡ n = omega arith in ap (λ (b : Bool). has_arrow w text n || b) (ap (is_arrow w text) (sym same) ∙ e) ∙ or_true (has_arrow w text n)
  ]

  -- a call that was read is printed in few bytes
  short_printed : (text : List ℕ) (words : List (List ℕ)) (r : Result (Call State Op Query Reply) Reason) → w.call_of words ≡ r → is_printed w text r ≡ true
      → length text ≤ longest_words
  short_printed text words (Err reason) read e = cc e
  short_printed text words (Ok (Update op)) read e =
      let same = (bytes_eq-Decides (joined (w.op_words op)) text).0 e in
      subst (λ (t : List ℕ). length t ≤ longest_words) same (w.op_is_short op (w.op_reads_again words op read))
  short_printed text words (Ok (Ask query)) read e =
      let same = (bytes_eq-Decides (joined (w.query_words query)) text).0 e in
      subst (λ (t : List ℕ). length t ≤ longest_words) same (w.query_is_short query (w.query_reads_again words query read))

  -- no arrow stands at a later place
  no_late_arrow : (text : List ℕ) (i : ℕ) → longest_words < i → i < length text → is_arrow w text i ≡ false
  no_late_arrow text i late lt = by_test (is_arrow w text i) refl
    where
      by_test : (test : Bool) → is_arrow w text i ≡ test → test ≡ false
      by_test false e = refl
      by_test true e =
          let front = take i text in
          let printed = (both (is_call w front) _ (both (starts_with nat_eq (drop i text) (codes " -> ")) _ e).1).0 in
          let short = short_printed front (words_of front) (w.call_of (words_of front)) refl printed in
          absurd (omega (arith, short, length-take-le i text (omega arith)))

  none_after : (text : List ℕ) (i n : ℕ) → has_arrow w text i ≡ false → min (length text) 129 ≤ i → i ≤ n → n ≤ length text → has_arrow w text n ≡ false
  none_after text i zero none past le within = let same : i ≡ 0 = omega arith in ap (has_arrow w text) (sym same) ∙ none
  none_after text i (suc n) none past le within = elim (cases_lt i (suc n)) [
    | inl less ↦
        ap (λ (b : Bool). b || is_arrow w text n) (none_after text i n none past (omega arith) (omega arith))
        ∙ no_late_arrow text n (omega arith) (omega arith)
    | inr more ↦ let same : i ≡ suc n = omega arith in ap (has_arrow w text) (sym same) ∙ none
  ]

  -- where none stands up to there, none does
  pub no_more_arrows : (text : List ℕ) (i : ℕ) → has_arrow w text i ≡ false → min (length text) 129 ≤ i → i ≤ length text → has_arrow w text (length text) ≡ false
  no_more_arrows text i none past le = none_after text i (length text) none past le (omega arith)

  -- words around those of a call
  around : (a b c : List ℕ) (ws : List (List ℕ)) (d : List ℕ) → AreWords (a ∷ b ∷ c ∷ (ws ++ d ∷ []))
      → with_word (with_words (with_words [] (a ∷ b ∷ c ∷ [])) ws) d ≡ joined (a ∷ b ∷ c ∷ (ws ++ d ∷ []))
  around a b c ws d h =
      sym (with_words-append (with_words [] (a ∷ b ∷ c ∷ [])) ws (d ∷ [])) ∙ with_words-joined (a ∷ b ∷ c ∷ (ws ++ d ∷ [])) h

  pub call_text : (c : Call State Op Query Reply) → with_words [] (call_words w c) ≡ joined (call_words w c)
  call_text (Update op) = op_text op
  call_text (Ask query) = query_text query

  front_in_words : (t number : ℕ) (ws : List (List ℕ)) → AreWords ws → AreWords (codes "call" ∷ decimal t ∷ decimal number ∷ (ws ++ codes "->" ∷ []))
  front_in_words t number ws h =
      (record { some = refl; bytes = refl }, (IsWord-decimal t, (IsWord-decimal number, AreWords-append ws (codes "->" ∷ []) h (record { some = refl; bytes = refl }, tt))))

  pub call_in_words : (c : Call State Op Query Reply) → AreWords (call_words w c)
  call_in_words (Update op) = w.op_in_words op
  call_in_words (Ask query) = w.query_in_words query

  pub front_call : (t number : ℕ) (c : Call State Op Query Reply)
      → with_word (with_words (with_words [] (codes "call" ∷ decimal t ∷ decimal number ∷ [])) (call_words w c)) (codes "->") ≡ call_front w t number c
  front_call t number c = around (codes "call") (decimal t) (decimal number) (call_words w c) (codes "->") (front_in_words t number (call_words w c) (call_in_words c))

  -- a reply and its place
  pub reply_text : (reply : Reply) (place : ℕ) → with_words (with_words [] (w.reply_words reply)) (at_words place) ≡ joined (w.reply_words reply ++ at_words place)
  reply_text reply place =
      sym (with_words-append [] (w.reply_words reply) (at_words place))
      ∙ with_words-joined (w.reply_words reply ++ at_words place)
      (AreWords-append (w.reply_words reply) (at_words place) (w.reply_in_words reply) (record { some = refl; bytes = refl }, (IsWord-decimal place, tt)))

pub ruleset replies = (reply_text)

pub ruleset printing = (op_text, query_text)

pub ruleset calls = (call_text)

pub ruleset fronts = (front_call)

pub ruleset arrows = (has_arrow_at, no_more_arrows)
