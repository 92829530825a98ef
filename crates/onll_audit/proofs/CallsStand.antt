-- A line that reads as one of a call or of a node has just the words of that line.
use Rattle.std.proofs.Common.{ℕ, zero, suc, Bool, true, false, List, [], ◌∷◌, ◌++◌, ◌≡◌, ◌+◌, ◌<◌, ◌^◌, ◌&&◌, ◌||◌, not, length, take, drop, codes, decimal, cond, nat_eq, is_some, Option, Some, None, Result, Ok, Err, refl, ap, sym, ◌∙◌, arith, append_assoc, length-append, subst}
use Rattle.std.specs.List.{list_all, starts_with}
use Rattle.std.specs.Option.{option_or}
use Rattle.std.specs.Str.{bytes_eq}
use Rattle.std.proofs.lemmas.List.{take-append-drop, drop-drop}
use Rattle.std.proofs.lemmas.Bool.Decides.{nat_tests}
use Rattle.std.proofs.lemmas.Option.{same_Some}
use Rattle.std.proofs.lemmas.Slice.Eq.{bytes_eq-Decides}
use Rattle.onll_words.specs.Texts.{is_empty, is_word_byte, joined, words_of, AreWords}
use Rattle.onll_model.specs.declared.node.Node.{Node}
use Rattle.onll_model.specs.declared.call.Call.{Call}
use Rattle.onll_model.specs.declared.call.Call.TheVariants.{Update, Ask}
use Rattle.onll_model.specs.Object.{Behaviour}
use Rattle.onll_text.specs.declared.reason.Reason.{Reason}
use Rattle.onll_text.specs.Wording.{Wording}
use Rattle.onll_text.specs.Lines.{at_words, call_words, flag_words, row_words, node_line}
use Rattle.onll_text.specs.Reports.{CallReads, NodeReads}
use Rattle.onll_audit.specs.declared.said.Said.{Said}
use Rattle.onll_audit.specs.declared.said.Said.TheVariants as said
use Rattle.onll_audit.specs.Fields.{some_if, is_space, next_field, after_word, number_word, number_field, after_text, cut_last, last_field, are_words}
use Rattle.onll_audit.specs.Form.{said_of, failed_said, broken_said, answered_said, after_number, is_printed, is_call, is_arrow, has_arrow, some_arrow, is_call_line, op_printed, op_said, past_flag, node_front, node_said}
use Rattle.onll_audit.specs.ReportLines.{SpokenCall, SpokenReads, spoken_line}
use Rattle.onll_audit.proofs.Following.{both, eq_fact}
use Rattle.onll_audit.proofs.Reading.{after_text_is, number_word_is, number_word_fits, failed_shape, broken_shape, joined-append}
use Rattle.onll_audit.proofs.EndTexts.{some_words}
use Rattle.onll_audit.proofs.FieldsStand.{was_read, test_held, field_stands, word_stands, number_stands}

-- ---- words
-- what stands around the last space
last_step : (b : ℕ) (bs : List ℕ) (o : Option (List ℕ × List ℕ)) (front last : List ℕ) → ((x y : List ℕ) → o ≡ Some (x, y) → bs ≡ x ++ 32 ∷ y)
    → cut_last b bs o ≡ Some (front, last) → b ∷ bs ≡ front ++ 32 ∷ last
last_step b bs (Some f) front last h e =
    ap (λ (r : List ℕ). b ∷ r) (h f.0 f.1 refl) ∙ ap (λ (g : List ℕ × List ℕ). g.0 ++ 32 ∷ g.1) (same_Some (b ∷ f.0, f.1) (front, last) e)
last_step b bs None front last h e =
    let k = test_held (is_space b) ([], bs) (front, last) e in
    ap (λ (c : ℕ). c ∷ bs) (eq_fact b 32 k.0) ∙ ap (λ (g : List ℕ × List ℕ). g.0 ++ 32 ∷ g.1) k.1

last_stands : (text front last : List ℕ) → last_field text ≡ Some (front, last) → text ≡ front ++ 32 ∷ last
last_stands [] front last e = cc e
last_stands (b ∷ bs) front last e = last_step b bs (last_field bs) front last (λ x y h. last_stands bs x y h) e

-- a text of words: the first of them, which may have begun before, and the others
record HasWords (begins : Bool) (text : List ℕ) : Type 0 where
  first : List ℕ
  others : List (List ℕ)
  bytes : list_all is_word_byte first ≡ true
  some : begins ≡ true → is_empty first ≡ false
  words : AreWords others
  text_is : text ≡ joined (first ∷ others)

joined_byte : (b : ℕ) (v : List ℕ) (ws : List (List ℕ)) → b ∷ joined (v ∷ ws) ≡ joined ((b ∷ v) ∷ ws)
joined_byte b v [] = refl
joined_byte b v (u ∷ ws) = refl

one_more_byte : (b : ℕ) (v : List ℕ) → is_empty (b ∷ v) ≡ false
one_more_byte b v = grind (arith, nat_tests)

space_step : (begins : Bool) (b : ℕ) (bs : List ℕ) → is_space b ≡ true → (are_words true bs ≡ true → HasWords true bs) → (not begins && are_words true bs) ≡ true
    → HasWords begins (b ∷ bs)
space_step true b bs h more e = cc e
space_step false b bs h more e =
    let r = more e in
    record {
      first = [];
      others = r.first ∷ r.others;
      bytes = refl;
      some = λ f. cc f;
      words = (record { some = r.some refl; bytes = r.bytes }, r.words);
      text_is = ap (λ (c : ℕ). c ∷ bs) (eq_fact b 32 h) ∙ ap (λ (t : List ℕ). 32 ∷ t) r.text_is;
    }

byte_step : (begins : Bool) (b : ℕ) (bs : List ℕ) → (are_words false bs ≡ true → HasWords false bs) → (is_word_byte b && are_words false bs) ≡ true
    → HasWords begins (b ∷ bs)
byte_step begins b bs more e =
    let parts = both (is_word_byte b) (are_words false bs) e in
    let r = more parts.1 in
    record {
      first = b ∷ r.first;
      others = r.others;
      bytes = ap (λ (t : Bool). t && list_all is_word_byte r.first) parts.0 ∙ r.bytes;
      some = λ f. one_more_byte b r.first;
      words = r.words;
      text_is = ap (λ (t : List ℕ). b ∷ t) r.text_is ∙ joined_byte b r.first r.others;
    }

word_step : (begins : Bool) (b : ℕ) (bs : List ℕ) (test : Bool) → is_space b ≡ test → (are_words true bs ≡ true → HasWords true bs) → (are_words false bs ≡ true → HasWords false bs)
    → cond test (not begins && are_words true bs) (is_word_byte b && are_words false bs) ≡ true → HasWords begins (b ∷ bs)
word_step begins b bs true h new old e = space_step begins b bs h new e
word_step begins b bs false h new old e = byte_step begins b bs old e

words_stand : (begins : Bool) (text : List ℕ) → are_words begins text ≡ true → HasWords begins text
words_stand true [] e = cc e
words_stand false [] e = record { first = []; others = []; bytes = refl; some = λ f. cc f; words = tt; text_is = refl }
words_stand begins (b ∷ bs) e = word_step begins b bs (is_space b) refl (λ h. words_stand true bs h) (λ h. words_stand false bs h) e

-- ---- calls
-- what became of a call: one word or more, and a place
record HasOutcome (text : List ℕ) : Type 0 where
  words : List (List ℕ)
  place : ℕ
  are_words : AreWords words
  some : 0 < length words
  fits : place < 2 ^ 64
  text_is : text ≡ joined (words ++ at_words place)

answer_text : (text front last before at v : List ℕ) (ws : List (List ℕ)) (place : ℕ) → text ≡ front ++ 32 ∷ last → front ≡ before ++ 32 ∷ at
    → before ≡ joined (v ∷ ws) → at ≡ codes "at" → last ≡ decimal place → text ≡ joined (v ∷ ws ++ at_words place)
answer_text text front last before at v ws place e g h there number =
    let words : List ℕ = joined (v ∷ ws) in
    let front_is : front ≡ words ++ 32 ∷ codes "at" =
    g ∙ ap (λ (t : List ℕ). t ++ 32 ∷ at) h ∙ ap (λ (t : List ℕ). words ++ 32 ∷ t) there in
    e ∙ ap (λ (t : List ℕ). t ++ 32 ∷ last) front_is ∙ ap (λ (t : List ℕ). (words ++ 32 ∷ codes "at") ++ 32 ∷ t) number
    ∙ append_assoc words (32 ∷ codes "at") (32 ∷ decimal place)
    ∙ sym (joined-append v ws (codes "at") (decimal place ∷ []))

-- the text before the place, and the place
answer_with : (text front last before at : List ℕ) (place : ℕ) → last_field text ≡ Some (front, last) → number_word last ≡ Some place
    → last_field front ≡ Some (before, at) → (bytes_eq at (codes "at") && are_words true before) ≡ true → HasOutcome text
answer_with text front last before at place f n g h =
    let tests = both (bytes_eq at (codes "at")) (are_words true before) h in
    let words = words_stand true before tests.1 in
    record {
      words = words.first ∷ words.others;
      place = place;
      are_words = (record { some = words.some refl; bytes = words.bytes }, words.words);
      some = omega arith;
      fits = number_word_fits last place n;
      text_is = answer_text text front last before at words.first words.others place (last_stands text front last f) (last_stands front before at g) words.text_is
          ((bytes_eq-Decides at (codes "at")).0 tests.0) (number_word_is last place n);
    }

answer_stands : (text : List ℕ) (x : Said) → answered_said text ≡ Some x → HasOutcome text
answer_stands text x e =
    let f = was_read (last_field text) _ x e in
    let n = was_read (number_word f.0.1) _ x f.2 in
    let g = was_read (last_field f.0.0) _ x n.2 in
    answer_with text f.0.0 f.0.1 g.0.0 g.0.1 n.0 f.1 n.1 g.1 (test_held _ (said.Answered n.0) x g.2).0

outcome_stands : (text : List ℕ) → is_some (said_of text) ≡ true → HasOutcome text
outcome_stands text e = by_failed (failed_said text) refl e
  where
    by_answered : (o : Option Said) → answered_said text ≡ o → is_some o ≡ true → HasOutcome text
    by_answered None g h = cc h
    by_answered (Some x) g h = answer_stands text x g

    by_broken : (o : Option Said) → broken_said text ≡ o → is_some (option_or o (answered_said text)) ≡ true → HasOutcome text
    by_broken None g h = by_answered (answered_said text) refl h
    by_broken (Some x) g h =
        let k = broken_shape text x g in
        record {
          words = codes "broken" ∷ [];
          place = k.0;
          are_words = (record { some = refl; bytes = refl }, tt);
          some = omega arith;
          fits = k.3;
          text_is = k.2;
        }

    by_failed : (o : Option Said) → failed_said text ≡ o → is_some (option_or o (option_or (broken_said text) (answered_said text))) ≡ true → HasOutcome text
    by_failed None g h = by_broken (broken_said text) refl h
    by_failed (Some x) g h =
        let k = failed_shape text x g in
        record {
          words = codes "fence" ∷ codes "failed" ∷ [];
          place = k.0;
          are_words = (record { some = refl; bytes = refl }, (record { some = refl; bytes = refl }, tt));
          some = omega arith;
          fits = k.3;
          text_is = k.2;
        }

-- one of two tests holds
either_held : {X : Type 0} (a b : Bool) → (a ≡ true → X) → (b ≡ true → X) → (a || b) ≡ true → X
either_held true b f g h = f refl
either_held false b f g h = g h

pub arrow_words : (ws es : List (List ℕ)) → 0 < length ws → 0 < length es → joined (ws ++ codes "->" ∷ es) ≡ joined ws ++ (codes " -> " ++ joined es)
arrow_words [] es some more = absurd (omega arith)
arrow_words (v ∷ ws) [] some more = absurd (omega arith)
arrow_words (v ∷ ws) (u ∷ es) some more = joined-append v ws (codes "->") (u ∷ es)

three_before : (a b c : List ℕ) (ws : List (List ℕ)) → 0 < length ws → a ++ 32 ∷ (b ++ 32 ∷ (c ++ 32 ∷ joined ws)) ≡ joined (a ∷ b ∷ c ∷ ws)
three_before a b c [] some = absurd (omega arith)
three_before a b c (v ∷ ws) some = refl

number_before : (t : ℕ) (line text : List ℕ) → after_number t line ≡ Some text
    → (k : ℕ) × (k < 2 ^ 64) × (line ≡ codes "call" ++ 32 ∷ (decimal t ++ 32 ∷ (decimal k ++ 32 ∷ text)))
number_before t line text e =
    let r₁ = was_read _ _ text e in
    let r₂ = was_read _ _ text r₁.2 in
    let n = was_read _ _ text r₂.2 in
    let k = number_stands r₂.0 n.0.1 n.0.0 n.1 in (
      n.0.0,
      k.1,
      word_stands (codes "call") line r₁.0 r₁.1
          ∙ ap (λ (r : List ℕ). codes "call" ++ 32 ∷ r) (word_stands (decimal t) r₁.0 r₂.0 r₂.1)
          ∙ ap (λ (r : List ℕ). codes "call" ++ 32 ∷ (decimal t ++ 32 ∷ r)) (k.0 ∙ ap (λ (r : List ℕ). decimal n.0.0 ++ 32 ∷ r) (same_Some n.0.1 text n.2)),
    )

-- a text that is a call, as it is printed
record HasCall {State Op Query Reply : Type 0} (w : Wording State Op Query Reply) (text : List ℕ) : Type 0 where
  call : Call State Op Query Reply
  reads : CallReads w call
  text_is : text ≡ joined (call_words w call)

-- a line of a call
pub record IsSpoken {State Op Query Reply : Type 0} (w : Wording State Op Query Reply) (t : ℕ) (line : List ℕ) : Type 0 where
  pub spoken : SpokenCall State Op Query Reply
  pub reads : SpokenReads w spoken
  pub line_is : line ≡ joined (spoken_line w t spoken)

module _ {State Op Query Reply : Type 0} (w : Wording State Op Query Reply) where
  call_stands : (text : List ℕ) → is_call w text ≡ true → HasCall w text
  call_stands text e = by_read (w.call_of (words_of text)) refl e
    where
      by_read : (r : Result (Call State Op Query Reply) Reason) → w.call_of (words_of text) ≡ r → is_printed w text r ≡ true → HasCall w text
      by_read (Err reason) g h = cc h
      by_read (Ok (Update op)) g h = record {
        call = Update op;
        reads = w.op_reads_again (words_of text) op g;
        text_is = sym ((bytes_eq-Decides (joined (w.op_words op)) text).0 h);
      }
      by_read (Ok (Ask query)) g h = record {
        call = Ask query;
        reads = w.query_reads_again (words_of text) query g;
        text_is = sym ((bytes_eq-Decides (joined (w.query_words query)) text).0 h);
      }

  arrow_stands : (text : List ℕ) (n : ℕ) → has_arrow w text n ≡ true → (i : ℕ) × (is_arrow w text i ≡ true)
  arrow_stands text zero e = cc e
  arrow_stands text (suc n) e = either_held (has_arrow w text n) (is_arrow w text n) (λ h. arrow_stands text n h) (λ h. (n, h)) e

  pub call_words_some : (c : Call State Op Query Reply) → CallReads w c → 0 < length (call_words w c)
  call_words_some c reads = let some = some_words w.call_of (call_words w c) c w.no_words_are_no_call reads in omega (arith, ap length some.2)

  spoken_with : (t k : ℕ) (line text : List ℕ) (i : ℕ) → k < 2 ^ 64 → line ≡ codes "call" ++ 32 ∷ (decimal t ++ 32 ∷ (decimal k ++ 32 ∷ text))
      → is_arrow w text i ≡ true → IsSpoken w t line
  spoken_with t k line text i fits e arrow =
      let after = drop i text in
      let tests = both (starts_with nat_eq after (codes " -> ")) (is_call w (take i text) && is_some (said_of (drop (i + 4) text))) arrow in
      let more = both (is_call w (take i text)) (is_some (said_of (drop (i + 4) text))) tests.1 in
      let call = call_stands (take i text) more.0 in
      let out = outcome_stands (drop (i + 4) text) more.1 in
      let ws : List (List ℕ) = call_words w call.call in
      let es : List (List ℕ) = out.words ++ at_words out.place in
      let begins : after_text (codes " -> ") after ≡ Some (drop 4 after) = ap (λ (t : Bool). some_if t (drop 4 after)) tests.0 in
      let here : after ≡ codes " -> " ++ joined es =
      after_text_is (codes " -> ") after (drop 4 after) begins ∙ ap (λ (r : List ℕ). codes " -> " ++ r) (drop-drop 4 i text ∙ out.text_is) in
      let whole : text ≡ joined (ws ++ codes "->" ∷ es) =
      sym (take-append-drop i text) ∙ ap (λ (r : List ℕ). r ++ after) call.text_is ∙ ap (λ (r : List ℕ). joined ws ++ r) here
      ∙ sym (arrow_words ws es (call_words_some call.call call.reads) (omega (arith, length-append out.words (at_words out.place)))) in
      record {
        spoken = record { number = k; call = call.call; outcome = out.words; place = out.place };
        reads = record { number = fits; call = call.reads; words = out.are_words; some = out.some; place = out.fits };
        line_is =
            e
            ∙ ap (λ (r : List ℕ). codes "call" ++ 32 ∷ (decimal t ++ 32 ∷ (decimal k ++ 32 ∷ r))) whole
            ∙ three_before (codes "call") (decimal t) (decimal k) (ws ++ codes "->" ∷ es) (omega (arith, length-append ws (codes "->" ∷ es)));
      }

  pub spoken_stands : (t : ℕ) (line : List ℕ) → is_call_line w t line ≡ true → IsSpoken w t line
  spoken_stands t line e = by_text (after_number t line) refl e
    where
      by_text : (o : Option (List ℕ)) → after_number t line ≡ o → some_arrow w o ≡ true → IsSpoken w t line
      by_text None g h = cc h
      by_text (Some text) g h =
          let n = number_before t line text g in
          let at = arrow_stands text (length text) h in
          spoken_with t n.0 line text at.0 n.1 n.2 at.1

-- ---- nodes
flag_before : (line text : List ℕ) → past_flag line ≡ Some text → (flag : Bool) × (line ≡ joined (flag_words (Some flag)) ++ 32 ∷ text)
flag_before line text e =
    let f = was_read (next_field line) (λ (f : List ℕ × List ℕ). some_if (bytes_eq f.0 (codes "set") || bytes_eq f.0 (codes "unset")) f.1) text e in
    let field : List ℕ × List ℕ = f.0 in
    let held = test_held (bytes_eq field.0 (codes "set") || bytes_eq field.0 (codes "unset")) field.1 text f.2 in
    let line_is : line ≡ field.0 ++ 32 ∷ text = field_stands line field.0 field.1 f.1 ∙ ap (λ (r : List ℕ). field.0 ++ 32 ∷ r) held.1 in
    either_held (bytes_eq field.0 (codes "set")) (bytes_eq field.0 (codes "unset"))
    (λ h. (true, line_is ∙ ap (λ (r : List ℕ). r ++ 32 ∷ text) ((bytes_eq-Decides field.0 (codes "set")).0 h)))
    (λ h. (false, line_is ∙ ap (λ (r : List ℕ). r ++ 32 ∷ text) ((bytes_eq-Decides field.0 (codes "unset")).0 h))) held.0

-- the words of a node's line before its operation
record HasFront (p : ℕ) (line : List ℕ) (t n : ℕ) (text : List ℕ) : Type 0 where
  flag : Bool
  thread : t < 2 ^ 64
  number : n < 2 ^ 64
  line_is : line ≡ codes "node" ++ 32 ∷ (decimal p ++ 32 ∷ (decimal t ++ 32 ∷ (decimal n ++ 32 ∷ (joined (flag_words (Some flag)) ++ 32 ∷ text))))

front_text : (p t n : ℕ) (line r₁ r₂ r₃ r₄ flag text : List ℕ) → line ≡ codes "node" ++ 32 ∷ r₁ → r₁ ≡ decimal p ++ 32 ∷ r₂ → r₂ ≡ decimal t ++ 32 ∷ r₃
    → r₃ ≡ decimal n ++ 32 ∷ r₄ → r₄ ≡ flag ++ 32 ∷ text
    → line ≡ codes "node" ++ 32 ∷ (decimal p ++ 32 ∷ (decimal t ++ 32 ∷ (decimal n ++ 32 ∷ (flag ++ 32 ∷ text))))
front_text p t n line r₁ r₂ r₃ r₄ flag text e₁ e₂ e₃ e₄ e₅ =
    e₁
    ∙ ap (λ (r : List ℕ). codes "node" ++ 32 ∷ r) e₂
    ∙ ap (λ (r : List ℕ). codes "node" ++ 32 ∷ (decimal p ++ 32 ∷ r)) e₃
    ∙ ap (λ (r : List ℕ). codes "node" ++ 32 ∷ (decimal p ++ 32 ∷ (decimal t ++ 32 ∷ r))) e₄
    ∙ ap (λ (r : List ℕ). codes "node" ++ 32 ∷ (decimal p ++ 32 ∷ (decimal t ++ 32 ∷ (decimal n ++ 32 ∷ r)))) e₅

-- the text after each part
front_with : (p : ℕ) (line r₁ r₂ r₃ r₄ : List ℕ) (t n : ℕ) (text : List ℕ) → after_word (codes "node") line ≡ Some r₁ → after_word (decimal p) r₁ ≡ Some r₂
    → number_field r₂ ≡ Some (t, r₃) → number_field r₃ ≡ Some (n, r₄) → past_flag r₄ ≡ Some text → HasFront p line t n text
front_with p line r₁ r₂ r₃ r₄ t n text e₁ e₂ e₃ e₄ e₅ =
    let one = number_stands r₂ r₃ t e₃ in
    let two = number_stands r₃ r₄ n e₄ in
    let set = flag_before r₄ text e₅ in
    record {
      flag = set.0;
      thread = one.1;
      number = two.1;
      line_is = front_text p t n line r₁ r₂ r₃ r₄ (joined (flag_words (Some set.0))) text (word_stands (codes "node") line r₁ e₁) (word_stands (decimal p) r₁ r₂ e₂)
          one.0 two.0 set.1;
    }

front_stands : (p : ℕ) (line : List ℕ) (t n : ℕ) (text : List ℕ) → node_front p line ≡ Some (t, n, text) → HasFront p line t n text
front_stands p line t n text e =
    let all : ℕ × ℕ × List ℕ = (t, n, text) in
    let r₁ = was_read _ _ all e in
    let r₂ = was_read _ _ all r₁.2 in
    let thread = was_read _ _ all r₂.2 in
    let number = was_read _ _ all thread.2 in
    let flag = was_read _ _ all number.2 in
    let same = same_Some (thread.0.0, number.0.0, flag.0) all flag.2 in
    subst (λ (a : ℕ × ℕ × List ℕ). HasFront p line a.0 a.1 a.2) same
    (front_with p line r₁.0 r₂.0 thread.0.1 number.0.1 thread.0.0 number.0.0 flag.0 r₁.1 r₂.1 thread.1 number.1 flag.1)

front_words : (a b c d : List ℕ) (flag : Bool) (ws : List (List ℕ)) → 0 < length ws
    → a ++ 32 ∷ (b ++ 32 ∷ (c ++ 32 ∷ (d ++ 32 ∷ (joined (flag_words (Some flag)) ++ 32 ∷ joined ws)))) ≡ joined (a ∷ b ∷ c ∷ d ∷ (flag_words (Some flag) ++ ws))
front_words a b c d flag [] some = absurd (omega arith)
front_words a b c d true (v ∷ ws) some = refl
front_words a b c d false (v ∷ ws) some = refl

-- a line of a node
pub record IsNodeLine {State Op Query Reply : Type 0} (b : Behaviour State Op Query Reply) (w : Wording State Op Query Reply) (p : ℕ) (node : Node)
    (line : List ℕ) : Type 0 where
  pub flag : Bool
  pub reads : NodeReads b w node
  pub line_is : line ≡ joined (node_line b w p node (Some flag))

module _ {State Op Query Reply : Type 0} (b : Behaviour State Op Query Reply) (w : Wording State Op Query Reply) where
  op_stands : (text : List ℕ) (op : Op) → op_said w text ≡ Some op → CallReads w (Update op) × (text ≡ joined (w.op_words op))
  op_stands text op e = by_read (w.call_of (words_of text)) refl e
    where
      by_read : (r : Result (Call State Op Query Reply) Reason) → w.call_of (words_of text) ≡ r → op_printed w text r ≡ Some op
          → CallReads w (Update op) × (text ≡ joined (w.op_words op))
      by_read (Err reason) g h = cc h
      by_read (Ok (Ask query)) g h = cc h
      by_read (Ok (Update o)) g h =
          let k = test_held (bytes_eq (joined (w.op_words o)) text) o op h in
          subst (λ (x : Op). CallReads w (Update x) × (text ≡ joined (w.op_words x))) k.1
          (w.op_reads_again (words_of text) o g, sym ((bytes_eq-Decides (joined (w.op_words o)) text).0 k.0))

  pub node_stands : (p : ℕ) (line : List ℕ) (node : Node) → node_said b w p line ≡ Some node → IsNodeLine b w p node line
  node_stands p line node e =
      let f = was_read _ _ node e in
      let o = was_read _ _ node f.2 in
      let op : Op = o.0 in
      let t : ℕ = f.0.0 in
      let n : ℕ = f.0.1 in
      let front = front_stands p line t n f.0.2 f.1 in
      let is = op_stands f.0.2 op o.1 in
      let back = b.op_of_its_row op in
      subst (λ (x : Node). IsNodeLine b w p x line) (same_Some (record { thread = t; number = n; row = b.row_of op }) node o.2)
      (record {
        flag = front.flag;
        reads = record { thread = front.thread; number = front.number; op = op; row = back; reads = is.0 };
        line_is =
            front.line_is
            ∙ ap (λ (r : List ℕ). codes "node" ++ 32 ∷ (decimal p ++ 32 ∷ (decimal t ++ 32 ∷ (decimal n ++ 32 ∷ (joined (flag_words (Some front.flag)) ++ 32 ∷ r))))) is.1
            ∙ front_words (codes "node") (decimal p) (decimal t) (decimal n) front.flag (w.op_words op) (call_words_some w (Update op) is.0)
            ∙ ap (λ (r : Option Op). joined (codes "node" ∷ decimal p ∷ decimal t ∷ decimal n ∷ (flag_words (Some front.flag) ++ row_words w r))) (sym back);
      })
