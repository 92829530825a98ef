-- What became of a call is read where it is printed.
use Rattle.std.proofs.Common.{ℕ, Bool, true, false, List, [], ◌∷◌, ◌++◌, ◌≡◌, ◌<◌, ◌^◌, ◌&&◌, not, codes, decimal, Option, Some, None, Result, Ok, refl, ap, sym, ◌∙◌, append_assoc, subst}
use Rattle.std.specs.List.{list_all}
use Rattle.std.specs.Option.{option_or}
use Rattle.std.specs.Result.{is_ok}
use Rattle.std.proofs.lemmas.List.{append-nil}
use Rattle.onll_words.specs.Texts.{is_word_byte, joined, words_of, IsWord, AreWords}
use Rattle.onll_words.proofs.Decimals.{IsWord-decimal}
use Rattle.onll_words.proofs.Joined.{words_of-joined}
use Rattle.onll_model.specs.declared.call.CallEnd.{CallEnd}
use Rattle.onll_model.specs.declared.call.CallEnd.TheVariants as ends
use Rattle.onll_model.specs.Legal.{IsOver}
use Rattle.onll_text.specs.Wording.{Wording}
use Rattle.onll_text.specs.Lines.{at_words, end_words}
use Rattle.onll_text.specs.Reports.{EndReads}
use Rattle.onll_text.proofs.LineWords.{AreWords-append}
use Rattle.onll_text.proofs.Determined.{end_determined}
use Rattle.onll_audit.specs.declared.said.Said.{Said}
use Rattle.onll_audit.specs.declared.said.Said.TheVariants as said
use Rattle.onll_audit.specs.Fields.{◌>?◌, some_if, cut_last, last_field, number_word, after_text, are_words}
use Rattle.onll_audit.specs.Form.{said_of, failed_said, broken_said, answered_said}
use Rattle.onll_audit.specs.Legality.{SameOutcome}
use Rattle.onll_audit.proofs.Following.{both}
use Rattle.onll_audit.proofs.Reading.{joined-append, after_text_is, failed_shape, broken_shape, number_word_reads}
use Rattle.onll_audit.proofs.Threads.{begins_with}
use Rattle.onll_audit.proofs.Fronts.{word_byte, read_on}

-- what reads, where nothing reads as none, has a word
pub some_words : {A E : Type 0} (read : List (List ℕ) → Result A E) (ws : List (List ℕ)) (x : A) → is_ok (read []) ≡ false → read ws ≡ Ok x
    → (v : List ℕ) × (vs : List (List ℕ)) × (ws ≡ v ∷ vs)
some_words read [] x h e = let k : is_ok (read []) ≡ true = ap is_ok e in cc (h, k)
some_words read (v ∷ vs) x h e = (v, vs, refl)

-- ---- a reply
-- a word has no space
word_none : (w : List ℕ) → list_all is_word_byte w ≡ true → last_field w ≡ None
word_none [] h = refl
word_none (b ∷ w) h =
    let parts = both (is_word_byte b) (list_all is_word_byte w) h in
    ap (cut_last b w) (word_none w parts.1) ∙ ap (λ (t : Bool). some_if t ([], w)) (word_byte b parts.0)

last_after : (xs ys : List ℕ) → last_field ys ≡ None → last_field (xs ++ 32 ∷ ys) ≡ Some (xs, ys)
last_after [] ys h = ap (cut_last 32 ys) h
last_after (x ∷ xs) ys h = ap (cut_last x (xs ++ 32 ∷ ys)) (last_after xs ys h)

-- a word, and what follows it
step_word : (begins : Bool) (b : ℕ) (rest : List ℕ) → is_word_byte b ≡ true → are_words begins (b ∷ rest) ≡ are_words false rest
step_word begins b rest h =
    ap (λ (t : Bool). if_word t (not begins && are_words true rest) (is_word_byte b && are_words false rest)) (word_byte b h)
    ∙ ap (λ (t : Bool). t && are_words false rest) h
  where
    if_word : Bool → Bool → Bool → Bool
    if_word true x y = x
    if_word false x y = y

word_then : (begins : Bool) (b : ℕ) (w rest : List ℕ) → list_all is_word_byte (b ∷ w) ≡ true → are_words begins (b ∷ w ++ rest) ≡ are_words false rest
word_then begins b [] rest h = step_word begins b rest (both (is_word_byte b) true h).0
word_then begins b (c ∷ w) rest h =
    let parts = both (is_word_byte b) (list_all is_word_byte (c ∷ w)) h in
    step_word begins b (c ∷ w ++ rest) parts.0 ∙ word_then false c w rest parts.1

whole_word : (w rest : List ℕ) → IsWord w → are_words true (w ++ rest) ≡ are_words false rest
whole_word [] rest h = cc h.some
whole_word (b ∷ w) rest h = word_then true b w rest h.bytes

words_joined : (v : List ℕ) (ws : List (List ℕ)) → AreWords (v ∷ ws) → are_words true (joined (v ∷ ws)) ≡ true
words_joined v [] h = ap (are_words true) (sym (append-nil v)) ∙ whole_word v [] h.0
words_joined v (u ∷ ws) h = whole_word v (32 ∷ joined (u ∷ ws)) h.0 ∙ words_joined u ws h.1

-- a reply before its place
pub answered_reads : (v : List ℕ) (ws : List (List ℕ)) (p : ℕ) → AreWords (v ∷ ws) → p < 2 ^ 64
    → answered_said (joined (v ∷ ws ++ at_words p)) ≡ Some (said.Answered p)
answered_reads v ws p h fits =
    let front = joined (v ∷ ws) ++ 32 ∷ codes "at" in
    let line : joined (v ∷ ws ++ at_words p) ≡ front ++ 32 ∷ decimal p =
    joined-append v ws (codes "at") (decimal p ∷ []) ∙ sym (append_assoc (joined (v ∷ ws)) (32 ∷ codes "at") (32 ∷ decimal p)) in
    let last : last_field (joined (v ∷ ws ++ at_words p)) ≡ Some (front, decimal p) =
    ap last_field line ∙ last_after front (decimal p) (word_none (decimal p) (IsWord-decimal p).bytes) in
    let at : last_field front ≡ Some (joined (v ∷ ws), codes "at") = last_after (joined (v ∷ ws)) (codes "at") refl in
    read_on _ (front, decimal p) _ _ last
    (read_on _ p _ _ (number_word_reads p fits)
    (read_on _ (joined (v ∷ ws), codes "at") _ _ at (ap (λ (t : Bool). some_if t (said.Answered p)) (words_joined v ws h))))

-- equal texts of words are equal words
joined_same : (xs ys : List (List ℕ)) → AreWords xs → AreWords ys → joined xs ≡ joined ys → xs ≡ ys
joined_same xs ys g h e = sym (words_of-joined xs g) ∙ ap words_of e ∙ words_of-joined ys h

at_in_words : (p : ℕ) → AreWords (at_words p)
at_in_words p = (record { some = refl; bytes = refl }, (IsWord-decimal p, tt))

-- ---- a failed fence, and a call broken by one
failed_reads : (p : ℕ) → p < 2 ^ 64 → failed_said (codes "fence failed at " ++ decimal p) ≡ Some (said.FenceFailed p)
failed_reads p fits =
    read_on _ (decimal p) (λ (rest : List ℕ). number_word rest >? λ place. Some (said.FenceFailed place)) _ (begins_with (codes "fence failed at ") (decimal p))
    (ap (λ (o : Option ℕ). o >? λ place. Some (said.FenceFailed place)) (number_word_reads p fits))

broken_reads : (p : ℕ) → p < 2 ^ 64 → broken_said (codes "broken at " ++ decimal p) ≡ Some (said.Broken p)
broken_reads p fits =
    read_on _ (decimal p) (λ (rest : List ℕ). number_word rest >? λ place. Some (said.Broken place)) _ (begins_with (codes "broken at ") (decimal p))
    (ap (λ (o : Option ℕ). o >? λ place. Some (said.Broken place)) (number_word_reads p fits))

not_failed : (p : ℕ) → failed_said (codes "broken at " ++ decimal p) ≡ None
not_failed p = by_rest (after_text (codes "fence failed at ") (codes "broken at " ++ decimal p)) refl
  where
    by_rest : (o : Option (List ℕ)) → after_text (codes "fence failed at ") (codes "broken at " ++ decimal p) ≡ o
        → (o >? λ rest. number_word rest >? λ place. Some (said.FenceFailed place)) ≡ None
    by_rest None e = refl
    by_rest (Some rest) e = cc (after_text_is (codes "fence failed at ") (codes "broken at " ++ decimal p) rest e)

module _ {State Op Query Reply : Type 0} (w : Wording State Op Query Reply) where
  not_other : (reply : Reply) (p : ℕ) (e : CallEnd State Op Query Reply) → EndReads w (ends.Answered reply p) → EndReads w e → AreWords (end_words w e)
      → joined (end_words w (ends.Answered reply p)) ≡ joined (end_words w e) → ends.Answered reply p ≡ e
  not_other reply p e reads other words same =
      end_determined w (ends.Answered reply p) e reads other
      (joined_same (end_words w (ends.Answered reply p)) (end_words w e)
      (AreWords-append (w.reply_words reply) (at_words p) (w.reply_in_words reply) (at_in_words p)) words same)

  failed_not : (reply : Reply) (p q : ℕ) (e : CallEnd State Op Query Reply) → e ≡ ends.Answered reply p → e ≡ ends.FenceFailed q → ⊥
  failed_not reply p q e g h = cc (g, h)

  broken_not : (reply : Reply) (p q : ℕ) (e : CallEnd State Op Query Reply) → e ≡ ends.Answered reply p → e ≡ ends.Broken q → ⊥
  broken_not reply p q e g h = cc (g, h)

  -- a reply that reads back is an answer where it is printed
  reply_said : (reply : Reply) (p : ℕ) → EndReads w (ends.Answered reply p)
      → said_of (joined (end_words w (ends.Answered reply p))) ≡ Some (said.Answered p)
  reply_said reply p reads = by_failed (failed_said (joined (end_words w (ends.Answered reply p)))) refl
    where
      answer : answered_said (joined (end_words w (ends.Answered reply p))) ≡ Some (said.Answered p)
      answer =
          let some = some_words w.reply_of (w.reply_words reply) reply w.no_words_are_no_reply reads.0 in
          ap (λ (ws : List (List ℕ)). answered_said (joined (ws ++ at_words p))) some.2
          ∙ answered_reads some.0 some.1 p (subst AreWords some.2 (w.reply_in_words reply)) reads.1

      by_broken : (o : Option Said) → broken_said (joined (end_words w (ends.Answered reply p))) ≡ o
          → option_or o (answered_said (joined (end_words w (ends.Answered reply p)))) ≡ Some (said.Answered p)
      by_broken None g = answer
      by_broken (Some x) g =
          let k = broken_shape (joined (end_words w (ends.Answered reply p))) x g in
          absurd (broken_not reply p k.0 (ends.Answered reply p) refl
          (not_other reply p (ends.Broken k.0) reads k.3 (record { some = refl; bytes = refl }, at_in_words k.0) k.2))

      by_failed : (o : Option Said) → failed_said (joined (end_words w (ends.Answered reply p))) ≡ o
          → option_or o (option_or (broken_said (joined (end_words w (ends.Answered reply p)))) (answered_said (joined (end_words w (ends.Answered reply p)))))
          ≡ Some (said.Answered p)
      by_failed None g = by_broken (broken_said (joined (end_words w (ends.Answered reply p)))) refl
      by_failed (Some x) g =
          let k = failed_shape (joined (end_words w (ends.Answered reply p))) x g in
          absurd (failed_not reply p k.0 (ends.Answered reply p) refl
          (not_other reply p (ends.FenceFailed k.0) reads k.3
          (record { some = refl; bytes = refl }, (record { some = refl; bytes = refl }, at_in_words k.0)) k.2))

  failed_is_said : (p : ℕ) → p < 2 ^ 64 → said_of (joined (end_words w (ends.FenceFailed p))) ≡ Some (said.FenceFailed p)
  failed_is_said p fits =
      let text : List ℕ = codes "fence failed at " ++ decimal p in
      ap (λ (o : Option Said). option_or o (option_or (broken_said text) (answered_said text))) (failed_reads p fits)

  broken_is_said : (p : ℕ) → p < 2 ^ 64 → said_of (joined (end_words w (ends.Broken p))) ≡ Some (said.Broken p)
  broken_is_said p fits =
      let text : List ℕ = codes "broken at " ++ decimal p in
      ap (λ (o : Option Said). option_or o (option_or (broken_said text) (answered_said text))) (not_failed p)
      ∙ ap (λ (o : Option Said). option_or o (answered_said text)) (broken_reads p fits)

  -- a call that is over is read as what became of it
  pub end_said : (e : CallEnd State Op Query Reply) → EndReads w e → IsOver e → (x : Said) × (said_of (joined (end_words w e)) ≡ Some x) × SameOutcome x e
  end_said (ends.Answered reply p) reads over = (said.Answered p, reply_said reply p reads, refl)
  end_said ends.Running reads over = elim over [ ]
  end_said (ends.Ordered p) reads over = elim over [ ]
  end_said (ends.FenceFailed p) reads over = (said.FenceFailed p, failed_is_said p reads, refl)
  end_said (ends.Broken p) reads over = (said.Broken p, broken_is_said p reads, refl)
