use Rattle.std.proofs.Common.{ℕ, Bool, true, false, List, [], ◌∷◌, ◌++◌, ◌≡◌, ◌<◌, ◌&&◌, length, take, drop, codes, decimal, Option, Some, None, nat_eq, refl, ap, sym, ◌∙◌, append_assoc, subst, ◌^◌}
use Rattle.std.specs.List.{starts_with}
use Rattle.std.specs.Option.{option_or}
use Rattle.std.specs.Str.{bytes_eq}
use Rattle.std.proofs.lemmas.Slice.Eq.{bytes_eq-Decides}
use Rattle.std.proofs.lemmas.Option.{same_Some}
use Rattle.std.proofs.lemmas.List.{take-append-drop}
use Rattle.onll_words.specs.Texts.{joined}
use Rattle.onll_words.specs.Numbers.{number_of}
use Rattle.onll_words.proofs.Decimals.{number_of-decimal, number_of_fits}
use Rattle.onll_model.specs.declared.call.Call.{Call}
use Rattle.onll_model.specs.declared.call.CallEnd.{CallEnd}
use Rattle.onll_model.specs.declared.call.CallEnd.TheVariants as ends
use Rattle.onll_text.specs.Wording.{Wording}
use Rattle.onll_text.specs.Lines.{call_words, at_words, end_words, call_line}
use Rattle.onll_audit.specs.declared.said.Said.{Said}
use Rattle.onll_audit.specs.declared.said.Said.TheVariants as said
use Rattle.onll_audit.specs.Fields.{◌>?◌, some_if, after_text, number_word, last_field, are_words}
use Rattle.onll_audit.specs.Form.{said_of, failed_said, broken_said, answered_said}
use Rattle.onll_audit.specs.Verdict.{call_front, end_after, with_text}

some_if_is : {A : Type 0} (test : Bool) (x y : A) → some_if test x ≡ Some y → (test ≡ true) × (x ≡ y)
some_if_is true x y e = (refl, same_Some x y e)
some_if_is false x y e = cc e

-- a text that begins so
pub after_text_is : (front text rest : List ℕ) → after_text front text ≡ Some rest → text ≡ front ++ rest
after_text_is front text rest e =
    let h = some_if_is (starts_with nat_eq text front) (drop (length front) text) rest e in
    let begins : front ≡ take (length front) text = (bytes_eq-Decides front (take (length front) text)).0 h.0 in
    sym (take-append-drop (length front) text) ∙ ap (λ (t : List ℕ). t ++ drop (length front) text) (sym begins) ∙ ap (λ (t : List ℕ). front ++ t) h.1

pub number_word_is : (word : List ℕ) (n : ℕ) → number_word word ≡ Some n → word ≡ decimal n
number_word_is word n e = by_value (number_of word) e
  where
    by_value : (o : Option ℕ) → (o >? λ m. some_if (bytes_eq (decimal m) word) m) ≡ Some n → word ≡ decimal n
    by_value None h = cc h
    by_value (Some m) h =
        let k = some_if_is (bytes_eq (decimal m) word) m n h in
        sym ((bytes_eq-Decides (decimal m) word).0 k.0) ∙ ap decimal k.1

pub number_word_fits : (word : List ℕ) (n : ℕ) → number_word word ≡ Some n → n < 2 ^ 64
number_word_fits word n e = by_value (number_of word) refl e
  where
    by_value : (o : Option ℕ) → number_of word ≡ o → (o >? λ m. some_if (bytes_eq (decimal m) word) m) ≡ Some n → n < 2 ^ 64
    by_value None g h = cc h
    by_value (Some m) g h = subst (λ (k : ℕ). k < 2 ^ 64) (some_if_is (bytes_eq (decimal m) word) m n h).1 (number_of_fits word m g)

pub number_word_reads : (n : ℕ) → n < 2 ^ 64 → number_word (decimal n) ≡ Some n
number_word_reads n h =
    ap (λ (o : Option ℕ). o >? λ m. some_if (bytes_eq (decimal m) (decimal n)) m) (number_of-decimal n h)
    ∙ ap (λ (t : Bool). some_if t n) ((bytes_eq-Decides (decimal n) (decimal n)).1 refl)

-- what a text says that became of a call
pub failed_shape : (text : List ℕ) (x : Said) → failed_said text ≡ Some x → (p : ℕ) × (x ≡ said.FenceFailed p) × (text ≡ codes "fence failed at " ++ decimal p) × (p < 2 ^ 64)
failed_shape text x e = by_rest (after_text (codes "fence failed at ") text) refl e
  where
    by_number : (rest : List ℕ) (o : Option ℕ) → number_word rest ≡ o → after_text (codes "fence failed at ") text ≡ Some rest
        → (o >? λ place. Some (said.FenceFailed place)) ≡ Some x → (p : ℕ) × (x ≡ said.FenceFailed p) × (text ≡ codes "fence failed at " ++ decimal p) × (p < 2 ^ 64)
    by_number rest None n t h = cc h
    by_number rest (Some p) n t h =
        (p, sym (same_Some (said.FenceFailed p) x h), after_text_is (codes "fence failed at ") text rest t ∙ ap (λ (r : List ℕ). codes "fence failed at " ++ r) (number_word_is rest p n), number_word_fits rest p n)

    by_rest : (o : Option (List ℕ)) → after_text (codes "fence failed at ") text ≡ o
        → (o >? λ rest. number_word rest >? λ place. Some (said.FenceFailed place)) ≡ Some x
        → (p : ℕ) × (x ≡ said.FenceFailed p) × (text ≡ codes "fence failed at " ++ decimal p) × (p < 2 ^ 64)
    by_rest None t h = cc h
    by_rest (Some rest) t h = by_number rest (number_word rest) refl t h

pub broken_shape : (text : List ℕ) (x : Said) → broken_said text ≡ Some x → (p : ℕ) × (x ≡ said.Broken p) × (text ≡ codes "broken at " ++ decimal p) × (p < 2 ^ 64)
broken_shape text x e = by_rest (after_text (codes "broken at ") text) refl e
  where
    by_number : (rest : List ℕ) (o : Option ℕ) → number_word rest ≡ o → after_text (codes "broken at ") text ≡ Some rest
        → (o >? λ place. Some (said.Broken place)) ≡ Some x → (p : ℕ) × (x ≡ said.Broken p) × (text ≡ codes "broken at " ++ decimal p) × (p < 2 ^ 64)
    by_number rest None n t h = cc h
    by_number rest (Some p) n t h =
        (p, sym (same_Some (said.Broken p) x h), after_text_is (codes "broken at ") text rest t ∙ ap (λ (r : List ℕ). codes "broken at " ++ r) (number_word_is rest p n), number_word_fits rest p n)

    by_rest : (o : Option (List ℕ)) → after_text (codes "broken at ") text ≡ o
        → (o >? λ rest. number_word rest >? λ place. Some (said.Broken place)) ≡ Some x
        → (p : ℕ) × (x ≡ said.Broken p) × (text ≡ codes "broken at " ++ decimal p) × (p < 2 ^ 64)
    by_rest None t h = cc h
    by_rest (Some rest) t h = by_number rest (number_word rest) refl t h

-- an answer is none of the others
abbrev is_answer : Option Said → Bool
is_answer None = true
is_answer (Some (said.Answered p)) = true
is_answer (Some (said.FenceFailed p)) = false
is_answer (Some (said.Broken p)) = false

answered_shape : (text : List ℕ) → is_answer (answered_said text) ≡ true
answered_shape text = by_last (last_field text)
  where
    by_test : (test : Bool) (p : ℕ) → is_answer (some_if test (said.Answered p)) ≡ true
    by_test true p = refl
    by_test false p = refl

    by_at : (o : Option (List ℕ × List ℕ)) (p : ℕ)
        → is_answer (o >? λ g. some_if (bytes_eq g.1 (codes "at") && are_words true g.0) (said.Answered p)) ≡ true
    by_at None p = refl
    by_at (Some g) p = by_test (bytes_eq g.1 (codes "at") && are_words true g.0) p

    by_place : (o : Option ℕ) (front : List ℕ)
        → is_answer (o >? λ place. last_field front >? λ g. some_if (bytes_eq g.1 (codes "at") && are_words true g.0) (said.Answered place)) ≡ true
    by_place None front = refl
    by_place (Some p) front = by_at (last_field front) p

    by_last : (o : Option (List ℕ × List ℕ))
        → is_answer (o >? λ f. number_word f.1 >? λ place. last_field f.0 >? λ g. some_if (bytes_eq g.1 (codes "at") && are_words true g.0) (said.Answered place)) ≡ true
    by_last None = refl
    by_last (Some f) = by_place (number_word f.1) f.0

-- the words of a line, in two parts
pub joined-append : (x : List ℕ) (xs : List (List ℕ)) (y : List ℕ) (ys : List (List ℕ)) → joined (x ∷ xs ++ y ∷ ys) ≡ joined (x ∷ xs) ++ 32 ∷ joined (y ∷ ys)
joined-append x [] y ys = refl
joined-append x (v ∷ xs) y ys =
    ap (λ (t : List ℕ). x ++ 32 ∷ t) (joined-append v xs y ys) ∙ sym (append_assoc x (32 ∷ joined (v ∷ xs)) (32 ∷ joined (y ∷ ys)))

module _ {State Op Query Reply : Type 0} (w : Wording State Op Query Reply) where
  pub failed_text : (text : List ℕ) (p : ℕ) → said_of text ≡ Some (said.FenceFailed p) → text ≡ joined (end_words w (ends.FenceFailed p))
  failed_text text p e = by_failed (failed_said text) refl e
    where
      by_broken : (o : Option Said) → broken_said text ≡ o → option_or o (answered_said text) ≡ Some (said.FenceFailed p) → text ≡ joined (end_words w (ends.FenceFailed p))
      by_broken None g h = let k : is_answer (answered_said text) ≡ false = ap is_answer h in cc (answered_shape text, k)
      by_broken (Some x) g h = let k = broken_shape text x g in cc (k.1, same_Some x (said.FenceFailed p) h)

      by_failed : (o : Option Said) → failed_said text ≡ o → option_or o (option_or (broken_said text) (answered_said text)) ≡ Some (said.FenceFailed p)
          → text ≡ joined (end_words w (ends.FenceFailed p))
      by_failed None g h = by_broken (broken_said text) refl h
      by_failed (Some x) g h =
          let k = failed_shape text x g in
          let same : k.0 ≡ p = cc (k.1, same_Some x (said.FenceFailed p) h) in
          k.2 ∙ ap (λ (n : ℕ). codes "fence failed at " ++ decimal n) same

  pub broken_text : (text : List ℕ) (p : ℕ) → said_of text ≡ Some (said.Broken p) → text ≡ joined (end_words w (ends.Broken p))
  broken_text text p e = by_failed (failed_said text) refl e
    where
      by_broken : (o : Option Said) → broken_said text ≡ o → option_or o (answered_said text) ≡ Some (said.Broken p) → text ≡ joined (end_words w (ends.Broken p))
      by_broken None g h = let k : is_answer (answered_said text) ≡ false = ap is_answer h in cc (answered_shape text, k)
      by_broken (Some x) g h =
          let k = broken_shape text x g in
          let same : k.0 ≡ p = cc (k.1, same_Some x (said.Broken p) h) in
          k.2 ∙ ap (λ (n : ℕ). codes "broken at " ++ decimal n) same

      by_failed : (o : Option Said) → failed_said text ≡ o → option_or o (option_or (broken_said text) (answered_said text)) ≡ Some (said.Broken p)
          → text ≡ joined (end_words w (ends.Broken p))
      by_failed None g h = by_broken (broken_said text) refl h
      by_failed (Some x) g h = let k = failed_shape text x g in cc (k.1, same_Some x (said.Broken p) h)

  -- ---- the line of a call
  pub some_end : (e : CallEnd State Op Query Reply) → (y : List ℕ) × (ys : List (List ℕ)) × (end_words w e ≡ y ∷ ys)
  some_end (ends.Answered reply p) = by_words (w.reply_words reply)
    where
      by_words : (ws : List (List ℕ)) → (y : List ℕ) × (ys : List (List ℕ)) × (ws ++ at_words p ≡ y ∷ ys)
      by_words [] = (codes "at", decimal p ∷ [], refl)
      by_words (v ∷ ws) = (v, ws ++ at_words p, refl)
  some_end ends.Running = (codes "running", [], refl)
  some_end (ends.Ordered p) = (codes "ordered", at_words p, refl)
  some_end (ends.FenceFailed p) = (codes "fence", codes "failed" ∷ at_words p, refl)
  some_end (ends.Broken p) = (codes "broken", at_words p, refl)

  pub line_parts : (t k : ℕ) (c : Call State Op Query Reply) (e : CallEnd State Op Query Reply)
      → joined (call_line w t k c e) ≡ call_front w t k c ++ 32 ∷ joined (end_words w e)
  line_parts t k c e =
      let some = some_end e in
      let ws = call_words w c in
      let front : List (List ℕ) = decimal t ∷ decimal k ∷ (ws ++ codes "->" ∷ []) in
      ap (λ (vs : List (List ℕ)). joined (codes "call" ∷ decimal t ∷ decimal k ∷ vs)) (sym (append_assoc ws (codes "->" ∷ []) (end_words w e)))
      ∙ ap (λ (vs : List (List ℕ)). joined (codes "call" ∷ decimal t ∷ decimal k ∷ ((ws ++ codes "->" ∷ []) ++ vs))) some.2
      ∙ joined-append (codes "call") front some.0 some.1
      ∙ ap (λ (vs : List (List ℕ)). joined (codes "call" ∷ front) ++ 32 ∷ joined vs) (sym some.2)

  -- a line that has this text after its arrow
  pub end_after_is : (front line text : List ℕ) (x : Said) → end_after front line ≡ Some (text, x) → (line ≡ front ++ 32 ∷ text) × (said_of text ≡ Some x)
  end_after_is front line text x e = by_front (after_text front line) refl e
    where
      by_said : (t : List ℕ) (o : Option Said) → said_of t ≡ o → with_text t o ≡ Some (text, x) → (t ≡ text) × (said_of text ≡ Some x)
      by_said t None g h = cc h
      by_said t (Some y) g h =
          let pair = same_Some (t, y) (text, x) h in
          let same : t ≡ text = ap (λ (r : List ℕ × Said). r.0) pair in
          (same, ap said_of (sym same) ∙ g ∙ ap Some (ap (λ (r : List ℕ × Said). r.1) pair))

      by_space : (rest : List ℕ) (o : Option (List ℕ)) → after_text (codes " ") rest ≡ o → after_text front line ≡ Some rest
          → (o >? λ t. with_text t (said_of t)) ≡ Some (text, x) → (line ≡ front ++ 32 ∷ text) × (said_of text ≡ Some x)
      by_space rest None g f h = cc h
      by_space rest (Some t) g f h =
          let k = by_said t (said_of t) refl h in (
            after_text_is front line rest f ∙ ap (λ (r : List ℕ). front ++ r) (after_text_is (codes " ") rest t g ∙ ap (λ (r : List ℕ). 32 ∷ r) k.0),
            k.1,
          )

      by_front : (o : Option (List ℕ)) → after_text front line ≡ o → (o >? λ rest. after_text (codes " ") rest >? λ t. with_text t (said_of t)) ≡ Some (text, x)
          → (line ≡ front ++ 32 ∷ text) × (said_of text ≡ Some x)
      by_front None g h = cc h
      by_front (Some rest) g h = by_space rest (after_text (codes " ") rest) refl g h

pub ruleset reading = (after_text_is)
