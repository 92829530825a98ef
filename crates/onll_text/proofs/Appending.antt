use Rattle.std.proofs.Common.{ℕ, Bool, true, false, List, [], ◌∷◌, ◌++◌, ◌≡◌, ◌+◌, ◌-◌, ◌≢◌, ◌||◌, ◌&&◌, ◌==◌, length, slice_index, cond, refl, sym, ap, ◌∙◌, arith, append_assoc, length-append}
use Rattle.std.specs.List.{flat_map, list_all}
use Rattle.std.proofs.lemmas.Bool.Decides.{nat_tests}
use Rattle.std.proofs.lemmas.List.{get_or-append-add, append-nil}
use Rattle.onll_words.specs.Texts.{joined, line_text, is_word_byte, IsWord, AreWords}
use Rattle.onll_text.specs.Bytes.{begins_line, with_word, with_words, with_lines}

pub with_words-append : (bytes : List ℕ) (vs ws : List (List ℕ)) → with_words bytes (vs ++ ws) ≡ with_words (with_words bytes vs) ws
with_words-append bytes [] ws = refl
with_words-append bytes (v ∷ vs) ws = with_words-append (with_word bytes v) vs ws

-- the last byte decides
last_of : (bytes : List ℕ) (b : ℕ) → slice_index (bytes ++ b ∷ []) (length (bytes ++ b ∷ []) - 1) ≡ b
last_of bytes b =
    let n : length (bytes ++ b ∷ []) - 1 ≡ length bytes + 0 = omega (arith, length-append bytes (b ∷ [])) in
    ap (λ k. slice_index (bytes ++ b ∷ []) k) n ∙ get_or-append-add bytes (b ∷ []) 0 0

some_byte : (bytes : List ℕ) (b : ℕ) → (length (bytes ++ b ∷ []) == 0) ≡ false
some_byte bytes b = let n : length (bytes ++ b ∷ []) ≢ 0 = omega (arith, length-append bytes (b ∷ [])) in grind (arith, nat_tests)

-- whether a line begins after a byte
begins_line-byte : (bytes : List ℕ) (b : ℕ) → begins_line (bytes ++ b ∷ []) ≡ (b == 10)
begins_line-byte bytes b = ap (λ t. t || (slice_index (bytes ++ b ∷ []) (length (bytes ++ b ∷ []) - 1) == 10)) (some_byte bytes b) ∙ ap (λ n. n == 10) (last_of bytes b)

-- a line begins after a line end
pub begins_line-end : (bytes : List ℕ) → begins_line (bytes ++ 10 ∷ []) ≡ true
begins_line-end bytes = begins_line-byte bytes 10

pub begins_line-line : (bytes : List ℕ) (ws : List (List ℕ)) → begins_line (bytes ++ line_text ws) ≡ true
begins_line-line bytes ws = ap begins_line (sym (append_assoc bytes (joined ws) (10 ∷ []))) ∙ begins_line-end (bytes ++ joined ws)

-- a line begins after whole lines
pub begins_line-lines : (bytes : List ℕ) (lines : List (List (List ℕ))) → begins_line bytes ≡ true → begins_line (with_lines bytes lines) ≡ true
begins_line-lines bytes [] h = ap begins_line (append-nil bytes) ∙ h
begins_line-lines bytes (ws ∷ lines) h =
    ap begins_line (sym (append_assoc bytes (line_text ws) (flat_map line_text lines)))
    ∙ begins_line-lines (bytes ++ line_text ws) lines (begins_line-line bytes ws)

both : (a b : Bool) → (a && b) ≡ true → (a ≡ true) × (b ≡ true)
both true b h = (refl, h)
both false b h = cc

word_byte : (b : ℕ) → is_word_byte b ≡ true → (b == 10) ≡ false
word_byte b h = grind (arith, nat_tests)

-- inside a line after a word
begins_line-bytes : (bytes word : List ℕ) (b : ℕ) → list_all is_word_byte (b ∷ word) ≡ true → begins_line (bytes ++ b ∷ word) ≡ false
begins_line-bytes bytes [] b h = begins_line-byte bytes b ∙ word_byte b (both (is_word_byte b) true h).0
begins_line-bytes bytes (c ∷ word) b h =
    ap begins_line (sym (append_assoc bytes (b ∷ []) (c ∷ word)))
    ∙ begins_line-bytes (bytes ++ b ∷ []) word c (both (is_word_byte b) (list_all is_word_byte (c ∷ word)) h).1

begins_line-word : (bytes word : List ℕ) → IsWord word → begins_line (bytes ++ word) ≡ false
begins_line-word bytes [] h = (cc h.some)
begins_line-word bytes (b ∷ word) h = begins_line-bytes bytes word b h.bytes

-- words inside a line
with_words-inside : (bytes : List ℕ) (w : List ℕ) (ws : List (List ℕ)) → begins_line bytes ≡ false → AreWords (w ∷ ws) → with_words bytes (w ∷ ws) ≡ bytes ++ 32 ∷ joined (w ∷ ws)
with_words-inside bytes w [] e h = ap (λ t. bytes ++ (cond t [] (32 ∷ []) ++ w)) e
with_words-inside bytes w (v ∷ ws) e h =
    ap (λ t. with_words (bytes ++ (cond t [] (32 ∷ []) ++ w)) (v ∷ ws)) e
    ∙ with_words-inside (bytes ++ 32 ∷ w) v ws (ap begins_line (sym (append_assoc bytes (32 ∷ []) w)) ∙ begins_line-word (bytes ++ 32 ∷ []) w h.0) h.1
    ∙ append_assoc bytes (32 ∷ w) (32 ∷ joined (v ∷ ws))

with_words-begin : (bytes : List ℕ) (w : List ℕ) (ws : List (List ℕ)) → begins_line bytes ≡ true → AreWords (w ∷ ws) → with_words bytes (w ∷ ws) ≡ bytes ++ joined (w ∷ ws)
with_words-begin bytes w [] e h = ap (λ t. bytes ++ (cond t [] (32 ∷ []) ++ w)) e
with_words-begin bytes w (v ∷ ws) e h =
    ap (λ t. with_words (bytes ++ (cond t [] (32 ∷ []) ++ w)) (v ∷ ws)) e
    ∙ with_words-inside (bytes ++ w) v ws (begins_line-word bytes w h.0) h.1
    ∙ append_assoc bytes w (32 ∷ joined (v ∷ ws))

-- words at the front of a line, and its end, are the line's text
pub with_words-line : (bytes : List ℕ) (w : List ℕ) (ws : List (List ℕ)) → begins_line bytes ≡ true → AreWords (w ∷ ws) → with_words bytes (w ∷ ws) ++ 10 ∷ [] ≡ bytes ++ line_text (w ∷ ws)
with_words-line bytes w ws e h = ap (λ t. t ++ 10 ∷ []) (with_words-begin bytes w ws e h) ∙ append_assoc bytes (joined (w ∷ ws)) (10 ∷ [])

-- lines after lines
pub with_lines-append : (bytes : List ℕ) (ls ms : List (List (List ℕ))) → with_lines bytes (ls ++ ms) ≡ with_lines (with_lines bytes ls) ms
with_lines-append bytes [] ms = ap (λ t. t ++ flat_map line_text ms) (sym (append-nil bytes))
with_lines-append bytes (ws ∷ ls) ms =
    sym (append_assoc bytes (line_text ws) (flat_map line_text (ls ++ ms)))
    ∙ with_lines-append (bytes ++ line_text ws) ls ms
    ∙ ap (λ t. t ++ flat_map line_text ms) (append_assoc bytes (line_text ws) (flat_map line_text ls))

-- one line is its text
pub with_lines-one : (bytes : List ℕ) (ws : List (List ℕ)) (ls : List (List (List ℕ))) → with_lines bytes (ws ∷ ls) ≡ with_lines (bytes ++ line_text ws) ls
with_lines-one bytes ws ls = sym (append_assoc bytes (line_text ws) (flat_map line_text ls))

-- where a line begins
pub ruleset beginning = (begins_line-line, begins_line-lines)
