use Rattle.std.proofs.Common.{ℕ, Bool, true, false, List, [], ◌∷◌, ◌++◌, ◌≡◌, ◌+◌, map, cond, not, filter, get_or, refl, ap, ◌∙◌, append_assoc, arith, ◌||◌, ◌&&◌, sym}
use Rattle.std.specs.List.{slice_split, All, list_all, flat_map}
use Rattle.std.proofs.lemmas.List.Splits.{slice_split_at, slice_split_none, length-slice_split}
use Rattle.std.proofs.lemmas.List.Sums.{AllPass-from_list_all, list_all-from_AllPass}
use Rattle.std.proofs.lemmas.List.Folds.{list_all-append}
use Rattle.onll_words.specs.Texts.{is_blank, is_line_end, is_empty, is_word_byte, words_of, lines_of, meaningful_lines, numbered, is_meaningful, says_something, joined, line_text, without_empty_rest, IsWord, AreWords, AreTextLines, AreMeaningful, Numbered}
use Rattle.onll_words.proofs.Cuts.{kept_before}

neither : (a b : Bool) → not (a || b) ≡ true → (a ≡ false) × (b ≡ false)
neither true b e = (cc, cc)
neither false true e = (refl, cc)
neither false false e = (refl, refl)

no_blank : (w : List ℕ) → IsWord w → All (λ b. is_blank b ≡ false) w
no_blank w h k d lt = (neither (is_blank (get_or w k d)) (is_line_end (get_or w k d)) (AllPass-from_list_all is_word_byte w h.bytes k d lt)).0

one_word : (w : List ℕ) (ws : List (List ℕ)) → is_empty w ≡ false → filter (λ w. not (is_empty w)) (w ∷ ws) ≡ w ∷ filter (λ w. not (is_empty w)) ws
one_word w ws h = ap (λ b. cond (not b) (w ∷ filter (λ w. not (is_empty w)) ws) (filter (λ w. not (is_empty w)) ws)) h

-- words joined by spaces are read back
pub words_of-joined : (ws : List (List ℕ)) → AreWords ws → words_of (joined ws) ≡ ws
words_of-joined [] h = refl
words_of-joined (w ∷ []) h =
    ap (filter (λ w. not (is_empty w))) (slice_split_none is_blank w (no_blank w h.0)) ∙ one_word w [] h.0.some
words_of-joined (w ∷ v ∷ ws) h =
    ap (filter (λ w. not (is_empty w))) (slice_split_at is_blank w 32 (joined (v ∷ ws)) (no_blank w h.0) refl)
    ∙ one_word w (slice_split is_blank (joined (v ∷ ws))) h.0.some
    ∙ ap (λ t. w ∷ t) (words_of-joined (v ∷ ws) h.1)

other_than_end : (b : Bool) → not b ≡ true → b ≡ false
other_than_end true e = cc
other_than_end false e = refl

no_end : (l : List ℕ) → list_all (λ b. not (is_line_end b)) l ≡ true → All (λ b. is_line_end b ≡ false) l
no_end l h k d lt = other_than_end (is_line_end (get_or l k d)) (AllPass-from_list_all (λ b. not (is_line_end b)) l h k d lt)

-- lines that are written one after another are read back
pub lines_of-flat_map : (ls : List (List ℕ)) → AreTextLines ls → lines_of (flat_map (λ l. l ++ 10 ∷ []) ls) ≡ ls
lines_of-flat_map [] h = refl
lines_of-flat_map (l ∷ ls) h =
    let rest = flat_map (λ l. l ++ 10 ∷ []) ls in
    ap lines_of (append_assoc l (10 ∷ []) rest)
    ∙ ap without_empty_rest (slice_split_at is_line_end l 10 rest (no_end l h.0) refl)
    ∙ kept_before l (slice_split is_line_end rest) (omega (arith, length-slice_split is_line_end rest))
    ∙ ap (λ t. l ∷ t) (lines_of-flat_map ls h.1)

both : (a b : Bool) → a ≡ true → b ≡ true → (a && b) ≡ true
both a b g h = ap (λ t. t && b) g ∙ h

word_has_no_end : (w : List ℕ) → list_all is_word_byte w ≡ true → list_all (λ b. not (is_line_end b)) w ≡ true
word_has_no_end w h =
    list_all-from_AllPass (λ b. not (is_line_end b)) w
    (λ k d lt. ap not (neither (is_blank (get_or w k d)) (is_line_end (get_or w k d)) (AllPass-from_list_all is_word_byte w h k d lt)).1)

-- joined words have no line end
pub list_all-joined : (ws : List (List ℕ)) → AreWords ws → list_all (λ b. not (is_line_end b)) (joined ws) ≡ true
list_all-joined [] h = refl
list_all-joined (w ∷ []) h = word_has_no_end w h.0.bytes
list_all-joined (w ∷ v ∷ ws) h =
    list_all-append (λ b. not (is_line_end b)) w (32 ∷ joined (v ∷ ws))
    ∙ both (list_all (λ b. not (is_line_end b)) w) (list_all (λ b. not (is_line_end b)) (32 ∷ joined (v ∷ ws))) (word_has_no_end w h.0.bytes) (list_all-joined (v ∷ ws) h.1)

pub AreLines-joined : (lines : List (List (List ℕ))) → AreMeaningful lines → AreTextLines (map joined lines)
AreLines-joined [] h = tt
AreLines-joined (ws ∷ lines) h = (list_all-joined ws h.0, AreLines-joined lines h.2)

pub flat_map-line_text : (lines : List (List (List ℕ))) → flat_map line_text lines ≡ flat_map (λ l. l ++ 10 ∷ []) (map joined lines)
flat_map-line_text [] = refl
flat_map-line_text (ws ∷ lines) = ap (λ t. line_text ws ++ t) (flat_map-line_text lines)

pub filter-numbered : (n : ℕ) (lines : List (List (List ℕ))) → AreMeaningful lines → filter is_meaningful (numbered n (map joined lines)) ≡ numbered n (map joined lines)
filter-numbered n [] h = refl
filter-numbered n (ws ∷ lines) h =
    let rest = numbered (n + 1) (map joined lines) in
    ap (λ b. cond b (record { number = n; line = joined ws } ∷ filter is_meaningful rest) (filter is_meaningful rest)) (ap says_something (words_of-joined ws h.0) ∙ h.1)
    ∙ ap (λ t. record { number = n; line = joined ws } ∷ t) (filter-numbered (n + 1) lines h.2)

-- lines of words that are written one after another are read back, each with its number
pub meaningful_lines-flat_map : (lines : List (List (List ℕ))) → AreMeaningful lines → meaningful_lines (flat_map line_text lines) ≡ numbered 1 (map joined lines)
meaningful_lines-flat_map lines h =
    ap (λ ls. filter is_meaningful (numbered 1 ls)) (ap lines_of (flat_map-line_text lines) ∙ lines_of-flat_map (map joined lines) (AreLines-joined lines h))
    ∙ filter-numbered 1 lines h

words_of-numbered : (n : ℕ) (lines : List (List (List ℕ))) → AreMeaningful lines → map (λ (l : Numbered). words_of l.line) (numbered n (map joined lines)) ≡ lines
words_of-numbered n [] h = refl
words_of-numbered n (ws ∷ lines) h =
    ap (λ v. v ∷ map (λ (l : Numbered). words_of l.line) (numbered (n + 1) (map joined lines))) (words_of-joined ws h.0)
    ∙ ap (λ ls. ws ∷ ls) (words_of-numbered (n + 1) lines h.2)

pub text_determined : (lines others : List (List (List ℕ))) → AreMeaningful lines → AreMeaningful others → flat_map line_text lines ≡ flat_map line_text others → lines ≡ others
text_determined lines others g h e =
    sym (words_of-numbered 1 lines g)
    ∙ ap (map (λ (l : Numbered). words_of l.line)) (sym (meaningful_lines-flat_map lines g) ∙ ap meaningful_lines e ∙ meaningful_lines-flat_map others h)
    ∙ words_of-numbered 1 others h

pub AreMeaningful-append : (lines more : List (List (List ℕ))) → AreMeaningful lines → AreMeaningful more → AreMeaningful (lines ++ more)
AreMeaningful-append [] more g h = h
AreMeaningful-append (ws ∷ lines) more g h = (g.0, g.1, AreMeaningful-append lines more g.2 h)

-- a line and those after it
pub line_same : {A : Type 0} (x y : A) (xs ys : List A) → x ∷ xs ≡ y ∷ ys → (x ≡ y) × (xs ≡ ys)
line_same x y xs ys e = (cc, cc)

pub line_none : {A : Type 0} (x : A) (xs : List A) → x ∷ xs ≡ [] → ⊥
line_none x xs e = cc
