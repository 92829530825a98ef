use Rattle.std.proofs.Common.{ℕ, zero, suc, Bool, true, false, List, [], ◌∷◌, ◌≡◌, ◌+◌, ◌<◌, ◌≤◌, length, take, drop, cond, not, filter, position, Option, Some, None, ◌==◌, nat_lt, slice_index, get_or, refl, ap, sym, ◌∙◌, subst, arith}
use Rattle.std.specs.List.{slice_split, position_or_len}
use Rattle.std.proofs.lemmas.List.Splits.{slice_split_first, slice_split_none, slice_split-cons_yes, length-slice_split}
use Rattle.std.proofs.lemmas.List.Sums.{fails_before_first}
use Rattle.std.proofs.lemmas.List.{drop_all, length-take-le, length-drop, get_or-drop, get_or-take}
use borrow.Author.Tests.{ltb-false}
use Rattle.std.proofs.lemmas.List.Quantifiers.{position-Some}
use Rattle.std.proofs.lemmas.Grind.{common_steps}
use Rattle.onll_words.specs.Texts.{is_blank, is_line_end, is_empty, words_of, lines_of, without_empty_rest, says_something}

some_is : (b : Bool) (k n : ℕ) → cond b (Some k) None ≡ Some n → (b ≡ true) × (k ≡ n)
some_is true k n e = (refl, cc)
some_is false k n e = (cc, cc)

none_is : (b : Bool) (k : ℕ) → cond b (Some k) None ≡ None → b ≡ false
none_is true k e = cc
none_is false k e = refl

-- where an element passes, the first part ends there
pub slice_split-position : (p : ℕ → Bool) (xs : List ℕ) (n : ℕ) → position p xs ≡ Some n
    → (n < length xs) × (slice_split p xs ≡ take n xs ∷ slice_split p (drop (n + 1) xs))
slice_split-position p xs n e =
    let s = some_is (nat_lt (position_or_len p xs) (length xs)) (position_or_len p xs) n e in
    let lt = (position-Some p xs n 0 e).0 in
    (lt, subst (λ (k : ℕ). slice_split p xs ≡ take k xs ∷ slice_split p (drop (k + 1) xs)) s.1 (slice_split_first p xs 0 (omega (arith, s.1, lt))))

-- where none does, the list is the one part
pub slice_split-no_position : (p : ℕ → Bool) (xs : List ℕ) → position p xs ≡ None → slice_split p xs ≡ xs ∷ []
slice_split-no_position p xs e =
    let s = none_is (nat_lt (position_or_len p xs) (length xs)) (position_or_len p xs) e in
    let past : length xs ≤ position_or_len p xs = omega (arith, ltb-false, s) in
    slice_split_none p xs (λ k d h. fails_before_first p xs k d (omega arith))

-- blanks at the front make no word
words_of-blank : (x : ℕ) (xs : List ℕ) → is_blank x ≡ true → words_of (x ∷ xs) ≡ words_of xs
words_of-blank x xs e = ap (filter (λ w. not (is_empty w))) (slice_split-cons_yes is_blank x xs e)

past_blank : (b : Bool) (x : ℕ) (xs : List ℕ) (n : ℕ) → is_blank x ≡ b → words_of (drop n xs) ≡ words_of xs
    → words_of (drop (cond (not (not b)) (1 + n) 0) (x ∷ xs)) ≡ words_of (x ∷ xs)
past_blank true x xs n e h =
    let s : 1 + n ≡ suc n = omega arith in
    ap (λ k. words_of (drop k (x ∷ xs))) s ∙ h ∙ sym (words_of-blank x xs e)
past_blank false x xs n e h = refl

pub words_of-past_blanks : (xs : List ℕ) → words_of (drop (position_or_len (λ b. not (is_blank b)) xs) xs) ≡ words_of xs
words_of-past_blanks [] = refl
words_of-past_blanks (x ∷ xs) = past_blank (is_blank x) x xs _ refl (words_of-past_blanks xs)

-- a line begins where its first byte that isn't blank stands
pub words_of-from_mark : (line : List ℕ) (n : ℕ) → position (λ b. not (is_blank b)) line ≡ Some n → words_of line ≡ words_of (drop n line)
words_of-from_mark line n e =
    let p = λ (b : ℕ). not (is_blank b) in
    let s = some_is (nat_lt (position_or_len p line) (length line)) (position_or_len p line) n e in
    sym (words_of-past_blanks line) ∙ ap (λ k. words_of (drop k line)) s.1

true_not : (b : Bool) → not b ≡ true → b ≡ false
true_not true e = cc
true_not false e = refl

-- the byte there isn't blank
pub no_blank_at_mark : (line : List ℕ) (n : ℕ) → position (λ b. not (is_blank b)) line ≡ Some n → is_blank (slice_index (drop n line) 0) ≡ false
no_blank_at_mark line n e =
    let place : n + 0 ≡ n = omega arith in
    ap is_blank (get_or-drop n line 0 0 ∙ ap (λ k. get_or line k 0) place)
    ∙ true_not (is_blank (get_or line n 0)) (position-Some (λ b. not (is_blank b)) line n 0 e).1

-- a line of blanks has no word
pub words_of-no_mark : (line : List ℕ) → position (λ b. not (is_blank b)) line ≡ None → words_of line ≡ []
words_of-no_mark line e =
    let p = λ (b : ℕ). not (is_blank b) in
    let s = none_is (nat_lt (position_or_len p line) (length line)) (position_or_len p line) e in
    sym (words_of-past_blanks line) ∙ ap words_of (drop_all _ line (omega (arith, ltb-false, s)))

one_kept : (w : List ℕ) (ws : List (List ℕ)) → 0 < length w → filter (λ w. not (is_empty w)) (w ∷ ws) ≡ w ∷ filter (λ w. not (is_empty w)) ws
one_kept w ws h = grind (arith, common_steps)

not_first : (text : List ℕ) (n : ℕ) → is_blank (slice_index text 0) ≡ false → is_blank (get_or text n 0) ≡ true → 0 < n
not_first text zero e f = cc
not_first text (suc n) e f = omega arith

-- the first word ends at the first blank
pub words_of-to_blank : (text : List ℕ) (n : ℕ) → is_blank (slice_index text 0) ≡ false → position is_blank text ≡ Some n
    → words_of text ≡ take n text ∷ words_of (drop (n + 1) text)
words_of-to_blank text n first e =
    let cut = slice_split-position is_blank text n e in
    let some : 0 < n = not_first text n first (position-Some is_blank text n 0 e).1 in
    ap (filter (λ w. not (is_empty w))) cut.1 ∙ one_kept (take n text) (slice_split is_blank (drop (n + 1) text)) (omega (arith, length-take-le n text (omega (arith, cut.0)), some))

-- a text with no blank is one word
pub words_of-no_blank : (text : List ℕ) → 0 < length text → position is_blank text ≡ None → words_of text ≡ text ∷ []
words_of-no_blank text h e = ap (filter (λ w. not (is_empty w))) (slice_split-no_position is_blank text e) ∙ one_kept text [] h

-- a part that others follow is a line
pub kept_before : (x : List ℕ) (parts : List (List ℕ)) → 0 < length parts → without_empty_rest (x ∷ parts) ≡ x ∷ without_empty_rest parts
kept_before x [] h = absurd (omega arith)
kept_before x (y ∷ more) h = refl

-- a line ends at the first line end
pub lines_of-to_end : (text : List ℕ) (n : ℕ) → position is_line_end text ≡ Some n → lines_of text ≡ take n text ∷ lines_of (drop (n + 1) text)
lines_of-to_end text n e =
    ap without_empty_rest (slice_split-position is_line_end text n e).1
    ∙ kept_before (take n text) (slice_split is_line_end (drop (n + 1) text)) (omega (arith, length-slice_split is_line_end (drop (n + 1) text)))

one_line : (text : List ℕ) → 0 < length text → without_empty_rest (text ∷ []) ≡ text ∷ []
one_line text h = grind (arith, common_steps)

-- a text with no line end is one line
pub lines_of-no_end : (text : List ℕ) → 0 < length text → position is_line_end text ≡ None → lines_of text ≡ text ∷ []
lines_of-no_end text h e = ap without_empty_rest (slice_split-no_position is_line_end text e) ∙ one_line text h

-- where words and lines end
pub ruleset cutting = (words_of-from_mark, words_of-no_mark, no_blank_at_mark, words_of-to_blank, words_of-no_blank, lines_of-to_end, lines_of-no_end)

-- ---- whether a line says something
says_by_end : (text : List ℕ) (end : Option ℕ) → position is_blank text ≡ end → 0 < length text → is_blank (slice_index text 0) ≡ false
    → says_something (words_of text) ≡ not (slice_index text 0 == 35)
says_by_end text None e some first = ap says_something (words_of-no_blank text some e)
says_by_end text (Some k) e some first =
    let more : 0 < k = not_first text k first (position-Some is_blank text k 0 e).1 in
    ap says_something (words_of-to_blank text k first e) ∙ ap (λ (b : ℕ). not (b == 35)) (get_or-take k text 0 0 more)

-- by the first byte that isn't blank
pub says_from_mark : (line : List ℕ) (n : ℕ) → position (λ b. not (is_blank b)) line ≡ Some n → says_something (words_of line) ≡ not (slice_index line n == 35)
says_from_mark line n e =
    let text = drop n line in
    let place : n + 0 ≡ n = omega arith in
    let within = (position-Some (λ b. not (is_blank b)) line n 0 e).0 in
    ap says_something (words_of-from_mark line n e)
    ∙ (says_by_end text (position is_blank text) refl (omega (arith, length-drop n line, within)) (no_blank_at_mark line n e)
    ∙ ap (λ (b : ℕ). not (b == 35)) (get_or-drop n line 0 0 ∙ ap (λ k. get_or line k 0) place))

pub says_no_mark : (line : List ℕ) → position (λ b. not (is_blank b)) line ≡ None → says_something (words_of line) ≡ false
says_no_mark line e = ap says_something (words_of-no_mark line e)

pub ruleset marking = (says_from_mark, says_no_mark)
