-- The text of an era reads as the state that is printed after its first line.
use Rattle.std.proofs.Common.{ℕ, zero, suc, ◌≡◌, ◌+◌, ◌<◌, ◌≤◌, Bool, true, false, List, [], ◌∷◌, ◌++◌, length, filter, refl, ap, ◌∙◌, subst, arith, append_assoc, length-append, decimal, ◌%◌, ◌^◌, Ok, Err, Result, cond, get_or}
use Rattle.std.specs.Prelude.{not, codes}
use Rattle.std.specs.List.{slice_split, All, list_all, flat_map}
use Rattle.std.proofs.lemmas.List.Splits.{slice_split_at, length-slice_split}
use Rattle.std.proofs.lemmas.List.Sums.{AllPass-from_list_all}
use Rattle.onll_words.specs.Texts.{Numbered, is_line_end, words_of, lines_of, meaningful_lines, numbered, is_meaningful, says_something, joined, line_text, without_empty_rest, AreWords}
use Rattle.onll_words.proofs.Decimals.{IsWord-decimal}
use Rattle.onll_words.proofs.Joined.{words_of-joined, list_all-joined}
use Rattle.onll_text.specs.declared.reason.Reason.{Reason}
use Rattle.onll_text.specs.declared.reason.Reason.TheVariants.{TooLong}
use Rattle.onll_text.specs.declared.any_object.AnyObject.{AnyObject}
use Rattle.onll_text.specs.declared.any_object.Kind.{Kind}
use Rattle.onll_text.specs.Refusal.{Refusal, refused, ◌>>=◌, at_line}
use Rattle.onll_text.specs.Script.{longest_text, is_too_long}
use Rattle.onll_text.specs.Wording.{longest_state}
use Rattle.onll_text.specs.Making.{after_lines}
use Rattle.onll_text.specs.Init.{head_of, states_of, object_at, object_of, init_of_lines, init_of}
use Rattle.onll_text.specs.EraText.{era_words, era_text}
use Rattle.onll_text.specs.WordsAgain.{length-decimal}
use Rattle.onll_text.proofs.ReadBack.{not_too_long}
use Rattle.onll_text.proofs.PrintedStates.{bytes_of_test}
use Rattle.onll_words.proofs.WordBytes.{Bytes}
use Rattle.std.proofs.lemmas.Fmt.{decimal_by_steps}

-- ---- a line that is skipped
not_false : (b : Bool) → not b ≡ true → b ≡ false
not_false true e = absurd (cc)
not_false false e = refl

no_end : (l : List ℕ) → list_all (λ b. not (is_line_end b)) l ≡ true → All (λ b. is_line_end b ≡ false) l
no_end l h k d lt = not_false (is_line_end (get_or l k d)) (AllPass-from_list_all (λ b. not (is_line_end b)) l h k d lt)

line_before : (l : List ℕ) (parts : List (List ℕ)) → 0 < length parts → without_empty_rest (l ∷ parts) ≡ l ∷ without_empty_rest parts
line_before l [] h = absurd (omega arith)
line_before l (p ∷ parts) h = refl

lines_of-line : (ws : List (List ℕ)) (text : List ℕ) → AreWords ws → lines_of (line_text ws ++ text) ≡ joined ws ∷ lines_of text
lines_of-line ws text h =
    ap lines_of (append_assoc (joined ws) (10 ∷ []) text)
    ∙ (ap without_empty_rest (slice_split_at is_line_end (joined ws) 10 text (no_end (joined ws) (list_all-joined ws h)) refl)
    ∙ line_before (joined ws) (slice_split is_line_end text) (omega (arith, length-slice_split is_line_end text)))

-- after it the lines are those of the text, with other numbers
skipped : (ws : List (List ℕ)) (text : List ℕ) → AreWords ws → says_something ws ≡ false → meaningful_lines (line_text ws ++ text) ≡ filter is_meaningful (numbered 2 (lines_of text))
skipped ws text h none =
    ap (λ ls. filter is_meaningful (numbered 1 ls)) (lines_of-line ws text h)
    ∙ ap (λ (b : Bool). cond b (record { number = 1; line = joined ws } ∷ filter is_meaningful (numbered 2 (lines_of text))) (filter is_meaningful (numbered 2 (lines_of text))))
    (ap says_something (words_of-joined ws h) ∙ none)

-- ---- other numbers
-- the same lines, whatever their numbers
abbrev AreAlike : List Numbered → List Numbered → Type 0
AreAlike [] [] = Unit {0}
AreAlike (x ∷ xs) (y ∷ ys) = (x.line ≡ y.line) × AreAlike xs ys
AreAlike xs ys = ⊥

alike_more : (b : Bool) (x y : Numbered) (xs ys : List Numbered) → x.line ≡ y.line → AreAlike xs ys → AreAlike (cond b (x ∷ xs) xs) (cond b (y ∷ ys) ys)
alike_more true x y xs ys e h = (e, h)
alike_more false x y xs ys e h = h

alike_numbers : (n m : ℕ) (ls : List (List ℕ)) → AreAlike (filter is_meaningful (numbered n ls)) (filter is_meaningful (numbered m ls))
alike_numbers n m [] = tt
alike_numbers n m (l ∷ ls) =
    alike_more (says_something (words_of l)) (record { number = n; line = l }) (record { number = m; line = l })
    (filter is_meaningful (numbered (n + 1) ls)) (filter is_meaningful (numbered (m + 1) ls)) refl (alike_numbers (n + 1) (m + 1) ls)

-- what is accepted is accepted with any numbers
line_alike : {A B : Type 0} (n m : ℕ) (v : Result A Reason) (f g : A → Result B Refusal) (y : B) → ((x : A) → f x ≡ Ok y → g x ≡ Ok y)
    → (at_line n v >>= f) ≡ Ok y → (at_line m v >>= g) ≡ Ok y
line_alike n m (Ok x) f g y same e = same x e
line_alike n m (Err r) f g y same e = absurd (cc)

then_alike : {A B : Type 0} (v w : Result A Refusal) (f : A → Result B Refusal) (y : B) → ((x : A) → v ≡ Ok x → w ≡ Ok x) → (v >>= f) ≡ Ok y → (w >>= f) ≡ Ok y
then_alike (Ok x) w f y same e = ap (λ r. r >>= f) (same x refl) ∙ e
then_alike (Err r) w f y same e = absurd (cc)

after_alike : {Making : Type 0} (with_line : Making → List (List ℕ) → Result Making Reason) (made end : Making) (xs ys : List Numbered)
    → AreAlike xs ys → after_lines with_line made xs ≡ Ok end → after_lines with_line made ys ≡ Ok end
after_alike with_line made end [] [] h e = e
after_alike with_line made end [] (y ∷ ys) h e = absurd h
after_alike with_line made end (x ∷ xs) [] h e = absurd h
after_alike {Making} with_line made end (x ∷ xs) (y ∷ ys) h e =
    subst (λ (l : List ℕ). (at_line y.number (with_line made (words_of l)) >>= λ more. after_lines with_line more ys) ≡ Ok end) h.0
    (line_alike x.number y.number (with_line made (words_of x.line)) (λ more. after_lines with_line more xs) (λ more. after_lines with_line more ys) end
    (λ more f. after_alike with_line more end xs ys h.1 f) e)

object_alike : (kind : Kind) (capacity : ℕ) (xs ys : List Numbered) (object : AnyObject) → AreAlike xs ys → object_of kind capacity xs ≡ Ok object → object_of kind capacity ys ≡ Ok object
object_alike kind capacity xs ys object h e =
    let k = states_of kind in
    then_alike (after_lines k.with_line (k.begun capacity) xs) (after_lines k.with_line (k.begun capacity) ys) (λ made. Ok (object_at kind (k.ended made))) object
    (λ made g. after_alike k.with_line (k.begun capacity) made xs ys h g) e

init_alike : (xs ys : List Numbered) (object : AnyObject) → AreAlike xs ys → init_of_lines xs ≡ Ok object → init_of_lines ys ≡ Ok object
init_alike [] [] object h e = absurd (cc)
init_alike [] (y ∷ ys) object h e = absurd h
init_alike (x ∷ xs) [] object h e = absurd h
init_alike (x ∷ xs) (y ∷ ys) object h e =
    subst (λ (l : List ℕ). (at_line y.number (head_of (words_of l)) >>= λ head. object_of head.kind head.capacity ys) ≡ Ok object) h.0
    (line_alike x.number y.number (head_of (words_of x.line)) (λ head. object_of head.kind head.capacity xs) (λ head. object_of head.kind head.capacity ys) object
    (λ head f. object_alike head.kind head.capacity xs ys object h.1 f) e)

-- ---- the text of an era
of_lines : (text : List ℕ) (object : AnyObject) → init_of text ≡ Ok object → init_of_lines (meaningful_lines text) ≡ Ok object
of_lines text object e = at (is_too_long text) e
  where
    at : (b : Bool) → cond b (Err (refused 0 TooLong)) (init_of_lines (meaningful_lines text)) ≡ Ok object → init_of_lines (meaningful_lines text) ≡ Ok object
    at true h = absurd (cc)
    at false h = h

-- a line that is skipped changes nothing of what a text is read as, where both are short enough
pub init_of-after_line : (ws : List (List ℕ)) (text : List ℕ) (object : AnyObject) → AreWords ws → says_something ws ≡ false → length (line_text ws ++ text) ≤ longest_text
    → init_of text ≡ Ok object → init_of (line_text ws ++ text) ≡ Ok object
init_of-after_line ws text object words none short e =
    ap (λ (b : Bool). cond b (Err (refused 0 TooLong)) (init_of_lines (meaningful_lines (line_text ws ++ text)))) (not_too_long (line_text ws ++ text) short)
    ∙ (ap init_of_lines (skipped ws text words none)
    ∙ init_alike (filter is_meaningful (numbered 1 (lines_of text))) (filter is_meaningful (numbered 2 (lines_of text))) object (alike_numbers 1 2 (lines_of text)) (of_lines text object e))

words_of_era : (number place : ℕ) → AreWords (era_words number place)
words_of_era number place = (record { some = refl; bytes = refl }, (record { some = refl; bytes = refl }, (IsWord-decimal number, (IsWord-decimal place, tt))))

-- ---- how long it is, and that it is of bytes
length-era_words : (number place : ℕ) → number < 2 ^ 64 → place < 2 ^ 64 → length (line_text (era_words number place)) ≤ 60
length-era_words number place n p =
    omega (
      arith,
      length-append (decimal number) (32 ∷ decimal place),
      length-append (decimal number ++ 32 ∷ decimal place) (10 ∷ []),
      length-decimal number n,
      length-decimal place p,
    )

-- the text of an era is by a line longer than what is printed of its state
pub length-era_text : (number place : ℕ) (lines : List (List (List ℕ))) → number < 2 ^ 64 → place < 2 ^ 64
    → length (era_text number place lines) ≤ length (flat_map line_text lines) + 60
length-era_text number place lines n p =
    omega (arith, length-append (line_text (era_words number place)) (flat_map line_text lines), length-era_words number place n p)

-- so it is short enough for a text
pub era_text-short : (number place : ℕ) (lines : List (List (List ℕ))) → number < 2 ^ 64 → place < 2 ^ 64 → length (flat_map line_text lines) ≤ longest_state
    → length (era_text number place lines) ≤ longest_text
era_text-short number place lines n p short = omega (arith, length-era_text number place lines n p)

-- it reads as the state that is printed behind its first line
pub era_text-reads : (number place : ℕ) (lines : List (List (List ℕ))) (object : AnyObject) → number < 2 ^ 64 → place < 2 ^ 64 → length (flat_map line_text lines) ≤ longest_state
    → init_of (flat_map line_text lines) ≡ Ok object → init_of (era_text number place lines) ≡ Ok object
era_text-reads number place lines object n p short e =
    init_of-after_line (era_words number place) (flat_map line_text lines) object (words_of_era number place) refl (era_text-short number place lines n p short) e

Bytes-append : (xs ys : List ℕ) → Bytes xs → Bytes ys → Bytes (xs ++ ys)
Bytes-append [] ys a b i = b i
Bytes-append (x ∷ xs) ys a b zero = a 0
Bytes-append (x ∷ xs) ys a b (suc i) = Bytes-append xs ys (λ j. a (suc j)) b i

Bytes-one : (b : ℕ) → b < 256 → Bytes (b ∷ [])
Bytes-one b l zero = l
Bytes-one b l (suc i) = omega arith

Bytes-cons : (b : ℕ) (bs : List ℕ) → b < 256 → Bytes bs → Bytes (b ∷ bs)
Bytes-cons b bs l h zero = l
Bytes-cons b bs l h (suc i) = h i

Bytes-decimal : (n : ℕ) → n < 2 ^ 64 → Bytes (decimal n)
Bytes-decimal n l = decimal_by_steps (λ m ds. Bytes ds) (λ m h. Bytes-one (48 + m) (omega arith)) (λ m ds h b. Bytes-append ds ((48 + m % 10) ∷ []) b (Bytes-one (48 + m % 10) (omega arith))) n l

Bytes-codes : Bytes (codes "# checkpoint ")
Bytes-codes = bytes_of_test (codes "# checkpoint ") refl

-- it is of bytes where what is printed of its state is
pub Bytes-era_text : (number place : ℕ) (lines : List (List (List ℕ))) → number < 2 ^ 64 → place < 2 ^ 64 → Bytes (flat_map line_text lines) → Bytes (era_text number place lines)
Bytes-era_text number place lines n p h =
    let digits : List ℕ = decimal number ++ (32 ∷ decimal place) in
    let both : Bytes digits = Bytes-append (decimal number) (32 ∷ decimal place) (Bytes-decimal number n) (Bytes-cons 32 (decimal place) (omega arith) (Bytes-decimal place p)) in
    let line : Bytes (digits ++ (10 ∷ [])) = Bytes-append digits (10 ∷ []) both (Bytes-one 10 (omega arith)) in
    Bytes-append (codes "# checkpoint ") ((digits ++ (10 ∷ [])) ++ flat_map line_text lines) Bytes-codes (Bytes-append (digits ++ (10 ∷ [])) (flat_map line_text lines) line h)
