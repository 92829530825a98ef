use Rattle.std.proofs.Common.{ℕ, zero, suc, Bool, true, false, List, [], ◌∷◌, ◌≡◌, ◌+◌, ◌-◌, ◌<◌, length, take, drop, get_or, Some, None, refl, ap, sym, ◌∙◌, arith, subst, cond, nat_lt, nat_eq, position, ◌≤◌}
use Rattle.std.specs.List.{slice_split, starts_with, join_with_byte, position_or_len}
use Rattle.std.proofs.lemmas.List.{length-take}
use Rattle.std.proofs.lemmas.List.Splits.{join_with_byte-slice_split, length-slice_split, slice_split_first, slice_split_none}
use Rattle.std.proofs.lemmas.List.Sums.{fails_before_first}
use Rattle.std.proofs.lemmas.List.Quantifiers.{position-Some}
use borrow.Author.Tests.{ltb-false}
use Rattle.onll_words.specs.Texts.{is_line_end}
use Rattle.onll_text.proofs.SameBytes.{other_length}
use Rattle.onll_audit.specs.Fields.{is_space, cut_last, some_if, last_field}
use Rattle.onll_audit.specs.Form.{next_part}

-- ---- the front
-- a text that is too short begins with no front
pub too_short : (text front : List ℕ) → length text < length front → starts_with nat_eq text front ≡ false
too_short text front lt =
    other_length front (take (length front) text) (λ e. absurd (omega (arith, e, length-take (length front) text)))

pub ruleset beginning = (too_short)

-- ---- the last space
last_at : (n : ℕ) (text : List ℕ) → n < length text → get_or text n 0 ≡ 32 → last_field (drop (suc n) text) ≡ None
    → last_field text ≡ Some (take n text, drop (suc n) text)
last_at n [] lt g h = absurd (omega arith)
last_at zero (b ∷ bs) lt g h = ap (cut_last b bs) h ∙ ap (λ (x : ℕ). some_if (is_space x) ([], bs)) g
last_at (suc n) (b ∷ bs) lt g h = ap (cut_last b bs) (last_at n bs (omega arith) g h)

-- a space at i - 1, and none from i on
pub last_field-at : (i : ℕ) (text rest : List ℕ) → 0 < i → i - 1 < length text → get_or text (i - 1) 0 ≡ 32 → last_field (drop i text) ≡ None
    → rest ≡ drop (i - 1 + 1) text → last_field text ≡ Some (take (i - 1) text, rest)
last_field-at i text rest some lt g h e =
    let up : i ≡ suc (i - 1) = omega arith in
    let more : i - 1 + 1 ≡ suc (i - 1) = omega arith in
    let P : ℕ → Type 0 = λ (j : ℕ). last_field (drop j text) ≡ None in
    last_at (i - 1) text lt g (subst P up h)
    ∙ ap (λ (r : List ℕ). Some (take (i - 1) text, r)) (sym (e ∙ ap (λ (j : ℕ). drop j text) more))

-- ---- whole lines
some_is : (b : Bool) (k n : ℕ) → cond b (Some k) None ≡ Some n → (b ≡ true) × (k ≡ n)
some_is true k n e = (refl, cc)
some_is false k n e = (cc, cc)

none_is : (b : Bool) (k : ℕ) → cond b (Some k) None ≡ None → b ≡ false
none_is true k e = cc
none_is false k e = refl

-- where an element passes, the first part ends there
pub slice_split-position : (p : ℕ → Bool) (xs : List ℕ) (n : ℕ) → position p xs ≡ Some n
    → slice_split p xs ≡ take n xs ∷ slice_split p (drop (n + 1) xs)
slice_split-position p xs n e =
    let s = some_is (nat_lt (position_or_len p xs) (length xs)) (position_or_len p xs) n e in
    let lt = (position-Some p xs n 0 e).0 in
    subst (λ (k : ℕ). slice_split p xs ≡ take k xs ∷ slice_split p (drop (k + 1) xs)) s.1 (slice_split_first p xs 0 (omega (arith, s.1, lt)))

-- where none does, the list is the one part
pub slice_split-no_position : (p : ℕ → Bool) (xs : List ℕ) → position p xs ≡ None → slice_split p xs ≡ xs ∷ []
slice_split-no_position p xs e =
    let s = none_is (nat_lt (position_or_len p xs) (length xs)) (position_or_len p xs) e in
    let past : length xs ≤ position_or_len p xs = omega (arith, ltb-false, s) in
    slice_split_none p xs (λ k d h. fails_before_first p xs k d (omega arith))

-- a part that others follow is a whole line
pub next_part-whole : (p : ℕ → Bool) (n : ℕ) (x rest : List ℕ) → next_part n (x ∷ slice_split p rest) ≡ Some (x, record { number = n + 1; parts = slice_split p rest })
next_part-whole p n x rest = by_parts (slice_split p rest) (omega (arith, length-slice_split p rest))
  where
    by_parts : (parts : List (List ℕ)) → 0 < length parts → next_part n (x ∷ parts) ≡ Some (x, record { number = n + 1; parts = parts })
    by_parts [] lt = absurd (omega arith)
    by_parts (y ∷ more) lt = refl

-- the lines from one that has an end, and a text with no line end
pub next_line-end : (n : ℕ) (text : List ℕ) (i : ℕ) → position is_line_end text ≡ Some i
    → next_part n (slice_split is_line_end text) ≡ Some (take i text, record { number = n + 1; parts = slice_split is_line_end (drop (i + 1) text) })
next_line-end n text i e =
    let lt = (position-Some is_line_end text i 0 e).0 in
    ap (next_part n) (slice_split-position is_line_end text i e) ∙ next_part-whole is_line_end n (take i text) (drop (i + 1) text)

pub next_line-none : (n : ℕ) (text : List ℕ) → position is_line_end text ≡ None → next_part n (slice_split is_line_end text) ≡ None
next_line-none n text e = ap (next_part n) (slice_split-no_position is_line_end text e)

pub ruleset splitting = (next_line-end, next_line-none)

-- the text of parts
pub join_parts : (text : List ℕ) → join_with_byte 10 (slice_split is_line_end text) ≡ text
join_parts text = join_with_byte-slice_split 10 text

pub ruleset joining = (join_parts)
