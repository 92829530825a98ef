use Rattle.std.proofs.Common.{ℕ, true, false, ◌&&◌, nat_le, List, [], ◌∷◌, ◌≡◌, ◌≤◌, cond, length, map, decimal, ap, ◌∙◌, arith, Ok, Err, Result}
use Rattle.std.specs.List.{flat_map}
use Rattle.std.proofs.lemmas.Bool.Decides.{nat_tests}
use Rattle.onll_words.specs.Texts.{Numbered, meaningful_lines, numbered, joined, line_text, AreWords, AreMeaningful}
use Rattle.onll_words.proofs.Joined.{words_of-joined, meaningful_lines-flat_map}
use Rattle.onll_text.specs.declared.reason.Reason.{Reason}
use Rattle.onll_text.specs.declared.reason.Reason.TheVariants.{OutOfRange, TooLong}
use Rattle.onll_text.specs.declared.init.Head.{Head}
use Rattle.onll_text.specs.Refusal.{refused, ◌>>=◌, only_if, at_line}
use Rattle.onll_text.specs.WordsAgain.{one_number-decimal}
use Rattle.onll_text.specs.Script.{longest_text, is_too_long}
use Rattle.onll_text.specs.Wording.{longest_state}
use Rattle.onll_text.specs.Making.{after_lines}
use Rattle.onll_text.specs.Init.{capacity_of, head_of, object_of, init_of_lines, init_of}

pub capacity_of-decimal : (n : ℕ) → 1 ≤ n → n ≤ 4096 → capacity_of (decimal n ∷ []) ≡ Ok n
capacity_of-decimal n some few =
    let within : (nat_le 1 n && nat_le n 4096) ≡ true = grind (arith, nat_tests) in
    ap (λ v. v >>= λ k. only_if (nat_le 1 k && nat_le k 4096) OutOfRange k) (one_number-decimal n (omega arith))
    ∙ ap (λ t. only_if t OutOfRange n) within

-- a line that is made of words is taken as those words
pub after_lines-joined : {Making : Type 0} (with_line : Making → List (List ℕ) → Result Making Reason) (made : Making) (k : ℕ) (ws : List (List ℕ)) (lines : List Numbered)
    → AreWords ws → after_lines with_line made (record { number = k; line = joined ws } ∷ lines) ≡ (at_line k (with_line made ws) >>= λ more. after_lines with_line more lines)
after_lines-joined with_line made k ws lines h = ap (λ v. at_line k (with_line made v) >>= λ more. after_lines with_line more lines) (words_of-joined ws h)

pub not_too_long : (text : List ℕ) → length text ≤ longest_text → is_too_long text ≡ false
not_too_long text h = grind (arith, nat_tests)

-- what is as short as what is printed of a state is short enough for a text
pub within_text : {n : ℕ} → n ≤ longest_state → n ≤ longest_text
within_text {n} h = omega arith

-- a text of printed lines reads as the object that its first line begins and the further ones fill
pub init_of-flat_map : (ws : List (List ℕ)) (lines : List (List (List ℕ))) (head : Head) → AreMeaningful (ws ∷ lines) → length (flat_map line_text (ws ∷ lines)) ≤ longest_text
    → head_of ws ≡ Ok head → init_of (flat_map line_text (ws ∷ lines)) ≡ object_of head.kind head.capacity (numbered 2 (map joined lines))
init_of-flat_map ws lines head h short e =
    let text : List ℕ = flat_map line_text (ws ∷ lines) in
    ap (λ t. cond t (Err (refused 0 TooLong)) (init_of_lines (meaningful_lines text))) (not_too_long text short)
    ∙ ap init_of_lines (meaningful_lines-flat_map (ws ∷ lines) h)
    ∙ ap (λ v. at_line 1 (head_of v) >>= λ (made : Head). object_of made.kind made.capacity (numbered 2 (map joined lines))) (words_of-joined ws h.0)
    ∙ ap (λ v. at_line 1 v >>= λ (made : Head). object_of made.kind made.capacity (numbered 2 (map joined lines))) e
