use Rattle.std.proofs.Common.{ℕ, true, List, ◌≡◌, ◌+◌, ◌<◌, nat_lt, cond, length, take, sym, ap, ◌∙◌, arith, inl, inr, Err}
use Rattle.std.proofs.lemmas.List.{length-take-le, take_all}
use Rattle.std.proofs.lemmas.Bool.Decides.{nat_tests}
use Rattle.std.proofs.lemmas.Bool.{cases_lt}
use Rattle.onll_words.specs.Texts.{meaningful_lines}
use Rattle.onll_text.specs.declared.reason.Reason.TheVariants.{TooLong}
use Rattle.onll_text.specs.Refusal.{refused}
use Rattle.onll_text.specs.Wording.{Wording}
use Rattle.onll_text.specs.Script.{longest_text, calls_in, no_calls, script_of}
use Rattle.onll_text.specs.Schedule.{schedule_in, schedule_of}
use Rattle.onll_text.specs.Init.{init_of_lines, init_of}

lt_test : (m n : ℕ) → m < n → nat_lt m n ≡ true
lt_test m n h = grind (arith, nat_tests)

-- a text that is cut after the first byte that is too many is refused or read as the whole is
pub cut_same : {A : Type 0} (f : List ℕ → A) (m : ℕ) (xs : List ℕ) (d : A)
    → cond (nat_lt m (length (take (m + 1) xs))) d (f (take (m + 1) xs)) ≡ cond (nat_lt m (length xs)) d (f xs)
cut_same f m xs d = elim (cases_lt m (length xs)) [
  | inl more ↦
      let cut : m < length (take (m + 1) xs) = omega (arith, length-take-le (m + 1) xs (omega arith)) in
      ap (λ t. cond t d (f (take (m + 1) xs))) (lt_test m (length (take (m + 1) xs)) cut) ∙ sym (ap (λ t. cond t d (f xs)) (lt_test m (length xs) more))
  | inr within ↦ ap (λ t. cond (nat_lt m (length t)) d (f t)) (take_all (m + 1) xs (omega arith))
]

pub init_of-take : (bytes : List ℕ) → init_of (take (longest_text + 1) bytes) ≡ init_of bytes
init_of-take bytes = cut_same (λ text. init_of_lines (meaningful_lines text)) longest_text bytes (Err (refused 0 TooLong))

pub script_of-take : {State Op Query Reply : Type 0} (w : Wording State Op Query Reply) (bytes : List ℕ) → script_of w (take (longest_text + 1) bytes) ≡ script_of w bytes
script_of-take w bytes = cut_same (λ text. calls_in w no_calls (meaningful_lines text)) longest_text bytes (Err (refused 0 TooLong))

pub schedule_of-take : (threads : ℕ) (bytes : List ℕ) → schedule_of threads (take (longest_text + 1) bytes) ≡ schedule_of threads bytes
schedule_of-take threads bytes = cut_same (λ text. schedule_in threads 0 (meaningful_lines text)) longest_text bytes (Err (refused 0 TooLong))
