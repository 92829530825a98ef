-- An initial state in the making, which grows line by line.

use Rattle.std.specs.Prelude.{ℕ, List, [], ◌∷◌, ◌≡◌, ◌≤◌, Option, Some, Result, Ok, IfOk}
use Rattle.onll_model.specs.Limits.{most_elements}
use Rattle.onll_words.specs.Texts.{Numbered, words_of}
use Rattle.onll_text.specs.declared.reason.Reason.{Reason}
use Rattle.onll_text.specs.declared.any_object.AnyObject.{AnyObject}
use Rattle.onll_text.specs.Refusal.{Refusal, ◌>>=◌, at_line}

-- what is in the making, after further lines
abbrev pub after_lines : {Making : Type 0} → (Making → List (List ℕ) → Result Making Reason) → Making → List Numbered
    → Result Making Refusal
after_lines with_line made [] = Ok made
after_lines with_line made (l ∷ lines) = at_line l.number (with_line made (words_of l.line)) >>= λ more. after_lines with_line more lines

-- The states of a kind of object: the object of each, and the state of an object that is of this kind; what is in the making where a
-- text begins one of a capacity, how a line makes more of it, and the state that it is in the end. The invariant holds of what is
-- begun, and each line keeps it.
pub record StateKind : Type 1 where
  pub State : Type 0
  pub object : State → AnyObject
  pub state : AnyObject → Option State
  pub is_object : (any : AnyObject) (s : State) → state any ≡ Some s → any ≡ object s
  pub Making : Type 0
  pub begun : (capacity : ℕ) → Making
  pub with_line : Making → List (List ℕ) → Result Making Reason
  pub ended : Making → State
  pub Invariant : State → Type 0
  pub begun_keeps : (n : ℕ) → 1 ≤ n → n ≤ most_elements → Invariant (ended (begun n))
  pub line_keeps : (made : Making) (words : List (List ℕ)) → Invariant (ended made)
      → IfOk (with_line made words) (λ more. Invariant (ended more))
