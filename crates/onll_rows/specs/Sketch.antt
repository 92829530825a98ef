-- What a user says of an object of his own, and the behaviour that follows: the laws on rows are proved once, here.
use Rattle.std.proofs.Common.{ℕ, zero, suc, Bool, true, false, List, [], ◌∷◌, ◌≡◌, Option, Some, None, if◌then◌else◌, length, refl, sym, ap, ◌∙◌, nat_eq}
use Rattle.std.specs.Cmp.Lexicographic.{pointwise, same_text, nat_list_eq_equiv}
use Rattle.onll_words.specs.declared.line.OpRow.{OpRow}
use Rattle.onll_model.specs.Object.{Behaviour}

-- ---- rows
-- so many words: these, and zeros behind them
abbrev pub filled : ℕ → List ℕ → List ℕ
filled zero ws = []
filled (suc n) [] = 0 ∷ filled n []
filled (suc n) (w ∷ ws) = w ∷ filled n ws

-- the words of a row that begins with these
abbrev pub row_words : List ℕ → List ℕ
row_words ws = filled 7 ws

-- the operation whose own row this is, where a row is that one
abbrev pub checked : {Op : Type 0} → Op → OpRow → OpRow → Option Op
checked op own row = if pointwise nat_eq own.w row.w then Some op else None

-- the operation that a row was guessed to be, where the row is its own
abbrev pub guessed : {Op : Type 0} → (Op → OpRow) → OpRow → Option Op → Option Op
guessed row_of row None = None
guessed row_of row (Some op) = checked op (row_of op) row

-- ---- a coding
-- The words of an operation, at most seven; and the operation that a row's words are, where they are those of one. What it says of other
-- words is of no account.
pub record Coding (Op : Type 0) : Type 0 where
  pub words : Op → List ℕ
  pub op_of : List ℕ → Option Op
  pub reads : (op : Op) → op_of (row_words (words op)) ≡ Some op

-- ---- laws
filled_length : (n : ℕ) (ws : List ℕ) → length (filled n ws) ≡ n
filled_length zero ws = refl
filled_length (suc n) [] = ap suc (filled_length n [])
filled_length (suc n) (w ∷ ws) = ap suc (filled_length n ws)

module _ {Op : Type 0} (coding : Coding Op) where
  abbrev pub row_of : Op → OpRow
  row_of op = record { w = row_words (coding.words op) }

  abbrev pub op_at : OpRow → Option Op
  op_at row = guessed row_of row (coding.op_of row.w)

  by_test : (t : Bool) (op : Op) → t ≡ true → (if t then Some op else None) ≡ Some op
  by_test true op e = refl
  by_test false op e = absurd (cc)

  pub op_of_its_row : (op : Op) → op_at (row_of op) ≡ Some op
  op_of_its_row op =
      let same = ap (guessed row_of (row_of op)) (coding.reads op) in
      let test = by_test (pointwise nat_eq (row_of op).w (row_of op).w) op (nat_list_eq_equiv.refl (row_of op).w) in
      cc

  by_guess : (row : OpRow) (guess : Option Op) (op : Op) → guessed row_of row guess ≡ Some op → (row_of op).w ≡ row.w
  by_guess row None op e = absurd (cc)
  by_guess row (Some x) op e = tested (pointwise nat_eq (row_of x).w row.w) (λ t. same_text (row_of x).w row.w (sym t)) e
    where
      tested : (t : Bool) → (t ≡ true → (row_of x).w ≡ row.w) → (if t then Some x else None) ≡ Some op → (row_of op).w ≡ row.w
      tested true same e = let which : x ≡ op = cc in ap (λ y. (row_of y).w) (sym which) ∙ same refl
      tested false same e = absurd (cc)

  pub row_of_its_op : (row : OpRow) (op : Op) → op_at row ≡ Some op → row_of op ≡ row
  row_of_its_op row op e = ap (λ (w : List ℕ). record { w = w }) (by_guess row (coding.op_of row.w) op e)

  pub seven_words : (op : Op) → length (row_of op).w ≡ 7
  seven_words op = filled_length 7 (coding.words op)

-- ---- an object
-- what each call does and gives, how operations are written as rows, and the text that describes a state
pub record Sketch (State Op Query Reply : Type 0) : Type 0 where
  pub next : State → Op → State
  pub reply : State → Op → Reply
  pub answer : State → Query → Reply
  pub rows : Coding Op
  pub text : State → List ℕ

-- the behaviour of an object that has capacity for one thing
abbrev pub behaviour_of : {State Op Query Reply : Type 0} → Sketch State Op Query Reply → Behaviour State Op Query Reply
behaviour_of sketch = record {
  next = sketch.next;
  reply = sketch.reply;
  answer = sketch.answer;
  row_of = row_of sketch.rows;
  op_at = op_at sketch.rows;
  capacity = λ s. 1;
  capacity_stays = λ s op. refl;
  op_of_its_row = op_of_its_row sketch.rows;
  row_of_its_op = row_of_its_op sketch.rows;
  seven_words = seven_words sketch.rows;
}
