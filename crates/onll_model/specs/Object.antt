use Rattle.std.specs.Prelude.{ℕ, ◌≡◌, Option, Some, length}
use Rattle.onll_words.specs.declared.line.OpRow.{OpRow}

-- What an object does, for each state: the next state and the reply of an operation, the answer of a query;
-- which row stands for which operation; its capacity. No operation changes the capacity, and rows and
-- operations are one to one; a row has seven words.
pub record Behaviour (State Op Query Reply : Type 0) : Type 0 where
  pub next : State → Op → State
  pub reply : State → Op → Reply
  pub answer : State → Query → Reply
  pub row_of : Op → OpRow
  pub op_at : OpRow → Option Op
  pub capacity : State → ℕ
  pub capacity_stays : (s : State) (op : Op) → capacity (next s op) ≡ capacity s
  pub op_of_its_row : (op : Op) → op_at (row_of op) ≡ Some op
  pub seven_words : (op : Op) → length (row_of op).w ≡ 7
  pub row_of_its_op : (row : OpRow) (op : Op) → op_at row ≡ Some op → row_of op ≡ row
