use Rattle.std.proofs.Common.{ℕ, Bool, true, false, List, [], ◌∷◌, ◌≡◌, ◌==◌, ◌&&◌, Option, Some, None, cond, refl, ap}
use Rattle.onll_words.specs.declared.line.OpRow.{OpRow}
use Rattle.onll_words.proofs.RowWords.{one_argument}
use Rattle.onll_model.specs.Object.{Behaviour}

-- A register, whose operations each set it and reply what it held.

abbrev pub register_row : ℕ → OpRow
register_row x = record { w = 1 ∷ x ∷ 0 ∷ 0 ∷ 0 ∷ 0 ∷ 0 ∷ [] }

abbrev pub op_of_words : List ℕ → Option ℕ
op_of_words (k ∷ a ∷ b ∷ c ∷ d ∷ e ∷ f ∷ []) = cond (k == 1 && (b == 0) && (c == 0) && (d == 0) && (e == 0) && (f == 0)) (Some a) None
op_of_words _ = None

-- the row of these words, by the test of them
by_test : (t : Bool) (ws : List ℕ) (x op : ℕ) → (t ≡ true → (register_row x).w ≡ ws) → cond t (Some x) None ≡ Some op
    → (register_row op).w ≡ ws
by_test true ws x op f e = let same : x ≡ op = cc e in rw (← same) (f refl)
by_test false ws x op f e = cc

words_of_its_op : (ws : List ℕ) (op : ℕ) → op_of_words ws ≡ Some op → (register_row op).w ≡ ws
words_of_its_op (k ∷ a ∷ b ∷ c ∷ d ∷ e ∷ f ∷ []) op h =
    by_test (k == 1 && (b == 0) && (c == 0) && (d == 0) && (e == 0) && (f == 0)) (k ∷ a ∷ b ∷ c ∷ d ∷ e ∷ f ∷ []) a op
    (one_argument 1 k a b c d e f) h
words_of_its_op _ op h = cc

pub row_of_its_op : (row : OpRow) (op : ℕ) → op_of_words row.w ≡ Some op → register_row op ≡ row
row_of_its_op row op e = ap (λ (w : List ℕ). record { w = w }) (words_of_its_op row.w op e)

-- what a register does; it is asked for what it holds
abbrev pub register : Behaviour ℕ ℕ ℕ ℕ
register = record {
  next = λ s op. op;
  reply = λ s op. s;
  answer = λ s query. s;
  row_of = register_row;
  op_at = λ row. op_of_words row.w;
  capacity = λ s. 1;
  capacity_stays = λ s op. refl;
  op_of_its_row = λ op. refl;
  row_of_its_op = row_of_its_op;
  seven_words = λ op. refl;
}
