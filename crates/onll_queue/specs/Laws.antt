-- The rows of a queue's operations stand for these alone.

use Rattle.std.proofs.Common.{ℕ, Bool, true, false, List, [], ◌∷◌, ◌≡◌, ◌==◌, ◌&&◌, Some, None, cond, length, refl, ap, arith}
use Rattle.std.proofs.lemmas.Bool.Decides.{nat_tests}
use Rattle.onll_words.specs.declared.line.OpRow.{OpRow}
use Rattle.onll_words.proofs.RowWords.{one_argument}
use Rattle.onll_queue.specs.Items.{Items}
use Rattle.onll_queue.specs.declared.operation.QueueOp.{QueueOp}
use Rattle.onll_queue.specs.declared.operation.QueueOp.TheVariants.{Push, Pop}
use Rattle.onll_queue.specs.Queue.{queue_next, queue_row, op_of_words, queue_op_at}

pub room-queue_next : (s : Items) (op : QueueOp) → (queue_next s op).room ≡ s.room
room-queue_next s op = refl

pub op_of_its_row : (op : QueueOp) → queue_op_at (queue_row op) ≡ Some op
op_of_its_row (Push x) = refl
op_of_its_row Pop = refl

-- the words of a pop, where the test of its words holds
pop_words : (k a b c d e f : ℕ)
    → (k == 2 && (a == 0) && (b == 0) && (c == 0) && (d == 0) && (e == 0) && (f == 0)) ≡ true
    → 2 ∷ 0 ∷ 0 ∷ 0 ∷ 0 ∷ 0 ∷ 0 ∷ [] ≡ k ∷ a ∷ b ∷ c ∷ d ∷ e ∷ f ∷ []
pop_words k a b c d e f h =
    let hk : k ≡ 2 = grind (arith, nat_tests) in
    let ha : a ≡ 0 = grind (arith, nat_tests) in
    let hb : b ≡ 0 = grind (arith, nat_tests) in
    let hc : c ≡ 0 = grind (arith, nat_tests) in
    let hd : d ≡ 0 = grind (arith, nat_tests) in
    let he : e ≡ 0 = grind (arith, nat_tests) in
    let hf : f ≡ 0 = grind (arith, nat_tests) in
    cc

-- the rows of these words, by the tests in turn
by_tests : (t₁ t₂ : Bool) (ws : List ℕ) (x₁ x₂ op : QueueOp)
    → (t₁ ≡ true → (queue_row x₁).w ≡ ws) → (t₂ ≡ true → (queue_row x₂).w ≡ ws)
    → cond t₁ (Some x₁) (cond t₂ (Some x₂) None) ≡ Some op → (queue_row op).w ≡ ws
by_tests true t₂ ws x₁ x₂ op f₁ f₂ e = let same : x₁ ≡ op = cc e in rw (← same) (f₁ refl)
by_tests false true ws x₁ x₂ op f₁ f₂ e = let same : x₂ ≡ op = cc e in rw (← same) (f₂ refl)
by_tests false false ws x₁ x₂ op f₁ f₂ e = cc

words_of_its_op : (ws : List ℕ) (op : QueueOp) → op_of_words ws ≡ Some op → (queue_row op).w ≡ ws
words_of_its_op (k ∷ a ∷ b ∷ c ∷ d ∷ e ∷ f ∷ []) op h =
    by_tests (k == 1 && (b == 0) && (c == 0) && (d == 0) && (e == 0) && (f == 0))
    (k == 2 && (a == 0) && (b == 0) && (c == 0) && (d == 0) && (e == 0) && (f == 0))
    (k ∷ a ∷ b ∷ c ∷ d ∷ e ∷ f ∷ []) (Push a) Pop op
    (one_argument 1 k a b c d e f) (pop_words k a b c d e f) h
words_of_its_op _ op h = cc

pub row_of_its_op : (row : OpRow) (op : QueueOp) → queue_op_at row ≡ Some op → queue_row op ≡ row
row_of_its_op row op e = ap (λ (w : List ℕ). record { w = w }) (words_of_its_op row.w op e)

pub seven_words : (op : QueueOp) → length (queue_row op).w ≡ 7
seven_words (Push x) = refl
seven_words Pop = refl
