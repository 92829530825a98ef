-- A measure of an object: what is left, what an operation takes out of that, and what it puts in.

use Rattle.std.specs.Prelude.{ℕ, List, [], ◌∷◌, ◌+◌, ◌≤◌}
use Rattle.onll_model.specs.Object.{Behaviour}
use Rattle.onll_model.specs.declared.call.Call.{Call}
use Rattle.onll_model.specs.declared.call.Call.TheVariants.{Update, Ask}
use Rattle.onll_model.specs.declared.call.CallEnd.{CallEnd}
use Rattle.onll_model.specs.declared.call.CallEnd.TheVariants.{Answered, Running, Ordered, FenceFailed, Broken}

-- What is left in a state; what an operation with this reply took out, and what it put in at most; what one without a reply may have put
-- in at most. No operation takes out more than was left and what it put in.
pub record Measure {State Op Query Reply : Type 0} (b : Behaviour State Op Query Reply) : Type 0 where
  pub left : State → ℕ
  pub out : Op → Reply → ℕ
  pub back : Op → Reply → ℕ
  pub most : Op → ℕ
  pub within : (op : Op) (reply : Reply) → back op reply ≤ most op
  pub step : (s : State) (op : Op) → left (b.next s op) + out op (b.reply s op) ≤ left s + back op (b.reply s op)

-- the sum over the calls of one thread
abbrev pub tally_of : {State Op Query Reply : Type 0} → (Call State Op Query Reply → CallEnd State Op Query Reply → ℕ)
    → List (Call State Op Query Reply) → List (CallEnd State Op Query Reply) → ℕ
tally_of count [] ends = 0
tally_of count (c ∷ calls) [] = 0
tally_of count (c ∷ calls) (e ∷ ends) = count c e + tally_of count calls ends

-- the sum over the calls of all threads
abbrev pub tally : {State Op Query Reply : Type 0} → (Call State Op Query Reply → CallEnd State Op Query Reply → ℕ)
    → List (List (Call State Op Query Reply)) → List (List (CallEnd State Op Query Reply)) → ℕ
tally count [] ends = 0
tally count (calls ∷ scripts) [] = 0
tally count (calls ∷ scripts) (es ∷ ends) = tally_of count calls es + tally count scripts ends

module _ {State Op Query Reply : Type 0} where
  -- what a call took out that was answered
  abbrev pub out_by : (Op → Reply → ℕ) → Call State Op Query Reply → CallEnd State Op Query Reply → ℕ
  out_by out (Update op) (Answered reply place) = out op reply
  out_by out (Update op) Running = 0
  out_by out (Update op) (Ordered place) = 0
  out_by out (Update op) (FenceFailed place) = 0
  out_by out (Update op) (Broken place) = 0
  out_by out (Ask query) e = 0

  -- what it put in: by its reply, and at most, where it has a place and no reply since its fence failed
  abbrev pub back_by : (Op → Reply → ℕ) → (Op → ℕ) → Call State Op Query Reply → CallEnd State Op Query Reply → ℕ
  back_by back most (Update op) (Answered reply place) = back op reply
  back_by back most (Update op) Running = 0
  back_by back most (Update op) (Ordered place) = most op
  back_by back most (Update op) (FenceFailed place) = most op
  back_by back most (Update op) (Broken place) = 0
  back_by back most (Ask query) e = 0

-- What threads took out in all, and what is left in the state after, are no more than what was left in the state before and what they
-- put in.
abbrev pub IsBalanced : {State Op Query Reply : Type 0} {b : Behaviour State Op Query Reply} → Measure b → State
    → List (List (Call State Op Query Reply)) → List (List (CallEnd State Op Query Reply)) → State → Type 0
IsBalanced m before scripts ends after =
    tally (out_by m.out) scripts ends + m.left after ≤ m.left before + tally (back_by m.back m.most) scripts ends
