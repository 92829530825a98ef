-- The other bound of an object, that nothing is lost of what is put in; and both bounds at once.
use Rattle.std.proofs.Common.{ℕ, List, ◌+◌, ◌≡◌, ◌≤◌, arith}
use Rattle.std.specs.List.{AllByRecursion}
use Rattle.onll_model.specs.Object.{Behaviour}
use Rattle.onll_model.specs.declared.call.Call.{Call}
use Rattle.onll_model.specs.declared.call.CallEnd.{CallEnd}
use Rattle.onll_model.specs.declared.call.CallEnd.TheVariants.{Answered, Broken, FenceFailed, Ordered, Running}
use Rattle.onll_balance.specs.Measure.{Measure, back_by, out_by, tally}

-- What is left in a state; what an operation with this reply put in, and what it took out at most; what one without a reply may have
-- taken out at most. No operation leaves less than what was left and what it put in, but for what it took out.
pub record Floor {State Op Query Reply : Type 0} (b : Behaviour State Op Query Reply) : Type 0 where
  pub left : State → ℕ
  pub put : Op → Reply → ℕ
  pub out : Op → Reply → ℕ
  pub most : Op → ℕ
  pub within : (op : Op) (reply : Reply) → out op reply ≤ most op
  pub step : (s : State) (op : Op) → left s + put op (b.reply s op) ≤ left (b.next s op) + out op (b.reply s op)

-- What was left in the state before, and what answered calls put in, are no more than what is left in the state after and what threads
-- took out, or may have taken out where a fence failed.
abbrev pub LosesNone : {State Op Query Reply : Type 0} {b : Behaviour State Op Query Reply} → Floor b → State
    → List (List (Call State Op Query Reply)) → List (List (CallEnd State Op Query Reply)) → State → Type 0
LosesNone f before scripts ends after =
    f.left before + tally (out_by f.put) scripts ends ≤ f.left after + tally (back_by f.out f.most) scripts ends

-- Both at once: an operation leaves just what was left and what it put in, less what it took out.
pub record Exact {State Op Query Reply : Type 0} (b : Behaviour State Op Query Reply) : Type 0 where
  pub left : State → ℕ
  pub out : Op → Reply → ℕ
  pub back : Op → Reply → ℕ
  pub most_out : Op → ℕ
  pub most_back : Op → ℕ
  pub out_within : (op : Op) (reply : Reply) → out op reply ≤ most_out op
  pub back_within : (op : Op) (reply : Reply) → back op reply ≤ most_back op
  pub step : (s : State) (op : Op) → left (b.next s op) + out op (b.reply s op) ≡ left s + back op (b.reply s op)

module _ {State Op Query Reply : Type 0} {b : Behaviour State Op Query Reply} (e : Exact b) where
  abbrev pub measure_of : Measure b
  measure_of = record {
    left = e.left;
    out = e.out;
    back = e.back;
    most = e.most_back;
    within = e.back_within;
    step = λ s op. (let here = e.step s op in omega (arith, here));
  }

  abbrev pub floor_of : Floor b
  floor_of = record {
    left = e.left;
    put = e.back;
    out = e.out;
    most = e.most_out;
    within = e.out_within;
    step = λ s op. (let here = e.step s op in omega (arith, here));
  }

-- the call has no place without a reply
abbrev pub HasNotFailed : {State Op Query Reply : Type 0} → CallEnd State Op Query Reply → Type 0
HasNotFailed (Answered reply place) = Unit {0}
HasNotFailed Running = Unit {0}
HasNotFailed (Ordered place) = ⊥
HasNotFailed (FenceFailed place) = ⊥
HasNotFailed (Broken place) = Unit {0}

-- no fence of any thread failed
abbrev pub NoneFailed : {State Op Query Reply : Type 0} → List (List (CallEnd State Op Query Reply)) → Type 0
NoneFailed {State} {Op} {Query} {Reply} ends =
    AllByRecursion (λ (es : List (CallEnd State Op Query Reply)). AllByRecursion HasNotFailed es) ends

-- What threads took out in all, and what is left after, are just what was left before and what they put in.
abbrev pub IsExact : {State Op Query Reply : Type 0} {b : Behaviour State Op Query Reply} → Exact b → State
    → List (List (Call State Op Query Reply)) → List (List (CallEnd State Op Query Reply)) → State → Type 0
IsExact e before scripts ends after = tally (out_by e.out) scripts ends + e.left after ≡ e.left before + tally (out_by e.back) scripts ends
