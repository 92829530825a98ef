-- What an answered update makes of every later one, in whatever thread.
use Rattle.std.specs.Prelude.{ℕ, List, ◌≡◌, ◌<◌, Some, slice_get}
use Rattle.onll_model.specs.declared.call.Call.{Call}
use Rattle.onll_model.specs.declared.call.Call.TheVariants.{Update}
use Rattle.onll_model.specs.declared.call.CallEnd.{CallEnd}
use Rattle.onll_model.specs.declared.call.CallEnd.TheVariants.{Answered}
use Rattle.onll_model.specs.declared.node.Node.{Node}
use Rattle.onll_model.specs.Legal.{IsLegal}
use Rattle.onll_model.specs.Object.{Behaviour}

-- some thread's update was answered so, at this place
pub record WasAnswered {State Op Query Reply : Type 0} (scripts : List (List (Call State Op Query Reply)))
    (ends : List (List (CallEnd State Op Query Reply))) (op : Op) (reply : Reply) (place : ℕ) : Type 0 where
  pub thread : ℕ
  pub calls : List (Call State Op Query Reply)
  pub calls_are : slice_get scripts thread ≡ Some calls
  pub outcomes : List (CallEnd State Op Query Reply)
  pub outcomes_are : slice_get ends thread ≡ Some outcomes
  pub index : ℕ
  pub call_is : slice_get calls index ≡ Some (Update op)
  pub end_is : slice_get outcomes index ≡ Some (Answered reply place)

-- Of two updates that were answered in a legal history, the one at the later place has this with the one before.
abbrev pub OrdersLaw : {State Op Query Reply : Type 0} → Behaviour State Op Query Reply → (Op → Reply → Op → Reply → Type 0) → Type 0
OrdersLaw {State} {Op} {Query} {Reply} b then_so = (first : State) (base : List Node) (scripts : List (List (Call State Op Query Reply)))
    (trace : List Node) (ends : List (List (CallEnd State Op Query Reply))) → IsLegal b first base scripts trace ends
    → (op later : Op) (reply later_reply : Reply) (place later_place : ℕ) → WasAnswered scripts ends op reply place
    → WasAnswered scripts ends later later_reply later_place → place < later_place → then_so op reply later later_reply
