-- A fact that every state of an object keeps, and what it makes of replies.
use Rattle.std.specs.Prelude.{List, [], ◌∷◌}
use Rattle.onll_model.specs.declared.call.Call.{Call}
use Rattle.onll_model.specs.declared.call.Call.TheVariants.{Update, Ask}
use Rattle.onll_model.specs.declared.call.CallEnd.{CallEnd}
use Rattle.onll_model.specs.declared.call.CallEnd.TheVariants.{Answered, Running, Ordered, FenceFailed, Broken}
use Rattle.onll_model.specs.declared.node.Node.{Node}
use Rattle.onll_model.specs.Legal.{EachEnd, IsLegal}
use Rattle.onll_model.specs.Object.{Behaviour}
use Rattle.onll_model.specs.Trace.{state_after}

-- an update that was answered has this with its reply
abbrev pub IsTold : {State Op Query Reply : Type 0} → (Op → Reply → Type 0) → Call State Op Query Reply → CallEnd State Op Query Reply
    → Type 0
IsTold says (Update op) (Answered reply place) = says op reply
IsTold says (Update op) Running = Unit {0}
IsTold says (Update op) (Ordered place) = Unit {0}
IsTold says (Update op) (FenceFailed place) = Unit {0}
IsTold says (Update op) (Broken place) = Unit {0}
IsTold says (Ask query) e = Unit {0}

-- each answered update of each thread has it
abbrev pub AllTold : {State Op Query Reply : Type 0} → (Op → Reply → Type 0) → List (List (Call State Op Query Reply))
    → List (List (CallEnd State Op Query Reply)) → Type 0
AllTold says [] ends = Unit {0}
AllTold says (calls ∷ scripts) [] = Unit {0}
AllTold says (calls ∷ scripts) (es ∷ ends) = EachEnd (IsTold says) calls es × AllTold says scripts ends

module _ {State Op Query Reply : Type 0} (b : Behaviour State Op Query Reply) (holds : State → Type 0) where
  -- the fact is so of an object that began so, after any nodes
  abbrev pub FactLaw : Type 0
  FactLaw = (first : State) (nodes : List Node) → holds first → holds (state_after b first nodes)

  -- so each update that was answered in a legal history, from where it began, has with its reply what the fact makes of it
  abbrev pub FactToldLaw : (Op → Reply → Type 0) → Type 0
  FactToldLaw says = (first : State) (base : List Node) (scripts : List (List (Call State Op Query Reply))) (trace : List Node)
      (ends : List (List (CallEnd State Op Query Reply))) → IsLegal b first base scripts trace ends → holds first
      → AllTold says scripts ends
