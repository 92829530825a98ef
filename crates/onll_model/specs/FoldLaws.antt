use Rattle.std.specs.Prelude.{List, [], ◌∷◌, ◌≡◌}
use Rattle.onll_model.specs.declared.call.Call.{Call}
use Rattle.onll_model.specs.declared.call.CallEnd.{CallEnd}
use Rattle.onll_model.specs.declared.call.CallEnd.TheVariants.{Answered}
use Rattle.onll_model.specs.Object.{Behaviour}
use Rattle.onll_model.specs.Trace.{state_after}
use Rattle.onll_model.specs.Legal.{IsLegal}
use Rattle.onll_model.specs.Fold.{fold_trace, fold_ends, fold_state}

-- Laws of one script done in order from any initial state, whatever the object.

-- each call has an outcome, and was answered
abbrev pub AreAnswered : {State Op Query Reply : Type 0} → List (Call State Op Query Reply) → List (CallEnd State Op Query Reply) → Type 0
AreAnswered [] [] = Unit {0}
AreAnswered (c ∷ calls) (Answered reply place ∷ ends) = AreAnswered calls ends
AreAnswered calls ends = ⊥

module _ {State Op Query Reply : Type 0} (b : Behaviour State Op Query Reply) where
  -- the trace and the outcomes are a legal report of this one thread, over no base
  abbrev pub LegalFoldLaw : Type 0
  LegalFoldLaw = (s : State) (script : List (Call State Op Query Reply))
      → IsLegal b s [] (script ∷ []) (fold_trace b 0 script) (fold_ends b s 0 script ∷ [])

  -- the whole script is done
  abbrev pub AnsweredFoldLaw : Type 0
  AnsweredFoldLaw = (s : State) (script : List (Call State Op Query Reply)) → AreAnswered script (fold_ends b s 0 script)

  -- the state that is left is the one after the trace
  abbrev pub FoldStateLaw : Type 0
  FoldStateLaw = (s : State) (script : List (Call State Op Query Reply)) → fold_state b s script ≡ state_after b s (fold_trace b 0 script)
