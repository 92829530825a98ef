-- A fact that no operation ends is so after any nodes, and so of each reply.
use Rattle.std.proofs.Common.{ℕ, List, [], ◌∷◌, ◌+◌, ◌-◌, Option, Some, None, length, take, sym, subst}
use Rattle.onll_model.specs.declared.call.Call.{Call}
use Rattle.onll_model.specs.declared.call.Call.TheVariants.{Update, Ask}
use Rattle.onll_model.specs.declared.call.CallEnd.{CallEnd}
use Rattle.onll_model.specs.declared.call.CallEnd.TheVariants.{Answered, Running, Ordered, FenceFailed, Broken}
use Rattle.onll_model.specs.declared.node.Node.{Node}
use Rattle.onll_model.specs.Legal.{AreLegalThreads, EachEnd, HasReply}
use Rattle.onll_model.specs.Object.{Behaviour}
use Rattle.onll_model.specs.Trace.{after_row, state_after}
use Rattle.onll_keeps.specs.Facts.{AllTold, FactLaw, IsTold, FactToldLaw}

module _ {State Op Query Reply : Type 0} (b : Behaviour State Op Query Reply) (holds : State → Type 0)
    (stays : (s : State) (op : Op) → holds s → holds (b.next s op)) where
  stays_row : (s : State) (o : Option Op) → holds s → holds (after_row b s o)
  stays_row s None h = h
  stays_row s (Some op) h = stays s op h

  pub fact_so : FactLaw b holds
  fact_so s [] h = h
  fact_so s (n ∷ ns) h = fact_so (after_row b s (b.op_at n.row)) ns (stays_row s (b.op_at n.row) h)

  module _ (says : Op → Reply → Type 0) (told : (s : State) (op : Op) → holds s → says op (b.reply s op)) (first : State)
      (h : holds first) (trace : List Node) where
    told_each : (calls : List (Call State Op Query Reply)) (ends : List (CallEnd State Op Query Reply))
        → EachEnd (HasReply b first trace) calls ends → EachEnd (IsTold says) calls ends
    told_each calls [] r = tt
    told_each [] (e ∷ ends) r = absurd r
    told_each (Update op ∷ calls) (Answered reply place ∷ ends) r =
        let s = state_after b first (take (place - 1) trace) in
        (subst (says op) (sym r.0) (told s op (fact_so first (take (place - 1) trace) h)), told_each calls ends r.1)
    told_each (Update op ∷ calls) (Running ∷ ends) r = (tt, told_each calls ends r.1)
    told_each (Update op ∷ calls) (Ordered place ∷ ends) r = (tt, told_each calls ends r.1)
    told_each (Update op ∷ calls) (FenceFailed place ∷ ends) r = (tt, told_each calls ends r.1)
    told_each (Update op ∷ calls) (Broken place ∷ ends) r = (tt, told_each calls ends r.1)
    told_each (Ask query ∷ calls) (e ∷ ends) r = (tt, told_each calls ends r.1)

    told_all : (low t : ℕ) (scripts : List (List (Call State Op Query Reply))) (ends : List (List (CallEnd State Op Query Reply)))
        → AreLegalThreads b first low trace t scripts ends → AllTold says scripts ends
    told_all low t [] ends l = tt
    told_all low t (calls ∷ scripts) [] l = tt
    told_all low t (calls ∷ scripts) (es ∷ ends) l = (told_each calls es l.0.replies, told_all low (t + 1) scripts ends l.1)

  pub told_so : (says : Op → Reply → Type 0) → ((s : State) (op : Op) → holds s → says op (b.reply s op)) → FactToldLaw b holds says
  told_so says told first base scripts trace ends legal h =
      told_all says told first h trace (length base) 0 scripts ends legal.outcomes
