-- What works say that they took out and put in is even, over a service and over whatever a crash leaves.
use Rattle.std.proofs.Common.{ℕ, List, [], ◌∷◌, ◌≤◌, map, Result, Ok, Err, subst, arith}
use Rattle.onll_model.specs.declared.call.Call.{Call}
use Rattle.onll_model.specs.declared.call.CallEnd.{CallEnd}
use Rattle.onll_model.specs.declared.node.Node.{Node}
use Rattle.onll_model.specs.Object.{Behaviour}
use Rattle.onll_log.specs.declared.head.LogHead.{LogHead}
use Rattle.onll_outside.specs.Views.{StoreView}
use Rattle.onll_pmem.specs.Pmem.{DeviceView}
use Rattle.onll_run.specs.Ended.{ThreadRun, ends_of, script_of}
use Rattle.onll_shared.specs.Passes.{OnllView, PassView}
use Rattle.onll_open.specs.declared.keeping.CloseFault.{CloseFault}
use Rattle.onll_open.specs.declared.keeping.CloseFault.TheVariants.{NoMemory, NotKept}
use Rattle.onll_balance.specs.Balance.{FrontBalanceLaw, WholeBalanceLaw}
use Rattle.onll_balance.specs.Measure.{Measure, back_by, out_by, tally}
use Rattle.onll_threads.specs.Ended.{ArePromised}
use Rattle.onll_serve.specs.declared.service.Served.{Served}
use Rattle.onll_serve.specs.Serving.{ClosedSo, HasHistory}
use Rattle.onll_keeps.specs.Accounts.{Account, IsEven, IsSoOf, IsSoOnceClosed, ServesEvenly}
use Rattle.onll_keeps.specs.Tallies.{sum_of}

module _ {State Op Query Reply Device : Type 0} (b : Behaviour State Op Query Reply) (means : Device → DeviceView) (onll : OnllView State)
    (fact other : List Node → Type 0) (by : (nodes : List Node) → fact nodes → other nodes)
    (runs : List (ThreadRun State Op Query Reply Device)) where
  by_fact : (h : HasHistory b means onll runs) → IsSoOf b means onll fact runs h → IsSoOf b means onll other runs h
  by_fact h so = record { now = by h.closed.ended.frame.trace so.now; crash = λ nodes front. by nodes (so.crash nodes front) }

  -- what follows of any nodes is so once an object is closed, where that of which it follows is
  pub follows_once_closed : (afters : List (PassView State Device)) (logs : List ℕ) (old new : StoreView)
      (kept : Result (Unit {0}) (CloseFault State Device Op Query Reply)) (c : ClosedSo b means onll runs afters logs old new kept)
      → IsSoOnceClosed b means onll fact runs afters logs old new kept c
      → IsSoOnceClosed b means onll other runs afters logs old new kept c
  follows_once_closed afters logs old new (Ok x) c so = by_fact c.0 so
  follows_once_closed afters logs old new (Err (NotKept fault)) c so = by_fact c.0 so
  follows_once_closed afters logs old new (Err (NoMemory unclosed)) c so = tt

module _ {State Op Query Reply Device Work Answer : Type 0} {b : Behaviour State Op Query Reply} (means : Device → DeviceView)
    (m : Measure b)
    (promise : Work → Work → List (Call State Op Query Reply) → List (CallEnd State Op Query Reply) → Answer → Type 0)
    (a : Account m promise) where
  outs_said : (olds news : List Work) (runs : List (ThreadRun State Op Query Reply Device)) (answers : List Answer)
      → ArePromised b means promise olds news runs answers
      → sum_of a.out answers ≤ tally (out_by m.out) (map script_of runs) (map ends_of runs)
  outs_said [] [] [] [] p = omega arith
  outs_said [] [] [] (x ∷ answers) p = absurd p
  outs_said [] [] (r ∷ runs) answers p = absurd p
  outs_said [] (v ∷ news) runs answers p = absurd p
  outs_said (w ∷ olds) [] runs answers p = absurd p
  outs_said (w ∷ olds) (v ∷ news) [] answers p = absurd p
  outs_said (w ∷ olds) (v ∷ news) (r ∷ runs) [] p = absurd p
  outs_said (w ∷ olds) (v ∷ news) (r ∷ runs) (x ∷ answers) p =
      let here = a.outs w v (script_of r) (ends_of r) x p.0 in
      let rest = outs_said olds news runs answers p.1 in omega (arith, here, rest)

  backs_said : (olds news : List Work) (runs : List (ThreadRun State Op Query Reply Device)) (answers : List Answer)
      → ArePromised b means promise olds news runs answers
      → tally (back_by m.back m.most) (map script_of runs) (map ends_of runs) ≤ sum_of a.back answers
  backs_said [] [] [] [] p = omega arith
  backs_said [] [] [] (x ∷ answers) p = absurd p
  backs_said [] [] (r ∷ runs) answers p = absurd p
  backs_said [] (v ∷ news) runs answers p = absurd p
  backs_said (w ∷ olds) [] runs answers p = absurd p
  backs_said (w ∷ olds) (v ∷ news) [] answers p = absurd p
  backs_said (w ∷ olds) (v ∷ news) (r ∷ runs) [] p = absurd p
  backs_said (w ∷ olds) (v ∷ news) (r ∷ runs) (x ∷ answers) p =
      let here = a.backs w v (script_of r) (ends_of r) x p.0 in
      let rest = backs_said olds news runs answers p.1 in omega (arith, here, rest)

  module _ (front : FrontBalanceLaw b m) (whole : WholeBalanceLaw b m) where
    module _ (onll : OnllView State) (olds news : List Work) (runs : List (ThreadRun State Op Query Reply Device))
        (answers : List Answer) (p : ArePromised b means promise olds news runs answers) where
      even : (h : HasHistory b means onll runs)
          → IsSoOf b means onll (IsEven m promise a onll.first onll.trace.plan.base answers) runs h
      even h =
          let base = onll.trace.plan.base in
          let scripts = map script_of runs in
          let ends = map ends_of runs in
          let trace = h.closed.ended.frame.trace in
          let outs = outs_said olds news runs answers p in
          let backs = backs_said olds news runs answers p in
          let legal = h.whole.legal in
          record {
            now = (let here = whole onll.first base scripts trace ends legal in omega (arith, here, outs, backs));
            crash = λ nodes f. (let here = front onll.first base scripts trace ends nodes legal f.front f.from_base f.answered in
                omega (arith, here, outs, backs));
          }

      even_closed : (afters : List (PassView State Device)) (logs : List ℕ) (old new : StoreView)
          (kept : Result (Unit {0}) (CloseFault State Device Op Query Reply))
          (c : ClosedSo b means onll runs afters logs old new kept)
          → IsSoOnceClosed b means onll (IsEven m promise a onll.first onll.trace.plan.base answers) runs afters logs old new kept c
      even_closed afters logs old new (Ok x) c = even c.0
      even_closed afters logs old new (Err (NotKept fault)) c = even c.0
      even_closed afters logs old new (Err (NoMemory unclosed)) c = tt

    pub serves_evenly : (store : StoreView) (logs : List ℕ) (heads : List LogHead) (state : State) (works : List Work) (new : StoreView)
        (served : Served State Device Work Answer Op Query Reply)
        → ServesEvenly m promise means a store logs heads state works new served
    serves_evenly store logs heads state works new served h =
        let ended = h.worked.ended in
        let here = even_closed h.onll works served.works.items ended.runs served.answers.items ended.promised h.worked.afters logs h.opened
        new served.kept h.worked.closed in
        let from_state = subst (λ (s : State). IsSoOnceClosed b means h.onll (IsEven m promise a s h.onll.trace.plan.base
        served.answers.items) ended.runs h.worked.afters logs h.opened new served.kept h.worked.closed) h.first here in
        subst (λ (ns : List Node). IsSoOnceClosed b means h.onll (IsEven m promise a state ns served.answers.items) ended.runs
        h.worked.afters logs h.opened new served.kept h.worked.closed) h.base from_state
