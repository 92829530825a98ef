-- What was answered stands at its place in the trace, and in each front of it that is long enough.
use Rattle.std.proofs.Common.{ℕ, zero, suc, List, [], ◌∷◌, ◌≡◌, ◌+◌, ◌-◌, ◌<◌, ◌≤◌, Some, Result, Ok, Err, length, map, take, refl, sym, ap, ◌∙◌, arith}
use Rattle.std.specs.List.{AllByRecursion, slice_get}
use Rattle.std.proofs.lemmas.List.{take-take}
use Rattle.onll_model.specs.Object.{Behaviour}
use Rattle.onll_model.specs.declared.node.Node.{Node}
use Rattle.onll_model.specs.declared.call.Call.{Call}
use Rattle.onll_model.specs.declared.call.Call.TheVariants.{Update, Ask}
use Rattle.onll_model.specs.declared.call.CallEnd.{CallEnd}
use Rattle.onll_model.specs.declared.call.CallEnd.TheVariants.{Answered, Running, Ordered, FenceFailed, Broken}
use Rattle.onll_model.specs.Legal.{AreLegalThreads, EachEnd, HasReply, IsLegalThread}
use Rattle.onll_model.specs.Trace.{reply_after}
use Rattle.onll_model.proofs.Lists.{some_not_none}
use Rattle.onll_model.proofs.Placed.{IsOwnNode, own_node}
use Rattle.onll_outside.specs.Views.{StoreView}
use Rattle.onll_pmem.specs.Pmem.{DeviceView}
use Rattle.onll_rows.specs.Sketch.{behaviour_of}
use Rattle.onll_run.specs.Ended.{ends_of, script_of}
use Rattle.onll_run.specs.Outcomes.{StandsIn}
use Rattle.onll_shared.specs.Passes.{OnllView, PassView}
use Rattle.onll_open.specs.declared.keeping.CloseFault.{CloseFault}
use Rattle.onll_open.specs.declared.keeping.CloseFault.TheVariants.{NoMemory, NotKept}
use Rattle.onll_serve.specs.Serving.{ClosedSo, HasHistory}
use Rattle.onll_locks.specs.declared.locks.Locks.{Locks}
use Rattle.onll_locks.specs.declared.locks.LockOp.{LockOp}
use Rattle.onll_locks.specs.declared.locks.LockQuery.{LockQuery}
use Rattle.onll_locks.specs.declared.locks.LockReply.{LockReply}
use Rattle.onll_locks.specs.Laws.{EachStands, StandAll, StandsAnswered, OpStandsAt}
use Rattle.onll_locks.specs.Locks.{locks}
use Rattle.onll_locks.specs.Serving.{AllAnswersStand, LockRun, StandClosed}

module _ {State Op Query Reply : Type 0} (b : Behaviour State Op Query Reply) (first : State) (trace : List Node) where
  -- an update that was answered, with its node
  stands : (t : ℕ) (op : Op) (reply : Reply) (place : ℕ) → IsOwnNode trace t (b.row_of op) place
      → reply ≡ reply_after b first (take (place - 1) trace) op → OpStandsAt b first trace op reply place
  stands t op reply place n r = record { node = n.node; here = n.here; op_is = ap b.op_at n.row_is ∙ b.op_of_its_row op; reply_is = r }

  -- the calls of a thread from the one at an index on
  module _ (base t : ℕ) (calls : List (Call State Op Query Reply)) (ends : List (CallEnd State Op Query Reply))
      (legal : IsLegalThread b first base trace t calls ends) where
    one_stands : (i : ℕ) (c : Call State Op Query Reply) (e : CallEnd State Op Query Reply) → slice_get calls i ≡ Some c
        → slice_get ends i ≡ Some e → HasReply b first trace c e → StandsAnswered b first trace c e
    one_stands i (Update op) (Answered reply place) at is h =
        stands t op reply place (own_node b base trace t calls ends legal.places i op (Answered reply place) place at is refl) h
    one_stands i (Update op) Running at is h = tt
    one_stands i (Update op) (Ordered place) at is h = tt
    one_stands i (Update op) (FenceFailed place) at is h = tt
    one_stands i (Update op) (Broken place) at is h = tt
    one_stands i (Ask query) e at is h = tt

    from_index : (i : ℕ) (cs : List (Call State Op Query Reply)) (es : List (CallEnd State Op Query Reply))
        → ((k : ℕ) → slice_get cs k ≡ slice_get calls (i + k)) → ((k : ℕ) → slice_get es k ≡ slice_get ends (i + k))
        → EachEnd (HasReply b first trace) cs es → StandAll b first trace cs es
    from_index i cs [] at is h = tt
    from_index i [] (e ∷ es) at is h = h
    from_index i (c ∷ cs) (e ∷ es) at is h =
        let z : i + 0 ≡ i = omega arith in (
          one_stands i c e (sym (ap (slice_get calls) z) ∙ sym (at 0)) (sym (ap (slice_get ends) z) ∙ sym (is 0)) h.0,
          from_index (i + 1) cs es (λ k. let y : i + suc k ≡ i + 1 + k = omega arith in at (suc k) ∙ ap (slice_get calls) y)
              (λ k. let y : i + suc k ≡ i + 1 + k = omega arith in is (suc k) ∙ ap (slice_get ends) y) h.1,
        )

    thread_stands : StandAll b first trace calls ends
    thread_stands =
        from_index 0 calls ends (λ k. let z : k ≡ 0 + k = omega arith in ap (slice_get calls) z)
        (λ k. let z : k ≡ 0 + k = omega arith in ap (slice_get ends) z) legal.replies

  all_stand : (base t : ℕ) (scripts : List (List (Call State Op Query Reply))) (ends : List (List (CallEnd State Op Query Reply)))
      → AreLegalThreads b first base trace t scripts ends → EachStands b first trace scripts ends
  all_stand base t scripts [] h = tt
  all_stand base t [] (es ∷ ends) h = h
  all_stand base t (calls ∷ scripts) (es ∷ ends) h = (thread_stands base t calls es h.0, all_stand base (t + 1) scripts ends h.1)

  -- ---- in a front of the trace
  module _ (nodes : List Node) (front : take (length nodes) trace ≡ nodes) where
    -- up to a place within it, the front is as the trace
    front_same : (k : ℕ) → k ≤ length nodes → take k nodes ≡ take k trace
    front_same k low = ap (take k) (sym front) ∙ take-take k (length nodes) trace low

    get_taken : (xs : List Node) (i k : ℕ) → i < k → slice_get (take k xs) i ≡ slice_get xs i
    get_taken xs i zero low = absurd (omega (arith, low))
    get_taken [] i (suc k) low = refl
    get_taken (x ∷ xs) zero (suc k) low = refl
    get_taken (x ∷ xs) (suc i) (suc k) low = get_taken xs i k (omega (arith, low))

    front_stands : (op : Op) (reply : Reply) (place : ℕ) → place ≤ length nodes → OpStandsAt b first trace op reply place
        → OpStandsAt b first nodes op reply place
    front_stands op reply zero low s = some_not_none s.node (sym s.here)
    front_stands op reply (suc i) low s = record {
      node = s.node;
      here = sym (ap (λ (ns : List Node). slice_get ns i) front) ∙ (get_taken trace i (length nodes) (omega (arith, low)) ∙ s.here);
      op_is = s.op_is;
      reply_is = s.reply_is ∙ ap (λ (ns : List Node). reply_after b first ns op) (sym (front_same (suc i - 1) (omega (arith, low))));
    }

    front_one : (c : Call State Op Query Reply) (e : CallEnd State Op Query Reply) → StandsIn (length nodes) e
        → StandsAnswered b first trace c e → StandsAnswered b first nodes c e
    front_one (Update op) (Answered reply place) low s = front_stands op reply place low s
    front_one (Update op) Running low s = tt
    front_one (Update op) (Ordered place) low s = tt
    front_one (Update op) (FenceFailed place) low s = tt
    front_one (Update op) (Broken place) low s = tt
    front_one (Ask query) e low s = tt

    front_thread : (calls : List (Call State Op Query Reply)) (ends : List (CallEnd State Op Query Reply))
        → AllByRecursion (StandsIn (length nodes)) ends → StandAll b first trace calls ends → StandAll b first nodes calls ends
    front_thread calls [] low s = tt
    front_thread [] (e ∷ ends) low s = s
    front_thread (c ∷ calls) (e ∷ ends) low s = (front_one c e low.0 s.0, front_thread calls ends low.1 s.1)

    front_all : (scripts : List (List (Call State Op Query Reply))) (ends : List (List (CallEnd State Op Query Reply)))
        → AllByRecursion (λ (es : List (CallEnd State Op Query Reply)). AllByRecursion (StandsIn (length nodes)) es) ends
        → EachStands b first trace scripts ends → EachStands b first nodes scripts ends
    front_all scripts [] low s = tt
    front_all [] (es ∷ ends) low s = s
    front_all (calls ∷ scripts) (es ∷ ends) low s = (front_thread calls es low.0 s.0, front_all scripts ends low.1 s.1)

-- ---- locks that were served
module _ {Device : Type 0} (means : Device → DeviceView) (onll : OnllView Locks) (runs : List (LockRun Device)) where
  answers_stand : (h : HasHistory (behaviour_of locks) means onll runs) → AllAnswersStand means onll runs h
  answers_stand h =
      let trace = h.closed.ended.frame.trace in
      let scripts = map script_of runs in
      let ends = map ends_of runs in
      let now = all_stand (behaviour_of locks) onll.first trace (length onll.trace.plan.base) 0 scripts ends h.whole.legal.outcomes in
      record { now = now; crash = λ nodes f. front_all (behaviour_of locks) onll.first trace nodes f.front scripts ends f.answered now }

  pub stand_closed : (afters : List (PassView Locks Device)) (logs : List ℕ) (old new : StoreView)
      (kept : Result (Unit {0}) (CloseFault Locks Device LockOp LockQuery LockReply))
      (c : ClosedSo (behaviour_of locks) means onll runs afters logs old new kept) → StandClosed means onll runs afters logs old new kept c
  stand_closed afters logs old new (Ok x) c = answers_stand c.0
  stand_closed afters logs old new (Err (NotKept fault)) c = answers_stand c.0
  stand_closed afters logs old new (Err (NoMemory unclosed)) c = tt
