-- Works that were done at an object that was open, once it is closed.
use Rattle.std.proofs.Common.{arith, ℕ, List, ◌≡◌, length, map, None, Result, Ok, Err, OnOk, IfErr, refl, sym, ap, ◌∙◌, subst}
use Rattle.std.specs.List.{AllByRecursion}
use Rattle.std.proofs.lemmas.List.{length-map}
use Rattle.onll_model.specs.declared.call.Call.{Call}
use Rattle.onll_model.specs.declared.call.CallEnd.{CallEnd}
use Rattle.onll_model.specs.Object.{Behaviour}
use Rattle.onll_pmem.specs.Pmem.{DeviceView}
use Rattle.onll_log.specs.declared.head.LogHead.{LogHead}
use Rattle.onll_outside.specs.Views.{StoreView, SameFaults}
use Rattle.onll_trace.specs.declared.trace.Ended.{Ended}
use Rattle.onll_shared.specs.Ends.{HasClosed}
use Rattle.onll_shared.specs.Found.{head_held}
use Rattle.onll_shared.specs.Passes.{OnllView, PassView}
use Rattle.onll_run.specs.Ended.{RunLaw, after_of}
use Rattle.onll_open.specs.declared.keeping.CloseFault.{CloseFault}
use Rattle.onll_open.specs.declared.keeping.CloseFault.TheVariants.{NoMemory, NotKept}
use Rattle.onll_open.specs.declared.fault.OpenFault.{OpenFault}
use Rattle.onll_open.specs.Files.{SameBut, SameCounts}
use Rattle.onll_open.specs.Keeping.{AreKept, AreWhole, CannotClose, CloseLocks, devices_in}
use Rattle.onll_open.specs.Names.{held_names, log_names}
use Rattle.onll_open.specs.Opening.{CannotOpen, GivesRoom, HasOpened, IsShortLog, NothingLost, OpenFaults, written_at}
use Rattle.onll_threads.specs.Ended.{HaveEnded, before_of}
use Rattle.onll_serve.specs.declared.fault.ServeFault.TheVariants.{NotOpened}
use Rattle.onll_serve.specs.declared.service.Served.{Served}
use Rattle.onll_serve.specs.Serving.{CannotServe, ClosedSo, GivenBack, HasHistory, HasServed, WorksWereDone, base_of}

module _ {State Op Query Reply Device Work Answer : Type 0} (b : Behaviour State Op Query Reply) (means : Device → DeviceView)
    (promise : Work → Work → List (Call State Op Query Reply) → List (CallEnd State Op Query Reply) → Answer → Type 0)
    (onll : OnllView State) (olds : List Work) (befores : List (PassView State Device)) (news : List Work)
    (afters : List (PassView State Device)) (answers : List Answer) (law : RunLaw b means onll)
    (e : HaveEnded b means promise onll olds befores news afters answers) where
  history : ((trace : List Ended) × HasClosed onll.trace afters trace) → HasHistory b means onll e.runs
  history closed =
      let trace = closed.0 in
      let here : HasClosed onll.trace (map after_of e.runs) trace =
      subst (λ (ps : List (PassView State Device)). HasClosed onll.trace ps trace) (sym e.afters_are) closed.1 in
      record { trace = trace; closed = here; whole = law (base_of onll) trace e.runs e.have_run refl e.many here }

  pub closed_so : (logs : List ℕ) (old new : StoreView) (kept : Result (Unit {0}) (CloseFault State Device Op Query Reply))
      → OnOk kept ((trace : List Ended) × HasClosed onll.trace afters trace)
      → OnOk kept (AreKept logs 0 (devices_in means afters) new) → OnOk kept (SameFaults old new)
      → OnOk kept (AreWhole (devices_in means afters))
      → IfErr kept (CannotClose means onll afters logs old new)
      → ClosedSo b means onll e.runs afters logs old new kept
  closed_so logs old new (Ok x) closed are faults whole refused = (history closed, are, faults, whole)
  closed_so logs old new (Err (NotKept fault)) closed are faults whole refused =
      (history refused.2, refused.0)
  closed_so logs old new (Err (NoMemory unclosed)) closed are faults whole refused = refused

module _ {State Op Query Reply Device Work Answer : Type 0} (b : Behaviour State Op Query Reply) (means : Device → DeviceView)
    (promise : Work → Work → List (Call State Op Query Reply) → List (CallEnd State Op Query Reply) → Answer → Type 0) where
  -- as many passes as works
  pub as_many : (onll : OnllView State) (olds : List Work) (befores : List (PassView State Device)) (news : List Work)
      (afters : List (PassView State Device)) (answers : List Answer)
      → HaveEnded b means promise onll olds befores news afters answers → length afters ≡ length befores
  as_many onll olds befores news afters answers e =
      let a = ap length e.afters_are in
      let c = ap length e.befores_are in
      omega (arith, a, c, length-map e.runs after_of, length-map e.runs before_of)

  pub served : (store : StoreView) (logs : List ℕ) (head : ℕ → List LogHead) (state : State) (works : List Work)
      (opened new : StoreView) (onll : OnllView State) (passes : List (PassView State Device)) (count before : ℕ)
      (s : Served State Device Work Answer Op Query Reply) → count ≡ length works
      → HasOpened b store logs (head count) means state count None onll passes → before ≡ length onll.trace.plan.base
      → NothingLost b store logs (head count) count None (head count) opened → SameCounts store opened → s.before ≡ before
      → WorksWereDone b means promise onll passes works logs opened new s
      → HasServed b means promise store logs (head (length works)) state works new s
  served store logs head state works opened new onll passes count before s n o before_is lost counts same w = record {
    found = o.found;
    given = subst (λ (k : ℕ). GivesRoom b store logs (head k) k None o.found) n o.recovered;
    before_is = same ∙ (before_is ∙ ap length o.on.base);
    onll = onll;
    first = o.on.first;
    base = o.on.base;
    befores = passes;
    heads_are = ap (map head_held) o.on.begun.logs_are ∙ (o.on.heads_are ∙ ap head n);
    short = subst (AllByRecursion (IsShortLog means)) (sym o.on.begun.logs_are) o.on.short;
    opened = opened;
    kept = subst (λ (k : ℕ). NothingLost b store logs (head k) k None (head k) opened) n lost;
    counts = counts;
    worked = w;
  }

-- ---- what is left of the store
module _ {State Op Query Reply : Type 0} (b : Behaviour State Op Query Reply) (logs : List ℕ) (head : ℕ → List LogHead) where
  pub cannot_open : (count works : ℕ) (old new : StoreView) (fault : OpenFault) → count ≡ works
      → CannotOpen b old logs (head count) count None fault → OpenFaults {T = Unit {0}} logs count old new (Err fault)
      → NothingLost b old logs (head count) count None (written_at (head count) fault) new
      → CannotServe b logs (head works) works old new (NotOpened fault)
  cannot_open count works old new fault e refused faults lost = (
    subst (λ (k : ℕ). CannotOpen b old logs (head k) k None fault) e refused,
    subst (λ (k : ℕ). OpenFaults {T = Unit {0}} logs k old new (Err fault)) e faults,
    subst (λ (k : ℕ). NothingLost b old logs (head k) k None (written_at (head k) fault) new) e lost,
  )

pub given_back : {State Device Op Query Reply : Type 0} (logs : List ℕ) (old mid : StoreView) (before after : List (List ℕ))
    → mid.tells ≡ old.tells → (kept : Result (Unit {0}) (CloseFault State Device Op Query Reply))
    → CloseLocks mid logs before after kept → GivenBack old logs after kept
given_back logs old mid before after e (Ok x) h = λ on. h (e ∙ on)
given_back logs old mid before after e (Err (NotKept fault)) h = λ on. h (e ∙ on)
given_back logs old mid before after e (Err (NoMemory unclosed)) h = tt

pub others_kept : (logs : List ℕ) (count works : ℕ) (old mid new : StoreView) → count ≡ works → SameBut (held_names logs count) old mid
    → SameBut (log_names logs 0 works) mid new → SameBut (held_names logs works) old new
others_kept logs count works old mid new e first then_ =
    let here : SameBut (held_names logs works) old mid = subst (λ (k : ℕ). SameBut (held_names logs k) old mid) e first in
    record { tells = then_.tells ∙ here.tells; file = λ other differs. then_.file other differs.1 ∙ here.file other differs }
