-- How scripts that are run over devices do their task.

use Rattle.std.proofs.Common.{Vec, ℕ, zero, suc, Bool, true, false, true≢false, List, [], ◌∷◌, ◌≡◌, ◌<◌, ◌≤◌, ◌+◌, ◌*◌, length, take, map, reverse, Option, Result, Ok, Err, Some, None, is_some, ◌⊎◌, inl, inr, ⊎_elim, refl, sym, ap, ◌∙◌, subst, arith}
use Rattle.std.specs.List.{AllByRecursion, All}
use Rattle.std.specs.Result.{IsErrAnd}
use Rattle.std.proofs.lemmas.List.{length-map}
use Rattle.std.proofs.lemmas.Result.{err_from_is_err_and}
use Rattle.std.proofs.lemmas.List.Elements.{All-head, All-tail, All-from_recursion, recursion_from_All}
use Rattle.onll_model.specs.Limits.{most_updates}
use Rattle.onll_model.specs.declared.call.Call.{Call}
use Rattle.onll_model.specs.declared.call.CallEnd.{CallEnd}
use Rattle.onll_model.specs.declared.node.Node.{Node}
use Rattle.onll_model.specs.Calls.{updates_in}
use Rattle.onll_pmem.specs.Pmem.{DeviceView}
use Rattle.onll_log.specs.declared.head.LogHead.{LogHead}
use Rattle.onll_log.specs.Head.{heads_from}
use Rattle.onll_log.specs.Grammar.{Content}
use Rattle.onll_log.specs.ImageFile.{longest_image}
use Rattle.onll_log.specs.Log.{LogState}
use Rattle.onll_merge.specs.Recovered.{log_counts}
use Rattle.onll_start.specs.Heads.{created_heads}
use Rattle.onll_outside.specs.Views.{StoreView, SameFiles, SameFaults, Rose, AreZeros, counted, fault_of, HandsEach, fences_in}
use Rattle.onll_outside.specs.declared.store.FaultKind.{FaultKind}
use Rattle.onll_outside.specs.declared.store.FaultKind.TheVariants as kinds
use Rattle.onll_run.specs.Left.{LogLeft, HasRun, begun_logs}
use Rattle.onll_run.specs.Ended.{log_left}
use Rattle.onll_run.specs.Making as making
use Rattle.onll_run.specs.Ran.{AreKeptLogs, going_on}
use Rattle.onll_open.specs.declared.fault.DeviceFault.{DeviceFault}
use Rattle.onll_open.specs.declared.fault.DeviceFault.TheVariants as devices
use Rattle.onll_open.specs.Devices.{HeadIs, IsDeviceOf, NoneCounted}
use Rattle.onll_open.specs.Files.{DeviceFaults, LogCallFailed, SameBut, SameCounts}
use Rattle.onll_open.specs.Heads.{heads_of}
use Rattle.onll_open.proofs.Handing.{same_after}
use Rattle.onll_open.proofs.HeaderFaults.{given_back}
use Rattle.onll_text.specs.Kinds.{ObjectKind}
use Rattle.onll_text.specs.Lines.{fence_line}
use Rattle.onll_words.specs.Texts.{line_text}
use Rattle.onll_task.specs.declared.ending.Ending.{Ending}
use Rattle.onll_task.specs.declared.ending.Ending.TheVariants.{Done, Faulty}
use Rattle.onll_task.specs.declared.answer.Stop.{Stop}
use Rattle.onll_task.specs.declared.answer.Stop.TheVariants.{Says, NoMemory}
use Rattle.onll_task.specs.Job.{Job, JobEnds}
use Rattle.onll_task.specs.Doing.{Fulfils}
use Rattle.onll_task.specs.Running.{RunPlan, RunLeft, plan_resumed, RunStops, IsCutShort, HasKept, AreSized, IsBegun, IsCallFor, HeaderFault, DeviceFault as DeviceFaulted, FileStands, StandsByHead, AllStand, FilesStand, HoldOrStand, HoldTo, KeptTo, device_call, broken_threads, fences_of, log_files}
use Rattle.onll_task.specs.Standing.{StandsForRuns}
use Rattle.onll_task.specs.Stop.{StopSays}
use Rattle.onll_task.proofs.Stages.{stay_same}
use Rattle.onll_task.proofs.Onwards.{stand_begun}
use Rattle.onll_task.proofs.Runs.{run_does, broken_does, stopped_does}
use Rattle.onll_runner.specs.Devices.{SaysLog, SaysDevice, DeviceFails}
use Rattle.onll_runner.specs.RunReport.{plan_report}
use Rattle.onll_runner.specs.RunEnds.{IsStored, IsStoredTo, RunIsBroken, IsLost, IsAsBefore, RunHasEnded, lines_left}
use Rattle.onll_runner.specs.RunJob.{said_task, calls_task}
use Rattle.onll_runner.proofs.Determined.{run_says}
use Rattle.onll_runner.proofs.Ending.{but_stay}

-- the device of one of so many threads' logs, which held this, was not had
pub record ThreadFails (logs : List ℕ) (befores : List Content) (threads : ℕ) (store after : StoreView) (ending : Ending)
    (text : List ℕ) : Type 0 where
  pub thread : ℕ
  pub within : thread < threads
  pub kind : FaultKind
  pub call : IsCallFor thread befores kind
  pub fails : DeviceFails kind logs thread store after ending text

module _ {k : ObjectKind} (plan : RunPlan k) (store after : StoreView) where
  -- The fence of a thread's header failed: this line says so, every device was given up, and no file changed. Of the logs up to that
  -- thread's, its own among them, the headers of those that were begun were fenced.
  pub record GaveUp (text : List ℕ) : Type 0 where
    pub thread : ℕ
    pub within : thread < length plan.run.scripts
    pub begun : IsBegun thread plan.run.base.logs
    pub line : text ≡ line_text (fence_line thread 0)
    pub calls : SameFaults store after
    pub faults : after.device_faults ≡ counted store.device_faults 1
    pub fences : after.device_fences ≡ counted store.device_fences (begun_logs (take (thread + 1) plan.run.base.logs))

  -- Nothing was left: a header's fence failed, or memory could not be had. No file changed.
  pub record RunHasFailed (stop : Stop) : Type 0 where
    pub says : StopSays stop (λ ending text. (ending ≡ Faulty) × GaveUp text)
    pub files : SameFiles store after

-- What became of the run of a plan over devices of so many lines: it left something, in logs of as many, which has come to its end, or
-- nothing was left.
abbrev pub HasGone : {k : ObjectKind} → RunPlan k → (lines : List ℕ) → (store after : StoreView) → {A : Type 0} → Result (Vec ℕ A) Stop
    → Type 0
HasGone {k} plan lines store after result =
    ((left : RunLeft k) × HasRun k.means plan.run left × (map lines_left left.logs ≡ lines) × RunHasEnded plan left store after result)
    ⊎ IsErrAnd result (RunHasFailed plan store after)

-- ---- from the store before
same_then : (names : List (List ℕ)) (old mid new : StoreView) → SameBut names old mid → SameBut names mid new → SameBut names old new
same_then names old mid new first then_ = record { tells = then_.tells ∙ first.tells; file = λ other differs. then_.file other differs ∙ first.file other differs }

-- ---- files that stand before a device is kept
file_since : (old mid new : StoreView) → mid.tells ≡ old.tells → (name : List ℕ) (log : Content) → FileStands old mid name log → IsAsBefore mid new name log → FileStands old new name log
file_since old mid new tells name log h same = by log.head h
  where
    zeros : new.file name ≡ mid.file name → (mid.file name ≡ old.file name) ⊎ ((bytes : List ℕ) × (mid.file name ≡ Some bytes) × AreZeros bytes) → (new.file name ≡ old.file name) ⊎ ((bytes : List ℕ) × (new.file name ≡ Some bytes) × AreZeros bytes)
    zeros e (inl f) = inl (e ∙ f)
    zeros e (inr z) = inr (z.0, e ∙ z.1, z.2)

    by : (head : Option LogHead) → StandsByHead head old mid name log → StandsByHead head old new name log
    by None z = λ on. zeros (same (tells ∙ on)) (z on)
    by (Some head) w =
        (w.0, w.1, w.2, λ on. let v = w.3 on in record { was = v.was; rest = v.rest; before = v.before; now = same (tells ∙ on) ∙ v.now; wiped = v.wiped })

all_same : (old mid new : StoreView) → mid.tells ≡ old.tells → (names : List (List ℕ)) (logs : List Content) → AllStand (FileStands old mid) names logs → SameFiles mid new
    → AllStand (FileStands old new) names logs
all_same old mid new tells [] [] h same = tt
all_same old mid new tells [] (log ∷ logs) h same = absurd h
all_same old mid new tells (name ∷ names) [] h same = absurd h
all_same old mid new tells (name ∷ names) (log ∷ logs) h same = (file_since old mid new tells name log h.0 (λ on. same.file name), all_same old mid new tells names logs h.1 same)

each_since : {State Op Query Reply : Type 0} (old mid new : StoreView) → mid.tells ≡ old.tells → (names : List (List ℕ)) (befores : List Content) (logs : List LogLeft) (ends : List (List (CallEnd State Op Query Reply)))
    → AllStand (FileStands old mid) names befores → HoldOrStand (IsAsBefore mid new) new names befores logs ends → HoldOrStand (FileStands old new) new names befores logs ends
each_since old mid new tells [] [] [] [] h kept = tt
each_since old mid new tells (name ∷ names) (before ∷ befores) (log ∷ logs) (es ∷ ends) h kept =
    (⊎_elim (λ same. inl (file_since old mid new tells name before h.0 same)) (λ held. inr held) kept.0, each_since old mid new tells names befores logs ends h.1 kept.1)
each_since old mid new tells [] [] [] (es ∷ ends) h kept = absurd kept
each_since old mid new tells [] [] (log ∷ logs) ends h kept = absurd kept
each_since old mid new tells [] (before ∷ befores) logs ends h kept = absurd kept
each_since old mid new tells (name ∷ names) [] logs ends h kept = absurd kept
each_since old mid new tells (name ∷ names) (before ∷ befores) [] ends h kept = absurd kept
each_since old mid new tells (name ∷ names) (before ∷ befores) (log ∷ logs) [] h kept = absurd kept

hold_since : {State Op Query Reply : Type 0} (old mid new : StoreView) → mid.tells ≡ old.tells → (names : List (List ℕ)) (befores : List Content) (logs : List LogLeft) (ends : List (List (CallEnd State Op Query Reply))) (thread : ℕ)
    → AllStand (FileStands old mid) names befores → HoldTo (IsAsBefore mid new) new names befores logs ends thread → HoldTo (FileStands old new) new names befores logs ends thread
hold_since old mid new tells (name ∷ names) (before ∷ befores) (log ∷ logs) (es ∷ ends) zero h kept =
    each_since old mid new tells (name ∷ names) (before ∷ befores) (log ∷ logs) (es ∷ ends) h kept
hold_since old mid new tells (name ∷ names) (before ∷ befores) (log ∷ logs) (es ∷ ends) (suc thread) h kept = (kept.0, hold_since old mid new tells names befores logs ends thread h.1 kept.1)
hold_since old mid new tells [] befores logs ends thread h kept = absurd kept
hold_since old mid new tells (name ∷ names) [] logs ends thread h kept = absurd kept
hold_since old mid new tells (name ∷ names) (before ∷ befores) [] ends thread h kept = absurd kept
hold_since old mid new tells (name ∷ names) (before ∷ befores) (log ∷ logs) [] thread h kept = absurd kept

module _ {k : ObjectKind} (plan : RunPlan k) (left : RunLeft k) (old mid new : StoreView) (counts : SameCounts old mid) (files : SameBut (log_files plan) old mid) where
  kept_since : AreSized plan left.logs old → IsStored plan left mid new → HasKept plan left old new
  kept_since sizes h = record {
    calls = (h.calls.0 ∙ counts.0.0, h.calls.1 ∙ counts.0.1);
    faults = h.faults ∙ ap (λ n. counted n (broken_threads left.ends)) counts.1.0;
    fences = h.fences ∙ ap (λ n. counted n (fences_of left.logs + begun_logs plan.run.base.logs)) counts.1.1;
    files = h.files;
    fit = h.fit;
    sizes = sizes;
    others = record {
      tells = h.others.tells ∙ files.tells;
      file = λ on other differs. h.others.file (files.tells ∙ on) other differs ∙ files.file other differs;
    };
  }

  module _ (stand : FilesStand plan old mid) where
    kept_to_since : (s : Stop) (h : IsStoredTo plan left mid new s) → KeptTo plan left h.thread old new
    kept_to_since s h = record {
      files = hold_since old mid new files.tells (log_files plan) plan.run.base.logs left.logs left.ends h.thread stand h.files;
      faults = h.faults ∙ ap (λ n. counted n (broken_threads left.ends)) counts.1.0;
      fences = h.fences ∙ ap (λ n. counted n (fences_of left.logs + begun_logs plan.run.base.logs)) counts.1.1;
    }

    unkept_says : HasRun k.means plan.run left → SameBut (log_files plan) old new → (s : Stop) → (h : IsStoredTo plan left mid new s) → StopSays s (RunStops plan old new)
    unkept_says run others NoMemory h = tt
    unkept_says run others (Says ending text) h = subst (λ e. RunStops plan old new e text.items) (sym h.says.says.0) fault
      where
        fault : DeviceFaulted plan old new text.items
        fault = record {
          thread = h.thread;
          within = h.within;
          line = h.says.says.1;
          rose = subst (λ n. Rose n new.faults) counts.0.0 h.says.rose;
          cause = inr (record { last = h.says.last; left = left; run = run; kept = kept_to_since (Says ending text) h });
          others = but_stay others;
        }

    unkept_short : HasRun k.means plan.run left → SameBut (log_files plan) old new → (s : Stop) → IsStoredTo plan left mid new s → IsCutShort plan old new
    unkept_short run others s h = inr (inr (record { left = left; run = run; thread = h.thread; kept = kept_to_since s h; others = but_stay others }))

-- ---- devices that were not had
made_call : (t : ℕ) (befores : List Content) → HeadIs false t (map log_counts befores) → IsCallFor t befores kinds.Device
made_call t [] h = h
made_call zero (before ∷ befores) h = by before.head h
  where
    by : (head : Option LogHead) → is_some head ≡ false → kinds.Device ≡ device_call head
    by None e = refl
    by (Some head) e = absurd (true≢false e)
made_call (suc t) (before ∷ befores) h = made_call t befores h

again_call : (t : ℕ) (befores : List Content) → HeadIs true t (map log_counts befores) → IsCallFor t befores kinds.Reopen
again_call t [] h = h
again_call zero (before ∷ befores) h = by before.head h
  where
    by : (head : Option LogHead) → is_some head ≡ true → kinds.Reopen ≡ device_call head
    by None e = absurd (true≢false (sym e))
    by (Some head) e = refl
again_call (suc t) (before ∷ befores) h = again_call t befores h

log_fails : (kind : FaultKind) (logs : List ℕ) (befores : List Content) (threads thread : ℕ) (old new : StoreView) (s : Stop) → IsCallFor thread befores kind → StopSays s (SaysLog logs thread)
    → LogCallFailed kind logs threads thread old new → StopSays s (ThreadFails logs befores threads old new)
log_fails kind logs befores threads thread old new (Says ending text) call says h =
    record { thread = thread; within = h.within; kind = kind; call = call; fails = record { says = says; rose = h.rose; last = h.last } }
log_fails kind logs befores threads thread old new NoMemory call says h = tt

-- what is said of a log's device that was not had
pub thread_fails : (T : Type 0) (logs : List ℕ) (befores : List Content) (threads : ℕ) (old new : StoreView) (fault : DeviceFault) (s : Stop) → SaysDevice logs fault s → DeviceFaults {T = T} logs threads old new (Err fault)
    → IsDeviceOf (map log_counts befores) fault → StopSays s (ThreadFails logs befores threads old new)
thread_fails T logs befores threads old new (devices.NotMade thread) s says h which = log_fails kinds.Device logs befores threads thread old new s (made_call thread befores which) says h
thread_fails T logs befores threads old new (devices.NotReopened thread) s says h which = log_fails kinds.Reopen logs befores threads thread old new s (again_call thread befores which) says h
thread_fails T logs befores threads old new devices.NoMemory s says h which = subst (λ x. StopSays x (ThreadFails logs befores threads old new)) (sym says) tt

-- ---- the endings
module _ {k : ObjectKind} (threads : RunPlan k → (RunLeft k → Job) → Job) (stands : StandsForRuns k threads) (plan : RunPlan k) where
  said_broken : (left : RunLeft k) (new : StoreView) (n : ℕ) → 1 ≤ n → JobEnds new new (said_task k plan left n).job Faulty (plan_report plan left)
  said_broken left new zero some = absurd (omega arith)
  said_broken left new (suc n) some = (refl, refl, stay_same new, ((refl, refl), (refl, refl)))

  -- what a run left was kept and is said, or this is said in its place
  ended_does : {A : Type 0} (left : RunLeft k) (old mid new : StoreView) (r : Result (Vec ℕ A) Stop) → HasRun k.means plan.run left → SameCounts old mid → SameBut (log_files plan) old mid → FilesStand plan old mid → AreSized plan left.logs old
      → RunHasEnded plan left mid new r → Fulfils (log_files plan) old new (calls_task k threads plan) r
  ended_does left old mid new (Ok text) run counts files stand sizes h =
      run_does threads stands plan (λ l. said_task k plan l (broken_threads l.ends)) old new left text run h.reads (kept_since plan left old mid new counts files sizes h.kept) (same_then (log_files plan) old mid new files h.others)
      (subst (λ n. JobEnds new new (said_task k plan left n).job Done text.items) (sym h.whole) (refl, h.report, stay_same new, ((refl, refl), (refl, refl))))
      (λ before. subst (λ n. (said_task k plan left n).reports before text.items) (sym h.whole) (run_says k.means k.wording plan.run.scripts (plan_resumed plan) plan.run.state left text.items h.report h.reads))
  ended_does {A} left old mid new (Err s) run counts files stand sizes h = by h.stop
    where
      others : SameBut (log_files plan) old new
      others = same_then (log_files plan) old mid new files h.others

      lost : IsLost plan left mid new s → Fulfils {A = A} (log_files plan) old new (calls_task k threads plan) (Err s)
      lost l = subst (λ x. Fulfils {A = A} (log_files plan) old new (calls_task k threads plan) (Err x)) (sym l.0)
          (stopped_does threads stands plan (λ l_. said_task k plan l_ (broken_threads l_.ends)) old new NoMemory others
          (inr (inl (record { files = stand_begun plan plan.run.heads old new (all_same old mid new files.tells (log_files plan) plan.run.base.logs stand l.1); others = but_stay others }))) tt)

      by : RunIsBroken plan left mid new s ⊎ IsStoredTo plan left mid new s ⊎ IsLost plan left mid new s → Fulfils {A = A} (log_files plan) old new (calls_task k threads plan) (Err s)
      by (inl b) = broken_does threads stands plan (λ l. said_task k plan l (broken_threads l.ends)) old new left s (plan_report plan left) run b.reads
          (kept_since plan left old mid new counts files sizes b.stored) others (said_broken left new (broken_threads left.ends) b.broken) b.says
      by (inr (inl t)) = stopped_does threads stands plan (λ l. said_task k plan l (broken_threads l.ends)) old new s others
          (unkept_short plan left old mid new counts files stand run others s t) (unkept_says plan left old mid new counts files stand run others s t)
      by (inr (inr l)) = lost l

  -- ---- nothing was left
  unmade : (old new : StoreView) (ending : Ending) (text : List ℕ) → SameBut (log_files plan) old new → FilesStand plan old new → NoneCounted old new
      → ThreadFails plan.logs plan.run.base.logs (length plan.run.scripts) old new ending text → RunStops plan old new ending text
  unmade old new ending text others stand none h = subst (λ e. RunStops plan old new e text) (sym h.fails.says.0) fault
    where
      fault : DeviceFaulted plan old new text
      fault = record { thread = h.thread; within = h.within; line = h.fails.says.1; rose = h.fails.rose; cause = inl (record { kind = h.kind; call = h.call; last = h.fails.last; devices = none; files = stand }); others = but_stay others }

  -- a device could not be made
  pub unmade_does : {A : Type 0} (old new : StoreView) (s : Stop) → StopSays s (ThreadFails plan.logs plan.run.base.logs (length plan.run.scripts) old new) → SameBut (log_files plan) old new
      → FilesStand plan old new → NoneCounted old new → Fulfils {A = A} (log_files plan) old new (calls_task k threads plan) (Err s)
  unmade_does old new (Says ending text) h others stand none = stopped_does threads stands plan (λ l. said_task k plan l (broken_threads l.ends)) old new (Says ending text) others
      (inr (inl (record { files = stand_begun plan plan.run.heads old new stand; others = but_stay others }))) (unmade old new ending text.items others stand none h)
  unmade_does old new NoMemory h others stand none = stopped_does threads stands plan (λ l. said_task k plan l (broken_threads l.ends)) old new NoMemory others
      (inr (inl (record { files = stand_begun plan plan.run.heads old new stand; others = but_stay others }))) tt

  header_fault : (old mid new : StoreView) (text : List ℕ) → SameCounts old mid → SameBut (log_files plan) old new → FilesStand plan old new → GaveUp plan mid new text
      → HeaderFault plan old new text
  header_fault old mid new text counts others stand h = record {
    thread = h.thread;
    within = h.within;
    begun = h.begun;
    line = h.line;
    calls = (h.calls.0 ∙ counts.0.0, h.calls.1 ∙ counts.0.1);
    faults = h.faults ∙ ap (λ n. counted n 1) counts.1.0;
    fences = h.fences ∙ ap (λ n. counted n (begun_logs (take (h.thread + 1) plan.run.base.logs))) counts.1.1;
    files = stand_begun plan (take (h.thread + 1) plan.run.heads) old new stand;
    others = but_stay others;
  }

  failed_does : {A : Type 0} (old mid new : StoreView) (s : Stop) → SameCounts old mid → SameBut (log_files plan) old mid → FilesStand plan old mid
      → RunHasFailed plan mid new s → Fulfils {A = A} (log_files plan) old new (calls_task k threads plan) (Err s)
  failed_does {A} old mid new s counts files stand h =
      stopped_does threads stands plan (λ l. said_task k plan l (broken_threads l.ends)) old new s others (inr (inl (record { files = stand_begun plan plan.run.heads old new after; others = but_stay others }))) (says s h.says)
    where
      others : SameBut (log_files plan) old new
      others = same_after (log_files plan) old mid new files h.files

      after : FilesStand plan old new
      after = all_same old mid new files.tells (log_files plan) plan.run.base.logs stand h.files

      says : (s : Stop) → StopSays s (λ ending text. (ending ≡ Faulty) × GaveUp plan mid new text) → StopSays s (RunStops plan old new)
      says NoMemory h = tt
      says (Says ending text) h = subst (λ e. RunStops plan old new e text.items) (sym h.0) (header_fault old mid new text.items counts others after h.1)

  -- ---- the whole
  -- Devices were made, and then what was run over them has gone so.
  pub gone_does : {A : Type 0} (old mid new : StoreView) (lines : List ℕ) (r : Result (Vec ℕ A) Stop) → SameCounts old mid → SameBut (log_files plan) old mid → FilesStand plan old mid
      → ((logs : List LogLeft) → map lines_left logs ≡ lines → AreSized plan logs old) → HasGone plan lines mid new r → Fulfils (log_files plan) old new (calls_task k threads plan) r
  gone_does old mid new lines r counts files stand sized (inl h) = ended_does h.0 old mid new r h.1 counts files stand (sized h.0.logs h.2) h.3
  gone_does old mid new lines r counts files stand sized (inr h) =
      let p = err_from_is_err_and r h in
      subst (λ x. Fulfils (log_files plan) old new (calls_task k threads plan) x) (sym p.1) (failed_does old mid new p.0 counts files stand p.2)

-- ---- how many lines logs have
module _ {State Op Query Reply Device : Type 0} (means : Device → DeviceView) where
  -- as many as their devices had
  pub lines_kept : (befores : List Content) (ends : List (List (CallEnd State Op Query Reply))) (devices : List Device) (logs : List (LogState Device)) → AreKeptLogs means befores ends devices logs
      → map lines_left (map (log_left means) logs) ≡ map (λ (d : Device). length (means d).read) devices
  lines_kept [] [] [] [] kept = refl
  lines_kept (before ∷ befores) (es ∷ ends) (d ∷ devices) (log ∷ logs) kept =
      let here = kept.0.lines in
      ap (λ n. n ∷ map lines_left (map (log_left means) logs)) here ∙ ap (λ ns. length (means d).read ∷ ns) (lines_kept befores ends devices logs kept.1)
  lines_kept [] [] [] (log ∷ logs) kept = absurd kept
  lines_kept [] [] (d ∷ devices) logs kept = absurd kept
  lines_kept [] (es ∷ ends) devices logs kept = absurd kept
  lines_kept (before ∷ befores) [] devices logs kept = absurd kept
  lines_kept (before ∷ befores) (es ∷ ends) [] logs kept = absurd kept
  lines_kept (before ∷ befores) (es ∷ ends) (d ∷ devices) [] kept = absurd kept

-- ---- what scripts and devices need
module _ {State Op Query Reply : Type 0} where
  pub all_updates : {V : Type 0} (items : V → List (Call State Op Query Reply)) (scripts : List V) → All (λ (s : V). updates_in (items s) ≤ most_updates) scripts
      → AllByRecursion (λ (s : List (Call State Op Query Reply)). updates_in s ≤ most_updates) (map items scripts)
  all_updates items [] u = tt
  all_updates {V} items (s ∷ scripts) u =
      let P : V → Type 0 = λ (x : V). updates_in (items x) ≤ most_updates in
      (All-head P s scripts u, all_updates items scripts (All-tail P s scripts u))

  module _ {Device : Type 0} (means : Device → DeviceView) where
    -- the devices that are handed back have as many lines as they had
    small_each : (befores : List Content) (ends : List (List (CallEnd State Op Query Reply))) (devices : List Device) (logs : List (LogState Device)) → AllByRecursion (λ (d : Device). 64 * length (means d).read ≤ longest_image) devices
        → AreKeptLogs means befores ends devices logs → AllByRecursion (λ (log : LogState Device). 64 * length (means log.device).read ≤ longest_image) logs
    small_each [] [] [] [] small kept = tt
    small_each [] [] [] (log ∷ logs) small kept = absurd kept
    small_each [] [] (d ∷ devices) logs small kept = absurd kept
    small_each [] (es ∷ ends) devices logs small kept = absurd kept
    small_each (before ∷ befores) [] devices logs small kept = absurd kept
    small_each (before ∷ befores) (es ∷ ends) [] logs small kept = absurd kept
    small_each (before ∷ befores) (es ∷ ends) (d ∷ devices) [] small kept = absurd kept
    small_each (before ∷ befores) (es ∷ ends) (d ∷ devices) (log ∷ logs) small kept =
        let same = kept.0.lines in
        let here = small.0 in
        (omega (arith, same, here), small_each befores ends devices logs small.1 kept.1)

    pub small_logs : (befores : List Content) (ends : List (List (CallEnd State Op Query Reply))) (devices : List Device) (logs : List (LogState Device)) → All (λ (d : Device). 64 * length (means d).read ≤ longest_image) devices
        → AreKeptLogs means befores ends devices logs → All (λ (log : LogState Device). 64 * length (means log.device).read ≤ longest_image) logs
    small_logs befores ends devices logs small kept =
        All-from_recursion (λ (log : LogState Device). 64 * length (means log.device).read ≤ longest_image) logs
        (small_each befores ends devices logs (recursion_from_All (λ (d : Device). 64 * length (means d).read ≤ longest_image) devices small) kept)

-- ---- nothing was left
none_failed : {k : ObjectKind} (plan : RunPlan k) (store : StoreView) → RunHasFailed plan store store NoMemory
none_failed plan store = record { says = tt; files = record { tells = refl; file = λ name. refl } }

-- memory could not be had
pub none_gone : {k : ObjectKind} {A : Type 0} (plan : RunPlan k) (lines : List ℕ) (store : StoreView) (r : Result (Vec ℕ A) Stop) → IsErrAnd r (λ stop. stop ≡ NoMemory) → HasGone plan lines store store r
none_gone plan lines store r h =
    let p = err_from_is_err_and r h in
    subst (HasGone plan lines store store) (sym p.1) (inr (subst (RunHasFailed plan store store) (sym p.2) (none_failed plan store)))

-- ---- devices that are given up
module _ {Device : Type 0} (means : Device → DeviceView) where
  headers_low : (t : ℕ) (heads : List LogHead) (logs : List Content) (olds news : List Device) → making.HeadersTo means t heads logs olds news → (t < length heads) × (1 ≤ length news)
  headers_low zero [] logs olds news h = absurd h
  headers_low zero (x ∷ heads) [] olds news h = absurd h
  headers_low zero (x ∷ heads) (c ∷ logs) [] news h = absurd h
  headers_low zero (x ∷ heads) (c ∷ logs) (o ∷ olds) [] h = absurd h
  headers_low zero (x ∷ heads) (c ∷ logs) (o ∷ olds) (n ∷ news) h = (omega arith, omega arith)
  headers_low (suc t) [] logs olds news h = absurd h
  headers_low (suc t) (x ∷ heads) [] olds news h = absurd h
  headers_low (suc t) (x ∷ heads) (c ∷ logs) [] news h = absurd h
  headers_low (suc t) (x ∷ heads) (c ∷ logs) (o ∷ olds) [] h = absurd h
  headers_low (suc t) (x ∷ heads) (c ∷ logs) (o ∷ olds) (n ∷ news) h = let low = (headers_low t heads logs olds news h.1).0 in (omega (arith, low), omega arith)

  header_begun : (t : ℕ) (heads : List LogHead) (logs : List Content) (olds news : List Device) → making.HeadersTo means t heads logs olds news → IsBegun t logs
  header_begun zero [] logs olds news h = absurd h
  header_begun zero (x ∷ heads) [] olds news h = absurd h
  header_begun zero (x ∷ heads) (c ∷ logs) [] news h = absurd h
  header_begun zero (x ∷ heads) (c ∷ logs) (o ∷ olds) [] h = absurd h
  header_begun zero (x ∷ heads) (c ∷ logs) (o ∷ olds) (n ∷ news) h = h.0
  header_begun (suc t) [] logs olds news h = absurd h
  header_begun (suc t) (x ∷ heads) [] olds news h = absurd h
  header_begun (suc t) (x ∷ heads) (c ∷ logs) [] news h = absurd h
  header_begun (suc t) (x ∷ heads) (c ∷ logs) (o ∷ olds) [] h = absurd h
  header_begun (suc t) (x ∷ heads) (c ∷ logs) (o ∷ olds) (n ∷ news) h = header_begun t heads logs olds news h.1

  -- a header's fence failed, and every device is given up
  gave_up : {k : ObjectKind} (plan : RunPlan k) (heads : List LogHead) (olds news : List Device) (thread : ℕ) (mid new : StoreView) → making.HeaderFailed means heads plan.run.base.logs olds thread news
      → length heads ≡ length plan.run.scripts → SameFaults mid new → HandsEach (map means (reverse news)) mid new → GaveUp plan mid new (line_text (fence_line thread 0))
  gave_up plan heads olds news thread mid new failed many faults hands =
      let low = headers_low thread heads plan.run.base.logs olds news failed.headers in
      let first = low.0 in
      record {
        thread = thread;
        within = omega (arith, first, many);
        begun = header_begun thread heads plan.run.base.logs olds news failed.headers;
        line = refl;
        calls = faults;
        faults = hands.faults ∙ given_back means fault_of mid.device_faults news low.1 ∙ ap (counted mid.device_faults) failed.faults;
        fences = hands.fences ∙ given_back means fences_in mid.device_fences news low.1 ∙ ap (counted mid.device_fences) failed.fences;
      }

  says_so : {k : ObjectKind} (plan : RunPlan k) (thread : ℕ) (mid new : StoreView) (s : Stop) → GaveUp plan mid new (line_text (fence_line thread 0))
      → StopSays s (λ end said. (end ≡ Faulty) × (said ≡ line_text (fence_line thread 0))) → StopSays s (λ end said. (end ≡ Faulty) × GaveUp plan mid new said)
  says_so plan thread mid new (Says ending text) h s = (s.0, subst (GaveUp plan mid new) (sym s.1) h)
  says_so plan thread mid new NoMemory h s = tt

  pub has_failed : {k : ObjectKind} {A : Type 0} (plan : RunPlan k) (lines : List ℕ) (heads : List LogHead) (olds news : List Device) (thread : ℕ) (mid new : StoreView) (s : Stop) → making.HeaderFailed means heads plan.run.base.logs olds thread news
      → length heads ≡ length plan.run.scripts → SameFiles mid new → SameFaults mid new → HandsEach (map means (reverse news)) mid new
      → StopSays s (λ end said. (end ≡ Faulty) × (said ≡ line_text (fence_line thread 0))) → HasGone plan lines mid new {A = A} (Err s)
  has_failed plan lines heads olds news thread mid new s failed many files faults hands says =
      inr (record { says = says_so plan thread mid new s (gave_up plan heads olds news thread mid new failed many faults hands) says; files = files })

-- ---- the heads that were made
pub made_heads : {State Op Query Reply V : Type 0} (items : V → List (Call State Op Query Reply)) (scripts : List V) (init : List ℕ) (count code_ code : ℕ) (heads : List LogHead) → count ≡ length scripts
    → heads ≡ heads_of code_ init count → code_ ≡ code → heads ≡ created_heads code init (map items scripts)
made_heads items scripts init count code_ code heads all is same =
    is ∙ ap (λ c. heads_from count c init 0 count) same ∙ ap (λ n. heads_from n code init 0 n) (all ∙ sym (length-map scripts items))

-- ---- over any devices
-- what a run left has ended so, and what was run is as it was handed in
pub ended_gone : {k : ObjectKind} {A : Type 0} (lines : List ℕ) (logs : List ℕ) (reopens : Bool) (state state_ : k.State) (heads : List LogHead) (nodes : List Node) (befores : List Content)
    (scripts scripts_ : List (List (Call k.State k.Op k.Query k.Reply))) (left : RunLeft k) (old new : StoreView) (r : Result (Vec ℕ A) Stop) → state_ ≡ state → scripts_ ≡ scripts
    → HasRun k.means (going_on state heads nodes befores scripts) left → RunHasEnded {k = k} (record { logs = logs; reopens = reopens; run = going_on state_ heads nodes befores scripts_ }) left old new r
    → map lines_left left.logs ≡ lines → HasGone {k = k} (record { logs = logs; reopens = reopens; run = going_on state heads nodes befores scripts }) lines old new r
ended_gone {k} lines logs reopens state state_ heads nodes befores scripts scripts_ left old new r same all run ended long =
    inl (
      left,
      run,
      long,
      subst (λ (s : k.State). RunHasEnded {k = k} (record { logs = logs; reopens = reopens; run = going_on s heads nodes befores scripts }) left old new r) same
          (subst (λ (ss : List (List (Call k.State k.Op k.Query k.Reply))). RunHasEnded {k = k} (record { logs = logs; reopens = reopens; run = going_on state_ heads nodes befores ss }) left old new r) all ended),
    )
