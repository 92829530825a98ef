-- What a run left is kept, and its report is said.

use Rattle.std.proofs.Common.{Vec, Global, ℕ, zero, suc, true, List, [], ◌∷◌, ◌≡◌, ◌<◌, ◌≤◌, ◌+◌, ◌*◌, inl, inr, length, map, Ok, Err, is_some, refl, sym, ap, ◌∙◌, subst, arith}
use Rattle.std.specs.List.{All, AllByRecursion}
use Rattle.std.proofs.lemmas.List.{length-map}
use Rattle.std.proofs.lemmas.List.Elements.{All-head, All-tail}
use Rattle.onll_model.specs.declared.call.CallEnd.{CallEnd}
use Rattle.onll_pmem.specs.Laws.{SameLaw}
use Rattle.onll_pmem.specs.Pmem.{DeviceView}
use Rattle.onll_log.specs.ImageFile.{longest_image}
use Rattle.onll_log.specs.Log.{LogState}
use Rattle.onll_outside.specs.Views.{StoreView, SameFaults, counted, HandsEach, fault_of, fences_in}
use Rattle.onll_log.specs.Grammar.{Content}
use Rattle.onll_run.specs.Left.{LogLeft, begun_logs}
use Rattle.onll_run.specs.Ended.{log_left}
use Rattle.onll_run.specs.Making.{device_of}
use Rattle.onll_run.specs.Ran as ran
use Rattle.onll_text.specs.Kinds.{ObjectKind}
use Rattle.onll_task.specs.declared.ending.Ending.TheVariants.{Faulty}
use Rattle.onll_task.specs.declared.answer.Stop.{Stop}
use Rattle.onll_task.specs.declared.answer.Stop.TheVariants.{Says, NoMemory}
use Rattle.onll_outside.specs.LineFiles.{IsWholeLine}
use Rattle.onll_task.specs.FileLines.{FitFile}
use Rattle.onll_open.specs.Names.{log_name, log_names}
use Rattle.onll_task.specs.Running.{RunPlan, RunLeft, PlanReads, HoldsLogs, HoldTo, broken_threads, fences_of, log_files}
use Rattle.onll_task.specs.Writing.{AllButStay}
use Rattle.onll_open.specs.Files.{SameBut}
use Rattle.onll_open.specs.Keeping.{AreKept, AreKeptTo, KeepFails}
use Rattle.onll_open.proofs.HeaderFaults.{risen_all}
use Rattle.onll_outside.specs.Views.{FaultsOf}
use Rattle.onll_outside.specs.declared.OutsideFault.{OutsideFault}
use Rattle.onll_outside.specs.declared.OutsideFault.TheVariants as outside
use Rattle.onll_outside.specs.declared.store.FaultKind.TheVariants as kinds
use Rattle.onll_task.specs.Stop.{StopSays}
use Rattle.onll_runner.specs.Devices.{SaysKept, DeviceFails}
use Rattle.onll_runner.specs.RunReport.{plan_report}
use Rattle.onll_runner.specs.RunEnds.{IsStored, IsStoredTo, IsAsBefore, RunHasEnded}
use Rattle.onll_runner.proofs.Keeping.{kept_logs, held_to, kept_befores, kept_many, faults_sum, fences_sum}

pub but_stay : {names : List (List ℕ)} {old new : StoreView} → SameBut names old new → AllButStay names old new
but_stay same = record { tells = same.tells; file = λ on other differs. same.file other differs }

-- what is said of a log that was not kept
kept_says : (logs : List ℕ) (thread : ℕ) (fault : OutsideFault) (s : Stop) (old new : StoreView) → SaysKept logs thread fault s → FaultsOf {T = Unit {0}} (record { kind = kinds.Keep; name = log_name logs thread }) old new (Err fault)
    → StopSays s (DeviceFails kinds.Keep logs thread old new)
kept_says logs thread outside.Failed (Says ending text) old new says h = record { says = says; rose = h.0; last = h.1 }
kept_says logs thread outside.Failed NoMemory old new says h = tt
kept_says logs thread outside.NoMemory s old new says h = subst (λ x. StopSays x (DeviceFails kinds.Keep logs thread old new)) (sym says) tt

-- the lines of devices are read back from their files
fit_logs : {Device : Type 0} (means : Device → DeviceView) (logs : List (LogState Device)) → All (λ (log : LogState Device). AllByRecursion IsWholeLine (means log.device).read) logs
    → All (λ (log : LogState Device). 64 * length (means log.device).read ≤ longest_image) logs → AllByRecursion (λ (log : LogLeft). FitFile log.read) (map (log_left means) logs)
fit_logs means [] whole small = tt
fit_logs {Device} means (log ∷ logs) whole small =
    let Whole : LogState Device → Type 0 = λ (log : LogState Device). AllByRecursion IsWholeLine (means log.device).read in
    let Small : LogState Device → Type 0 = λ (log : LogState Device). 64 * length (means log.device).read ≤ longest_image in
    (record { each = All-head Whole log logs whole; few = All-head Small log logs small }, fit_logs means logs (All-tail Whole log logs whole) (All-tail Small log logs small))

-- the thread up to which devices were kept is there
kept_to_low : (name : List ℕ) (t : ℕ) (ds : List DeviceView) (thread : ℕ) (old new : StoreView) → AreKeptTo name t ds thread old new → thread < length ds
kept_to_low name t [] thread old new h = absurd h
kept_to_low name t (d ∷ ds) zero old new h = omega arith
kept_to_low name t (d ∷ ds) (suc thread) old new h = let low = kept_to_low name (suc t) ds thread old new h.1 in omega (arith, low)

module _ {State Op Query Reply Device : Type 0} (means : Device → DeviceView) where
  hands_faults : (befores : List Content) (ends : List (List (CallEnd State Op Query Reply))) (olds : List Device) (logs : List (LogState Device)) (store after : StoreView) → 1 ≤ length logs → ran.AreKeptLogs means befores ends olds logs
      → HandsEach (map means (map device_of logs)) store after → after.device_faults ≡ counted store.device_faults (broken_threads ends)
  hands_faults befores ends olds [] store after some all hands = absurd (omega arith)
  hands_faults befores ends olds (log ∷ logs) store after some all hands =
      hands.faults ∙ risen_all fault_of store.device_faults (means log.device) (map means (map device_of logs)) ∙ ap (counted store.device_faults) (faults_sum means befores ends olds (log ∷ logs) all)

  hands_fences : (befores : List Content) (ends : List (List (CallEnd State Op Query Reply))) (olds : List Device) (logs : List (LogState Device)) (store after : StoreView) → 1 ≤ length logs → ran.AreKeptLogs means befores ends olds logs
      → HandsEach (map means (map device_of logs)) store after → after.device_fences ≡ counted store.device_fences (fences_of (map (log_left means) logs) + begun_logs befores)
  hands_fences befores ends olds [] store after some all hands = absurd (omega arith)
  hands_fences befores ends olds (log ∷ logs) store after some all hands =
      hands.fences ∙ risen_all fences_in store.device_fences (means log.device) (map means (map device_of logs)) ∙ ap (counted store.device_fences) (fences_sum means befores ends olds (log ∷ logs) all)

module _ {k : ObjectKind} {Device : Type 0} (same : SameLaw) (means : Device → DeviceView) (plan : RunPlan k) (left : RunLeft k) (olds : List Device) (logs : List (LogState Device)) (store after : StoreView)
    (logs_are : left.logs ≡ map (log_left means) logs) (some : 1 ≤ length plan.run.scripts) (many : length left.ends ≡ length plan.run.scripts) (all : ran.AreKeptLogs means plan.run.base.logs left.ends olds logs)
    (whole : All (λ (log : LogState Device). AllByRecursion IsWholeLine (means log.device).read) logs) (small : All (λ (log : LogState Device). 64 * length (means log.device).read ≤ longest_image) logs) where
  -- devices that were kept hold what a run left
  pub has_stored : (after.tells ≡ true → (d : Device) → is_some (means d).told ≡ true) → AreKept plan.logs 0 (map means (map device_of logs)) after → SameFaults store after
      → HandsEach (map means (map device_of logs)) store after → SameBut (log_names plan.logs 0 (length logs)) store after → IsStored plan left store after
  has_stored tells kept faults hands others =
      let long : length logs ≡ length plan.run.scripts = kept_many means plan.run.base.logs left.ends olds logs all ∙ many in
      let there : 1 ≤ length logs = omega (arith, long, some) in
      record {
        calls = faults;
        faults = hands_faults means plan.run.base.logs left.ends olds logs store after there all hands;
        fences = hands_fences means plan.run.base.logs left.ends olds logs store after there all hands
            ∙ ap (λ (ls : List LogLeft). counted store.device_fences (fences_of ls + begun_logs plan.run.base.logs)) (sym logs_are);
        files = subst (λ ls. HoldsLogs after plan.logs 0 ls left.ends) (sym logs_are) (kept_logs same means after plan.logs 0 plan.run.base.logs left.ends olds logs tells all kept);
        fit = subst (AllByRecursion (λ (log : LogLeft). FitFile log.read)) (sym logs_are) (fit_logs means logs whole small);
        others = but_stay (subst (λ n. SameBut (log_names plan.logs 0 n) store after) long others);
      }

  -- the same of devices that are those of the logs
  pub stored_by : (devices : List Device) → devices ≡ map device_of logs → (after.tells ≡ true → (d : Device) → is_some (means d).told ≡ true) → AreKept plan.logs 0 (map means devices) after → SameFaults store after
      → HandsEach (map means devices) store after → SameBut (log_names plan.logs 0 (length devices)) store after → IsStored plan left store after
  stored_by devices is tells kept faults hands others = has_stored tells
      (subst (λ (ds : List Device). AreKept plan.logs 0 (map means ds) after) is kept) faults
      (subst (λ (ds : List Device). HandsEach (map means ds) store after) is hands)
      (subst (λ n. SameBut (log_names plan.logs 0 n) store after) (ap length is ∙ length-map logs device_of) others)

  -- devices that were kept up to a thread's hold so much of it
  pub stored_to : (devices : List Device) → devices ≡ map device_of logs → (after.tells ≡ true → (d : Device) → is_some (means d).told ≡ true) → (s : Stop) (thread : ℕ) (fault : OutsideFault) → SaysKept plan.logs thread fault s → KeepFails plan.logs (map means devices) store after thread fault
      → HandsEach (map means devices) store after → SameBut (log_names plan.logs 0 (length devices)) store after → IsStoredTo plan left store after s
  stored_to devices is tells s thread fault says fails hands_ others =
      let long : length logs ≡ length plan.run.scripts = kept_many means plan.run.base.logs left.ends olds logs all ∙ many in
      let there : 1 ≤ length logs = omega (arith, long, some) in
      let hands : HandsEach (map means (map device_of logs)) store after = subst (λ (ds : List Device). HandsEach (map means ds) store after) is hands_ in
      let kept : AreKeptTo plan.logs 0 (map means (map device_of logs)) thread store after = subst (λ (ds : List Device). AreKeptTo plan.logs 0 (map means ds) thread store after) is fails.files in
      let befores = kept_befores means plan.run.base.logs left.ends olds logs all in
      let mapped = length-map (map device_of logs) means in
      let mapped_ = length-map logs device_of in
      let names : length plan.run.base.logs ≡ length plan.run.scripts = omega (arith, befores, mapped, mapped_, long) in
      let low = kept_to_low plan.logs 0 (map means (map device_of logs)) thread store after kept in
      record {
        thread = thread;
        within = omega (arith, low, befores, names);
        files = subst (λ ls. HoldTo (IsAsBefore store after) after (log_files plan) plan.run.base.logs ls left.ends thread) (sym logs_are)
            (subst (λ n. HoldTo (IsAsBefore store after) after (log_names plan.logs 0 n) plan.run.base.logs (map (log_left means) logs) left.ends thread) names
            (held_to same means store after plan.logs 0 plan.run.base.logs left.ends olds logs thread others.tells tells all kept));
        faults = hands_faults means plan.run.base.logs left.ends olds logs store after there all hands;
        fences = hands_fences means plan.run.base.logs left.ends olds logs store after there all hands
            ∙ ap (λ (ls : List LogLeft). counted store.device_fences (fences_of ls + begun_logs plan.run.base.logs)) (sym logs_are);
        says = kept_says plan.logs thread fault s store after says fails.faults;
      }

module _ {k : ObjectKind} (plan : RunPlan k) (left : RunLeft k) (store after : StoreView) where
  pub ended_whole : {A : Type 0} (text : Vec ℕ A) → IsStored plan left store after → broken_threads left.ends ≡ 0 → text.items ≡ plan_report plan left
      → PlanReads plan left → SameBut (log_files plan) store after → RunHasEnded plan left store after (Ok text)
  ended_whole text kept whole report reads others = record { kept = kept; whole = whole; report = report; reads = reads; stop = tt; others = others }

  pub ended_broken : {A : Type 0} (text : Vec ℕ Global) → IsStored plan left store after → 1 ≤ broken_threads left.ends → text.items ≡ plan_report plan left
      → PlanReads plan left → SameBut (log_files plan) store after → RunHasEnded plan left store after {A = A} (Err (Says Faulty text))
  ended_broken text kept broken report reads others =
      record { kept = tt; whole = tt; report = tt; reads = tt; stop = inl (record { stored = kept; broken = broken; reads = reads; says = (refl, report) }); others = others }

  -- it is kept in part
  pub ended_unkept : {A : Type 0} (s : Stop) → IsStoredTo plan left store after s → SameBut (log_files plan) store after → RunHasEnded plan left store after {A = A} (Err s)
  ended_unkept s stored others = record { kept = tt; whole = tt; report = tt; reads = tt; stop = inr (inl stored); others = others }

-- ---- as many devices as threads
module _ {State Op Query Reply Device A : Type 0} (means : Device → DeviceView) (befores : List Content) (ends : List (List (CallEnd State Op Query Reply))) (olds : List Device) (logs : List (LogState Device)) (threads : List A)
    (devices : List Device) (name : List ℕ) (store after : StoreView) where
  run_many : length ends ≡ length threads → devices ≡ map device_of logs → ran.AreKeptLogs means befores ends olds logs → length devices ≡ length threads
  run_many few is all = ap length is ∙ length-map logs device_of ∙ kept_many means befores ends olds logs all ∙ few

  pub others_many : {B : Type 0} (f : A → B) → length ends ≡ length threads → devices ≡ map device_of logs → ran.AreKeptLogs means befores ends olds logs → SameBut (log_names name 0 (length devices)) store after
      → SameBut (log_names name 0 (length (map f threads))) store after
  others_many f few is all = subst (λ n. SameBut (log_names name 0 n) store after) (run_many few is all ∙ sym (length-map threads f))
