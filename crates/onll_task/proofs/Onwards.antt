-- How jobs that read and write go on.

use Rattle.std.proofs.Common.{ℕ, zero, suc, true, false, List, [], ◌∷◌, ◌≡◌, ◌⊎◌, inl, inr, ⊎_elim, ◌+◌, ◌^◌, ◌<◌, length, take, drop, get_or, Bool, Option, Some, None, Result, refl, sym, ap, ◌∙◌, subst, arith}
use Rattle.std.proofs.lemmas.List.{drop_more}
use Rattle.std.specs.List.{AllByRecursion}
use Rattle.onll_log.specs.ImageFile.{image_lines}
use Rattle.onll_outside.specs.Views.{StoreView, SameFiles, SameOthers, SameFaults, Rose, FileHolds, MayWipe, counted, image_bytes}
use Rattle.onll_areas.specs.Keeping.{OthersStay, StaysOrZeros, MayKeepLines, HasKeptLines, DeviceNotMade, DeviceNotKept, FenceNotMade}
use Rattle.onll_text.specs.Refusal.{Refusal}
use Rattle.onll_task.specs.declared.ending.Ending.{Ending}
use Rattle.onll_task.specs.declared.ending.Ending.TheVariants.{Done, Usage, Refused, BadLog, ReadFault, WriteFault, Faulty, Judged}
use Rattle.onll_task.specs.Reading.{Reads, ReadsWhole, HoldsImage}
use Rattle.onll_open.specs.Names.{log_name, log_names}
use Rattle.onll_task.specs.Images.{writing_images}
use Rattle.onll_text.specs.Kinds.{ObjectKind}
use Rattle.onll_log.specs.declared.head.LogHead.{LogHead}
use Rattle.onll_log.specs.Grammar.{Content}
use Rattle.onll_model.specs.declared.call.Call.{Call}
use Rattle.onll_model.specs.declared.call.CallEnd.{CallEnd}
use Rattle.onll_model.specs.Calls.{updates_in}
use Rattle.onll_run.specs.Left.{LogLeft, begun_logs}
use Rattle.onll_task.specs.Running.{RunPlan, RunLeft, HasKept, LeavesKept, HasSize, HaveSizes, IsNoLonger, FileStands, StandsByHead, AllStand, AllBegun, FilesBegun, FilesStand, StandsBegun, HoldOrStand, HoldTo, KeptTo, PlanNotMade, NotKept, IsCutShort, RunStops, broken_threads, fences_of, log_files}
use Rattle.onll_open.specs.Devices.{NoneCounted}
use Rattle.onll_task.specs.Writing.{FilesStay, AllButStay, HasWritten, CannotWrite, WriteFailed, written}
use Rattle.onll_open.specs.Files.{SameCounts, SameBut}
use Rattle.onll_task.specs.Keeps.{KeepStops}
use Rattle.onll_task.specs.Job.{Job, Say, Read, Write, Keep, Assured, Threads, JobEnds, JobCut, JobGoesOn, on_value, reading, reading_whole}
use Rattle.onll_task.proofs.Jobs.{Stops, files_stay, written_stays, leaves_written, cannot_from}

pub stay_more : (store mid after : StoreView) → FilesStay store mid → FilesStay mid after → FilesStay store after
stay_more store mid after first then_ = record { tells = then_.tells ∙ first.tells; file = λ tells name. then_.file (first.tells ∙ tells) name ∙ first.file tells name }

faults_more : (store mid after : StoreView) → SameFaults store mid → SameFaults mid after → SameFaults store after
faults_more store mid after first then_ = (then_.0 ∙ first.0, then_.1 ∙ first.1)

pub counts_more : (store mid after : StoreView) → SameCounts store mid → SameCounts mid after → SameCounts store after
counts_more store mid after first then_ =
    (faults_more store mid after first.0 then_.0, (then_.1.0 ∙ first.1.0, then_.1.1 ∙ first.1.1))

others_more : (store mid after : StoreView) (name : List ℕ) → FilesStay store mid → OthersStay name mid after → OthersStay name store after
others_more store mid after name first then_ = record { tells = then_.tells ∙ first.tells; file = λ tells other differs. then_.file (first.tells ∙ tells) other differs ∙ first.file tells other }

write_failed_from : (store mid after : StoreView) (name : List ℕ) → FilesStay store mid → SameCounts store mid → WriteFailed mid after name → WriteFailed store after name
write_failed_from store mid after name files same h = record { rose = subst (λ n. Rose n after.faults) same.0.0 h.rose; last = h.last; others = others_more store mid after name files h.others }

cannot_write_from : (store mid after : StoreView) (name : List ℕ) (ending : Ending) (text : List ℕ) → FilesStay store mid → SameCounts store mid → CannotWrite mid after name ending text → CannotWrite store after name ending text
cannot_write_from store mid after name Done text files same h = absurd h
cannot_write_from store mid after name Usage text files same h = absurd h
cannot_write_from store mid after name Refused text files same h = absurd h
cannot_write_from store mid after name BadLog text files same h = absurd h
cannot_write_from store mid after name ReadFault text files same h = absurd h
cannot_write_from store mid after name Faulty text files same h = absurd h
cannot_write_from store mid after name WriteFault text files same h =
    record { failed = write_failed_from store mid after name files same h.failed; line = h.line }
cannot_write_from store mid after name Judged text files same h = absurd h

-- ---- runs from the store before
but_more : (names : List (List ℕ)) (store mid after : StoreView) → FilesStay store mid → AllButStay names mid after → AllButStay names store after
but_more names store mid after first then_ = record { tells = then_.tells ∙ first.tells; file = λ tells other differs. then_.file (first.tells ∙ tells) other differs ∙ first.file tells other }

no_longer_from : (store mid : StoreView) (name : List ℕ) (read : List (List ℕ)) → FilesStay store mid → IsNoLonger mid name read → IsNoLonger store name read
no_longer_from store mid name read files h on bytes is = h (files.tells ∙ on) bytes (files.file on name ∙ is)

size_from : (reopens : Bool) (threads : ℕ) (store mid : StoreView) (name : List ℕ) (before : Content) (updates : ℕ) (log : LogLeft) → FilesStay store mid → HasSize reopens threads mid name before updates log → HasSize reopens threads store name before updates log
size_from false threads store mid name before updates log files h = h
size_from true threads store mid name before updates log files h = (h.0, no_longer_from store mid name log.read files h.1)

sizes_from : {State Op Query Reply : Type 0} (reopens : Bool) (threads : ℕ) (store mid : StoreView) (names : List (List ℕ)) (befores : List Content) (scripts : List (List (Call State Op Query Reply))) (logs : List LogLeft) → FilesStay store mid
    → HaveSizes reopens threads mid names befores scripts logs → HaveSizes reopens threads store names befores scripts logs
sizes_from reopens threads store mid [] [] [] [] files h = tt
sizes_from reopens threads store mid (name ∷ names) (before ∷ befores) (script ∷ scripts) (log ∷ logs) files h =
    (size_from reopens threads store mid name before (updates_in script) log files h.0, sizes_from reopens threads store mid names befores scripts logs files h.1)
sizes_from reopens threads store mid [] [] [] (log ∷ logs) files h = absurd h
sizes_from reopens threads store mid [] [] (script ∷ scripts) logs files h = absurd h
sizes_from reopens threads store mid [] (before ∷ befores) scripts logs files h = absurd h
sizes_from reopens threads store mid (name ∷ names) [] scripts logs files h = absurd h
sizes_from reopens threads store mid (name ∷ names) (before ∷ befores) [] logs files h = absurd h
sizes_from reopens threads store mid (name ∷ names) (before ∷ befores) (script ∷ scripts) [] files h = absurd h

kept_from : {k : ObjectKind} (plan : RunPlan k) (left : RunLeft k) (store mid kept : StoreView) → FilesStay store mid → SameCounts store mid → HasKept plan left mid kept → HasKept plan left store kept
kept_from plan left store mid kept files counts h = record {
  calls = faults_more store mid kept counts.0 h.calls;
  faults = h.faults ∙ ap (λ n. counted n (broken_threads left.ends)) counts.1.0;
  fences = h.fences ∙ ap (λ n. counted n (fences_of left.logs + begun_logs plan.run.base.logs)) counts.1.1;
  files = h.files;
  fit = h.fit;
  sizes = sizes_from plan.reopens (length plan.run.scripts) store mid (log_files plan) plan.run.base.logs plan.run.scripts left.logs files h.sizes;
  others = but_more (log_files plan) store mid kept files h.others;
}

leaves_from : {k : ObjectKind} (plan : RunPlan k) (store mid : StoreView) {Next : RunLeft k → StoreView → Type 0} → FilesStay store mid → SameCounts store mid → LeavesKept plan mid Next → LeavesKept plan store Next
leaves_from plan store mid files counts h = record {
  left = h.left;
  kept = h.kept;
  run = h.run;
  reads = h.reads;
  keeps = kept_from plan h.left store mid h.kept files counts h.keeps;
  next = h.next;
}

zeros_from : (store mid after : StoreView) (name : List ℕ) → FilesStay store mid → StaysOrZeros mid after name → StaysOrZeros store after name
zeros_from store mid after name files h tells = ⊎_elim (λ (e : after.file name ≡ mid.file name). inl (e ∙ files.file tells name)) (λ z. inr z) (h (files.tells ∙ tells))

wiped_from : (store mid after : StoreView) (name front : List ℕ) → FilesStay store mid → MayWipe name front mid after → MayWipe name front store after
wiped_from store mid after name front files h on =
    let w = h (files.tells ∙ on) in record { was = w.was; rest = w.rest; before = sym (files.file on name) ∙ w.before; now = w.now; wiped = w.wiped }

file_stands_from : (store mid after : StoreView) → FilesStay store mid → (name : List ℕ) (log : Content) → FileStands mid after name log → FileStands store after name log
file_stands_from store mid after files name log h = by log.head h
  where
    by : (head : Option LogHead) → StandsByHead head mid after name log → StandsByHead head store after name log
    by None z = zeros_from store mid after name files z
    by (Some head) w = (w.0, w.1, w.2, wiped_from store mid after name (image_bytes w.0) files w.3)

-- files that stand so stand as well in any way that follows
pub all_stand_by : {S T : List ℕ → Content → Type 0} → ((name : List ℕ) (log : Content) → S name log → T name log) → (names : List (List ℕ)) (logs : List Content) → AllStand S names logs → AllStand T names logs
all_stand_by follows [] [] h = tt
all_stand_by follows [] (log ∷ logs) h = absurd h
all_stand_by follows (name ∷ names) [] h = absurd h
all_stand_by follows (name ∷ names) (log ∷ logs) h = (follows name log h.0, all_stand_by follows names logs h.1)

pub stand_from : {k : ObjectKind} (plan : RunPlan k) (store mid after : StoreView) → FilesStay store mid → FilesStand plan mid after → FilesStand plan store after
stand_from plan store mid after files h = all_stand_by (file_stands_from store mid after files) (log_files plan) plan.run.base.logs h

-- ---- files over which headers may have been written
begun_stand : (store after : StoreView) (names : List (List ℕ)) (logs : List Content) (written : List LogHead) → AllStand (FileStands store after) names logs → AllBegun store after names logs written
begun_stand store after names logs [] h = h
begun_stand store after [] [] (head ∷ heads) h = tt
begun_stand store after [] (log ∷ logs) (head ∷ heads) h = absurd h
begun_stand store after (name ∷ names) [] (head ∷ heads) h = absurd h
begun_stand store after (name ∷ names) (log ∷ logs) (head ∷ heads) h = (inl h.0, begun_stand store after names logs heads h.1)

-- they stand so too where none was
pub stand_begun : {k : ObjectKind} (plan : RunPlan k) (written : List LogHead) (store after : StoreView) → FilesStand plan store after → FilesBegun plan written store after
stand_begun plan written store after h = begun_stand store after (log_files plan) plan.run.base.logs written h

file_begun_from : (store mid after : StoreView) → FilesStay store mid → (name : List ℕ) (log : Content) (head : LogHead) → StandsBegun mid after name log head → StandsBegun store after name log head
file_begun_from store mid after files name log head h =
    ⊎_elim (λ s. inl (file_stands_from store mid after files name log s)) (λ w. inr (w.0, λ on. w.1 (files.tells ∙ on))) h

all_begun_from : (store mid after : StoreView) → FilesStay store mid → (names : List (List ℕ)) (logs : List Content) (written : List LogHead) → AllBegun mid after names logs written → AllBegun store after names logs written
all_begun_from store mid after files names logs [] h = all_stand_by (file_stands_from store mid after files) names logs h
all_begun_from store mid after files [] [] (head ∷ heads) h = tt
all_begun_from store mid after files [] (log ∷ logs) (head ∷ heads) h = absurd h
all_begun_from store mid after files (name ∷ names) [] (head ∷ heads) h = absurd h
all_begun_from store mid after files (name ∷ names) (log ∷ logs) (head ∷ heads) h =
    (file_begun_from store mid after files name log head h.0, all_begun_from store mid after files names logs heads h.1)

begun_from : {k : ObjectKind} (plan : RunPlan k) (written : List LogHead) (store mid after : StoreView) → FilesStay store mid → FilesBegun plan written mid after → FilesBegun plan written store after
begun_from plan written store mid after files h = all_begun_from store mid after files (log_files plan) plan.run.base.logs written h

-- where more may have been written
all_begun_more : (store after : StoreView) (names : List (List ℕ)) (logs : List Content) (written : List LogHead) (n : ℕ) → AllBegun store after names logs (take n written) → AllBegun store after names logs written
all_begun_more store after names logs [] n h = begun_stand store after names logs [] (none n h)
  where
    none : (n : ℕ) → AllBegun store after names logs (take n []) → AllStand (FileStands store after) names logs
    none zero i = i
    none (suc n) i = i
all_begun_more store after names logs (head ∷ heads) zero h = begun_stand store after names logs (head ∷ heads) h
all_begun_more store after [] [] (head ∷ heads) (suc n) h = tt
all_begun_more store after [] (log ∷ logs) (head ∷ heads) (suc n) h = absurd h
all_begun_more store after (name ∷ names) [] (head ∷ heads) (suc n) h = absurd h
all_begun_more store after (name ∷ names) (log ∷ logs) (head ∷ heads) (suc n) h = (h.0, all_begun_more store after names logs heads n h.1)

-- ---- files over which devices were kept up to a thread's
hold_or_stand_by : {S T : List ℕ → Content → Type 0} {State Op Query Reply : Type 0} (after : StoreView) → ((name : List ℕ) (log : Content) → S name log → T name log) → (names : List (List ℕ)) (befores : List Content) (logs : List LogLeft)
    (ends : List (List (CallEnd State Op Query Reply))) → HoldOrStand S after names befores logs ends → HoldOrStand T after names befores logs ends
hold_or_stand_by after follows [] [] [] [] h = tt
hold_or_stand_by after follows (name ∷ names) (before ∷ befores) (log ∷ logs) (es ∷ ends) h =
    (⊎_elim (λ s. inl (follows name before s)) (λ held. inr held) h.0, hold_or_stand_by after follows names befores logs ends h.1)
hold_or_stand_by after follows [] [] [] (es ∷ ends) h = absurd h
hold_or_stand_by after follows [] [] (log ∷ logs) ends h = absurd h
hold_or_stand_by after follows [] (before ∷ befores) logs ends h = absurd h
hold_or_stand_by after follows (name ∷ names) [] logs ends h = absurd h
hold_or_stand_by after follows (name ∷ names) (before ∷ befores) [] ends h = absurd h
hold_or_stand_by after follows (name ∷ names) (before ∷ befores) (log ∷ logs) [] h = absurd h

hold_to_by : {S T : List ℕ → Content → Type 0} {State Op Query Reply : Type 0} (after : StoreView) → ((name : List ℕ) (log : Content) → S name log → T name log) → (names : List (List ℕ)) (befores : List Content) (logs : List LogLeft)
    (ends : List (List (CallEnd State Op Query Reply))) (t : ℕ) → HoldTo S after names befores logs ends t → HoldTo T after names befores logs ends t
hold_to_by after follows (name ∷ names) (before ∷ befores) (log ∷ logs) (es ∷ ends) zero h =
    hold_or_stand_by after follows (name ∷ names) (before ∷ befores) (log ∷ logs) (es ∷ ends) h
hold_to_by after follows (name ∷ names) (before ∷ befores) (log ∷ logs) (es ∷ ends) (suc t) h = (h.0, hold_to_by after follows names befores logs ends t h.1)
hold_to_by after follows [] befores logs ends t h = absurd h
hold_to_by after follows (name ∷ names) [] logs ends t h = absurd h
hold_to_by after follows (name ∷ names) (before ∷ befores) [] ends t h = absurd h
hold_to_by after follows (name ∷ names) (before ∷ befores) (log ∷ logs) [] t h = absurd h

kept_to_from : {k : ObjectKind} (plan : RunPlan k) (left : RunLeft k) (thread : ℕ) (store mid after : StoreView) → FilesStay store mid → SameCounts store mid → KeptTo plan left thread mid after → KeptTo plan left thread store after
kept_to_from plan left thread store mid after files counts h = record {
  files = hold_to_by after (file_stands_from store mid after files) (log_files plan) plan.run.base.logs left.logs left.ends thread h.files;
  faults = h.faults ∙ ap (λ n. counted n (broken_threads left.ends)) counts.1.0;
  fences = h.fences ∙ ap (λ n. counted n (fences_of left.logs + begun_logs plan.run.base.logs)) counts.1.1;
}

none_counted_from : (store mid after : StoreView) → SameCounts store mid → NoneCounted mid after → NoneCounted store after
none_counted_from store mid after counts h = (
  (λ few. h.0 (subst (λ n. n < 2 ^ 64) (sym counts.1.0) few) ∙ counts.1.0),
  (λ few. h.1 (subst (λ n. n < 2 ^ 64) (sym counts.1.1) few) ∙ counts.1.1),
)

cause_from : {k : ObjectKind} (plan : RunPlan k) (store mid after : StoreView) (thread : ℕ) → FilesStay store mid → SameCounts store mid → PlanNotMade plan mid after thread ⊎ NotKept plan mid after thread
    → PlanNotMade plan store after thread ⊎ NotKept plan store after thread
cause_from plan store mid after thread files counts (inl h) =
    inl (record { kind = h.kind; call = h.call; last = h.last; devices = none_counted_from store mid after counts h.devices; files = stand_from plan store mid after files h.files })
cause_from plan store mid after thread files counts (inr h) =
    inr (record { last = h.last; left = h.left; run = h.run; kept = kept_to_from plan h.left thread store mid after files counts h.kept })

run_stops_from : {k : ObjectKind} (plan : RunPlan k) (store mid after : StoreView) (ending : Ending) (text : List ℕ) → FilesStay store mid → SameCounts store mid → RunStops plan mid after ending text → RunStops plan store after ending text
run_stops_from plan store mid after Done text files counts h = absurd h
run_stops_from plan store mid after Usage text files counts h = absurd h
run_stops_from plan store mid after Refused text files counts h = absurd h
run_stops_from plan store mid after BadLog text files counts h = absurd h
run_stops_from plan store mid after ReadFault text files counts h = absurd h
run_stops_from plan store mid after WriteFault text files counts h = record {
  thread = h.thread;
  within = h.within;
  line = h.line;
  rose = subst (λ n. Rose n after.faults) counts.0.0 h.rose;
  cause = cause_from plan store mid after h.thread files counts h.cause;
  others = but_more (log_files plan) store mid after files h.others;
}
run_stops_from plan store mid after Faulty text files counts h = record {
  thread = h.thread;
  within = h.within;
  begun = h.begun;
  line = h.line;
  calls = faults_more store mid after counts.0 h.calls;
  faults = h.faults ∙ ap (λ n. counted n 1) counts.1.0;
  fences = h.fences ∙ ap (λ n. counted n (begun_logs (take (h.thread + 1) plan.run.base.logs))) counts.1.1;
  files = begun_from plan (take (h.thread + 1) plan.run.heads) store mid after files h.files;
  others = but_more (log_files plan) store mid after files h.others;
}
run_stops_from plan store mid after Judged text files counts h = absurd h

-- ---- devices that are kept, from the store before
lines_kept_from : (store mid kept : StoreView) (name : List ℕ) (lines : List (List ℕ)) (fences : ℕ) → FilesStay store mid → SameCounts store mid → HasKeptLines mid kept name lines fences → HasKeptLines store kept name lines fences
lines_kept_from store mid kept name lines fences files counts h = record {
  calls = faults_more store mid kept counts.0 h.calls;
  faults = h.faults ∙ ap (λ n. counted n 0) counts.1.0;
  fences_are = h.fences_are ∙ ap (λ n. counted n fences) counts.1.1;
  file = λ tells. h.file (files.tells ∙ tells);
  others = others_more store mid kept name files h.others;
}

may_keep_from : (store mid after : StoreView) (name : List ℕ) (lines : List (List ℕ)) → FilesStay store mid → MayKeepLines mid after name lines → MayKeepLines store after name lines
may_keep_from store mid after name lines files h = record {
  file = λ tells. ⊎_elim (λ (e : after.file name ≡ mid.file name). inl (e ∙ files.file tells name)) (λ z. inr z) (h.file (files.tells ∙ tells));
  others = others_more store mid after name files h.others;
}

not_kept_from : (store mid after : StoreView) (name : List ℕ) (lines : List (List ℕ)) (fences : ℕ) → FilesStay store mid → SameCounts store mid → DeviceNotMade mid after name ⊎ DeviceNotKept mid after name lines fences
    → DeviceNotMade store after name ⊎ DeviceNotKept store after name lines fences
not_kept_from store mid after name lines fences files counts (inl h) = inl (record {
  rose = subst (λ n. Rose n after.faults) counts.0.0 h.rose;
  last = h.last;
  devices = (h.devices.0 ∙ counts.1.0, h.devices.1 ∙ counts.1.1);
  file = zeros_from store mid after name files h.file;
  others = others_more store mid after name files h.others;
})
not_kept_from store mid after name lines fences files counts (inr h) = inr (record {
  rose = subst (λ n. Rose n after.faults) counts.0.0 h.rose;
  last = h.last;
  faults = h.faults ∙ ap (λ n. counted n 0) counts.1.0;
  fences_are = h.fences_are ∙ ap (λ n. counted n fences) counts.1.1;
  leaves = may_keep_from store mid after name lines files h.leaves;
})

fence_from : (store mid after : StoreView) (name : List ℕ) (fences : ℕ) → FilesStay store mid → SameCounts store mid → FenceNotMade mid after name fences → FenceNotMade store after name fences
fence_from store mid after name fences files counts h = record {
  calls = faults_more store mid after counts.0 h.calls;
  faults = h.faults ∙ ap (λ n. counted n 1) counts.1.0;
  made = h.made;
  some = h.some;
  within = h.within;
  fences_are = h.fences_are ∙ ap (λ n. counted n h.made) counts.1.1;
  file = zeros_from store mid after name files h.file;
  others = others_more store mid after name files h.others;
}

keep_stops_from : (store mid after : StoreView) (name : List ℕ) (lines : List (List ℕ)) (fences : ℕ) (said : List ℕ) (ending : Ending) (text : List ℕ) → FilesStay store mid → SameCounts store mid → KeepStops mid after name lines fences said ending text
    → KeepStops store after name lines fences said ending text
keep_stops_from store mid after name lines fences said Done text files counts h = absurd h
keep_stops_from store mid after name lines fences said Usage text files counts h = absurd h
keep_stops_from store mid after name lines fences said Refused text files counts h = absurd h
keep_stops_from store mid after name lines fences said BadLog text files counts h = absurd h
keep_stops_from store mid after name lines fences said ReadFault text files counts h = absurd h
keep_stops_from store mid after name lines fences said WriteFault text files counts h = (h.0, not_kept_from store mid after name lines fences files counts h.1)
keep_stops_from store mid after name lines fences said Faulty text files counts h = (h.0, fence_from store mid after name fences files counts h.1)
keep_stops_from store mid after name lines fences said Judged text files counts h = absurd h

-- what a job does from a store it does from the store before, where neither files nor counts changed
pub ends_from : (store mid after : StoreView) (job : Job) (ending : Ending) (text : List ℕ) → FilesStay store mid → SameCounts store mid → JobEnds mid after job ending text → JobEnds store after job ending text
ends_from store mid after (Say e t) ending text files counts h = (h.0, h.1, stay_more store mid after files h.2, counts_more store mid after counts h.3)
ends_from store mid after (Read name next) ending text files counts (inl h) = inl (cannot_from store mid after name ending text counts h.0, stay_more store mid after files h.1)
ends_from store mid after (Read name next) ending text files counts (inr h) =
    inr (h.0, ((λ tells. sym (files.file tells name) ∙ h.1.0 (files.tells ∙ tells)), ends_from store mid after (next h.0) ending text files counts h.1.1))
ends_from store mid after (Write name bytes next) ending text files counts (inl h) = inl (cannot_write_from store mid after name ending text files counts h)
ends_from store mid after (Write name bytes next) ending text files counts (inr h) =
    inr (ends_from (written store name bytes) (written mid name bytes) after next ending text (written_stays store mid name bytes files) counts h)
ends_from store mid after (Keep name lines fences said next) ending text files counts (inl h) = inl (keep_stops_from store mid after name lines fences said ending text files counts h)
ends_from store mid after (Keep name lines fences said next) ending text files counts (inr h) = inr (h.0, lines_kept_from store mid h.0 name lines fences files counts h.1, h.2)
ends_from store mid after (Assured b next) ending text files counts h = (h.0, ends_from store mid after next ending text files counts h.1)
ends_from store mid after (Threads kind plan next) ending text files counts (inl h) = inl (run_stops_from plan store mid after ending text files counts h)
ends_from store mid after (Threads kind plan next) ending text files counts (inr h) =
    inr (leaves_from plan store mid files counts h)

-- ---- jobs that stop early
stay_may_keep : (store after : StoreView) (name : List ℕ) (lines : List (List ℕ)) → FilesStay store after → MayKeepLines store after name lines
stay_may_keep store after name lines h =
    record { file = λ tells. inl (h.file tells name); others = record { tells = h.tells; file = λ tells other differs. h.file tells other } }

pub stay_cut : (store after : StoreView) (job : Job) → FilesStay store after → JobCut store after job
stay_cut store after (Say e t) h = h
stay_cut store after (Read name next) h = inl h
stay_cut store after (Write name bytes next) h = inl (inl h)
stay_cut store after (Keep name lines fences said next) h = inl (stay_may_keep store after name lines h)
stay_cut store after (Assured b next) h = inl h
stay_cut store after (Threads kind plan next) h = inl (inl h)

short_from : {k : ObjectKind} (plan : RunPlan k) (store mid after : StoreView) → FilesStay store mid → SameCounts store mid → IsCutShort plan mid after → IsCutShort plan store after
short_from plan store mid after files counts (inl h) = inl (stay_more store mid after files h)
short_from plan store mid after files counts (inr (inl h)) =
    inr (inl (record { files = begun_from plan plan.run.heads store mid after files h.files; others = but_more (log_files plan) store mid after files h.others }))
short_from plan store mid after files counts (inr (inr h)) = inr (inr (record {
  left = h.left;
  run = h.run;
  thread = h.thread;
  kept = kept_to_from plan h.left h.thread store mid after files counts h.kept;
  others = but_more (log_files plan) store mid after files h.others;
}))

cut_from : (store mid after : StoreView) (job : Job) → FilesStay store mid → SameCounts store mid → JobCut mid after job → JobCut store after job
cut_from store mid after (Say e t) files counts h = stay_more store mid after files h
cut_from store mid after (Read name next) files counts (inl h) = inl (stay_more store mid after files h)
cut_from store mid after (Read name next) files counts (inr h) =
    inr (h.0, ((λ tells. sym (files.file tells name) ∙ h.1.0 (files.tells ∙ tells)), cut_from store mid after (next h.0) files counts h.1.1))
cut_from store mid after (Write name bytes next) files counts (inl (inl h)) = inl (inl (stay_more store mid after files h))
cut_from store mid after (Write name bytes next) files counts (inl (inr h)) = inl (inr (write_failed_from store mid after name files counts h))
cut_from store mid after (Write name bytes next) files counts (inr h) =
    inr (cut_from (written store name bytes) (written mid name bytes) after next (written_stays store mid name bytes files) counts h)
cut_from store mid after (Keep name lines fences said next) files counts (inl h) = inl (may_keep_from store mid after name lines files h)
cut_from store mid after (Keep name lines fences said next) files counts (inr h) = inr (h.0, lines_kept_from store mid h.0 name lines fences files counts h.1, h.2)
cut_from store mid after (Assured b next) files counts (inl h) = inl (stay_more store mid after files h)
cut_from store mid after (Assured b next) files counts (inr h) = inr (h.0, cut_from store mid after next files counts h.1)
cut_from store mid after (Threads kind plan next) files counts (inl h) = inl (short_from plan store mid after files counts h)
cut_from store mid after (Threads kind plan next) files counts (inr h) =
    inr (leaves_from plan store mid files counts h)

cannot_write_failed : (store after : StoreView) (name : List ℕ) (ending : Ending) (text : List ℕ) → CannotWrite store after name ending text → WriteFailed store after name
cannot_write_failed store after name Done text h = absurd h
cannot_write_failed store after name Usage text h = absurd h
cannot_write_failed store after name Refused text h = absurd h
cannot_write_failed store after name BadLog text h = absurd h
cannot_write_failed store after name ReadFault text h = absurd h
cannot_write_failed store after name Faulty text h = absurd h
cannot_write_failed store after name WriteFault text h = h.failed
cannot_write_failed store after name Judged text h = absurd h

device_fault_cut : {k : ObjectKind} (plan : RunPlan k) (store after : StoreView) (thread : ℕ) → AllButStay (log_files plan) store after → PlanNotMade plan store after thread ⊎ NotKept plan store after thread
    → IsCutShort plan store after
device_fault_cut plan store after thread others (inl h) = inr (inl (record { files = stand_begun plan plan.run.heads store after h.files; others = others }))
device_fault_cut plan store after thread others (inr h) = inr (inr (record { left = h.left; run = h.run; thread = thread; kept = h.kept; others = others }))

run_stops_cut : {k : ObjectKind} (plan : RunPlan k) (store after : StoreView) (ending : Ending) (text : List ℕ) → RunStops plan store after ending text → IsCutShort plan store after
run_stops_cut plan store after Done text h = absurd h
run_stops_cut plan store after Usage text h = absurd h
run_stops_cut plan store after Refused text h = absurd h
run_stops_cut plan store after BadLog text h = absurd h
run_stops_cut plan store after ReadFault text h = absurd h
run_stops_cut plan store after WriteFault text h = device_fault_cut plan store after h.thread h.others h.cause
run_stops_cut plan store after Faulty text h =
    inr (inl (record { files = all_begun_more store after (log_files plan) plan.run.base.logs plan.run.heads (h.thread + 1) h.files; others = h.others }))
run_stops_cut plan store after Judged text h = absurd h

-- the named file is as it was or of zeros, or what is kept may hold the lines
zeros_may_keep : (store after : StoreView) (name : List ℕ) (lines : List (List ℕ)) → StaysOrZeros store after name → OthersStay name store after → MayKeepLines store after name lines
zeros_may_keep store after name lines file others = record { file = λ tells. ⊎_elim (λ (e : after.file name ≡ store.file name). inl e) (λ z. inr (inl z)) (file tells); others = others }

not_kept_cut : (store after : StoreView) (name : List ℕ) (lines : List (List ℕ)) (fences : ℕ) → DeviceNotMade store after name ⊎ DeviceNotKept store after name lines fences → MayKeepLines store after name lines
not_kept_cut store after name lines fences (inl h) = zeros_may_keep store after name lines h.file h.others
not_kept_cut store after name lines fences (inr h) = h.leaves

keep_stops_cut : (store after : StoreView) (name : List ℕ) (lines : List (List ℕ)) (fences : ℕ) (said : List ℕ) (ending : Ending) (text : List ℕ) → KeepStops store after name lines fences said ending text → MayKeepLines store after name lines
keep_stops_cut store after name lines fences said Done text h = absurd h
keep_stops_cut store after name lines fences said Usage text h = absurd h
keep_stops_cut store after name lines fences said Refused text h = absurd h
keep_stops_cut store after name lines fences said BadLog text h = absurd h
keep_stops_cut store after name lines fences said ReadFault text h = absurd h
keep_stops_cut store after name lines fences said WriteFault text h = not_kept_cut store after name lines fences h.1
keep_stops_cut store after name lines fences said Faulty text h = zeros_may_keep store after name lines h.1.file h.1.others
keep_stops_cut store after name lines fences said Judged text h = absurd h

-- a job that ended may have stopped there
pub ends_cut : (store after : StoreView) (job : Job) (ending : Ending) (text : List ℕ) → JobEnds store after job ending text → JobCut store after job
ends_cut store after (Say e t) ending text h = h.2
ends_cut store after (Read name next) ending text (inl h) = inl h.1
ends_cut store after (Read name next) ending text (inr h) = inr (h.0, (h.1.0, ends_cut store after (next h.0) ending text h.1.1))
ends_cut store after (Write name bytes next) ending text (inl h) = inl (inr (cannot_write_failed store after name ending text h))
ends_cut store after (Write name bytes next) ending text (inr h) = inr (ends_cut (written store name bytes) after next ending text h)
ends_cut store after (Keep name lines fences said next) ending text (inl h) = inl (keep_stops_cut store after name lines fences said ending text h)
ends_cut store after (Keep name lines fences said next) ending text (inr h) = inr (h.0, h.1, ends_cut h.0 after next ending text h.2)
ends_cut store after (Assured b next) ending text h = inr (h.0, ends_cut store after next ending text h.1)
ends_cut store after (Threads kind plan next) ending text (inl h) = inl (run_stops_cut plan store after ending text h)
ends_cut store after (Threads kind plan next) ending text (inr h) = inr (record {
  left = h.left;
  kept = h.kept;
  run = h.run;
  reads = h.reads;
  keeps = h.keeps;
  next = ends_cut h.kept after (next h.left) ending text h.next;
})

-- ---- jobs one after the other
pub goes_same : (store : StoreView) (job : Job) → JobGoesOn store store job job
goes_same store job = record { ends = λ after ending text h. h; cut = λ after h. h }

pub goes_after : (store mid new : StoreView) (job next last : Job) → JobGoesOn store mid job next → JobGoesOn mid new next last → JobGoesOn store new job last
goes_after store mid new job next last first then_ = record {
  ends = λ after ending text h. first.ends after ending text (then_.ends after ending text h);
  cut = λ after h. first.cut after (then_.cut after h);
}

-- ---- reading
on_read : (store mid : StoreView) (name : List ℕ) (next : List ℕ → Job) (bytes : List ℕ) → FileHolds store name bytes → SameFiles store mid → SameCounts store mid → JobGoesOn store mid (Read name next) (next bytes)
on_read store mid name next bytes held same counts =
    let files = files_stay store mid same in
    record {
      ends = λ after ending text h. inr (bytes, (held, ends_from store mid after (next bytes) ending text files counts h));
      cut = λ after h. inr (bytes, (held, cut_from store mid after (next bytes) files counts h));
    }

pub on_image : (store mid : StoreView) (name : List ℕ) (next : List (List ℕ) → Job) (lines : List (List ℕ)) → HoldsImage store name lines → SameFiles store mid → SameCounts store mid
    → JobGoesOn store mid (Read name (λ bytes. next (image_lines bytes))) (next lines)
on_image store mid name next lines h same counts =
    subst (λ l. JobGoesOn store mid (Read name (λ bytes. next (image_lines bytes))) (next l)) (sym h.image) (on_read store mid name (λ bytes. next (image_lines bytes)) h.bytes h.held same counts)

pub on_whole : {A : Type 0} (store mid : StoreView) (name : List ℕ) (grammar : List ℕ → Result A Refusal) (next : List ℕ → A → Job) (bytes : List ℕ) (value : A)
    → ReadsWhole store grammar name bytes value → SameFiles store mid → SameCounts store mid → JobGoesOn store mid (reading_whole name grammar next) (next bytes value)
on_whole store mid name grammar next bytes value r same counts =
    subst (λ v. JobGoesOn store mid (reading_whole name grammar next) (on_value name (next bytes) v)) r.accepted (on_read store mid name (λ b. on_value name (next b) (grammar b)) bytes r.held same counts)

pub on_text : {A : Type 0} (store mid : StoreView) (name : List ℕ) (grammar : List ℕ → Result A Refusal) (next : A → Job) (value : A)
    → Reads store grammar name value → SameFiles store mid → SameCounts store mid → JobGoesOn store mid (reading name grammar next) (next value)
on_text store mid name grammar next value r same counts = on_whole store mid name grammar (λ _. next) r.bytes value (record { held = r.held; accepted = r.accepted }) same counts

-- the reading of a text ended the call
pub stopped_ends : {A : Type 0} (store after : StoreView) (name : List ℕ) (grammar : List ℕ → Result A Refusal) (next : List ℕ → A → Job) (ending : Ending) (text : List ℕ)
    → SameFiles store after → Stops store after grammar name ending text → JobEnds store after (reading_whole name grammar next) ending text
stopped_ends store after name grammar next Done text same h = absurd h
stopped_ends store after name grammar next Usage text same h = absurd h
stopped_ends store after name grammar next Refused text same h =
    inr (h.0.bytes, (h.0.held, subst (λ v. JobEnds store after (on_value name (next h.0.bytes) v) Refused text) (sym h.0.outside) (refl, h.0.line, files_stay store after same, h.1)))
stopped_ends store after name grammar next BadLog text same h = absurd h
stopped_ends store after name grammar next ReadFault text same h = inl (h, files_stay store after same)
stopped_ends store after name grammar next WriteFault text same h = absurd h
stopped_ends store after name grammar next Faulty text same h = absurd h
stopped_ends store after name grammar next Judged text same h = absurd h

-- ---- writing
-- what a store's write leaves
pub write_leaves : (old new : StoreView) (name bytes : List ℕ) → FileHolds new name bytes → SameOthers name old new → FilesStay (written old name bytes) new
write_leaves old new name bytes held others =
    leaves_written old new name bytes (λ tells. held (others.tells ∙ tells)) (record { tells = others.tells; file = λ tells. others.file })

pub on_write : (store mid : StoreView) (name bytes : List ℕ) (next : Job) → HasWritten store mid name bytes → JobGoesOn store mid (Write name bytes next) next
on_write store mid name bytes next h = record {
  ends = λ after ending text k. inr (ends_from (written store name bytes) mid after next ending text h.files h.counts k);
  cut = λ after k. inr (cut_from (written store name bytes) mid after next h.files h.counts k);
}

-- ---- images
-- so many images were written, and the rest is left
pub record WroteSo (store mid : StoreView) (logs : List ℕ) (images : List (List (List ℕ))) (i : ℕ) : Type 0 where
  pub on : (next : Job) → JobGoesOn store mid (writing_images logs 0 images next) (writing_images logs i (drop i images) next)
  pub others : SameBut (log_names logs 0 (length images)) store mid

-- none was yet
pub none_wrote : (store : StoreView) (logs : List ℕ) (images : List (List (List ℕ))) → WroteSo store store logs images 0
none_wrote store logs images = record { on = λ next. goes_same store (writing_images logs 0 images next); others = record { tells = refl; file = λ other differs. refl } }

names_at : (P : List ℕ → Type 0) (logs : List ℕ) (i n k : ℕ) → k < n → AllByRecursion P (log_names logs i n) → P (log_name logs (i + k))
names_at P logs i zero k h a = absurd (omega arith)
names_at P logs i (suc n) zero h a = let e : i ≡ i + 0 = omega arith in subst (λ m. P (log_name logs m)) e a.0
names_at P logs i (suc n) (suc k) h a = let e : suc i + k ≡ i + suc k = omega arith in subst (λ m. P (log_name logs m)) e (names_at P logs (suc i) n k (omega arith) a.1)

pub others_on : (store mid new : StoreView) (logs : List ℕ) (n i : ℕ) → i < n → SameBut (log_names logs 0 n) store mid → SameOthers (log_name logs i) mid new → SameBut (log_names logs 0 n) store new
others_on store mid new logs n i h before after =
    record { tells = after.tells ∙ before.tells; file = λ other differs. after.file other (let e : 0 + i ≡ i = omega arith in subst (λ m. other ≡ log_name logs m → ⊥) e (names_at (λ name. other ≡ name → ⊥) logs 0 n i h differs)) ∙ before.file other differs }

-- one image more
pub wrote_next : (store mid new : StoreView) (logs : List ℕ) (images : List (List (List ℕ))) (image : List (List ℕ)) (i : ℕ) → i < length images → image ≡ get_or images i []
    → WroteSo store mid logs images i → HasWritten mid new (log_name logs i) (image_bytes image) → SameOthers (log_name logs i) mid new → WroteSo store new logs images (i + 1)
wrote_next store mid new logs images image i h same so w others = record {
  on = λ next.
      let rest : Job = writing_images logs (suc i) (drop (i + 1) images) next in
      let e : i + 1 ≡ suc i = omega arith in
      goes_after store mid new (writing_images logs 0 images next) (writing_images logs i (drop i images) next) (writing_images logs (i + 1) (drop (i + 1) images) next) (so.on next)
      (subst (λ l. JobGoesOn mid new (writing_images logs i l next) (writing_images logs (i + 1) (drop (i + 1) images) next)) (sym (drop_more images i [] h))
      (subst (λ x. JobGoesOn mid new (Write (log_name logs i) (image_bytes x) rest) (writing_images logs (i + 1) (drop (i + 1) images) next)) same
      (subst (λ j. JobGoesOn mid new (Write (log_name logs i) (image_bytes image) rest) (writing_images logs j (drop (i + 1) images) next)) (sym e)
      (on_write mid new (log_name logs i) (image_bytes image) rest w))));
  others = others_on store mid new logs (length images) i h so.others others;
}
