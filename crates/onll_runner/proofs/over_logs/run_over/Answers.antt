use Rattle.std.proofs.Common.{ℕ, List, ◌≡◌, IsSome, Ok, Err, length, map, refl, sym, ap, ◌∙◌, subst}
use Rattle.std.specs.List.{AllByRecursion}
use Rattle.std.proofs.lemmas.List.{length-map}
use Rattle.onll_log.specs.Grammar.{content_of}
use Rattle.onll_merge.specs.Merge.{contents_in, merge}
use Rattle.onll_merge.specs.Recovered.{recovered_in}
use Rattle.onll_merge.specs.declared.counts.LogCounts.{LogCounts}
use Rattle.onll_run.specs.Ran.{CanRun, ends_in, going_on, left_in, script_in}
use Rattle.onll_open.specs.Devices.{AreHeld, AreReopened, AreWithin, HaveHeadLines, IsDeviceOf, fronts_by}
use Rattle.onll_open.specs.Files.{KeepFronts, SameBut}
use Rattle.onll_open.specs.Names.{log_names}
use Rattle.onll_task.specs.declared.answer.Stop.TheVariants.{NoMemory}
use Rattle.onll_text.specs.Kinds.{kind_by}
use Rattle.onll_runner.specs.Ground.{lines_over}
use Rattle.onll_runner.proofs.Grounds.{are_logs, short, within, have_lines, can_go_on, merged, small_devices, device_lines, goes_over, not_had}
use Rattle.onll_runner.proofs.RunSteps.{small_logs, lines_kept, ended_gone, none_gone, has_failed}
use Rattle.onll_runner.proofs.over_logs.run_over.Goals as goal

pub decode_logs-requires : goal.decode_logs-requires
decode_logs-requires g c =
    let k = kind_by g.O.Object.means g.O.Texted.wording g.O.Object.CODE in
    let heads = c.args.ground.now.found.heads.items in
    let images = c.args.ground.now.found.images.items in
    let counts = c.args.ground.now.counts.items in
    let scripts = c.args.scripts.items in
    let name = c.args.ground.now.logs.now in
    let store = g.S.Store.seen c.args.store.now in
    let r = recovered_in c.args.ground.now.found.recovery in
    let h = c.requires.ground in
    subst (AllByRecursion (λ image. IsSome (content_of image))) (sym c.deref.ensures.value) (are_logs k (λ script. script.items) heads scripts images counts name store r h)

pub open_devices-requires-clause-short : goal.open_devices-requires-clause-short
open_devices-requires-clause-short g c κs bounds =
    let k = kind_by g.O.Object.means g.O.Texted.wording g.O.Object.CODE in
    let heads = c.args.ground.now.found.heads.items in
    let images = c.args.ground.now.found.images.items in
    let counts = c.args.ground.now.counts.items in
    let scripts = c.args.scripts.items in
    let name = c.args.ground.now.logs.now in
    let store = g.S.Store.seen c.args.store.now in
    let r = recovered_in c.args.ground.now.found.recovery in
    let h = c.requires.ground in
    let base = contents_in c.in_ok-base.base.items in
    let held = subst (λ is. AreHeld is base) c.deref.ensures.value c.in_ok-base.ensures in
    let calls = map (λ script. script.items) scripts in
    let lines = c.deref-7.result.now in
    let lines_are = c.deref-7.ensures.value ∙ c.in_ok-lines.ensures ∙ ap (λ l. lines_over (length l) c.deref-2.result.now c.deref-3.result.now (map (λ script. script.items) l)) c.deref-4.ensures.value
    ∙ ap (λ (ls : List LogCounts). lines_over (length scripts) ls c.deref-3.result.now calls) c.deref-2.ensures.value ∙ ap (λ (ns : List ℕ). lines_over (length scripts) r.logs ns calls) c.deref-3.ensures.value
    ∙ ap (λ n. lines_over n r.logs counts calls) (sym (length-map scripts (λ script. script.items))) in
    short k (λ script. script.items) heads scripts images counts name store r h lines lines_are

pub open_devices-requires-clause-room : goal.open_devices-requires-clause-room
open_devices-requires-clause-room g c κs bounds =
    let k = kind_by g.O.Object.means g.O.Texted.wording g.O.Object.CODE in
    let heads = c.args.ground.now.found.heads.items in
    let images = c.args.ground.now.found.images.items in
    let counts = c.args.ground.now.counts.items in
    let scripts = c.args.scripts.items in
    let name = c.args.ground.now.logs.now in
    let store = g.S.Store.seen c.args.store.now in
    let r = recovered_in c.args.ground.now.found.recovery in
    let h = c.requires.ground in
    let base = contents_in c.in_ok-base.base.items in
    let held = subst (λ is. AreHeld is base) c.deref.ensures.value c.in_ok-base.ensures in
    let calls = map (λ script. script.items) scripts in
    let lines = c.deref-7.result.now in
    let lines_are = c.deref-7.ensures.value ∙ c.in_ok-lines.ensures ∙ ap (λ l. lines_over (length l) c.deref-2.result.now c.deref-3.result.now (map (λ script. script.items) l)) c.deref-4.ensures.value
    ∙ ap (λ (ls : List LogCounts). lines_over (length scripts) ls c.deref-3.result.now calls) c.deref-2.ensures.value ∙ ap (λ (ns : List ℕ). lines_over (length scripts) r.logs ns calls) c.deref-3.ensures.value
    ∙ ap (λ n. lines_over n r.logs counts calls) (sym (length-map scripts (λ script. script.items))) in
    subst (λ is. AreWithin is lines) (sym c.deref-6.ensures.value) (within k (λ script. script.items) heads scripts images counts name store r h base held lines lines_are)

pub open_devices-requires-clause-heads : goal.open_devices-requires-clause-heads
open_devices-requires-clause-heads g c κs bounds =
    let k = kind_by g.O.Object.means g.O.Texted.wording g.O.Object.CODE in
    let heads = c.args.ground.now.found.heads.items in
    let images = c.args.ground.now.found.images.items in
    let counts = c.args.ground.now.counts.items in
    let scripts = c.args.scripts.items in
    let name = c.args.ground.now.logs.now in
    let store = g.S.Store.seen c.args.store.now in
    let r = recovered_in c.args.ground.now.found.recovery in
    let h = c.requires.ground in
    let base = contents_in c.in_ok-base.base.items in
    let held = subst (λ is. AreHeld is base) c.deref.ensures.value c.in_ok-base.ensures in
    subst (λ ls. HaveHeadLines ls c.deref-6.result.now) (sym c.deref-5.ensures.value) (subst (HaveHeadLines r.logs) (sym c.deref-6.ensures.value) (have_lines k (λ script. script.items) heads scripts images counts name store r h base held))

pub returns-in-Err : goal.returns-in-Err
returns-in-Err g c = λ threads stands holds holds_is sized.
    let k = kind_by g.O.Object.means g.O.Texted.wording g.O.Object.CODE in
    let heads = c.args.ground.now.found.heads.items in
    let images = c.args.ground.now.found.images.items in
    let counts = c.args.ground.now.counts.items in
    let scripts = c.args.scripts.items in
    let name = c.args.ground.now.logs.now in
    let store = g.S.Store.seen c.args.store.now in
    let r = recovered_in c.args.ground.now.found.recovery in
    let h = c.requires.ground in
    let base = contents_in c.in_ok-base.base.items in
    let held = subst (λ is. AreHeld is base) c.deref.ensures.value c.in_ok-base.ensures in
    let mid = g.S.Store.seen c.open_devices.new.store in
    let files = subst (λ is. SameBut (log_names name 0 (length is)) store mid) c.deref-6.ensures.value c.open_devices.ensures.others in
    let kept = subst (λ is. KeepFronts name 0 (fronts_by r.logs is) store mid) c.deref-6.ensures.value (subst (λ ls. KeepFronts name 0 (fronts_by ls c.deref-6.result.now) store mid) c.deref-5.ensures.value c.open_devices.ensures.files) in
    not_had k (λ script. script.items) heads scripts images counts name store r h base held c.args.object c.args.ground.now.reopens threads stands holds holds_is store mid files kept (Unit {0}) _ c.in-Err.fault c.not_opened.result (ap length c.deref-6.ensures.value) c.not_opened.ensures
    c.in-Err.ensures.faults (subst (λ ls. IsDeviceOf ls c.in-Err.fault) c.deref-5.ensures.value c.in-Err.ensures.which) c.in-Err.ensures.none

pub resume_scripts-requires-clause-can : goal.resume_scripts-requires-clause-can
resume_scripts-requires-clause-can g c κs bounds =
    let k = kind_by g.O.Object.means g.O.Texted.wording g.O.Object.CODE in
    let heads = c.args.ground.now.found.heads.items in
    let images = c.args.ground.now.found.images.items in
    let counts = c.args.ground.now.counts.items in
    let scripts = c.args.scripts.items in
    let name = c.args.ground.now.logs.now in
    let store = g.S.Store.seen c.args.store.now in
    let r = recovered_in c.args.ground.now.found.recovery in
    let h = c.requires.ground in
    let base = contents_in c.in_ok-base.base.items in
    let held = subst (λ is. AreHeld is base) c.deref.ensures.value c.in_ok-base.ensures in
    let calls = map (λ script. script.items) scripts in
    let lines = c.deref-7.result.now in
    let lines_are = c.deref-7.ensures.value ∙ c.in_ok-lines.ensures ∙ ap (λ l. lines_over (length l) c.deref-2.result.now c.deref-3.result.now (map (λ script. script.items) l)) c.deref-4.ensures.value
    ∙ ap (λ (ls : List LogCounts). lines_over (length scripts) ls c.deref-3.result.now calls) c.deref-2.ensures.value ∙ ap (λ (ns : List ℕ). lines_over (length scripts) r.logs ns calls) c.deref-3.ensures.value
    ∙ ap (λ n. lines_over n r.logs counts calls) (sym (length-map scripts (λ script. script.items))) in
    let means = g.S.Dev.Pmem.means in
    let devices = c.in-Ok.devices.items in
    let reopened = subst (λ is. AreReopened means (fronts_by r.logs is) lines devices) c.deref-6.ensures.value (subst (λ ls. AreReopened means (fronts_by ls c.deref-6.result.now) lines devices) c.deref-5.ensures.value c.in-Ok.ensures.made) in
    subst (λ hs. CanRun means hs (contents_in c.deref-9.result.now) calls devices) (sym c.deref-8.ensures.value)
    (subst (λ ls. CanRun means heads (contents_in ls) calls devices) (sym c.deref-9.ensures.value) (can_go_on k (λ script. script.items) heads scripts images counts name store r h base held lines lines_are means devices reopened c.requires.few.0 c.requires.few.1))

pub resume_scripts-requires-clause-merged : goal.resume_scripts-requires-clause-merged
resume_scripts-requires-clause-merged g c κs bounds =
    let k = kind_by g.O.Object.means g.O.Texted.wording g.O.Object.CODE in
    let heads = c.args.ground.now.found.heads.items in
    let images = c.args.ground.now.found.images.items in
    let counts = c.args.ground.now.counts.items in
    let scripts = c.args.scripts.items in
    let name = c.args.ground.now.logs.now in
    let store = g.S.Store.seen c.args.store.now in
    let r = recovered_in c.args.ground.now.found.recovery in
    let h = c.requires.ground in
    let base = contents_in c.in_ok-base.base.items in
    let held = subst (λ is. AreHeld is base) c.deref.ensures.value c.in_ok-base.ensures in
    subst (λ ns. merge c.deref-8.result.now (contents_in c.deref-9.result.now) ≡ Ok ns) (sym c.deref-10.ensures.value)
    (subst (λ hs. merge hs (contents_in c.deref-9.result.now) ≡ Ok r.nodes) (sym c.deref-8.ensures.value)
    (subst (λ ls. merge heads (contents_in ls) ≡ Ok r.nodes) (sym c.deref-9.ensures.value) (merged k (λ script. script.items) heads scripts images counts name store r h base held)))

pub end_run-requires-clause-small : goal.end_run-requires-clause-small
end_run-requires-clause-small g c κs bounds =
    let k = kind_by g.O.Object.means g.O.Texted.wording g.O.Object.CODE in
    let heads = c.args.ground.now.found.heads.items in
    let images = c.args.ground.now.found.images.items in
    let counts = c.args.ground.now.counts.items in
    let scripts = c.args.scripts.items in
    let name = c.args.ground.now.logs.now in
    let store = g.S.Store.seen c.args.store.now in
    let r = recovered_in c.args.ground.now.found.recovery in
    let h = c.requires.ground in
    let base = contents_in c.in_ok-base.base.items in
    let held = subst (λ is. AreHeld is base) c.deref.ensures.value c.in_ok-base.ensures in
    let calls = map (λ script. script.items) scripts in
    let lines = c.deref-7.result.now in
    let lines_are = c.deref-7.ensures.value ∙ c.in_ok-lines.ensures ∙ ap (λ l. lines_over (length l) c.deref-2.result.now c.deref-3.result.now (map (λ script. script.items) l)) c.deref-4.ensures.value
    ∙ ap (λ (ls : List LogCounts). lines_over (length scripts) ls c.deref-3.result.now calls) c.deref-2.ensures.value ∙ ap (λ (ns : List ℕ). lines_over (length scripts) r.logs ns calls) c.deref-3.ensures.value
    ∙ ap (λ n. lines_over n r.logs counts calls) (sym (length-map scripts (λ script. script.items))) in
    let means = g.S.Dev.Pmem.means in
    let devices = c.in-Ok.devices.items in
    let reopened = subst (λ is. AreReopened means (fronts_by r.logs is) lines devices) c.deref-6.ensures.value (subst (λ ls. AreReopened means (fronts_by ls c.deref-6.result.now) lines devices) c.deref-5.ensures.value c.in-Ok.ensures.made) in
    let ran = c.in-Ok-resume_scripts.ran in
    small_logs means (contents_in c.deref-9.result.now) (map ends_in ran.threads.items) devices ran.logs.items (small_devices k (λ script. script.items) heads scripts images counts name store r h base held lines lines_are means devices reopened) c.in-Ok-resume_scripts.ensures.kept

pub returns-in-Ok-resume_scripts : goal.returns-in-Ok-resume_scripts
returns-in-Ok-resume_scripts g c = λ threads stands holds holds_is sized.
    let k = kind_by g.O.Object.means g.O.Texted.wording g.O.Object.CODE in
    let heads = c.args.ground.now.found.heads.items in
    let images = c.args.ground.now.found.images.items in
    let counts = c.args.ground.now.counts.items in
    let scripts = c.args.scripts.items in
    let name = c.args.ground.now.logs.now in
    let store = g.S.Store.seen c.args.store.now in
    let r = recovered_in c.args.ground.now.found.recovery in
    let h = c.requires.ground in
    let base = contents_in c.in_ok-base.base.items in
    let held = subst (λ is. AreHeld is base) c.deref.ensures.value c.in_ok-base.ensures in
    let calls = map (λ script. script.items) scripts in
    let lines = c.deref-7.result.now in
    let lines_are = c.deref-7.ensures.value ∙ c.in_ok-lines.ensures ∙ ap (λ l. lines_over (length l) c.deref-2.result.now c.deref-3.result.now (map (λ script. script.items) l)) c.deref-4.ensures.value
    ∙ ap (λ (ls : List LogCounts). lines_over (length scripts) ls c.deref-3.result.now calls) c.deref-2.ensures.value ∙ ap (λ (ns : List ℕ). lines_over (length scripts) r.logs ns calls) c.deref-3.ensures.value
    ∙ ap (λ n. lines_over n r.logs counts calls) (sym (length-map scripts (λ script. script.items))) in
    let means = g.S.Dev.Pmem.means in
    let devices = c.in-Ok.devices.items in
    let reopened = subst (λ is. AreReopened means (fronts_by r.logs is) lines devices) c.deref-6.ensures.value (subst (λ ls. AreReopened means (fronts_by ls c.deref-6.result.now) lines devices) c.deref-5.ensures.value c.in-Ok.ensures.made) in
    let mid = g.S.Store.seen c.open_devices.new.store in
    let files = subst (λ is. SameBut (log_names name 0 (length is)) store mid) c.deref-6.ensures.value c.open_devices.ensures.others in
    let kept = subst (λ is. KeepFronts name 0 (fronts_by r.logs is) store mid) c.deref-6.ensures.value (subst (λ ls. KeepFronts name 0 (fronts_by ls c.deref-6.result.now) store mid) c.deref-5.ensures.value c.open_devices.ensures.files) in
    let long = map (λ device. length (means device).read) devices in
    let long_is = device_lines k (λ script. script.items) heads scripts images counts name store r h base held lines lines_are means devices reopened in
    let ran = c.in-Ok-resume_scripts.ran in
    goes_over k (λ script. script.items) heads scripts images counts name store r h base held c.args.object c.args.ground.now.reopens threads stands holds holds_is store mid files kept long (g.S.Store.seen c.end_run.new.store) c.end_run.result c.in-Ok.ensures.counts long_is sized
    (ended_gone {k = k} long name c.args.ground.now.reopens c.args.object c.in_ok-initial.initial heads r.nodes base calls (map script_in ran.threads.items) (left_in means ran) mid (g.S.Store.seen c.end_run.new.store) c.end_run.result
    c.in_ok-initial.ensures c.in-Ok-resume_scripts.ensures.scripts (rw (c.deref-8.ensures.value, c.deref-9.ensures.value, c.deref-10.ensures.value) at c.in-Ok-resume_scripts.ensures.run)
    (rw c.deref-in-Ok-resume_scripts.ensures.value at c.end_run.ensures) (lines_kept means (contents_in c.deref-9.result.now) (map ends_in ran.threads.items) devices ran.logs.items c.in-Ok-resume_scripts.ensures.kept))

pub returns-in-Err-NoMemory : goal.returns-in-Err-NoMemory
returns-in-Err-NoMemory g c = λ threads stands holds holds_is sized.
    let k = kind_by g.O.Object.means g.O.Texted.wording g.O.Object.CODE in
    let heads = c.args.ground.now.found.heads.items in
    let images = c.args.ground.now.found.images.items in
    let counts = c.args.ground.now.counts.items in
    let scripts = c.args.scripts.items in
    let name = c.args.ground.now.logs.now in
    let store = g.S.Store.seen c.args.store.now in
    let r = recovered_in c.args.ground.now.found.recovery in
    let h = c.requires.ground in
    let base = contents_in c.in_ok-base.base.items in
    let held = subst (λ is. AreHeld is base) c.deref.ensures.value c.in_ok-base.ensures in
    let calls = map (λ script. script.items) scripts in
    let lines = c.deref-7.result.now in
    let lines_are = c.deref-7.ensures.value ∙ c.in_ok-lines.ensures ∙ ap (λ l. lines_over (length l) c.deref-2.result.now c.deref-3.result.now (map (λ script. script.items) l)) c.deref-4.ensures.value
    ∙ ap (λ (ls : List LogCounts). lines_over (length scripts) ls c.deref-3.result.now calls) c.deref-2.ensures.value ∙ ap (λ (ns : List ℕ). lines_over (length scripts) r.logs ns calls) c.deref-3.ensures.value
    ∙ ap (λ n. lines_over n r.logs counts calls) (sym (length-map scripts (λ script. script.items))) in
    let means = g.S.Dev.Pmem.means in
    let devices = c.in-Ok.devices.items in
    let reopened = subst (λ is. AreReopened means (fronts_by r.logs is) lines devices) c.deref-6.ensures.value (subst (λ ls. AreReopened means (fronts_by ls c.deref-6.result.now) lines devices) c.deref-5.ensures.value c.in-Ok.ensures.made) in
    let mid = g.S.Store.seen c.open_devices.new.store in
    let files = subst (λ is. SameBut (log_names name 0 (length is)) store mid) c.deref-6.ensures.value c.open_devices.ensures.others in
    let kept = subst (λ is. KeepFronts name 0 (fronts_by r.logs is) store mid) c.deref-6.ensures.value (subst (λ ls. KeepFronts name 0 (fronts_by ls c.deref-6.result.now) store mid) c.deref-5.ensures.value c.open_devices.ensures.files) in
    let long = map (λ device. length (means device).read) devices in
    let long_is = device_lines k (λ script. script.items) heads scripts images counts name store r h base held lines lines_are means devices reopened in
    goes_over k (λ script. script.items) heads scripts images counts name store r h base held c.args.object c.args.ground.now.reopens threads stands holds holds_is store mid files kept long mid _ c.in-Ok.ensures.counts long_is sized (none_gone {k = k} (record { logs = name; reopens = c.args.ground.now.reopens; run = going_on c.args.object heads r.nodes base calls }) long mid (Err NoMemory) refl)

pub returns : goal.returns
returns g c = λ threads stands holds holds_is sized.
    let k = kind_by g.O.Object.means g.O.Texted.wording g.O.Object.CODE in
    let heads = c.args.ground.now.found.heads.items in
    let images = c.args.ground.now.found.images.items in
    let counts = c.args.ground.now.counts.items in
    let scripts = c.args.scripts.items in
    let name = c.args.ground.now.logs.now in
    let store = g.S.Store.seen c.args.store.now in
    let r = recovered_in c.args.ground.now.found.recovery in
    let h = c.requires.ground in
    let base = contents_in c.in_ok-base.base.items in
    let held = subst (λ is. AreHeld is base) c.deref.ensures.value c.in_ok-base.ensures in
    let calls = map (λ script. script.items) scripts in
    let lines = c.deref-7.result.now in
    let lines_are = c.deref-7.ensures.value ∙ c.in_ok-lines.ensures ∙ ap (λ l. lines_over (length l) c.deref-2.result.now c.deref-3.result.now (map (λ script. script.items) l)) c.deref-4.ensures.value
    ∙ ap (λ (ls : List LogCounts). lines_over (length scripts) ls c.deref-3.result.now calls) c.deref-2.ensures.value ∙ ap (λ (ns : List ℕ). lines_over (length scripts) r.logs ns calls) c.deref-3.ensures.value
    ∙ ap (λ n. lines_over n r.logs counts calls) (sym (length-map scripts (λ script. script.items))) in
    let means = g.S.Dev.Pmem.means in
    let devices = c.in-Ok.devices.items in
    let reopened = subst (λ is. AreReopened means (fronts_by r.logs is) lines devices) c.deref-6.ensures.value (subst (λ ls. AreReopened means (fronts_by ls c.deref-6.result.now) lines devices) c.deref-5.ensures.value c.in-Ok.ensures.made) in
    let mid = g.S.Store.seen c.open_devices.new.store in
    let files = subst (λ is. SameBut (log_names name 0 (length is)) store mid) c.deref-6.ensures.value c.open_devices.ensures.others in
    let kept = subst (λ is. KeepFronts name 0 (fronts_by r.logs is) store mid) c.deref-6.ensures.value (subst (λ ls. KeepFronts name 0 (fronts_by ls c.deref-6.result.now) store mid) c.deref-5.ensures.value c.open_devices.ensures.files) in
    let long = map (λ device. length (means device).read) devices in
    let long_is = device_lines k (λ script. script.items) heads scripts images counts name store r h base held lines lines_are means devices reopened in
    let new = g.S.Store.seen c.give_up_all.new.store in
    let failed = rw (c.deref-8.ensures.value, c.deref-9.ensures.value) at (rw c.in-Err-HeaderFailed.field-0-is at c.in-Err-HeaderFailed.ensures.refused) in
    goes_over k (λ script. script.items) heads scripts images counts name store r h base held c.args.object c.args.ground.now.reopens threads stands holds holds_is store mid files kept long new (Err c.fence_failed.result) c.in-Ok.ensures.counts long_is sized
    (has_failed means {k = k} (record { logs = name; reopens = c.args.ground.now.reopens; run = going_on c.args.object heads r.nodes base calls }) long heads devices c.in-Err-HeaderFailed.devices.items c.in-Err-HeaderFailed.thread mid new c.fence_failed.result failed h.many
    c.give_up_all.ensures.files c.give_up_all.ensures.faults c.give_up_all.ensures.devices c.fence_failed.ensures)
