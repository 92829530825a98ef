use Rattle.std.proofs.Common.{◌≡◌, ◌≤◌, false, IsSome, length, map, sym, ap, ◌∙◌, subst}
use Rattle.std.proofs.lemmas.Result.{err_from_is_err_and}
use Rattle.std.specs.Prelude.{All}
use Rattle.std.specs.List.{AllByRecursion}
use Rattle.onll_log.specs.Grammar.{content_of}
use Rattle.onll_merge.specs.Merge.{contents_in}
use Rattle.onll_merge.specs.Recovered.{log_counts, recovered_in}
use Rattle.onll_outside.specs.Views.{counted}
use Rattle.onll_run.specs.Making.{AllCanOpen, AreOpen, HeaderFailed}
use Rattle.onll_open.specs.Devices.{AreHeld, AreReopened, AreWithin, HaveHeadLines, HeadIs, IsDeviceOf, fronts_by}
use Rattle.onll_open.specs.Files.{FilesBegin, KeepFronts}
use Rattle.onll_open.specs.Rooms.{lines_for}
use Rattle.onll_open.proofs.Reopening.{keep_none, keep_same}
use Rattle.onll_open.proofs.Onwards.{device_cannot, device_faults}
use Rattle.onll_open.proofs.GivenLogs.{begin, counts, head_lines_of, are_logs, short, within, can, opened_logs}
use Rattle.onll_open.proofs.Handing.{faults_more}
use Rattle.onll_open.proofs.HeaderFaults.{headless, one_risen}
use Rattle.onll_open.proofs.over_files.open_all.Goals as goal

pub decode_logs-requires : goal.decode_logs-requires
decode_logs-requires g c =
    let b = g.O.Object.means in
    let means = g.S.Dev.Pmem.means in
    let store = g.S.Store.seen c.args.store.now in
    let heads = c.args.found.now.heads.items in
    let images = c.args.found.now.images.items in
    let rooms = c.args.rooms.now in
    let found = recovered_in c.args.found.now.recovery in
    let h = c.requires.found in
    subst (AllByRecursion (λ image. IsSome (content_of image))) (sym c.deref-3.ensures.value) (are_logs b store c.args.logs.now heads rooms images found h)

pub open_devices-requires-clause-short : goal.open_devices-requires-clause-short
open_devices-requires-clause-short g c κs bounds =
    let b = g.O.Object.means in
    let means = g.S.Dev.Pmem.means in
    let store = g.S.Store.seen c.args.store.now in
    let heads = c.args.found.now.heads.items in
    let images = c.args.found.now.images.items in
    let rooms = c.args.rooms.now in
    let found = recovered_in c.args.found.now.recovery in
    let h = c.requires.found in
    let held = contents_in c.in_ok-held.held.items in
    let is = subst (λ ls. AreHeld ls held) c.deref-3.ensures.value c.in_ok-held.ensures in
    let lines = c.deref-6.ensures.value ∙ (c.in_ok-lines.ensures ∙ ap (λ ls. lines_for (length rooms) ls rooms) c.deref-2.ensures.value) in
    subst (All (λ n. n ≤ 1000000)) (sym lines) (short b store c.args.logs.now heads rooms images found h)

pub open_devices-requires-clause-room : goal.open_devices-requires-clause-room
open_devices-requires-clause-room g c κs bounds =
    let b = g.O.Object.means in
    let means = g.S.Dev.Pmem.means in
    let store = g.S.Store.seen c.args.store.now in
    let heads = c.args.found.now.heads.items in
    let images = c.args.found.now.images.items in
    let rooms = c.args.rooms.now in
    let found = recovered_in c.args.found.now.recovery in
    let h = c.requires.found in
    let held = contents_in c.in_ok-held.held.items in
    let is = subst (λ ls. AreHeld ls held) c.deref-3.ensures.value c.in_ok-held.ensures in
    let lines = c.deref-6.ensures.value ∙ (c.in_ok-lines.ensures ∙ ap (λ ls. lines_for (length rooms) ls rooms) c.deref-2.ensures.value) in
    subst (λ ls. AreWithin ls c.deref-6.result.now) (sym c.deref-5.ensures.value) (subst (AreWithin images) (sym lines) (within b store c.args.logs.now heads rooms images found h held is))

pub open_devices-requires-clause-begins : goal.open_devices-requires-clause-begins
open_devices-requires-clause-begins g c κs bounds =
    let store = g.S.Store.seen c.args.store.now in
    let images = c.args.found.now.images.items in
    let found = recovered_in c.args.found.now.recovery in
    let begins = begin g.O.Object.means store c.args.logs.now c.args.found.now.heads.items c.args.rooms.now images found c.requires.found in
    subst (λ ls. FilesBegin c.args.logs.now 0 (fronts_by ls c.deref-5.result.now) store) (sym c.deref-4.ensures.value)
    (subst (λ ls. FilesBegin c.args.logs.now 0 (fronts_by found.logs ls) store) (sym c.deref-5.ensures.value) begins)

pub open_devices-requires-clause-heads : goal.open_devices-requires-clause-heads
open_devices-requires-clause-heads g c κs bounds =
    let b = g.O.Object.means in
    let store = g.S.Store.seen c.args.store.now in
    let heads = c.args.found.now.heads.items in
    let images = c.args.found.now.images.items in
    let rooms = c.args.rooms.now in
    let found = recovered_in c.args.found.now.recovery in
    let held = contents_in c.in_ok-held.held.items in
    let is = subst (λ ls. AreHeld ls held) c.deref-3.ensures.value c.in_ok-held.ensures in
    subst (λ ls. HaveHeadLines ls c.deref-5.result.now) (sym c.deref-4.ensures.value)
    (subst (HaveHeadLines found.logs) (sym c.deref-5.ensures.value) (head_lines_of b store c.args.logs.now heads rooms images found c.requires.found held is))

pub returns-in_err-devices-clause-faults : goal.returns-in_err-devices-clause-faults
returns-in_err-devices-clause-faults g c =
    let p = err_from_is_err_and c.from_residual-in_err-devices.result c.from_residual-in_err-devices.ensures.1 in
    let old = g.S.Store.seen c.args.store.now in
    let new = g.S.Store.seen c.open_devices.new.store in
    let many = ap length c.deref-5.ensures.value ∙ c.requires.found.has.many in
    rw (p.1, p.2) (device_faults (Unit {0}) (Unit {0}) c.args.logs.now (length c.args.rooms.now) (length c.deref-5.result.now) old new c.in_err-devices.field-0.0 many c.in_err-devices.ensures.faults)

pub returns-in_err-devices-clause-kept : goal.returns-in_err-devices-clause-kept
returns-in_err-devices-clause-kept g c =
    let b = g.O.Object.means in
    let means = g.S.Dev.Pmem.means in
    let store = g.S.Store.seen c.args.store.now in
    let heads = c.args.found.now.heads.items in
    let images = c.args.found.now.images.items in
    let rooms = c.args.rooms.now in
    let found = recovered_in c.args.found.now.recovery in
    let h = c.requires.found in
    let mid = g.S.Store.seen c.open_devices.new.store in
    let wiped = subst (λ ls. KeepFronts c.args.logs.now 0 (fronts_by found.logs ls) store mid) c.deref-5.ensures.value
    (subst (λ ls. KeepFronts c.args.logs.now 0 (fronts_by ls c.deref-5.result.now) store mid) c.deref-4.ensures.value c.open_devices.ensures.files) in
    wiped

pub open_logs-requires : goal.open_logs-requires
open_logs-requires g c =
    let b = g.O.Object.means in
    let means = g.S.Dev.Pmem.means in
    let store = g.S.Store.seen c.args.store.now in
    let heads = c.args.found.now.heads.items in
    let images = c.args.found.now.images.items in
    let rooms = c.args.rooms.now in
    let found = recovered_in c.args.found.now.recovery in
    let h = c.requires.found in
    let held = contents_in c.in_ok-held.held.items in
    let is = subst (λ ls. AreHeld ls held) c.deref-3.ensures.value c.in_ok-held.ensures in
    let lines = c.deref-6.ensures.value ∙ (c.in_ok-lines.ensures ∙ ap (λ ls. lines_for (length rooms) ls rooms) c.deref-2.ensures.value) in
    let devices = c.in_ok-devices.devices.items in
    let reopened = subst (λ ls. AreReopened means (fronts_by found.logs images) ls devices) lines
    (subst (λ ls. AreReopened means (fronts_by found.logs ls) c.deref-6.result.now devices) c.deref-5.ensures.value
    (subst (λ ls. AreReopened means (fronts_by ls c.deref-5.result.now) c.deref-6.result.now devices) c.deref-4.ensures.value c.in_ok-devices.ensures.made)) in
    subst (λ hs. AllCanOpen means hs (contents_in c.deref-8.result.now) devices) (sym c.deref-7.ensures.value)
    (subst (λ ls. AllCanOpen means heads (contents_in ls) devices) (sym c.deref-8.ensures.value) (can b store c.args.logs.now heads rooms images found h held is means devices reopened))

pub returns-in-Ok-clause-logs : goal.returns-in-Ok-clause-logs
returns-in-Ok-clause-logs g c =
    let b = g.O.Object.means in
    let means = g.S.Dev.Pmem.means in
    let store = g.S.Store.seen c.args.store.now in
    let heads = c.args.found.now.heads.items in
    let images = c.args.found.now.images.items in
    let rooms = c.args.rooms.now in
    let found = recovered_in c.args.found.now.recovery in
    let h = c.requires.found in
    let held = contents_in c.in_ok-held.held.items in
    let is = subst (λ ls. AreHeld ls held) c.deref-3.ensures.value c.in_ok-held.ensures in
    let lines = c.deref-6.ensures.value ∙ (c.in_ok-lines.ensures ∙ ap (λ ls. lines_for (length rooms) ls rooms) c.deref-2.ensures.value) in
    let devices = c.in_ok-devices.devices.items in
    let reopened = subst (λ ls. AreReopened means (fronts_by found.logs images) ls devices) lines
    (subst (λ ls. AreReopened means (fronts_by found.logs ls) c.deref-6.result.now devices) c.deref-5.ensures.value
    (subst (λ ls. AreReopened means (fronts_by ls c.deref-5.result.now) c.deref-6.result.now devices) c.deref-4.ensures.value c.in_ok-devices.ensures.made)) in
    opened_logs b store c.args.logs.now heads rooms images found h held is means devices reopened c.in-Ok.opened.items
    (subst (λ hs. AreOpen means hs held devices c.in-Ok.opened.items) c.deref-7.ensures.value
    (subst (λ ls. AreOpen means c.deref-7.result.now (contents_in ls) devices c.in-Ok.opened.items) c.deref-8.ensures.value c.in-Ok.ensures.open))

pub returns-in-Ok-clause-kept : goal.returns-in-Ok-clause-kept
returns-in-Ok-clause-kept g c =
    let b = g.O.Object.means in
    let means = g.S.Dev.Pmem.means in
    let store = g.S.Store.seen c.args.store.now in
    let heads = c.args.found.now.heads.items in
    let images = c.args.found.now.images.items in
    let rooms = c.args.rooms.now in
    let found = recovered_in c.args.found.now.recovery in
    let h = c.requires.found in
    let mid = g.S.Store.seen c.open_devices.new.store in
    let wiped = subst (λ ls. KeepFronts c.args.logs.now 0 (fronts_by found.logs ls) store mid) c.deref-5.ensures.value
    (subst (λ ls. KeepFronts c.args.logs.now 0 (fronts_by ls c.deref-5.result.now) store mid) c.deref-4.ensures.value c.open_devices.ensures.files) in
    wiped

pub returns-in-Err-NoMemory-clause-kept : goal.returns-in-Err-NoMemory-clause-kept
returns-in-Err-NoMemory-clause-kept g c =
    let b = g.O.Object.means in
    let means = g.S.Dev.Pmem.means in
    let store = g.S.Store.seen c.args.store.now in
    let heads = c.args.found.now.heads.items in
    let images = c.args.found.now.images.items in
    let rooms = c.args.rooms.now in
    let found = recovered_in c.args.found.now.recovery in
    let h = c.requires.found in
    let mid = g.S.Store.seen c.open_devices.new.store in
    let wiped = subst (λ ls. KeepFronts c.args.logs.now 0 (fronts_by found.logs ls) store mid) c.deref-5.ensures.value
    (subst (λ ls. KeepFronts c.args.logs.now 0 (fronts_by ls c.deref-5.result.now) store mid) c.deref-4.ensures.value c.open_devices.ensures.files) in
    wiped

pub returns-in_err-devices-clause-refused : goal.returns-in_err-devices-clause-refused
returns-in_err-devices-clause-refused g c =
    let p = err_from_is_err_and c.from_residual-in_err-devices.result c.from_residual-in_err-devices.ensures.1 in
    rw (p.1, p.2) (device_cannot (recovered_in c.args.found.now.recovery) c.in_err-devices.field-0.0
    (subst (λ ls. IsDeviceOf ls c.in_err-devices.field-0.0) c.deref-4.ensures.value c.in_err-devices.ensures.which))

pub returns-in_err-lines-clause-kept : goal.returns-in_err-lines-clause-kept
returns-in_err-lines-clause-kept g c =
    let store = g.S.Store.seen c.args.store.now in
    let found = recovered_in c.args.found.now.recovery in
    let images = c.args.found.now.images.items in
    keep_none c.args.logs.now 0 (fronts_by found.logs images) store (begin g.O.Object.means store c.args.logs.now c.args.found.now.heads.items c.args.rooms.now images found c.requires.found)

pub returns-in_err-held-clause-kept : goal.returns-in_err-held-clause-kept
returns-in_err-held-clause-kept g c =
    let store = g.S.Store.seen c.args.store.now in
    let found = recovered_in c.args.found.now.recovery in
    let images = c.args.found.now.images.items in
    keep_none c.args.logs.now 0 (fronts_by found.logs images) store (begin g.O.Object.means store c.args.logs.now c.args.found.now.heads.items c.args.rooms.now images found c.requires.found)

pub returns-clause-refused : goal.returns-clause-refused
returns-clause-refused g c =
    let b = g.O.Object.means in
    let store = g.S.Store.seen c.args.store.now in
    let heads = c.args.found.now.heads.items in
    let images = c.args.found.now.images.items in
    let rooms = c.args.rooms.now in
    let found = recovered_in c.args.found.now.recovery in
    let h = c.requires.found in
    let held = contents_in c.in_ok-held.held.items in
    let is = subst (λ ls. AreHeld ls held) c.deref-3.ensures.value c.in_ok-held.ensures in
    let failed : HeaderFailed g.S.Dev.Pmem.means c.deref-7.result.now (contents_in c.deref-8.result.now) c.in_ok-devices.devices.items c.in-Err-HeaderFailed.thread c.in-Err-HeaderFailed.devices.items =
    rw c.in-Err-HeaderFailed.field-0-is at c.in-Err-HeaderFailed.ensures.refused in
    let begun : HeadIs false c.in-Err-HeaderFailed.thread (map log_counts (contents_in c.deref-8.result.now)) =
    headless g.S.Dev.Pmem.means c.in-Err-HeaderFailed.thread c.deref-7.result.now (contents_in c.deref-8.result.now) c.in_ok-devices.devices.items c.in-Err-HeaderFailed.devices.items failed.headers in
    let all : map log_counts (contents_in c.deref-8.result.now) ≡ found.logs = ap (λ ls. map log_counts (contents_in ls)) c.deref-8.ensures.value ∙ sym (counts b store c.args.logs.now heads rooms images found h held is) in
    subst (HeadIs false c.in-Err-HeaderFailed.thread) all begun

pub returns-clause-faults : goal.returns-clause-faults
returns-clause-faults g c =
    let old = g.S.Store.seen c.args.store.now in
    let mid = g.S.Store.seen c.open_devices.new.store in
    let new = g.S.Store.seen c.give_up_all.new.store in
    let before = c.in_ok-devices.ensures.counts in
    let failed : HeaderFailed g.S.Dev.Pmem.means c.deref-7.result.now (contents_in c.deref-8.result.now) c.in_ok-devices.devices.items c.in-Err-HeaderFailed.thread c.in-Err-HeaderFailed.devices.items =
    rw c.in-Err-HeaderFailed.field-0-is at c.in-Err-HeaderFailed.ensures.refused in
    let risen = one_risen g.S.Dev.Pmem.means c.deref-7.result.now (contents_in c.deref-8.result.now) c.in_ok-devices.devices.items c.in-Err-HeaderFailed.devices.items c.in-Err-HeaderFailed.thread mid new failed c.give_up_all.ensures.devices in
    (faults_more old mid new before.0 c.give_up_all.ensures.faults, risen ∙ ap (λ n. counted n 1) before.1.0)

pub returns-clause-kept : goal.returns-clause-kept
returns-clause-kept g c =
    let b = g.O.Object.means in
    let means = g.S.Dev.Pmem.means in
    let store = g.S.Store.seen c.args.store.now in
    let heads = c.args.found.now.heads.items in
    let images = c.args.found.now.images.items in
    let rooms = c.args.rooms.now in
    let found = recovered_in c.args.found.now.recovery in
    let h = c.requires.found in
    let mid = g.S.Store.seen c.open_devices.new.store in
    let wiped = subst (λ ls. KeepFronts c.args.logs.now 0 (fronts_by found.logs ls) store mid) c.deref-5.ensures.value
    (subst (λ ls. KeepFronts c.args.logs.now 0 (fronts_by ls c.deref-5.result.now) store mid) c.deref-4.ensures.value c.open_devices.ensures.files) in
    keep_same c.args.logs.now 0 (fronts_by found.logs images) store mid (g.S.Store.seen c.give_up_all.new.store) c.give_up_all.ensures.files wiped
