use Rattle.std.proofs.Common.{◌≡◌, ◌∙◌, None, length, inl, inr, sym, ap, subst}
use Rattle.onll_open.specs.Asking.{asked_in}
use Rattle.std.proofs.lemmas.Result.{IfOk-weaker, IfErr-weaker, err_from_is_err_and}
use Rattle.onll_merge.specs.Recovered.{recovered_in}
use Rattle.onll_open.specs.Heads.{heads_of}
use Rattle.onll_open.specs.Devices.{fronts_by}
use Rattle.onll_open.specs.Files.{SameBut}
use Rattle.onll_open.specs.Names.{log_names}
use Rattle.onll_open.specs.Rooms.{first_full}
use Rattle.onll_open.specs.Opening.{NotOpenedOver, CannotOpen, GoesOn, HasFound, HasOpened, HeldFaults, written_by}
use Rattle.onll_open.proofs.GivenLogs.{gives_found}
use Rattle.onll_open.proofs.Locked.{logs_of_files}
use Rattle.onll_open.proofs.Onwards.{cannot_of, faults_of, found_here, go_on_cannot, held_faults, others_there, room_cannot, room_faults, keep_there, leave_kept}
use Rattle.onll_open.proofs.over_files.open_held.Goals as goal

pub returns-in_err-found-clause-refused : goal.returns-in_err-found-clause-refused
returns-in_err-found-clause-refused g c =
    let old = g.S.Store.seen c.args.store.now in
    let mid = g.S.Store.seen c.find.new.store in
    let b = g.O.Object.means in
    let logs = c.args.logs.now in
    let threads = c.args.threads in
    let asked = asked_in c.args.asked in
    let heads = heads_of g.O.Object.CODE (g.O.Described.description c.args.object) threads in
    let p = err_from_is_err_and c.from_residual.result c.from_residual.ensures.1 in
    rw (p.1, p.2) (cannot_of b old logs heads threads asked c.in_err-found.field-0.0 c.in_err-found.ensures.refused)

pub returns-in_err-found-clause-faults : goal.returns-in_err-found-clause-faults
returns-in_err-found-clause-faults g c =
    let old = g.S.Store.seen c.args.store.now in
    let mid = g.S.Store.seen c.find.new.store in
    let b = g.O.Object.means in
    let logs = c.args.logs.now in
    let threads = c.args.threads in
    let asked = asked_in c.args.asked in
    let heads = heads_of g.O.Object.CODE (g.O.Described.description c.args.object) threads in
    let p = err_from_is_err_and c.from_residual.result c.from_residual.ensures.1 in
    rw (p.1, p.2) (faults_of (Unit {0}) (Unit {0}) logs threads old mid c.in_err-found.field-0.0 (logs_of_files logs old mid c.in_err-found.ensures.same) c.in_err-found.ensures.devices c.in_err-found.ensures.faults)

pub returns-in_err-found-clause-kept : goal.returns-in_err-found-clause-kept
returns-in_err-found-clause-kept g c =
    let old = g.S.Store.seen c.args.store.now in
    let mid = g.S.Store.seen c.find.new.store in
    let b = g.O.Object.means in
    let logs = c.args.logs.now in
    let threads = c.args.threads in
    let asked = asked_in c.args.asked in
    let heads = heads_of g.O.Object.CODE (g.O.Described.description c.args.object) threads in
    inl (logs_of_files logs old mid c.in_err-found.ensures.same)

pub returns-in_err-rooms-clause-refused : goal.returns-in_err-rooms-clause-refused
returns-in_err-rooms-clause-refused g c =
    let old = g.S.Store.seen c.args.store.now in
    let mid = g.S.Store.seen c.find.new.store in
    let b = g.O.Object.means in
    let logs = c.args.logs.now in
    let threads = c.args.threads in
    let asked = asked_in c.args.asked in
    let heads = heads_of g.O.Object.CODE (g.O.Described.description c.args.object) threads in
    let kept = c.in_ok-found.found in
    let found = recovered_in kept.recovery in
    let same = logs_of_files logs old mid c.in_ok-found.ensures.same in
    let has = subst (λ hs. HasFound b old logs hs threads kept.images.items found) c.in_ok-found.ensures.heads c.in_ok-found.ensures.found in
    let gives = gives_found b old logs heads threads kept.images.items found has in
    let p = err_from_is_err_and c.from_residual-in_err-rooms.result c.from_residual-in_err-rooms.ensures.1 in
    rw (p.1, p.2) (room_cannot b old logs heads threads asked found gives c.in_err-rooms.field-0.0 c.in_err-rooms.ensures.refused)

pub returns-in_err-rooms-clause-faults : goal.returns-in_err-rooms-clause-faults
returns-in_err-rooms-clause-faults g c =
    let old = g.S.Store.seen c.args.store.now in
    let mid = g.S.Store.seen c.find.new.store in
    let b = g.O.Object.means in
    let logs = c.args.logs.now in
    let threads = c.args.threads in
    let asked = asked_in c.args.asked in
    let heads = heads_of g.O.Object.CODE (g.O.Described.description c.args.object) threads in
    let kept = c.in_ok-found.found in
    let found = recovered_in kept.recovery in
    let same = logs_of_files logs old mid c.in_ok-found.ensures.same in
    let has = subst (λ hs. HasFound b old logs hs threads kept.images.items found) c.in_ok-found.ensures.heads c.in_ok-found.ensures.found in
    let gives = gives_found b old logs heads threads kept.images.items found has in
    let p = err_from_is_err_and c.from_residual-in_err-rooms.result c.from_residual-in_err-rooms.ensures.1 in
    rw (p.1, p.2) (room_faults (Unit {0}) logs threads asked found old mid c.in_err-rooms.field-0.0 (c.in_ok-found.ensures.faults, c.in_ok-found.ensures.devices) same c.in_err-rooms.ensures.refused)

pub returns-in_err-rooms-clause-kept : goal.returns-in_err-rooms-clause-kept
returns-in_err-rooms-clause-kept g c =
    let old = g.S.Store.seen c.args.store.now in
    let mid = g.S.Store.seen c.find.new.store in
    let b = g.O.Object.means in
    let logs = c.args.logs.now in
    let threads = c.args.threads in
    let asked = asked_in c.args.asked in
    let heads = heads_of g.O.Object.CODE (g.O.Described.description c.args.object) threads in
    let kept = c.in_ok-found.found in
    let found = recovered_in kept.recovery in
    let same = logs_of_files logs old mid c.in_ok-found.ensures.same in
    let has = subst (λ hs. HasFound b old logs hs threads kept.images.items found) c.in_ok-found.ensures.heads c.in_ok-found.ensures.found in
    let gives = gives_found b old logs heads threads kept.images.items found has in
    inl same

pub open_found-requires-clause-found : goal.open_found-requires-clause-found
open_found-requires-clause-found g c κs bounds =
    let old = g.S.Store.seen c.args.store.now in
    let mid = g.S.Store.seen c.find.new.store in
    let b = g.O.Object.means in
    let logs = c.args.logs.now in
    let threads = c.args.threads in
    let asked = asked_in c.args.asked in
    let heads = heads_of g.O.Object.CODE (g.O.Described.description c.args.object) threads in
    let kept = c.in_ok-found.found in
    let found = recovered_in kept.recovery in
    let same = logs_of_files logs old mid c.in_ok-found.ensures.same in
    let has = subst (λ hs. HasFound b old logs hs threads kept.images.items found) c.in_ok-found.ensures.heads c.in_ok-found.ensures.found in
    let gives = gives_found b old logs heads threads kept.images.items found has in
    let rooms = c.deref.result.now in
    let is : rooms ≡ c.in_ok-rooms.rooms.items = c.deref.ensures.value in
    let many : length rooms ≡ threads = ap length is ∙ c.in_ok-rooms.ensures.count in
    let here = found_here b old mid logs same kept.heads.items threads kept.images.items found c.in_ok-found.ensures.found in
    let room = subst (λ rs. first_full threads found.nodes 0 found.logs rs ≡ None) (sym is) c.in_ok-rooms.ensures.room in
    record {
      has = subst (λ n. HasFound b mid logs kept.heads.items n kept.images.items found) (sym many) here;
      room = subst (λ n. first_full n found.nodes 0 found.logs rooms ≡ None) (sym many) room;
    }

pub returns-clause-opened : goal.returns-clause-opened
returns-clause-opened g c =
    let old = g.S.Store.seen c.args.store.now in
    let mid = g.S.Store.seen c.find.new.store in
    let b = g.O.Object.means in
    let logs = c.args.logs.now in
    let threads = c.args.threads in
    let asked = asked_in c.args.asked in
    let heads = heads_of g.O.Object.CODE (g.O.Described.description c.args.object) threads in
    let kept = c.in_ok-found.found in
    let found = recovered_in kept.recovery in
    let same = logs_of_files logs old mid c.in_ok-found.ensures.same in
    let has = subst (λ hs. HasFound b old logs hs threads kept.images.items found) c.in_ok-found.ensures.heads c.in_ok-found.ensures.found in
    let gives = gives_found b old logs heads threads kept.images.items found has in
    let means = g.S.Dev.Pmem.means in
    let object = c.args.object in
    let rooms = c.deref.ensures.value ∙ c.in_ok-rooms.ensures.rooms in
    IfOk-weaker c.open_found.result (λ o. GoesOn b means kept.heads.items object found.nodes c.deref.result.now o.onll o.passes.items)
    (λ o. HasOpened b old logs heads means object threads asked o.onll o.passes.items)
    (λ o h. record {
      found = found;
      recovered = (gives, c.in_ok-rooms.ensures.given);
      on = subst (λ rs. GoesOn b means heads object found.nodes rs o.onll o.passes.items) rooms
          (subst (λ hs. GoesOn b means hs object found.nodes c.deref.result.now o.onll o.passes.items) c.in_ok-found.ensures.heads h);
    })
    c.open_found.ensures.opened

pub returns-clause-refused : goal.returns-clause-refused
returns-clause-refused g c =
    let old = g.S.Store.seen c.args.store.now in
    let mid = g.S.Store.seen c.find.new.store in
    let b = g.O.Object.means in
    let logs = c.args.logs.now in
    let threads = c.args.threads in
    let asked = asked_in c.args.asked in
    let heads = heads_of g.O.Object.CODE (g.O.Described.description c.args.object) threads in
    let kept = c.in_ok-found.found in
    let found = recovered_in kept.recovery in
    let same = logs_of_files logs old mid c.in_ok-found.ensures.same in
    let has = subst (λ hs. HasFound b old logs hs threads kept.images.items found) c.in_ok-found.ensures.heads c.in_ok-found.ensures.found in
    let gives = gives_found b old logs heads threads kept.images.items found has in
    IfErr-weaker c.open_found.result (NotOpenedOver found) (CannotOpen b old logs heads threads asked) (go_on_cannot b old logs heads threads asked found gives c.in_ok-rooms.ensures.given) c.open_found.ensures.refused

pub returns-clause-faults : goal.returns-clause-faults
returns-clause-faults g c =
    let old = g.S.Store.seen c.args.store.now in
    let mid = g.S.Store.seen c.find.new.store in
    let b = g.O.Object.means in
    let logs = c.args.logs.now in
    let threads = c.args.threads in
    let asked = asked_in c.args.asked in
    let heads = heads_of g.O.Object.CODE (g.O.Described.description c.args.object) threads in
    let kept = c.in_ok-found.found in
    let found = recovered_in kept.recovery in
    let same = logs_of_files logs old mid c.in_ok-found.ensures.same in
    let has = subst (λ hs. HasFound b old logs hs threads kept.images.items found) c.in_ok-found.ensures.heads c.in_ok-found.ensures.found in
    let gives = gives_found b old logs heads threads kept.images.items found has in
    let new = g.S.Store.seen c.open_found.new.store in
    let many = ap length c.deref.ensures.value ∙ c.in_ok-rooms.ensures.count in
    held_faults _ logs threads old mid new c.open_found.result (c.in_ok-found.ensures.faults, c.in_ok-found.ensures.devices) same
    (subst (λ n. HeldFaults logs n mid new c.open_found.result) many c.open_found.ensures.faults)

pub returns-clause-kept : goal.returns-clause-kept
returns-clause-kept g c =
    let old = g.S.Store.seen c.args.store.now in
    let mid = g.S.Store.seen c.find.new.store in
    let b = g.O.Object.means in
    let logs = c.args.logs.now in
    let threads = c.args.threads in
    let asked = asked_in c.args.asked in
    let heads = heads_of g.O.Object.CODE (g.O.Described.description c.args.object) threads in
    let kept = c.in_ok-found.found in
    let found = recovered_in kept.recovery in
    let same = logs_of_files logs old mid c.in_ok-found.ensures.same in
    let has = subst (λ hs. HasFound b old logs hs threads kept.images.items found) c.in_ok-found.ensures.heads c.in_ok-found.ensures.found in
    let gives = gives_found b old logs heads threads kept.images.items found has in
    let new = g.S.Store.seen c.open_found.new.store in
    let fronts = fronts_by found.logs kept.images.items in
    inr (kept.images.items, found, has, c.in_ok-rooms.ensures.given, leave_kept logs 0 (written_by heads c.open_found.result) fronts old new (keep_there logs 0 fronts old mid new same c.open_found.ensures.kept))

pub returns-clause-others : goal.returns-clause-others
returns-clause-others g c =
    let old = g.S.Store.seen c.args.store.now in
    let mid = g.S.Store.seen c.find.new.store in
    let b = g.O.Object.means in
    let logs = c.args.logs.now in
    let threads = c.args.threads in
    let asked = asked_in c.args.asked in
    let heads = heads_of g.O.Object.CODE (g.O.Described.description c.args.object) threads in
    let kept = c.in_ok-found.found in
    let found = recovered_in kept.recovery in
    let same = logs_of_files logs old mid c.in_ok-found.ensures.same in
    let has = subst (λ hs. HasFound b old logs hs threads kept.images.items found) c.in_ok-found.ensures.heads c.in_ok-found.ensures.found in
    let gives = gives_found b old logs heads threads kept.images.items found has in
    let new = g.S.Store.seen c.open_found.new.store in
    let many = ap length c.deref.ensures.value ∙ c.in_ok-rooms.ensures.count in
    others_there (log_names logs 0 threads) old mid new c.in_ok-found.ensures.same (subst (λ n. SameBut (log_names logs 0 n) mid new) many c.open_found.ensures.others)
