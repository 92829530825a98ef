use Rattle.std.proofs.Common.{inl}
use Rattle.onll_open.specs.Asking.{asked_in}
use Rattle.std.proofs.lemmas.Result.{err_from_is_err_and}
use Rattle.onll_open.specs.Heads.{heads_of}
use Rattle.onll_open.proofs.Handing.{counts_more}
use Rattle.onll_open.proofs.Locked.{held_others, lock_alone, lock_cannot, logs_locked, not_opened, open_faults}
use Rattle.onll_open.specs.Opening.{written_at}
use Rattle.onll_open.proofs.Onwards.{cannot_there, lost_last, lost_there, opened_there}
use Rattle.onll_open.proofs.over_files.open_asked.Goals as goal

pub returns-in_err-name-clause-refused : goal.returns-in_err-name-clause-refused
returns-in_err-name-clause-refused g c =
    let old = g.S.Store.seen c.args.store.now in
    let mid = g.S.Store.seen c.lock_logs.new.store in
    let b = g.O.Object.means in
    let logs = c.args.logs.now in
    let threads = c.args.threads in
    let asked = asked_in c.args.asked in
    let heads = heads_of g.O.Object.CODE (g.O.Described.description c.args.object) threads in
    let locked = g.S.Directory.locked c.args.store.now in
    let after = g.S.Directory.locked c.lock_logs.new.store in
    let p = err_from_is_err_and c.from_residual.result c.from_residual.ensures.1 in
    rw (p.1, p.2) (lock_cannot (Unit {0}) b old logs heads locked after threads asked c.in_err-name.field-0.0 c.in_err-name.ensures.locks)

pub returns-in_err-name-clause-faults : goal.returns-in_err-name-clause-faults
returns-in_err-name-clause-faults g c =
    let old = g.S.Store.seen c.args.store.now in
    let mid = g.S.Store.seen c.lock_logs.new.store in
    let b = g.O.Object.means in
    let logs = c.args.logs.now in
    let threads = c.args.threads in
    let asked = asked_in c.args.asked in
    let heads = heads_of g.O.Object.CODE (g.O.Described.description c.args.object) threads in
    let locked = g.S.Directory.locked c.args.store.now in
    let after = g.S.Directory.locked c.lock_logs.new.store in
    let p = err_from_is_err_and c.from_residual.result c.from_residual.ensures.1 in
    let same = logs_locked logs old mid c.in_err-name.ensures.others in
    rw (p.1, p.2) (not_opened (Unit {0}) (Unit {0}) logs threads old old mid locked after c.in_err-name.field-0.0 c.in_err-name.ensures.devices same c.in_err-name.ensures.locks c.in_err-name.ensures.faults).0

pub returns-in_err-name-clause-locks : goal.returns-in_err-name-clause-locks
returns-in_err-name-clause-locks g c =
    let old = g.S.Store.seen c.args.store.now in
    let mid = g.S.Store.seen c.lock_logs.new.store in
    let b = g.O.Object.means in
    let logs = c.args.logs.now in
    let threads = c.args.threads in
    let asked = asked_in c.args.asked in
    let heads = heads_of g.O.Object.CODE (g.O.Described.description c.args.object) threads in
    let locked = g.S.Directory.locked c.args.store.now in
    let after = g.S.Directory.locked c.lock_logs.new.store in
    let p = err_from_is_err_and c.from_residual.result c.from_residual.ensures.1 in
    let same = logs_locked logs old mid c.in_err-name.ensures.others in
    rw (p.1, p.2) (not_opened (Unit {0}) (Unit {0}) logs threads old old mid locked after c.in_err-name.field-0.0 c.in_err-name.ensures.devices same c.in_err-name.ensures.locks c.in_err-name.ensures.faults).1

pub returns-in_err-name-clause-kept : goal.returns-in_err-name-clause-kept
returns-in_err-name-clause-kept g c =
    let old = g.S.Store.seen c.args.store.now in
    let mid = g.S.Store.seen c.lock_logs.new.store in
    let b = g.O.Object.means in
    let logs = c.args.logs.now in
    let threads = c.args.threads in
    let asked = asked_in c.args.asked in
    let heads = heads_of g.O.Object.CODE (g.O.Described.description c.args.object) threads in
    inl (logs_locked logs old mid c.in_err-name.ensures.others)

pub returns-in_err-name-clause-others : goal.returns-in_err-name-clause-others
returns-in_err-name-clause-others g c =
    let old = g.S.Store.seen c.args.store.now in
    let mid = g.S.Store.seen c.lock_logs.new.store in
    let b = g.O.Object.means in
    let logs = c.args.logs.now in
    let threads = c.args.threads in
    let asked = asked_in c.args.asked in
    let heads = heads_of g.O.Object.CODE (g.O.Described.description c.args.object) threads in
    lock_alone logs threads old mid c.in_err-name.ensures.others

pub returns-in-Ok-clause-opened : goal.returns-in-Ok-clause-opened
returns-in-Ok-clause-opened g c =
    let old = g.S.Store.seen c.args.store.now in
    let mid = g.S.Store.seen c.lock_logs.new.store in
    let b = g.O.Object.means in
    let logs = c.args.logs.now in
    let threads = c.args.threads in
    let asked = asked_in c.args.asked in
    let heads = heads_of g.O.Object.CODE (g.O.Described.description c.args.object) threads in
    let done = g.S.Store.seen c.open_held.new.store in
    let same = logs_locked logs old mid c.in_ok-name.ensures.others in
    opened_there b old mid logs same heads g.S.Dev.Pmem.means c.args.object threads asked c.in-Ok.opened.onll c.in-Ok.opened.passes.items c.in-Ok.ensures.opened

pub returns-in-Ok-clause-faults : goal.returns-in-Ok-clause-faults
returns-in-Ok-clause-faults g c =
    let old = g.S.Store.seen c.args.store.now in
    let mid = g.S.Store.seen c.lock_logs.new.store in
    let b = g.O.Object.means in
    let logs = c.args.logs.now in
    let threads = c.args.threads in
    let asked = asked_in c.args.asked in
    let heads = heads_of g.O.Object.CODE (g.O.Described.description c.args.object) threads in
    let done = g.S.Store.seen c.open_held.new.store in
    let same = logs_locked logs old mid c.in_ok-name.ensures.others in
    counts_more old mid done (c.in_ok-name.ensures.faults, c.in_ok-name.ensures.devices) c.in-Ok.ensures.faults

pub returns-in-Ok-clause-kept : goal.returns-in-Ok-clause-kept
returns-in-Ok-clause-kept g c =
    let old = g.S.Store.seen c.args.store.now in
    let mid = g.S.Store.seen c.lock_logs.new.store in
    let b = g.O.Object.means in
    let logs = c.args.logs.now in
    let threads = c.args.threads in
    let asked = asked_in c.args.asked in
    let heads = heads_of g.O.Object.CODE (g.O.Described.description c.args.object) threads in
    let done = g.S.Store.seen c.open_held.new.store in
    let same = logs_locked logs old mid c.in_ok-name.ensures.others in
    lost_there b old mid logs same heads threads asked heads done c.in-Ok.ensures.kept

pub returns-in-Ok-clause-others : goal.returns-in-Ok-clause-others
returns-in-Ok-clause-others g c =
    let old = g.S.Store.seen c.args.store.now in
    let mid = g.S.Store.seen c.lock_logs.new.store in
    let b = g.O.Object.means in
    let logs = c.args.logs.now in
    let threads = c.args.threads in
    let asked = asked_in c.args.asked in
    let heads = heads_of g.O.Object.CODE (g.O.Described.description c.args.object) threads in
    let done = g.S.Store.seen c.open_held.new.store in
    let same = logs_locked logs old mid c.in_ok-name.ensures.others in
    held_others logs threads old mid done c.in_ok-name.ensures.others c.in-Ok.ensures.others

pub returns-clause-refused : goal.returns-clause-refused
returns-clause-refused g c =
    let old = g.S.Store.seen c.args.store.now in
    let mid = g.S.Store.seen c.lock_logs.new.store in
    let b = g.O.Object.means in
    let logs = c.args.logs.now in
    let threads = c.args.threads in
    let asked = asked_in c.args.asked in
    let heads = heads_of g.O.Object.CODE (g.O.Described.description c.args.object) threads in
    let done = g.S.Store.seen c.open_held.new.store in
    let same = logs_locked logs old mid c.in_ok-name.ensures.others in
    let last = g.S.Store.seen c.unlock_logs.new.store in
    cannot_there b old mid logs same heads threads asked c.in-Err.fault c.in-Err.ensures.refused

pub returns-clause-faults : goal.returns-clause-faults
returns-clause-faults g c =
    let old = g.S.Store.seen c.args.store.now in
    let mid = g.S.Store.seen c.lock_logs.new.store in
    let b = g.O.Object.means in
    let logs = c.args.logs.now in
    let threads = c.args.threads in
    let asked = asked_in c.args.asked in
    let heads = heads_of g.O.Object.CODE (g.O.Described.description c.args.object) threads in
    let done = g.S.Store.seen c.open_held.new.store in
    let same = logs_locked logs old mid c.in_ok-name.ensures.others in
    let last = g.S.Store.seen c.unlock_logs.new.store in
    open_faults (Unit {0}) logs threads old mid done last c.in-Err.fault (c.in_ok-name.ensures.faults, c.in_ok-name.ensures.devices) c.unlock_logs.ensures.same
    (c.unlock_logs.ensures.faults, c.unlock_logs.ensures.devices) same c.in-Err.ensures.faults

pub returns-clause-kept : goal.returns-clause-kept
returns-clause-kept g c =
    let old = g.S.Store.seen c.args.store.now in
    let mid = g.S.Store.seen c.lock_logs.new.store in
    let b = g.O.Object.means in
    let logs = c.args.logs.now in
    let threads = c.args.threads in
    let asked = asked_in c.args.asked in
    let heads = heads_of g.O.Object.CODE (g.O.Described.description c.args.object) threads in
    let done = g.S.Store.seen c.open_held.new.store in
    let same = logs_locked logs old mid c.in_ok-name.ensures.others in
    let last = g.S.Store.seen c.unlock_logs.new.store in
    let written = written_at heads c.in-Err.fault in
    lost_there b old mid logs same heads threads asked written last (lost_last b old mid logs same heads threads asked written done last c.unlock_logs.ensures.same c.in-Err.ensures.kept)
