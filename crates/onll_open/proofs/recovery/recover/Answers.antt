use Rattle.std.proofs.Common.{Ok, ◌∙◌}
use Rattle.std.proofs.lemmas.Result.{IfOk-weaker, IfErr-weaker, err_from_is_err_and}
use Rattle.onll_merge.specs.Recovered.{recovered_in}
use Rattle.onll_open.specs.Heads.{heads_of}
use Rattle.onll_open.specs.Opening.{FilesGive, FilesRefuse}
use Rattle.onll_open.proofs.GivenLogs.{give_same}
use Rattle.onll_open.proofs.Handing.{devices_more}
use Rattle.onll_open.proofs.Locked.{but_then, freed, gives_back, lock_refuses, logs_back, logs_locked, not_locked, recover_faults}
use Rattle.onll_open.proofs.Onwards.{refuse_there}
use Rattle.onll_open.proofs.recovery.recover.Goals as goal

pub returns-in_err-name-clause-refused : goal.returns-in_err-name-clause-refused
returns-in_err-name-clause-refused g c =
    let old = g.S.Store.seen c.args.store.now in
    let p = err_from_is_err_and c.from_residual.result c.from_residual.ensures.1 in
    rw (p.1, p.2) (lock_refuses (Unit {0}) g.O.Object.means old c.args.logs.now (heads_of g.O.Object.CODE (g.O.Described.description c.args.object) c.args.threads) (g.S.Directory.locked c.args.store.now)
    (g.S.Directory.locked c.lock_logs.new.store) c.in_err-name.field-0.0 c.in_err-name.ensures.locks)

pub returns-in_err-name-clause-faults : goal.returns-in_err-name-clause-faults
returns-in_err-name-clause-faults g c =
    let old = g.S.Store.seen c.args.store.now in
    let new = g.S.Store.seen c.lock_logs.new.store in
    let p = err_from_is_err_and c.from_residual.result c.from_residual.ensures.1 in
    rw (p.1, p.2) (not_locked (Unit {0}) (Unit {0}) c.args.logs.now c.args.threads old old new (g.S.Directory.locked c.args.store.now) (g.S.Directory.locked c.lock_logs.new.store) c.in_err-name.field-0.0
    c.in_err-name.ensures.locks c.in_err-name.ensures.faults).0

pub returns-in_err-name-clause-locks : goal.returns-in_err-name-clause-locks
returns-in_err-name-clause-locks g c =
    let old = g.S.Store.seen c.args.store.now in
    let new = g.S.Store.seen c.lock_logs.new.store in
    let p = err_from_is_err_and c.from_residual.result c.from_residual.ensures.1 in
    rw (p.1, p.2) (not_locked (Unit {0}) (Unit {0}) c.args.logs.now c.args.threads old old new (g.S.Directory.locked c.args.store.now) (g.S.Directory.locked c.lock_logs.new.store) c.in_err-name.field-0.0
    c.in_err-name.ensures.locks c.in_err-name.ensures.faults).1

pub returns-clause-found : goal.returns-clause-found
returns-clause-found g c =
    let old = g.S.Store.seen c.args.store.now in
    let mid = g.S.Store.seen c.lock_logs.new.store in
    let b = g.O.Object.means in
    let logs = c.args.logs.now in
    let heads = heads_of g.O.Object.CODE (g.O.Described.description c.args.object) c.args.threads in
    let same = logs_locked logs old mid c.in_ok-name.ensures.others in
    IfOk-weaker c.recover_held-recovered.result (λ r. FilesGive b mid logs heads (Ok (recovered_in r.recovery))) (λ r. FilesGive b old logs heads (Ok (recovered_in r.recovery)))
    (λ r h. give_same b mid old logs heads (Ok (recovered_in r.recovery)) (logs_back logs old mid same) h) c.recover_held-recovered.ensures.found

pub returns-clause-refused : goal.returns-clause-refused
returns-clause-refused g c =
    let old = g.S.Store.seen c.args.store.now in
    let mid = g.S.Store.seen c.lock_logs.new.store in
    let b = g.O.Object.means in
    let logs = c.args.logs.now in
    let heads = heads_of g.O.Object.CODE (g.O.Described.description c.args.object) c.args.threads in
    let same = logs_locked logs old mid c.in_ok-name.ensures.others in
    IfErr-weaker c.recover_held-recovered.result (FilesRefuse b mid logs heads) (FilesRefuse b old logs heads) (λ e h. refuse_there b old mid logs same heads e h) c.recover_held-recovered.ensures.refused

pub returns-clause-faults : goal.returns-clause-faults
returns-clause-faults g c =
    recover_faults _ c.args.logs.now c.args.threads (g.S.Store.seen c.args.store.now) (g.S.Store.seen c.lock_logs.new.store) (g.S.Store.seen c.recover_held-recovered.new.store) (g.S.Store.seen c.unlock_logs.new.store)
    c.recover_held-recovered.result c.in_ok-name.ensures.faults c.unlock_logs.ensures.faults c.recover_held-recovered.ensures.faults

pub returns-clause-locks : goal.returns-clause-locks
returns-clause-locks g c =
    let old = g.S.Store.seen c.args.store.now in
    let mid = g.S.Store.seen c.lock_logs.new.store in
    let done = g.S.Store.seen c.recover_held-recovered.new.store in
    let logs = c.args.logs.now in
    let free = freed old done logs c.deref.result.now (g.S.Directory.locked c.unlock_logs.new.store) (c.recover_held-recovered.ensures.same.tells ∙ c.in_ok-name.ensures.others.tells)
    (c.deref.ensures ∙ c.in_ok-name.ensures.name) c.unlock_logs.ensures.free in
    gives_back _ old logs c.args.threads (g.S.Directory.locked c.args.store.now) (g.S.Directory.locked c.unlock_logs.new.store) mid done c.recover_held-recovered.result c.in_ok-name.ensures.locks free
    c.recover_held-recovered.ensures.faults

pub returns-clause-others : goal.returns-clause-others
returns-clause-others g c =
    let old = g.S.Store.seen c.args.store.now in
    let mid = g.S.Store.seen c.lock_logs.new.store in
    let done = g.S.Store.seen c.recover_held-recovered.new.store in
    but_then _ old done (g.S.Store.seen c.unlock_logs.new.store) (but_then _ old mid done c.in_ok-name.ensures.others c.recover_held-recovered.ensures.same) c.unlock_logs.ensures.same

pub returns-clause-devices : goal.returns-clause-devices
returns-clause-devices g c =
    let old = g.S.Store.seen c.args.store.now in
    let mid = g.S.Store.seen c.lock_logs.new.store in
    let done = g.S.Store.seen c.recover_held-recovered.new.store in
    devices_more old done (g.S.Store.seen c.unlock_logs.new.store) (devices_more old mid done c.in_ok-name.ensures.devices c.recover_held-recovered.ensures.devices) c.unlock_logs.ensures.devices
