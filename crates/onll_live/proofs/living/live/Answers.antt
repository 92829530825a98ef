use Rattle.std.proofs.lemmas.Result.{IfOk-weaker, IfErr-weaker}
use Rattle.std.proofs.Common.{◌≡◌, sym, ◌∙◌, subst, length}
use Rattle.onll_live.proofs.Lifetime.{life_adds_up}
use Rattle.onll_open.specs.Files.{SameStore}
use Rattle.onll_live.specs.declared.fault.LiveFault.{LiveFault}
use Rattle.onll_live.specs.Eras.{era_lock}
use Rattle.onll_live.specs.LiveCauses.{LiveCause, RefusalLocks}
use Rattle.onll_live.proofs.LiveCauses.{held_cause, live_locks, lock_cause}
use Rattle.onll_live.proofs.Locks.{cannot_live, has_lived}
use Rattle.onll_live.proofs.living.live.Goals as goal

pub returns-clause-lived : goal.returns-clause-lived
returns-clause-lived g c =
    let old = g.S.Store.seen c.args.store.now in let mid = g.S.Store.seen c.lock_object.new.store in
    let end = g.S.Store.seen c.live_locked-lived.new.store in let new = g.S.Store.seen c.unlock.new.self in
    IfOk-weaker c.live_locked-lived.result _ _
    (λ lived h. has_lived g.O.Object.means g.S.Dev.Pmem.means g.W.Work.promise g.O.Object.CODE g.O.Described.description g.O.Saved.read_of c.args.object c.args.name.now old mid end new c.lock_object.ensures.others c.unlock.ensures.same c.args.works.items lived h)
    c.live_locked-lived.ensures.lived

pub returns-clause-refused : goal.returns-clause-refused
returns-clause-refused g c =
    let old = g.S.Store.seen c.args.store.now in let mid = g.S.Store.seen c.lock_object.new.store in
    let end = g.S.Store.seen c.live_locked-lived.new.store in let new = g.S.Store.seen c.unlock.new.self in
    IfErr-weaker c.live_locked-lived.result _ _
    (λ e h. cannot_live g.O.Object.means g.S.Dev.Pmem.means g.W.Work.promise g.O.Object.CODE g.O.Described.description g.O.Saved.read_of c.args.object c.args.name.now old mid end new c.lock_object.ensures.others c.unlock.ensures.same c.args.works.items e.fault e h)
    c.live_locked-lived.ensures.refused

pub returns-clause-adds_up : goal.returns-clause-adds_up
returns-clause-adds_up g c =
    let new = g.S.Store.seen c.unlock.new.self in
    IfOk-weaker c.live_locked-lived.result _ _
    (λ lived h. life_adds_up g.O.Object.means g.S.Dev.Pmem.means g.S.Store.seen g.W.Work.promise g.O.Object.CODE g.O.Described.description g.O.Saved.read_of c.args.object c.args.name.now c.eras_law.ensures c.args.store.now new c.args.works.items lived)
    c.live_locked-lived.ensures.lived

pub returns-in-Err-clause-cause : goal.returns-in-Err-clause-cause
returns-in-Err-clause-cause g c =
    let old = g.S.Store.seen c.args.store.now in let new = g.S.Store.seen c.lock_object.new.store in
    let locked = g.S.Directory.locked c.args.store.now in let after = g.S.Directory.locked c.lock_object.new.store in
    subst (λ (f : LiveFault). LiveCause g.O.Object.means g.O.Object.CODE g.O.Described.description c.args.name.now (length c.args.works.items) g.O.Saved.read_of c.args.object old new f c.of.result.eras)
    (sym c.of.ensures.2)
    (lock_cause g.O.Object.means g.O.Object.CODE g.O.Described.description c.args.name.now (length c.args.works.items) g.O.Saved.read_of c.args.object old new locked after c.in-Err.fault c.of.result.eras c.in-Err.ensures.locks c.in-Err.ensures.faults).0

pub returns-in-Err-clause-locks : goal.returns-in-Err-clause-locks
returns-in-Err-clause-locks g c =
    let old = g.S.Store.seen c.args.store.now in let new = g.S.Store.seen c.lock_object.new.store in
    let locked = g.S.Directory.locked c.args.store.now in let after = g.S.Directory.locked c.lock_object.new.store in
    subst (λ (f : LiveFault). RefusalLocks c.args.name.now old new locked after f) (sym c.of.ensures.2)
    (lock_cause g.O.Object.means g.O.Object.CODE g.O.Described.description c.args.name.now (length c.args.works.items) g.O.Saved.read_of c.args.object old new locked after c.in-Err.fault c.of.result.eras c.in-Err.ensures.locks c.in-Err.ensures.faults).1

pub returns-clause-cause : goal.returns-clause-cause
returns-clause-cause g c =
    let old = g.S.Store.seen c.args.store.now in let mid = g.S.Store.seen c.lock_object.new.store in
    let end = g.S.Store.seen c.live_locked-lived.new.store in let new = g.S.Store.seen c.unlock.new.self in
    let given : SameStore end new = record { files = c.unlock.ensures.same; counts = (c.unlock.ensures.faults, c.unlock.ensures.devices) } in
    IfErr-weaker c.live_locked-lived.result _ _
    (λ e h. held_cause g.O.Object.means g.O.Object.CODE g.O.Described.description c.args.name.now (length c.args.works.items) g.O.Saved.read_of c.args.object old mid end new c.lock_object.ensures.others
    c.in-Ok.ensures.faults given e.fault e.eras h)
    c.live_locked-lived.ensures.cause

pub returns-clause-locks : goal.returns-clause-locks
returns-clause-locks g c =
    let old = g.S.Store.seen c.args.store.now in let mid = g.S.Store.seen c.lock_object.new.store in
    let end = g.S.Store.seen c.live_locked-lived.new.store in let new = g.S.Store.seen c.unlock.new.self in
    let lock : c.deref.result.now ≡ era_lock c.args.name.now = c.deref.ensures ∙ c.in-Ok.ensures.lock in
    live_locks g.O.Object.means g.O.Object.CODE g.O.Described.description c.args.name.now (length c.args.works.items) g.O.Saved.read_of c.args.object old mid end new
    (g.S.Directory.locked c.args.store.now) (g.S.Directory.locked c.live_locked-lived.new.store) (g.S.Directory.locked c.unlock.new.self) c.live_locked-lived.result c.deref.result.now lock
    c.in-Ok.ensures.locks c.unlock.ensures.same.tells c.unlock.ensures.locks c.live_locked-lived.ensures.cause
