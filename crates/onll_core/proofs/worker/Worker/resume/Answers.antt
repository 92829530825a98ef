use Rattle.std.proofs.Common.{◌≡◌, ◌≤◌, ◌+◌, ◌*◌, arith, rules}
use Rattle.std.specs.Prelude.{max}
use Rattle.std.specs.Vec.{vec_capacity}
use Rattle.onll_pmem.specs.Pmem.{words_of}
use Rattle.onll_core.proofs.FoundWorkers.{found_worker}
use Rattle.onll_core.proofs.worker.Worker.resume.Goals as goal

pub invariant_of-result : goal.invariant_of-result
invariant_of-result g c =
    let size = c.len.ensures in
    let room = c.in_ok-returned.ensures.1 in
    let same = c.args.script.ok.0 in
    let r = c.requires.room in
    let used : c.max.result ≡ max 1 c.args.log.lines = search rules in
    let total : max 1 c.args.log.lines + c.count_updates.result * (c.args.head.threads + 1) ≤ 69633 = (rw (c.count_updates.ensures, c.deref.ensures.value) r) in
    rw c.in_ok-returned.ensures.0 (found_worker c.args.head c.args.script.items c.args.log.lines c.args.log.entries (c.count_updates.result * (c.args.head.threads + 1)) c.max.result (vec_capacity c.in_ok-returned.returned) (words_of c.args.image.now) c.in_ok-device.device c.in_ok-device.ensures c.requires.within used c.requires.entries (omega arith) (omega arith))
