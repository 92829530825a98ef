use Rattle.std.proofs.Common.{◌≤◌, ◌+◌, ◌*◌, arith}
use Rattle.std.specs.Vec.{vec_capacity}
use Rattle.onll_core.proofs.Firsts.{first_worker, lines_few}
use Rattle.onll_core.proofs.worker.Worker.new.Goals as goal

pub invariant_of-result : goal.invariant_of-result
invariant_of-result g c =
    let room = c.in_ok-returned.ensures.1 in
    let size = c.len.ensures in
    let same = c.args.script.ok.0 in
    let few : c.count_updates.result ≤ 4096 = (let e = c.count_updates.ensures in let u = c.requires.updates in rw (c.count_updates.ensures, c.deref.ensures.value) u) in
    rw c.in_ok-returned.ensures.0 (first_worker c.args.head c.args.script.items (1 + c.count_updates.result * (c.args.head.threads + 1)) (vec_capacity c.in_ok-returned.returned) c.in_ok-device.device c.in_ok-device.ensures (omega arith) (lines_few c.count_updates.result c.args.head.threads few c.requires.threads) (omega arith))
