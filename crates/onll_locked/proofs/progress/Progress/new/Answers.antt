use Rattle.std.proofs.Common.{arith}
use Rattle.std.specs.Vec.{vec_capacity}
use Rattle.onll_locked.proofs.Places.{first_progress}
use Rattle.onll_locked.proofs.progress.Progress.new.Goals as goal

pub invariant_of-result : goal.invariant_of-result
invariant_of-result g c = let room = c.in_ok-ends.ensures.1 in let size = c.len.ensures in let same = c.args.script.ok.0 in
    first_progress c.args.script.items (vec_capacity c.in_ok-ends.ends) c.in_ok-ends.ends.items c.in_ok-ends.ensures.0 (omega arith)
