use Rattle.tests_base.specs.Orders.{IsWalking}
use Rattle.tests_base.proofs.update.walk.Given as goal

abbrev pub invariant-loop-post : goal.invariant-loop-post
invariant-loop-post l = IsWalking l.trace l.fn.spot.me.thread l.spot l.post

abbrev pub decreases-loop-post : goal.decreases-loop-post
decreases-loop-post l = l.post.place
