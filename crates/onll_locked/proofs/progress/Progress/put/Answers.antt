use Rattle.onll_locked.proofs.Places.{put_made}
use Rattle.onll_locked.proofs.progress.Progress.put.Goals as goal

pub invariant_of-self : goal.invariant_of-self
invariant_of-self g c = put_made _ _ _ _ c.args.self.now c.self.invariant c.self.view_is _ c.push_reserved.ensures.capacity _ _ c.push_reserved.ensures.items c.requires.free
