use denote.Param.Send.{sendable}
use Rattle.onll_threads.proofs.crew.fn.do_jobs.for_each_mut+FnOnce.call_once.Goals as goal

pub for_each_mut-requires : goal.for_each_mut-requires
for_each_mut-requires g c = let b = c.requires.1.1.1.1 in search (sendable, b)
