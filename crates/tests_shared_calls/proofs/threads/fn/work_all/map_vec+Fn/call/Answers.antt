use denote.Param.Send.{sendable}
use Rattle.tests_shared_calls.proofs.threads.fn.work_all.map_vec+Fn.call.Goals as goal

pub map_vec-requires : goal.map_vec-requires
map_vec-requires g c = let b = c.requires.1.1.1.1.1.1.1 in search (sendable, b)
