use Rattle.std.proofs.lemmas.List.{map-id}
use Rattle.onll_task.proofs.recovered.recover_tested.Goals as goal

pub returns-clause-recovered : goal.returns-clause-recovered
returns-clause-recovered g c = rw (map-id c.args.images.now) at c.recover_state.ensures.recovered
