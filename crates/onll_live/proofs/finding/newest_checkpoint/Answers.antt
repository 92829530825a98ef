use Rattle.std.proofs.Common.{sym, Option}
use Rattle.onll_checkpoint.specs.Checkpoint.{CheckpointState}
use Rattle.onll_live.specs.Eras.{area_name}
use Rattle.onll_live.proofs.Areas.{gives_since}
use Rattle.onll_live.proofs.FaultSteps.{era_fault_since}
use Rattle.onll_live.proofs.finding.newest_checkpoint.Goals as goal

pub returns-in-Ok-clause-found : goal.returns-in-Ok-clause-found
returns-in-Ok-clause-found g c =
    let old = g.S.Store.seen c.args.store.now in
    let mid = g.S.Store.seen c.checkpoint_in_area.new.store in
    record {
      even = c.in_ok-even.even;
      odd = c.in-Ok.odd;
      even_given = c.in_ok-even.ensures.found;
      odd_given = gives_since old mid (area_name c.args.name.now 1) c.in-Ok.odd c.in_ok-even.ensures.same c.in-Ok.ensures.found;
      newest_is = sym c.newest.ensures;
    }

pub returns-in-Err-clause-faults : goal.returns-in-Err-clause-faults
returns-in-Err-clause-faults g c =
    era_fault_since (Option CheckpointState) c.args.name.now (g.S.Store.seen c.args.store.now) (g.S.Store.seen c.checkpoint_in_area.new.store) (g.S.Store.seen c.checkpoint_in_area-2.new.store) c.in-Err.fault c.in_ok-even.ensures.faults c.in-Err.ensures.faults
