use Rattle.std.proofs.Common.{sym, subst, Result, List, [], ℕ}
use Rattle.onll_merge.specs.declared.fault.StateFault.{StateFault}
use Rattle.onll_merge.specs.Recovered.{Recovered, recovered_in}
use Rattle.onll_text.specs.Kinds.{kind_by}
use Rattle.onll_task.specs.Doing.{DoesStage}
use Rattle.onll_task.specs.Recovering.{given_stage}
use Rattle.onll_task.proofs.Recovering.{onto_does, onto_stops}
use Rattle.onll_task.proofs.Stages.{by_given, by_begins, by_stops}
use Rattle.onll_task.proofs.Standing.{state_stands}
use Rattle.onll_task.proofs.recovered.recover_files.Goals as goal

pub returns-in-Ok-clause-stage : goal.returns-in-Ok-clause-stage
returns-in-Ok-clause-stage g c =
    let k = kind_by g.O.Object.means g.O.Texted.wording g.O.Object.CODE in
    let mid = g.S.Store.seen c.read_images.new.store in
    let given = by_given c.in-Ok.ensures.begins in
    let same = state_stands k.means k.code c.args.init.now c.in-Ok.kept.images.items given.value given.fits.stand in
    onto_does (by_begins c.in-Ok.ensures.begins)
    (subst (λ (found : Result Recovered StateFault). DoesStage [] mid mid (given_stage found) (λ r. recovered_in r) c.recover_kept.result) same
    (rw (sym c.deref.ensures.value) (c.recover_kept.ensures.given mid)))

pub returns-in-Err-clause-stage : goal.returns-in-Err-clause-stage
returns-in-Err-clause-stage g c = onto_stops (by_stops {value = λ (images : List (List (List ℕ))). images} c.in-Err.ensures.begins)
