use Rattle.std.proofs.Common.{◌≡◌, ◌∙◌, ap, Err, refl, rules}
use Rattle.std.proofs.lemmas.List.{map-id}
use Rattle.onll_merge.specs.Recovered.{expected_heads, recovered_in, state_recovered}
use Rattle.onll_text.specs.Kinds.{kind_by}
use Rattle.onll_task.specs.Recovering.{recovery_of}
use Rattle.onll_task.proofs.RecoveredNumbers.{recovered_numbered}
use Rattle.onll_task.proofs.Recovering.{given_does, given_stops}
use Rattle.onll_task.proofs.Stages.{none_begins, none_changed}
use Rattle.onll_task.proofs.recovered.recover_kept.Goals as goal

pub returns-in_err-heads-clause-given : goal.returns-in_err-heads-clause-given
returns-in_err-heads-clause-given g c store = none_begins c.from_residual.ensures.1 (none_changed store)

pub returns-in-Ok-clause-given : goal.returns-in-Ok-clause-given
returns-in-Ok-clause-given g c store =
    let k = kind_by g.O.Object.means g.O.Texted.wording g.O.Object.CODE in
    let heads = c.deref.ensures.value ∙ (rw c.CODE.ensures at c.in_ok-heads.ensures.heads) ∙ ap (expected_heads g.O.Object.CODE c.args.init.now) (map-id c.args.images.now) in
    given_does store (recovery_of k c.args.init.now c.args.images.now) (λ r. recovered_in r) c.in-Ok.recovery (rw heads at c.in-Ok.ensures.recovered)

pub returns-in-Ok-clause-numbered : goal.returns-in-Ok-clause-numbered
returns-in-Ok-clause-numbered g c =
    recovered_numbered g.O.Object.means c.deref.result.now c.args.images.now (recovered_in c.in-Ok.recovery) c.in-Ok.ensures.recovered

pub returns-in-Err-NoMemory-clause-given : goal.returns-in-Err-NoMemory-clause-given
returns-in-Err-NoMemory-clause-given g c store = none_begins refl (none_changed store)

pub returns : goal.returns
returns g c =
    let k = kind_by g.O.Object.means g.O.Texted.wording g.O.Object.CODE in
    let heads = c.deref.ensures.value ∙ (rw c.CODE.ensures at c.in_ok-heads.ensures.heads) ∙ ap (expected_heads g.O.Object.CODE c.args.init.now) (map-id c.args.images.now) in
    let bad : state_recovered g.O.Object.means c.deref.result.now c.args.images.now ≡ Err c.in-Err.fault = search rules in
    record {
      given = λ store. given_stops store (recovery_of k c.args.init.now c.args.images.now) (λ r. recovered_in r) c.in-Err.fault c.bad_logs.result (rw heads at bad) c.bad_logs.ensures;
      numbered = tt;
      rows = tt;
      state = tt;
    }
