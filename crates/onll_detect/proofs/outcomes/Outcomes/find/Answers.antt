use Rattle.std.proofs.Common.{ap, sym, ◌∙◌, subst}
use Rattle.onll_detect.specs.Outcomes.{find_in, IsOutcome}
use Rattle.onll_detect.proofs.Tables.{found}
use Rattle.onll_detect.proofs.outcomes.Outcomes.find.Goals as goal

pub returns-clause-outcome : goal.returns-clause-outcome
returns-clause-outcome g c s nodes table is =
    let t = c.args.thread in
    let number = c.args.number in
    subst (IsOutcome g.O.Object.means s nodes t number) (ap (λ o. find_in o t number) (sym table) ∙ sym c.look_up.ensures)
    (found g.O.Object.means s nodes is t number)
