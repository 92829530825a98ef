use Rattle.std.proofs.Common.{sym, subst}
use Rattle.std.proofs.lemmas.Result.{IfOk-weaker}
use Rattle.onll_keeps.proofs.Lifetimes.{ends_lives, told_in_lives}
use Rattle.onll_keeps.proofs.recovered.recover_kept.Goals as goal

pub returns-clause-kept : goal.returns-clause-kept
returns-clause-kept g c = IfOk-weaker c.recover.result _ _ (λ r state so. subst g.O.Keeps.holds (sym state)
    (c.keep_law.ensures.fact c.args.object r.recovery.nodes.items so)) c.recover.ensures.state

pub returns-clause-told : goal.returns-clause-told
returns-clause-told g c = IfOk-weaker c.recover.result _ _ (λ r state so.
    told_in_lives g.O.Object.means c.args.object c.keep_law.ensures.told so r.recovery.nodes.items) c.recover.ensures.state

pub returns-clause-even : goal.returns-clause-even
returns-clause-even g c = IfOk-weaker c.recover.result _ _ (λ r state. ends_lives g.O.Object.means c.args.object
    (c.life_balance_law.ensures c.args.object) (c.life_floor_law.ensures c.args.object) r.recovery.nodes.items r.object state)
    c.recover.ensures.state
