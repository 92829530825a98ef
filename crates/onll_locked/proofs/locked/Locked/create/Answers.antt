use Rattle.std.proofs.Common.{◌∙◌}
use Rattle.onll_locked.proofs.Firsts.{created_keeps}
use Rattle.onll_locked.proofs.locked.Locked.create.Goals as goal

pub invariant_of-result : goal.invariant_of-result
invariant_of-result g c = created_keeps g.O.Object.means c.in_ok-initial.initial c.args.object (λ script. script.items) c.args.scripts.items c.len-nodes.result _ _ c.in_ok-trace.trace.items c.in_ok-flags.flags.items c.in_ok-threads.threads.items
    c.requires.few c.requires.updates c.in_ok-initial.ensures (c.len-nodes.ensures ∙ c.args.scripts.ok.0) c.in_ok-trace.ensures c.in_ok-flags.ensures c.in_ok-threads.ensures
