use Rattle.std.proofs.Common.{map, ◌∙◌}
use Rattle.onll_run.specs.Ran.{ends_in}
use Rattle.onll_run.proofs.Leaving.{done_ended, scripts_were, done_leaves}
use Rattle.onll_run.proofs.run.resume_scripts.Goals as goal

pub finish-requires-clause-all : goal.finish-requires-clause-all
finish-requires-clause-all g c κs within = (done_ended g.O.Object.means g.P.Pmem.means _ _ _ _ _ _ _ _ c.requires.can c.in_ok-done.ensures.done).all_there

pub finish-requires-clause-tied : goal.finish-requires-clause-tied
finish-requires-clause-tied g c κs within = (done_ended g.O.Object.means g.P.Pmem.means _ _ _ _ _ _ _ _ c.requires.can c.in_ok-done.ensures.done).tied

pub returns-clause-scripts : goal.returns-clause-scripts
returns-clause-scripts g c = c.in_ok-finish.ensures.scripts ∙ scripts_were g.O.Object.means g.P.Pmem.means _ _ _ _ _ _ _ _ c.requires.can c.in_ok-done.ensures.done

pub returns-clause-run : goal.returns-clause-run
returns-clause-run g c = (done_leaves g.O.Object.means g.P.Pmem.means _ _ _ _ _ _ _ _ c.requires.can c.in_ok-done.ensures.done
    (map ends_in c.in_ok-finish.field-0.threads.items) c.in_ok-finish.field-0.trace.items c.in_ok-finish.field-0.logs.items c.in_ok-finish.ensures.ends c.in_ok-finish.ensures.logs c.in_ok-finish.ensures.closed).run c.args.start.now.nodes.now c.requires.merged

pub returns-clause-kept : goal.returns-clause-kept
returns-clause-kept g c = (done_leaves g.O.Object.means g.P.Pmem.means _ _ _ _ _ _ _ _ c.requires.can c.in_ok-done.ensures.done
    (map ends_in c.in_ok-finish.field-0.threads.items) c.in_ok-finish.field-0.trace.items c.in_ok-finish.field-0.logs.items c.in_ok-finish.ensures.ends c.in_ok-finish.ensures.logs c.in_ok-finish.ensures.closed).kept
